-- Answers that are found by replays, one after another.
use Rattle.std.proofs.Common.{◌≡◌, ℕ, ◌+◌, ◌≤◌, List, [], ◌∷◌, ◌++◌, Option, Some, None, Result, Ok, Err, refl, ap, sym, subst, ◌∙◌, arith}
use Rattle.std.proofs.lemmas.List.Sums.{sum_by-append}
use Rattle.ppd_model.specs.declared.entry.At.{At}
use Rattle.ppd_model.specs.declared.flow_error.FlowError.{FlowError}
use Rattle.ppd_model.specs.declared.flow_error.FlowError.TheVariants.{Diverged, NoEvent, Sets, Memory}
use Rattle.ppd_flow_past.specs.declared.past.Past.{Past}
use Rattle.ppd_flow_past.specs.ByReplays.{AreReplayed, IsFoundBy, IsReplayFailure, IsReplayed, cost, failure_or, first_failed_in, steps_to_replay, unless_kept}
use Rattle.ppd_flow_past.specs.Pasts.{AreKept, items_kept}
use Rattle.ppd_flow_past.specs.PastSetting.{past_setting}
use Rattle.ppd_flow_past.specs.SeenBy.{failed_in, items_in, steps_in}
use Rattle.ppd_model.specs.declared.flow.Item.{Item}

module _ (past : Past) where
  -- nothing is replayed
  pub found_none : {A : Type 0} (x : A) (n : ℕ) → IsFoundBy past [] (Ok x) n n (Ok x)
  found_none x n = (refl, refl, omega arith)

  none_then : (ms ns : List (ℕ × ℕ)) → first_failed_in past ms ≡ None
      → first_failed_in past (ms ++ ns) ≡ first_failed_in past ns
  none_then [] ns e = refl
  none_then (m ∷ ms) ns e = by (failed_in past m.0 m.1) e (none_then ms ns)
    where
      by : (o : Option ℕ) → failure_or m.0 o (first_failed_in past ms) ≡ None
          → (first_failed_in past ms ≡ None → first_failed_in past (ms ++ ns) ≡ first_failed_in past ns)
          → failure_or m.0 o (first_failed_in past (ms ++ ns)) ≡ first_failed_in past ns
      by None f rest = rest f
      by (Some n) f rest = absurd (cc f)

  some_then : (ms ns : List (ℕ × ℕ)) (a : At) → first_failed_in past ms ≡ Some a → first_failed_in past (ms ++ ns) ≡ Some a
  some_then [] ns a e = absurd (cc e)
  some_then (m ∷ ms) ns a e = by (failed_in past m.0 m.1) e (some_then ms ns a)
    where
      by : (o : Option ℕ) → failure_or m.0 o (first_failed_in past ms) ≡ Some a
          → (first_failed_in past ms ≡ Some a → first_failed_in past (ms ++ ns) ≡ Some a)
          → failure_or m.0 o (first_failed_in past (ms ++ ns)) ≡ Some a
      by None f rest = rest f
      by (Some n) f rest = f

  pub costs : (ms ns : List (ℕ × ℕ)) → cost past (ms ++ ns) ≡ cost past ms + cost past ns
  costs ms ns = sum_by-append (λ m. steps_to_replay past m.0 m.1) ms ns

  -- the first replays gave their answer, and then these gave theirs
  pub found_then : {A B : Type 0} (ms ns : List (ℕ × ℕ)) (a : Result A FlowError) (b : Result B FlowError) (x : A)
      (n m o : ℕ) (r : Result B FlowError)
      → IsFoundBy past ms a n m (Ok x) → IsFoundBy past ns b m o r → IsFoundBy past (ms ++ ns) b n o r
  found_then ms ns a b x n m o (Ok y) f g =
      let c : cost past (ms ++ ns) ≡ cost past ms + cost past ns = costs ms ns in
      let first : m ≡ n + cost past ms = f.2 in
      let second : o ≡ m + cost past ns = g.2 in
      (none_then ms ns f.0 ∙ g.0, g.1, omega arith)
  found_then ms ns a b x n m o (Err NoEvent) f g = (none_then ms ns f.0 ∙ g.0, g.1)
  found_then ms ns a b x n m o (Err (Sets p e c)) f g = (none_then ms ns f.0 ∙ g.0, g.1)
  found_then ms ns a b x n m o (Err (Diverged p e)) f g = none_then ms ns f.0 ∙ g
  found_then ms ns a b x n m o (Err Memory) f g = tt

  -- a replay failed, or memory wanted, and the others were not begun
  pub found_err : {A B : Type 0} (ms ns : List (ℕ × ℕ)) (v : A) (b : Result B FlowError) (n m : ℕ) (e : FlowError)
      → IsFoundBy {A = A} past ms (Ok v) n m (Err e) → IsFoundBy {A = B} past (ms ++ ns) b n m (Err e)
  found_err ms ns v b n m NoEvent f = absurd (cc f.1)
  found_err ms ns v b n m (Sets p k c) f = absurd (cc f.1)
  found_err ms ns v b n m (Diverged p k) f = some_then ms ns _ f
  found_err ms ns v b n m Memory f = tt

  -- the same, whatever would have been answered
  pub err_any : {A B : Type 0} (ms : List (ℕ × ℕ)) (v : A) (b : Result B FlowError) (n m : ℕ) (e : FlowError)
      → IsFoundBy {A = A} past ms (Ok v) n m (Err e) → IsFoundBy {A = B} past ms b n m (Err e)
  err_any ms v b n m NoEvent f = absurd (cc f.1)
  err_any ms v b n m (Sets p k c) f = absurd (cc f.1)
  err_any ms v b n m (Diverged p k) f = f
  err_any ms v b n m Memory f = tt

  given_then : (p k : ℕ) (ns : List (ℕ × ℕ)) → failed_in past p k ≡ None → first_failed_in past ((p, k) ∷ ns) ≡ first_failed_in past ns
  given_then p k ns fine = ap (λ f. failure_or p f (first_failed_in past ns)) fine

  -- the first replay was done before, and its steps are not counted
  pub found_given : {B : Type 0} (p k : ℕ) (ns : List (ℕ × ℕ)) (b : Result B FlowError) (n o : ℕ) (r : Result B FlowError)
      → failed_in past p k ≡ None → IsFoundBy past ns b n o r → IsFoundBy past ((p, k) ∷ ns) b n (o + steps_to_replay past p k) r
  found_given p k ns b n o (Ok y) fine g =
      let c : cost past ((p, k) ∷ ns) ≡ cost past ((p, k) ∷ []) + cost past ns = costs ((p, k) ∷ []) ns in
      let rest : o ≡ n + cost past ns = g.2 in
      (given_then p k ns fine ∙ g.0, g.1, omega arith)
  found_given p k ns b n o (Err NoEvent) fine g = (given_then p k ns fine ∙ g.0, g.1)
  found_given p k ns b n o (Err (Sets q e c)) fine g = (given_then p k ns fine ∙ g.0, g.1)
  found_given p k ns b n o (Err (Diverged q e)) fine g = given_then p k ns fine ∙ g
  found_given p k ns b n o (Err Memory) fine g = tt

  -- ---- one interval

  -- the items are those of its replay, which rose the counter by so much
  alone : (p k : ℕ) (items : List Item) (n m : ℕ) → AreReplayed past p k items → m ≡ n + steps_to_replay past p k
      → IsFoundBy past ((p, k) ∷ []) (Ok (items_in past p k)) n m (Ok items)
  alone p k items n m given rose =
      let c : cost past ((p, k) ∷ []) ≡ steps_to_replay past p k = omega arith in
      (ap (λ o. failure_or p o None) given.0, ap (λ (xs : List Item). Ok xs) (sym given.1), omega arith)

  module _ (p k : ℕ) (n m : ℕ) where
    -- they are kept
    pub found_kept : (items : List Item) → items_kept past.kept.now p k ≡ Some items
        → AreKept (past_setting past) past.cut.now past.kept.now → m ≡ n
        → IsFoundBy past ((p, k) ∷ []) (Ok (items_in past p k)) n m (Ok items)
    found_kept items is kept same =
        let free : steps_to_replay past p k ≡ 0 = ap (λ o. unless_kept o (steps_in past p k)) is in
        alone p k items n m (kept p k items is) (omega arith)

    -- they are not, and it was replayed
    pub found_replayed : (items : List Item) → items_kept past.kept.now p k ≡ None → AreReplayed past p k items
        → m ≡ n + steps_in past p k → IsFoundBy past ((p, k) ∷ []) (Ok (items_in past p k)) n m (Ok items)
    found_replayed items none given rose =
        let whole : steps_to_replay past p k ≡ steps_in past p k = ap (λ o. unless_kept o (steps_in past p k)) none in
        alone p k items n m given (omega arith)

    pub found_failed : {A : Type 0} (answer : Result A FlowError) (e : FlowError) → IsReplayed past p k (Err e)
        → IsFoundBy {A = A} past ((p, k) ∷ []) answer n m (Err e)
    found_failed answer (Diverged q j) f =
        ap (λ o. failure_or p o None) f.1 ∙ ap (λ i. Some (record { process = i; entry = j })) (sym f.0)
    found_failed answer NoEvent f = absurd f
    found_failed answer (Sets q j c) f = absurd f
    found_failed answer Memory f = tt

  -- whatever the counter was
  pub found_alone : (p k : ℕ) (r : Result (List Item) FlowError) → IsReplayed past p k r
      → IsFoundBy past ((p, k) ∷ []) (Ok (items_in past p k)) 0 (steps_to_replay past p k) r
  found_alone p k (Ok items) f = alone p k items 0 (steps_to_replay past p k) f (omega arith)
  found_alone p k (Err e) f = found_failed p k 0 (steps_to_replay past p k) (Ok (items_in past p k)) e f

  -- ---- failures

  -- the first that fails is one that fails
  pub fails_there : (ms : List (ℕ × ℕ)) (failure : At) → first_failed_in past ms ≡ Some failure
      → (m : ℕ) × (failed_in past failure.process m ≡ Some failure.entry)
  fails_there [] failure e = absurd (cc)
  fails_there (m ∷ ms) failure e = by (failed_in past m.0 m.1) refl e (fails_there ms failure)
    where
      same_some : (x y : At) → ◌≡◌ {A = Option At} (Some x) (Some y) → x ≡ y
      same_some x y f = cc

      by : (o : Option ℕ) → failed_in past m.0 m.1 ≡ o → failure_or m.0 o (first_failed_in past ms) ≡ Some failure
          → (first_failed_in past ms ≡ Some failure → (k : ℕ) × (failed_in past failure.process k ≡ Some failure.entry))
          → (k : ℕ) × (failed_in past failure.process k ≡ Some failure.entry)
      by None f g go = go g
      by (Some n) f g go =
          let same : record { process = m.0; entry = n } ≡ failure = same_some _ _ g in
          (m.1, subst (λ (a : At). failed_in past a.process m.1 ≡ Some a.entry) same f)

  -- what is found by replays alone is missed by one that fails, or for want of memory
  pub is_failure : {A : Type 0} (ms : List (ℕ × ℕ)) (x : A) (n m : ℕ) (e : FlowError)
      → IsFoundBy {A = A} past ms (Ok x) n m (Err e) → IsReplayFailure past e
  is_failure ms x n m (Diverged p j) f = fails_there ms (record { process = p; entry = j }) f
  is_failure ms x n m NoEvent f = absurd (cc f.1)
  is_failure ms x n m (Sets p j c) f = absurd (cc f.1)
  is_failure ms x n m Memory f = tt

  pub replay_fails : (p k : ℕ) (e : FlowError) → IsReplayed past p k (Err e) → IsReplayFailure past e
  replay_fails p k (Diverged q j) f = (k, subst (λ i. failed_in past i k ≡ Some j) (sym f.0) f.1)
  replay_fails p k NoEvent f = absurd f
  replay_fails p k (Sets q j c) f = absurd f
  replay_fails p k Memory f = tt

  -- ---- what it costs

  -- at most the own steps
  pub at_most_own : (p k : ℕ) → steps_to_replay past p k ≤ steps_in past p k
  at_most_own p k = by (items_kept past.kept.now p k)
    where
      by : (o : Option (List Item)) → unless_kept o (steps_in past p k) ≤ steps_in past p k
      by None = omega arith
      by (Some items) = omega arith
