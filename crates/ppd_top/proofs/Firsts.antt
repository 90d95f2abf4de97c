-- The first interval of a recording whose replay fails, by what is told of the intervals.
use Rattle.ppd_codec_runs.specs.Recordings.{recorded_setting}
use Rattle.ppd_codec.specs.declared.recording.Recording.{Recording}
use Rattle.ppd_model.specs.IntervalLogs.{indexed}
use Rattle.ppd_model.specs.declared.entry.At.{At}
use Rattle.ppd_model.specs.declared.entry.Entry.{Entry}
use Rattle.ppd_graph.specs.Seen.{Seen}
use Rattle.ppd_flow_past.specs.ByReplays.{failure_or, first_failed}
use Rattle.ppd_flow_past.specs.SeenBy.{failed_at, seen_by}
use Rattle.ppd_model.specs.declared.graph.Race.{Race}
use Rattle.ppd_session.proofs.Knowing.{failing, failing_is_told, there}
use Rattle.ppd_session.specs.Known.{Known, known_with}
use Rattle.ppd_session.specs.Texts.{told_at}
use Rattle.ppd_session.specs.declared.reply.SessionError.TheVariants.{Diverged}
use Rattle.ppd_top.specs.Determined.{IsFailedBy}
use Rattle.ppd_top.specs.Queries.{first_failure}
use Rattle.ppd_top_requests.specs.Questions.Query.{Whole}
use Rattle.ppd_whole.specs.Intervals.{intervals_from}
use Rattle.std.proofs.Common.{Bool, List, Option, [], ap, arith, false, get_or, inl, inr, length, map, refl, subst, suc, sym, true, zero, ℕ, ◌++◌, ◌+◌, ◌<◌, ◌∙◌, ◌∷◌, ◌≡◌, ◌≤◌}
use Rattle.std.proofs.lemmas.Bool.{ltb-false, ltb-true}
use Rattle.std.proofs.lemmas.List.{length-map}
use Rattle.std.specs.List.{range_with_len}
use Rattle.std.specs.Prelude.{Err, None, Some, nat_lt, ◌⊎◌}

-- no interval is told to fail
abbrev pub NoneFails : Known → Type 0
NoneFails x = (q k n : ℕ) → told_at x q k ≡ Some (Err n) → ⊥

some_none : {X Y : Type 0} {o : Option X} {x : X} → o ≡ None → o ≡ Some x → Y
some_none a b = absurd (cc (a, b))

-- one number is less than another, or not
either : (m n : ℕ) → (m < n) ⊎ (n ≤ m)
either m n = by (nat_lt m n) refl
  where
    by : (b : Bool) → nat_lt m n ≡ b → (m < n) ⊎ (n ≤ m)
    by true e = inl (ltb-true m n e)
    by false e = inr (ltb-false m n e)

module _ (r : Recording) where
  abbrev known : Known
  known = known_with (recorded_setting r) r.logs []

  -- where the replay of interval k of process q fails
  abbrev F : ℕ → ℕ → Option ℕ
  F q k = failed_at (recorded_setting r) (get_or r.logs.lists q []) k

  abbrev first_of : List (ℕ × ℕ) → Option At
  first_of ms = first_failed (recorded_setting r) r.logs ms

  abbrev row : (p a n : ℕ) → List (ℕ × ℕ)
  row p a n = map (λ k. (p, k)) (range_with_len a n)

  -- none of so many intervals of process p fails, from number a on
  abbrev Clear : (p a n : ℕ) → Type 0
  Clear p a n = (k : ℕ) → a ≤ k → k < a + n → F p k ≡ None

  -- interval k of process p fails so, and none from number a on before it
  abbrev Fails : (p a k : ℕ) → At → Type 0
  Fails p a k at = (at.process ≡ p) × (F p k ≡ Some at.entry) × ((i : ℕ) → a ≤ i → i < k → F p i ≡ None)

  clear_on : (p a n : ℕ) → F p a ≡ None → Clear p (a + 1) n → Clear p a (suc n)
  clear_on p a n here rest k le lt = by (either a k)
    where
      by : (a < k) ⊎ (k ≤ a) → F p k ≡ None
      by (inl after) = rest k (omega (arith, after)) (omega (arith, lt))
      by (inr before) = let is : k ≡ a = omega (arith, le, before) in ap (F p) is ∙ here

  -- ---- of one process, and then of others

  row_clear : (p a n : ℕ) (rest : List (ℕ × ℕ)) → first_of (row p a n ++ rest) ≡ None → Clear p a n × (first_of rest ≡ None)
  row_clear p a zero rest e = (λ k le lt. absurd (omega (arith, le, lt)), e)
  row_clear p a (suc n) rest e = by (F p a) refl e (row_clear p (a + 1) n rest)
    where
      by : (o : Option ℕ) → F p a ≡ o → failure_or p o (first_of (row p (a + 1) n ++ rest)) ≡ None
          → (first_of (row p (a + 1) n ++ rest) ≡ None → Clear p (a + 1) n × (first_of rest ≡ None)) → Clear p a (suc n) × (first_of rest ≡ None)
      by (Some m) f g on = absurd (cc g)
      by None f g on = let h = on g in (clear_on p a n f h.0, h.1)

  row_first : (p a n : ℕ) (rest : List (ℕ × ℕ)) (at : At) → first_of (row p a n ++ rest) ≡ Some at
      → ((k : ℕ) × Fails p a k at) ⊎ (Clear p a n × (first_of rest ≡ Some at))
  row_first p a zero rest at e = inr (λ k le lt. absurd (omega (arith, le, lt)), e)
  row_first p a (suc n) rest at e = by (F p a) refl e (row_first p (a + 1) n rest at)
    where
      later : (k : ℕ) → F p a ≡ None → ((i : ℕ) → a + 1 ≤ i → i < k → F p i ≡ None) → (i : ℕ) → a ≤ i → i < k → F p i ≡ None
      later k f before i le lt = on (either a i)
        where
          on : (a < i) ⊎ (i ≤ a) → F p i ≡ None
          on (inl after) = before i (omega (arith, after)) lt
          on (inr least) = let is : i ≡ a = omega (arith, le, least) in ap (F p) is ∙ f

      next : F p a ≡ None → ((k : ℕ) × Fails p (a + 1) k at) ⊎ (Clear p (a + 1) n × (first_of rest ≡ Some at))
          → ((k : ℕ) × Fails p a k at) ⊎ (Clear p a (suc n) × (first_of rest ≡ Some at))
      next f (inl h) = inl (h.0, (h.1.0, h.1.1, later h.0 f h.1.2))
      next f (inr h) = inr (clear_on p a n f h.0, h.1)

      by : (o : Option ℕ) → F p a ≡ o → failure_or p o (first_of (row p (a + 1) n ++ rest)) ≡ Some at
          → (first_of (row p (a + 1) n ++ rest) ≡ Some at → ((k : ℕ) × Fails p (a + 1) k at) ⊎ (Clear p (a + 1) n × (first_of rest ≡ Some at)))
          → ((k : ℕ) × Fails p a k at) ⊎ (Clear p a (suc n) × (first_of rest ≡ Some at))
      by (Some m) f g on =
          let is : record { process = p; entry = m } ≡ at = cc g in
          inl (a, (ap (λ (t : At). t.process) (sym is), f ∙ ap (λ (t : At). Some t.entry) is, λ i le lt. absurd (omega (arith, le, lt))))
      by None f g on = next f (on g)

  -- ---- of all processes

  abbrev seen_of : List Entry → Seen
  seen_of entries = seen_by (recorded_setting r) entries

  -- these are the entries of the processes from number p on
  abbrev AreFrom : (p : ℕ) → List (List Entry) → Type 0
  AreFrom p lists = (i : ℕ) → get_or lists i [] ≡ get_or r.logs.lists (p + i) []

  -- an interval that fails is among those of its process
  in_row : (p k n : ℕ) (entries : List Entry) → entries ≡ get_or r.logs.lists p [] → F p k ≡ Some n → k < length (seen_of entries).items
  in_row p k n entries e f =
      let lt : k < length (indexed entries) = subst (λ es. k < length (indexed es)) (sym e) (there (recorded_setting r) r.logs p k n f) in
      let count : length (seen_of entries).items ≡ length (indexed entries) = length-map (indexed entries) _ in
      omega (arith, lt, count)

  own : (p : ℕ) (entries : List Entry) (lists : List (List Entry)) → AreFrom p (entries ∷ lists) → entries ≡ get_or r.logs.lists p []
  own p entries lists h = let z : p + 0 ≡ p = omega arith in h 0 ∙ ap (λ q. get_or r.logs.lists q []) z

  others : (p : ℕ) (entries : List Entry) (lists : List (List Entry)) → AreFrom p (entries ∷ lists) → AreFrom (p + 1) lists
  others p entries lists h i = let z : p + suc i ≡ p + 1 + i = omega arith in h (suc i) ∙ ap (λ q. get_or r.logs.lists q []) z

  no_entries : (i : ℕ) → ◌≡◌ {A = List Entry} (get_or [] i []) []
  no_entries zero = refl
  no_entries (suc i) = refl

  -- a process that is not there has no interval
  none_there : (p i k n : ℕ) → AreFrom p [] → F (p + i) k ≡ Some n → ⊥
  none_there p i k n h f =
      let lt : k < length (indexed []) = subst (λ es. k < length (indexed es)) (sym (h i) ∙ no_entries i) (there (recorded_setting r) r.logs (p + i) k n f) in
      omega (arith, lt)

  all_clear : (p : ℕ) (lists : List (List Entry)) → AreFrom p lists → first_of (intervals_from p (map seen_of lists)) ≡ None → (i k n : ℕ) → F (p + i) k ≡ Some n → ⊥
  all_clear p [] h e i k n f = none_there p i k n h f
  all_clear p (es ∷ lists) h e i k n f =
      let rows = row_clear p 0 (length (seen_of es).items) (intervals_from (p + 1) (map seen_of lists)) e in
      by rows.0 (all_clear (p + 1) lists (others p es lists h) rows.1) i f
    where
      by : Clear p 0 (length (seen_of es).items) → ((j m o : ℕ) → F (p + 1 + j) m ≡ Some o → ⊥) → (i : ℕ) → F (p + i) k ≡ Some n → ⊥
      by clear rest zero g =
          let z : p + 0 ≡ p = omega arith in
          let here : F p k ≡ Some n = ap (λ q. F q k) (sym z) ∙ g in
          let lt = in_row p k n es (own p es lists h) here in
          some_none (clear k (omega arith) (omega (arith, lt))) here
      by clear rest (suc j) g =
          let z : p + suc j ≡ p + 1 + j = omega arith in
          rest j k n (ap (λ q. F q k) (sym z) ∙ g)

  -- the first that fails, of the processes from number p on
  record IsFirst (p : ℕ) (at : At) : Type 0 where
    interval : ℕ
    fails : F at.process interval ≡ Some at.entry
    first : (i k n : ℕ) → F (p + i) k ≡ Some n → (at.process < p + i) ⊎ ((at.process ≡ p + i) × (interval ≤ k))

  all_first : (p : ℕ) (lists : List (List Entry)) → AreFrom p lists → (at : At) → first_of (intervals_from p (map seen_of lists)) ≡ Some at → (p ≤ at.process) × IsFirst p at
  all_first p [] h at e = some_none refl e
  all_first p (es ∷ lists) h at e =
      by (row_first p 0 (length (seen_of es).items) (intervals_from (p + 1) (map seen_of lists)) at e)
      (all_first (p + 1) lists (others p es lists h) at)
    where
      of_row : (k : ℕ) → Fails p 0 k at → (p ≤ at.process) × IsFirst p at
      of_row k (own_process, fails, before) = (
        omega (arith, own_process),
        record {
          interval = k;
          fails = ap (λ q. F q k) own_process ∙ fails;
          first = first;
        },
      )
        where
          apart : (m n : ℕ) → F p m ≡ Some n → (m < k) ⊎ (k ≤ m) → k ≤ m
          apart m n f (inl lt) = some_none (before m (omega arith) lt) f
          apart m n f (inr le) = le

          first : (i m n : ℕ) → F (p + i) m ≡ Some n → (at.process < p + i) ⊎ ((at.process ≡ p + i) × (k ≤ m))
          first zero m n f =
              let z : p + 0 ≡ p = omega arith in
              inr (omega (arith, own_process), apart m n (ap (λ q. F q m) (sym z) ∙ f) (either m k))
          first (suc i) m n f = inl (omega (arith, own_process))

      of_rest : Clear p 0 (length (seen_of es).items) → (p + 1 ≤ at.process) × IsFirst (p + 1) at → (p ≤ at.process) × IsFirst p at
      of_rest clear (le, found) = (
        omega (arith, le),
        record {
          interval = found.interval;
          fails = found.fails;
          first = first;
        },
      )
        where
          first : (i m n : ℕ) → F (p + i) m ≡ Some n → (at.process < p + i) ⊎ ((at.process ≡ p + i) × (found.interval ≤ m))
          first zero m n f =
              let z : p + 0 ≡ p = omega arith in
              let here : F p m ≡ Some n = ap (λ q. F q m) (sym z) ∙ f in
              let lt = in_row p m n es (own p es lists h) here in
              some_none (clear m (omega arith) (omega (arith, lt))) here
          first (suc i) m n f =
              let z : p + suc i ≡ p + 1 + i = omega arith in
              subst (λ q. (at.process < q) ⊎ ((at.process ≡ q) × (found.interval ≤ m))) (sym z)
              (found.first i m n (ap (λ q. F q m) (sym z) ∙ f))

      by : ((k : ℕ) × Fails p 0 k at) ⊎ (Clear p 0 (length (seen_of es).items) × (first_of (intervals_from (p + 1) (map seen_of lists)) ≡ Some at))
          → (first_of (intervals_from (p + 1) (map seen_of lists)) ≡ Some at → (p + 1 ≤ at.process) × IsFirst (p + 1) at)
          → (p ≤ at.process) × IsFirst p at
      by (inl h) on = of_row h.0 h.1
      by (inr h) on = of_rest h.0 (on h.1)

  -- ---- as it is told

  from_start : AreFrom 0 r.logs.lists
  from_start i = let z : i ≡ 0 + i = omega arith in ap (λ q. get_or r.logs.lists q []) z

  none_fails : first_failure r ≡ None → NoneFails known
  none_fails e q k n f =
      let z : 0 + q ≡ q = omega arith in
      all_clear 0 r.logs.lists from_start e q k n (ap (λ i. F i k) z ∙ failing (recorded_setting r) r.logs q k n f)

  first_is : (workers : ℕ) (at : At) → first_failure r ≡ Some at → IsFailedBy r known (Whole workers) (Diverged at)
  first_is workers at e = (
    found.interval,
    failing_is_told (recorded_setting r) r.logs at.process found.interval at.entry found.fails,
    λ q k n f.
        let z : 0 + q ≡ q = omega arith in
        subst (λ i. (at.process < i) ⊎ ((at.process ≡ i) × (found.interval ≤ k))) z
        (found.first q k n (ap (λ i. F i k) z ∙ failing (recorded_setting r) r.logs q k n f)),
  )
    where
      found : IsFirst 0 at
      found = (all_first 0 r.logs.lists from_start at e).1

-- where there is no race
module _ (r : Recording) (races : List Race) (none : races ≡ []) where
  pub all_tell : first_failure r ≡ None → NoneFails (known_with (recorded_setting r) r.logs races)
  all_tell e = subst (λ rs. NoneFails (known_with (recorded_setting r) r.logs rs)) (sym none) (none_fails r e)

  pub first_told : (workers : ℕ) (at : At) → first_failure r ≡ Some at → IsFailedBy r (known_with (recorded_setting r) r.logs races) (Whole workers) (Diverged at)
  first_told workers at e = subst (λ rs. IsFailedBy r (known_with (recorded_setting r) r.logs rs) (Whole workers) (Diverged at)) (sym none) (first_is r workers at e)
