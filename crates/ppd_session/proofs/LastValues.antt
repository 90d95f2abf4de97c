-- Last values that are found one after another, and why one is not found.
use Rattle.ppd_flow_past.specs.PastSetting.{past_setting}
use Rattle.std.specs.Result.{result_err}
use Rattle.std.specs.List.{filter_map}
use Rattle.std.specs.Prelude.{Some, None, option_map, slice_get}
use Rattle.std.proofs.Common.{◌≡◌, ℕ, zero, suc, ◌+◌, ◌<◌, ℤ, List, [], ◌∷◌, ◌++◌, map, Option, Ok, Err, refl, ap, sym, subst, ◌∙◌, append-nil, append_assoc, arith}
use Rattle.ppd_ast.specs.declared.program.Program.{Program}
use Rattle.ppd_model.specs.declared.entry.At.{At}
use Rattle.ppd_model.specs.declared.entry.Logs.{Logs}
use Rattle.ppd_model.specs.declared.flow.Origin.{Origin}
use Rattle.ppd_model.specs.declared.flow_error.FlowError.{FlowError}
use Rattle.ppd_model.specs.declared.flow_error.FlowError.TheVariants as flow_error
use Rattle.ppd_flow_past.specs.declared.past.Past.{Past}
use Rattle.ppd_flow_past.specs.ByReplays.{IsFoundBy, first_failed, first_failed_in}
use Rattle.ppd_flow_past.specs.SeenBy.{seen_by}
use Rattle.ppd_graph.specs.Shared.{found_last}
use Rattle.ppd_session.specs.Known.{Last, last_by, unless_failed}
use Rattle.ppd_session.specs.Sessions.{IsLineOf, IsWhy, error_of, unfound}
use Rattle.ppd_session.specs.Texts.{lasts_text}
use Rattle.ppd_session.specs.declared.reply.SessionError.{SessionError}
use Rattle.ppd_session.specs.declared.reply.SessionError.TheVariants.{Diverged, Sets, Memory}
use Rattle.ppd_flow.specs.SharedCells.{answer_of, seens_in}
use Rattle.ppd_text.specs.Edges.{last_line}
use Rattle.ppd_session.proofs.KnownWords.{of_cells}

-- ---- the search for a last write

module _ (past : Past) (uncut : past.cut.now ≡ past.logs.now) (c : ℕ) where
  abbrev replays : List (ℕ × ℕ)
  replays = (found_last past.program.now past.logs.now (seens_in past) c).replays

  abbrev answer : Last
  answer = answer_of (found_last past.program.now past.logs.now (seens_in past) c).found

  abbrev known : Last
  known = last_by (past_setting past) past.logs.now c

  -- by the logs that are replayed, and by the logs
  same : unless_failed (first_failed_in past replays) answer ≡ known
  same =
      ap (λ (l : Logs). unless_failed
      (first_failed (past_setting past) l (found_last past.program.now past.logs.now (map (λ entries. seen_by (past_setting past) entries) l.lists) c).replays)
      (answer_of (found_last past.program.now past.logs.now (map (λ entries. seen_by (past_setting past) entries) l.lists) c).found)) uncut

  known_by_failure : (o : Option At) → first_failed_in past replays ≡ o → known ≡ unless_failed o answer
  known_by_failure o e = sym same ∙ ap (λ (f : Option At). unless_failed f answer) e

  pub last_found : (b e : ℕ) (x : ℤ × Origin) → IsFoundBy past replays answer b e (Ok x) → known ≡ Ok x
  last_found b e x f = known_by_failure None f.0 ∙ f.1

  pub last_fails : (b e : ℕ) (error : FlowError) → IsFoundBy past replays answer b e (Err error) → IsWhy (unfound known) (error_of error)
  last_fails b e (flow_error.Diverged p n) f =
      ap (λ (l : Last). option_map error_of (unfound l)) (known_by_failure (Some (record { process = p; entry = n })) f)
  last_fails b e flow_error.NoEvent f = tt
  last_fails b e (flow_error.Sets p n k) f = ap (λ (l : Last). option_map error_of (unfound l)) (known_by_failure None f.0 ∙ f.1)
  last_fails b e flow_error.Memory f = tt

-- ---- one cell after another

module _ (p : Program) where
  one : (c d : ℕ) (r : Last) (x : ℤ × Origin) → d ≡ c → r ≡ Ok x → lasts_text p c (r ∷ []) ≡ last_line p d x
  one c d (Ok y) x e h =
      let same : y ≡ x = cc in
      append-nil (last_line p c y) ∙ (ap (last_line p c) same ∙ ap (λ k. last_line p k x) (sym e))
  one c d (Err y) x e h = absurd (cc)

  text_step : (c d : ℕ) (r : Last) (xs ys : List Last) (x : ℤ × Origin) → slice_get (filter_map result_err (r ∷ xs)) 0 ≡ None
      → (slice_get (filter_map result_err xs) 0 ≡ None → lasts_text p (c + 1) ys ≡ lasts_text p (c + 1) xs ++ last_line p d x)
      → lasts_text p c (r ∷ ys) ≡ lasts_text p c (r ∷ xs) ++ last_line p d x
  text_step c d (Ok y) xs ys x none more =
      ap (λ w. last_line p c y ++ w) (more none) ∙ sym (append_assoc (last_line p c y) (lasts_text p (c + 1) xs) (last_line p d x))
  text_step c d (Err e) xs ys x none more = absurd (cc)

alone : (r : Last) (x : ℤ × Origin) → r ≡ Ok x → slice_get (filter_map result_err (r ∷ [])) 0 ≡ None
alone (Ok y) x h = refl
alone (Err y) x h = absurd (cc)

none_step : (r : Last) (xs ys : List Last) → slice_get (filter_map result_err (r ∷ xs)) 0 ≡ None → (slice_get (filter_map result_err xs) 0 ≡ None → slice_get (filter_map result_err ys) 0 ≡ None) → slice_get (filter_map result_err (r ∷ ys)) 0 ≡ None
none_step (Ok y) xs ys none more = more none
none_step (Err e) xs ys none more = absurd (cc)

fail_step : (r : Last) (e : FlowError) (xs ys : List Last) → slice_get (filter_map result_err (r ∷ xs)) 0 ≡ None → (slice_get (filter_map result_err xs) 0 ≡ None → slice_get (filter_map result_err ys) 0 ≡ Some e) → slice_get (filter_map result_err (r ∷ ys)) 0 ≡ Some e
fail_step (Ok y) e xs ys none more = more none
fail_step (Err d) e xs ys none more = absurd (cc)

failed : (r : Last) (e : FlowError) (ys : List Last) → r ≡ Err e → slice_get (filter_map result_err (r ∷ ys)) 0 ≡ Some e
failed (Ok y) e ys h = absurd (cc)
failed (Err d) e ys h = let same : d ≡ e = cc in ap Some same

module _ (f : ℕ → Last) where
  text_more : (p : Program) (c i : ℕ) (x : ℤ × Origin) → slice_get (filter_map result_err (of_cells f c i)) 0 ≡ None → f (c + i) ≡ Ok x
      → lasts_text p c (of_cells f c (suc i)) ≡ lasts_text p c (of_cells f c i) ++ last_line p (c + i) x
  text_more p c zero x none is =
      let z : c + 0 ≡ c = omega arith in one p c (c + 0) (f c) x z (ap f (sym z) ∙ is)
  text_more p c (suc i) x none is =
      let z : c + 1 + i ≡ c + suc i = omega arith in
      text_step p c (c + suc i) (f c) (of_cells f (c + 1) i) (of_cells f (c + 1) (suc i)) x none
      (λ n. text_more p (c + 1) i x n (ap f z ∙ is)
      ∙ ap (λ k. lasts_text p (c + 1) (of_cells f (c + 1) i) ++ last_line p k x) z)

  none_more : (c i : ℕ) (x : ℤ × Origin) → slice_get (filter_map result_err (of_cells f c i)) 0 ≡ None → f (c + i) ≡ Ok x → slice_get (filter_map result_err (of_cells f c (suc i))) 0 ≡ None
  none_more c zero x none is = let z : c + 0 ≡ c = omega arith in alone (f c) x (ap f (sym z) ∙ is)
  none_more c (suc i) x none is =
      let z : c + 1 + i ≡ c + suc i = omega arith in
      none_step (f c) (of_cells f (c + 1) i) (of_cells f (c + 1) (suc i)) none
      (λ n. none_more (c + 1) i x n (ap f z ∙ is))

  fails_at : (c i n : ℕ) (e : FlowError) → i < n → slice_get (filter_map result_err (of_cells f c i)) 0 ≡ None → f (c + i) ≡ Err e → slice_get (filter_map result_err (of_cells f c n)) 0 ≡ Some e
  fails_at c i zero e lt none is = absurd (omega arith)
  fails_at c zero (suc n) e lt none is =
      let z : c + 0 ≡ c = omega arith in failed (f c) e (of_cells f (c + 1) n) (ap f (sym z) ∙ is)
  fails_at c (suc i) (suc n) e lt none is =
      let z : c + 1 + i ≡ c + suc i = omega arith in
      fail_step (f c) e (of_cells f (c + 1) i) (of_cells f (c + 1) n) none
      (λ m. fails_at (c + 1) i n e (omega arith) m (ap f z ∙ is))

  -- the next line
  pub record IsNext (p : Program) (i : ℕ) (old new : List ℕ) : Type 0 where
    pub text : new ≡ old ++ lasts_text p 0 (of_cells f 0 (i + 1))
    pub none : slice_get (filter_map result_err (of_cells f 0 (i + 1))) 0 ≡ None

  next_of : (p : Program) (i : ℕ) (r : Last) (old now new : List ℕ) → f i ≡ r → now ≡ old ++ lasts_text p 0 (of_cells f 0 i)
      → slice_get (filter_map result_err (of_cells f 0 i)) 0 ≡ None → IsLineOf p i r now new → IsNext p i old new
  next_of p i (Err e) old now new is a none line = absurd line
  next_of p i (Ok x) old now new is a none line =
      let z : 0 + i ≡ i = omega arith in
      let s : suc i ≡ i + 1 = omega arith in
      let here : f (0 + i) ≡ Ok x = ap f z ∙ is in
      let more = text_more p 0 i x none here ∙ ap (λ k. lasts_text p 0 (of_cells f 0 i) ++ last_line p k x) z in
      record {
        text = line ∙ (ap (λ w. w ++ last_line p i x) a
            ∙ (append_assoc old (lasts_text p 0 (of_cells f 0 i)) (last_line p i x)
            ∙ ap (λ w. old ++ w) (sym more ∙ ap (λ k. lasts_text p 0 (of_cells f 0 k)) s)));
        none = ap (λ k. slice_get (filter_map result_err (of_cells f 0 k)) 0) (sym s) ∙ none_more 0 i x none here;
      }

  pub next : (p : Program) (i : ℕ) (old now new : List ℕ) → now ≡ old ++ lasts_text p 0 (of_cells f 0 i)
      → slice_get (filter_map result_err (of_cells f 0 i)) 0 ≡ None → IsLineOf p i (f i) now new → IsNext p i old new
  next p i old now new a none line = next_of p i (f i) old now new refl a none line

  -- or why there is none
  why_of : (i n : ℕ) (r : Last) (e : SessionError) → i < n → f i ≡ r → slice_get (filter_map result_err (of_cells f 0 i)) 0 ≡ None → IsWhy (unfound r) e → IsWhy (slice_get (filter_map result_err (of_cells f 0 n)) 0) e
  why_of i n (Err d) e lt is none h =
      let z : 0 + i ≡ i = omega arith in
      subst (λ (o : Option FlowError). IsWhy o e) (sym (fails_at 0 i n d lt none (ap f z ∙ is))) h
  why_of i n (Ok x) (Diverged at) lt is none h = let never : None ≡ Some (Diverged at) = h in absurd (cc)
  why_of i n (Ok x) (Sets at) lt is none h = let never : None ≡ Some (Sets at) = h in absurd (cc)
  why_of i n (Ok x) Memory lt is none h = tt

  pub why : (i n : ℕ) (e : SessionError) → i < n → slice_get (filter_map result_err (of_cells f 0 i)) 0 ≡ None → IsWhy (unfound (f i)) e → IsWhy (slice_get (filter_map result_err (of_cells f 0 n)) 0) e
  why i n e lt none h = why_of i n (f i) e lt refl none h
