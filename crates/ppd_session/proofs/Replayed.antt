-- What the replay of an interval of a past tells, and why it fails.
use Rattle.ppd_flow_past.specs.PastSetting.{past_setting}
use Rattle.ppd_model.specs.Setting.{Setting}
use Rattle.std.specs.Result.{result_err, result_unwrap_or}
use Rattle.ppd_ast.proofs.Walks.{got_none}
use Rattle.ppd_ast.specs.declared.plan.Plan.{Plan}
use Rattle.ppd_model.specs.Replay.{replay}
use Rattle.ppd_model.specs.declared.block_trace.BlockTrace.{BlockTrace}
use Rattle.ppd_model.specs.declared.block_trace.EmulError.{EmulError}
use Rattle.ppd_model.specs.declared.block_trace.EmulError.TheVariants.{Diverged, Memory}
use Rattle.ppd_model.proofs.EntryWords.{log_in}
use Rattle.ppd_model.specs.IntervalLogs.{LoggedInterval, indexed, log_by}
use Rattle.ppd_model.specs.declared.entry.Entry.{Entry}
use Rattle.ppd_model.specs.declared.entry.Logs.{Logs}
use Rattle.ppd_flow_past.proofs.SeenWords.{failure_of}
use Rattle.ppd_flow_past.specs.ByReplays.{AreReplayed, IsFoundBy, failure_or, first_failed, first_failed_in}
use Rattle.ppd_flow_past.specs.Laws.{replay_of}
use Rattle.ppd_flow_past.specs.SeenBy.{failed_in, items_in, seen_by}
use Rattle.ppd_model.specs.declared.flow_error.FlowError.{FlowError}
use Rattle.ppd_model.specs.declared.flow_error.FlowError.TheVariants as flow_error
use Rattle.ppd_flow_past.specs.declared.past.Past.{Past}
use Rattle.ppd_index.specs.Indexes.{AreIntervals, IsIndexOf, rows_at}
use Rattle.ppd_index.specs.Tables.{log_of}
use Rattle.ppd_index.specs.declared.row.Row.{Row}
use Rattle.ppd_model.specs.Bounds.{AreEach}
use Rattle.ppd_model.specs.declared.flow.Item.{Item}
use Rattle.ppd_session.proofs.KnownWords.{item_failure, items_text}
use Rattle.ppd_session.proofs.Tables.{told_entries, told_of}
use Rattle.ppd_session.specs.Known.{Known, Told, told_by, told_of_entries}
use Rattle.ppd_session.specs.Sessions.{IsCause, IsWhy, error_of, known_by}
use Rattle.ppd_session.specs.Texts.{failure_at, failure_in, told_at, told_failure, told_text}
use Rattle.ppd_session.specs.declared.reply.SessionError.{SessionError}
use Rattle.ppd_session.specs.declared.reply.SessionError.TheVariants as session_error
use Rattle.std.proofs.Common.{Err, List, Ok, Option, Result, [], ap, arith, get_or, length, map, refl, subst, suc, sym, true, zero, ℕ, ◌++◌, ◌<◌, ◌∙◌, ◌∷◌, ◌≡◌, ◌≤◌}
use Rattle.std.proofs.lemmas.Bool.Decides.{nat_tests}
use Rattle.std.proofs.lemmas.List.{length-map}
use Rattle.std.proofs.lemmas.Option.{same_Some, slice_get-map}
use Rattle.std.specs.Prelude.{None, OnOk, Some, option_map, slice_get, ◌==◌}

module _ (setting : Setting) where
  abbrev pub answer_of : LoggedInterval → Result BlockTrace EmulError
  answer_of i = (replay setting.program setting.plan (log_by setting.plan i) setting.budget).answer

  -- ---- one replay

  fails_as : (q : ℕ) (r : Result BlockTrace EmulError) → failure_or q (result_err (told_by r)) None ≡ failure_in q (Some (told_by r))
  fails_as q (Ok trace) = refl
  fails_as q (Err (Diverged n w f)) = refl
  fails_as q (Err Memory) = refl

  failure_as : (q : ℕ) (o : Option LoggedInterval) → failure_or q (failure_of (replay_of setting (log_in setting.plan o))) None ≡ failure_in q (option_map (told_of setting) o)
  failure_as q None = refl
  failure_as q (Some i) = fails_as q (answer_of i)

  tells_as : (q : ℕ) (r : Result BlockTrace EmulError) → failure_or q (result_err (told_by r)) None ≡ None → told_by r ≡ Ok (result_unwrap_or (told_by r) [])
  tells_as q (Ok trace) e = refl
  tells_as q (Err (Diverged n w f)) e = absurd (cc)
  tells_as q (Err Memory) e = refl

  told_as : (q : ℕ) (is : List LoggedInterval) (k : ℕ) → k < length is → failure_or q (failure_of (replay_of setting (log_in setting.plan (slice_get is k)))) None ≡ None
      → slice_get (map (told_of setting) is) k ≡ Some (Ok (get_or (map (λ i. result_unwrap_or (told_by (answer_of i)) []) is) k []))
  told_as q [] k lt e = absurd (omega arith)
  told_as q (i ∷ is) zero lt e = ap Some (tells_as q (answer_of i) e)
  told_as q (i ∷ is) (suc k) lt e = told_as q is k (omega arith) e

  -- what is told of a replay is what it gives

  gives_as : (r : Result BlockTrace EmulError) (items : List Item) → told_by r ≡ Ok items → items ≡ result_unwrap_or (told_by r) []
  gives_as (Ok trace) items e = cc
  gives_as (Err (Diverged n w f)) items e = absurd (cc)
  gives_as (Err Memory) items e = cc

  pub given_as : (is : List LoggedInterval) (k : ℕ) (items : List Item) → slice_get (map (told_of setting) is) k ≡ Some (Ok items)
      → items ≡ get_or (map (λ i. result_unwrap_or (told_by (answer_of i)) []) is) k []
  given_as [] k items e = absurd (cc)
  given_as (i ∷ is) zero items e = gives_as (answer_of i) items (same_Some (told_of setting i) (Ok items) e)
  given_as (i ∷ is) (suc k) items e = given_as is k items e

-- ---- how many

each_count : (plan : Plan) (tables : List (List Row)) (lists : List (List Entry)) (q : ℕ) → AreEach (AreIntervals plan) tables lists
    → length (get_or tables q []) ≡ length (indexed (get_or lists q []))
each_count plan [] [] q h = refl
each_count plan [] (es ∷ lists) q h = absurd h
each_count plan (r ∷ tables) [] q h = absurd h
each_count plan (r ∷ tables) (es ∷ lists) zero h =
    sym (length-map r (log_of es)) ∙ ap length h.0.logs_are ∙ length-map (indexed es) (log_by plan)
each_count plan (r ∷ tables) (es ∷ lists) (suc q) h = each_count plan tables lists q h.1

-- ---- texts

-- what is shown of items that are told
module _ (x : Known) (q k : ℕ) (j : Option ℕ) (t : Option Told) (items shown : List Item) (e : t ≡ Some (Ok items)) (s : shown ≡ items) where
  same_told : t ≡ Some (Ok shown)
  same_told = e ∙ ap (λ (is : List Item). Some (Ok is)) (sym s)

  pub told_texts : (old new : List ℕ) → new ≡ old ++ items_text x q k j shown → new ≡ old ++ told_text x q k j t
  told_texts old new h = subst (λ (t : Option Told). new ≡ old ++ told_text x q k j t) (sym same_told) h

  pub told_none : item_failure x q k j shown ≡ None → told_failure x q k j t ≡ None
  told_none h = subst (λ (t : Option Told). told_failure x q k j t ≡ None) (sym same_told) h

  pub told_why : (error : SessionError) → IsWhy (item_failure x q k j shown) error → IsWhy (told_failure x q k j t) error
  told_why error h = subst (λ (t : Option Told). IsWhy (told_failure x q k j t) error) (sym same_told) h

-- why a replay that fails leaves no text
pub why_failed : (x : Known) (q k : ℕ) (j : Option ℕ) (t : Option Told) (error : SessionError) → IsCause (failure_in q t) error → IsWhy (told_failure x q k j t) error
why_failed x q k j None (session_error.Diverged at) h = let never : None ≡ Some at = h in absurd (cc)
why_failed x q k j (Some (Ok items)) (session_error.Diverged at) h = let never : None ≡ Some at = h in absurd (cc)
why_failed x q k j (Some (Err n)) (session_error.Diverged at) h = ap (option_map session_error.Diverged) h
why_failed x q k j t (session_error.Sets at) h = absurd h
why_failed x q k j t session_error.Memory h = tt

-- ---- lists and answers

pub none_there : {A : Type 0} (xs : List A) → true ≡ (length xs == 0) → xs ≡ []
none_there [] e = refl
none_there (x ∷ xs) e = grind (arith, nat_tests)

pub on_ok : {T E P : Type 0} (r : Result T E) → P → OnOk r P
on_ok (Ok x) p = p
on_ok (Err e) p = tt

no_failure : (q : ℕ) (o : Option ℕ) → failure_or q o None ≡ None → o ≡ None
no_failure q None e = refl
no_failure q (Some n) e = absurd (cc)

-- ---- of a past

module _ (past : Past) (uncut : past.cut.now ≡ past.logs.now) (q k : ℕ) where
  abbrev entries : List Entry
  entries = get_or past.logs.now.lists q []

  told_here : told_at (known_by past []) q k ≡ slice_get (told_of_entries (past_setting past) entries) k
  told_here = ap (λ ts. slice_get ts k) (told_entries (past_setting past) past.logs.now.lists q)

  -- the failure of the replay is the one that is told
  pub same_failure : first_failed_in past ((q, k) ∷ []) ≡ failure_at (known_by past []) (Some q) k
  same_failure =
      ap (λ (l : Logs). first_failed (past_setting past) l ((q, k) ∷ [])) uncut
      ∙ failure_as (past_setting past) q (slice_get (indexed entries) k)
      ∙ ap (failure_in q) (sym (told_here ∙ slice_get-map _ (indexed entries) k))

  -- what the replays give of the logs
  same_items : items_in past q k ≡ get_or (seen_by (past_setting past) entries).items k []
  same_items = ap (λ (l : Logs). get_or (seen_by (past_setting past) (get_or l.lists q [])).items k []) uncut

  -- the items that are told are those of a replay that does not fail
  pub are_replayed : (items : List Item) → told_at (known_by past []) q k ≡ Some (Ok items) → AreReplayed past q k items
  are_replayed items e = (
    no_failure q (failed_in past q k) (same_failure ∙ ap (failure_in q) e),
    given_as (past_setting past) (indexed entries) k items (sym told_here ∙ e) ∙ sym same_items,
  )

  -- of an interval that is not there nothing is told
  pub not_told : IsIndexOf past.plan.now past.logs.now past.index.now.tables → length (rows_at past.index.now.tables q) ≤ k → told_at (known_by past []) q k ≡ None
  not_told h le =
      let count = each_count past.plan.now past.index.now.tables past.logs.now.lists q h in
      let long : length (told_of_entries (past_setting past) entries) ≤ k =
      omega (arith, length-map (indexed entries) (told_of (past_setting past)), count) in
      told_here ∙ got_none (told_of_entries (past_setting past) entries) k long

  -- a replay that does not fail tells its items
  pub tells : (items : List Item) (b e : ℕ) → IsIndexOf past.plan.now past.logs.now past.index.now.tables → k < length (rows_at past.index.now.tables q)
      → IsFoundBy past ((q, k) ∷ []) (Ok (items_in past q k)) b e (Ok items) → told_at (known_by past []) q k ≡ Some (Ok items)
  tells items b e h lt f =
      let is : ◌≡◌ {A = Result (List Item) FlowError} (Ok (items_in past q k)) (Ok items) = f.1 in
      let count = each_count past.plan.now past.index.now.tables past.logs.now.lists q h in
      let there : k < length (indexed entries) = omega (arith, count) in
      let found : items_in past q k ≡ items = cc in
      let same : get_or (seen_by (past_setting past) entries).items k [] ≡ items = sym same_items ∙ found in
      let none = sym (ap (λ (l : Logs). first_failed (past_setting past) l ((q, k) ∷ [])) uncut) ∙ f.0 in
      told_here
      ∙ (told_as (past_setting past) q (indexed entries) k there none
      ∙ ap (λ (i : List Item). Some (Ok i)) same)

  -- and else why
  pub causes : (b e : ℕ) (error : FlowError) → IsFoundBy past ((q, k) ∷ []) (Ok (items_in past q k)) b e (Err error) → IsCause (failure_at (known_by past []) (Some q) k) (error_of error)
  causes b e (flow_error.Diverged p n) f = sym same_failure ∙ f
  causes b e flow_error.NoEvent f = tt
  causes b e (flow_error.Sets p n c) f = let never : Ok (items_in past q k) ≡ Err (flow_error.Sets p n c) = f.1 in absurd (cc)
  causes b e flow_error.Memory f = tt

  -- an interval with an item is there
  items_there : (is : List LoggedInterval) (m j : ℕ) (t : Item) → slice_get (get_or (map (λ i. result_unwrap_or (told_by (answer_of (past_setting past) i)) []) is) m []) j ≡ Some t → m < length is
  items_there [] m zero t e = absurd (cc)
  items_there [] m (suc j) t e = absurd (cc)
  items_there (i ∷ is) zero j t e = omega arith
  items_there (i ∷ is) (suc m) j t e = let lt = items_there is m j t e in omega (arith, lt)

  -- so that its items are told where its replay does not fail
  pub tells_items : (j : ℕ) (t : Item) → failed_in past q k ≡ None → slice_get (items_in past q k) j ≡ Some t → told_at (known_by past []) q k ≡ Some (Ok (items_in past q k))
  tells_items j t none e =
      let item = subst (λ (is : List Item). slice_get is j ≡ Some t) same_items e in
      let there : k < length (indexed entries) = items_there (indexed entries) k j t item in
      let fine : failure_or q (failed_in past q k) None ≡ None = ap (λ (o : Option ℕ). failure_or q o None) none in
      let none_failed = sym (ap (λ (l : Logs). first_failed (past_setting past) l ((q, k) ∷ [])) uncut) ∙ fine in
      told_here
      ∙ (told_as (past_setting past) q (indexed entries) k there none_failed
      ∙ ap (λ (i : List Item). Some (Ok i)) (sym same_items))
