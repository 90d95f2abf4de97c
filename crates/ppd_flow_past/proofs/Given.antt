-- What the replay of one interval gives of a past.
use Rattle.ppd_flow_past.specs.PastSetting.{past_setting}
use Rattle.std.specs.Result.{result_err, result_unwrap_or}
use Rattle.std.proofs.Common.{◌≡◌, ℕ, zero, suc, ◌≤◌, List, [], ◌∷◌, Option, Some, None, Ok, Err, refl, ap, sym, ◌∙◌, arith, length, map, get_or}
use Rattle.std.specs.Prelude.{slice_get}
use Rattle.std.proofs.lemmas.List.{length-map}
use Rattle.std.proofs.lemmas.Option.{none-some, same_Some, slice_get_past}
use Rattle.ppd_ast.specs.declared.plan.Plan.{Plan}
use Rattle.ppd_emul.specs.BlockTrace.{BlockTrace}
use Rattle.ppd_emul.specs.EmulError.TheVariants.{Diverged}
use Rattle.ppd_emul.specs.Found.{Found}
use Rattle.ppd_emul.specs.Wanted.{Wanted}
use Rattle.ppd_emul.specs.Replay.{Replayed, replay}
use Rattle.ppd_model.specs.declared.entry.Entry.{Entry}
use Rattle.ppd_model.specs.IntervalLogs.{IntervalLog, LoggedInterval, indexed, interval_log, log_by}
use Rattle.ppd_model.proofs.EntryWords.{log_in}
use Rattle.ppd_emul.specs.Row.{Row}
use Rattle.ppd_emul.specs.Indexes.{AreIntervals, IsIndexOf, rows_at}
use Rattle.ppd_emul.specs.Tables.{log_of}
use Rattle.ppd_model.specs.Bounds.{AreEach}
use Rattle.ppd_model.specs.declared.flow.Item.{Item}
use Rattle.ppd_flow_past.specs.declared.past.Past.{Past}
use Rattle.ppd_flow_past.specs.ByReplays.{AreReplayed}
use Rattle.ppd_flow_past.specs.SeenBy.{failed_in, items_in, seen_in, steps_in, steps_of, told_by}
use Rattle.ppd_emul.specs.Laws.{replay_of}
use Rattle.ppd_flow_past.proofs.SeenWords.{failure_of}

found_at : (plan : Plan) (f : IntervalLog → List Item) (is : List LoggedInterval) (k : ℕ) (log : IntervalLog)
    → log_in plan (slice_get is k) ≡ Some log
    → get_or (map (λ (i : LoggedInterval). f (log_by plan i)) is) k [] ≡ f log
found_at plan f [] k log e = absurd (none-some log e)
found_at plan f (i ∷ is) zero log e = ap f (same_Some (log_by plan i) log e)
found_at plan f (i ∷ is) (suc k) log e = found_at plan f is k log e

none_at : (plan : Plan) (f : IntervalLog → List Item) (is : List LoggedInterval) (k : ℕ) → log_in plan (slice_get is k) ≡ None
    → get_or (map (λ (i : LoggedInterval). f (log_by plan i)) is) k [] ≡ []
none_at plan f [] k e = refl
none_at plan f (i ∷ is) zero e = absurd (none-some (log_by plan i) (sym e))
none_at plan f (i ∷ is) (suc k) e = none_at plan f is k e

no_log : (plan : Plan) (tables : List (List Row)) (lists : List (List Entry)) (p k : ℕ)
    → AreEach (AreIntervals plan) tables lists
    → length (get_or tables p []) ≤ k → interval_log plan (get_or lists p []) k ≡ None
no_log plan [] [] p k h le = refl
no_log plan [] (es ∷ lists) p k h le = absurd h
no_log plan (rows ∷ tables) [] p k h le = absurd h
no_log plan (rows ∷ tables) (es ∷ lists) zero k h le =
    let count : length (indexed es) ≡ length rows = sym (length-map (indexed es) (log_by plan))
    ∙ sym (ap length h.0.logs_are) ∙ length-map rows (log_of es) in
    let past : length (indexed es) ≤ k = omega arith in
    ap (log_in plan) (slice_get_past (indexed es) k past)
no_log plan (rows ∷ tables) (es ∷ lists) (suc p) k h le = no_log plan tables lists p k h.1 le

module _ (past : Past) (p k : ℕ) where
  abbrev entries : List Entry
  entries = get_or past.cut.now.lists p []

  abbrev replayed : IntervalLog → Replayed
  replayed log = replay past.program.now past.plan.now log past.budget

  abbrev in_past : Option IntervalLog → Option Replayed
  in_past o = replay_of (past_setting past) o

  -- an interval that is not there
  module _ (none : interval_log past.plan.now entries k ≡ None) where
    pub none_items : AreReplayed past p k []
    none_items = (
      ap (λ o. failure_of (in_past o)) none,
      sym (none_at past.plan.now (λ log. result_unwrap_or (told_by (replayed log).answer) [])
          (indexed entries) k none),
    )

    pub none_steps : steps_in past p k ≡ 0
    none_steps = ap (λ o. steps_of (in_past o)) none

  -- its number is not below their count
  pub not_there : IsIndexOf past.plan.now past.cut.now past.cut_index.now.tables
      → length (rows_at past.cut_index.now.tables p) ≤ k → interval_log past.plan.now entries k ≡ None
  not_there h le = no_log past.plan.now past.cut_index.now.tables past.cut.now.lists p k h le

  pub beyond : length (seen_in past p).items ≤ k → interval_log past.plan.now entries k ≡ None
  beyond le =
      let count : length (seen_in past p).items ≡ length (indexed entries) =
      length-map (indexed entries) (λ (i : LoggedInterval). result_unwrap_or (told_by (replayed (log_by past.plan.now i)).answer) []) in
      let far : length (indexed entries) ≤ k = omega arith in
      ap (log_in past.plan.now) (slice_get_past (indexed entries) k far)

  module _ (log : IntervalLog) (is : interval_log past.plan.now entries k ≡ Some log) where
    pub given_items : (trace : BlockTrace) → Ok trace ≡ (replayed log).answer → AreReplayed past p k trace.items
    given_items trace answer =
        let items : items_in past p k ≡ trace.items =
        found_at past.plan.now (λ l. result_unwrap_or (told_by (replayed l).answer) []) (indexed entries) k log is
        ∙ ap (λ r. result_unwrap_or (told_by r) []) (sym answer) in
        (ap (λ o. failure_of (in_past o)) is ∙ ap (λ r. result_err (told_by r)) (sym answer), sym items)

    pub given_steps : steps_in past p k ≡ (replayed log).steps
    given_steps = ap (λ o. steps_of (in_past o)) is

    pub given_failure : (n : ℕ) (w : Wanted) (f : Found) → Err (Diverged n w f) ≡ (replayed log).answer
        → failed_in past p k ≡ Some n
    given_failure n w f answer = ap (λ o. failure_of (in_past o)) is ∙ ap (λ r. result_err (told_by r)) (sym answer)
