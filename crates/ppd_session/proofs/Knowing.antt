-- What is known of logs that the index accepts: what is found, and why something is not.
use Rattle.ppd_model.specs.Setting.{Setting}
use Rattle.std.specs.Result.{result_err}
use Rattle.law_flow.proofs.MissingWrites.{missing_writes_are_told}
use Rattle.law_flow.specs.Missing.{AreIndexed, IsMissingWrite, write_at}
use Rattle.ppd_ast.proofs.ValidLaws.{slice_get_there}
use Rattle.ppd_model.specs.declared.block_trace.BlockTrace.{BlockTrace}
use Rattle.ppd_model.specs.declared.block_trace.EmulError.{EmulError}
use Rattle.ppd_model.specs.declared.block_trace.EmulError.TheVariants as emul_error
use Rattle.ppd_model.proofs.EntryWords.{log_in}
use Rattle.ppd_model.specs.IntervalLogs.{LoggedInterval, indexed}
use Rattle.ppd_model.specs.declared.entry.At.{At}
use Rattle.ppd_model.specs.declared.entry.Entry.{Entry}
use Rattle.ppd_model.specs.declared.entry.Logs.{Logs}
use Rattle.ppd_flow.specs.Answers.{answer_if}
use Rattle.ppd_flow.specs.SharedCells.{answer_of as answer_found}
use Rattle.ppd_graph.specs.Found.{edges_if, found_edges}
use Rattle.ppd_graph.specs.Shared.{Missing, found_last, seen_at}
use Rattle.ppd_flow_past.proofs.SeenWords.{failure_of}
use Rattle.ppd_flow_past.specs.ByReplays.{failure_or, first_failed}
use Rattle.ppd_flow_past.specs.Laws.{replay_of}
use Rattle.ppd_flow_past.specs.SeenBy.{failed_at, seen_by}
use Rattle.ppd_model.specs.declared.flow.FlowEdge.{FlowEdge}
use Rattle.ppd_model.specs.declared.flow.Item.{Item}
use Rattle.ppd_model.specs.declared.graph.Race.{Race}
use Rattle.ppd_race.specs.Races.{edges_of_logs, races_among}
use Rattle.ppd_session.proofs.Replayed.{answer_of, given_as}
use Rattle.ppd_session.proofs.Tables.{cell_is, cells_count, flow_inside, no_place, told_logs, told_of}
use Rattle.ppd_session.specs.Knowing.{IsFoundOrNot, LogsAreKnown}
use Rattle.ppd_session.specs.Known.{Known, Last, Told, flow_by, known_with, last_by, seens, told_by, told_of_entries, unless_failed, unless_raced}
use Rattle.ppd_session.specs.Texts.{flow_at, told_at}
use Rattle.std.proofs.Common.{Err, List, Ok, Option, Result, [], ap, get_or, length, map, refl, subst, suc, sym, zero, ℕ, ◌+◌, ◌<◌, ◌∙◌, ◌∷◌, ◌≡◌}
use Rattle.std.proofs.lemmas.Option.{same_Some, slice_get_within}
use Rattle.std.specs.Prelude.{None, Some, option_map, slice_get}

none_or_some : {X Y : Type 0} {o : Option X} {x : X} → o ≡ None → o ≡ Some x → Y
none_or_some a b = absurd (cc (a, b))

module _ (setting : Setting) (logs : Logs) where
  abbrev known : List Race → Known
  known races = known_with setting logs races

  -- ---- replays

  told_is : (q k : ℕ) → told_at (known []) q k ≡ option_map (told_of setting) (slice_get (indexed (get_or logs.lists q [])) k)
  told_is q k = told_logs setting logs.lists q k

  by_answer : (a : Result BlockTrace EmulError) (n : ℕ) → result_err (told_by a) ≡ Some n → told_by a ≡ Err n
  by_answer (Ok trace) n e = none_or_some refl e
  by_answer (Err (emul_error.Diverged m w f)) n e = let is : m ≡ n = cc e in ap (λ (i : ℕ). Err i) is
  by_answer (Err emul_error.Memory) n e = none_or_some refl e

  answer_by : (a : Result BlockTrace EmulError) (n : ℕ) → told_by a ≡ Err n → result_err (told_by a) ≡ Some n
  answer_by (Ok trace) n e = absurd (cc e)
  answer_by (Err (emul_error.Diverged m w f)) n e = let is : m ≡ n = cc e in ap (λ (i : ℕ). Some i) is
  answer_by (Err emul_error.Memory) n e = absurd (cc e)

  -- a replay that fails is told to
  pub failing_is_told : (q k n : ℕ) → failed_at setting (get_or logs.lists q []) k ≡ Some n → told_at (known []) q k ≡ Some (Err n)
  failing_is_told q k n e = told_is q k ∙ by (slice_get (indexed (get_or logs.lists q [])) k) e
    where
      by : (o : Option LoggedInterval) → failure_of (replay_of setting (log_in setting.plan o)) ≡ Some n → option_map (told_of setting) o ≡ Some (Err n)
      by None f = none_or_some refl f
      by (Some i) f = ap (λ (t : Told). Some t) (by_answer (answer_of setting i) n f)

  -- and none other is
  pub failing : (q k n : ℕ) → told_at (known []) q k ≡ Some (Err n) → failed_at setting (get_or logs.lists q []) k ≡ Some n
  failing q k n e = by (slice_get (indexed (get_or logs.lists q [])) k) (sym (told_is q k) ∙ e)
    where
      by : (o : Option LoggedInterval) → option_map (told_of setting) o ≡ Some (Err n) → failure_of (replay_of setting (log_in setting.plan o)) ≡ Some n
      by None f = none_or_some refl f
      by (Some i) f = answer_by (answer_of setting i) n (same_Some (told_of setting i) (Err n) f)

  -- an interval that fails is there
  pub there : (q k n : ℕ) → failed_at setting (get_or logs.lists q []) k ≡ Some n → k < length (indexed (get_or logs.lists q []))
  there q k n e = by (slice_get (indexed (get_or logs.lists q [])) k) refl e
    where
      by : (o : Option LoggedInterval) → slice_get (indexed (get_or logs.lists q [])) k ≡ o → failure_of (replay_of setting (log_in setting.plan o)) ≡ Some n
          → k < length (indexed (get_or logs.lists q []))
      by None f g = none_or_some refl g
      by (Some i) f g = slice_get_within (indexed (get_or logs.lists q [])) k i f

  first_fails : (ms : List (ℕ × ℕ)) (at : At) → first_failed setting logs ms ≡ Some at → (k : ℕ) × (told_at (known []) at.process k ≡ Some (Err at.entry))
  first_fails [] at e = none_or_some refl e
  first_fails (m ∷ ms) at e = by (failed_at setting (get_or logs.lists m.0 []) m.1) refl e (first_fails ms at)
    where
      by : (o : Option ℕ) → failed_at setting (get_or logs.lists m.0 []) m.1 ≡ o
          → failure_or m.0 o (first_failed setting logs ms) ≡ Some at
          → (first_failed setting logs ms ≡ Some at → (k : ℕ) × (told_at (known []) at.process k ≡ Some (Err at.entry)))
          → (k : ℕ) × (told_at (known []) at.process k ≡ Some (Err at.entry))
      by None f g rest = rest g
      by (Some n) f g rest =
          let is : record { process = m.0; entry = n } ≡ at = cc g in
          (m.1, subst (λ (a : At). told_at (known []) a.process m.1 ≡ Some (Err a.entry)) is (failing_is_told m.0 m.1 n f))

  -- ---- items

  -- what is seen of a process that is told of is what its replays give
  seen_is : (lists : List (List Entry)) (q k : ℕ) (items : List Item) → slice_get (get_or (map (told_of_entries setting) lists) q []) k ≡ Some (Ok items)
      → get_or (seen_at (map (λ entries. seen_by setting entries) lists) q).items k [] ≡ items
  seen_is [] q k items e = none_or_some (no_place k) e
  seen_is (es ∷ lists) zero k items e = sym (given_as setting (indexed es) k items e)
  seen_is (es ∷ lists) (suc q) k items e = seen_is lists q k items e

  -- ---- what is found or not

  same_write : (m : Missing) → m ≡ write_at m.process m.entry m.cell
  same_write m = refl

  found_or_not : {A : Type 0} (ms : List (ℕ × ℕ)) (found : Result A Missing) → ((m : Missing) → found ≡ Err m → IsMissingWrite logs (seens setting logs) m)
      → IsFoundOrNot setting logs (known []) (unless_failed (first_failed setting logs ms) (answer_found found))
  found_or_not {A} ms found missing = by (first_failed setting logs ms) refl
    where
      of_found : (s : Result A Missing) → found ≡ s → IsFoundOrNot setting logs (known []) (answer_found s)
      of_found (Ok a) e = tt
      of_found (Err m) e = subst (IsMissingWrite logs (seens setting logs)) (same_write m) (missing m e)

      by : (o : Option At) → first_failed setting logs ms ≡ o → IsFoundOrNot setting logs (known []) (unless_failed o (answer_found found))
      by None e = of_found found refl
      by (Some at) e = first_fails ms at e

  module _ (indexed_so : AreIndexed setting.program setting.plan logs) where
    last_known : (c : ℕ) → IsFoundOrNot setting logs (known []) (last_by setting logs c)
    last_known c =
        found_or_not (found_last setting.program logs (seens setting logs) c).replays (found_last setting.program logs (seens setting logs) c).found
        ((missing_writes_are_told setting.program setting.plan logs (seens setting logs) indexed_so).last c)

    -- of an item that is there
    flow_known : (q k j : ℕ) (items : List Item) → get_or (seen_at (seens setting logs) q).items k [] ≡ items → j < length items
        → IsFoundOrNot setting logs (known []) (flow_by setting logs q k j)
    flow_known q k j items e lt = by (found_edges setting.program setting.plan logs (seens setting logs) q k j).found refl
      where
        there : (t : Item) × (slice_get (get_or (seen_at (seens setting logs) q).items k []) j ≡ Some t)
        there = let t = slice_get_there items j lt in (t.0, ap (λ (is : List Item). slice_get is j) e ∙ t.1)

        by : (o : Option (Result (List FlowEdge) Missing)) → (found_edges setting.program setting.plan logs (seens setting logs) q k j).found ≡ o
            → IsFoundOrNot setting logs (known []) (unless_failed (first_failed setting logs (found_edges setting.program setting.plan logs (seens setting logs) q k j).replays) (answer_if o))
        by None f = absurd (let some = ap (λ o. (edges_if setting.program setting.plan logs (seens setting logs) q k j o).found) there.1 in cc (f, some))
        by (Some found) f =
            found_or_not (found_edges setting.program setting.plan logs (seens setting logs) q k j).replays found
            (λ m g. (missing_writes_are_told setting.program setting.plan logs (seens setting logs) indexed_so).edges q k j m (f ∙ ap Some g))

    flow_at_item : (q k j : ℕ) (items : List Item) → told_at (known []) q k ≡ Some (Ok items) → j < length items
        → IsFoundOrNot setting logs (known []) (flow_at (known []) q k j)
    flow_at_item q k j items told lt =
        let is : flow_at (known []) q k j ≡ flow_by setting logs q k j =
        flow_inside (flow_by setting logs) (known []).items q k j items told lt in
        subst (IsFoundOrNot setting logs (known [])) (sym is)
        (flow_known q k j items (seen_is logs.lists q k items told) lt)

    -- ---- with races or without

    cells_are : (races : List Race) → length (known races).lasts ≡ length (unless_raced races setting.program.starts)
    cells_are [] = cells_count (last_by setting logs) 0 (length setting.program.starts)
    cells_are (race ∷ rs) = refl

    lasts_are : (races : List Race) (c : ℕ) (l : Last) → slice_get (known races).lasts c ≡ Some l → IsFoundOrNot setting logs (known races) l
    lasts_are (race ∷ rs) c l e = none_or_some (no_place c) e
    lasts_are [] c l e =
        subst (IsFoundOrNot setting logs (known [])) (cell_is (last_by setting logs) 0 (length setting.program.starts) c l e) (last_known (0 + c))

    flow_is : (races : List Race) (q k j : ℕ) (items : List Item) → told_at (known races) q k ≡ Some (Ok items) → j < length items
        → IsFoundOrNot setting logs (known races) (flow_at (known races) q k j)
    flow_is [] q k j items told lt = flow_at_item q k j items told lt
    flow_is (race ∷ rs) q k j items told lt = none_or_some (no_place k) told

pub logs_are_known : LogsAreKnown
logs_are_known setting logs indexed_so = record {
  program_is = refl;
  plan_is = refl;
  races = refl;
  intervals = refl;
  items = refl;
  cells = cells_are setting logs indexed_so (races_among (edges_of_logs setting.program logs));
  lasts = lasts_are setting logs indexed_so (races_among (edges_of_logs setting.program logs));
  flow = flow_is setting logs indexed_so (races_among (edges_of_logs setting.program logs));
}
