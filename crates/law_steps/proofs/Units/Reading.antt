-- Each shared read of a run lies in the cells of the unit in force.
use Rattle.ppd_model.specs.Setting.{setting_of}
use Rattle.std.proofs.Common.{◌≡◌, ℕ, ◌<◌, ◌≤◌, true, List, [], ◌∷◌, ◌++◌, refl, ap, sym, subst, ◌∙◌, inl, inr, arith, length}
use Rattle.std.specs.Prelude.{IsSome, IsTrue, fold, slice_get, unwrap_or, ◌+◌, option_to_list}
use Rattle.std.specs.List.{flat_map, range_with_len}
use Rattle.ppd_ast.specs.declared.program.Program.{Program}
use Rattle.ppd_ast.specs.declared.plan.Plan.{Plan}
use Rattle.ppd_ast.specs.declared.plan.Policy.{Policy}
use Rattle.ppd_ast.specs.declared.plan.Start.{Start}
use Rattle.ppd_ast.specs.declared.plan.Start.TheVariants.{Entry}
use Rattle.ppd_ast.specs.Valid.{IsValid}
use Rattle.ppd_ast.specs.Members.{has, those}
use Rattle.ppd_ast.proofs.Members.{filter_has, from_zero, flat_from}
use Rattle.ppd_ast.specs.declared.limits.TheConstants.{MOST_SHARED_CELLS}
use Rattle.ppd_sets.specs.Reach.{Reached, closure, leads}
use Rattle.ppd_sets.proofs.Leading.{leads-tests}
use Rattle.ppd_blocks.specs.Used.{reads_at}
use Rattle.ppd_blocks.specs.Starts.{unit_of as unit_from}
use Rattle.ppd_blocks.specs.Walk.{begin_of, unit_cells, unit_rows}
use Rattle.ppd_blocks.proofs.Paths.{sorted_from}
use Rattle.ppd_blocks.proofs.Reading.{read_is_stmt, reads_below}
use Rattle.ppd_blocks.specs.Blocks.{plan_of}
use Rattle.ppd_blocks.proofs.Vocabulary.{block_loops}
use Rattle.ppd_sem.specs.declared.proc.Need.{Need}
use Rattle.ppd_sem.specs.declared.proc.Need.TheVariants.{Read}
use Rattle.ppd_sem.specs.declared.proc.Proc.{Proc}
use Rattle.ppd_sem.specs.declared.proc.Todo.{Todo}
use Rattle.ppd_sem.specs.Process.{act, need_of, started}
use Rattle.ppd_sem.proofs.NeedWords.{act_at}
use Rattle.ppd_sem.specs.Tables.{unit_of}
use Rattle.ppd_sem.specs.Passed.{next_stmt_of}
use Rattle.ppd_model.specs.declared.tracing.Taken.{Taken}
use Rattle.ppd_model.specs.LocalTags.{AreOwn}
use Rattle.ppd_model.specs.Story.{unit_started}
use Rattle.ppd_model.proofs.LocalTags.{own_steps_told}
use Rattle.law_steps.specs.Course.{IsOnCourse}
use Rattle.law_steps.proofs.Course.Beginning.{starts_on_course}
use Rattle.law_steps.proofs.Course.Leading.{stays_on_course, steps_lead}
use Rattle.law_steps.proofs.Course.Reading.{reads_its_cells}
use Rattle.law_steps.specs.Units.{IsCellOf, ReadsLieInCells, unit_after}
use Rattle.law_steps.proofs.Units.InForce.{HasHeadOf, IsInForce, in_unit, starts_body, steps_on}
use Rattle.law_steps.proofs.Units.Needs.{AreCalled, IsEntering, read_has, read_runs, starts_called, stays_called, stays_stopped}
use Rattle.law_steps.proofs.Units.Numbers.{unit_there}

-- a cell that a reached statement may read is among those of the unit
cells_have : (p : Program) (loops : List ℕ) (origin : Start) (s c : ℕ) → IsValid p → Reached (unit_rows p loops) (option_to_list (begin_of p loops origin)) s → IsTrue (has (reads_at true p s) c) → IsTrue (has (unit_cells p loops origin) c)
cells_have p loops origin s c v reached read =
    let n : ℕ = length p.stmts in
    let rows : List (List ℕ) = unit_rows p loops in
    let starts : List ℕ = option_to_list (begin_of p loops origin) in
    let stmts : List ℕ = those n (leads (closure rows) starts) in
    let stands = filter_has (leads (closure rows) starts) (range_with_len 0 n) s (from_zero s n (read_is_stmt p s c read)) ((leads-tests rows starts s).1 reached) in
    let few : length p.starts ≤ MOST_SHARED_CELLS = v.limits.starts in
    let below : c < length p.starts = reads_below p s c v read in
    sorted_from (flat_map (reads_at true p) stmts) c (omega (arith, few, below)) (flat_from (reads_at true p) stmts s c stands read)

module _ (program : Program) (policy : Policy) (v : IsValid program) where
  abbrev plan : Plan
  plan = plan_of program policy

  -- a state of a process, and the unit in force
  record Holds (u : ℕ) (s : Proc) : Type 0 where
    course : IsOnCourse program plan s
    called : AreCalled program s.frames
    force : IsInForce program policy u s

  begun : (p budget : ℕ) → Holds (unit_of plan (Entry (program.functions + p))) (started program plan p budget)
  begun p budget = record {
    course = (starts_on_course program plan p budget v).course;
    called = starts_called program plan p budget;
    force = inr (starts_body program policy (program.functions + p) (unit_of plan (Entry (program.functions + p))) (started program plan p budget).todo refl (starts_on_course program plan p budget v).first);
  }

  -- ---- one step

  by_todo : (u : ℕ) (s : Proc) (x : Taken) (todo : List Todo) → s.todo ≡ todo → x.need ≡ need_of program plan s → Holds u s → HasHeadOf program policy u todo → IsInForce program policy (unit_after u x) (act program plan s x.answer)
  by_todo u s x [] is own holds h = inr (subst (HasHeadOf program policy (unit_after u x)) (sym (ap (λ todo. (act_at program plan x.answer todo s).todo) is ∙ is)) tt)
  by_todo u s x (t ∷ ts) is own holds h =
      subst (λ (n : Need). IsInForce program policy (unwrap_or (unit_started n) u) (act program plan s x.answer)) (sym own)
      (steps_on program policy v s x.answer t ts u is h holds.called (steps_lead program plan s x.answer t.stmt v holds.course (ap next_stmt_of is)))

  in_force : (u : ℕ) (s : Proc) (x : Taken) → x.need ≡ need_of program plan s → Holds u s → IsInForce program policy (unit_after u x) (act program plan s x.answer)
  in_force u s x own holds = elim holds.force [
    | inl stopped ↦ inl (subst (λ (p : Proc). IsSome p.status) (sym (stays_stopped program plan s x.answer stopped)) stopped)
    | inr h ↦ by_todo u s x s.todo refl own holds h
  ]

  next : (u : ℕ) (s : Proc) (x : Taken) → x.need ≡ need_of program plan s → Holds u s → Holds (unit_after u x) (act program plan s x.answer)
  next u s x own holds = record {
    course = stays_on_course program plan s x.answer v holds.course;
    called = stays_called program plan s x.answer holds.called;
    force = in_force u s x own holds;
  }

  -- ---- a read

  reads_head : (u c : ℕ) (s : Proc) (todo : List Todo) → s.todo ≡ todo → need_of program plan s ≡ Read c → HasHeadOf program policy u todo → IsCellOf plan u c
  reads_head u c s [] is need h = absurd (read_has program plan s c need is)
  reads_head u c s (t ∷ ts) is need h =
      let loops : List ℕ = block_loops program policy in
      let reached : Reached (unit_rows program loops) (option_to_list (begin_of program loops h.origin)) t.stmt = in_unit program policy s t ts u is h (λ k. subst IsEntering need k) in
      record {
        found = unit_from program loops h.origin;
        there = ap (slice_get plan.units) h.unit_is ∙ unit_there program policy h.origin h.listed;
        among = cells_have program loops h.origin t.stmt c v reached (reads_its_cells program plan s t.stmt c (ap next_stmt_of is) need);
      }

  reads_unit : (u c : ℕ) (s : Proc) → need_of program plan s ≡ Read c → Holds u s → IsCellOf plan u c
  reads_unit u c s need holds = elim holds.force [
    | inl stopped ↦ absurd (read_runs program plan s c need stopped)
    | inr h ↦ reads_head u c s s.todo refl need h
  ]

  reads_after : (u c : ℕ) (s : Proc) (before : List Taken) (x : Taken) (after : List Taken) → AreOwn program plan s (before ++ x ∷ after) → x.need ≡ Read c → Holds u s → IsCellOf plan (fold unit_after u before) c
  reads_after u c s [] x after own is holds = reads_unit u c s (sym own.0 ∙ is) holds
  reads_after u c s (y ∷ before) x after own is holds = reads_after (unit_after u y) c (act program plan s y.answer) before x after own.1 is (next u s y own.0 holds)

pub reads_lie : ReadsLieInCells
reads_lie program policy budget h p before taken after c v steps is =
    let used : Plan = plan_of program policy in
    let own : AreOwn program used (started program used p budget) (before ++ taken ∷ after) = subst (AreOwn program used (started program used p budget)) steps (own_steps_told (setting_of program used budget) h p) in
    reads_after program policy v (unit_of used (Entry (program.functions + p))) c (started program used p budget) before taken after own is (begun program policy v p budget)
