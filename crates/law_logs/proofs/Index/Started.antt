-- Each unit that a step starts is a unit of the plan.
use Rattle.std.specs.Option.{option_map_or}
use Rattle.std.proofs.Common.{◌≡◌, ℕ, ◌+◌, true, List, [], ◌∷◌, length, Some, None, refl, ap, sym, subst, ◌∙◌, inl, inr, eq-eqb, true≢false}
use Rattle.std.specs.Prelude.{IsSome, slice_get, unwrap_or}
use Rattle.ppd_ast.specs.Valid.{IsValid}
use Rattle.ppd_ast.specs.declared.plan.Plan.{Plan}
use Rattle.ppd_ast.specs.declared.plan.Policy.{Policy}
use Rattle.ppd_ast.specs.declared.plan.Start.TheVariants.{Entry}
use Rattle.ppd_ast.specs.declared.plan.Unit.{Unit as UnitOf}
use Rattle.ppd_ast.specs.declared.program.Program.{Program}
use Rattle.ppd_blocks.specs.Blocks.{plan_of}
use Rattle.law_steps.specs.Course.{EndsWithEnd}
use Rattle.law_steps.proofs.Course.Beginning.{starts_on_course}
use Rattle.law_steps.proofs.Course.Leading.{steps_lead}
use Rattle.ppd_sem.specs.declared.proc.Answer.{Answer}
use Rattle.ppd_sem.specs.declared.proc.Proc.{Proc}
use Rattle.ppd_sem.specs.declared.proc.Todo.{Todo}
use Rattle.ppd_sem.specs.Process.{act, need_of, started}
use Rattle.ppd_sem.specs.Tables.{unit_of}
use Rattle.ppd_sem.specs.Passed.{next_stmt_of}
use Rattle.ppd_model.specs.Story.{unit_started}
use Rattle.law_steps.specs.OpenBlocks.Stack.{IsInOrder}
use Rattle.law_steps.proofs.Units.InForce.{HasHeadOf, starts_body, steps_on}
use Rattle.law_steps.proofs.Units.Needs.{AreCalled, starts_called, stays_called}
use Rattle.law_steps.proofs.Units.Numbers.{unit_there}
use Rattle.ppd_index.proofs.Vocabulary.{fits_unit}

module _ (program : Program) (policy : Policy) (v : IsValid program) where
  abbrev plan : Plan
  plan = plan_of program policy

  -- this unit is in force in a running process
  pub record IsUnder (u : ℕ) (s : Proc) : Type 0 where
    pub head : HasHeadOf program policy u s.todo
    pub called : AreCalled program s.frames

  -- the plan has the unit in force, where something is to do
  pub under_there : (u : ℕ) (s : Proc) → IsUnder u s → EndsWithEnd program s.todo → (x : UnitOf) × (slice_get plan.units u ≡ Some x)
  under_there u s h ends = by s.todo h.head ends
    where
      by : (todo : List Todo) → HasHeadOf program policy u todo → EndsWithEnd program todo → (x : UnitOf) × (slice_get plan.units u ≡ Some x)
      by [] head ends = absurd ends
      by (t ∷ ts) head ends = (_, ap (slice_get plan.units) head.unit_is ∙ unit_there program policy head.origin head.listed)

  -- as many values as it has cells
  pub unit_fits : (u : ℕ) (x : UnitOf) (values : List _) → slice_get plan.units u ≡ Some x → length values ≡ length (option_map_or (λ u. u.cells) (slice_get plan.units u) []) → fits_unit (slice_get plan.units u) values ≡ true
  unit_fits u x values at count =
      ap (λ o. fits_unit o values) at ∙ eq-eqb (length values) (length x.cells) (count ∙ ap (λ o. length (option_map_or (λ u. u.cells) o [])) at)

  pub begun_under : (p budget : ℕ) → IsUnder (unit_of plan (Entry (program.functions + p))) (started program plan p budget)
  begun_under p budget = record {
    head = starts_body program policy (program.functions + p) (unit_of plan (Entry (program.functions + p))) (started program plan p budget).todo refl (starts_on_course program plan p budget v).first;
    called = starts_called program plan p budget;
  }

  -- a step of a process that goes on
  pub next_under : (u p : ℕ) (s : Proc) (a : Answer) (t : Todo) (ts : List Todo) → s.todo ≡ t ∷ ts → IsInOrder program plan p s → IsUnder u s → (act program plan s a).status ≡ None → IsUnder (unwrap_or (unit_started (need_of program plan s)) u) (act program plan s a)
  next_under u p s a t ts is order h runs =
      elim (steps_on program policy v s a t ts u is (subst (HasHeadOf program policy u) is h.head) h.called (steps_lead program plan s a t.stmt v order.course (ap next_stmt_of is))) [
        | inl stopped ↦ absurd (true≢false (sym (subst IsSome runs stopped)))
        | inr head ↦ record { head = head; called = stays_called program plan s a h.called }
      ]
