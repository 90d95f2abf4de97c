-- At each opening the process has the budget with which it started.
use Rattle.ppd_model.specs.Setting.{setting_of}
use Rattle.std.proofs.Common.{◌≡◌, ℕ, zero, suc, ◌+◌, ◌<◌, List, [], ◌∷◌, Option, Some, None, ap, sym, ◌∙◌, length}
use Rattle.ppd_ast.specs.declared.plan.Plan.{Plan}
use Rattle.ppd_ast.specs.declared.program.Program.{Program}
use Rattle.ppd_ast.specs.Valid.{IsValid}
use Rattle.ppd_model.specs.Pieces.{Piece}
use Rattle.ppd_sem.specs.declared.proc.Answer.{Answer}
use Rattle.ppd_sem.specs.declared.proc.Proc.{Proc}
use Rattle.ppd_sem.specs.Process.{act, started}
use Rattle.ppd_sem.proofs.Progress.{act-within}
use Rattle.ppd_model.specs.Marks.{Mark, opened}
use Rattle.ppd_model.specs.Story.{Moment, unit_started}
use Rattle.law_steps.specs.Coming.Pieces.{unit_pieces}
use Rattle.law_steps.specs.Coming.Openings.{Opening, opening, opening_by, opening_of}
use Rattle.law_steps.proofs.Facts.State.{IsState, act_state, started_state}

abbrev budget_in : Option Opening → ℕ
budget_in None = 0
budget_in (Some o) = o.proc.budget

module _ (program : Program) (plan : Plan) (v : IsValid program) where
  pub act_purse : (s : Proc) (a : Answer) → IsState program plan s → (act program plan s a).budget ≡ s.budget
  act_purse s a h = (act-within program plan s a h.runs.spent).budget

  by_purse : (s : Proc) (m : Moment) (ms : List Moment) (o : Option Mark) (n : ℕ) (units : List Piece)
      → IsState program plan s
      → ((i : ℕ) (x : Opening) → opening program plan (act program plan s m.taken.answer) ms i ≡ Some x
      → x.proc.budget ≡ (act program plan s m.taken.answer).budget)
      → (x : Opening) → opening_by o n units (act program plan s m.taken.answer) ms
      (opening program plan (act program plan s m.taken.answer) ms) ≡ Some x → x.proc.budget ≡ s.budget
  by_purse s m ms None n units h further x e = further n x e ∙ act_purse s m.taken.answer h
  by_purse s m ms (Some k) zero units h further x e = sym (ap budget_in e) ∙ act_purse s m.taken.answer h
  by_purse s m ms (Some k) (suc n) units h further x e = further n x e ∙ act_purse s m.taken.answer h

  pub opening_purse : (s : Proc) (ms : List Moment) (n : ℕ) → IsState program plan s → (x : Opening)
      → opening program plan s ms n ≡ Some x → x.proc.budget ≡ s.budget
  opening_purse s [] n h x e = absurd cc
  opening_purse s (m ∷ ms) n h x e =
      by_purse s m ms (opened program plan s m.taken.need) n (unit_pieces (unit_started m.taken.need) m.unit_values) h
      (λ i y f. opening_purse (act program plan s m.taken.answer) ms i
      (act_state program plan v s m.taken.answer h) y f) x e

  pub opening_of_purse : (budget p : ℕ) (ms : List Moment) (k : ℕ) → program.functions + p < length program.bodies
      → (x : Opening) → opening_of (setting_of program plan budget) p ms k ≡ Some x → x.proc.budget ≡ budget
  opening_of_purse budget p ms zero lt x e = sym (ap budget_in e)
  opening_of_purse budget p ms (suc k) lt x e =
      opening_purse (started program plan p budget) ms k (started_state program plan v p budget lt) x e
