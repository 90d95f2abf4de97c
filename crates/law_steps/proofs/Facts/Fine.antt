-- What holds of every state of a run is enough for a nested block to be crossed.
use Rattle.std.proofs.Common.{◌≡◌, List, ◌∷◌, ap, subst, ◌∙◌, length}
use Rattle.ppd_ast.specs.declared.plan.Plan.{Plan}
use Rattle.ppd_ast.specs.declared.program.Program.{Program}
use Rattle.ppd_ast.specs.Valid.{IsValid}
use Rattle.ppd_ast.specs.Lookups.{kind_of}
use Rattle.ppd_sem.specs.declared.proc.Proc.{Proc}
use Rattle.ppd_sem.specs.declared.proc.Todo.{Todo}
use Rattle.ppd_sem.specs.Runs.{bodies_in}
use Rattle.ppd_model.proofs.Homes.{AreHome}
use Rattle.law_steps.proofs.Vocabulary.Relation.{IsEnd}
use Rattle.law_steps.proofs.Vocabulary.Fine.{IsFine}
use Rattle.law_steps.proofs.Facts.Called.{head_home}
use Rattle.law_steps.proofs.Facts.Ended.{end_is}
use Rattle.law_steps.proofs.Facts.State.{IsState, act_state, end_lowest, head_is_home}

module _ (program : Program) (plan : Plan) (v : IsValid program) where
  one_frame : (s : Proc) (t : Todo) (ts : List Todo) → IsState program plan s → s.todo ≡ t ∷ ts
      → IsEnd (kind_of program t.stmt) → length s.frames ≡ 1
  one_frame s t ts h is e =
      let top = head_home program s.frames t ts (subst (λ ys. AreHome program (bodies_in s.frames) ys) is h.home) in
      ap length (top.2 ∙ ap (λ fs. top.0 ∷ fs) (end_lowest program plan v s h t ts is e top.0 top.1 top.2))

  pub states_fine : IsFine program plan (IsState program plan)
  states_fine = record {
    on = λ s a h. act_state program plan v s a h;
    home = λ s t ts h running is. head_is_home program plan v s h t ts is;
    ends = λ s t ts b h is e.
        (let ending : IsEnd
        (kind_of program t.stmt) = end_is program plan s t ts b is e in (ending, one_frame s t ts h is ending));
  }
