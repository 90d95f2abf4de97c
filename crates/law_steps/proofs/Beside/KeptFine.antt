-- What an interval owes is kept also together with what is known of every state.
use Rattle.std.proofs.Common.{ℕ, List}
use Rattle.std.specs.Prelude.{⊤}
use Rattle.ppd_ast.specs.declared.plan.Plan.{Plan}
use Rattle.ppd_ast.specs.declared.program.Program.{Program}
use Rattle.ppd_sem.specs.declared.proc.Proc.{Proc}
use Rattle.ppd_sem.specs.declared.proc.Todo.{Todo}
use Rattle.law_steps.proofs.Vocabulary.Alone.{IsKept}
use Rattle.law_steps.proofs.Vocabulary.Fine.{IsFine}

module _ (program : Program) (plan : Plan) (used inside : ℕ → Type 0) (calls : Type 0) (closer : Todo) (home : ℕ)
    (depth : ℕ) (outside : List Todo) (Fine : Proc → Type 0) (fine : IsFine program plan Fine) where
  pub kept_fine : IsKept program plan used inside calls closer home depth outside (λ s r. ⊤)
      → IsKept program plan used inside calls closer home depth outside (λ s r. Fine s)
  kept_fine k = record {
    head = λ s r b ok running. k.head s r b tt running;
    frame = λ s r b ok. k.frame s r b tt;
    stays = λ s r t ts b ok running is payable none x. k.stays s r t ts b tt running is payable none x;
    keeps = λ s r a b ok within. fine.on s a ok;
    closes = λ s r mark b ok running e. k.closes s r mark b tt running e;
  }
