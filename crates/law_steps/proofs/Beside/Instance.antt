-- A process and its replay that are beside each other keep what an interval owes.
use Rattle.std.proofs.Common.{◌≡◌, ℕ, List, ◌++◌, Some, ap, ◌∙◌}
use Rattle.std.specs.Prelude.{⊤}
use Rattle.ppd_ast.specs.declared.plan.BlockKind.TheVariants as block
use Rattle.ppd_ast.specs.declared.plan.Plan.{Plan}
use Rattle.ppd_ast.specs.declared.program.Program.{Program}
use Rattle.ppd_sem.specs.Blocks.{postlog_cells}
use Rattle.ppd_sem.specs.declared.proc.Todo.{Todo}
use Rattle.ppd_sem.specs.Tables.{block_of}
use Rattle.law_steps.proofs.Vocabulary.Alone.{IsKept}
use Rattle.law_steps.proofs.Vocabulary.Relation.{HasEnds, IsBlock}
use Rattle.law_steps.proofs.Beside.Closes.{AreUsed, closes_alike}
use Rattle.law_steps.proofs.Beside.Kept.{IsOwned, frame, head}
use Rattle.law_steps.proofs.Beside.Staying.{IsClosed, stays}

module _ (program : Program) (plan : Plan) (used inside : ℕ → Type 0) (calls : Type 0) (closer : Todo) (home : ℕ)
    (depth : ℕ) (outside : List Todo) where
  -- from what validity and the policy give of the block alone
  pub kept_by : HasEnds program → IsBlock program used inside calls
      → IsOwned program plan used inside calls closer home depth outside
      → IsClosed program plan used inside calls closer home
      → ((s b : ℕ) → inside s → block_of plan (block.Loop s) ≡ Some b → AreUsed used (postlog_cells plan b))
      → IsKept program plan used inside calls closer home depth outside (λ s r. ⊤)
  kept_by ends block_so owned closed_so postlogs = record {
    head = λ s r b k running. head program plan used inside calls closer home depth outside s r b;
    frame = λ s r b k. frame program plan used inside calls closer home depth outside owned s r b;
    stays = λ s r t ts b k running is payable none x.
        stays program plan used inside calls closer home closed_so s t (ts ++ outside) r.frames ts running
        (b.todo ∙ ap (λ ys. ys ++ outside) is) payable none x;
    keeps = λ s r a b k within. tt;
    closes =
        λ s r mark b k running e. closes_alike program plan used inside calls closer home depth ends block_so outside postlogs s r mark b running e;
  }
