-- An opening has all that the proofs of a replay take of its block.
use Rattle.std.proofs.Common.{◌≡◌, ℕ, ◌+◌, length}
use Rattle.std.specs.Prelude.{⊤}
use Rattle.ppd_ast.specs.declared.plan.Policy.{Policy}
use Rattle.ppd_ast.specs.declared.program.Program.{Program}
use Rattle.ppd_ast.specs.Valid.{IsValid}
use Rattle.ppd_blocks.specs.Blocks.{plan_of}
use Rattle.ppd_sem.specs.Blocks.{block_body, block_kind, block_todo}
use Rattle.law_steps.proofs.Vocabulary.Alone.{IsKept}
use Rattle.law_steps.proofs.Vocabulary.Relation.{HasEnds, IsBlock, IsOwnTodo}
use Rattle.law_steps.proofs.Vocabulary.Held.{IsWritingBlock}
use Rattle.law_steps.specs.Coming.Openings.{Opening}
use Rattle.law_steps.specs.Beside.Opens.{IsCountable}
use Rattle.law_steps.proofs.Openings.Blocks.{begins_own, block_is, block_kept, block_writing, calls_in, closer_in, inside_in, opening_frames, used_in, written_in}
use Rattle.law_steps.specs.OpenBlocks.Stack.{block_frames}
use Rattle.law_steps.proofs.Openings.AtBlocks.{IsAtBlock}
use Rattle.law_steps.proofs.Facts.BlockOpens.{is_countable}
use Rattle.law_steps.proofs.Facts.Placed.{has_ends}
use Rattle.law_steps.proofs.OpenBlocks.Planned.{kind_is}

module _ (program : Program) (policy : Policy) (v : IsValid program) (o : Opening)
    (h : IsAtBlock program (plan_of program policy) o) where
  pub record HasStatics : Type 0 where
    pub ends : HasEnds program
    pub countable : IsCountable program (plan_of program policy)
    pub kind : block_kind (plan_of program policy) o.mark.block ≡ h.at.kind
    pub block : IsBlock program (used_in program h.at.kind) (inside_in program h.at.kind) (calls_in program h.at.kind)
    pub writing : IsWritingBlock program (written_in program h.at.kind) (inside_in program h.at.kind)
    pub begins : IsOwnTodo (inside_in program h.at.kind) (closer_in program h.at.kind) (block_todo program h.at.kind)
    pub kept : (depth : ℕ) → IsKept program (plan_of program policy) (used_in program h.at.kind)
        (inside_in program h.at.kind) (calls_in program h.at.kind) (closer_in program h.at.kind)
        (block_body program h.at.kind) depth h.at.later (λ s r. ⊤)
    pub count : calls_in program h.at.kind
        → length o.proc.frames ≡ 1 + block_frames (plan_of program policy) o.proc.frames

  pub statics : HasStatics
  statics = record {
    ends = has_ends program v;
    countable = is_countable program (plan_of program policy) v;
    kind = kind_is program policy h.at.kind o.mark.block h.at.block_is;
    block = block_is program policy v h.at.kind o.mark.block h.at.block_is;
    writing = block_writing program policy v h.at.kind o.mark.block h.at.block_is;
    begins = begins_own program policy v h.at.kind h.at.there;
    kept = λ depth. block_kept program policy v h.at.kind o.mark.block h.at.block_is h.at.there depth h.at.later;
    count = opening_frames program policy o.proc h.at.kind h.at.frame h.at.below v h.state h.at.top h.at.home;
  }
