-- At a block the process and its replay are beside each other, whose depth is the count of blocks.
use Rattle.std.proofs.Common.{◌≡◌, ℕ, ◌-◌, ℤ, pos, List, [], ◌∷◌, Option, Some, None, refl, ap, sym, subst, ◌∙◌, arith, length, map}
use Rattle.std.specs.Prelude.{slice_get, get_or, unwrap_or}
use Rattle.std.proofs.lemmas.List.{length-replicate}
use Rattle.ppd_ast.specs.declared.plan.BlockKind.{BlockKind}
use Rattle.ppd_ast.specs.declared.plan.Policy.{Policy}
use Rattle.ppd_ast.specs.declared.program.Body.{Body}
use Rattle.ppd_ast.specs.declared.program.Program.{Program}
use Rattle.ppd_ast.specs.Valid.{IsValid}
use Rattle.ppd_blocks.specs.Blocks.{plan_of}
use Rattle.ppd_sem.specs.Blocks.{at_block, block_body, block_todo, prelog_cells}
use Rattle.ppd_sem.specs.declared.proc.Frame.{Frame}
use Rattle.ppd_sem.specs.declared.proc.Proc.{Proc}
use Rattle.ppd_sem.specs.Process.{new_frame, with_values}
use Rattle.ppd_sem.proofs.NeedWords.{cells_for}
use Rattle.ppd_sem.specs.Runs.{size_of}
use Rattle.law_steps.proofs.Vocabulary.Relation.{IsBeside, IsSameIn, Stacked, at_base}
use Rattle.law_steps.specs.Coming.Openings.{Opening}
use Rattle.law_steps.proofs.Openings.Blocks.{begins_own, calls_in, closer_in, inside_in, opening_frames, used_in}
use Rattle.law_steps.specs.OpenBlocks.Stack.{block_frames}
use Rattle.law_steps.proofs.Beside.Filled.{filled, filled_length}
use Rattle.law_steps.proofs.Openings.AtBlocks.{IsAtBlock}
use Rattle.law_steps.proofs.OpenBlocks.Planned.{kind_is, prelog_cells_are}
use Rattle.law_steps.proofs.Openings.Prelogged.{others_zero, prelogged_values}
use Rattle.law_steps.proofs.Facts.Sized.{AreSized}
use Rattle.ppd_ast.specs.Lookups.{no_body}

zeros_length : (o : Option Body) → length (cells_for o []) ≡ (unwrap_or o no_body).cells
zeros_length None = refl
zeros_length (Some b) = omega (arith, length-replicate (b.cells - 0) (pos 0))

-- the replay's own frame at its beginning
abbrev pub begun_frame : Program → ℕ → List ℕ → List ℤ → Frame
begun_frame program body cells values =
    record (new_frame program body [] None)
    { cells = with_values cells values (new_frame program body [] None).cells }

-- a process state that begins at a block of this kind
abbrev pub at_kind : Program → BlockKind → List ℕ → List ℤ → ℕ → ℕ → Proc
at_kind program kind cells values depth budget = record {
  frames = begun_frame program (block_body program kind) cells values ∷ [];
  todo = block_todo program kind;
  answers = [];
  below = depth;
  budget = budget;
  spent = 0;
  steps = 0;
  prints = [];
  status = None;
}

module _ (program : Program) (policy : Policy) (v : IsValid program) (o : Opening)
    (h : IsAtBlock program (plan_of program policy) o) (depth budget : ℕ) where
  -- the budget is the same, and the depth is the count of blocks
  pub record IsFilling : Type 0 where
    pub purse : o.proc.budget ≡ budget
    pub deep : calls_in program h.at.kind → block_frames (plan_of program policy) o.proc.frames ≡ depth

  module _ (k : IsFilling) where
    own_sized : length h.at.frame.cells ≡ length (new_frame program (block_body program h.at.kind) [] None).cells
    own_sized =
        (subst (AreSized program) h.at.top h.state.sized).0 ∙ ap (size_of program) h.at.home
        ∙ sym (zeros_length (slice_get program.bodies (block_body program h.at.kind)))

    same_frames : IsSameIn (used_in program h.at.kind) h.at.frame
        (begun_frame program (block_body program h.at.kind) (prelog_cells (plan_of program policy) o.mark.block)
        (map (λ c. get_or h.at.frame.cells c (pos 0)) (prelog_cells (plan_of program policy) o.mark.block)))
    same_frames = record {
      body = h.at.home;
      cells = record {
        lengths = own_sized ∙ sym (filled_length
            (prelog_cells (plan_of program policy) o.mark.block) h.at.frame.cells
            (new_frame program (block_body program h.at.kind) [] None).cells);
        values = λ c u. filled (prelog_cells (plan_of program policy) o.mark.block) h.at.frame.cells
            (new_frame program (block_body program h.at.kind) [] None).cells c own_sized
            (others_zero program h.at.kind h.at.frame o.mark.values
            (plan_of program policy) o.mark.block c h.at.there
            (prelog_cells_are program policy h.at.kind o.mark.block h.at.block_is) h.at.marked u);
      };
    }

    begun_stacked : Stacked program (used_in program h.at.kind) (inside_in program h.at.kind)
        (calls_in program h.at.kind) (closer_in program h.at.kind) (block_body program h.at.kind) o.proc.frames
        (begun_frame program (block_body program h.at.kind)
        (prelog_cells (plan_of program policy) o.mark.block) o.mark.values ∷ []) (block_todo program h.at.kind)
    begun_stacked =
        subst (λ fs. Stacked program (used_in program h.at.kind) (inside_in program h.at.kind)
        (calls_in program h.at.kind) (closer_in program h.at.kind) (block_body program h.at.kind) fs
        (begun_frame program (block_body program h.at.kind)
        (prelog_cells (plan_of program policy) o.mark.block) o.mark.values ∷ [])
        (block_todo program h.at.kind)) (sym h.at.top)
        (subst (λ vs. Stacked program (used_in program h.at.kind) (inside_in program h.at.kind)
        (calls_in program h.at.kind) (closer_in program h.at.kind) (block_body program h.at.kind)
        (h.at.frame ∷ h.at.below)
        (begun_frame program (block_body program h.at.kind)
        (prelog_cells (plan_of program policy) o.mark.block) vs ∷ []) (block_todo program h.at.kind))
        (sym (prelogged_values program h.at.kind h.at.frame o.mark.values
        (plan_of program policy) o.mark.block h.at.there
        (prelog_cells_are program policy h.at.kind o.mark.block h.at.block_is) h.at.marked))
        (at_base h.at.frame _ h.at.below [] (block_todo program h.at.kind) same_frames h.at.home refl
        (begins_own program policy v h.at.kind h.at.there)))

    begun_kind : IsBeside program (used_in program h.at.kind) (inside_in program h.at.kind)
        (calls_in program h.at.kind) (closer_in program h.at.kind)
        (block_body program h.at.kind) depth h.at.later o.proc
        (at_kind program h.at.kind (prelog_cells (plan_of program policy) o.mark.block) o.mark.values depth budget)
    begun_kind = record {
      todo = h.at.todo;
      frames = begun_stacked;
      whole = h.state.whole;
      below = refl;
      count = λ c. omega (arith, opening_frames program policy o.proc h.at.kind h.at.frame h.at.below v h.state h.at.top h.at.home c, k.deep c);
      answers = h.at.answers;
      status = h.at.running;
      budget = k.purse;
      spent = omega arith;
    }

    -- at a block the two are beside each other
    pub begun_beside : IsBeside program (used_in program h.at.kind) (inside_in program h.at.kind)
        (calls_in program h.at.kind) (closer_in program h.at.kind)
        (block_body program h.at.kind) depth h.at.later o.proc
        (at_block program (plan_of program policy) o.mark.block o.mark.values depth budget)
    begun_beside =
        subst (λ kind. IsBeside program (used_in program h.at.kind) (inside_in program h.at.kind)
        (calls_in program h.at.kind) (closer_in program h.at.kind)
        (block_body program h.at.kind) depth h.at.later o.proc
        (at_kind program kind (prelog_cells (plan_of program policy) o.mark.block) o.mark.values depth budget))
        (sym (kind_is program policy h.at.kind o.mark.block h.at.block_is)) begun_kind
