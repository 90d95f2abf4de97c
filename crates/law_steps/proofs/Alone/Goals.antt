-- What is proved of all steps of one interval.
use Rattle.std.proofs.Common.{◌≡◌, ℕ, ◌+◌, ◌<◌, ◌≤◌, ℤ, List, [], ◌++◌, map, Some, None, false}
use Rattle.ppd_ast.specs.declared.plan.Plan.{Plan}
use Rattle.ppd_ast.specs.declared.program.Program.{Program}
use Rattle.ppd_sem.specs.declared.proc.Need.{Need}
use Rattle.ppd_sem.specs.declared.proc.Proc.{Proc}
use Rattle.ppd_sem.specs.declared.proc.Todo.{Todo}
use Rattle.ppd_sem.specs.Process.{need_of}
use Rattle.ppd_model.specs.declared.flow.Item.{Item}
use Rattle.ppd_model.specs.Story.{Moment}
use Rattle.ppd_model.specs.Fits.{wanted_of}
use Rattle.ppd_model.specs.declared.wanted.Wanted.TheVariants as wanted
use Rattle.ppd_model.specs.Replay.{Replaying, is_budget, replay_from, with_call}
use Rattle.law_steps.proofs.Vocabulary.Relation.{IsBeside}
use Rattle.law_steps.specs.Coming.Pieces.{Inner, before, coming}
use Rattle.law_steps.specs.OpenBlocks.Run.{IsRun}
use Rattle.law_steps.specs.InForce.Values.{AreRead}
use Rattle.law_steps.proofs.Alone.Turns.{given}

module _ (program : Program) (plan : Plan) where
  -- the replay stands at the step that opens the interval inside
  pub record IsOpening (r : Replaying) (b : ℕ) (n : Need) (items : List Item) : Type 0 where
    pub need : need_of program plan r.proc ≡ n
    pub payable : is_budget n ≡ false
    pub wants : wanted_of program plan r.proc n ≡ Some (wanted.Nested b)
    pub call : with_call program plan n r ≡ record r { items = r.items ++ items }

module _ (program : Program) (plan : Plan) (used inside : ℕ → Type 0) (calls : Type 0) (closer : Todo) (home : ℕ)
    (depth : ℕ) (outside : List Todo) (Kept : Proc → Proc → Type 0) where
  abbrev Beside : Proc → Proc → Type 0
  Beside s r = IsBeside program used inside calls closer home depth outside s r

  -- a step of the interval's own comes next
  pub record IsAlong (s : Proc) (r : Replaying) : Type 0 where
    pub beside : Beside s r.proc
    pub kept_so : Kept s r.proc
    pub running : s.status ≡ None
    pub paid : s.spent ≤ s.budget

  abbrev pub OwnGoal : List Moment → Type 0
  OwnGoal ms =
      (s : Proc) (r : Replaying) (next fuel : ℕ) → IsAlong s r → AreRead plan r.in_force ms → IsRun program plan s ms
      → map (λ q. q.1) r.pieces ≡ (coming program plan s ms None next r.since).pieces
      → r.proc.budget < r.proc.spent + fuel
      → replay_from program plan fuel r ≡ given r (coming program plan s ms None next r.since)

  module _ (Across : Proc → ℕ → Proc → Type 0) where
    abbrev pub AcrossGoal : List Moment → Type 0
    AcrossGoal ms =
        (x : Proc) (r : Replaying) (zs : List (ℕ × ℤ)) (i : Inner) (n : Need) (items : List Item)
        (next since fuel : ℕ) → IsOpening program plan r i.block n items → Across r.proc i.level x
        → AreRead plan zs ms → IsRun program plan x ms
        → map (λ q. q.1) r.pieces ≡ (coming program plan x ms (Some i) next since).pieces
        → r.proc.spent ≤ r.proc.budget → r.proc.budget < r.proc.spent + fuel
        → replay_from program plan fuel r ≡ given r (before [] items 1 (coming program plan x ms (Some i) next since))
