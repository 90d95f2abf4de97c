-- What an interval alone owes: the three parts of which its replay is put together.
use Rattle.std.specs.Prelude.{◌≡◌, ℕ, suc, ◌+◌, ◌≤◌, false, List, ◌∷◌, Some, None}
use Rattle.ppd_ast.specs.declared.plan.Plan.{Plan}
use Rattle.ppd_ast.specs.declared.program.Program.{Program}
use Rattle.ppd_sem.specs.declared.proc.Answer.{Answer}
use Rattle.ppd_sem.specs.declared.proc.Need.{Need}
use Rattle.ppd_sem.specs.declared.proc.Proc.{Proc}
use Rattle.ppd_sem.specs.declared.proc.Todo.{Todo}
use Rattle.ppd_sem.specs.Described.{frame_of, trap_of}
use Rattle.ppd_sem.specs.Process.{act, head_deed, need_of, offer_of}
use Rattle.ppd_model.specs.Logs.{status_of}
use Rattle.ppd_model.specs.Marks.{Mark, opened, closed}
use Rattle.ppd_model.specs.Story.{unit_started}
use Rattle.ppd_sem.specs.Blocks.{skipped, unit_past}
use Rattle.ppd_model.specs.Fits.{wanted_of}
use Rattle.ppd_model.specs.declared.wanted.Wanted.TheVariants as wanted
use Rattle.ppd_model.specs.Replay.{is_budget}
use Rattle.law_steps.proofs.Vocabulary.Relation.{IsBeside, Stacked, StaysAt}

-- the step neither opens nor closes an interval, nor ends the process
pub record IsInside (program : Program) (plan : Plan) (s : Proc) (n : Need) : Type 0 where
  pub opens : opened program plan s n ≡ None
  pub closes : closed program plan s n ≡ None
  pub goes_on : status_of n ≡ None

-- the replay closes its own interval next, with the values of this mark
pub record IsClosing (program : Program) (plan : Plan) (mark : Mark) (r : Proc) : Type 0 where
  pub need : Need
  pub need_is : need_of program plan r ≡ need
  pub payable : is_budget need ≡ false
  pub wants : wanted_of program plan r need ≡ Some (wanted.Postlog mark.values)
  pub no_trap : trap_of need ≡ None

-- what more is kept of a process and its replay that are beside each other: the interval's own closing statement stands last
pub record IsKept (program : Program) (plan : Plan) (used inside : ℕ → Type 0) (calls : Type 0) (closer : Todo)
    (home : ℕ) (depth : ℕ) (outside : List Todo) (Kept : Proc → Proc → Type 0) : Type 0 where
  pub head : (s r : Proc) → IsBeside program used inside calls closer home depth outside s r → Kept s r
      → s.status ≡ None → (t : Todo) × (ts : List Todo) × (r.todo ≡ t ∷ ts)
  pub frame : (s r : Proc) → IsBeside program used inside calls closer home depth outside s r → Kept s r
      → frame_of program plan s ≡ frame_of program plan r
  pub stays : (s r : Proc) (t : Todo) (ts : List Todo)
      → IsBeside program used inside calls closer home depth outside s r → Kept s r → s.status ≡ None
      → r.todo ≡ t ∷ ts → is_budget (need_of program plan s) ≡ false
      → closed program plan s (need_of program plan s) ≡ None
      → (x : Stacked program used inside calls closer home s.frames r.frames (t ∷ ts)) → StaysAt (offer_of program t)
      (head_deed program t s) x
  pub keeps : (s r : Proc) (a : Answer) → IsBeside program used inside calls closer home depth outside s r → Kept s r
      → IsInside program plan s (need_of program plan s) → Kept (act program plan s a) (act program plan r a)
  pub closes : (s r : Proc) (mark : Mark) → IsBeside program used inside calls closer home depth outside s r
      → Kept s r → s.status ≡ None → closed program plan s (need_of program plan s) ≡ Some mark
      → IsClosing program plan mark r

-- past the block the process and the replay are beside each other again, and the unit after it starts
pub record HasLeft (program : Program) (plan : Plan) (used inside : ℕ → Type 0) (calls : Type 0) (closer : Todo)
    (home : ℕ) (depth : ℕ) (outside : List Todo) (Kept : Proc → Proc → Type 0) (mark : Mark) (r x : Proc)
    (a : Answer) : Type 0 where
  pub beside : IsBeside program used inside calls closer home depth outside (act program plan x a)
      (skipped program plan mark.values r)
  pub kept : Kept (act program plan x a) (skipped program plan mark.values r)
  pub unit_is : unit_started (need_of program plan x) ≡ Some (unit_past plan r.todo (need_of program plan r))
  pub running : (act program plan x a).status ≡ None
  pub paid : (act program plan x a).spent ≤ (act program plan x a).budget

-- a process that runs in a block which it entered beside the replay r: `level` further blocks run in that one
pub record IsCrossing (program : Program) (plan : Plan) (used inside : ℕ → Type 0) (calls : Type 0) (closer : Todo)
    (home : ℕ) (depth : ℕ) (outside : List Todo) (Kept : Proc → Proc → Type 0) (Across : Proc → ℕ → Proc
    → Type 0) : Type 0 where
  pub begins : (s r : Proc) (a : Answer) (mark : Mark)
      → IsBeside program used inside calls closer home depth outside s r → Kept s r → s.status ≡ None
      → opened program plan s (need_of program plan s) ≡ Some mark
      → (need_of program plan r ≡ need_of program plan s) × Across r 0 (act program plan s a)
  pub opens : (r x : Proc) (a : Answer) (level : ℕ) (mark : Mark) → Across r level x
      → opened program plan x (need_of program plan x) ≡ Some mark → Across r (level + 1) (act program plan x a)
  pub goes_on : (r x : Proc) (a : Answer) (level : ℕ) → Across r level x
      → IsInside program plan x (need_of program plan x) → Across r level (act program plan x a)
  pub closes : (r x : Proc) (a : Answer) (level : ℕ) (mark : Mark) → Across r (suc level) x
      → opened program plan x (need_of program plan x) ≡ None
      → closed program plan x (need_of program plan x) ≡ Some mark → Across r level (act program plan x a)
  pub leaves : (r x : Proc) (a : Answer) (mark : Mark) → Across r 0 x
      → opened program plan x (need_of program plan x) ≡ None
      → closed program plan x (need_of program plan x) ≡ Some mark
      → HasLeft program plan used inside calls closer home depth outside Kept mark r x a
