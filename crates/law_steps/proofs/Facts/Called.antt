-- Of every state of a run: each frame but the lowest is of a function that a statement of the frame below calls.
use Rattle.std.proofs.Common.{◌≡◌, ℕ, ◌≤◌, ℤ, List, [], ◌∷◌, Option, Some, None, refl, sym, subst, arith}
use Rattle.std.specs.Prelude.{⊤, slice_set, replicate, pos}
use Rattle.std.specs.List.{range_with_len}
use Rattle.ppd_ast.specs.declared.plan.Plan.{Plan}
use Rattle.ppd_ast.specs.declared.program.Program.{Program}
use Rattle.ppd_ast.specs.Lookups.{kind_of, body_of}
use Rattle.ppd_sem.specs.declared.proc.Answer.{Answer}
use Rattle.ppd_sem.specs.declared.proc.Frame.{Frame}
use Rattle.ppd_sem.specs.declared.proc.Proc.{Proc}
use Rattle.ppd_sem.specs.declared.proc.Todo.{Todo}
use Rattle.ppd_sem.specs.Deed.{Deed, set_local, clear, invoke, back, receive}
use Rattle.ppd_sem.specs.Process.{act, act_by_deed, into_of, new_frame, receive_at, returned, started, on_top, top_frame, into_at, with_values}
use Rattle.ppd_sem.specs.Runs.{bodies_in}
use Rattle.ppd_model.proofs.Homes.{AreHome, IsHome as IsHomeAll}
use Rattle.law_steps.specs.Beside.Relation.{IsCallOf}
use Rattle.law_steps.proofs.Vocabulary.Relation.{Suits, Yields}
use Rattle.law_steps.proofs.Beside.Deeds.{suits}
use Rattle.law_steps.proofs.Facts.Keeping.{keeps}

pub record IsCalledFrom (program : Program) (f g : Frame) : Type 0 where
  pub stmt : ℕ
  pub stmt_is : f.call ≡ Some stmt
  pub calls : IsCallOf (kind_of program stmt) f.body
  pub home : body_of program stmt ≡ g.body

-- the lowest is a process's
abbrev pub AreCalled : Program → List Frame → Type 0
AreCalled program [] = ⊤
AreCalled program (f ∷ []) = (f.call ≡ None) × (program.functions ≤ f.body)
AreCalled program (f ∷ g ∷ fs) = IsCalledFrom program f g × AreCalled program (g ∷ fs)

-- the head is of the body of the top frame
pub head_home : (program : Program) (frames : List Frame) (t : Todo) (ts : List Todo)
    → AreHome program (bodies_in frames) (t ∷ ts) → (f : Frame) × (fs : List Frame) × (frames ≡ f ∷ fs)
    × (body_of program t.stmt ≡ f.body)
head_home program [] t ts h = absurd h
head_home program (f ∷ fs) t ts h = (f, fs, refl, h.0)

module _ (program : Program) where
  with_cells : (cells : List ℤ) (f : Frame) (fs : List Frame) → AreCalled program (f ∷ fs)
      → AreCalled program (record f { cells = cells } ∷ fs)
  with_cells cells f [] h = h
  with_cells cells f (g ∷ gs) h =
      (record { stmt = h.0.stmt; stmt_is = h.0.stmt_is; calls = h.0.calls; home = h.0.home }, h.1)

  write_called : (c : ℕ) (v : ℤ) (frames : List Frame) → AreCalled program frames
      → AreCalled program (on_top (λ cells. slice_set cells c v) frames)
  write_called c v [] h = h
  write_called c v (f ∷ fs) h = with_cells _ f fs h

  clear_called : (base len : ℕ) (frames : List Frame) → AreCalled program frames
      → AreCalled program (on_top (with_values (range_with_len base len) (replicate len (pos 0))) frames)
  clear_called base len [] h = h
  clear_called base len (f ∷ fs) h = with_cells _ f fs h

  receive_called : (into : Option ℕ) (value : Option ℤ) (frames : List Frame) → AreCalled program frames
      → AreCalled program (receive_at into value frames)
  receive_called (Some c) (Some v) frames h = write_called c v frames h
  receive_called (Some c) None frames h = h
  receive_called None value frames h = h

  from_called : (call : Option ℕ) (value : Option ℤ) (frames : List Frame) → AreCalled program frames
      → AreCalled program (receive_at (into_at program call) value frames)
  from_called None value frames h = h
  from_called (Some s) value frames h = receive_called (into_of (kind_of program s)) value frames h

  below_called : (f : Frame) (fs : List Frame) → AreCalled program (f ∷ fs) → AreCalled program fs
  below_called f [] h = tt
  below_called f (g ∷ gs) h = h.1

  returned_called : (value : Option ℤ) (frames : List Frame) → AreCalled program frames
      → AreCalled program (returned program value frames)
  returned_called value [] h = h
  returned_called value (f ∷ fs) h = from_called f.call value fs (below_called f fs h)

  new_called : (t : Todo) (g : ℕ) (values : List ℤ) (frames : List Frame) (f : Frame) (fs : List Frame)
      → frames ≡ f ∷ fs → body_of program t.stmt ≡ f.body → IsCallOf (kind_of program t.stmt) g
      → AreCalled program frames → AreCalled program (new_frame program g values (Some t.stmt) ∷ frames)
  new_called t g values frames f fs is home calls h =
      subst (λ xs. AreCalled program (new_frame program g values (Some t.stmt) ∷ xs)) (sym is)
      ((record { stmt = t.stmt; stmt_is = refl; calls = calls; home = home }, subst (AreCalled program) is h))

  after_deed : (a : Answer) (t : Todo) (ts : List Todo) (d : Deed) (x : Proc)
      → AreHome program (bodies_in x.frames) (t ∷ ts) → Suits (kind_of program t.stmt) d
      → AreCalled program x.frames → AreCalled program (act_by_deed program a t ts d x).frames
  after_deed a t ts (set_local c v) x home s h = write_called c v x.frames h
  after_deed a t ts (clear base len) x home s h = clear_called base len x.frames h
  after_deed a t ts (receive chan into) x home s h = write_called into _ x.frames h
  after_deed a t ts (back value) x home s h = returned_called value x.frames h
  after_deed a t ts (invoke g values into) x home s h = let top =
      head_home program x.frames t ts home in new_called t g values x.frames top.0 top.1 top.2 top.3 s h
  after_deed a t ts d x home s h = h

  -- each step keeps it
  pub act_called : (plan : Plan) (s : Proc) (a : Answer) → IsHomeAll program s → AreCalled program s.frames
      → AreCalled program (act program plan s a).frames
  act_called plan s a home h = keeps program plan (λ frames todo answers. AreCalled program frames) s a h
      (λ t ts b is e. h)
      (λ t ts v is e. h)
      (λ t ts d left is e f. after_deed a t ts d (record s { answers = [] })
      (subst (λ ys. AreHome program (bodies_in s.frames) ys) is home)
      (subst (Yields (Suits (kind_of program t.stmt))) f
      (suits program.exprs (kind_of program t.stmt) (top_frame s.frames).cells s.answers)) h)
      (λ t ts c is e. h)
      (λ t ts c is e. h)

  pub started_called : (plan : Plan) (p budget : ℕ) → AreCalled program (started program plan p budget).frames
  started_called plan p budget = (refl, omega arith)
