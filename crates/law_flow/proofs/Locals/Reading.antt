-- Small facts of one read and of the step of an event.
use Rattle.law_flow.proofs.Locals.InFrame.{AllIn, kinds_in, uses_of}
use Rattle.law_steps.proofs.Facts.State.{IsState}
use Rattle.ppd_ast.specs.Lookups.{kind_of}
use Rattle.ppd_ast.specs.Valid.{IsValid}
use Rattle.ppd_ast.specs.declared.plan.Plan.{Plan}
use Rattle.ppd_ast.specs.declared.program.Program.{Program}
use Rattle.ppd_model.proofs.Changes.{some}
use Rattle.ppd_model.proofs.FromEnd.{hit}
use Rattle.ppd_model.specs.FullTrace.{Tag, event_of, tag_past, tags_of, trace_by, trace_step}
use Rattle.ppd_model.specs.Intervals.{Split, split_step}
use Rattle.ppd_model.specs.LocalTags.{cells_in}
use Rattle.ppd_model.specs.Story.{story}
use Rattle.ppd_model.specs.declared.tracing.Story.{Story}
use Rattle.ppd_model.specs.declared.tracing.Taken.{Taken}
use Rattle.ppd_model.specs.declared.tracing.Tracing.{Tracing}
use Rattle.ppd_sem.proofs.Running.{head_over}
use Rattle.ppd_sem.proofs.Validity.{valid-runnable}
use Rattle.ppd_sem.specs.Described.{evaluates, frame_of, is_event}
use Rattle.ppd_sem.specs.Process.{need_of, top_frame}
use Rattle.ppd_sem.specs.Reads.{reads_of_kind}
use Rattle.ppd_sem.specs.Runs.{sizes}
use Rattle.ppd_sem.specs.declared.event.Access.{Access}
use Rattle.ppd_sem.specs.declared.event.Spot.TheVariants.{Local}
use Rattle.ppd_sem.specs.declared.proc.Frame.{Frame}
use Rattle.ppd_sem.specs.declared.proc.Need.{Need}
use Rattle.ppd_sem.specs.declared.proc.Need.TheVariants as need
use Rattle.ppd_sem.specs.declared.proc.Proc.{Proc}
use Rattle.ppd_sem.specs.declared.proc.Todo.{Todo}
use Rattle.std.proofs.Common.{Bool, List, Some, [], ap, arith, false, if◌then◌else◌, inl, inr, length, length-append, nat_lt, refl, subst, suc, sym, true, true≢false, zero, ℕ, ◌+◌, ◌<◌, ◌∙◌, ◌∷◌, ◌≡◌, ◌≤◌}
use Rattle.std.proofs.lemmas.Bool.{cases_lt, lt-ltb, ltb-true}
use Rattle.std.proofs.lemmas.List.{length-map}
use Rattle.std.proofs.lemmas.Option.{none-some}
use Rattle.std.specs.Prelude.{fold, slice_get, zip}

pub local_is : (ls answers : List Tag) (as' : List Access) (i : ℕ) (a : Access) (w : Tag) (f c : ℕ)
    → slice_get (zip as' (tags_of ls answers as')) i ≡ Some (a, w) → a.spot ≡ Local f c
    → (slice_get as' i ≡ Some a) × (w ≡ (tag_past ls [] (Local f c)).0)
local_is ls answers [] i a w f c e is = absurd (none-some (a, w) e)
local_is ls answers (b ∷ bs) zero a w f c e is =
    let same : b ≡ a = ap (λ (q : Access × Tag). q.0) (some e) in (
      ap (λ z. Some z) same,
      sym (ap (λ (q : Access × Tag). q.1) (some e)) ∙ ap (λ (z : Access). (tag_past ls answers z.spot).0) same
          ∙ ap (λ s. (tag_past ls answers s).0) is,
    )
local_is ls answers (b ∷ bs) (suc i) a w f c e is = local_is ls (tag_past ls answers b.spot).1 bs i a w f c e is

pub top_size : (frames : List Frame) (k : ℕ) → length frames ≡ suc k → cells_in frames k ≡ length (top_frame frames).cells
top_size [] k e = absurd (omega (arith, e))
top_size (f ∷ fs) k e = hit 0 (length f.cells) (sizes fs) k (let z : length (sizes fs) ≡ length fs =
    length-map fs (λ (g : Frame). length g.cells) in omega (arith, e, z))

-- the reads of an event are of its frame
pub reads_in : (program : Program) (plan : Plan) (s : Proc) (t : Taken) (h : Todo) (hs : List Todo) → IsValid program
    → IsState program plan s → s.todo ≡ h ∷ hs
    → AllIn (frame_of program plan s) (length (top_frame s.frames).cells) (event_of program plan s t s.todo).reads
reads_in program plan s t h hs v state is =
    subst (λ todo. AllIn (frame_of program plan s) (length (top_frame s.frames).cells)
    (event_of program plan s t todo).reads) (sym is) (by (evaluates (need_of program plan s)))
  where
    by : (b : Bool) → AllIn (frame_of program plan s) (length (top_frame s.frames).cells)
        (if b then reads_of_kind (frame_of program plan s) program.exprs (kind_of program h.stmt)
        (top_frame s.frames).cells s.answers else [])
    by true =
        kinds_in (frame_of program plan s) (length (top_frame s.frames).cells) program.exprs (top_frame s.frames).cells s.answers
        (kind_of program h.stmt)
        (uses_of program (length (top_frame s.frames).cells) h.stmt (valid-runnable program v)
        (head_over program s h state.runs (ap (λ ys. slice_get ys 0) is)))
    by false = tt

-- the trace of a process in its intervals
pub trace_is : (program : Program) (pl : Plan) (story : Story) (p : ℕ) (x : Split) (steps : List Taken)
    → (fold (split_step program pl story p) x steps).trace ≡ fold (trace_step program pl story p) x.trace steps
trace_is program pl story p x [] = refl
trace_is program pl story p x (t ∷ ts) = trace_is program pl story p (split_step program pl story p x t) ts

-- ---- the step of an event

pub events_len : (program : Program) (pl : Plan) (story : Story) (p : ℕ) (t : Tracing) (x : Taken) (n : Need)
    → length (trace_by program pl story p x n t).events ≡ (if is_event n then length t.events + 1 else length t.events)
events_len program pl story p t x (need.Read c) = refl
events_len program pl story p t x (need.Enter b u) = refl
events_len program pl story p t x need.Budget = refl
events_len program pl story p t x need.Stopped = refl
events_len program pl story p t x n = length-append t.events _

pub below_not : (n m : ℕ) → nat_lt n m ≡ false → m ≤ n
below_not n m h = elim (cases_lt n m) [ inl lt ↦ absurd (true≢false (sym (lt-ltb n m lt) ∙ h)) | inr ge ↦ ge ]

pub none_yet : (n : ℕ) → nat_lt n 0 ≡ false
none_yet n = by (nat_lt n 0) refl
  where
    by : (b : Bool) → nat_lt n 0 ≡ b → b ≡ false
    by true e = let lt : n < 0 = ltb-true n 0 e in absurd (omega (arith, lt))
    by false e = refl

-- the first step with which there are more than n events is that of event n
pub event_step : (n a b : ℕ) (e : Bool) → a ≤ n → n < b → b ≡ (if e then a + 1 else a) → (e ≡ true) × (n ≡ a)
event_step n a b true le lt is = (refl, omega (arith, le, lt, is))
event_step n a b false le lt is = absurd (omega (arith, le, lt, is))
