-- One step of a process: it tags the local cells that its event writes, and keeps the other tags.
use Rattle.std.proofs.Common.{◌≡◌, ℕ, zero, suc, ◌<◌, ◌≤◌, ℤ, Bool, true, false, ◌&&◌, ◌||◌, List, [], ◌∷◌, Option, Some, None, Ok, Err, refl, ap, sym, subst, ◌∙◌, cond, length, map}
use Rattle.std.specs.Prelude.{⊤}
use Rattle.ppd_ast.specs.declared.plan.Plan.{Plan}
use Rattle.ppd_ast.specs.declared.program.Program.{Program}
use Rattle.ppd_ast.specs.declared.status.Status.{Status}
use Rattle.ppd_ast.specs.declared.status.Trap.{Trap as TrapOf}
use Rattle.ppd_ast.specs.declared.status.Trap.TheVariants as trap
use Rattle.ppd_sem.specs.declared.asking.Pause.TheVariants.{Wants, Traps}
use Rattle.ppd_sem.specs.declared.event.Event.{Event}
use Rattle.ppd_sem.specs.declared.proc.Answer.{Answer}
use Rattle.ppd_sem.specs.declared.proc.Frame.{Frame}
use Rattle.ppd_sem.specs.declared.proc.Need.{Need}
use Rattle.ppd_sem.specs.declared.proc.Need.TheVariants.{Read, Enter, Invoke, Offer, Done, Trap, Budget, Stopped}
use Rattle.ppd_sem.specs.declared.proc.Proc.{Proc}
use Rattle.ppd_sem.specs.declared.proc.Todo.{Todo}
use Rattle.ppd_ast.specs.declared.program.Expr.{Expr}
use Rattle.ppd_ast.specs.declared.program.Kind.{Kind}
use Rattle.ppd_ast.specs.declared.program.Kind.TheVariants as kind
use Rattle.ppd_ast.specs.Term.{term}
use Rattle.ppd_ast.specs.Lookups.{kind_of}
use Rattle.std.proofs.lemmas.Option.{none-some}
use Rattle.ppd_sem.specs.Ask.{ask}
use Rattle.ppd_sem.specs.Asked.{Asked, and_then, gives}
use Rattle.ppd_sem.specs.Deed.{Deed, set_local, set_shared, clear, branch, turn, leave, invoke, back, take, give, send, receive, print, pass, finish, ask_deed}
use Rattle.ppd_sem.specs.Described.{frame_of, trap_of, writes_by, is_event}
use Rattle.ppd_sem.proofs.EventWords.{writes_of_asked}
use Rattle.ppd_sem.specs.Process.{act, act_by_asked, act_by_need, chan_of, entry_of, head_deed, need_of, need_of_asked, need_of_head, need_of_leaving, need_of_send, offer_of, value_of, top_frame}
use Rattle.ppd_sem.proofs.NeedWords.{need_by_entry, need_by_offer, need_by_status, need_of_running}
use Rattle.ppd_sem.specs.Tables.{capacity_of}
use Rattle.ppd_sem.proofs.Offers.{offer_there}
use Rattle.ppd_sem.specs.Runs.{sizes}
use Rattle.ppd_model.specs.declared.trace.EventId.{EventId}
use Rattle.ppd_model.specs.declared.trace.TracedEvent.{TracedEvent}
use Rattle.ppd_model.specs.FullTrace.{Activation, Tag, Tracing, event_of, me_in, tagged_by, trace_by, trace_step, with_test}
use Rattle.ppd_model.specs.LocalTags.{HasTags, StepsTagTheirWrites, cells_in, from_end, is_local_write, is_received_by, locals}
use Rattle.ppd_model.specs.Story.{Story, Taken}
use Rattle.ppd_model.proofs.FromEnd.{Outcome, from_end-length, same}
use Rattle.ppd_model.proofs.LocalDeeds.{among, back_does, call_does, clear_does, length_locals, lengths, set_does}

-- ---- what a need tells of what is asked

-- a read is not of a statement that finishes, and a trap not of a return or of a loop that goes on; an offer
-- and a completion are of a send, as far as it is evaluated
abbrev pub IsSend : Asked Deed → Type 0
IsSend (Ok (send c v, left)) = ⊤
IsSend (Ok p) = ⊥
IsSend (Err pause) = ⊤

abbrev pub Fits : Need → Asked Deed → Type 0
Fits (Read c) (Ok p) = ⊥
Fits (Offer c v) asked = IsSend asked
Fits (Done c u) asked = IsSend asked
Fits (Trap t) (Ok (back v, left)) = ⊥
Fits (Trap t) (Ok (turn xs, left)) = ⊥
Fits n asked = ⊤

fits_leave : (plan : Plan) (t : ℕ) (b : Option ℕ) (left : List ℤ) → Fits (need_of_leaving plan t b) (Ok (leave, left))
fits_leave plan t None left = tt
fits_leave plan t (Some b) left = tt

fits_call : (b : Bool) (n : Option ℕ) (u f : ℕ) (values : List ℤ) (into : Option ℕ) (left : List ℤ) → Fits (cond b (Trap trap.Depth) (Invoke n u)) (Ok (invoke f values into, left))
fits_call true n u f values into left = tt
fits_call false n u f values into left = tt

fits_send : (plan : Plan) (t n c : ℕ) (v : ℤ) (left : List ℤ) → Fits (need_of_send plan t n c v) (Ok (send c v, left))
fits_send plan t zero c v left = tt
fits_send plan t (suc n) c v left = tt

fits_asked : (program : Program) (plan : Plan) (t : ℕ) (s : Proc) (asked : Asked Deed) → Fits (need_of_asked program plan t s asked) asked
fits_asked program plan t s (Err (Wants c)) = tt
fits_asked program plan t s (Err (Traps x)) = tt
fits_asked program plan t s (Ok (leave, left)) = fits_leave plan t _ left
fits_asked program plan t s (Ok (invoke f values into, left)) = fits_call _ _ _ f values into left
fits_asked program plan t s (Ok (set_local c v, left)) = tt
fits_asked program plan t s (Ok (set_shared c v, left)) = tt
fits_asked program plan t s (Ok (clear base len, left)) = tt
fits_asked program plan t s (Ok (branch xs, left)) = tt
fits_asked program plan t s (Ok (turn xs, left)) = tt
fits_asked program plan t s (Ok (back v, left)) = tt
fits_asked program plan t s (Ok (take x, left)) = tt
fits_asked program plan t s (Ok (give x, left)) = tt
fits_asked program plan t s (Ok (send x v, left)) = fits_send plan t (capacity_of program x) x v left
fits_asked program plan t s (Ok (receive x into, left)) = tt
fits_asked program plan t s (Ok (print v, left)) = tt
fits_asked program plan t s (Ok (pass, left)) = tt
fits_asked program plan t s (Ok (finish, left)) = tt

fits_entry : (program : Program) (plan : Plan) (t : ℕ) (s : Proc) (entry : Option ℕ) (asked : Asked Deed) → Fits (need_by_entry program plan t s entry asked) asked
fits_entry program plan t s None asked = fits_asked program plan t s asked
fits_entry program plan t s (Some b) asked = tt

asks_send : (r : Asked ℤ) (c : ℕ) → IsSend (and_then r (λ v left. gives left (send c v)))
asks_send (Ok p) c = tt
asks_send (Err pause) c = tt

of_chan : (es : List Expr) (k : Kind) (cells answers : List ℤ) (c : ℕ) → chan_of k ≡ Some c → IsSend (ask_deed es k cells answers)
of_chan es (kind.Send d e) cells answers c is = asks_send (ask (term es e) cells answers) d
of_chan es k cells answers c is = absurd (none-some c is)

fits_offer : (plan : Plan) (t : ℕ) (o : Option ℕ) (n : Need) (asked : Asked Deed) → ((c : ℕ) → o ≡ Some c → IsSend asked) → Fits n asked → Fits (need_by_offer plan t o n) asked
fits_offer plan t (Some c) n asked h g = h c refl
fits_offer plan t None n asked h g = g

fits_budget : (b : Bool) (n : Need) (asked : Asked Deed) → Fits n asked → Fits (cond b Budget n) asked
fits_budget true n asked h = tt
fits_budget false n asked h = h

-- the same of the head, if there is one
abbrev pub FitsHead : Program → Proc → Need → List Todo → Type 0
FitsHead program s n [] = ⊤
FitsHead program s n (t ∷ ts) = Fits n (head_deed program t s)

fits_running : (program : Program) (plan : Plan) (s : Proc) (todo : List Todo) → FitsHead program s (need_of_running program plan todo s) todo
fits_running program plan s [] = tt
fits_running program plan s (t ∷ ts) =
    fits_budget _ (need_of_head program plan t s) (head_deed program t s)
    (fits_offer plan t.stmt (offer_of program t) (need_by_entry program plan t.stmt s (entry_of program plan t) (head_deed program t s)) (head_deed program t s)
    (λ c e. of_chan program.exprs (kind_of program t.stmt) (top_frame s.frames).cells s.answers c (offer_there t.offered (chan_of (kind_of program t.stmt)) c e))
    (fits_entry program plan t.stmt s (entry_of program plan t) (head_deed program t s)))

fits_stopped : (program : Program) (s : Proc) (todo : List Todo) → FitsHead program s Stopped todo
fits_stopped program s [] = tt
fits_stopped program s (t ∷ ts) = tt

fits_status : (program : Program) (plan : Plan) (s : Proc) (status : Option Status) → FitsHead program s (need_by_status program plan status s) s.todo
fits_status program plan s None = fits_running program plan s s.todo
fits_status program plan s (Some x) = fits_stopped program s s.todo

pub fits : (program : Program) (plan : Plan) (s : Proc) → FitsHead program s (need_of program plan s) s.todo
fits program plan s = fits_status program plan s s.status

-- ---- what the head does

deed_does : (program : Program) (a : Answer) (t : Todo) (ts : List Todo) (s : Proc) (frame : ℕ) (acts : List Activation) (me : Tag) (asked : Asked Deed) → map length (locals acts) ≡ sizes s.frames
    → Outcome (locals acts) (locals (tagged_by program s me asked acts)) (sizes (act_by_asked program a t ts asked s).frames)
    (λ k c. among frame (length s.frames) k c (writes_of_asked frame a asked) || is_received_by program s.frames k c asked) me
deed_does program a t ts s frame acts me (Ok (set_local d v, left)) e = set_does frame s.frames acts d v me e
deed_does program a t ts s frame acts me (Ok (clear base len, left)) e = clear_does frame s.frames acts base len me e
deed_does program a t ts s frame acts me (Ok (invoke f values into, left)) e = call_does program frame s.frames acts f values (Some t.stmt) me e
deed_does program a t ts s frame acts me (Ok (back value, left)) e = back_does program s.frames acts value me e
deed_does program a t ts s frame acts me (Ok (receive chan into, left)) e = set_does frame s.frames acts into (value_of a) me e
deed_does program a t ts s frame acts me (Err (Wants c)) e = same (locals acts) _ _ me e (λ k c lt. refl)
deed_does program a t ts s frame acts me (Err (Traps x)) e = same (locals acts) _ _ me e (λ k c lt. refl)
deed_does program a t ts s frame acts me asked e = same (locals acts) _ _ me e (λ k c lt. refl)

-- a pause changes no frame
paused_frames : (program : Program) (a : Answer) (t : Todo) (ts : List Todo) (s : Proc) (c : ℕ) (asked : Asked Deed) → Fits (Read c) asked → (act_by_asked program a t ts asked s).frames ≡ s.frames
paused_frames program a t ts s c (Ok p) h = absurd h
paused_frames program a t ts s c (Err (Wants x)) h = refl
paused_frames program a t ts s c (Err (Traps x)) h = refl

-- a send tags nothing
send_does : (program : Program) (a : Answer) (s : Proc) (frame : ℕ) (acts : List Activation) (me : Tag) (asked : Asked Deed) → map length (locals acts) ≡ sizes s.frames → IsSend asked
    → Outcome (locals acts) (locals (tagged_by program s me asked acts)) (sizes s.frames) (λ k c. among frame (length s.frames) k c (writes_of_asked frame a asked) || is_received_by program s.frames k c asked) me
send_does program a s frame acts me (Ok (send c v, left)) e h = same (locals acts) _ _ me e (λ k c lt. refl)
send_does program a s frame acts me (Err pause) e h = same (locals acts) _ _ me e (λ k c lt. refl)
send_does program a s frame acts me (Ok p) e h = absurd h

-- what traps returns nothing
no_return : (program : Program) (x : TrapOf) (frames : List Frame) (k c : ℕ) (asked : Asked Deed) → Fits (Trap x) asked → is_received_by program frames k c asked ≡ false
no_return program x frames k c (Ok (back v, left)) h = absurd h
no_return program x frames k c asked h = refl

pub test_locals : (program : Program) (me : EventId) (e : Event) (acts : List Activation) → locals (with_test program me e acts) ≡ locals acts
test_locals program me e [] = refl
test_locals program me e (x ∷ xs) = refl

-- ---- the step by its need

module _ (program : Program) (plan : Plan) (story : Story) (p : ℕ) (frames : List Frame) (answers : List ℤ) (below budget spent steps : ℕ) (prints : List ℤ) (status : Option Status) where
  abbrev proc : List Todo → Proc
  proc todo = record { frames = frames; todo = todo; answers = answers; below = below; budget = budget; spent = spent; steps = steps; prints = prints; status = status }

  module _ (acts : List Activation) (tags : List Tag) (events : List TracedEvent) (a : Answer) (writer : Option EventId) (number : Option ℕ) (shape : map length (locals acts) ≡ sizes frames) where
    abbrev at : List Todo → Tracing
    at todo = record { proc = proc todo; activations = acts; answers = tags; events = events }

    abbrev taken : Need → Taken
    taken n = record { need = n; answer = a; writer = writer; number = number }

    ordinary : (t : Todo) (ts : List Todo) (id : EventId) (e : Event)
        → Outcome (locals acts) (locals (tagged_by program (proc (t ∷ ts)) (Some id) (head_deed program t (proc (t ∷ ts))) (with_test program id e acts)))
        (sizes (act_by_asked program a t ts (head_deed program t (proc (t ∷ ts))) (proc (t ∷ ts))).frames)
        (λ k c. among (frame_of program plan (proc (t ∷ ts))) (length frames) k c (writes_of_asked (frame_of program plan (proc (t ∷ ts))) a (head_deed program t (proc (t ∷ ts)))) || is_received_by program frames k c (head_deed program t (proc (t ∷ ts)))) (Some id)
    ordinary t ts id e =
        subst (λ old. Outcome old (locals (tagged_by program (proc (t ∷ ts)) (Some id) (head_deed program t (proc (t ∷ ts))) (with_test program id e acts)))
        (sizes (act_by_asked program a t ts (head_deed program t (proc (t ∷ ts))) (proc (t ∷ ts))).frames)
        (λ k c. among (frame_of program plan (proc (t ∷ ts))) (length frames) k c (writes_of_asked (frame_of program plan (proc (t ∷ ts))) a (head_deed program t (proc (t ∷ ts)))) || is_received_by program frames k c (head_deed program t (proc (t ∷ ts)))) (Some id))
        (test_locals program id e acts)
        (deed_does program a t ts (proc (t ∷ ts)) (frame_of program plan (proc (t ∷ ts))) (with_test program id e acts) (Some id) (head_deed program t (proc (t ∷ ts)))
        (ap (λ xs. map length xs) (test_locals program id e acts) ∙ shape))

    sends : (t : Todo) (ts : List Todo) (id : EventId) (e : Event) → IsSend (head_deed program t (proc (t ∷ ts)))
        → Outcome (locals acts) (locals (tagged_by program (proc (t ∷ ts)) (Some id) (head_deed program t (proc (t ∷ ts))) (with_test program id e acts))) (sizes frames)
        (λ k c. among (frame_of program plan (proc (t ∷ ts))) (length frames) k c (writes_of_asked (frame_of program plan (proc (t ∷ ts))) a (head_deed program t (proc (t ∷ ts)))) || is_received_by program frames k c (head_deed program t (proc (t ∷ ts)))) (Some id)
    sends t ts id e h =
        subst (λ old. Outcome old (locals (tagged_by program (proc (t ∷ ts)) (Some id) (head_deed program t (proc (t ∷ ts))) (with_test program id e acts))) (sizes frames)
        (λ k c. among (frame_of program plan (proc (t ∷ ts))) (length frames) k c (writes_of_asked (frame_of program plan (proc (t ∷ ts))) a (head_deed program t (proc (t ∷ ts)))) || is_received_by program frames k c (head_deed program t (proc (t ∷ ts)))) (Some id))
        (test_locals program id e acts)
        (send_does program a (proc (t ∷ ts)) (frame_of program plan (proc (t ∷ ts))) (with_test program id e acts) (Some id) (head_deed program t (proc (t ∷ ts)))
        (ap (λ xs. map length xs) (test_locals program id e acts) ∙ shape) h)

    -- the cells that a step of this need writes
    abbrev writes : Todo → List Todo → Need → ℕ → ℕ → Bool
    writes t ts n k c =
        is_event n && (among (frame_of program plan (proc (t ∷ ts))) (length frames) k c (writes_by (trap_of n) (frame_of program plan (proc (t ∷ ts))) a (head_deed program t (proc (t ∷ ts))))
        || is_received_by program frames k c (head_deed program t (proc (t ∷ ts))))

    by_need : (t : Todo) (ts : List Todo) (n : Need) → Fits n (head_deed program t (proc (t ∷ ts)))
        → Outcome (locals acts) (locals (trace_by program plan story p (taken n) n (at (t ∷ ts))).activations) (sizes (act_by_need program plan a t ts n (proc (t ∷ ts))).frames)
        (writes t ts n) (Some (me_in p (at (t ∷ ts))))
    by_need t ts (Read c) h = same (locals acts) _ _ _ (shape ∙ ap sizes (sym (paused_frames program a t ts (proc (t ∷ ts)) c (head_deed program t (proc (t ∷ ts))) h))) (λ k d lt. refl)
    by_need t ts (Enter b u) h = same (locals acts) _ _ _ shape (λ k d lt. refl)
    by_need t ts Budget h = same (locals acts) _ _ _ shape (λ k d lt. refl)
    by_need t ts Stopped h = same (locals acts) _ _ _ shape (λ k d lt. refl)
    by_need t ts (Trap x) h =
        subst (λ new. Outcome (locals acts) new (sizes frames) (writes t ts (Trap x)) (Some (me_in p (at (t ∷ ts)))))
        (sym (test_locals program (me_in p (at (t ∷ ts))) (event_of program plan (proc (t ∷ ts)) (taken (Trap x)) (t ∷ ts)) acts))
        (same (locals acts) (sizes frames) (writes t ts (Trap x)) _ shape (λ k d lt. no_return program x frames k d (head_deed program t (proc (t ∷ ts))) h))
    by_need t ts (Offer d v) h = sends t ts (me_in p (at (t ∷ ts))) (event_of program plan (proc (t ∷ ts)) (taken (Offer d v)) (t ∷ ts)) h
    by_need t ts (Done d u) h = sends t ts (me_in p (at (t ∷ ts))) (event_of program plan (proc (t ∷ ts)) (taken (Done d u)) (t ∷ ts)) h
    by_need t ts n h = ordinary t ts (me_in p (at (t ∷ ts))) (event_of program plan (proc (t ∷ ts)) (taken n) (t ∷ ts))

    empty : (n : Need)
        → Outcome (locals acts) (locals (trace_by program plan story p (taken n) n (at [])).activations) (sizes frames) (λ k c. is_event n && (false || false)) (Some (me_in p (at [])))
    empty (Read c) = same (locals acts) _ _ _ shape (λ k d lt. refl)
    empty (Enter b u) = same (locals acts) _ _ _ shape (λ k d lt. refl)
    empty Budget = same (locals acts) _ _ _ shape (λ k d lt. refl)
    empty Stopped = same (locals acts) _ _ _ shape (λ k d lt. refl)
    empty n =
        subst (λ new. Outcome (locals acts) new (sizes frames) (λ k c. false) (Some (me_in p (at []))))
        (sym (test_locals program (me_in p (at [])) (event_of program plan (proc []) (taken n) []) acts)) (same (locals acts) (sizes frames) (λ k c. false) _ shape (λ k d lt. refl))

    abbrev StepDoes : List Todo → Need → Type 0
    StepDoes todo n =
        Outcome (locals acts) (locals (trace_step program plan story p (at todo) (taken n)).activations) (sizes (act program plan (proc todo) a).frames)
        (λ k c. is_local_write program plan k c (proc todo) (taken n)) (Some (me_in p (at todo)))

    step_does : (todo : List Todo) → StepDoes todo (need_of program plan (proc todo))
    step_does [] = empty (need_of program plan (proc []))
    step_does (t ∷ ts) = by_need t ts (need_of program plan (proc (t ∷ ts))) (fits program plan (proc (t ∷ ts)))

    step_of : (todo : List Todo) (n : Need) → n ≡ need_of program plan (proc todo) → StepDoes todo n
    step_of todo n e = subst (λ m. StepDoes todo m) (sym e) (step_does todo)

-- ---- the law for one step

outcome_of : (program : Program) (plan : Plan) (story : Story) (p : ℕ) (t : Tracing) (x : Taken) → HasTags t → x.need ≡ need_of program plan t.proc
    → Outcome (locals t.activations) (locals (trace_step program plan story p t x).activations) (sizes (act program plan t.proc x.answer).frames)
    (λ k c. is_local_write program plan k c t.proc x) (Some (me_in p t))
outcome_of program plan story p t x shape e =
    step_of program plan story p t.proc.frames t.proc.answers t.proc.below t.proc.budget t.proc.spent t.proc.steps t.proc.prints t.proc.status
    t.activations t.answers t.events x.answer x.writer x.number shape t.proc.todo x.need e

locals_of : (t : Tracing) → HasTags t → length (locals t.activations) ≡ length t.proc.frames
locals_of t shape = length_locals t.activations ∙ lengths t.proc.frames t.activations shape

cells_are : (t : Tracing) → HasTags t → (k : ℕ) → cells_in t.proc.frames k ≡ length (from_end [] (locals t.activations) k)
cells_are t shape k = ap (λ ns. from_end 0 ns k) (sym shape) ∙ from_end-length (locals t.activations) k

pub tags_its_writes : StepsTagTheirWrites
tags_its_writes program plan story p t x shape e =
    let o : Outcome (locals t.activations) (locals (trace_step program plan story p t x).activations) (sizes (act program plan t.proc x.answer).frames)
    (λ k c. is_local_write program plan k c t.proc x) (Some (me_in p t)) = outcome_of program plan story p t x shape e in
    let new : length (locals (trace_step program plan story p t x).activations) ≡ length (act program plan t.proc x.answer).frames =
    locals_of (trace_step program plan story p t x) o.shape in
    record {
      has_tags = o.shape;
      same_cells = λ k lt lt2. cells_are (trace_step program plan story p t x) o.shape k
          ∙ o.sized k (subst (λ n. k < n) (sym (locals_of t shape)) lt) (subst (λ n. k < n) (sym new) lt2) ∙ sym (cells_are t shape k);
      written = o.written;
      kept = λ k c no lt lt2. o.kept k c no (subst (λ n. k < n) (sym (locals_of t shape)) lt) (subst (λ n. k < n) (sym new) lt2);
      fresh = λ k c no le. o.fresh k c no (subst (λ n. n ≤ k) (sym (locals_of t shape)) le);
    }
