-- What a need tells of its statement, and the calls that began a process's frames.
use Rattle.std.proofs.Common.{◌≡◌, ℕ, zero, suc, ℤ, Bool, true, false, List, [], ◌∷◌, Option, Some, None, Ok, Err, refl, ap, sym, subst, ◌∙◌, cond, true≢false}
use Rattle.std.specs.Prelude.{⊤, IsSome, if◌then◌else◌, slice_set, replicate, pos}
use Rattle.ppd_ast.specs.declared.plan.BlockKind.TheVariants.{Loop}
use Rattle.ppd_ast.specs.declared.plan.Plan.{Plan}
use Rattle.ppd_ast.specs.declared.program.Expr.{Expr}
use Rattle.ppd_ast.specs.declared.program.Kind.{Kind}
use Rattle.ppd_ast.specs.declared.program.Kind.TheVariants as kind
use Rattle.ppd_ast.specs.declared.program.Program.{Program}
use Rattle.ppd_ast.specs.declared.status.Status.{Status}
use Rattle.ppd_ast.specs.declared.status.Trap.TheVariants as trap
use Rattle.ppd_ast.specs.Numbered.{is_left, is_while}
use Rattle.ppd_ast.specs.Lookups.{kind_of}
use Rattle.ppd_sem.specs.declared.asking.Pause.TheVariants.{Wants, Traps}
use Rattle.ppd_sem.specs.declared.proc.Answer.{Answer}
use Rattle.ppd_sem.specs.declared.proc.Frame.{Frame}
use Rattle.ppd_sem.specs.declared.proc.Need.{Need}
use Rattle.ppd_sem.specs.declared.proc.Need.TheVariants.{Read, Enter, Leave, Invoke, P, V, Send, Offer, Done, Recv, Trap, Budget, Stopped}
use Rattle.ppd_sem.specs.declared.proc.Proc.{Proc}
use Rattle.ppd_sem.specs.declared.proc.Todo.{Todo}
use Rattle.ppd_sem.specs.Asked.{Asked}
use Rattle.ppd_sem.specs.Deed.{Deed, set_local, set_shared, clear, branch, turn, leave, invoke, back, take, give, send, receive, print, pass, finish, ask_deed}
use Rattle.ppd_sem.proofs.Offers.{offer_there}
use Rattle.std.proofs.lemmas.Option.{none-some}
use Rattle.std.specs.List.{range_with_len}
use Rattle.ppd_sem.specs.Process.{chan_of, need_of_send, offer_of, act, act_by_asked, act_by_deed, act_by_need, entry_of, head_deed, into_of, loop_of, need_of, need_of_asked, need_of_leaving, receive_at, returned, started, on_top, top_frame, into_at, with_values}
use Rattle.ppd_sem.proofs.NeedWords.{act_at, need_by_entry, need_by_offer, need_by_status, need_of_running}
use Rattle.ppd_sem.specs.Tables.{capacity_of, block_of}
use Rattle.ppd_sem.proofs.OfKind.{IsDeedOf, OfAsked, asked_holds, invokes, receives, releases, sends, takes}

-- ---- a deed that starts a unit is of a call or a synchronization

-- the deed is a call or a synchronization
abbrev is_leaving : Deed → Bool
is_leaving (invoke f values into) = true
is_leaving (take s) = true
is_leaving (give s) = true
is_leaving (send c v) = true
is_leaving (receive c into) = true
is_leaving d = false

abbrev FitsKind : Kind → Deed → Type 0
FitsKind k d = is_leaving d ≡ true → is_left k ≡ true

abbrev FitsAsked : Kind → Asked Deed → Type 0
FitsAsked k = OfAsked (FitsKind k)

deed_fits : (k : Kind) (d : Deed) → IsDeedOf k d → FitsKind k d
deed_fits k d takes = λ e. refl
deed_fits k d releases = λ e. refl
deed_fits k d (sends v) = λ e. refl
deed_fits k d receives = λ e. refl
deed_fits k d (invokes values count) = λ e. refl
deed_fits k d is = λ e. absurd (true≢false (sym e))

asked_fits : (es : List Expr) (k : Kind) (cells answers : List ℤ) → FitsAsked k (ask_deed es k cells answers)
asked_fits es k cells answers = asked_holds es cells answers (FitsKind k) k (deed_fits k)

-- ---- what a need tells

-- a loop that is left is a block, and a unit starts after a call or a synchronization
abbrev pub Tells : Program → Plan → ℕ → Need → Type 0
Tells program plan s (Leave b u) = block_of plan (Loop s) ≡ Some b
Tells program plan s (P x u) = is_left (kind_of program s) ≡ true
Tells program plan s (V x u) = is_left (kind_of program s) ≡ true
Tells program plan s (Send x v u) = is_left (kind_of program s) ≡ true
Tells program plan s (Done x u) = is_left (kind_of program s) ≡ true
Tells program plan s (Recv x u) = is_left (kind_of program s) ≡ true
Tells program plan s n = ⊤

leaving_tells : (program : Program) (plan : Plan) (t : ℕ) (o : Option ℕ) → block_of plan (Loop t) ≡ o → Tells program plan t (need_of_leaving plan t o)
leaving_tells program plan t None e = tt
leaving_tells program plan t (Some b) e = e

call_tells : (program : Program) (plan : Plan) (t : ℕ) (b : Bool) (f : Option ℕ) (u : ℕ) → Tells program plan t (cond b (Trap trap.Depth) (Invoke f u))
call_tells program plan t true f u = tt
call_tells program plan t false f u = tt

send_tells : (program : Program) (plan : Plan) (t n c : ℕ) (v : ℤ) → is_left (kind_of program t) ≡ true → Tells program plan t (need_of_send plan t n c v)
send_tells program plan t zero c v h = tt
send_tells program plan t (suc n) c v h = h

asked_tells : (program : Program) (plan : Plan) (t : ℕ) (s : Proc) (asked : Asked Deed) → FitsAsked (kind_of program t) asked → Tells program plan t (need_of_asked program plan t s asked)
asked_tells program plan t s (Err (Wants c)) h = tt
asked_tells program plan t s (Err (Traps x)) h = tt
asked_tells program plan t s (Ok (set_local c v, left)) h = tt
asked_tells program plan t s (Ok (set_shared c v, left)) h = tt
asked_tells program plan t s (Ok (clear base len, left)) h = tt
asked_tells program plan t s (Ok (branch xs, left)) h = tt
asked_tells program plan t s (Ok (turn xs, left)) h = tt
asked_tells program plan t s (Ok (leave, left)) h = leaving_tells program plan t (block_of plan (Loop t)) refl
asked_tells program plan t s (Ok (invoke f values into, left)) h = call_tells program plan t _ _ _
asked_tells program plan t s (Ok (back v, left)) h = tt
asked_tells program plan t s (Ok (take x, left)) h = h refl
asked_tells program plan t s (Ok (give x, left)) h = h refl
asked_tells program plan t s (Ok (send x v, left)) h = send_tells program plan t (capacity_of program x) x v (h refl)
asked_tells program plan t s (Ok (receive x into, left)) h = h refl
asked_tells program plan t s (Ok (print v, left)) h = tt
asked_tells program plan t s (Ok (pass, left)) h = tt
asked_tells program plan t s (Ok (finish, left)) h = tt

entry_tells : (program : Program) (plan : Plan) (t : ℕ) (s : Proc) (entry : Option ℕ) (asked : Asked Deed) → FitsAsked (kind_of program t) asked → Tells program plan t (need_by_entry program plan t s entry asked)
entry_tells program plan t s None asked h = asked_tells program plan t s asked h
entry_tells program plan t s (Some b) asked h = tt

send_left : (k : Kind) (c : ℕ) → chan_of k ≡ Some c → is_left k ≡ true
send_left (kind.Send d e) c is = refl
send_left k c is = absurd (none-some c is)

offer_tells : (program : Program) (plan : Plan) (t : ℕ) (o : Option ℕ) (n : Need) → ((c : ℕ) → o ≡ Some c → is_left (kind_of program t) ≡ true) → Tells program plan t n → Tells program plan t (need_by_offer plan t o n)
offer_tells program plan t (Some c) n h g = h c refl
offer_tells program plan t None n h g = g

budget_tells : (program : Program) (plan : Plan) (t : ℕ) (b : Bool) (n : Need) → Tells program plan t n → Tells program plan t (cond b Budget n)
budget_tells program plan t true n h = tt
budget_tells program plan t false n h = h

pub need_tells : (program : Program) (plan : Plan) (s : Proc) (t : Todo) (ts : List Todo) → s.todo ≡ t ∷ ts → Tells program plan t.stmt (need_of program plan s)
need_tells program plan s t ts is = by_status s.status
  where
    by_head : Tells program plan t.stmt (need_of_running program plan (t ∷ ts) s)
    by_head =
        budget_tells program plan t.stmt _ _
        (offer_tells program plan t.stmt (offer_of program t) (need_by_entry program plan t.stmt s (entry_of program plan t) (head_deed program t s))
        (λ c e. send_left (kind_of program t.stmt) c (offer_there t.offered (chan_of (kind_of program t.stmt)) c e))
        (entry_tells program plan t.stmt s (entry_of program plan t) (head_deed program t s) (asked_fits program.exprs (kind_of program t.stmt) _ s.answers)))

    by_status : (status : Option Status) → Tells program plan t.stmt (need_by_status program plan status s)
    by_status (Some st) = tt
    by_status None = subst (λ todo. Tells program plan t.stmt (need_of_running program plan todo s)) (sym is) by_head

-- ---- a block loop that is yet to be entered

-- the step enters a block loop, or stops
abbrev pub IsEntering : Need → Type 0
IsEntering (Enter b u) = ⊤
IsEntering Budget = ⊤
IsEntering Stopped = ⊤
IsEntering n = ⊥

entry_is : (program : Program) (plan : Plan) (t : ℕ) (k : Kind) (entered : Bool) (b : ℕ) → entered ≡ false → is_while k ≡ true → block_of plan (Loop t) ≡ Some b → (if entered then None else loop_of plan t k) ≡ Some b
entry_is program plan t (kind.While e body) false b isnt is at = at
entry_is program plan t (kind.While e body) true b isnt is at = absurd (true≢false isnt)
entry_is program plan t k entered b isnt is at = absurd (cc)

-- a loop is no send
no_offer : (k : Kind) (offered : Bool) → is_while k ≡ true → (if offered then chan_of k else None) ≡ None
no_offer (kind.While e body) false is = refl
no_offer (kind.While e body) true is = refl
no_offer k offered is = absurd (cc)

budget_enters : (b : Bool) (n : Need) → IsEntering n → IsEntering (cond b Budget n)
budget_enters true n h = tt
budget_enters false n h = h

pub need_enters : (program : Program) (plan : Plan) (s : Proc) (t : Todo) (ts : List Todo) (b : ℕ) → s.todo ≡ t ∷ ts → t.entered ≡ false → is_while (kind_of program t.stmt) ≡ true → block_of plan (Loop t.stmt) ≡ Some b
    → IsEntering (need_of program plan s)
need_enters program plan s t ts b is isnt loop at = by_status s.status
  where
    entry : entry_of program plan t ≡ Some b
    entry = entry_is program plan t.stmt (kind_of program t.stmt) t.entered b isnt loop at

    by_head : IsEntering (need_of_running program plan (t ∷ ts) s)
    by_head =
        budget_enters _ _ (subst (λ o. IsEntering (need_by_offer plan t.stmt o (need_by_entry program plan t.stmt s (entry_of program plan t) (head_deed program t s)))) (sym (no_offer (kind_of program t.stmt) t.offered loop))
        (subst (λ o. IsEntering (need_by_entry program plan t.stmt s o (head_deed program t s))) (sym entry) tt))

    by_status : (status : Option Status) → IsEntering (need_by_status program plan status s)
    by_status (Some st) = tt
    by_status None = subst (λ todo. IsEntering (need_of_running program plan todo s)) (sym is) by_head

-- ---- a process that has stopped

stopped_need : (program : Program) (plan : Plan) (s : Proc) (status : Option Status) → IsSome status → need_by_status program plan status s ≡ Stopped
stopped_need program plan s None h = absurd (true≢false (sym h))
stopped_need program plan s (Some st) h = refl

pub stays_stopped : (program : Program) (plan : Plan) (s : Proc) (a : Answer) → IsSome s.status → act program plan s a ≡ s
stays_stopped program plan s a h = by_todo s.todo
  where
    by_todo : (todo : List Todo) → act_at program plan a todo s ≡ s
    by_todo [] = refl
    by_todo (t ∷ ts) = ap (λ n. act_by_need program plan a t ts n s) (stopped_need program plan s s.status h)

no_read : (c : ℕ) → Stopped ≡ Read c → ⊥
no_read c e = cc

-- a process that reads is running
pub read_runs : (program : Program) (plan : Plan) (s : Proc) (c : ℕ) → need_of program plan s ≡ Read c → IsSome s.status → ⊥
read_runs program plan s c is h = no_read c (sym (stopped_need program plan s s.status h) ∙ is)

-- and has something to do
pub read_has : (program : Program) (plan : Plan) (s : Proc) (c : ℕ) → need_of program plan s ≡ Read c → s.todo ≡ [] → ⊥
read_has program plan s c is none = by_status s.status is
  where
    by_status : (status : Option Status) → need_by_status program plan status s ≡ Read c → ⊥
    by_status (Some st) e = no_read c e
    by_status None e = no_read c (sym (ap (λ todo. need_of_running program plan todo s) none) ∙ e)

-- ---- the calls that began the frames

-- this call, if there is one, is a call
abbrev pub IsCallIf : Program → Option ℕ → Type 0
IsCallIf program None = ⊤
IsCallIf program (Some c) = is_left (kind_of program c) ≡ true

-- each frame was begun by a call, or by none
abbrev pub AreCalled : Program → List Frame → Type 0
AreCalled program [] = ⊤
AreCalled program (f ∷ fs) = IsCallIf program f.call × AreCalled program fs

pub top_called : (program : Program) (fs : List Frame) → AreCalled program fs → IsCallIf program (top_frame fs).call
top_called program [] h = tt
top_called program (f ∷ fs) h = h.0

write_called : (program : Program) (c : ℕ) (v : ℤ) (fs : List Frame) → AreCalled program fs → AreCalled program (on_top (λ cells. slice_set cells c v) fs)
write_called program c v [] h = tt
write_called program c v (f ∷ fs) h = h

clear_called : (program : Program) (base len : ℕ) (fs : List Frame) → AreCalled program fs → AreCalled program (on_top (with_values (range_with_len base len) (replicate len (pos 0))) fs)
clear_called program base len [] h = tt
clear_called program base len (f ∷ fs) h = h

receive_called : (program : Program) (into : Option ℕ) (value : Option ℤ) (fs : List Frame) → AreCalled program fs → AreCalled program (receive_at into value fs)
receive_called program (Some c) (Some v) fs h = write_called program c v fs h
receive_called program (Some c) None fs h = h
receive_called program None value fs h = h

from_called : (program : Program) (call : Option ℕ) (value : Option ℤ) (fs : List Frame) → AreCalled program fs → AreCalled program (receive_at (into_at program call) value fs)
from_called program None value fs h = h
from_called program (Some c) value fs h = receive_called program (into_of (kind_of program c)) value fs h

returned_called : (program : Program) (value : Option ℤ) (fs : List Frame) → AreCalled program fs → AreCalled program (returned program value fs)
returned_called program value [] h = tt
returned_called program value (f ∷ fs) h = from_called program f.call value fs h.1

module _ (program : Program) (plan : Plan) (a : Answer) (t : Todo) (ts : List Todo) (s : Proc) (h : AreCalled program s.frames) where
  deed_called : (d : Deed) → FitsKind (kind_of program t.stmt) d → AreCalled program (act_by_deed program a t ts d (record s { answers = [] })).frames
  deed_called (set_local c v) f = write_called program c v s.frames h
  deed_called (set_shared c v) f = h
  deed_called (clear base len) f = clear_called program base len s.frames h
  deed_called (branch xs) f = h
  deed_called (turn xs) f = h
  deed_called leave f = h
  deed_called (invoke g values into) f = (f refl, h)
  deed_called (back value) f = returned_called program value s.frames h
  deed_called (take x) f = h
  deed_called (give x) f = h
  deed_called (send x v) f = h
  deed_called (receive chan into) f = write_called program into _ s.frames h
  deed_called (print v) f = h
  deed_called pass f = h
  deed_called finish f = h

  asked_called : (asked : Asked Deed) → FitsAsked (kind_of program t.stmt) asked → AreCalled program (act_by_asked program a t ts asked s).frames
  asked_called (Ok q) f = deed_called q.0 f
  asked_called (Err (Wants c)) f = h
  asked_called (Err (Traps x)) f = h

  head_called : AreCalled program (act_by_asked program a t ts (head_deed program t s) s).frames
  head_called = asked_called (head_deed program t s) (asked_fits program.exprs (kind_of program t.stmt) _ s.answers)

  need_called : (n : Need) → AreCalled program (act_by_need program plan a t ts n s).frames
  need_called Stopped = h
  need_called Budget = h
  need_called (Enter b u) = h
  need_called (Offer c v) = h
  need_called (Done c u) = h
  need_called (Trap x) = h
  need_called n = head_called

pub stays_called : (program : Program) (plan : Plan) (s : Proc) (a : Answer) → AreCalled program s.frames → AreCalled program (act program plan s a).frames
stays_called program plan s a h = by_todo s.todo
  where
    by_todo : (todo : List Todo) → AreCalled program (act_at program plan a todo s).frames
    by_todo [] = h
    by_todo (t ∷ ts) = need_called program plan a t ts s h (need_of program plan s)

pub starts_called : (program : Program) (plan : Plan) (p budget : ℕ) → AreCalled program (started program plan p budget).frames
starts_called program plan p budget = (tt, tt)
