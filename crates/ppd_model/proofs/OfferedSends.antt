-- An offer is of a send on its channel.
use Rattle.std.proofs.Common.{◌≡◌, ℕ, zero, suc, ◌+◌, ℤ, Bool, true, false, nat_lt, List, ◌∷◌, length, Option, Some, None, Ok, Err, if◌then◌else◌}
use Rattle.std.specs.Prelude.{⊤}
use Rattle.ppd_ast.specs.declared.plan.BlockKind.TheVariants as block
use Rattle.ppd_ast.specs.declared.plan.Plan.{Plan}
use Rattle.ppd_ast.specs.declared.plan.Start.TheVariants as start
use Rattle.ppd_ast.specs.declared.program.Program.{Program}
use Rattle.ppd_ast.specs.declared.status.Trap.TheVariants as trap
use Rattle.ppd_ast.specs.Lookups.{kind_of}
use Rattle.ppd_ast.specs.declared.limits.TheConstants.{MOST_CALLS}
use Rattle.ppd_sem.specs.declared.asking.Pause.TheVariants.{Wants, Traps}
use Rattle.ppd_sem.specs.declared.proc.Need.{Need}
use Rattle.ppd_sem.specs.declared.proc.Need.TheVariants as need
use Rattle.ppd_sem.specs.declared.proc.Proc.{Proc}
use Rattle.ppd_sem.specs.declared.proc.Todo.{Todo}
use Rattle.ppd_sem.specs.Asked.{Asked}
use Rattle.ppd_sem.specs.Deed.{Deed, set_local, set_shared, clear, branch, turn, leave, invoke, back, take, give, send, receive, print, pass, finish}
use Rattle.ppd_sem.specs.Process.{chan_of, cost, entry_of, head_deed, need_of_asked, need_of_deed, need_of_head, need_of_leaving, need_of_send, offer_of, top_frame}
use Rattle.ppd_sem.proofs.NeedWords.{need_by_entry, need_by_offer, need_of_running}
use Rattle.ppd_model.proofs.Deeds.{AskedOf, DeedOf, asked_of}
use Rattle.ppd_sem.specs.Tables.{block_of, capacity_of, unit_of}

-- ---- the need

-- an offer is of a send on its channel
abbrev pub OffersSend : Program → ℕ → Need → Type 0
OffersSend p t (need.Offer c v) = chan_of (kind_of p t) ≡ Some c
OffersSend p t n = ⊤

if_offers : (p : Program) (t : ℕ) (b : Bool) (x y : Need) → OffersSend p t x → OffersSend p t y → OffersSend p t (if b then x else y)
if_offers p t true x y h g = h
if_offers p t false x y h g = g

send_offers : (p : Program) (plan : Plan) (t n c : ℕ) (v : ℤ) → chan_of (kind_of p t) ≡ Some c → OffersSend p t (need_of_send plan t n c v)
send_offers p plan t zero c v h = h
send_offers p plan t (suc n) c v h = tt

leaving_offers : (p : Program) (plan : Plan) (t : ℕ) (o : Option ℕ) → OffersSend p t (need_of_leaving plan t o)
leaving_offers p plan t None = tt
leaving_offers p plan t (Some b) = tt

deed_offers : (p : Program) (plan : Plan) (t : ℕ) (s : Proc) (d : Deed) → DeedOf (kind_of p t) d → OffersSend p t (need_of_deed p plan t s d)
deed_offers p plan t s (set_local c v) h = tt
deed_offers p plan t s (set_shared c v) h = tt
deed_offers p plan t s (clear base len) h = tt
deed_offers p plan t s (branch stmts) h = tt
deed_offers p plan t s (turn stmts) h = tt
deed_offers p plan t s leave h = leaving_offers p plan t (block_of plan (block.Loop t))
deed_offers p plan t s (invoke f values into) h = if_offers p t (nat_lt MOST_CALLS (s.below + length s.frames)) (need.Trap trap.Depth) (need.Invoke (block_of plan (block.Function f)) (unit_of plan (start.Entry f))) tt tt
deed_offers p plan t s (back value) h = tt
deed_offers p plan t s (take sem) h = tt
deed_offers p plan t s (give sem) h = tt
deed_offers p plan t s (send chan value) h = send_offers p plan t (capacity_of p chan) chan value h
deed_offers p plan t s (receive chan into) h = tt
deed_offers p plan t s (print v) h = tt
deed_offers p plan t s pass h = tt
deed_offers p plan t s finish h = tt

asked_offers : (p : Program) (plan : Plan) (t : ℕ) (s : Proc) (asked : Asked Deed) → AskedOf (kind_of p t) asked → OffersSend p t (need_of_asked p plan t s asked)
asked_offers p plan t s (Ok q) h = deed_offers p plan t s q.0 h
asked_offers p plan t s (Err (Wants c)) h = tt
asked_offers p plan t s (Err (Traps x)) h = tt

entry_offers : (p : Program) (plan : Plan) (t : ℕ) (s : Proc) (o : Option ℕ) (asked : Asked Deed) → AskedOf (kind_of p t) asked → OffersSend p t (need_by_entry p plan t s o asked)
entry_offers p plan t s (Some b) asked h = tt
entry_offers p plan t s None asked h = asked_offers p plan t s asked h

offer_offers : (p : Program) (plan : Plan) (t : ℕ) (o : Option ℕ) (n : Need) → OffersSend p t n → OffersSend p t (need_by_offer plan t o n)
offer_offers p plan t (Some c) n h = tt
offer_offers p plan t None n h = h

pub head_offers : (p : Program) (plan : Plan) (t : Todo) (s : Proc) → OffersSend p t.stmt (need_of_head p plan t s)
head_offers p plan t s =
    offer_offers p plan t.stmt (offer_of p t) (need_by_entry p plan t.stmt s (entry_of p plan t) (head_deed p t s))
    (entry_offers p plan t.stmt s (entry_of p plan t) (head_deed p t s) (asked_of p.exprs (kind_of p t.stmt) (top_frame s.frames).cells s.answers))

pub running_offers : (p : Program) (plan : Plan) (t : Todo) (ts : List Todo) (s : Proc) → OffersSend p t.stmt (need_of_running p plan (t ∷ ts) s)
running_offers p plan t ts s = if_offers p t.stmt (nat_lt s.budget (s.spent + cost plan (need_of_head p plan t s))) need.Budget (need_of_head p plan t s) tt (head_offers p plan t s)
