-- What a need tells of what its head statement asks for.
use Rattle.std.proofs.Common.{◌≡◌, ℕ, zero, suc, ◌+◌, ℤ, Bool, true, false, nat_lt, List, ◌∷◌, length, Option, Some, None, Ok, Err, refl, sym, subst, if◌then◌else◌}
use Rattle.std.specs.Prelude.{⊤}
use Rattle.ppd_ast.specs.declared.plan.BlockKind.TheVariants as block
use Rattle.ppd_ast.specs.declared.plan.Plan.{Plan}
use Rattle.ppd_ast.specs.declared.plan.Start.TheVariants as start
use Rattle.ppd_ast.specs.declared.program.Program.{Program}
use Rattle.ppd_ast.specs.declared.status.Status.{Status}
use Rattle.ppd_ast.specs.declared.status.Trap.TheVariants as trap
use Rattle.ppd_ast.specs.declared.limits.TheConstants.{MOST_CALLS}
use Rattle.ppd_sem.specs.declared.asking.Pause.TheVariants.{Wants, Traps}
use Rattle.ppd_sem.specs.declared.proc.Need.{Need}
use Rattle.ppd_sem.specs.declared.proc.Need.TheVariants as need
use Rattle.ppd_sem.specs.declared.proc.Proc.{Proc}
use Rattle.ppd_sem.specs.declared.proc.Todo.{Todo}
use Rattle.ppd_sem.specs.Asked.{Asked}
use Rattle.ppd_sem.specs.Deed.{Deed, set_shared, leave, invoke, send}
use Rattle.ppd_sem.specs.Tables.{block_of, capacity_of, unit_of}
use Rattle.ppd_sem.specs.Process.{cost, entry_of, head_deed, need_of, need_of_deed, need_of_head, need_of_leaving, need_of_send, offer_of}
use Rattle.ppd_sem.proofs.NeedWords.{need_by_entry, need_by_offer, need_by_status, need_of_running}

-- it wants no cell
abbrev pub Finishes : Asked Deed → Type 0
Finishes (Ok q) = ⊤
Finishes (Err (Wants c)) = ⊥
Finishes (Err (Traps x)) = ⊤

-- a read is of the cell that is wanted, a write of the cell that the deed writes, and a statement that is finished
-- wants nothing
abbrev pub Tells : Need → Asked Deed → Type 0
Tells (need.Read c) asked = asked ≡ Err (Wants c)
Tells (need.Write c v) asked = (left : List ℤ) × (asked ≡ Ok (set_shared c v, left))
Tells (need.Enter b u) asked = ⊤
Tells (need.Offer c v) asked = ⊤
Tells (need.Done c u) asked = ⊤
Tells (need.Trap x) asked = ⊤
Tells need.Budget asked = ⊤
Tells need.Stopped asked = ⊤
Tells n asked = Finishes asked

leaving : (plan : Plan) (t : ℕ) (o : Option ℕ) (left : List ℤ) → Tells (need_of_leaving plan t o) (Ok (leave, left))
leaving plan t None left = tt
leaving plan t (Some b) left = tt

calling : (p : Program) (plan : Plan) (t f : ℕ) (s : Proc) (values : List ℤ) (into : Option ℕ) (left : List ℤ) → Tells (need_of_deed p plan t s (invoke f values into)) (Ok (invoke f values into, left))
calling p plan t f s values into left = by (nat_lt MOST_CALLS (s.below + length s.frames))
  where
    by : (b : Bool) → Tells (if b then need.Trap trap.Depth else need.Invoke (block_of plan (block.Function f)) (unit_of plan (start.Entry f))) (Ok (invoke f values into, left))
    by true = tt
    by false = tt

sending : (plan : Plan) (t n c : ℕ) (x : ℤ) (left : List ℤ) → Tells (need_of_send plan t n c x) (Ok (send c x, left))
sending plan t zero c x left = tt
sending plan t (suc n) c x left = tt

deed_tells : (p : Program) (plan : Plan) (t : ℕ) (s : Proc) (d : Deed) (left : List ℤ) → Tells (need_of_deed p plan t s d) (Ok (d, left))
deed_tells p plan t s (set_shared c x) left = (left, refl)
deed_tells p plan t s leave left = leaving plan t _ left
deed_tells p plan t s (invoke f values into) left = calling p plan t f s values into left
deed_tells p plan t s (send chan x) left = sending plan t (capacity_of p chan) chan x left
deed_tells p plan t s d left = tt

asked_tells : (p : Program) (plan : Plan) (t : ℕ) (s : Proc) (o : Option ℕ) (asked : Asked Deed) → Tells (need_by_entry p plan t s o asked) asked
asked_tells p plan t s (Some b) asked = tt
asked_tells p plan t s None (Ok q) = deed_tells p plan t s q.0 q.1
asked_tells p plan t s None (Err (Wants c)) = refl
asked_tells p plan t s None (Err (Traps x)) = tt

offer_tells : (plan : Plan) (t : ℕ) (o : Option ℕ) (n : Need) (asked : Asked Deed) → Tells n asked → Tells (need_by_offer plan t o n) asked
offer_tells plan t (Some c) n asked h = tt
offer_tells plan t None n asked h = h

budget_tells : (b : Bool) (n : Need) (asked : Asked Deed) → Tells n asked → Tells (if b then need.Budget else n) asked
budget_tells true n asked h = tt
budget_tells false n asked h = h

status_tells : (p : Program) (plan : Plan) (s : Proc) (o : Option Status) (t : Todo) (ts : List Todo) → s.todo ≡ t ∷ ts → Tells (need_by_status p plan o s) (head_deed p t s)
status_tells p plan s (Some x) t ts is = tt
status_tells p plan s None t ts is =
    subst (λ todo. Tells (need_of_running p plan todo s) (head_deed p t s)) (sym is)
    (budget_tells (nat_lt s.budget (s.spent + cost plan (need_of_head p plan t s))) (need_of_head p plan t s) (head_deed p t s)
    (offer_tells plan t.stmt (offer_of p t) (need_by_entry p plan t.stmt s (entry_of p plan t) (head_deed p t s)) (head_deed p t s) (asked_tells p plan t.stmt s (entry_of p plan t) (head_deed p t s))))

pub need_tells : (p : Program) (plan : Plan) (s : Proc) (t : Todo) (ts : List Todo) → s.todo ≡ t ∷ ts → Tells (need_of p plan s) (head_deed p t s)
need_tells p plan s t ts is = status_tells p plan s s.status t ts is
