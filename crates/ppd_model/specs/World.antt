-- The shared state with all processes, who may take a step in it, and the step.
use Rattle.std.specs.Prelude.{ℕ, zero, suc, ◌+◌, nat_eq, nat_lt, ℤ, pos, Bool, true, false, List, [], ◌∷◌, ◌++◌, length, get_or, slice_set, slice_get}
use Rattle.std.specs.Option.{option_map_or}
use Rattle.ppd_ast.specs.declared.program.Program.{Program}
use Rattle.ppd_ast.specs.declared.plan.Plan.{Plan}
use Rattle.ppd_sem.specs.declared.proc.Need.{Need}
use Rattle.ppd_sem.specs.declared.proc.Need.TheVariants.{Read, Write, P, V, Send, Offer, Done, Recv, Stopped}
use Rattle.ppd_sem.specs.declared.proc.Answer.{Answer}
use Rattle.ppd_sem.specs.declared.proc.Answer.TheVariants.{Value, Go}
use Rattle.ppd_sem.specs.declared.proc.Proc.{Proc}
use Rattle.ppd_sem.specs.Process.{need_of, act}
pub use Rattle.ppd_model.specs.Changed.{change}
pub use Rattle.ppd_model.specs.declared.state.Counts.{Counts}
pub use Rattle.ppd_model.specs.declared.state.Channel.{Channel}

-- the shared cells, the semaphores, the channels and the process states
pub record World : Type 0 where
  pub shared : List ℤ
  pub sems : List Counts
  pub chans : List Channel
  pub procs : List Proc

-- ---- who may take a step

-- how many may have been sent: the received and the capacity together, and for capacity 0 one more than are completed
abbrev pub room_of : ℕ → Channel → ℕ
room_of zero c = c.completed + 1
room_of (suc n) c = c.received + suc n

-- a step of this need can be taken: of a semaphore that was given more often than taken, to a channel that has room,
-- and on one of which fewer sends were completed than received, or fewer values received than sent
abbrev pub can : World → Need → Bool
can w Stopped = false
can w (P s u) = option_map_or (λ (x : Counts). nat_lt x.taken x.given) (slice_get w.sems s) false
can w (Send c v u) = option_map_or (λ x. nat_lt (length x.sent) (room_of x.capacity x)) (slice_get w.chans c) false
can w (Offer c v) = option_map_or (λ x. nat_lt (length x.sent) (room_of x.capacity x)) (slice_get w.chans c) false
can w (Done c u) = option_map_or (λ (x : Channel). nat_lt x.completed x.received) (slice_get w.chans c) false
can w (Recv c u) = option_map_or (λ (x : Channel). nat_lt x.received (length x.sent)) (slice_get w.chans c) false
can w need = true

-- what process p needs
abbrev pub need : Program → Plan → World → ℕ → Need
need program plan w p = option_map_or (need_of program plan) (slice_get w.procs p) Stopped

-- process p can take a step
abbrev pub enabled : Program → Plan → World → ℕ → Bool
enabled program plan w p = can w (need program plan w p)

-- ---- the step

-- what a step of this need is given: the value of a shared cell, or that which is received next
abbrev pub answer : World → Need → Answer
answer w (Read c) = Value (get_or w.shared c (pos 0))
answer w (Recv c u) =
    Value (option_map_or (λ x. get_or x.sent x.received (pos 0)) (slice_get w.chans c) (pos 0))
answer w need = Go

-- a step of this need writes cell c
abbrev pub writes_cell : ℕ → Need → Bool
writes_cell c (Write d v) = nat_eq d c
writes_cell c need = false

-- a semaphore taken once more
abbrev pub one_taken : Counts → Counts
one_taken x = record x { taken = x.taken + 1 }

-- a semaphore given once more
abbrev pub one_given : Counts → Counts
one_given x = record x { given = x.given + 1 }

-- a channel with one more value
abbrev pub with_value : ℤ → Channel → Channel
with_value v x = record x { sent = x.sent ++ v ∷ [] }

-- a channel from which one more was received
abbrev pub one_received : Channel → Channel
one_received x = record x { received = x.received + 1 }

-- a channel on which one more send was completed
abbrev pub one_completed : Channel → Channel
one_completed x = record x { completed = x.completed + 1 }

-- the shared state after a step of this need
abbrev pub effect : World → Need → World
effect w (Write c v) = record w { shared = slice_set w.shared c v }
effect w (P s u) = record w { sems = change one_taken s w.sems }
effect w (V s u) = record w { sems = change one_given s w.sems }
effect w (Send c v u) = record w { chans = change (with_value v) c w.chans }
effect w (Offer c v) = record w { chans = change (with_value v) c w.chans }
effect w (Done c u) = record w { chans = change one_completed c w.chans }
effect w (Recv c u) = record w { chans = change one_received c w.chans }
effect w need = w

-- process p takes its step
abbrev pub step : Program → Plan → World → ℕ → World
step program plan w p =
    let n = need program plan w p in
    let after = effect w n in
    record after { procs = change (λ s. act program plan s (answer w n)) p w.procs }
