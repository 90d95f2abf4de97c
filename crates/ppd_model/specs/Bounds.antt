-- What a step changes, how many steps are left, and how the counts of a world stand to one another.
use Rattle.ppd_model.specs.Setting.{Setting}
use Rattle.std.specs.Prelude.{◌≡◌, ℕ, ◌+◌, ◌*◌, ◌≤◌, nat_eq, Bool, false, List, [], ◌∷◌, count_by, length, slice_get, Some, ⊤}
use Rattle.ppd_ast.specs.declared.plan.Plan.{Plan}
use Rattle.ppd_ast.specs.declared.program.Chan.{Chan}
use Rattle.ppd_ast.specs.declared.program.Program.{Program}
use Rattle.ppd_ast.specs.declared.program.Sem.{Sem}
use Rattle.ppd_sem.specs.declared.proc.Need.{Need}
use Rattle.ppd_sem.specs.declared.proc.Need.TheVariants.{P, V, Send, Offer, Done, Recv}
use Rattle.ppd_sem.specs.declared.proc.Proc.{Proc}
use Rattle.ppd_sem.specs.Measure.{measure}
use Rattle.ppd_model.specs.Schedule.{run}
use Rattle.ppd_model.specs.World.{World, Channel, Counts, need, step, writes_cell, room_of}

-- ---- what a step changes

-- a step of this need is a `P` or a `V` on semaphore s
abbrev pub names_sem : ℕ → Need → Bool
names_sem s (P o u) = nat_eq o s
names_sem s (V o u) = nat_eq o s
names_sem s need = false

-- a step of this need sends to channel c, receives from it or completes a send to it
abbrev pub names_chan : ℕ → Need → Bool
names_chan c (Send o v u) = nat_eq o c
names_chan c (Offer o v) = nat_eq o c
names_chan c (Done o u) = nat_eq o c
names_chan c (Recv o u) = nat_eq o c
names_chan c need = false

-- process p's step changes p itself and what its need names, and nothing else
pub record ChangesItsOwn (program : Program) (plan : Plan) (w : World) (p : ℕ) : Type 0 where
  pub procs : (q : ℕ) → (q ≡ p → ⊥) → slice_get (step program plan w p).procs q ≡ slice_get w.procs q
  pub cells : (c : ℕ) → writes_cell c (need program plan w p) ≡ false
      → slice_get (step program plan w p).shared c ≡ slice_get w.shared c
  pub sems : (s : ℕ) → names_sem s (need program plan w p) ≡ false
      → slice_get (step program plan w p).sems s ≡ slice_get w.sems s
  pub chans : (c : ℕ) → names_chan c (need program plan w p) ≡ false
      → slice_get (step program plan w p).chans c ≡ slice_get w.chans c

-- so it is with each step
abbrev pub StepsChangeTheirOwn : Type 0
StepsChangeTheirOwn = (program : Program) (plan : Plan) (w : World) (p : ℕ) → ChangesItsOwn program plan w p

-- ---- how many steps there are

-- how many steps these processes can still take at most
abbrev pub steps_left : List Proc → ℕ
steps_left [] = 0
steps_left (s ∷ ss) = measure s + steps_left ss

-- a schedule that can be taken has at most budget + 1 numbers of each process
pub record IsBounded (budget : ℕ) (w : World) (h : List ℕ) : Type 0 where
  pub each : (p : ℕ) → count_by (nat_eq p) h ≤ budget + 1
  pub all : length h ≤ length w.procs * (budget + 1)

-- so it is with each schedule
abbrev pub SchedulesAreBounded : Type 0
SchedulesAreBounded =
    (setting : Setting) (h : List ℕ) (w : World) → run setting h ≡ Some w
    → IsBounded setting.budget w h

-- ---- counts

-- as many of both, each of the second standing so to the one at its place in the first
abbrev pub AreEach : {A B : Type 0} → (A → B → Type 0) → List A → List B → Type 0
AreEach R [] [] = ⊤
AreEach R [] (y ∷ ys) = ⊥
AreEach R (x ∷ xs) [] = ⊥
AreEach R (x ∷ xs) (y ∷ ys) = R x y × AreEach R xs ys

-- a semaphore was given its initial value at least, and taken no more often than given
pub record IsBalancedSem (s : Sem) (x : Counts) : Type 0 where
  pub first : s.start ≤ x.given
  pub taken : x.taken ≤ x.given

-- of a channel no more was completed than received and no more received than sent, and to it no more sent
-- than there is room for: the received and the capacity together, and for capacity 0 one more than completed
pub record IsBalancedChan (c : Chan) (x : Channel) : Type 0 where
  pub capacity : x.capacity ≡ c.capacity
  pub completed : x.completed ≤ x.received
  pub received : x.received ≤ length x.sent
  pub sent : length x.sent ≤ room_of x.capacity x

-- the counts of all semaphores and channels of the program
pub record IsBalanced (program : Program) (w : World) : Type 0 where
  pub sems : AreEach IsBalancedSem program.sems w.sems
  pub chans : AreEach IsBalancedChan program.chans w.chans

-- so it is after each schedule
abbrev pub CountsAreBalanced : Type 0
CountsAreBalanced =
    (setting : Setting) (h : List ℕ) (w : World) → run setting h ≡ Some w
    → IsBalanced setting.program w
