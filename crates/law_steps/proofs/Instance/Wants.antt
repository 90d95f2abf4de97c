-- A program's processes as a machine: what a process did is the list of its steps.
use Rattle.ppd_model.specs.Setting.{Setting}
use Rattle.std.proofs.Common.{ℕ, zero, suc, ◌+◌, ◌<◌, ℤ, pos, List, [], ◌∷◌, ◌++◌, Option, Some, None, Bool, true, false, length, map, get_or}
use Rattle.std.specs.Prelude.{IsTrue, count_by, nat_lt, option_map, slice_get, filter_map}
use Rattle.ppd_ast.specs.declared.program.Chan.{Chan}
use Rattle.ppd_ast.specs.declared.program.Program.{Program}
use Rattle.ppd_ast.specs.declared.status.SyncKind.{SyncKind}
use Rattle.ppd_ast.specs.declared.status.SyncKind.TheVariants.{P, V, Send, Recv, Done}
use Rattle.ppd_sem.specs.declared.proc.Answer.{Answer}
use Rattle.ppd_sem.specs.declared.proc.Answer.TheVariants.{Value, Go}
use Rattle.ppd_sem.specs.declared.proc.Need.{Need}
use Rattle.ppd_sem.specs.declared.proc.Need.TheVariants as n
use Rattle.ppd_sem.specs.Process.{need_of}
use Rattle.ppd_sem.specs.Described.{is_event}
use Rattle.ppd_model.specs.declared.trace.EventId.{EventId}
use Rattle.ppd_model.specs.States.{state_of}
use Rattle.ppd_model.specs.declared.tracing.Taken.{Taken}
use Rattle.ppd_model.specs.Story.{Telling, steps_of}
use Rattle.ppd_model.specs.Synchronizations.{leads_at, sync_of}
use Rattle.ppd_model.specs.Numbers.{count_of, sync}
use Rattle.ppd_model.specs.declared.state.Channel.{Channel}
use Rattle.ppd_model.specs.World.{World}
use Rattle.law_steps.proofs.Machine.Model.{Want, Stop, Local, Read, Write, Sync, Scene, Machine}

-- a kind of synchronization and its object
abbrev pub Line : Type 0
Line = SyncKind × ℕ

-- a value with the event that wrote it
abbrev pub Tagged : Type 0
Tagged = ℤ × Option EventId

-- the steps of a process that is there
abbrev pub History : Type 0
History = Option (List Taken)

abbrev pub blank : Tagged
blank = (pos 0, None)

-- ---- what a need wants

-- a cell or a semaphore that is not there wants nothing of others
abbrev pub if_there : Bool → Want Line Tagged → Want Line Tagged
if_there true w = w
if_there false w = Local

abbrev pub line : SyncKind → ℕ → Tagged → Want Line Tagged
line kind object v = Sync (kind, object) v

-- what a need wants where the next event is e
abbrev pub sorted : Program → EventId → Need → Want Line Tagged
sorted program e (n.Read c) = if_there (nat_lt c (length program.starts)) (Read c)
sorted program e (n.Write c v) = if_there (nat_lt c (length program.starts)) (Write c (v, Some e))
sorted program e (n.P s u) = line P s blank
sorted program e (n.V s u) = if_there (nat_lt s (length program.sems)) (line V s blank)
sorted program e (n.Send c v u) = line Send c (v, None)
sorted program e (n.Offer c v) = line Send c (v, None)
sorted program e (n.Done c u) = line Done c blank
sorted program e (n.Recv c u) = line Recv c blank
sorted program e n.Stopped = Stop
sorted program e need = Local

-- ---- a step by its answer and its number

abbrev pub given : Need → Tagged → Answer
given (n.Read c) a = Value a.0
given (n.Recv c u) a = Value a.0
given need a = Go

abbrev pub written : Need → Tagged → Option EventId
written (n.Read c) a = a.1
written need a = None

abbrev pub if_some : Bool → ℕ → Option ℕ
if_some true k = Some k
if_some false k = None

abbrev pub number_in : Program → Need → ℕ → Option ℕ
number_in program (n.P s u) k = Some k
number_in program (n.V s u) k = if_some (nat_lt s (length program.sems)) k
number_in program (n.Send c v u) k = Some k
number_in program (n.Offer c v) k = Some k
number_in program (n.Done c u) k = Some k
number_in program (n.Recv c u) k = Some k
number_in program need k = None

abbrev pub made : Program → Need → Tagged → ℕ → Taken
made program n a k = record { need = n; answer = given n a; writer = written n a; number = number_in program n k }

-- ---- the machine

-- the next event of process p after these steps
abbrev pub event_after : ℕ → List Taken → EventId
event_after p xs = record { process = p; number = count_by (λ (x : Taken). is_event x.need) xs }

abbrev pub need_after : Setting → ℕ → List Taken → Need
need_after setting p xs = need_of setting.program setting.plan (state_of setting p xs)

abbrev pub want_after : Setting → ℕ → History → Want Line Tagged
want_after setting p None = Stop
want_after setting p (Some xs) = sorted setting.program (event_after p xs) (need_after setting p xs)

abbrev pub grown : Setting → ℕ → History → Tagged → ℕ → History
grown setting p h a k = option_map (λ (xs : List Taken). xs ++ made setting.program (need_after setting p xs) a k ∷ []) h

abbrev pub synced_in : History → ℕ
synced_in None = 0
synced_in (Some xs) = length (filter_map sync_of xs)

-- the capacity of a channel that is there
abbrev pub declared : Program → ℕ → Option ℕ
declared program o = option_map (λ (x : Chan). x.capacity) (slice_get program.chans o)

-- a channel of this capacity with so many sends, receives and completions takes one more send; on capacity 0 each
-- send waits for the completion of the one before it
abbrev pub has_room : Option ℕ → ℕ → ℕ → ℕ → Type 0
has_room None sent received completed = ⊥
has_room (Some zero) sent received completed = sent < completed + 1
has_room (Some (suc n)) sent received completed = sent < received + suc n

-- a kind is free at these counts, on a channel of this capacity
abbrev pub ready : Option ℕ → SyncKind → ℕ → (Line → ℕ) → Type 0
ready capacity P o c = c (P, o) < c (V, o)
ready capacity V o c = Unit {0}
ready capacity Send o c = has_room capacity (c (Send, o)) (c (Recv, o)) (c (Done, o))
ready capacity Recv o c = c (Recv, o) < c (Send, o)
ready capacity Done o c = c (Done, o) < c (Recv, o)

abbrev pub source_of : SyncKind → ℕ → Option Line
source_of P o = None
source_of V o = None
source_of Send o = None
source_of Recv o = Some (Send, o)
source_of Done o = None

abbrev pub machine : Setting → Machine History Line Tagged
machine setting = record {
  want = want_after setting;
  grow = grown setting;
  synced = synced_in;
  blank = blank;
  Ready = λ l c. ready (declared setting.program l.1) l.0 l.1 c;
  Pairs = λ l k l0 k0. IsTrue (leads_at setting.program (Some (sync l0.0 l0.1 k0)) (Some (sync l.0 l.1 k)));
  source = λ l. source_of l.0 l.1;
}

-- ---- what is told, as the machine has it

-- the value that number k sent
abbrev pub sent_in : Option Channel → ℕ → ℤ
sent_in None k = pos 0
sent_in (Some c) zero = pos 0
sent_in (Some c) (suc k) = get_or c.sent k (pos 0)

abbrev pub pay_in : World → SyncKind → ℕ → ℕ → Tagged
pay_in w P o k = blank
pay_in w V o k = blank
pay_in w Send o k = (sent_in (slice_get w.chans o) k, None)
pay_in w Recv o k = blank
pay_in w Done o k = blank

abbrev pub cell_in : List ℤ → List (Option EventId) → ℕ → Tagged
cell_in shared writers x = (get_or shared x (pos 0), get_or writers x None)

abbrev pub view : Telling → Scene History Line Tagged
view t = record {
  hist = λ p. slice_get (map steps_of t.moments) p;
  cells = cell_in t.world.shared t.writers;
  count = λ l. count_of t.world l.0 l.1;
  pay = λ l k. pay_in t.world l.0 l.1 k;
}
