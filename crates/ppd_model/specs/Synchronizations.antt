-- The synchronizations of each process, and which of them lead to which by their numbers.
use Rattle.std.specs.Prelude.{ℕ, zero, suc, ◌+◌, nat_eq, Bool, false, ◌&&◌, List, [], ◌∷◌, Option, Some, None, if◌then◌else◌}
use Rattle.std.specs.Option.{option_map_or}
use Rattle.ppd_ast.specs.declared.program.Program.{Program}
use Rattle.ppd_ast.specs.declared.status.SyncKind.{SyncKind}
use Rattle.ppd_ast.specs.declared.status.SyncKind.TheVariants.{P, V, Send, Recv, Done}
use Rattle.ppd_sem.specs.Tables.{capacity_of}
use Rattle.ppd_sem.specs.declared.proc.Need.{Need}
use Rattle.ppd_sem.specs.declared.proc.Need.TheVariants as need
use Rattle.ppd_sem.specs.Described.{is_event}
use Rattle.ppd_model.specs.declared.trace.EventId.{EventId}
use Rattle.ppd_model.specs.Story.{Taken}

-- a synchronization: the number is that among those of its kind and object
pub record Sync : Type 0 where
  pub kind : SyncKind
  pub object : ℕ
  pub number : ℕ

-- the kind and the object of a synchronization
abbrev pub kind_of_sync : Need → Option (SyncKind × ℕ)
kind_of_sync (need.P s u) = Some (P, s)
kind_of_sync (need.V s u) = Some (V, s)
kind_of_sync (need.Send c v u) = Some (Send, c)
kind_of_sync (need.Offer c v) = Some (Send, c)
kind_of_sync (need.Done c u) = Some (Done, c)
kind_of_sync (need.Recv c u) = Some (Recv, c)
kind_of_sync n = None

-- a synchronization has a kind, an object and a number
abbrev pub numbered : Option (SyncKind × ℕ) → Option ℕ → Option Sync
numbered (Some k) (Some number) = Some (record { kind = k.0; object = k.1; number = number })
numbered k number = None

-- the synchronization that a step is, if it is one
abbrev pub sync_of : Taken → Option Sync
sync_of x = numbered (kind_of_sync x.need) x.number

-- ---- pairs

-- the number of the second kind to which number k of the first kind leads: V k to P k, send k to
-- receive k, and receive k to the send that finds its place free; for capacity 0 receive k to
-- completion k, and completion k to the next send
abbrev pub led_to : ℕ → SyncKind → SyncKind → ℕ → Option ℕ
led_to capacity V P k = Some k
led_to capacity Send Recv k = Some k
led_to zero Recv Done k = Some k
led_to zero Done Send k = Some (k + 1)
led_to (suc n) Recv Send k = Some (k + suc n)
led_to capacity a b k = None

-- there is a number, and it is k
abbrev pub is_number : Option ℕ → ℕ → Bool
is_number o k = option_map_or (λ n. nat_eq n k) o false

-- both are there, and the first leads to the second: their objects are one, and their numbers fit
abbrev pub leads_at : Program → Option Sync → Option Sync → Bool
leads_at program (Some a) (Some b) =
    nat_eq a.object b.object
    && option_map_or (λ n. nat_eq n b.number) (led_to (capacity_of program a.object) a.kind b.kind a.number) false
leads_at program a b = false

-- the number of the event among these steps that leads to b, where the next event has number n
abbrev pub leading_in : Program → Option Sync → ℕ → List Taken → Option ℕ
leading_in program b n [] = None
leading_in program b n (x ∷ xs) =
    if leads_at program (sync_of x) b then Some n
    else leading_in program b (if is_event x.need then n + 1 else n) xs

-- the event whose synchronization leads to b, found by the numbers among the steps of the processes from number p on
abbrev pub leading_from : Program → Option Sync → ℕ → List (List Taken) → Option EventId
leading_from program b p [] = None
leading_from program b p (steps ∷ rest) =
    option_map_or (λ n. Some (record { process = p; number = n })) (leading_in program b 0 steps)
    (leading_from program b (p + 1) rest)
