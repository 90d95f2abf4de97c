-- What the proofs speak of: counts that go down, the last runs of a round, and parts of the definitions.
use Rattle.ppd_ast.specs.Counting.{one_if}
use Rattle.ppd_ast.specs.Members.{has}
use Rattle.ppd_ast.specs.declared.program.Program.{Program}
use Rattle.ppd_ast.specs.declared.program.Sem.{Sem}
use Rattle.ppd_ast.specs.declared.status.SyncKind.{SyncKind}
use Rattle.ppd_model.specs.Entries.{same_kind}
use Rattle.ppd_model.specs.declared.entry.At.{At}
use Rattle.ppd_model.specs.declared.entry.Entry.{Entry}
use Rattle.ppd_graph.specs.Cycles.{is_same, stretch}
use Rattle.ppd_graph.specs.Refusals.{Missing, Numbered, is_from_start, numbers_of, object_misses, placed_from, sync_placed}
use Rattle.ppd_graph.specs.Times.{next_of}
use Rattle.ppd_graph.specs.declared.missing.Objects.TheVariants.{Channels, Semaphores}
use Rattle.ppd_graph.specs.declared.paired.Paired.{Paired}
use Rattle.ppd_graph.specs.declared.placed.Placed.{Placed}
use Rattle.ppd_model.specs.SameSyncs.{same_sync}
use Rattle.ppd_model.specs.Synchronizations.{Sync}
use Rattle.ppd_model.specs.declared.graph.NodeId.{NodeId}
use Rattle.std.specs.List.{AllByRecursion, enumerate_from, flat_map}
use Rattle.std.specs.Option.{option_map_or}
use Rattle.std.specs.Prelude.{Bool, List, None, Option, Some, [], fold, if◌then◌else◌, is_some, length, max, nat_eq, not, suc, zero, ℕ, ◌&&◌, ◌++◌, ◌+◌, ◌-◌, ◌<◌, ◌||◌, ◌∷◌, ◌≡◌, ◌≤◌, ◌⊎◌}

-- how many have no time yet
abbrev pub untimed : {A B : Type 0} → List (List A) → List (List B) → ℕ
untimed [] rows = 0
untimed {A = A} {B = B} (xs ∷ rest) [] = length xs + untimed {A = A} {B = B} rest []
untimed (xs ∷ rest) (ys ∷ rows) = (length xs - length ys) + untimed rest rows

-- the place of the first of these whose number stood before, by this test, or is one from the start
abbrev pub twice_by : Program → (Sync → Bool) → List Placed → Option At
twice_by program stood [] = None
twice_by program stood (x ∷ xs) =
    if stood (sync_placed x) || is_from_start program (sync_placed x) then Some x.at
    else twice_by program (λ s. same_sync (sync_placed x) s || stood s) xs

-- all after the next of x, through the processes xs, as far as the next of z waits for them
abbrev pub stretches : List (List Paired) → List (List (List ℕ)) → ℕ → List ℕ → ℕ → List NodeId
stretches pairs times x [] z = stretch pairs times x z
stretches pairs times x (y ∷ ys) z = stretch pairs times x y ++ next_of times y ∷ stretches pairs times y ys z

-- how many numbers below n do not stand in the list
abbrev pub fresh : ℕ → List ℕ → ℕ
fresh zero xs = 0
fresh (suc n) xs = one_if (not (has xs n)) + fresh n xs

-- how often a synchronization stands in a list
abbrev pub occurs : NodeId → List NodeId → ℕ
occurs a [] = 0
occurs a (b ∷ bs) = one_if (is_same a b) + occurs a bs

-- a is b, or stands before it by process and then by number
abbrev pub Precedes : NodeId → NodeId → Type 0
Precedes a b = (a.process < b.process) ⊎ ((a.process ≡ b.process) × (a.sync ≤ b.sync))

-- a precedes each of these
abbrev pub PrecedesAll : NodeId → List NodeId → Type 0
PrecedesAll a bs = AllByRecursion (Precedes a) bs

-- one more where the entry is a synchronization
abbrev pub count_on : ℕ → Option Sync → ℕ
count_on i o = if is_some o then i + 1 else i

-- the initial value of a semaphore, and 0 where there is none
abbrev pub start_in : Option Sem → ℕ
start_in o = option_map_or (λ s. s.start) o 0

-- the number, where it is of this kind and object
abbrev pub number_in : SyncKind → ℕ → Sync → Option ℕ
number_in kind object s = if same_kind s.kind kind && nat_eq s.object object then Some s.number else None

-- the greatest of them, or at least this
abbrev pub greatest : ℕ → List ℕ → ℕ
greatest least ns = fold max least ns

-- those of a kind and object among these
abbrev pub numbered_in : List Sync → SyncKind → ℕ → Numbered
numbered_in syncs kind object =
    record { is_there = has (numbers_of kind object syncs); greatest = greatest 0 (numbers_of kind object syncs) }

-- what is missing of a semaphore
abbrev pub sem_misses : Program → (SyncKind → ℕ → Numbered) → ℕ → Option Missing
sem_misses program numbered o = object_misses Semaphores program numbered o

-- what is missing of a channel
abbrev pub chan_misses : Program → (SyncKind → ℕ → Numbered) → ℕ → Option Missing
chan_misses program numbered o = object_misses Channels program numbered o

-- those of the processes from number p on
abbrev pub placed_lists : ℕ → List (List Entry) → List Placed
placed_lists p lists = flat_map (λ e. placed_from e.0 0 0 e.1) (enumerate_from p lists)
