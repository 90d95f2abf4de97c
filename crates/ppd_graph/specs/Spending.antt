-- What a graph costs: a look at each entry in each of a few passes, and for each synchronization a count for each
-- process.
use Rattle.std.specs.Prelude.{ℕ, zero, suc, ◌+◌, ◌-◌, ◌*◌, List, length}
use Rattle.std.specs.List.{range_with_len, sum_by}
use Rattle.ppd_ast.specs.declared.program.Program.{Program}
use Rattle.ppd_ast.specs.declared.status.SyncKind.TheVariants.{P, V, Send, Recv, Done}
use Rattle.ppd_model.specs.declared.entry.Entry.{Entry}
use Rattle.ppd_model.specs.declared.entry.Logs.{Logs}
use Rattle.ppd_ast.specs.declared.limits.TheConstants.{MOST_NAMED}
use Rattle.ppd_graph.specs.declared.greatest.Greatest.{Greatest}
use Rattle.ppd_graph.specs.declared.missing.Objects.{Objects}
use Rattle.ppd_graph.specs.declared.missing.Objects.TheVariants.{Semaphores, Channels}
use Rattle.ppd_graph.specs.declared.paired.Paired.{Paired}
use Rattle.ppd_graph.specs.ByNumber.{greatest_kept}
use Rattle.ppd_graph.specs.Refusals.{object_count, start_of}
use Rattle.ppd_model.specs.Tables.{capacity_of}

-- of one pass over a list
abbrev pub list_cost : List Entry → ℕ
list_cost list = 1 + length list

-- of one pass over all lists
abbrev pub pass_cost : Logs → ℕ
pass_cost logs = sum_by list_cost logs.lists

-- all entries
abbrev pub entries_in : Logs → ℕ
entries_in logs = sum_by length logs.lists

-- of the vector times: each of them looks for a process that is ready, and has a count for each
abbrev pub times_cost : List (List Paired) → ℕ
times_cost pairs = length pairs + (sum_by length pairs + 1) * (2 * length pairs + 1)

-- ---- to look whether a number is missing

-- the numbers of a semaphore that are looked up: those taken, and those given beyond its initial value
abbrev pub sem_numbers : Program → Greatest → ℕ → ℕ
sem_numbers program g o = greatest_kept g P o + (greatest_kept g V o - start_of program o)

-- of a channel of this capacity: only one of capacity 0 has completions
abbrev pub done_numbers : ℕ → Greatest → ℕ → ℕ
done_numbers zero g o = greatest_kept g Done o
done_numbers (suc c) g o = 0

abbrev pub chan_numbers : Program → Greatest → ℕ → ℕ
chan_numbers program g o = greatest_kept g Send o + greatest_kept g Recv o + done_numbers (capacity_of program o) g o

abbrev pub object_numbers : Objects → Program → Greatest → ℕ → ℕ
object_numbers Semaphores program g o = sem_numbers program g o
object_numbers Channels program g o = chan_numbers program g o

abbrev pub object_cost : Objects → Program → Greatest → ℕ → ℕ
object_cost objects program g o = 1 + object_numbers objects program g o

-- of all objects of a sort
abbrev pub objects_cost : Objects → Program → Greatest → ℕ
objects_cost objects program g =
    sum_by (object_cost objects program g) (range_with_len 0 (object_count objects program))

abbrev pub missing_cost : Program → Greatest → ℕ
missing_cost program g = objects_cost Semaphores program g + objects_cost Channels program g

-- ---- in all

-- to find what led to each synchronization
abbrev pub pairing_cost : Program → Logs → ℕ
pairing_cost program logs =
    2 * pass_cost logs + 12 * entries_in logs + 5 * MOST_NAMED + length program.sems + length program.chans

-- linear in the entries times the processes
abbrev pub graph_cost : Program → Logs → ℕ
graph_cost program logs =
    (entries_in logs + 1) * (2 * length logs.lists + 17) + 6 * length logs.lists + length program.sems
    + length program.chans + 5 * MOST_NAMED
