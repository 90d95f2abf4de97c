-- What an index costs: a look at each entry, and for the end of a process one at each interval that still runs.
use Rattle.std.specs.Prelude.{ℕ, ◌+◌, ◌*◌, Bool, List, length, if◌then◌else◌}
use Rattle.std.specs.List.{sum_by}
use Rattle.ppd_model.specs.declared.entry.Entry.{Entry}
use Rattle.ppd_model.specs.declared.entry.Logs.{Logs}

-- the running intervals that the end is still to come for
abbrev pub still_open : Bool → List ℕ → ℕ
still_open ended running = if ended then 0 else length running

-- of a process: one, and two for each entry
abbrev pub list_cost : List Entry → ℕ
list_cost entries = 1 + 2 * length entries

-- of a process at least: one, and one for each entry
abbrev pub list_least : List Entry → ℕ
list_least entries = 1 + length entries

-- linear in the entries and the processes
abbrev pub index_cost : Logs → ℕ
index_cost logs = sum_by list_cost logs.lists

-- the least that an index costs: each entry is looked at
abbrev pub index_least : Logs → ℕ
index_least logs = sum_by list_least logs.lists
