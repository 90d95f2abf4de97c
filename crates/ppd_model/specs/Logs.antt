-- The log of each process: the entries that its steps write.
use Rattle.ppd_model.specs.Setting.{Setting}
use Rattle.std.specs.Prelude.{ℕ, ◌+◌, ◌-◌, ℤ, pos, List, [], ◌∷◌, ◌++◌, map, fold, Option, Some, None, is_none, slice_get, unwrap_or, if◌then◌else◌}
use Rattle.std.specs.List.{enumerate_from}
use Rattle.std.specs.Option.{option_map_or}
use Rattle.ppd_ast.specs.declared.plan.BlockKind.TheVariants as block
use Rattle.ppd_ast.specs.declared.plan.Plan.{Plan}
use Rattle.ppd_ast.specs.declared.plan.Start.TheVariants as start
use Rattle.ppd_ast.specs.declared.program.Body.{Body}
use Rattle.ppd_ast.specs.declared.program.Program.{Program}
use Rattle.ppd_ast.specs.declared.status.Status.{Status}
use Rattle.ppd_ast.specs.declared.status.Status.TheVariants as status
use Rattle.ppd_ast.specs.Members.{with_cell}
use Rattle.ppd_model.specs.declared.entry.Entry.{Entry}
use Rattle.ppd_model.specs.declared.entry.Entry.TheVariants as entry
use Rattle.ppd_model.specs.declared.entry.Logs.{Logs}
use Rattle.ppd_sem.specs.declared.proc.Answer.{Answer}
use Rattle.ppd_sem.specs.declared.proc.Need.{Need}
use Rattle.ppd_sem.specs.declared.proc.Need.TheVariants.{Read, Write, P, V, Send, Offer, Done, Recv, End, Trap, Budget}
use Rattle.ppd_sem.specs.declared.proc.Proc.{Proc}
use Rattle.ppd_sem.specs.Process.{act, started, value_of}
use Rattle.ppd_sem.specs.Tables.{block_of, unit_of}
use Rattle.ppd_model.specs.declared.closed.Closed.{Closed}
use Rattle.ppd_model.specs.declared.closed.ProcEnd.{ProcEnd}
use Rattle.ppd_model.specs.Story.{Taken, Moment, told, unit_started, values_of_unit}
use Rattle.ppd_model.specs.Synchronizations.{Sync, sync_of}
use Rattle.ppd_model.specs.Marks.{Mark, opened, closed}
pub use Rattle.ppd_model.specs.declared.state.Logging.{Logging}

-- ---- the entries of one step

-- the entry of a block that is entered, a prelog, or of one that is left, a postlog
abbrev pub block_entries : (ℕ → List ℤ → Entry) → Option Mark → List Entry
block_entries log None = []
block_entries log (Some m) = log m.block m.values ∷ []

-- the unit that starts, with its values
abbrev pub units : Option ℕ → List ℤ → List Entry
units None values = []
units (Some u) values = entry.Unit u values ∷ []

-- what was sent or received, and 0 for a semaphore and a completion
abbrev pub passed_value : Need → Answer → ℤ
passed_value (Send c v u) a = v
passed_value (Offer c v) a = v
passed_value (Recv c u) a = value_of a
passed_value need a = pos 0

-- the entry of a synchronization, with the cells accessed since the one before
abbrev pub syncs : Logging → Taken → Option Sync → List Entry
syncs l x None = []
syncs l x (Some s) = entry.Sync s.kind s.object s.number (passed_value x.need x.answer) l.reads l.writes ∷ []

-- the status of a step that ends its process
abbrev pub status_of : Need → Option Status
status_of (Trap t) = Some (status.Trap t)
status_of Budget = Some status.Budget
status_of (End b) = Some status.Ended
status_of need = None

-- the end of the process
abbrev pub ends : Logging → Option Status → List Entry
ends l None = []
ends l (Some s) = entry.End s l.rest l.reads l.writes ∷ []

-- a block that is entered or left or a synchronization, the unit that starts then, and the end
abbrev pub entries_of : Program → Plan → Logging → Moment → List Entry
entries_of program plan l m =
    block_entries entry.Prelog (opened program plan l.proc m.taken.need)
    ++ syncs l m.taken (sync_of m.taken)
    ++ block_entries entry.Postlog (closed program plan l.proc m.taken.need)
    ++ units (unit_started m.taken.need) m.unit_values
    ++ ends l (status_of m.taken.need)

-- ---- the step

-- a read or a write of a shared cell is noted, and a synchronization begins anew
abbrev pub with_access : Need → Logging → Logging
with_access (Read c) l = record l { reads = with_cell c l.reads }
with_access (Write c v) l = record l { writes = with_cell c l.writes }
with_access (P s u) l = record l { reads = []; writes = [] }
with_access (V s u) l = record l { reads = []; writes = [] }
with_access (Send c v u) l = record l { reads = []; writes = [] }
with_access (Offer c v) l = record l { reads = []; writes = [] }
with_access (Done c u) l = record l { reads = []; writes = [] }
with_access (Recv c u) l = record l { reads = []; writes = [] }
with_access need l = l

-- the steps since the last one that wrote an entry
abbrev pub rest_after : ℕ → List Entry → ℕ
rest_after rest [] = rest + 1
rest_after rest (e ∷ es) = 0

-- one more step: its entries, and the state after it
abbrev pub log_step : Program → Plan → Logging → Moment → Logging
log_step program plan l m =
    let new = entries_of program plan l m in
    record (with_access m.taken.need l) {
      proc = act program plan l.proc m.taken.answer;
      rest = rest_after l.rest new;
      entries = l.entries ++ new;
    }

-- ---- a process, and all of them

-- before the first step the process's own block is entered and the unit of its entry starts
abbrev pub begun_log : Setting → ℕ → Logging
begun_log setting p =
    let body = setting.program.functions + p in
    let u = unit_of setting.plan (start.Entry body) in
    record {
      proc = started setting.program setting.plan p setting.budget;
      reads = [];
      writes = [];
      rest = 0;
      entries = entry.Prelog (unwrap_or (block_of setting.plan (block.Process body)) 0) []
          ∷ entry.Unit u (values_of_unit setting.plan setting.program.starts u) ∷ [];
    }

-- process p with its log, by its own steps and the values of their units
abbrev pub log_of : Setting → ℕ → List Moment → Logging
log_of setting p moments = fold (log_step setting.program setting.plan) (begun_log setting p) moments

-- each process with its log
abbrev pub loggings : Setting → List ℕ → List Logging
loggings setting h =
    map (λ e. log_of setting e.0 e.1) (enumerate_from 0 (told setting h).moments)

-- the logs that the steps of a schedule wrote, which need not be whole
abbrev pub kept_logs : Setting → List ℕ → Logs
kept_logs setting h = record { lists = map (λ l. l.entries) (loggings setting h) }

-- ---- whole schedules

-- a process that is still running when the run is whole is blocked
abbrev pub closed_log : Logging → List Entry
closed_log l =
    l.entries ++ (if is_none l.proc.status then entry.End status.Blocked l.rest l.reads l.writes ∷ [] else [])

-- the logs of a whole schedule
abbrev pub closed_logs : Setting → List ℕ → Logs
closed_logs setting h = record { lists = map closed_log (loggings setting h) }

-- how a process ended, with the statement that would come next or else the last one of the body: one that is still
-- running is blocked
abbrev pub end_of : Option Body → Proc → ProcEnd
end_of body s =
    record {
      status = unwrap_or s.status status.Blocked;
      stmt = option_map_or (λ t. t.stmt) (slice_get s.todo 0) (option_map_or (λ b. b.end - 1) body 0);
      steps = s.steps;
      prints = s.prints;
    }

-- how each process ended; the first one's body has number b
abbrev pub ends_from : Program → ℕ → List Logging → List ProcEnd
ends_from program b ls = map (λ e. end_of (slice_get program.bodies e.0) e.1.proc) (enumerate_from b ls)

-- the logs of a whole schedule with how each process ended
abbrev pub close : Setting → List ℕ → Closed
close setting h = record {
  logs = closed_logs setting h;
  ends = ends_from setting.program setting.program.functions (loggings setting h);
}
