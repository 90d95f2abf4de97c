-- Logs that no run wrote: the replay fails at the first piece that is not the one needed.
use Rattle.ppd_model.specs.Setting.{setting_of}
use Rattle.std.proofs.Common.{◌≡◌, refl}
use Rattle.std.specs.Prelude.{ℕ, pos, true, List, [], ◌∷◌, Some, None, Ok, Err}
use Rattle.ppd_ast.specs.Term.{terms}
use Rattle.ppd_ast.specs.declared.status.Status.{Status}
use Rattle.ppd_ast.specs.declared.status.Status.TheVariants as status
use Rattle.ppd_ast.specs.declared.status.SyncKind.{SyncKind}
use Rattle.ppd_ast.specs.declared.status.SyncKind.TheVariants as sync
use Rattle.ppd_ast.specs.declared.status.Trap.TheVariants as trap
use Rattle.ppd_model.specs.declared.entry.Entry.{Entry}
use Rattle.ppd_model.specs.declared.entry.Entry.TheVariants as entry
use Rattle.ppd_sem.specs.declared.event.Spot.TheVariants.{Local, Shared}
use Rattle.ppd_model.specs.declared.flow.Item.TheVariants.{Own, Nested}
use Rattle.rows_programs.proofs.Runs.Tables.{access, event}
use Rattle.rows_programs.proofs.Runs.BoundedChannel as channel
use Rattle.rows_programs.proofs.Runs.BudgetStop as stop
use Rattle.rows_programs.proofs.Runs.LockOrder as lock
use Rattle.rows_programs.proofs.Runs.LoopNeverEntered as loop
use Rattle.rows_programs.proofs.Runs.PastTheEnd as past
use Rattle.rows_programs.proofs.Runs.Smallest as smallest
use Rattle.ppd_model.specs.Replay.{Replayed}
use Rattle.ppd_model.specs.declared.block_trace.EmulError.TheVariants.{Diverged}
use Rattle.ppd_model.specs.declared.wanted.Found.{Found}
use Rattle.ppd_model.specs.declared.wanted.Found.TheVariants as found
use Rattle.ppd_model.specs.declared.wanted.Wanted.{Wanted}
use Rattle.ppd_model.specs.declared.wanted.Wanted.TheVariants as wanted
use Rattle.rows_programs.proofs.Replays.Showing.{replays_of}

-- after these steps the entry of this number was found where something else was wanted
abbrev pub failed : ℕ → ℕ → Wanted → Found → Replayed
failed steps n w f = record { steps = steps; answer = Err (Diverged n w f) }

-- ---- process a { int i; while (1) { i = i + 1; } } with a budget of 5

-- the log of one interval, with this count of steps before its end
abbrev pub stopped : ℕ → List Entry
stopped rest = entry.Prelog 0 [] ∷ entry.Unit 0 [] ∷ entry.End status.Budget rest [] [] ∷ []

-- the sixth step costs more than is left
pub rest_too_long : replays_of (setting_of stop.program stop.plan 5) (stopped 6) ≡ failed 5 2 wanted.Fewer (found.End status.Budget) ∷ []
unfolding terms
rest_too_long = refl

-- four steps are replayed, and nothing more is asked
pub rest_too_short : replays_of (setting_of stop.program stop.plan 5) (stopped 4) ≡ record { steps = 4; answer = Ok (record { items = Own (event 0 [] (access (Local 0 0) (pos 0) ∷ []) None None None) ∷ Own (event 1 [] [] (Some (pos 1)) None None) ∷ Own (event 2 (access (Local 0 0) (pos 0) ∷ []) (access (Local 0 0) (pos 1) ∷ []) None None None) ∷ Own (event 1 [] [] (Some (pos 1)) None None) ∷ [] }) } ∷ []
unfolding terms
rest_too_short = refl

-- a process that goes on was not blocked
pub not_blocked : replays_of (setting_of stop.program stop.plan 5) (entry.Prelog 0 [] ∷ entry.Unit 0 [] ∷ entry.End status.Blocked 1 [] [] ∷ []) ≡ failed 1 2 wanted.Fewer (found.End status.Blocked) ∷ []
unfolding terms
not_blocked = refl

-- a process's end is no unit
pub no_unit : replays_of (setting_of stop.program stop.plan 5) (entry.Prelog 0 [] ∷ entry.End status.Budget 0 [] [] ∷ []) ≡ failed 0 1 (wanted.Unit 0) (found.End status.Budget) ∷ []
unfolding terms
no_unit = refl

-- ---- shared int x; sem m = 1; process a { P(m); x = x + 1; V(m); } and b likewise

-- where the first unit is wanted, no unit
pub no_first_unit : replays_of (setting_of lock.program lock.plan 100000) (entry.Prelog 0 [] ∷ entry.End status.Blocked 0 [] [] ∷ []) ≡ failed 0 1 (wanted.Unit 0) (found.End status.Blocked) ∷ []
unfolding terms
no_first_unit = refl

-- the log of a, with this first synchronization and this unit after it
abbrev pub locked : SyncKind → ℕ → ℕ → ℕ → List Entry
locked kind object number u =
    entry.Prelog 0 [] ∷ entry.Unit 0 [] ∷ entry.Sync kind object number (pos 0) [] [] ∷ entry.Unit u (pos 0 ∷ [])
    ∷ entry.Sync sync.V 0 2 (pos 0) (0 ∷ []) (0 ∷ []) ∷ entry.Unit 2 [] ∷ entry.Postlog 0 [] ∷ entry.End status.Ended 1 [] [] ∷ []

pub other_kind : replays_of (setting_of lock.program lock.plan 100000) (locked sync.V 0 1 1) ≡ failed 0 2 (wanted.Sync sync.P 0 (pos 0)) (found.Sync sync.V 0 (pos 0)) ∷ []
unfolding terms
other_kind = refl

pub other_object : replays_of (setting_of lock.program lock.plan 100000) (locked sync.P 1 1 1) ≡ failed 0 2 (wanted.Sync sync.P 0 (pos 0)) (found.Sync sync.P 1 (pos 0)) ∷ []
unfolding terms
other_object = refl

-- the step of the synchronization was taken
pub other_unit : replays_of (setting_of lock.program lock.plan 100000) (locked sync.P 0 1 2) ≡ failed 1 3 (wanted.Unit 1) (found.Unit 2) ∷ []
unfolding terms
other_unit = refl

-- the number of a synchronization is taken from the log
pub other_number : replays_of (setting_of lock.program lock.plan 100000) (locked sync.P 0 9 1) ≡ record { steps = 5; answer = Ok (record { items = Own (event 0 [] [] None (Some 9) None) ∷ Own (event 1 (access (Shared 0) (pos 0) ∷ []) (access (Shared 0) (pos 1) ∷ []) None None None) ∷ Own (event 2 [] [] None (Some 2) None) ∷ Own (event 3 [] [] None None None) ∷ [] }) } ∷ []
unfolding terms
other_number = refl

-- ---- chan c[1]; process a { send(c, 7); .. } process b { int v; print(x); v = recv(c); v = recv(c); }

-- what is sent has to be the value of the log
pub other_value : replays_of (setting_of channel.program channel.plan 100000) (entry.Prelog 0 [] ∷ entry.Unit 0 [] ∷ entry.Sync sync.Send 0 1 (pos 9) [] [] ∷ entry.Unit 1 [] ∷ entry.End status.Blocked 0 [] [] ∷ []) ≡ failed 0 2 (wanted.Sync sync.Send 0 (pos 7)) (found.Sync sync.Send 0 (pos 9)) ∷ []
unfolding terms
other_value = refl

-- what is received is the value of the log; a process that is blocked before any synchronization is
-- taken as blocked there
pub received_value : replays_of (setting_of channel.program channel.plan 100000) (entry.Prelog 1 [] ∷ entry.Unit 3 (pos 0 ∷ []) ∷ entry.Sync sync.Recv 0 1 (pos 5) (0 ∷ []) [] ∷ entry.Unit 4 [] ∷ entry.End status.Blocked 0 [] [] ∷ []) ≡ record { steps = 4; answer = Ok (record { items = Own (event 4 [] (access (Local 0 0) (pos 0) ∷ []) None None None) ∷ Own (event 5 (access (Shared 0) (pos 0) ∷ []) [] (Some (pos 0)) None None) ∷ Own (event 6 [] (access (Local 0 0) (pos 5) ∷ []) None (Some 1) None) ∷ [] }) } ∷ []
unfolding terms
received_value = refl

-- ---- process a { int i = 3; while (i < 3) { i = i + 1; } print(i); } with loops as blocks

-- the loop leaves i as 3 and not as 4; the interval round it takes i as 4 from the log
pub other_postlog : replays_of (setting_of loop.program loop.plan 100000) (entry.Prelog 0 [] ∷ entry.Unit 0 [] ∷ entry.Prelog 1 (pos 3 ∷ []) ∷ entry.Unit 1 [] ∷ entry.Postlog 1 (pos 4 ∷ []) ∷ entry.Unit 2 [] ∷ entry.Postlog 0 [] ∷ entry.End status.Ended 1 [] [] ∷ []) ≡ record { steps = 4; answer = Ok (record { items = Own (event 0 [] (access (Local 0 0) (pos 3) ∷ []) None None None) ∷ Nested 1 1 (pos 4 ∷ []) true ∷ Own (event 3 (access (Local 0 0) (pos 4) ∷ []) [] (Some (pos 4)) None None) ∷ Own (event 4 [] [] None None None) ∷ [] }) } ∷ failed 0 4 (wanted.Postlog (pos 3 ∷ [])) (found.Postlog (pos 4 ∷ [])) ∷ []
unfolding terms
other_postlog = refl

-- an interval of the loop is needed, and the entry is that of its prelog
pub no_nested : replays_of (setting_of loop.program loop.plan 100000) (entry.Prelog 0 [] ∷ entry.Unit 0 [] ∷ entry.Unit 2 [] ∷ entry.Postlog 0 [] ∷ entry.End status.Ended 1 [] [] ∷ []) ≡ failed 1 2 (wanted.Nested 1) (found.Unit 2) ∷ []
unfolding terms
no_nested = refl

-- ---- shared int a[2]; process p { .. while (a[i] != 0) { i = i + 1; } .. } traps at a[2]

-- the log of p, with this end
abbrev pub trapped : Status → ℕ → List Entry
trapped how rest = entry.Prelog 0 [] ∷ entry.Unit 0 (pos 0 ∷ pos 0 ∷ []) ∷ entry.End how rest (0 ∷ 1 ∷ []) (0 ∷ 1 ∷ []) ∷ []

pub other_trap : replays_of (setting_of past.program past.plan 100000) (trapped (status.Trap trap.Zero) 9) ≡ failed 9 2 (wanted.End (status.Trap trap.Index)) (found.End (status.Trap trap.Zero)) ∷ []
unfolding terms
other_trap = refl

-- the trap comes before that many steps: what is wanted and what is found are both the trap
pub early_trap : replays_of (setting_of past.program past.plan 100000) (trapped (status.Trap trap.Index) 10) ≡ failed 9 2 (wanted.End (status.Trap trap.Index)) (found.End (status.Trap trap.Index)) ∷ []
unfolding terms
early_trap = refl

-- ---- shared int x; process a { x = 2; print(x + 3); }

-- a process that leaves its block was not blocked
pub left_before_end : replays_of (setting_of smallest.program smallest.plan 100000) (entry.Prelog 0 [] ∷ entry.Unit 0 (pos 0 ∷ []) ∷ entry.End status.Blocked 3 [] [] ∷ []) ≡ failed 3 2 (wanted.Postlog []) (found.End status.Blocked) ∷ []
unfolding terms
left_before_end = refl
