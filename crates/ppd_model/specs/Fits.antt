-- What a replay needs of the next piece, and whether the piece is that.
use Rattle.std.specs.Prelude.{nat_eq, pos, Bool, true, false, ◌&&◌, Option, Some, option_map}
use Rattle.std.specs.Cmp.Lexicographic.{pointwise}
use Rattle.std.specs.Ordering.{int_eq}
use Rattle.ppd_ast.specs.declared.plan.Plan.{Plan}
use Rattle.ppd_ast.specs.declared.program.Program.{Program}
use Rattle.ppd_ast.specs.declared.status.Status.TheVariants as status
use Rattle.ppd_ast.specs.declared.status.SyncKind.TheVariants as sync_kind
use Rattle.ppd_ast.specs.declared.status.Trap.{Trap as TrapOf}
use Rattle.ppd_ast.specs.declared.status.Trap.TheVariants as trap
use Rattle.ppd_model.specs.Pieces.{Piece, unit, sync, nested, unfinished, postlog, finish}
use Rattle.ppd_model.specs.Entries.{same_kind}
use Rattle.ppd_sem.specs.declared.proc.Need.{Need}
use Rattle.ppd_sem.specs.declared.proc.Need.TheVariants.{Enter, Invoke, P, V, Send, Offer, Done, Recv, Trap}
use Rattle.ppd_sem.specs.declared.proc.Proc.{Proc}
use Rattle.ppd_model.specs.Marks.{closed}
use Rattle.ppd_model.specs.declared.wanted.Found.{Found}
use Rattle.ppd_model.specs.declared.wanted.Found.TheVariants as found
use Rattle.ppd_model.specs.declared.wanted.Wanted.{Wanted}
use Rattle.ppd_model.specs.declared.wanted.Wanted.TheVariants as wanted

-- ---- the piece that is there

-- a piece as it is compared: the value of a synchronization counts for a send alone
abbrev pub found_of : Piece → Found
found_of (unit u values) = found.Unit u
found_of (sync sync_kind.Send object number value) = found.Sync sync_kind.Send object value
found_of (sync kind object number value) = found.Sync kind object (pos 0)
found_of (nested k b values) = found.Nested b
found_of (unfinished k b) = found.Nested b
found_of (postlog values) = found.Postlog values
found_of (finish s rest) = found.End s

-- ---- the piece that is needed

-- what a step of this need needs the next piece to be, if it needs one: of a block that it enters the interval, of a
-- block that it leaves the postlog
abbrev pub wanted_of : Program → Plan → Proc → Need → Option Wanted
wanted_of program plan s (P o u) = Some (wanted.Sync sync_kind.P o (pos 0))
wanted_of program plan s (V o u) = Some (wanted.Sync sync_kind.V o (pos 0))
wanted_of program plan s (Send o v u) = Some (wanted.Sync sync_kind.Send o v)
wanted_of program plan s (Offer o v) = Some (wanted.Sync sync_kind.Send o v)
wanted_of program plan s (Done o u) = Some (wanted.Sync sync_kind.Done o (pos 0))
wanted_of program plan s (Recv o u) = Some (wanted.Sync sync_kind.Recv o (pos 0))
wanted_of program plan s (Enter b u) = Some (wanted.Nested b)
wanted_of program plan s (Invoke b u) = option_map wanted.Nested b
wanted_of program plan s (Trap t) = Some (wanted.End (status.Trap t))
wanted_of program plan s need = option_map (λ m. wanted.Postlog m.values) (closed program plan s need)

-- ---- whether they are one

-- the traps are one
abbrev pub same_trap : TrapOf → TrapOf → Bool
same_trap trap.Overflow trap.Overflow = true
same_trap trap.Zero trap.Zero = true
same_trap trap.Index trap.Index = true
same_trap trap.Assert trap.Assert = true
same_trap trap.Depth trap.Depth = true
same_trap a b = false

-- the piece is the one needed: of a unit and of a nested block the number is compared, of a
-- synchronization kind, object and value, of the postlog all values; an end is none
abbrev pub fits : Wanted → Found → Bool
fits (wanted.Unit a) (found.Unit b) = nat_eq a b
fits (wanted.Sync k o v) (found.Sync k' o' v') = same_kind k k' && nat_eq o o' && int_eq v v'
fits (wanted.Nested a) (found.Nested b) = nat_eq a b
fits (wanted.Postlog vs) (found.Postlog ws) = pointwise int_eq vs ws
fits w f = false
