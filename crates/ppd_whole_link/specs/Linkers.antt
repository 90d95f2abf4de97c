-- What is kept of a process that is linked: it is followed, and of each shared cell the last event that wrote it.
use Rattle.std.specs.Prelude.{ℕ, nat_eq, List, [], ◌∷◌, fold, get_or, Option, Some, None, if◌then◌else◌}
use Rattle.std.specs.FinMap.{FinMap, empty, get, insert}
use Rattle.std.specs.Ordering.{nat_cmp}
use Rattle.ppd_ast.specs.declared.program.Program.{Program}
use Rattle.ppd_sem.specs.declared.event.Access.{Access}
use Rattle.ppd_sem.specs.declared.event.Event.{Event}
use Rattle.ppd_sem.specs.declared.event.Spot.{Spot}
use Rattle.ppd_sem.specs.declared.event.Spot.TheVariants.{Local, Shared}
use Rattle.ppd_whole_link.specs.declared.linker.Linker.{Linker}
use Rattle.ppd_whole_link.specs.declared.linker.Mark.{Mark}
use Rattle.ppd_whole_link.specs.Runs.{begun, follow}

-- the last write of each shared cell
abbrev pub Own : Type 0
Own = FinMap nat_cmp Mark

abbrev pub own_spot : Mark → Own → Spot → Own
own_spot new m (Local frame c) = m
own_spot new m (Shared c) = insert m c new

abbrev pub own_access : Mark → Own → Access → Own
own_access new m a = own_spot new m a.spot

-- a synchronization writes no shared cell
abbrev pub own_past : Option ℕ → Mark → List Access → Own → Own
own_past (Some number) new writes m = m
own_past None new writes m = fold (own_access new) m writes

-- the event of edge i that last wrote a cell with this mark, if it is of that edge
abbrev pub own_in : ℕ → Option Mark → Option ℕ
own_in i None = None
own_in i (Some m) = if nat_eq m.edge i then Some m.number else None

-- one more event of process p
abbrev pub link : Program → ℕ → Linker → Event → Linker
link program p x e = record {
  follower = follow program p x.follower e;
  own = own_past e.number (record { edge = x.follower.edge; number = x.follower.number }) e.writes x.own;
}

-- before the first event
abbrev pub unlinked : Program → ℕ → Linker
unlinked program p = record { follower = begun program p; own = empty }

-- after these events
abbrev pub linker_after : Program → ℕ → List Event → Linker
linker_after program p events = fold (link program p) (unlinked program p) events
