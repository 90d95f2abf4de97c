-- Which event of a process last wrote each shared cell in each internal edge.
use Rattle.std.specs.Prelude.{ℕ, ◌+◌, ◌*◌, List, fold, Option, Some, None}
use Rattle.std.specs.FinMap.{FinMap, insert}
use Rattle.std.specs.Ordering.{nat_cmp}
use Rattle.ppd_sem.specs.declared.event.Access.{Access}
use Rattle.ppd_sem.specs.declared.event.Spot.{Spot}
use Rattle.ppd_sem.specs.declared.event.Spot.TheVariants.{Local, Shared}

-- the number of an event, by cell and edge
abbrev pub Written : Type 0
Written = FinMap nat_cmp ℕ

-- a cell in an edge, which has 32 bits
abbrev pub key : ℕ → ℕ → ℕ
key c i = c * 4294967296 + i

-- event n, of edge i, writes this spot
abbrev pub mark_spot : ℕ → ℕ → Written → Spot → Written
mark_spot i n m (Local frame c) = m
mark_spot i n m (Shared c) = insert m (key c i) n

abbrev pub mark_access : ℕ → ℕ → Written → Access → Written
mark_access i n m a = mark_spot i n m a.spot

-- a synchronization writes no shared cell
abbrev pub written_past : Option ℕ → ℕ → ℕ → List Access → Written → Written
written_past (Some number) i n writes m = m
written_past None i n writes m = fold (mark_access i n) m writes
