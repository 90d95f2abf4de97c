-- What the walk of a unit reaches, and the shared cells that it may read.
use Rattle.ppd_ast.specs.Lookups.{body_numbered, kind_of}
use Rattle.ppd_ast.specs.Members.{has, those}
use Rattle.ppd_ast.specs.Numbered.{is_left}
use Rattle.ppd_ast.specs.declared.limits.TheConstants.{MOST_NESTING}
use Rattle.ppd_ast.specs.declared.plan.Start.{Start}
use Rattle.ppd_ast.specs.declared.plan.Start.TheVariants.{After, Enter, Entry, Exit}
use Rattle.ppd_ast.specs.declared.program.Program.{Program}
use Rattle.ppd_ast.specs.declared.program.Stmt.{Stmt}
use Rattle.ppd_sets.specs.Flow.{follow, next_of}
use Rattle.ppd_sets.specs.Reach.{closure, leads}
use Rattle.ppd_sets.specs.Used.{reads_at, sorted}
use Rattle.std.specs.List.{filter, find, flat_map, range_with_len}
use Rattle.std.specs.Prelude.{Bool, List, None, Option, Some, false, length, map, nat_eq, not, option_and_then, option_to_list, slice_get, suc, true, zero, ℕ, ◌&&◌, ◌||◌}

-- ---- the ways of a unit

-- whether q is among this statement and those that it stands in, so many of them
unfoldable pub stands_at : (depth : ℕ) → List Stmt → (q : ℕ) → Option ℕ → Bool
stands_at zero stmts q o = false
stands_at (suc d) stmts q None = false
stands_at (suc d) stmts q (Some s) =
    nat_eq s q || stands_at d stmts q (option_and_then (λ x. x.parent) (slice_get stmts s))

-- whether statement s is q or stands in it
abbrev pub stands_in : Program → (s q : ℕ) → Bool
stands_in p s q = stands_at MOST_NESTING p.stmts q (Some s)

-- whether the way from statement s to t enters t, a block loop
abbrev pub enters : Program → (loops : List ℕ) → (s t : ℕ) → Bool
enters p loops s t = has loops t && not (stands_in p s t)

-- whether a unit starts between statement s and its successor t: after a call or a synchronization, at the
-- entry of a block loop, or at its exit, where the way back would enter it
abbrev pub is_between : Program → (loops : List ℕ) → (s t : ℕ) → Bool
is_between p loops s t = is_left (kind_of p s) || (enters p loops s t || enters p loops t s)

-- the successors of each statement that are in its unit
abbrev pub unit_rows : Program → (loops : List ℕ) → List (List ℕ)
unit_rows p loops =
    map (λ s. filter (λ t. not (is_between p loops s t)) (next_of p s)) (range_with_len 0 (length p.stmts))

-- ---- where a unit begins

-- the statement that a unit begins with: of a body's entry the first one, of a block loop's entry its test,
-- else what follows; none where that is a block loop's entry
abbrev pub begin_of : Program → (loops : List ℕ) → Start → Option ℕ
begin_of p loops (Entry b) = find (λ t. not (has loops t)) (option_to_list (slice_get (body_numbered p b).top 0))
begin_of p loops (After s) = find (λ t. not (enters p loops s t)) (option_to_list (follow p s))
begin_of p loops (Enter s) = Some s
begin_of p loops (Exit s) = find (λ t. not (enters p loops s t)) (option_to_list (follow p s))

-- ---- what it reads

-- the shared cells that a unit may read: those of the statements to which the ways in it lead from where it begins,
-- rising, each once
abbrev pub unit_cells : Program → (loops : List ℕ) → Start → List ℕ
unit_cells p loops start =
    sorted
    (flat_map (reads_at true p)
    (those (length p.stmts) (leads (closure (unit_rows p loops)) (option_to_list (begin_of p loops start)))))
