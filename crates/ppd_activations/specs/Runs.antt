-- What is kept of an activation while its process is followed: of its tests the latest of each statement.
use Rattle.std.specs.Prelude.{ℕ, ◌-◌, ℤ, ◌++◌, List, [], ◌∷◌, replicate, slice_get, slice_set, Option, Some, None, option_map, if◌then◌else◌, option_and_then}
use Rattle.std.specs.FinMap.{FinMap, empty, get, insert}
use Rattle.std.specs.Ordering.{nat_cmp}
use Rattle.ppd_ast.specs.declared.program.Kind.{Kind}
use Rattle.ppd_ast.specs.declared.program.Kind.TheVariants.{If, While}
use Rattle.ppd_ast.specs.declared.program.Program.{Program}
use Rattle.ppd_ast.specs.Lookups.{kind_of, body_numbered}
use Rattle.ppd_sem.specs.declared.event.Event.{Event}
use Rattle.ppd_model.specs.declared.trace.EventId.{EventId}
use Rattle.ppd_model.specs.declared.tracing.Activation.{Activation}
use Rattle.ppd_model.specs.declared.tracing.Test.{Test}
use Rattle.ppd_model.specs.FullTrace.{Tag, is_passed, of_run}
use Rattle.std.specs.Option.{option_or}
use Rattle.ppd_activations.specs.declared.runs.Run.{Run}

-- the latest test of each statement
abbrev pub Tests : Type 0
Tests = FinMap nat_cmp Test

-- the latest of these tests
abbrev pub latest_of : List Test → Tests
latest_of [] = empty
latest_of (x ∷ xs) = insert (latest_of xs) x.stmt x

-- what is kept of an activation
abbrev pub run_of : Activation → Run
run_of x = record { call = x.call; tags = x.tags; latest = latest_of x.tests }

-- the run of a body with so many local cells, which have no tags, before its first event
abbrev pub begun_run : ℕ → Run
begun_run n = record { call = None; tags = replicate n None; latest = empty }

-- the run that a call begins, which writes so many parameters
abbrev pub called : Program → ℕ → ℕ → Option EventId → Run
called program f count me = record {
  call = me;
  tags = replicate count me ++ replicate ((body_numbered program f).cells - count) None;
  latest = empty;
}

-- ---- the tags

-- the tags of the local cells of the running body
abbrev pub top_tags : List Run → List Tag
top_tags [] = []
top_tags (x ∷ xs) = x.tags

-- the top run with a new tag of cell c
abbrev pub tagged : ℕ → Tag → List Run → List Run
tagged c me [] = []
tagged c me (x ∷ xs) = record x { tags = slice_set x.tags c me } ∷ xs

-- the receiving local has the tag of the return, where there are a local and a value
abbrev pub tagged_into : Option ℕ → Option ℤ → Tag → List Run → List Run
tagged_into (Some c) (Some v) me xs = tagged c me xs
tagged_into into value me xs = xs

-- ---- control

-- the event of a test whose value was true
abbrev pub passed_event : Option Test → Option EventId
passed_event None = None
passed_event (Some x) = if x.passed then Some x.event else None

-- the latest test of the statement in which another one directly stands
abbrev pub of_outer : Option ℕ → Tests → Option EventId
of_outer None tests = None
of_outer (Some s) tests = option_map (λ x. x.event) (get tests s)

-- the control parent of statement s in its run
abbrev pub parent_in : Program → ℕ → Run → Option EventId
parent_in program s x =
    option_or (of_run (kind_of program s) (get x.latest s))
    (option_or (of_outer (option_and_then (λ x. x.parent) (slice_get program.stmts s)) x.latest) x.call)

-- the control parent of an event of statement s, and None in a process by itself
abbrev pub parent_of : Program → List Run → ℕ → Option EventId
parent_of program [] s = None
parent_of program (x ∷ xs) s = parent_in program s x

-- the latest tests with one more, where the statement is an `If` or a `While`
abbrev pub tests_after : Kind → ℕ → EventId → Option ℤ → Tests → Tests
tests_after (If e first second) s me value tests =
    insert tests s (record { stmt = s; event = me; passed = is_passed value })
tests_after (While e body) s me value tests = insert tests s (record { stmt = s; event = me; passed = is_passed value })
tests_after k s me value tests = tests

-- the top run with the event, if it is of a test
abbrev pub with_test : Program → EventId → Event → List Run → List Run
with_test program me e [] = []
with_test program me e (x ∷ xs) =
    record x { latest = tests_after (kind_of program e.stmt) e.stmt me e.value x.latest } ∷ xs
