-- How many cells a statement reads and writes at most, by which the steps of making a trace are bounded.
use Rattle.std.specs.Prelude.{ℕ, ◌+◌, max, List, [], ◌∷◌, length, map, Option, Some}
use Rattle.std.specs.List.{sum_by}
use Rattle.ppd_ast.specs.declared.plan.Plan.{Plan}
use Rattle.ppd_ast.specs.declared.program.Expr.{Expr}
use Rattle.ppd_ast.specs.declared.program.Kind.{Kind}
use Rattle.ppd_ast.specs.declared.program.Kind.TheVariants.{Zero, Call}
use Rattle.ppd_ast.specs.declared.program.Program.{Program}
use Rattle.ppd_ast.specs.Term.{Term, const, local, local_at, shared, shared_at, neg, not, two, and, or, term}
use Rattle.ppd_ast.specs.Uses.{kind_uses}
use Rattle.ppd_sem.specs.declared.proc.Proc.{Proc}
use Rattle.ppd_sem.specs.Deed.{Deed, clear, invoke}
use Rattle.ppd_sem.specs.Passed.{arguments_at, deed_at}
use Rattle.ppd_model.specs.declared.tracing.Story.{Story}
use Rattle.ppd_model.specs.declared.tracing.Taken.{Taken}
use Rattle.ppd_model.specs.FullTrace.{event_of}
use Rattle.ppd_ast.specs.Lookups.{body_numbered}

-- ---- of a program

-- the cells that an expression reads at most: those that it names
abbrev pub reads_in : Term → ℕ
reads_in (const v) = 0
reads_in (local c) = 1
reads_in (local_at base len i) = reads_in i + 1
reads_in (shared c) = 1
reads_in (shared_at base len i) = reads_in i + 1
reads_in (neg a) = reads_in a
reads_in (not a) = reads_in a
reads_in (two op a b) = reads_in a + reads_in b
reads_in (and a b) = reads_in a + reads_in b
reads_in (or a b) = reads_in a + reads_in b

-- the cells that these expressions read at most
abbrev pub reads_in_all : List Expr → List ℕ → ℕ
reads_in_all es [] = 0
reads_in_all es (e ∷ rest) = reads_in (term es e) + reads_in_all es rest

-- the cells that a statement clears, or that a call gives to its parameters and to the frame that it begins
abbrev pub writes_in : Program → Kind → ℕ
writes_in program (Zero base len) = len
writes_in program (Call f arguments into) = length arguments + (body_numbered program f).cells
writes_in program k = 0

-- the cells of a statement
abbrev pub cells_in : Program → Kind → ℕ
cells_in program k = reads_in_all program.exprs (kind_uses k) + writes_in program k

abbrev pub most : List ℕ → ℕ
most [] = 0
most (n ∷ ns) = max n (most ns)

-- the cells of the statement that has the most
abbrev pub most_statement_cells : Program → ℕ
most_statement_cells program = most (map (λ s. cells_in program s.kind) program.stmts)

-- the shared cells, the bodies and the cells of their frames
abbrev pub extent : Program → ℕ
extent program = length program.starts + length program.bodies + sum_by (λ b. b.cells) program.bodies

-- ---- of a step, and of a story

-- the cells that a deed clears, or that a call writes
abbrev pub written_by : Program → Proc → Option Deed → ℕ
written_by program s (Some (clear base len)) = len
written_by program s (Some (invoke f values into)) =
    length (arguments_at program s) + (body_numbered program f).cells
written_by program s deed = 0

-- the cells of the event of a process's next step
abbrev pub cells_of_step : Program → Plan → Proc → Taken → ℕ
cells_of_step program plan s x =
    length (event_of program plan s x s.todo).reads + written_by program s (deed_at program s)

-- the steps of a story
abbrev pub steps_in : Story → ℕ
steps_in story = sum_by length story.steps
