-- The static tables: bodies with what they use and define and their statements, then the blocks and units of a plan.
use Rattle.ppd_ast.specs.Numbered.{numbers_of}
use Rattle.ppd_ast.specs.declared.plan.Plan.{Plan}
use Rattle.ppd_ast.specs.declared.program.Body.{Body}
use Rattle.ppd_ast.specs.declared.program.Program.{Program}
use Rattle.ppd_ast.specs.declared.program.Stmt.{Stmt}
use Rattle.ppd_sets.specs.Used.{reads_at, shared_through, writes_at}
use Rattle.ppd_text.specs.Kinds.{kind_text}
use Rattle.ppd_text.specs.Names.{at_number, names_text}
use Rattle.ppd_text.specs.Plans.{block_line, lines_of, unit_line}
use Rattle.ppd_text.specs.Texts.{place_text}
use Rattle.std.specs.List.{flat_map}
use Rattle.std.specs.Prelude.{List, codes, decimal, if◌then◌else◌, true, ℕ, ◌++◌}

-- ---- statements

-- the line of statement s
abbrev pub stmt_line : Program → (s : ℕ) → Stmt → List ℕ
stmt_line p s x =
    codes "stmt " ++ decimal s ++ codes " " ++ place_text x.place ++ codes " " ++ kind_text p x.kind ++ codes "\n"

abbrev pub stmt_at : Program → (s : ℕ) → List ℕ
stmt_at p s = at_number (stmt_line p s) p.stmts s

-- ---- bodies

-- the line of body k, with the shared variables that it uses and those that it defines
abbrev pub body_line : Program → (k : ℕ) → Body → List ℕ
body_line p k b =
    codes "body " ++ decimal k ++ codes " " ++ (if b.process then codes "process " else codes "function ") ++ b.name
    ++ codes " used" ++ names_text p.shared (shared_through p (reads_at true p) k)
    ++ codes " defined" ++ names_text p.shared (shared_through p (writes_at true p) k) ++ codes "\n"

-- the line of body k and those of its statements
abbrev pub body_lines : Program → (k : ℕ) → Body → List ℕ
body_lines p k b = body_line p k b ++ flat_map (stmt_at p) (numbers_of p.stmts b)

abbrev pub body_at : Program → (k : ℕ) → List ℕ
body_at p k = at_number (body_lines p k) p.bodies k

-- ---- the tables

abbrev pub table_of : Program → Plan → List ℕ
table_of p plan =
    lines_of (body_lines p) p.bodies ++ lines_of (block_line p) plan.blocks ++ lines_of (unit_line p) plan.units
