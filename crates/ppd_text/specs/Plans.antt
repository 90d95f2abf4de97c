-- The lines of a plan: its blocks with the variables of their prelogs and postlogs, and its units with those that
-- they may read.
use Rattle.ppd_ast.specs.Lookups.{body_numbered}
use Rattle.ppd_ast.specs.declared.plan.Block.{Block}
use Rattle.ppd_ast.specs.declared.plan.BlockKind.{BlockKind}
use Rattle.ppd_ast.specs.declared.plan.BlockKind.TheVariants.{Function, Loop, Process}
use Rattle.ppd_ast.specs.declared.plan.Start.{Start}
use Rattle.ppd_ast.specs.declared.plan.Start.TheVariants.{After, Enter, Entry, Exit}
use Rattle.ppd_ast.specs.declared.plan.Unit.{Unit as UnitOf}
use Rattle.ppd_ast.specs.declared.program.Program.{Program}
use Rattle.ppd_ast.specs.declared.program.Var.{Var}
use Rattle.ppd_sets.specs.Used.{vars_met}
use Rattle.ppd_text.specs.Names.{at_number, names_text}
use Rattle.ppd_text.specs.Texts.{place_text}
use Rattle.std.specs.List.{flat_map, range_with_len}
use Rattle.std.specs.Prelude.{List, codes, decimal, if◌then◌else◌, length, ℕ, ◌++◌}

-- the names of the variables that have a cell in the list
abbrev pub cells_text : List Var → (cells : List ℕ) → List ℕ
cells_text vars cells = names_text vars (vars_met vars cells)

-- the lines of a list's items, by number
abbrev pub lines_of : {A : Type 0} → (ℕ → A → List ℕ) → List A → List ℕ
lines_of line items = flat_map (λ k. at_number (line k) items k) (range_with_len 0 (length items))

-- ---- blocks

-- what a block is the code of
abbrev pub block_what : Program → BlockKind → List ℕ
block_what p (Function f) = codes "function " ++ (body_numbered p f).name
block_what p (Process f) = codes "process " ++ (body_numbered p f).name
block_what p (Loop s) = codes "loop " ++ at_number (λ x. place_text x.place) p.stmts s

-- the variables of the body that a block is, or in which its loop stands
abbrev pub block_locals : Program → BlockKind → List Var
block_locals p (Function f) = (body_numbered p f).locals
block_locals p (Process f) = (body_numbered p f).locals
block_locals p (Loop s) = at_number (λ x. (body_numbered p x.body).locals) p.stmts s

-- the line of block k: its postlog holds the value that a function returns, or variables
abbrev pub block_line : Program → (k : ℕ) → Block → List ℕ
block_line p k b =
    codes "block " ++ decimal k ++ codes " " ++ block_what p b.kind
    ++ codes " prelog" ++ cells_text (block_locals p b.kind) b.prelog
    ++ codes " postlog" ++ (if b.value then codes " value" else cells_text (block_locals p b.kind) b.postlog)
    ++ codes "\n"

-- ---- units

-- where a unit starts
abbrev pub start_text : Program → Start → List ℕ
start_text p (Entry b) = codes "entry " ++ (body_numbered p b).name
start_text p (After s) = codes "after " ++ decimal s
start_text p (Enter s) = codes "enter " ++ decimal s
start_text p (Exit s) = codes "exit " ++ decimal s

-- the line of unit k
abbrev pub unit_line : Program → (k : ℕ) → UnitOf → List ℕ
unit_line p k u =
    codes "unit " ++ decimal k ++ codes " " ++ start_text p u.start ++ codes " reads" ++ cells_text p.shared u.cells
    ++ codes "\n"
