-- Which activations and blocks are open by what is still to do, the innermost first.
use Rattle.std.specs.Prelude.{ℕ, List, [], ◌∷◌, ◌++◌, Option, Some, None, if◌then◌else◌}
use Rattle.ppd_ast.specs.declared.plan.BlockKind.TheVariants as block
use Rattle.ppd_ast.specs.declared.plan.Plan.{Plan}
use Rattle.ppd_ast.specs.declared.program.Program.{Program}
use Rattle.ppd_ast.specs.Lookups.{kind_of, body_of}
use Rattle.ppd_sem.specs.declared.proc.Todo.{Todo}
use Rattle.ppd_sem.specs.Process.{loop_of}
use Rattle.ppd_sem.specs.Runs.{returns}
use Rattle.ppd_sem.specs.Tables.{block_of}

-- a block, if it is there
abbrev pub if_there : Option ℕ → List (Option ℕ)
if_there None = []
if_there (Some b) = Some b ∷ []

-- the block of a loop that is entered
abbrev pub of_loop : Program → Plan → Todo → List (Option ℕ)
of_loop program plan t = if t.entered then if_there (loop_of plan t.stmt (kind_of program t.stmt)) else []

-- of a return the block of its function, and None where the function is no block
abbrev pub of_return : Program → Plan → Todo → List (Option ℕ)
of_return program plan t =
    if returns (kind_of program t.stmt) then block_of plan (block.Function (body_of program t.stmt)) ∷ [] else []

-- what these statements close, the next first: a block, or None for an activation of a function that is no block
abbrev pub closing : Program → Plan → List Todo → List (Option ℕ)
closing program plan [] = []
closing program plan (t ∷ ts) = (of_loop program plan t ++ of_return program plan t) ++ closing program plan ts
