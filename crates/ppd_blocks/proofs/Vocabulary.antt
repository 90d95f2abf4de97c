-- What the proofs speak of: the parts of the definitions, each by a name of its own.
use Rattle.std.specs.Prelude.{ℕ, not, List, ◌∷◌, Option, true, length, unwrap_or}
use Rattle.std.specs.List.{filter, flat_map, range_with_len, enumerate_from}
use Rattle.ppd_ast.specs.declared.program.Program.{Program}
use Rattle.ppd_sets.specs.Flow.{next_of}
use Rattle.ppd_blocks.specs.Walk.{is_between}
use Rattle.ppd_ast.specs.declared.program.Body.{Body}
use Rattle.ppd_ast.specs.declared.plan.Start.{Start}
use Rattle.ppd_ast.specs.declared.plan.Start.TheVariants.{Entry}
use Rattle.ppd_ast.specs.Numbered.{numbers_of, blocks_by}
use Rattle.ppd_blocks.specs.Starts.{unit_starts_at}
use Rattle.ppd_ast.specs.declared.plan.Policy.{Policy}
use Rattle.ppd_blocks.specs.Blocks.{loop_in, postlog_of, prelog_of}
use Rattle.ppd_ast.specs.declared.plan.Block.{Block}
use Rattle.ppd_ast.specs.declared.plan.BlockKind.{BlockKind}
use Rattle.ppd_ast.specs.Bare.{gives_value}
use Rattle.ppd_ast.specs.Members.{those}
use Rattle.ppd_sets.specs.Reach.{closure, leads}
use Rattle.ppd_sets.specs.Used.{reads_at, sorted}
use Rattle.ppd_ast.specs.Lookups.{no_body}

-- the successors of statement s that are in its unit
abbrev pub unit_next : Program → (loops : List ℕ) → ℕ → List ℕ
unit_next p loops s = filter (λ t. not (is_between p loops s t)) (next_of p s)

-- the starts of body j: its entry, then those at its statements
abbrev pub starts_in : Program → (loops : List ℕ) → ℕ → Body → List Start
starts_in p loops j b = Entry j ∷ flat_map (unit_starts_at p loops) (numbers_of p.stmts b)

-- the starts of all bodies
abbrev pub all_starts : Program → (loops : List ℕ) → List Start
all_starts p loops = flat_map (λ e. starts_in p loops e.0 e.1) (enumerate_from 0 p.bodies)

-- the cells of the parameters of a body, and none where there is no body
abbrev pub params_of : Option Body → List ℕ
params_of o = range_with_len 0 (unwrap_or o no_body).params

-- the loops that are blocks of the policy
abbrev pub block_loops : Program → Policy → List ℕ
block_loops p policy = flat_map loop_in (blocks_by p.stmts policy p.bodies)

-- the block of this kind
abbrev pub block_of : Program → BlockKind → Block
block_of p kind =
    record { kind = kind; prelog = prelog_of p kind; postlog = postlog_of p kind; value = gives_value p.bodies kind }

-- the shared cells that the statements may read to which these rows lead from these starts, rising, each once
abbrev pub cells_along : Program → (rows : List (List ℕ)) → (starts : List ℕ) → List ℕ
cells_along p rows starts = sorted (flat_map (reads_at true p) (those (length p.stmts) (leads (closure rows) starts)))
