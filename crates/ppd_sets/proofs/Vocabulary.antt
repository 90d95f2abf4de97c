-- What the proofs speak of: the parts of the definitions, each by a name of its own.
use Rattle.ppd_sets.specs.Named.{cells_if}
use Rattle.std.specs.Prelude.{ℕ, Bool, List, [], Option, true, not}
use Rattle.std.specs.Option.{option_map_or}
use Rattle.std.specs.List.{flat_map}
use Rattle.ppd_ast.specs.declared.program.Body.{Body}
use Rattle.ppd_ast.specs.declared.program.Program.{Program}
use Rattle.ppd_ast.specs.Numbered.{numbers_of}
use Rattle.ppd_ast.specs.Lookups.{kind_of}
use Rattle.ppd_sets.specs.Used.{callee, stmts_at, reads_at, writes_at}

-- the local that receives a value, if there is one
abbrev pub receiving : (wants_shared : Bool) → Option ℕ → List ℕ
receiving w into = option_map_or (λ c. cells_if (not w) c 1) into []

-- the statements of a body, and none where there is no body
abbrev pub numbers_in : Program → Option Body → List ℕ
numbers_in p o = option_map_or (numbers_of p.stmts) o []

-- the functions that body b calls
abbrev pub calls_at : Program → ℕ → List ℕ
calls_at p b = flat_map (λ s. callee (kind_of p s)) (stmts_at p b)

-- the shared cells that the statements of body b may read
abbrev pub body_reads : Program → ℕ → List ℕ
body_reads p b = flat_map (reads_at true p) (stmts_at p b)

-- the shared cells that the statements of body b write
abbrev pub body_writes : Program → ℕ → List ℕ
body_writes p b = flat_map (writes_at true p) (stmts_at p b)
