-- The rows of a graph of static edges.
use Rattle.std.proofs.Common.{◌≡◌, ℕ, ◌<◌, [], length, ap, ◌∙◌, arith}
use Rattle.std.specs.List.{range_with_len}
use Rattle.std.proofs.lemmas.List.{length-map}
use Rattle.std.proofs.lemmas.List.FromFn.{get_or-map-range_with_len, length-range_with_len}
use Rattle.ppd_ast.specs.declared.program.Program.{Program}
use Rattle.ppd_deps.specs.declared.edges.DepGraph.{DepGraph}
use Rattle.ppd_deps.specs.Edges.{edges_of}
use Rattle.ppd_deps.specs.Rows.{row_at}
use Rattle.ppd_deps.specs.Tables.{IsDepGraph}

pub row_count : (p : Program) (g : DepGraph) → IsDepGraph p g → length g.rows ≡ length p.stmts
row_count p g h = ap length h.rows ∙ (length-map (range_with_len 0 (length p.stmts)) (edges_of p) ∙ length-range_with_len 0 (length p.stmts))

pub row_is : (p : Program) (g : DepGraph) (s : ℕ) → IsDepGraph p g → s < length p.stmts → row_at g.rows s ≡ edges_of p s
row_is p g s h lt = ap (λ rows. row_at rows s) h.rows ∙ get_or-map-range_with_len (edges_of p) 0 (length p.stmts) s s [] lt (omega arith)
