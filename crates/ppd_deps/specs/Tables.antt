-- What the search for static edges is given.
use Rattle.ppd_sets.specs.Used.{reads_at, writes_at}
use Rattle.std.specs.Prelude.{◌≡◌, length, map, false}
use Rattle.std.specs.List.{range_with_len}
use Rattle.ppd_ast.specs.declared.program.Program.{Program}
use Rattle.ppd_sets.specs.Flow.{flow_rows}
use Rattle.ppd_deps.specs.declared.edges.DepGraph.{DepGraph}
use Rattle.ppd_deps.specs.declared.tables.Tables.{Tables}
use Rattle.ppd_deps.specs.Edges.{edges_of}
use Rattle.ppd_deps.specs.Named.{running, shared_reads, own_vars}

-- the successors of each statement, the bodies that run, and the variables that each statement may read and writes
pub record AreTables (p : Program) (t : Tables) : Type 0 where
  pub next : t.next ≡ flow_rows p
  pub running : t.running ≡ running p
  pub shared : t.shared ≡ map (shared_reads p) (range_with_len 0 (length p.stmts))
  pub local : t.local ≡ map (own_vars p (reads_at false p)) (range_with_len 0 (length p.stmts))
  pub written : t.written ≡ map (own_vars p (writes_at false p)) (range_with_len 0 (length p.stmts))

-- the graph has for each statement the static edges into it
pub record IsDepGraph (p : Program) (g : DepGraph) : Type 0 where
  pub rows : g.rows ≡ map (edges_of p) (range_with_len 0 (length p.stmts))
