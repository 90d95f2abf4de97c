-- What an origin costs.
use Rattle.std.specs.Prelude.{ℕ, ◌*◌, length}
use Rattle.ppd_flow_shared.specs.Past.{Past}

-- a read at most: of each process the last edge before one that writes the cell, by halves
abbrev pub read_cost : Past → ℕ
read_cost past = 65 * length past.graph.now.edges
