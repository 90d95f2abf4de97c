-- A cell is put in its place of a rising list.
use Rattle.std.proofs.Common.{ℕ, ◌+◌, List, [], ◌++◌, take, drop}
use Rattle.ppd_ast.specs.Members.{with_cell}

-- the first cells with the others, which this one has yet to pass
abbrev pub passed : List ℕ → ℕ → ℕ → List ℕ
passed cells cell i = take i cells ++ with_cell cell (drop i cells)
