-- A set of cells, as the list of its cells, rising.
use Rattle.std.specs.Prelude.{ℕ, ◌<◌, IsTrue, ◌/◌, ◌%◌, nat_eq, Bool, List, get_or}
use Rattle.std.specs.List.{list_any}
use Rattle.std.specs.Int.{bit_at}
use Rattle.ppd_ast.specs.declared.limits.TheConstants.{MOST_SHARED_CELLS}
use Rattle.ppd_ast.specs.Members.{has, those, RisesFrom}

-- whether some number is in both
abbrev pub meet : List ℕ → List ℕ → Bool
meet xs ys = list_any (has ys) xs

-- the list rises, and its numbers are below n
abbrev pub IsSetBelow : ℕ → List ℕ → Type 0
IsSetBelow n xs = RisesFrom 0 xs × ((x : ℕ) → IsTrue (has xs x) → x < n)

-- ---- how the words hold it

-- whether the words, of 64 bits each, have the cell's bit
abbrev pub is_held : List ℕ → ℕ → Bool
is_held words cell = nat_eq (bit_at (get_or words (cell / 64) 0) (cell % 64)) 1

-- the cells of 16 words
unfoldable pub held : List ℕ → List ℕ
held words = those MOST_SHARED_CELLS (is_held words)
