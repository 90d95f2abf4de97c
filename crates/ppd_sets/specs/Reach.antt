-- What a list of starts leads to, along rows of successors.
use Rattle.std.specs.Prelude.{ℕ, Bool, not, ◌||◌, List, ◌++◌, map, length, IsTrue, if◌then◌else◌, fold, get_or, []}
use Rattle.std.specs.List.{range_with_len, filter, list_any}
use Rattle.ppd_ast.specs.Members.{has}

-- x is a start, or a successor of what is reached
pub data Reached (rows : List (List ℕ)) (starts : List ℕ) : ℕ → Type 0 where
  start : {x : ℕ} → IsTrue (has starts x) → Reached rows starts x
  next : {a b : ℕ} → Reached rows starts a → IsTrue (has (get_or rows a []) b) → Reached rows starts b

-- ---- a test of it

-- what each number leads to: for each number in turn, a row that has it gets what its row has
abbrev pub closure : List (List ℕ) → List (List ℕ)
closure rows =
    fold
    (λ rows n. map (λ xs. if has xs n then xs ++ filter (λ x. not (has xs x)) (get_or rows n []) else xs) rows)
    rows (range_with_len 0 (length rows))

-- whether closed rows lead there from a start
abbrev pub leads : List (List ℕ) → List ℕ → ℕ → Bool
leads closed_rows starts x = has starts x || list_any (λ a. has (get_or closed_rows a []) x) starts
