-- Marks, and what is marked and still to be gone on from.
use Rattle.std.specs.Prelude.{ℕ, ◌<◌, Bool, true, false, List, [], ◌∷◌, length, get_or, set, IsTrue, if◌then◌else◌}
use Rattle.ppd_ast.specs.Members.{has}

pub record WorkList : Type 0 where
  pub marks : List Bool
  pub todo : List ℕ

abbrev pub work : List Bool → List ℕ → WorkList
work marks todo = record { marks = marks; todo = todo }

abbrev pub is_marked : List Bool → ℕ → Bool
is_marked marks x = get_or marks x false

-- x is marked and put on the list, if it is not marked already
abbrev pub with_mark : ℕ → WorkList → WorkList
with_mark x w = if is_marked w.marks x then w else work (set w.marks x true) (x ∷ w.todo)

abbrev pub with_marks : List ℕ → WorkList → WorkList
with_marks [] w = w
with_marks (x ∷ xs) w = with_marks xs (with_mark x w)

-- each row's numbers are those of rows
abbrev pub AreRowsBelow : List (List ℕ) → Type 0
AreRowsBelow rows = (a x : ℕ) → IsTrue (has (get_or rows a []) x) → x < length rows
