-- What the proofs speak of: the parts of the definitions, each by a name of its own.
use Rattle.std.specs.Prelude.{ℕ, Option, option_and_then, nat_eq, nat_lt, List, [], ◌∷◌, if◌then◌else◌, map, fold, not, ◌++◌, get_or}
use Rattle.std.specs.List.{filter}
use Rattle.ppd_ast.specs.declared.program.Stmt.{Stmt}
use Rattle.ppd_ast.specs.declared.program.Program.{Program}
use Rattle.ppd_sets.specs.Flow.{follow_under}
use Rattle.ppd_ast.specs.Members.{has}

-- what follows a statement, where `outer` is what follows those round it
abbrev pub follow_of : Program → (ℕ → Option ℕ) → ℕ → Option Stmt → Option ℕ
follow_of p outer s o = option_and_then (λ x. follow_under p outer x.body s x.parent) o

-- both, rising, each once
abbrev pub rising_pair : ℕ → ℕ → List ℕ
rising_pair x y = if nat_lt x y then x ∷ y ∷ [] else if nat_eq x y then x ∷ [] else y ∷ x ∷ []

-- a row, with that of n where it has n
abbrev pub through : ℕ → List ℕ → List ℕ → List ℕ
through n via xs = if has xs n then xs ++ filter (λ x. not (has xs x)) via else xs

-- the rows, closed through these numbers
abbrev pub closure_through : List ℕ → List (List ℕ) → List (List ℕ)
closure_through ns rows = fold (λ rows n. map (through n (get_or rows n [])) rows) rows ns
