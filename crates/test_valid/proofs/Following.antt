-- Bodies whose ranges of statements follow one another.
use Rattle.std.proofs.Common.{◌≡◌, ℕ, zero, suc, ◌<◌, ◌≤◌, List, [], ◌∷◌, length, get_or, arith}
use Rattle.ppd_ast.specs.declared.program.Body.{Body}
use Rattle.ppd_ast.specs.Valid.{Follow}

-- no range ends before it begins
pub first_to_end : (n : ℕ) (bs : List Body) (end : ℕ) → Follow n bs end → (k : ℕ) (d : Body) → k < length bs → (get_or bs k d).first ≤ (get_or bs k d).end
first_to_end n [] end f k d h = absurd (omega arith)
first_to_end n (b ∷ bs) end f zero d h = let e : b.first ≡ n = f.0 in let l : n ≤ b.end = f.1 in omega arith
first_to_end n (b ∷ bs) end f (suc k) d h = first_to_end b.end bs end f.2 k d (omega arith)
