-- Which answers an evaluation takes, and in which order.
use Rattle.std.specs.Prelude.{◌≡◌, ℕ, ℤ, List, [], ◌∷◌, ◌++◌, map, Ok, Err, ⊤}
use Rattle.ppd_sem.specs.declared.asking.Pause.TheVariants.{Wants, Traps}
use Rattle.ppd_sem.specs.declared.event.Access.{Access}
use Rattle.ppd_sem.specs.declared.event.Spot.{Spot}
use Rattle.ppd_sem.specs.declared.event.Spot.TheVariants as spot
use Rattle.ppd_sem.specs.Asked.{Asked}

-- ---- shared reads

-- an access in front of the shared ones, if it is one
abbrev pub shared_with : Spot → ℤ → List (ℕ × ℤ) → List (ℕ × ℤ)
shared_with (spot.Shared c) v rest = (c, v) ∷ rest
shared_with (spot.Local frame c) v rest = rest

-- the accesses of shared cells among these, each with its cell and its value
abbrev pub shared_of : List Access → List (ℕ × ℤ)
shared_of [] = []
shared_of (a ∷ as') = shared_with a.spot a.value (shared_of as')

-- their values
abbrev pub values_read : List (ℕ × ℤ) → List ℤ
values_read reads = map (λ r. r.1) reads

-- ---- answers that are taken

-- with the answers before, the cell of the first read is wanted, and with its value behind them that of the next
abbrev pub WantsInTurn : {A : Type 0} → (List ℤ → Asked A) → List ℤ → List (ℕ × ℤ) → Type 0
WantsInTurn evaluate before [] = ⊤
WantsInTurn evaluate before (r ∷ rs) =
    (evaluate before ≡ Err (Wants r.0)) × WantsInTurn evaluate (before ++ r.1 ∷ []) rs

-- a value or a trap comes of the taken answers whatever stands behind them, a wanted cell only where none is left
abbrev pub ComesOf : {A : Type 0} → (List ℤ → Asked A) → (taken left : List ℤ) → Asked A → Type 0
ComesOf evaluate taken left (Ok p) = (p.1 ≡ left) × ((others : List ℤ) → evaluate (taken ++ others) ≡ Ok (p.0, others))
ComesOf evaluate taken left (Err (Wants c)) = left ≡ []
ComesOf evaluate taken left (Err (Traps t)) = (others : List ℤ) → evaluate (taken ++ others) ≡ Err (Traps t)

-- the evaluation takes the values of these reads, in this order, and no other answer
pub record Takes {A : Type 0} (evaluate : List ℤ → Asked A) (answers : List ℤ) (reads : List (ℕ × ℤ)) : Type 0 where
  pub left : List ℤ
  pub all : values_read reads ++ left ≡ answers
  pub in_turn : WantsInTurn evaluate [] reads
  pub comes : ComesOf evaluate (values_read reads) left (evaluate answers)
