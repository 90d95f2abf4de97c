-- What evaluation comes to with the answers that are there.
use Rattle.std.specs.Prelude.{ℕ, ℤ, List, [], ◌∷◌, Result, Ok, Err}
use Rattle.ppd_sem.specs.declared.asking.Pause.{Pause}
use Rattle.ppd_sem.specs.declared.asking.Pause.TheVariants.{Wants, Traps}
use Rattle.ppd_ast.specs.declared.status.Trap.{Trap}

-- a value with the answers that are left; or the shared cell that is wanted next, or a trap
abbrev pub Asked : Type 0 → Type 0
Asked A = Result (A × List ℤ) Pause

abbrev pub gives : {A : Type 0} → List ℤ → A → Asked A
gives left x = Ok (x, left)

-- goes on with the value and the answers that are left
abbrev pub and_then : {A B : Type 0} → Asked A → (A → List ℤ → Asked B) → Asked B
and_then (Ok p) next = next p.0 p.1
and_then (Err pause) next = Err pause

-- what the value brings, and nothing without one
abbrev pub once : {A B : Type 0} → Asked A → (A → List ℤ → List B) → List B
once (Ok p) bring = bring p.0 p.1
once (Err pause) bring = []

-- the value without the answers that are left
abbrev pub outcome : {A : Type 0} → Asked A → Result A Pause
outcome (Ok p) = Ok p.0
outcome (Err pause) = Err pause

-- a shared read takes the next answer
abbrev pub read_shared : List ℤ → ℕ → Asked ℤ
read_shared [] cell = Err (Wants cell)
read_shared (v ∷ left) cell = gives left v

-- a trap as a pause
abbrev pub paused : {A : Type 0} → Result A Trap → Result A Pause
paused (Ok x) = Ok x
paused (Err trap) = Err (Traps trap)

-- a value with the answers that are left, or a trap as a pause
abbrev pub lift : {A : Type 0} → List ℤ → Result A Trap → Asked A
lift answers (Ok x) = gives answers x
lift answers (Err trap) = Err (Traps trap)
