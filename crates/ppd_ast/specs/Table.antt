-- What holds of each element of a table, and the children of an expression.
use Rattle.std.specs.Prelude.{ℕ, ◌<◌, List, length, slice_index_or, ⊤}
use Rattle.ppd_ast.specs.declared.program.Expr.{Expr}
use Rattle.ppd_ast.specs.declared.program.Expr.TheVariants.{Const, Local, LocalAt, Shared, SharedAt, Neg, Not, Two, And, Or}

-- P of each element and its number
abbrev pub EachAt : {X : Type 0} → (ℕ → X → Type 0) → List X → Type 0
EachAt {X} P xs = (k : ℕ) (d : X) → k < length xs → P k (slice_index_or xs k d)

-- the children of an expression have numbers below n
abbrev pub AreChildrenBelow : ℕ → Expr → Type 0
AreChildrenBelow n (Const v) = ⊤
AreChildrenBelow n (Local c) = ⊤
AreChildrenBelow n (LocalAt base len i) = i < n
AreChildrenBelow n (Shared c) = ⊤
AreChildrenBelow n (SharedAt base len i) = i < n
AreChildrenBelow n (Neg a) = a < n
AreChildrenBelow n (Not a) = a < n
AreChildrenBelow n (Two op a b) = (a < n) × (b < n)
AreChildrenBelow n (And a b) = (a < n) × (b < n)
AreChildrenBelow n (Or a b) = (a < n) × (b < n)
