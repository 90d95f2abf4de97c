-- Variables and the cells that are theirs.
use Rattle.std.specs.Prelude.{◌≡◌, ℕ, ◌+◌, ◌<◌, ◌≤◌, nat_lt, nat_le, Bool, ◌&&◌, List, Option, Some, None, IsSomeAnd, slice_get, ⊤, unwrap_or}
use Rattle.std.specs.List.{All, Any, count_by}
use Rattle.ppd_ast.specs.declared.program.Var.{Var}
use Rattle.ppd_ast.specs.declared.program.Target.{Target}
use Rattle.ppd_ast.specs.declared.program.Target.TheVariants as T
use Rattle.ppd_ast.specs.declared.program.Kind.{Kind}
use Rattle.ppd_ast.specs.declared.program.Kind.TheVariants as K
use Rattle.ppd_ast.specs.Term.{Term, const, local, local_at, shared, shared_at, neg, not, two, and, or}

-- the cell after the variable's last one: a scalar has one cell, an array its length
abbrev pub after : Var → ℕ
after v = v.base + unwrap_or v.len 1

-- whether the cell is one of the variable's
abbrev pub holds : ℕ → Var → Bool
holds c v = nat_le v.base c && nat_lt c (after v)

-- the variables share no cell and cover these cells, the numbers below n
pub record CoverCells (vs : List Var) (n : ℕ) : Type 0 where
  pub once : (c : ℕ) → c < n → count_by (holds c) vs ≡ 1
  pub within : All (λ v. after v ≤ n) vs

-- one of the variables is a scalar with just this cell
abbrev pub IsScalarOf : List Var → ℕ → Type 0
IsScalarOf vs c = Any (λ v. (v.base ≡ c) × (v.len ≡ None)) vs

-- one of the variables is an array with just these cells
abbrev pub IsArrayOf : List Var → (base len : ℕ) → Type 0
IsArrayOf vs base len = Any (λ v. (v.base ≡ base) × (v.len ≡ Some len)) vs

-- the first variables are parameters: scalars in the cells from 0, in their order
abbrev pub AreParams : List Var → ℕ → Type 0
AreParams vs params = (k : ℕ) → k < params → IsSomeAnd (slice_get vs k) (λ v. (v.base ≡ k) × (v.len ≡ None))

-- an expression names whole variables of the shared ones and of the body's own
abbrev pub NamesWhole : (shareds locals : List Var) → Term → Type 0
NamesWhole shareds locals (const v) = ⊤
NamesWhole shareds locals (local c) = IsScalarOf locals c
NamesWhole shareds locals (local_at base len i) = IsArrayOf locals base len × NamesWhole shareds locals i
NamesWhole shareds locals (shared c) = IsScalarOf shareds c
NamesWhole shareds locals (shared_at base len i) = IsArrayOf shareds base len × NamesWhole shareds locals i
NamesWhole shareds locals (neg a) = NamesWhole shareds locals a
NamesWhole shareds locals (not a) = NamesWhole shareds locals a
NamesWhole shareds locals (two op a b) = NamesWhole shareds locals a × NamesWhole shareds locals b
NamesWhole shareds locals (and a b) = NamesWhole shareds locals a × NamesWhole shareds locals b
NamesWhole shareds locals (or a b) = NamesWhole shareds locals a × NamesWhole shareds locals b

abbrev pub IsWholeTarget : (shareds locals : List Var) → Target → Type 0
IsWholeTarget shareds locals (T.Local c) = IsScalarOf locals c
IsWholeTarget shareds locals (T.LocalAt base len i) = IsArrayOf locals base len
IsWholeTarget shareds locals (T.Shared c) = IsScalarOf shareds c
IsWholeTarget shareds locals (T.SharedAt base len i) = IsArrayOf shareds base len

-- a cell that receives a value, if there is one, is a scalar of the body's own
abbrev pub IsScalarIfAny : List Var → Option ℕ → Type 0
IsScalarIfAny locals None = ⊤
IsScalarIfAny locals (Some c) = IsScalarOf locals c

-- a statement names whole variables where it writes
abbrev pub WritesWhole : (shareds locals : List Var) → Kind → Type 0
WritesWhole shareds locals (K.Set t e) = IsWholeTarget shareds locals t
WritesWhole shareds locals (K.Zero base len) = IsArrayOf locals base len
WritesWhole shareds locals (K.Call f args into) = IsScalarIfAny locals into
WritesWhole shareds locals (K.Recv c into) = IsScalarOf locals into
WritesWhole shareds locals _ = ⊤
