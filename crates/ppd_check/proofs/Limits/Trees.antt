-- How many operators the expressions of trees have, how deep nodes of some rules stand in one another, and what trees within the limits are.
use Rattle.std.proofs.Common.{◌≡◌, refl, ap, ℕ, ◌+◌, ◌≤◌, max, Bool, true, false, cond, List, [], ◌∷◌, ◌++◌, arith}
use Rattle.std.specs.Prelude.{⊤}
use Rattle.ppd_ast.specs.declared.limits.TheConstants.{MOST_SOURCE_OPERATORS}
use Rattle.ppd_parse.specs.declared.token.Kind.{Kind}
use Rattle.ppd_parse.specs.declared.token.Kind.TheVariants as K
use Rattle.ppd_parse.specs.declared.symbol.Rule.{Rule}
use Rattle.ppd_parse.specs.declared.symbol.Rule.TheVariants as R
use Rattle.ppd_parse.specs.Grammar.{Shape, Shapes, leaf, node, no_shapes, shape_then, forest, kind_of}
use Rattle.ppd_parse.specs.Limits.{is_sign}
use Rattle.ppd_parse.specs.Stack.{is_binary}

-- Measures of trees.

-- the tokens of trees that are operators where they stand in an expression
abbrev mutual
  pub signs : Shape → ℕ
  signs (leaf x) = cond (is_sign (kind_of x.kind)) 1 0
  signs (node r ts) = signs_in ts

  pub signs_in : Shapes → ℕ
  signs_in no_shapes = 0
  signs_in (shape_then t ts) = signs t + signs_in ts

abbrev pub signs_of : List Shape → ℕ
signs_of [] = 0
signs_of (t ∷ ts) = signs t + signs_of ts

-- how deep nodes of some rules stand in one another: r is counted where c r is 1
abbrev mutual
  pub levels : (Rule → ℕ) → Shape → ℕ
  levels c (leaf x) = 0
  levels c (node r ts) = c r + levels_in c ts

  pub levels_in : (Rule → ℕ) → Shapes → ℕ
  levels_in c no_shapes = 0
  levels_in c (shape_then t ts) = max (levels c t) (levels_in c ts)

abbrev pub levels_of : (Rule → ℕ) → List Shape → ℕ
levels_of c [] = 0
levels_of c (t ∷ ts) = max (levels c t) (levels_of c ts)

-- a statement in others
abbrev pub statement_in : Rule → ℕ
statement_in R.Stmt = 1
statement_in R.Local = 1
statement_in r = 0

-- an operand, then a binary operator
abbrev pub IsJoined : Shapes → Type 0
IsJoined (shape_then t (shape_then (leaf x) ts)) = is_binary (kind_of x.kind) ≡ true
IsJoined _ = ⊥

abbrev pub is_for : Kind → Bool
is_for K.ForWord = true
is_for k = false

-- the first token is a `for`
abbrev pub starts_for : Shapes → Bool
starts_for (shape_then (leaf x) ts) = is_for (kind_of x.kind)
starts_for _ = false

abbrev pub OwnFits : Rule → Shapes → Type 0
OwnFits R.Stmt ts = starts_for ts ≡ true → 1 ≤ levels_in statement_in ts
OwnFits R.Unary ts = signs_in ts ≤ MOST_SOURCE_OPERATORS
OwnFits R.Binary ts = (signs_in ts ≤ MOST_SOURCE_OPERATORS) × IsJoined ts
OwnFits r ts = ⊤

-- each expression has at most 256 operators, each binary one has its operator, and each `for` has a statement inside it
abbrev mutual
  pub Fits : Shape → Type 0
  Fits (leaf x) = ⊤
  Fits (node r ts) = OwnFits r ts × FitsIn ts

  pub FitsIn : Shapes → Type 0
  FitsIn no_shapes = ⊤
  FitsIn (shape_then t ts) = Fits t × FitsIn ts

abbrev pub FitsAll : List Shape → Type 0
FitsAll [] = ⊤
FitsAll (t ∷ ts) = Fits t × FitsAll ts

-- Lists of trees.

pub signs_append : (ts us : List Shape) → signs_of (ts ++ us) ≡ signs_of ts + signs_of us
signs_append [] us = omega arith
signs_append (t ∷ ts) us = omega (arith, signs_append ts us)

pub signs_forest : (ts : List Shape) → signs_in (forest ts) ≡ signs_of ts
signs_forest [] = refl
signs_forest (t ∷ ts) = omega (arith, signs_forest ts)

pub levels_append : (c : Rule → ℕ) (ts us : List Shape) → levels_of c (ts ++ us) ≡ max (levels_of c ts) (levels_of c us)
levels_append c [] us = omega arith
levels_append c (t ∷ ts) us = omega (arith, levels_append c ts us)

pub levels_forest : (c : Rule → ℕ) (ts : List Shape) → levels_in c (forest ts) ≡ levels_of c ts
levels_forest c [] = refl
levels_forest c (t ∷ ts) = ap (λ n. max (levels c t) n) (levels_forest c ts)

pub fits_append : (ts us : List Shape) → FitsAll ts → FitsAll us → FitsAll (ts ++ us)
fits_append [] us h i = i
fits_append (t ∷ ts) us h i = (h.0, fits_append ts us h.1 i)

pub fits_forest : (ts : List Shape) → FitsAll ts → FitsIn (forest ts)
fits_forest [] h = tt
fits_forest (t ∷ ts) h = (h.0, fits_forest ts h.1)
