-- The expressions that trees say: each has at most the operators of its tree, and its indexes stand as deep in one another as its places.
use Rattle.std.proofs.Common.{◌≡◌, refl, ap, ◌∙◌, ℕ, zero, suc, ◌+◌, ◌≤◌, max, Bool, true, false, cond, List, [], ◌∷◌, arith}
use Rattle.std.specs.List.{AllByRecursion}
use Rattle.ppd_parse.specs.declared.token.Kind.{Kind}
use Rattle.ppd_parse.specs.declared.token.Kind.TheVariants as K
use Rattle.ppd_parse.specs.declared.symbol.Rule.{Rule}
use Rattle.ppd_parse.specs.declared.symbol.Rule.TheVariants as R
use Rattle.ppd_parse.specs.Grammar.{Shape, leaf, node, Shapes, no_shapes, shape_then, kind_of}
use Rattle.ppd_parse.specs.Limits.{is_sign}
use Rattle.ppd_parse.specs.Stack.{is_binary}
use Rattle.ppd_check_names.specs.Syntax.{Formula}
use Rattle.ppd_check_names.specs.Reading.{Phrase, token, formula, goal, phrase, goal_formula, as_formula, kind, same_kind, formula_at, joined, unary, made, said, all_said, as_goal}
use Rattle.ppd_check.proofs.Limits.Trees.{signs, signs_in, levels, levels_in, IsJoined, Fits, FitsIn}
use Rattle.ppd_check.proofs.Limits.Depths.{place_in}
use Rattle.ppd_check.proofs.Limits.Small.{indexes}
use Rattle.ppd_check.proofs.Vocabulary.Sizes.{operators_in}

-- Small expressions among phrases.

-- how many operators a phrase has: one of a token that is an operator in an expression
abbrev pub weight : Phrase → ℕ
weight (token t) = cond (is_sign (kind_of t.kind)) 1 0
weight (formula f) = operators_in f
weight (goal g) = operators_in (goal_formula g)
weight p = 0

abbrev weight_all : List Phrase → ℕ
weight_all [] = 0
weight_all (p ∷ ps) = weight p + weight_all ps

abbrev pub depth : Phrase → ℕ
depth (formula f) = indexes f
depth (goal g) = indexes (goal_formula g)
depth p = 0

abbrev Below : ℕ → List Phrase → Type 0
Below n ps = AllByRecursion (λ p. depth p ≤ n) ps

few_operators : (p : Phrase) → operators_in (as_formula p) ≤ weight p
few_operators (token t) = omega arith
few_operators p = omega arith

few_indexes : (p : Phrase) (n : ℕ) → depth p ≤ n → indexes (as_formula p) ≤ n
few_indexes (token t) n h = omega arith
few_indexes (formula f) n h = h
few_indexes (goal g) n h = h
few_indexes p n h = omega arith

no_sign : (k : Kind) → K.End ≡ k → is_sign k ≡ true → ⊥
no_sign k e h = differ (ap is_sign e ∙ h)
  where
    differ : false ≡ true → ⊥
    differ x = cc

one_if : (b : Bool) → b ≡ true → 1 ≤ cond b 1 0
one_if true e = omega arith
one_if false e = absurd cc

-- a phrase that is an operator's token
sign_weight : (p : Phrase) (k : Kind) → kind p ≡ k → is_sign k ≡ true → 1 ≤ weight p
sign_weight (token t) k e h = one_if (is_sign (kind_of t.kind)) (ap is_sign e ∙ h)
sign_weight p k e h = absurd (no_sign k e h)

one_weight : (ps : List Phrase) (k : ℕ) → weight (phrase ps k) ≤ weight_all ps
one_weight [] k = omega arith
one_weight (p ∷ ps) zero = omega arith
one_weight (p ∷ ps) (suc k) = omega (arith, one_weight ps k)

two_weights : (ps : List Phrase) → weight (phrase ps 0) + weight (phrase ps 1) ≤ weight_all ps
two_weights [] = omega arith
two_weights (p ∷ ps) = omega (arith, one_weight ps 0)

three_weights : (ps : List Phrase) → weight (phrase ps 0) + weight (phrase ps 1) + weight (phrase ps 2) ≤ weight_all ps
three_weights [] = omega arith
three_weights (p ∷ ps) = omega (arith, two_weights ps)

below_at : (n : ℕ) (ps : List Phrase) (k : ℕ) → Below n ps → depth (phrase ps k) ≤ n
below_at n [] k h = omega arith
below_at n (p ∷ ps) zero h = h.0
below_at n (p ∷ ps) (suc k) h = below_at n ps k h.1

-- Expressions by their parts.

formula_few : (ps : List Phrase) (k : ℕ) → operators_in (formula_at ps k) ≤ weight (phrase ps k)
formula_few ps k = few_operators (phrase ps k)

formula_below : (n : ℕ) (ps : List Phrase) (k : ℕ) → Below n ps → indexes (formula_at ps k) ≤ n
formula_below n ps k h = few_indexes (phrase ps k) n (below_at n ps k h)

unary_few : (ps : List Phrase) (k : Kind) → kind (phrase ps 0) ≡ k → operators_in (unary ps) ≤ weight_all ps
unary_few ps K.LeftParen e = rw (e) (omega (arith, formula_few ps 1, one_weight ps 1))
unary_few ps K.MinusMark e = rw (e) (omega (arith, formula_few ps 1, two_weights ps, sign_weight (phrase ps 0) K.MinusMark e refl))
unary_few ps K.NotMark e = rw (e) (omega (arith, formula_few ps 1, two_weights ps, sign_weight (phrase ps 0) K.NotMark e refl))
unary_few ps K.Number e = rw (e) (omega arith)
unary_few ps k e = rw (e) (omega (arith, formula_few ps 0, one_weight ps 0))

unary_below : (n : ℕ) (ps : List Phrase) (k : Kind) → kind (phrase ps 0) ≡ k → Below n ps → indexes (unary ps) ≤ n
unary_below n ps K.LeftParen e h = rw (e) (formula_below n ps 1 h)
unary_below n ps K.MinusMark e h = rw (e) (formula_below n ps 1 h)
unary_below n ps K.NotMark e h = rw (e) (formula_below n ps 1 h)
unary_below n ps K.Number e h = rw (e) (omega arith)
unary_below n ps k e h = rw (e) (formula_below n ps 0 h)

joined_few : (k : Kind) (a b : Formula) → operators_in (joined k a b) ≡ 1 + operators_in a + operators_in b
joined_few K.OrMark a b = refl
joined_few k a b = refl

joined_below : (k : Kind) (a b : Formula) → indexes (joined k a b) ≡ max (indexes a) (indexes b)
joined_below K.OrMark a b = refl
joined_below k a b = refl

sign_binary : (k : Kind) → is_binary k ≡ true → is_sign k ≡ true
sign_binary K.NotMark e = refl
sign_binary k e = e

joined_sign : (ts : Shapes) → IsJoined ts → is_sign (kind (phrase (all_said ts) 1)) ≡ true
joined_sign (shape_then t (shape_then (leaf x) ts)) h = sign_binary (kind_of x.kind) h
joined_sign no_shapes h = absurd h
joined_sign (shape_then t no_shapes) h = absurd h
joined_sign (shape_then t (shape_then (node r f) ts)) h = absurd h

goal_few : (ps : List Phrase) (b : Bool) → same_kind K.LeftBracket (kind (phrase ps 1)) ≡ b → operators_in (goal_formula (as_goal (made R.Place ps))) ≤ weight_all ps
goal_few ps true e = rw (e) (omega (arith, formula_few ps 2, one_weight ps 2))
goal_few ps false e = rw (e) (omega arith)

goal_below : (n : ℕ) (ps : List Phrase) (b : Bool) → same_kind K.LeftBracket (kind (phrase ps 1)) ≡ b → Below n ps → indexes (goal_formula (as_goal (made R.Place ps))) ≤ 1 + n
goal_below n ps true e h = rw (e) (omega (arith, formula_below n ps 2 h))
goal_below n ps false e h = rw (e) (omega arith)

-- Each tree by its operators and its indexes.

made_few : (r : Rule) (ts : Shapes) → Fits (node r ts) → weight_all (all_said ts) ≤ signs_in ts → weight (made r (all_said ts)) ≤ signs_in ts
made_few R.Unary ts h w = omega (arith, unary_few (all_said ts) (kind (phrase (all_said ts) 0)) refl, w)
made_few R.Binary ts h w =
    let ps : List Phrase = all_said ts in
    omega (arith, joined_few (kind (phrase ps 1)) (formula_at ps 0) (formula_at ps 2), formula_few ps 0, formula_few ps 2, three_weights ps, sign_weight (phrase ps 1) (kind (phrase ps 1)) refl (joined_sign ts h.0.1), w)
made_few R.Place ts h w = omega (arith, goal_few (all_said ts) (same_kind K.LeftBracket (kind (phrase (all_said ts) 1))) refl, w)
made_few r ts h w = omega arith

mutual
  pub said_few : (t : Shape) → Fits t → weight (said t) ≤ signs t
  said_few (leaf t) h = omega arith
  said_few (node r ts) h = made_few r ts h (all_few ts h.1)

  all_few : (ts : Shapes) → FitsIn ts → weight_all (all_said ts) ≤ signs_in ts
  all_few no_shapes h = omega arith
  all_few (shape_then t ts) h = omega (arith, said_few t h.0, all_few ts h.1)

made_below : (n m : ℕ) (r : Rule) (ps : List Phrase) → place_in r + m ≤ n → Below m ps → depth (made r ps) ≤ n
made_below n m R.Unary ps e h = omega (arith, unary_below m ps (kind (phrase ps 0)) refl h, e)
made_below n m R.Binary ps e h = omega (arith, joined_below (kind (phrase ps 1)) (formula_at ps 0) (formula_at ps 2), formula_below m ps 0 h, formula_below m ps 2 h, e)
made_below n m R.Place ps e h = omega (arith, goal_below m ps (same_kind K.LeftBracket (kind (phrase ps 1))) refl h, e)
made_below n m r ps e h = omega arith

mutual
  pub said_below : (n : ℕ) (t : Shape) → levels place_in t ≤ n → depth (said t) ≤ n
  said_below n (leaf t) h = omega arith
  said_below n (node r ts) h = made_below n (levels_in place_in ts) r (all_said ts) h (all_below (levels_in place_in ts) ts (omega arith))

  all_below : (n : ℕ) (ts : Shapes) → levels_in place_in ts ≤ n → Below n (all_said ts)
  all_below n no_shapes h = tt
  all_below n (shape_then t ts) h = (said_below n t (omega (arith, h)), all_below n ts (omega (arith, h)))
