-- The tree of n tokens has fewer than 3 * n nodes, and the rule of a token at tokens alone.
use Rattle.std.proofs.Common.{◌≡◌, ◌≤◌, ◌+◌, ◌*◌, ℕ, List, [], ◌∷◌, ◌++◌, length, take, drop, refl, ap, arith}
use Rattle.std.proofs.lemmas.List.{take-append-drop}
use Rattle.ppd_parse.specs.declared.symbol.Level.{Level}
use Rattle.ppd_parse.specs.declared.symbol.Level.TheVariants as L
use Rattle.ppd_parse.specs.declared.symbol.Rule.{Rule}
use Rattle.ppd_parse.specs.declared.symbol.Symbol.{Symbol}
use Rattle.ppd_parse.specs.declared.symbol.Symbol.TheVariants as S
use Rattle.ppd_parse.specs.declared.symbol.At.{At}
use Rattle.ppd_parse.specs.declared.symbol.Want.{Want}
use Rattle.ppd_parse.specs.declared.symbol.Want.TheVariants.{Get, Close}
use Rattle.ppd_parse.specs.Grammar.{Shape, leaf, node, forest, close, Marked, Production, parts, operand_parts, operand, wants_in, base_in, Reads, ReadsAll, exact, operator, wrap, by, nothing, next}
use Rattle.ppd_parse.specs.Size.{weigh, weigh_in, weigh_all}
use Rattle.ppd_parse.proofs.Vocabulary.{IsParsed, size_of, one_for_leaf}

-- ---- trees side by side, and as the children of a node

pub weigh_append : (m : ℕ) (w : Rule → ℕ) (f g : List Shape) → weigh_all m w (f ++ g) ≡ weigh_all m w f + weigh_all m w g
weigh_append m w [] g = omega arith
weigh_append m w (t ∷ f) g = omega (arith, weigh_append m w f g)

weigh_forest : (m : ℕ) (w : Rule → ℕ) (f : List Shape) → weigh_in m w (forest f) ≡ weigh_all m w f
weigh_forest m w [] = refl
weigh_forest m w (t ∷ f) = ap (λ n. weigh m w t + n) (weigh_forest m w f)

pub weigh_made : (m : ℕ) (w : Rule → ℕ) (r : Rule) (f : List Shape) → weigh m w (node r (forest f)) ≡ w r + weigh_all m w f
weigh_made m w r f = ap (λ n. w r + n) (weigh_forest m w f)

pub weigh_close : (m : ℕ) (w : Rule → ℕ) (r : Rule) (b : ℕ) (s : List Shape) → weigh_all m w (close r b s) ≡ weigh_all m w s + w r
weigh_close m w r b s =
    let cut : weigh_all m w (take b s ++ drop b s) ≡ weigh_all m w s = ap (weigh_all m w) (take-append-drop b s) in
    omega (arith, cut, weigh_append m w (take b s) (node r (forest (drop b s)) ∷ []), weigh_append m w (take b s) (drop b s), weigh_forest m w (drop b s))

size_append : (f g : List Shape) → size_of (f ++ g) ≡ size_of f + size_of g
size_append f g = weigh_append 1 (λ r. 1) f g

size_close : (r : Rule) (b : ℕ) (s : List Shape) → size_of (close r b s) ≡ size_of s + 1
size_close r b s = weigh_close 1 (λ r. 1) r b s

-- ---- the number of nodes

-- what a want may take beyond three nodes for each of its tokens, and what it leaves at least
abbrev due_of : Symbol → ℕ
due_of S.NamedRest = 2
due_of S.AssignedRest = 2
due_of S.Value = 1
due_of S.StmtRest = 1
due_of _ = 0

abbrev spare_of : Symbol → ℕ
spare_of (S.Exact k) = 2
spare_of (S.Operator l) = 2
spare_of S.Source = 1
spare_of S.Items = 2
spare_of S.Block = 1
spare_of S.Place = 1
spare_of _ = 0

abbrev due : Want → ℕ
due (Get y a b) = due_of y
due (Close r b) = 1

abbrev spare : Want → ℕ
spare (Get y a b) = spare_of y
spare (Close r b) = 0

abbrev due_all : List Want → ℕ
due_all [] = 0
due_all (w ∷ ws) = due w + due_all ws

abbrev spare_all : List Want → ℕ
spare_all [] = 0
spare_all (w ∷ ws) = spare w + spare_all ws

balance_operand : (l : Level) (a : At) (b : ℕ) → due_all (wants_in a b (operand_parts l)) ≤ spare_all (wants_in a b (operand_parts l))
balance_operand L.Product a b = omega arith
balance_operand L.Sum a b = omega arith
balance_operand L.Compare a b = omega arith
balance_operand L.Equal a b = omega arith
balance_operand L.And a b = omega arith
balance_operand L.Or a b = omega arith

balance : {y : Symbol} (p : Production y) (a : At) (b : ℕ) → due_all (wants_in a b (parts p)) + spare_of y ≤ spare_all (wants_in a b (parts p)) + due_of y
balance (operand l) a b = omega (arith, balance_operand l a b)
balance _ a b = omega arith

mutual
  sized : {w : Want} {s t : List Shape} {ts rest : List Marked} → Reads w s ts t rest → size_of t + 3 * length rest + spare w ≤ size_of s + 3 * length ts + due w
  sized (exact {s = s} {x = x} {rest = rest} e m) = omega (arith, size_append s (leaf x.token ∷ []))
  sized (operator {s = s} {x = x} {rest = rest} e m) = omega (arith, size_append s (leaf x.token ∷ []))
  sized (wrap {r = r} {b = b} {s = s} {ts = ts}) = omega (arith, size_close r b s)
  sized (by {y = y} {a = a} {b = b} {s = s} p m rs) = omega (arith, sized_all rs, balance p a (base_in y b (length s)))

  sized_all : {ws : List Want} {s t : List Shape} {ts rest : List Marked} → ReadsAll ws s ts t rest → size_of t + 3 * length rest + spare_all ws ≤ size_of s + 3 * length ts + due_all ws
  sized_all nothing = omega arith
  sized_all (next r rs) = omega (arith, sized r, sized_all rs)

pub program_size : {zs : List Marked} {f : List Shape} → IsParsed zs f → size_of f + 1 ≤ 3 * length zs
program_size p = omega (arith, sized_all p)

-- ---- no node but a token has the rule of one

abbrev wrong_leaves : Want → ℕ
wrong_leaves (Get y a b) = 0
wrong_leaves (Close r b) = one_for_leaf r

abbrev wrong_leaves_all : List Want → ℕ
wrong_leaves_all [] = 0
wrong_leaves_all (w ∷ ws) = wrong_leaves w + wrong_leaves_all ws

inner_operand : (l : Level) (a : At) (b : ℕ) → wrong_leaves_all (wants_in a b (operand_parts l)) ≡ 0
inner_operand L.Product a b = omega arith
inner_operand L.Sum a b = omega arith
inner_operand L.Compare a b = omega arith
inner_operand L.Equal a b = omega arith
inner_operand L.And a b = omega arith
inner_operand L.Or a b = omega arith

inner_parts : {y : Symbol} (p : Production y) (a : At) (b : ℕ) → wrong_leaves_all (wants_in a b (parts p)) ≡ 0
inner_parts (operand l) a b = inner_operand l a b
inner_parts _ a b = omega arith

mutual
  inner : {w : Want} {s t : List Shape} {ts rest : List Marked} → Reads w s ts t rest → weigh_all 0 one_for_leaf t ≡ weigh_all 0 one_for_leaf s + wrong_leaves w
  inner (exact {s = s} {x = x} e m) = omega (arith, weigh_append 0 one_for_leaf s (leaf x.token ∷ []))
  inner (operator {s = s} {x = x} e m) = omega (arith, weigh_append 0 one_for_leaf s (leaf x.token ∷ []))
  inner (wrap {r = r} {b = b} {s = s}) = weigh_close 0 one_for_leaf r b s
  inner (by {y = y} {a = a} {b = b} {s = s} p m rs) = omega (arith, inner_all rs, inner_parts p a (base_in y b (length s)))

  inner_all : {ws : List Want} {s t : List Shape} {ts rest : List Marked} → ReadsAll ws s ts t rest → weigh_all 0 one_for_leaf t ≡ weigh_all 0 one_for_leaf s + wrong_leaves_all ws
  inner_all nothing = omega arith
  inner_all (next r rs) = omega (arith, inner r, inner_all rs)

pub program_inner : {zs : List Marked} {f : List Shape} → IsParsed zs f → weigh_all 0 one_for_leaf f ≡ 0
program_inner p = omega (arith, inner_all p)
