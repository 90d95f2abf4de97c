-- Tokens that have a tree are not refused.
use Rattle.std.specs.Prelude.{take, drop}
use Rattle.std.proofs.Common.{◌≡◌, ◌≢◌, ℕ, zero, suc, ◌<◌, ◌≤◌, List, [], ◌∷◌, ◌++◌, length, refl, ◌∙◌, ap, subst, arith}
use Rattle.ppd_ast.specs.declared.limits.TheConstants.{MOST_OPEN, MOST_SOURCE_OPERATORS}
use Rattle.ppd_ast.specs.declared.program.Place.{Place}
use Rattle.ppd_parse.specs.declared.token.Token.{Token}
use Rattle.ppd_parse.specs.declared.error.SyntaxError.{SyntaxError}
use Rattle.ppd_parse.specs.declared.error.SyntaxError.TheVariants as E
use Rattle.ppd_parse.specs.Grammar.{Shape, Marked}
use Rattle.ppd_parse.specs.Limits.{count_with, KeepLimits, token_at, IsTree, IsUnexpected, IsPast, IsRefused}
use Rattle.ppd_parse.proofs.Vocabulary.{count_after, BreaksDepth, BreaksWidth}

-- a list at one of its places
split_at : (ts : List Token) (i : ℕ) → i < length ts → ts ≡ take i ts ++ token_at ts i ∷ drop (suc i) ts
split_at [] i h = absurd (omega arith)
split_at (t ∷ ts) zero h = refl
split_at (t ∷ ts) (suc i) h = ap (λ w. t ∷ w) (split_at ts i (omega arith))

-- what a token within the limits keeps
pub kept_at : (n : ℕ) (zs : List Marked) (x : Marked) (os : List Marked) → KeepLimits n (zs ++ x ∷ os) → (x.at.depth ≤ MOST_OPEN) × (count_with (count_after n zs) x ≤ MOST_SOURCE_OPERATORS)
kept_at n [] x os h = (h.0, h.1)
kept_at n (z ∷ zs) x os h = kept_at (count_with n z) zs x os h.2

module _ (ts : List Token) (trees : List Shape) (t : IsTree ts trees) where
  unexpected : (place : Place) → IsUnexpected ts place → ⊥
  unexpected place r = r.none t.marked trees (drop (suc r.i) ts) t.program (t.tokens ∙ split_at ts r.i r.within)

  limits_at : (Breaks : ℕ → Marked → Type 0) (place : Place) (r : IsPast Breaks ts place) → (r.last.at.depth ≤ MOST_OPEN) × (count_with (count_after 0 r.marked) r.last ≤ MOST_SOURCE_OPERATORS)
  limits_at Breaks place r =
      let o = r.only t.marked trees (drop (suc r.i) ts) t.program (t.tokens ∙ split_at ts r.i r.within) in
      let P : List Marked → Type 0 = KeepLimits 0 in
      kept_at 0 r.marked r.last o.0 (subst P o.1 t.limits)

  -- tokens have a tree or are refused, not both
  pub tree_or_refused : (e : SyntaxError) → e ≢ E.Memory → IsRefused ts e → ⊥
  tree_or_refused (E.Unexpected place) real r = unexpected place r
  tree_or_refused (E.Deep place) real r = let k = limits_at BreaksDepth place r in let b : MOST_OPEN < r.last.at.depth = r.breaks in omega (arith, k.0)
  tree_or_refused (E.Wide place) real r = let k = limits_at BreaksWidth place r in let b = r.breaks in omega (arith, k.1, b.1)
  tree_or_refused E.Memory real r = absurd (real refl)

  -- the only refusal of tokens that have a tree
  pub tree_or_memory : (e : SyntaxError) → IsRefused ts e → e ≡ E.Memory
  tree_or_memory (E.Unexpected place) r = absurd (tree_or_refused (E.Unexpected place) (λ d. cc) r)
  tree_or_memory (E.Deep place) r = absurd (tree_or_refused (E.Deep place) (λ d. cc) r)
  tree_or_memory (E.Wide place) r = absurd (tree_or_refused (E.Wide place) (λ d. cc) r)
  tree_or_memory E.Memory r = refl

-- tokens have one tree at most
pub tree_unique : (ts : List Token) (f g : List Shape) → IsTree ts f → IsTree ts g → f ≡ g
tree_unique ts f g h k = (k.only h.marked f h.program h.tokens).1
