-- The tree of tokens whose kinds make up a program.
use Rattle.std.specs.Prelude.{map, take, drop, nat_le, ◌&&◌}
use Rattle.std.proofs.Common.{◌≡◌, ◌≢◌, ◌<◌, ◌≤◌, ℕ, zero, suc, Bool, true, false, List, [], ◌∷◌, ◌++◌, length, refl, sym, ap, ◌∙◌, subst, arith, append-nil, inl, inr, ◌⊎◌}
use Rattle.std.proofs.lemmas.Bool.{leb-true}
use Rattle.ppd_ast.specs.declared.limits.TheConstants.{MOST_OPEN, MOST_SOURCE_OPERATORS}
use Rattle.ppd_ast.specs.declared.program.Place.{Place}
use Rattle.ppd_parse.specs.declared.token.Token.{Token}
use Rattle.ppd_parse.specs.Formed.{EndOnce}
use Rattle.ppd_parse.specs.declared.error.SyntaxError.{SyntaxError}
use Rattle.ppd_parse.specs.declared.error.SyntaxError.TheVariants as E
use Rattle.ppd_parse.specs.Trees.{Shape, Marked, tokens_of, outside}
use Rattle.ppd_parse.specs.Language.{IsProgram, the, source_side}
use Rattle.ppd_parse.specs.Limits.{count_with, KeepLimits, token_at, IsTree, IsPast, IsRefused}
use Rattle.ppd_parse.proofs.Vocabulary.{count_after, BreaksDepth, BreaksWidth}
use Rattle.ppd_parse.proofs.Excluded.{kept_at}
use Rattle.ppd_parse.proofs.Total.{an_answer}
use Rattle.ppd_top_drill.proofs.Derivations.{Derivation, kinds, laid, marks, trees, derived, tokens_derived, laid_self}

-- ---- the limits, as a test

abbrev pub keep_limits : ℕ → List Marked → Bool
keep_limits n [] = true
keep_limits n (x ∷ xs) = nat_le x.at.depth MOST_OPEN && (nat_le (count_with n x) MOST_SOURCE_OPERATORS && keep_limits (count_with n x) xs)

both_true : (a b : Bool) → (a && b) ≡ true → (a ≡ true) × (b ≡ true)
both_true true b h = (refl, h)
both_true false b h = cc

pub limits_kept : (n : ℕ) (xs : List Marked) → keep_limits n xs ≡ true → KeepLimits n xs
limits_kept n [] h = tt
limits_kept n (x ∷ xs) h =
    let a = both_true (nat_le x.at.depth MOST_OPEN) (nat_le (count_with n x) MOST_SOURCE_OPERATORS && keep_limits (count_with n x) xs) h in
    let b = both_true (nat_le (count_with n x) MOST_SOURCE_OPERATORS) (keep_limits (count_with n x) xs) a.1 in
    (leb-true x.at.depth MOST_OPEN a.0, leb-true (count_with n x) MOST_SOURCE_OPERATORS b.0, limits_kept (count_with n x) xs b.1)

-- ---- a program is not refused

split_at : (ts : List Token) (i : ℕ) → i < length ts → ts ≡ take i ts ++ token_at ts i ∷ drop (suc i) ts
split_at [] i h = absurd (omega arith)
split_at (t ∷ ts) zero h = refl
split_at (t ∷ ts) (suc i) h = ap (λ w. t ∷ w) (split_at ts i (omega arith))

module _ (ts : List Token) (ms : List Marked) (f : List Shape) (tokens : tokens_of ms ≡ ts) (program : IsProgram ms f) (limits : KeepLimits 0 ms) where
  kept_past : (Breaks : ℕ → Marked → Type 0) (place : Place) (r : IsPast Breaks ts place) → (r.last.at.depth ≤ MOST_OPEN) × (count_with (count_after 0 r.marked) r.last ≤ MOST_SOURCE_OPERATORS)
  kept_past Breaks place r =
      let o = r.only ms f (drop (suc r.i) ts) program (tokens ∙ split_at ts r.i r.within) in
      let P : List Marked → Type 0 = KeepLimits 0 in
      kept_at 0 r.marked r.last o.0 (subst P o.1 limits)

  not_refused : (e : SyntaxError) → e ≢ E.Memory → IsRefused ts e → ⊥
  not_refused (E.Unexpected place) real r = r.none ms f (drop (suc r.i) ts) program (tokens ∙ split_at ts r.i r.within)
  not_refused (E.Deep place) real r = let k = kept_past BreaksDepth place r in let b : MOST_OPEN < r.last.at.depth = r.breaks in omega (arith, k.0)
  not_refused (E.Wide place) real r = let k = kept_past BreaksWidth place r in let b = r.breaks in omega (arith, k.1, b.1)
  not_refused E.Memory real r = absurd (real refl)

  -- the tree of a program that keeps the limits
  pub program_tree : EndOnce ts → IsTree ts f
  program_tree ends = by (an_answer ts ends)
    where
      by : ((g : List Shape) × IsTree ts g) ⊎ ((e : SyntaxError) × (e ≢ E.Memory) × IsRefused ts e) → IsTree ts f
      by (inl a) = let same = a.1.only ms f program tokens in subst (λ g. IsTree ts g) (sym same.1) a.1
      by (inr r) = absurd (not_refused r.0 r.1 r.2)

-- ---- the tree of a text of the grammar

pub derived_tree : (ts : List Token) (d : Derivation (the source_side)) → map (λ (t : Token). t.kind) ts ≡ kinds d → keep_limits 0 (marks (λ i. token_at ts i) 0 outside d) ≡ true → EndOnce ts
    → IsTree ts (trees (λ i. token_at ts i) 0 d)
derived_tree ts d same limits ends =
    let w : ℕ → Token = λ i. token_at ts i in
    let ms = marks w 0 outside d in
    program_tree ts ms (trees w 0 d)
    (tokens_derived w 0 outside d ∙ (ap (λ ks. laid w 0 ks) (sym same) ∙ laid_self ts))
    (subst (λ qs. IsProgram qs (trees w 0 d)) (append-nil ms) (derived w 0 outside d []))
    (limits_kept 0 ms limits) ends
