-- A program has one tree, of a source, whose leaves are its tokens in order.
use Rattle.std.proofs.Common.{◌≡◌, ℕ, List, [], ◌∷◌, ◌++◌, take, drop, refl, sym, ◌∙◌, ap, append_assoc}
use Rattle.std.proofs.lemmas.List.{append-nil, take-append-drop}
use Rattle.ppd_parse.specs.declared.symbol.Rule.{Rule}
use Rattle.ppd_parse.specs.declared.symbol.Rule.TheVariants as R
use Rattle.ppd_parse.specs.declared.symbol.Want.{Want}
use Rattle.ppd_parse.specs.Grammar.{Shape, leaf, node, forest, close, Marked, Reads, ReadsAll, exact, operator, wrap, by, nothing, next, source, tokens_of}
use Rattle.ppd_parse.proofs.Vocabulary.{IsParsed}
use Rattle.ppd_parse.specs.Language.{IsProgram}
use Rattle.ppd_parse.proofs.FromLanguage.{program_parsed}
use Rattle.ppd_parse.specs.Leaves.{leaves, leaves_in, leaves_of}

leaves_forest : (f : List Shape) → leaves_in (forest f) ≡ leaves_of f
leaves_forest [] = refl
leaves_forest (t ∷ f) = ap (λ u. leaves t ++ u) (leaves_forest f)

leaves_append : (f g : List Shape) → leaves_of (f ++ g) ≡ leaves_of f ++ leaves_of g
leaves_append [] g = refl
leaves_append (t ∷ f) g = ap (λ u. leaves t ++ u) (leaves_append f g) ∙ sym (append_assoc (leaves t) (leaves_of f) (leaves_of g))

leaves_close : (r : Rule) (b : ℕ) (s : List Shape) → leaves_of (close r b s) ≡ leaves_of s
leaves_close r b s =
    leaves_append (take b s) (node r (forest (drop b s)) ∷ [])
    ∙ (ap (λ u. leaves_of (take b s) ++ u) (append-nil (leaves_in (forest (drop b s))) ∙ leaves_forest (drop b s))
    ∙ (sym (leaves_append (take b s) (drop b s)) ∙ ap leaves_of (take-append-drop b s)))

leaf_added : (s : List Shape) (x : Marked) (rest : List Marked) → leaves_of (s ++ leaf x.token ∷ []) ++ tokens_of rest ≡ leaves_of s ++ tokens_of (x ∷ rest)
leaf_added s x rest = ap (λ u. u ++ tokens_of rest) (leaves_append s (leaf x.token ∷ [])) ∙ append_assoc (leaves_of s) (x.token ∷ []) (tokens_of rest)

mutual
  pub kept : {w : Want} {s t : List Shape} {ts rest : List Marked} → Reads w s ts t rest → leaves_of t ++ tokens_of rest ≡ leaves_of s ++ tokens_of ts
  kept (exact {s = s} {x = x} {rest = rest} e m) = leaf_added s x rest
  kept (operator {s = s} {x = x} {rest = rest} e m) = leaf_added s x rest
  kept (wrap {r = r} {b = b} {s = s} {ts = ts}) = ap (λ u. u ++ tokens_of ts) (leaves_close r b s)
  kept (by p m rs) = kept_all rs

  pub kept_all : {ws : List Want} {s t : List Shape} {ts rest : List Marked} → ReadsAll ws s ts t rest → leaves_of t ++ tokens_of rest ≡ leaves_of s ++ tokens_of ts
  kept_all nothing = refl
  kept_all (next r rs) = kept_all rs ∙ kept r

-- The leaves of a program's tree are its tokens.
pub program_leaves : {zs : List Marked} {f : List Shape} → IsProgram zs f → leaves_of f ≡ tokens_of zs
program_leaves {zs} {f} p = sym (append-nil (leaves_of f)) ∙ kept_all (program_parsed p)

-- A program has a single tree, of a source.
pub program_root : {zs : List Marked} {f : List Shape} → IsProgram zs f → (g : List Shape) × (f ≡ node R.Source (forest g) ∷ [])
program_root p = root (program_parsed p)
  where
    root : {zs : List Marked} {f : List Shape} → IsParsed zs f → (g : List Shape) × (f ≡ node R.Source (forest g) ∷ [])
    root (next (by source m (next {t = t} r (next wrap nothing))) nothing) = (t, refl)
