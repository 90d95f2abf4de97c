-- The rules of the language hold for the trees of pipelines.
use Rattle.std.specs.Prelude.{nat_lt, nat_le, map, not}
use Rattle.std.specs.List.{filter, count_by, flat_map}
use Rattle.std.proofs.Common.{◌≡◌, ◌<◌, ◌≤◌, ◌+◌, ℕ, zero, suc, Bool, true, false, List, [], ◌∷◌, length, refl, ap, arith}
use Rattle.std.proofs.lemmas.Bool.{leb-true}
use Rattle.std.proofs.lemmas.Bool.Decides.{nat_tests}
use Rattle.std.proofs.lemmas.List.Sums.{count_by-le-length}
use Rattle.ppd_ast.specs.declared.limits.TheConstants.{MOST_STATEMENTS}
use Rattle.ppd_ast.specs.declared.program.Place.{Place}
use Rattle.ppd_parse.specs.declared.token.Token.{Token}
use Rattle.ppd_parse.specs.declared.symbol.Rule.TheVariants as R
use Rattle.ppd_parse.specs.Trees.{Shape, node, forest}
use Rattle.ppd_check_names.specs.declared.fault.Cause.TheVariants.{NoProcess}
use Rattle.ppd_check_names.specs.declared.fault.Cause.TheVariants.{TooMany}
use Rattle.ppd_check_names.specs.declared.fault.Limit.TheVariants.{Statements}
use Rattle.ppd_check_names.specs.Faults.{at, if_so}
use Rattle.ppd_check_names.specs.Syntax.{Source}
use Rattle.ppd_check_names.specs.Reading as Reading
use Rattle.ppd_check_names.specs.Globals.{globals, no_globals, items_faults, count_faults}
use Rattle.ppd_check.specs.Placed.{place_of}
use Rattle.ppd_check.specs.Sources.{faults_in, all_stmts, past_statements, head_faults, heads, codes}
use Rattle.ppd_check.proofs.Vocabulary.{is_up_to}
use Rattle.ppd_top_drill.proofs.Derivations.{trees}
use Rattle.ppd_top_drill.proofs.Pipelines.{source_of}

none_pass : {X : Type 0} (test : X → Bool) → ((x : X) → test x ≡ false) → (xs : List X) → filter test xs ≡ []
none_pass test h [] = refl
none_pass test h (x ∷ xs) = rw (h x) (none_pass test h xs)

-- no statement is past the most, where there are not too many
few_statements : (ps : List Place) → length ps ≤ MOST_STATEMENTS → past_statements ps ≡ []
few_statements ps few =
    ap (map (λ q. at q (TooMany Statements)))
    (none_pass (λ q. nat_lt MOST_STATEMENTS (count_by (is_up_to q) ps))
    (λ q. let most = count_by-le-length (is_up_to q) ps in below MOST_STATEMENTS (count_by (is_up_to q) ps) (omega (arith, most, few))) ps)
  where
    below : (m n : ℕ) → n ≤ m → nat_lt m n ≡ false
    below m n h = grind (arith, nat_tests)

-- a source breaks no rule, where each part of it breaks none
accepted_if : (s : Source) → nat_le (length (map place_of (all_stmts 0 0 0 (codes (globals s))))) MOST_STATEMENTS ≡ true
    → items_faults s.items no_globals ≡ [] → count_faults (globals s) ≡ [] → if_so (not (nat_lt 0 (length (globals s).processes))) s.end NoProcess ≡ []
    → flat_map (head_faults (globals s).scope) (heads (globals s)) ≡ [] → faults_in s ≡ []
accepted_if s few items count process bodies = rw (items, count, process, bodies) (few_statements (map place_of (all_stmts 0 0 0 (codes (globals s)))) (leb-true _ _ few))

-- the first of some trees
abbrev root : List Shape → Shape
root [] = node R.Leaf (forest [])
root (t ∷ ts) = t

-- the tree of a pipeline with k channels
abbrev pub tree_of : (w : ℕ → Token) (m n k : ℕ) → Shape
tree_of w m n k = root (trees w 0 (source_of m n k))

module _ (w : ℕ → Token) (m n : ℕ) where
  -- a pipeline with k channels breaks no rule
  abbrev IsRight : ℕ → Type 0
  IsRight k = faults_in (Reading.source_of (tree_of w m n k)) ≡ []

  two_channels : IsRight 2
  two_channels = accepted_if (Reading.source_of (tree_of w m n 2)) refl refl refl refl refl

  three_channels : IsRight 3
  three_channels = accepted_if (Reading.source_of (tree_of w m n 3)) refl refl refl refl refl

  four_channels : IsRight 4
  four_channels = accepted_if (Reading.source_of (tree_of w m n 4)) refl refl refl refl refl

  five_channels : IsRight 5
  five_channels = accepted_if (Reading.source_of (tree_of w m n 5)) refl refl refl refl refl

  six_channels : IsRight 6
  six_channels = accepted_if (Reading.source_of (tree_of w m n 6)) refl refl refl refl refl

  seven_channels : IsRight 7
  seven_channels = accepted_if (Reading.source_of (tree_of w m n 7)) refl refl refl refl refl

  pub no_fault : (r : ℕ) → r < 6 → faults_in (Reading.source_of (tree_of w m n (2 + r))) ≡ []
  no_fault zero lt = two_channels
  no_fault (suc zero) lt = three_channels
  no_fault (suc (suc zero)) lt = four_channels
  no_fault (suc (suc (suc zero))) lt = five_channels
  no_fault (suc (suc (suc (suc zero)))) lt = six_channels
  no_fault (suc (suc (suc (suc (suc zero))))) lt = seven_channels
  no_fault (suc (suc (suc (suc (suc (suc r)))))) lt = absurd (omega (arith, lt))
