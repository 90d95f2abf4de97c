-- What a table holds, by the bodies that it is made of.
use Rattle.std.proofs.Common.{◌≡◌, refl, ap, ◌∙◌, ℕ, suc, ◌+◌, arith, List, [], ◌∷◌, length, map, None}
use Rattle.std.specs.List.{flat_map}
use Rattle.std.proofs.lemmas.List.Concat.{flat_map-cons}
use Rattle.ppd_check_names.specs.declared.frame.Variable.{Variable}
use Rattle.ppd_check_names.specs.Fitted.{fitted}
use Rattle.ppd_check_names.specs.Names.{Scope}
use Rattle.ppd_check_names.specs.Frames.{after_cells}
use Rattle.ppd_check_names.specs.Globals.{Head}
use Rattle.ppd_check_stmts.specs.Code.{Code, count}
use Rattle.ppd_check_stmts.specs.Table.{weights, terms, stmts}
use Rattle.ppd_check_stmts.specs.Elements.{stmts_elements, bodies_elements}
use Rattle.ppd_check_stmts.proofs.Costs.Tables.{elements_append, load, row_holds}
use Rattle.ppd_check_stmts.proofs.Table.Joined.{weights_append}
use Rattle.ppd_check.specs.Sources.{head_code, head_frame, vars, bodies, all_stmts}

pub length_vars : (n : ℕ) (vs : List Variable) → length (vars n vs) ≡ length vs
length_vars n [] = refl
length_vars n (v ∷ vs) = ap suc (length_vars (after_cells n v.length) vs)

-- bodies with their variables and what their rows have
abbrev pub heads_load : Scope → List Head → ℕ
heads_load scope [] = 0
heads_load scope (h ∷ hs) = 1 + length (head_frame scope h).variables + load (head_code scope h) + heads_load scope hs

pub heads_hold : (scope : Scope) (b n m : ℕ) (hs : List Head)
    → weights (flat_map terms (map (head_code scope) hs)) + stmts_elements (all_stmts b n m (map (head_code scope) hs)) + bodies_elements (bodies scope n hs) ≡ heads_load scope hs
heads_hold scope b n m [] = refl
heads_hold scope b n m (h ∷ hs) =
    let c : Code = head_code scope h in
    let cs : List Code = map (head_code scope) hs in
    let w : weights (flat_map terms (c ∷ cs)) ≡ weights (terms c) + weights (flat_map terms cs) = ap weights (flat_map-cons terms c cs) ∙ weights_append (terms c) (flat_map terms cs) in
    omega (
      arith,
      w,
      elements_append (stmts (fitted 16 b) None n m c) (all_stmts (b + 1) (n + count c) (m + weights (terms c)) cs),
      row_holds (fitted 16 b) None n m c,
      length_vars 0 (head_frame scope h).variables,
      heads_hold scope (b + 1) (n + count c) (m + weights (terms c)) hs,
    )
