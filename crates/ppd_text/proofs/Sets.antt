-- What the sets of a program have of a body.
use Rattle.std.specs.Prelude.{codes, get_or, [], true}
use Rattle.std.proofs.Common.{◌≡◌, ℕ, ◌+◌, ◌<◌, List, ◌++◌, length, sym, ap, ◌∙◌, subst, arith}
use Rattle.ppd_ast.specs.declared.program.Program.{Program}
use Rattle.ppd_ast.specs.declared.program.Var.{Var}
use Rattle.ppd_sets.proofs.FlowRows.{row_at, length_rows}
use Rattle.ppd_sets.specs.declared.var_sets.VarSets.{VarSets}
use Rattle.ppd_sets.specs.SetsOf.{AreSetsOf}
use Rattle.ppd_sets.specs.Used.{shared_through, reads_at, writes_at}
use Rattle.ppd_text.specs.Names.{names_text}

-- what is used and what is defined of these variables
abbrev uses_text : List Var → (used defined : List ℕ) → List ℕ
uses_text vars used defined = codes " used" ++ names_text vars used ++ codes " defined" ++ names_text vars defined

module _ (p : Program) (s : VarSets) (k : ℕ) (are : AreSetsOf p s) (there : k < length p.bodies) where
  pub used_there : k < length s.used
  used_there = subst (λ n. k < n) (sym (ap length are.used ∙ length_rows (shared_through p (reads_at true p)) 0 (length p.bodies))) there

  pub defined_there : k < length s.defined
  defined_there = subst (λ n. k < n) (sym (ap length are.defined ∙ length_rows (shared_through p (writes_at true p)) 0 (length p.bodies))) there

  used_is : get_or s.used k [] ≡ shared_through p (reads_at true p) k
  used_is = let e : 0 + k ≡ k = omega arith in ap (λ rows. get_or rows k []) are.used ∙ row_at (shared_through p (reads_at true p)) 0 (length p.bodies) k there ∙ ap (shared_through p (reads_at true p)) e

  defined_is : get_or s.defined k [] ≡ shared_through p (writes_at true p) k
  defined_is = let e : 0 + k ≡ k = omega arith in ap (λ rows. get_or rows k []) are.defined ∙ row_at (shared_through p (writes_at true p)) 0 (length p.bodies) k there ∙ ap (shared_through p (writes_at true p)) e

  pub sets_written : (vars : List Var) (used defined old new : List ℕ) → vars ≡ p.shared → used ≡ get_or s.used k [] → defined ≡ get_or s.defined k [] → new ≡ old ++ uses_text vars used defined → new ≡ old ++ uses_text p.shared (shared_through p (reads_at true p) k) (shared_through p (writes_at true p) k)
  sets_written vars used defined old new same u v is =
      is ∙ ap (λ vs. old ++ uses_text vs used defined) same ∙ ap (λ xs. old ++ uses_text p.shared xs defined) (u ∙ used_is) ∙ ap (λ xs. old ++ uses_text p.shared (shared_through p (reads_at true p) k) xs) (v ∙ defined_is)
