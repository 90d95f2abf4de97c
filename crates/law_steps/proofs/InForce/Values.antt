-- The value in force of a cell: an own write, or the value in a unit.
use Rattle.std.specs.Option.{option_map_or}
use Rattle.std.proofs.Common.{◌≡◌, ℕ, ℤ, pos, List, [], ◌∷◌, true, refl, ap, sym, ◌∙◌, map, get_or, inl, inr, true≢false, eq-eqb}
use Rattle.std.proofs.lemmas.Bool.{cases_eq, ne_eqb, cond-false, cond-true}
use Rattle.std.specs.List.{list_any}
use Rattle.std.specs.Prelude.{nat_eq, ◌||◌, slice_get, zip}
use Rattle.ppd_ast.specs.declared.plan.Plan.{Plan}
use Rattle.ppd_ast.specs.Members.{has}
use Rattle.ppd_model.specs.Replay.{value_in_force}
use Rattle.ppd_model.specs.Story.{values_of_unit}
use Rattle.law_steps.specs.Units.{IsCellOf}

-- of cells beside their values
zipped : (f : ℕ → ℤ) (cs : List ℕ) (c : ℕ) → has cs c ≡ true → value_in_force (zip cs (map f cs)) c ≡ f c
zipped f [] c e = absurd (true≢false (sym e))
zipped f (d ∷ cs) c e = elim (cases_eq d c) [
  | inl is ↦ cond-true (nat_eq d c) (f d) (value_in_force (zip cs (map f cs)) c) (eq-eqb d c is) ∙ ap f is
  | inr isnt ↦ cond-false (nat_eq d c) (f d) (value_in_force (zip cs (map f cs)) c) (ne_eqb d c isnt) ∙ zipped f cs c (ap (λ b. b || list_any (λ y. nat_eq y c) cs) (sym (ne_eqb d c isnt)) ∙ e)
]

pub written_here : (c : ℕ) (v : ℤ) (xs : List (ℕ × ℤ)) → value_in_force ((c, v) ∷ xs) c ≡ v
written_here c v xs = cond-true (nat_eq c c) v (value_in_force xs c) (eq-eqb c c refl)

pub written_there : (d c : ℕ) (v : ℤ) (xs : List (ℕ × ℤ)) → (c ≡ d → ⊥) → value_in_force ((d, v) ∷ xs) c ≡ value_in_force xs c
written_there d c v xs n = cond-false (nat_eq d c) v (value_in_force xs c) (ne_eqb d c (λ e. n (sym e)))

-- of a cell of the unit that starts
pub unit_value : (plan : Plan) (shared : List ℤ) (u c : ℕ) → IsCellOf plan u c → value_in_force (zip (option_map_or (λ u. u.cells) (slice_get plan.units u) []) (values_of_unit plan shared u)) c ≡ get_or shared c (pos 0)
unit_value plan shared u c k =
    zipped (λ d. get_or shared d (pos 0)) (option_map_or (λ u. u.cells) (slice_get plan.units u) []) c
    (ap (λ o. has (option_map_or (λ u. u.cells) o []) c) k.there ∙ k.among)
