-- Which successors a choice and a loop have.
use Rattle.std.proofs.Common.{◌≡◌, ℕ, [], ◌∷◌, Bool, true, false, Option, Some, None, refl, subst}
use Rattle.std.specs.Prelude.{IsTrue, nat_eq, nat_lt, if◌then◌else◌}
use Rattle.std.proofs.lemmas.Bool.{eqb-true}
use Rattle.ppd_ast.specs.Members.{has}
use Rattle.ppd_ast.proofs.Members.{has_first, has_later}
use Rattle.ppd_sets.specs.Lists.{rising}
use Rattle.ppd_sets.proofs.FlowWords.{rising_pair}
use Rattle.ppd_model.proofs.Changes.{some}
use Rattle.ppd_model.proofs.Parents.{none_some}

of_one : (x u : ℕ) → Some x ≡ Some u → IsTrue (has (x ∷ []) u)
of_one x u e = subst (λ y. IsTrue (has (x ∷ []) y)) (some e) (has_first x [])

pair_left : (b c : Bool) (x y : ℕ) → IsTrue (has (if b then x ∷ y ∷ [] else if c then x ∷ [] else y ∷ x ∷ []) x)
pair_left true c x y = has_first x (y ∷ [])
pair_left false true x y = has_first x []
pair_left false false x y = has_later y x (x ∷ []) (has_first x [])

pair_right : (b c : Bool) (x y : ℕ) → nat_eq x y ≡ c → IsTrue (has (if b then x ∷ y ∷ [] else if c then x ∷ [] else y ∷ x ∷ []) y)
pair_right true c x y e = has_later x y (y ∷ []) (has_first y [])
pair_right false true x y e = subst (λ z. IsTrue (has (x ∷ []) z)) (eqb-true x y e) (has_first x [])
pair_right false false x y e = has_first y (x ∷ [])

pub has_rising_left : (a b : Option ℕ) (u : ℕ) → a ≡ Some u → IsTrue (has (rising a b) u)
has_rising_left None b u e = absurd (none_some e)
has_rising_left (Some x) None u e = of_one x u e
has_rising_left (Some x) (Some y) u e = subst (λ z. IsTrue (has (rising_pair x y) z)) (some e) (pair_left (nat_lt x y) (nat_eq x y) x y)

pub has_rising_right : (a b : Option ℕ) (u : ℕ) → b ≡ Some u → IsTrue (has (rising a b) u)
has_rising_right None None u e = absurd (none_some e)
has_rising_right None (Some y) u e = of_one y u e
has_rising_right (Some x) None u e = absurd (none_some e)
has_rising_right (Some x) (Some y) u e = subst (λ z. IsTrue (has (rising_pair x y) z)) (some e) (pair_right (nat_lt x y) (nat_eq x y) x y refl)
