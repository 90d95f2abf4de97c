-- The greatest edge that is found is the one that all others are before.
use Rattle.std.proofs.Common.{◌≡◌, List, [], ◌∷◌, Option, Some, None, Bool, true, false, refl, ap, sym, subst, ◌∙◌, inl, inr, ◌⊎◌, if◌then◌else◌}
use Rattle.std.specs.Prelude.{fold}
use Rattle.std.proofs.lemmas.Option.{none-some}
use Rattle.ppd_model.specs.declared.graph.EdgeId.{EdgeId}
use Rattle.ppd_model.proofs.Changes.{some}
use Rattle.ppd_model.proofs.Tested.{In, here, there}
use Rattle.ppd_graph.specs.Shared.{greater, greatest}
use Rattle.law_flow.proofs.Edges.Sources.Members.{in_cases, no_member}

module _ (before : EdgeId → EdgeId → Bool) (a : EdgeId) where
  -- b is a, or before it, and a is not before b
  abbrev pub IsUnder : EdgeId → Type 0
  IsUnder b = ((b ≡ a) ⊎ (before b a ≡ true)) × (before a b ≡ false)

  on_top : (es : List EdgeId) → ((b : EdgeId) → In b es → IsUnder b) → fold (greater before) (Some a) es ≡ Some a
  on_top [] all = refl
  on_top (e ∷ es) all = ap (λ b. fold (greater before) (if b then Some e else Some a) es) ((all e here).1) ∙ on_top es (λ b m. all b (there m))

  -- the next best one
  first_then : (b e : EdgeId) → a ≡ e → IsUnder b → (if before b e then Some e else Some b) ≡ Some a
  first_then b e same u = elim u.0 [
    | inl is ↦ by (before b e) (ap (λ z. Some z) (sym same)) (ap (λ z. Some z) is)
    | inr less ↦ ap (λ t. if t then Some e else Some b) (ap (before b) (sym same) ∙ less) ∙ ap (λ z. Some z) (sym same)
  ]
    where
      by : (t : Bool) → Some e ≡ Some a → Some b ≡ Some a → (if t then Some e else Some b) ≡ Some a
      by true p q = p
      by false p q = q

  kept : (b e : EdgeId) → IsUnder b → IsUnder e → (t : Bool) (c : EdgeId) → (if t then Some e else Some b) ≡ Some c → IsUnder c
  kept b e u v true c f = subst IsUnder (some f) v
  kept b e u v false c f = subst IsUnder (some f) u

  still : (best : Option EdgeId) (es : List EdgeId) → ((b : EdgeId) → best ≡ Some b → IsUnder b) → ((b : EdgeId) → In b es → IsUnder b) → In a es → fold (greater before) best es ≡ Some a
  still best [] good all m = absurd (no_member m)
  still None (e ∷ es) good all m = elim (in_cases a e es m) [
    | inl same ↦ ap (λ z. fold (greater before) (Some z) es) (sym same) ∙ on_top es (λ b k. all b (there k))
    | inr m' ↦ still (Some e) es (λ b f. subst IsUnder (some f) (all e here)) (λ b k. all b (there k)) m'
  ]
  still (Some b) (e ∷ es) good all m = elim (in_cases a e es m) [
    | inl same ↦ ap (λ o. fold (greater before) o es) (first_then b e same (good b refl)) ∙ on_top es (λ c k. all c (there k))
    | inr m' ↦ still (if before b e then Some e else Some b) es (kept b e (good b refl) (all e here) (before b e)) (λ c k. all c (there k)) m'
  ]

  pub greatest_is : (es : List EdgeId) → ((b : EdgeId) → In b es → IsUnder b) → In a es → greatest before es ≡ Some a
  greatest_is es all m = still None es (λ b f. absurd (none-some b f)) all m
