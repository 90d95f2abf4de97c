-- Events of one edge, and the greatest of some edges.
use Rattle.std.proofs.Common.{◌≡◌, ℕ, ◌+◌, ◌<◌, ◌≤◌, Bool, true, false, List, [], ◌∷◌, Option, Some, None, ap, sym, ◌∙◌, subst, arith, length, inl, inr, ◌⊎◌, if◌then◌else◌}
use Rattle.std.specs.Prelude.{fold, is_some, slice_get}
use Rattle.std.proofs.lemmas.Option.{none-some}
use Rattle.ppd_model.specs.declared.graph.EdgeId.{EdgeId}
use Rattle.ppd_model.specs.declared.trace.TracedEvent.{TracedEvent}
use Rattle.ppd_model.proofs.Changes.{some}
use Rattle.ppd_model.proofs.Tested.{In, here as first_in, there as later_in}
use Rattle.ppd_graph.specs.Shared.{greater, greatest}
use Rattle.law_flow.proofs.Vocabulary.Events.{AreQuiet, synchronizes}
use Rattle.law_flow.proofs.Edges.Back.Walked.{same_count}
use Rattle.law_flow.proofs.Edges.LogPlaces.EdgePlaces.{count_one}
use Rattle.law_flow.proofs.Edges.Spans.Facts.{count_to}
use Rattle.ppd_ast.proofs.ValidLaws.{slice_get_there}
use Rattle.ppd_ast.specs.Counting.{one_if}

-- the writer is of the edge that ends after it
pub writer_count : (events : List TracedEvent) (c a b : ℕ) → synchronizes (slice_get events a) ≡ false → AreQuiet events c (a + 1) b → a < b → b ≤ length events → count_to events a ≡ count_to events b
writer_count events c a b plain q less le =
    let rest : count_to events (a + 1) ≡ count_to events b = same_count events c (a + 1) b (omega (arith, less)) le q in
    let y = slice_get_there events a (omega (arith, less, le)) in
    let one : count_to events (a + 1) ≡ count_to events a + one_if (is_some y.0.event.number) = count_one events a y.0 y.1 in
    let none : one_if (is_some y.0.event.number) ≡ 0 = ap one_if (sym (ap synchronizes y.1) ∙ plain) in
    let z : count_to events a ≡ count_to events (a + 1) = omega (arith, one, none) in
    z ∙ rest

-- ---- the greatest of some edges is one of them

greatest_from : (before : EdgeId → EdgeId → Bool) (a : EdgeId) (best : Option EdgeId) (es : List EdgeId) → fold (greater before) best es ≡ Some a → (best ≡ Some a) ⊎ In a es
greatest_from before a best [] e = inl e
greatest_from before a best (b ∷ es) e = elim (greatest_from before a (greater before best b) es e) [
  | inr m ↦ inr (later_in m)
  | inl f ↦ by best f
]
  where
    first : {y : EdgeId} → y ≡ a → In a (y ∷ es)
    first same = subst (λ z. In a (z ∷ es)) (sym same) first_in

    pick : (y : EdgeId) (t : Bool) → (if t then Some b else Some y) ≡ Some a → (Some y ≡ Some a) ⊎ In a (b ∷ es)
    pick y true f = inr (first (some f))
    pick y false f = inl f

    by : (o : Option EdgeId) → greater before o b ≡ Some a → (o ≡ Some a) ⊎ In a (b ∷ es)
    by None f = inr (first (some f))
    by (Some y) f = pick y (before y b) f

pub greatest_in : (before : EdgeId → EdgeId → Bool) (a : EdgeId) (es : List EdgeId) → greatest before es ≡ Some a → In a es
greatest_in before a es e = elim (greatest_from before a None es e) [ inl f ↦ absurd (none-some a f) | inr m ↦ m ]
