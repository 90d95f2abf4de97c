-- What a walk comes to where it is known which event wrote the cell last, or that none did.
use Rattle.std.proofs.Common.{◌≡◌, ℕ, zero, suc, ◌+◌, ◌≤◌, ℤ, List, Some, refl, ap, sym, ◌∙◌, arith, length, true≢false, inl, inr}
use Rattle.std.specs.Prelude.{is_some, slice_get, Result}
use Rattle.std.proofs.lemmas.Bool.{cases_eq, cases_lt}
use Rattle.std.proofs.lemmas.Option.{none-some}
use Rattle.ppd_model.specs.declared.flow.Origin.{Origin}
use Rattle.ppd_model.specs.declared.trace.TracedEvent.{TracedEvent}
use Rattle.ppd_model.specs.FlowbackEdges.{part_at}
use Rattle.ppd_model.specs.Intervals.{own, Split}
use Rattle.ppd_model.proofs.Changes.{some}
use Rattle.ppd_graph.specs.declared.walked.Walked.{Walked}
use Rattle.ppd_graph.specs.declared.walked.Walked.TheVariants.{Stopped, Passed, Found}
use Rattle.ppd_graph.specs.Looked.{Looked}
use Rattle.ppd_graph.specs.Shared.{Missing, own_or}
use Rattle.law_flow.proofs.Vocabulary.Events.{AreQuiet, IsLastSync, IsLastWriter, IsWalk, synchronizes, written_by}
use Rattle.law_flow.proofs.Edges.LogPlaces.EdgePlaces.{count_one}
use Rattle.law_flow.proofs.Edges.Spans.Facts.{count_to}
use Rattle.ppd_ast.proofs.ValidLaws.{slice_get_there}
use Rattle.ppd_ast.specs.Counting.{one_if}

-- the write that a walk found is that of this event
pub record IsFoundAt (x : Split) (w : Walked) (m : ℕ) (v : ℤ) : Type 0 where
  pub interval : ℕ
  pub item : ℕ
  pub is : w ≡ Found interval item v
  pub there : part_at x interval item ≡ Some (own m)

module _ (x : Split) (c n m : ℕ) (v : ℤ) (l : IsLastWriter x.trace.events c 0 n m v) where
  quiet_no : (lo : ℕ) → AreQuiet x.trace.events c lo n → lo ≤ m → ⊥
  quiet_no lo q le = none-some v (sym (q m le l.to).unwritten ∙ l.writes)

  pub found_is : (w : Walked) → IsWalk x c 0 n w → IsFoundAt x w m v
  found_is Passed h = absurd (quiet_no 0 h (omega arith))
  found_is Stopped h =
      let s : IsLastSync x.trace.events c 0 n h.0 = h.1 in
      elim (cases_lt m h.0) [
        | inl less ↦ absurd (true≢false (sym s.is_sync ∙ (l.since h.0 (omega (arith, less)) s.to).plain))
        | inr more ↦ elim (cases_eq m h.0) [
          | inl same ↦ absurd (true≢false (sym s.is_sync ∙ ap (λ k. synchronizes (slice_get x.trace.events k)) (sym same) ∙ l.plain))
          | inr other ↦ absurd (quiet_no (h.0 + 1) s.since (omega (arith, more, other)))
        ]
      ]
  found_is (Found k i u) h =
      let s : IsLastWriter x.trace.events c 0 n h.0 u = h.2 in
      elim (cases_lt m h.0) [
        | inl less ↦ absurd (none-some u (sym (l.since h.0 (omega (arith, less)) s.to).unwritten ∙ s.writes))
        | inr more ↦ elim (cases_eq m h.0) [
          | inl same ↦
              let value : u ≡ v = some (sym s.writes ∙ ap (λ z. written_by c (slice_get x.trace.events z)) (sym same) ∙ l.writes) in
              record { interval = k; item = i; is = ap (λ z. Found k i z) value; there = h.1 ∙ ap (λ z. Some (own z)) (sym same) }
          | inr other ↦ absurd (quiet_no (h.0 + 1) s.since (omega (arith, more, other)))
        ]
      ]

-- where no event is the last writer the search goes on
pub not_found : (x : Split) (c n p : ℕ) (w : Walked) (r : Looked (ℕ × ℕ) (Result Origin Missing)) → IsWalk x c 0 n w → ((m : ℕ) (v : ℤ) → IsLastWriter x.trace.events c 0 n m v → ⊥) → (own_or p w r).found ≡ r.found
not_found x c n p Passed r h no' = refl
not_found x c n p Stopped r h no' = refl
not_found x c n p (Found k i v) r h no' = absurd (no' h.0 v h.2)

-- quiet events, and the writer itself, are of one edge
pub same_count : (events : List TracedEvent) (c lo hi : ℕ) → lo ≤ hi → hi ≤ length events → AreQuiet events c lo hi → count_to events lo ≡ count_to events hi
same_count events c lo zero le end' q = ap (count_to events) (let z : lo ≡ 0 = omega (arith, le) in z)
same_count events c lo (suc hi) le end' q = elim (cases_eq lo (suc hi)) [
  | inl same ↦ ap (count_to events) same
  | inr other ↦
      let rest : count_to events lo ≡ count_to events hi = same_count events c lo hi (omega (arith, le, other)) (omega (arith, end')) (λ n ge lt. q n ge (omega (arith, lt))) in
      let e = slice_get_there events hi (omega (arith, end')) in
      let plain : one_if (is_some e.0.event.number) ≡ 0 = ap one_if (sym (ap synchronizes e.1) ∙ (q hi (omega (arith, le, other)) (omega arith)).plain) in
      let one : count_to events (hi + 1) ≡ count_to events hi + one_if (is_some e.0.event.number) = count_one events hi e.0 e.1 in
      let z : hi + 1 ≡ suc hi = omega arith in
      let last : count_to events (suc hi) ≡ count_to events hi = sym (ap (count_to events) z) ∙ one ∙ (let y : count_to events hi + one_if (is_some e.0.event.number) ≡ count_to events hi = omega (arith, plain) in y) in
      rest ∙ sym last
]
