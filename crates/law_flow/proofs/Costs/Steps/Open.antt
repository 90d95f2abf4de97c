-- When an interval is open in an edge, and which intervals run.
use Rattle.std.proofs.Common.{◌≡◌, ℕ, zero, suc, ◌+◌, ◌<◌, ◌≤◌, Bool, true, false, List, [], ◌∷◌, Option, Some, None, refl, ap, sym, ◌∙◌, subst, arith, true≢false, inl, inr, eq-eqb, ◌||◌}
use Rattle.std.specs.Prelude.{drop, is_some, nat_eq, slice_get, take}
use Rattle.std.specs.List.{list_any}
use Rattle.std.proofs.lemmas.Option.{none-some}
use Rattle.ppd_model.specs.declared.entry.Entry.{Entry}
use Rattle.ppd_model.specs.Intervals.{Span}
use Rattle.ppd_model.specs.NearIntervals.{through_step}
use Rattle.ppd_model.specs.declared.trace.TracedEvent.{TracedEvent}
use Rattle.ppd_model.proofs.Changes.{some}
use Rattle.ppd_model.proofs.Tested.{In, there as later_in}
use Rattle.law_flow.proofs.Edges.Sources.Members.{in_cases, in_first, no_member}
use Rattle.law_flow.proofs.Edges.Spans.Told.{Around, AreTiled, last_of, outside}
use Rattle.law_flow.proofs.Costs.Steps.Lasting.{Holds}

-- ---- lists

any_at : (es : List ℕ) (o t e : ℕ) → o ≤ t → slice_get es t ≡ Some e → list_any (λ d. nat_eq d e) (drop o es) ≡ true
any_at [] o t e le f = absurd (none-some e f)
any_at (d ∷ ds) zero zero e le f = ap (λ b. b || list_any (λ y. nat_eq y e) ds) (eq-eqb d e (some f))
any_at (d ∷ ds) zero (suc t) e le f = or_right (nat_eq d e) (any_at ds zero t e (omega arith) f)
  where
    or_right : (b : Bool) {c : Bool} → c ≡ true → (b || c) ≡ true
    or_right true h = refl
    or_right false h = h
any_at (d ∷ ds) (suc o) zero e le f = absurd (omega (arith, le))
any_at (d ∷ ds) (suc o) (suc t) e le f = any_at ds o t e (omega (arith, le)) f

taken_at : (es : List ℕ) (n t e : ℕ) → t < n → slice_get es t ≡ Some e → slice_get (take n es) t ≡ Some e
taken_at [] n t e lt f = absurd (none-some e f)
taken_at (d ∷ ds) zero t e lt f = absurd (omega (arith, lt))
taken_at (d ∷ ds) (suc n) zero e lt f = f
taken_at (d ∷ ds) (suc n) (suc t) e lt f = taken_at ds n t e (omega (arith, lt)) f

-- a step between the one that opened an interval and the one that left it, if it was left, lies in this edge
pub open_if : (edges : List ℕ) (i : Span) (t e : ℕ) → i.opened ≤ t → ((s : ℕ) → i.closed ≡ Some s → t ≤ s) → slice_get edges t ≡ Some e
    → list_any (λ d. nat_eq d e) (drop i.opened (through_step i.closed edges)) ≡ true
open_if edges i t e from to at = by i.closed refl
  where
    by : (o : Option ℕ) → i.closed ≡ o → list_any (λ d. nat_eq d e) (drop i.opened (through_step i.closed edges)) ≡ true
    by None g = ap (λ o. list_any (λ d. nat_eq d e) (drop i.opened (through_step o edges))) g ∙ any_at edges i.opened t e from at
    by (Some s) g =
        let le : t ≤ s = to s g in
        ap (λ o. list_any (λ d. nat_eq d e) (drop i.opened (through_step o edges))) g
        ∙ any_at (take (s + 1) edges) i.opened t e from (taken_at edges (s + 1) t e (omega (arith, le)) at)

-- ---- intervals that run

abbrev pub IsUnleft : Span → Type 0
IsUnleft i = is_some i.closed ≡ false

module _ (entries : List Entry) (events : List TracedEvent) (spans : List Span) where
  around_unleft : (m : ℕ) (rest : List ℕ) (lo : ℕ) → Around entries events spans m rest lo → (z : ℕ) → In z rest → Holds IsUnleft spans z
  around_unleft m [] lo a z i = absurd (no_member i)
  around_unleft m (k ∷ rest) lo (last_of i ps first there run round lt parts apart o a t) z j = elim (in_cases z k rest j) [
    | inl same ↦ subst (λ y. Holds IsUnleft spans y) (sym same) (i, there, run)
    | inr later ↦ around_unleft k rest first a z later
  ]

  pub tiled_unleft : (ks : List ℕ) (n : ℕ) → AreTiled entries events spans ks n → (z : ℕ) → In z ks → Holds IsUnleft spans z
  tiled_unleft [] n t z i = absurd (no_member i)
  tiled_unleft (m ∷ rest) n t z i = elim (in_cases z m rest i) [
    | inl same ↦ subst (λ y. Holds IsUnleft spans y) (sym same) (t.span, t.there, t.runs)
    | inr later ↦ around_unleft m rest t.first t.around z later
  ]

  around_zero : (m : ℕ) (rest : List ℕ) (lo : ℕ) → Around entries events spans m rest lo → In 0 (m ∷ rest)
  around_zero m [] lo (outside e z) = in_first 0 m [] (sym e)
  around_zero m (k ∷ rest) lo (last_of i ps first there run round lt parts apart o a t) = later_in (around_zero k rest first a)

  -- interval 0 runs where one does
  pub tiled_zero : (m : ℕ) (rest : List ℕ) (n : ℕ) → AreTiled entries events spans (m ∷ rest) n → In 0 (m ∷ rest)
  tiled_zero m rest n t = around_zero m rest t.first t.around

pub unclosed : (i : Span) → IsUnleft i → (s : ℕ) → i.closed ≡ Some s → ⊥
unclosed i h s e = true≢false (sym (ap (λ o. is_some o) e) ∙ h)
