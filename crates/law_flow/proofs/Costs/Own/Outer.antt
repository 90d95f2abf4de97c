-- The interval directly round another one.
use Rattle.std.proofs.Common.{◌≡◌, ℕ, ◌≤◌, List, [], ◌∷◌, Some, refl, ap, sym, ◌∙◌, subst, arith}
use Rattle.std.specs.Prelude.{slice_get}
use Rattle.ppd_model.specs.Intervals.{Span, Split}
use Rattle.ppd_model.proofs.Tested.{In, here as first_in, there as later_in}
use Rattle.ppd_graph.specs.Seen.{first_or, outer_of, seen_of}
use Rattle.law_flow.proofs.Edges.Back.Walks.{map_at}
use Rattle.law_flow.proofs.Edges.Spans.Tiles.{Stands, within}

-- each interval stands somewhere
abbrev pub AllStand : (ℕ → ℕ → ℕ → Type 0) → Split → Type 0
AllStand F x = (k : ℕ) (i : Span) → slice_get x.spans k ≡ Some i → (first : ℕ) × Stands F x.spans k i.round first

-- the interval round one that is there, or itself
pub record IsOuter (x : Split) (k : ℕ) (i : Span) : Type 0 where
  pub span : Span
  pub there : slice_get x.spans (outer_of (seen_of x) k) ≡ Some span
  pub below : outer_of (seen_of x) k ≤ k
  pub near : In (outer_of (seen_of x) k) (k ∷ i.round)
  pub round : (z : ℕ) → In z (outer_of (seen_of x) k ∷ span.round) → In z (k ∷ i.round)

pub outer_is : (F : ℕ → ℕ → ℕ → Type 0) (x : Split) → AllStand F x → (k : ℕ) (i : Span) → slice_get x.spans k ≡ Some i → IsOuter x k i
outer_is F x stands k i at = let s = stands k i at in by i.round refl s.0 s.1
  where
    outer : outer_of (seen_of x) k ≡ first_or k i.round
    outer = ap (first_or k) (map_at (λ (j : Span). j.round) x.spans k i [] at)

    by : (round : List ℕ) → i.round ≡ round → (first : ℕ) → Stands F x.spans k round first → IsOuter x k i
    by [] e first s =
        let is : outer_of (seen_of x) k ≡ k = outer ∙ ap (first_or k) e in
        record {
          span = i;
          there = ap (λ z. slice_get x.spans z) is ∙ at;
          below = omega (arith, is);
          near = subst (λ z. In z (k ∷ i.round)) (sym is) first_in;
          round = λ z f. subst (λ y. In z (y ∷ i.round)) is f;
        }
    by (m ∷ rest) e first (within o ps qs low there same lt parts apart s t) =
        let is : outer_of (seen_of x) k ≡ m = outer ∙ ap (first_or k) e in
        record {
          span = o;
          there = ap (λ z. slice_get x.spans z) is ∙ there;
          below = omega (arith, is, lt);
          near = later_in (subst (λ l. In (outer_of (seen_of x) k) l) (sym e) (subst (λ z. In z (m ∷ rest)) (sym is) first_in));
          round = λ z f. later_in (subst (λ l. In z l) (sym e) (subst (λ y. In z (y ∷ rest)) is (subst (λ r. In z (outer_of (seen_of x) k ∷ r)) same f)));
        }
