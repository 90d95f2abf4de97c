-- The intervals that are replayed to find the last write of a local cell.
use Rattle.std.proofs.Common.{◌≡◌, ℕ, ◌<◌, List, [], ◌∷◌, ◌++◌, Option, Some, None, refl, ap, sym, ◌∙◌, subst, arith, true≢false, inl, inr, ◌⊎◌}
use Rattle.std.specs.Prelude.{slice_get, take, get_or}
use Rattle.std.proofs.lemmas.Option.{none-some}
use Rattle.ppd_ast.specs.declared.plan.Plan.{Plan}
use Rattle.ppd_ast.specs.declared.program.Program.{Program}
use Rattle.ppd_sem.specs.Blocks.{block_kind}
use Rattle.ppd_model.specs.declared.flow.Origin.{Origin}
use Rattle.std.specs.Option.{option_or}
use Rattle.ppd_model.specs.Intervals.{Span, Split}
use Rattle.ppd_model.specs.NearIntervals.{is_loop}
use Rattle.ppd_model.proofs.Changes.{some}
use Rattle.ppd_model.proofs.Tested.{In, here as first_in, there as later_in}
use Rattle.ppd_graph.specs.declared.writer.Writer.{Writer}
use Rattle.ppd_graph.specs.declared.writer.Writer.TheVariants.{Before, Fresh, At, Of}
use Rattle.ppd_graph.specs.Locals.{Scan, in_loops, local_in, scan, writer_at}
use Rattle.ppd_graph.specs.Looked.{unless}
use Rattle.ppd_graph.specs.Seen.{Seen, last_item, seen_of}
use Rattle.law_flow.specs.Edges.Within.{AreDistinct}
use Rattle.law_flow.proofs.Edges.Near.Distinct.{not_in_list, distinct_both, out_of_list}
use Rattle.law_flow.proofs.Edges.Near.Tree.{HasTree}
use Rattle.law_flow.proofs.Edges.Sources.Members.{in_cases, in_either, no_member}
use Rattle.law_flow.proofs.Costs.Own.Lists.{distinct_one, in_one}
use Rattle.law_flow.proofs.Costs.Own.Scans.{IsLoopIn, IsOtherIn, IsScanned, scanned_at, scanned_whole}

-- no interval is a loop and none
pub not_both : (plan : Plan) (x : Split) (k l z : ℕ) → IsLoopIn plan x k z → IsOtherIn plan x l z → ⊥
not_both plan x k l z a b =
    let same : a.span ≡ b.span = some (sym a.there ∙ b.there) in
    true≢false (sym a.is_one ∙ ap (λ (s : Span). is_loop (block_kind plan s.block)) same ∙ b.no_loop)

module _ (program : Program) (plan : Plan) (x : Split) (tree : HasTree x) (p c : ℕ) where
  abbrev seen : Seen
  seen = seen_of x

  -- these are loops in interval k, or another interval in it where the write was found, as its last item
  abbrev pub IsGood : ℕ → Option Origin → ℕ → Type 0
  IsGood k found z = IsLoopIn plan x k z ⊎ (IsOtherIn plan x k z × (found ≡ Some (last_item (seen_of x) p z).found))

  pub record AreGood (k : ℕ) (found : Option Origin) (rs : List ℕ) : Type 0 where
    pub each : (z : ℕ) → In z rs → IsGood k found z
    pub once : AreDistinct rs

  -- of these loops
  record AreOf (k : ℕ) (found : Option Origin) (ms rs : List ℕ) : Type 0 where
    each : (z : ℕ) → In z rs → In z ms ⊎ (IsOtherIn plan x k z × (found ≡ Some (last_item (seen_of x) p z).found))
    once : AreDistinct rs

  loops_are : (k : ℕ) (ms : List ℕ) → AreDistinct ms → ((z : ℕ) → In z ms → IsLoopIn plan x k z) → AreOf k (in_loops program plan seen p c ms).found ms (in_loops program plan seen p c ms).replays
  loops_are k [] once loops = record { each = λ z i. absurd (no_member i); once = tt }
  loops_are k (m ∷ ms) once loops = by (loops_are k ms once.1 (λ z i. loops z (later_in i))) (scan program plan 0 c (get_or seen.items m [])).writer refl
    where
      l : IsLoopIn plan x k m
      l = loops m first_in

      inner : (z : ℕ) → (scan program plan 0 c (get_or seen.items m [])).writer ≡ Of z → IsOtherIn plan x m z
      inner = (scanned_whole program plan x tree 0 c m l.span l.there).writer

      alone : (found : Option Origin) → AreOf k found (m ∷ ms) (m ∷ [])
      alone found = record { each = λ z i. inl (subst (λ y. In y (m ∷ ms)) (sym (in_one z m i)) first_in); once = distinct_one m }

      by : AreOf k (in_loops program plan seen p c ms).found ms (in_loops program plan seen p c ms).replays → (w : Writer) → (scan program plan 0 c (get_or seen.items m [])).writer ≡ w
          → AreOf k (option_or (writer_at seen p m w).found (in_loops program plan seen p c ms).found) (m ∷ ms) (m ∷ (writer_at seen p m w).replays ++ unless (writer_at seen p m w).found (in_loops program plan seen p c ms).replays)
      by rest Before e = record {
        each = λ z i. elim (in_cases z m (in_loops program plan seen p c ms).replays i) [
          | inl same ↦ inl (subst (λ y. In y (m ∷ ms)) (sym same) first_in)
          | inr j ↦ elim (rest.each z j) [ inl a ↦ inl (later_in a) | inr b ↦ inr b ]
        ];
        once = (
          not_in_list m (in_loops program plan seen p c ms).replays (λ i. elim (rest.each m i) [
            | inl a ↦ out_of_list m ms once.0 a
            | inr b ↦ not_both plan x k k m l b.0
          ]),
          rest.once,
        );
      }
      by rest Fresh e = alone (option_or (writer_at seen p m Fresh).found (in_loops program plan seen p c ms).found)
      by rest (At i) e = alone (option_or (writer_at seen p m (At i)).found (in_loops program plan seen p c ms).found)
      by rest (Of z) e =
          let o : IsOtherIn plan x m z = inner z e in
          let lt = l.below in
          let lt' = o.below in
          record {
            each = λ y i. elim (in_cases y m (z ∷ []) i) [
              | inl same ↦ inl (subst (λ u. In u (m ∷ ms)) (sym same) first_in)
              | inr j ↦
                  let same : y ≡ z = in_one y z j in
                  inr (record { span = o.span; there = ap (λ u. slice_get x.spans u) same ∙ o.there; no_loop = o.no_loop; below = omega (arith, same, lt, lt') }, ap (λ u. Some (last_item seen p u).found) (sym same))
            ];
            once = (((λ same. omega (arith, same, lt')), tt), distinct_one z);
          }

  module _ (k j frame : ℕ) (i : Span) (at : slice_get x.spans k ≡ Some i) where
    abbrev s : Scan
    s = scan program plan frame c (take j (get_or (seen_of x).items k []))

    sc : IsScanned program plan frame c (IsLoopIn plan x k) (IsOtherIn plan x k) (scan program plan frame c (take j (get_or (seen_of x).items k [])))
    sc = scanned_at program plan x tree frame c k i j at

    lo : AreOf k (in_loops program plan seen p c s.loops).found s.loops (in_loops program plan seen p c s.loops).replays
    lo = loops_are k s.loops sc.once sc.loops

    abbrev loops : List ℕ
    loops = (in_loops program plan seen p c s.loops).replays

    abbrev Now : Option Origin → Writer → Type 0
    Now o w = AreGood k (option_or o (writer_at seen p k w).found) (loops ++ unless o (writer_at seen p k w).replays)

    only : (o found : Option Origin) → (in_loops program plan seen p c s.loops).found ≡ o → (o ≡ None) ⊎ (found ≡ o) → AreGood k found (loops ++ [])
    only o found e f = record {
      each = λ z i'. elim (in_either z loops [] i') [
        | inr j' ↦ absurd (no_member j')
        | inl a ↦ elim (lo.each z a) [
          | inl b ↦ inl (sc.loops z b)
          | inr d ↦ elim f [
            | inl none ↦ absurd (none-some (last_item seen p z).found (sym none ∙ sym e ∙ d.1))
            | inr same ↦ inr (d.0, same ∙ sym e ∙ d.1)
          ]
        ]
      ];
      once = distinct_both loops [] lo.once tt (λ m a b. no_member b);
    }

    looped : (in_loops program plan seen p c s.loops).found ≡ None → (z : ℕ) → In z loops → IsLoopIn plan x k z
    looped e z a = elim (lo.each z a) [ inl b ↦ sc.loops z b | inr d ↦ absurd (none-some (last_item seen p z).found (sym e ∙ d.1)) ]

    by : (o : Option Origin) → (in_loops program plan seen p c s.loops).found ≡ o → (w : Writer) → s.writer ≡ w → Now o w
    by (Some o) e w g = only (Some o) (Some o) e (inr refl)
    by None e Before g = only None None e (inl refl)
    by None e Fresh g = only None (writer_at seen p k Fresh).found e (inl refl)
    by None e (At n) g = only None (writer_at seen p k (At n)).found e (inl refl)
    by None e (Of m) g =
        let other : IsOtherIn plan x k m = sc.writer m g in
        record {
          each = λ z i'. elim (in_either z loops (m ∷ []) i') [
            | inr j' ↦
                let same : z ≡ m = in_one z m j' in
                inr (subst (λ y. IsOtherIn plan x k y) (sym same) other, ap (λ y. Some (last_item seen p y).found) (sym same))
            | inl a ↦ inl (looped e z a)
          ];
          once = distinct_both loops (m ∷ []) lo.once (distinct_one m) (λ z a b. not_both plan x k k z (looped e z a) (subst (λ y. IsOtherIn plan x k y) (sym (in_one z m b)) other));
        }

    -- the last write in interval k before place j
    pub local_good : AreGood k (local_in program plan (seen_of x) p k j frame c).found (local_in program plan (seen_of x) p k j frame c).replays
    local_good = by (in_loops program plan seen p c s.loops).found refl s.writer refl

  -- they have larger numbers than the interval
  pub good_above : (k : ℕ) (found : Option Origin) (z : ℕ) → IsGood k found z → k < z
  good_above k found z (inl a) = a.below
  good_above k found z (inr b) = b.0.below
