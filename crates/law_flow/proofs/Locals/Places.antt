-- What is seen of a level's items, and where its interval stands in the one outside.
use Rattle.std.proofs.Common.{◌≡◌, ℕ, ◌+◌, ◌-◌, false, List, [], ◌∷◌, ◌++◌, Some, refl, ap, subst, ◌∙◌, arith, length, append_assoc, eq-eqb}
use Rattle.std.specs.List.{AllByRecursion as Each, flat_map, position_from}
use Rattle.std.specs.Prelude.{slice_get, take, unwrap_or, is_some, get_or}
use Rattle.std.proofs.lemmas.Iterator.Adapters.{position_from-zero}
use Rattle.std.proofs.lemmas.List.Concat.{flat_map-append}
use Rattle.ppd_ast.specs.declared.plan.BlockKind.TheVariants as block
use Rattle.ppd_ast.specs.declared.plan.Plan.{Plan}
use Rattle.ppd_sem.specs.Blocks.{block_kind}
use Rattle.ppd_model.specs.Intervals.{Part, own, nested, Span, Split, item_of, items_of}
use Rattle.ppd_model.specs.declared.flow.Item.{Item}
use Rattle.ppd_model.specs.declared.flow.Item.TheVariants as item
use Rattle.ppd_model.specs.declared.flow.Origin.TheVariants as origin
use Rattle.ppd_model.proofs.Lists.{get_mapped}
use Rattle.ppd_graph.specs.Seen.{call_of, first_or, is_item_of, kind_at, outer_of, outer_place, place_of, seen_of}
use Rattle.law_flow.specs.Places.Levels.{AreBelow, AreLevels, IsLater, Level, numbers}
use Rattle.law_flow.specs.Places.Leaves.{items_so_far}
use Rattle.law_flow.proofs.Places.Scans.{nested_item}
use Rattle.law_flow.proofs.Places.Whole.{AreWhole, LevelAt, first_items, first_whole}
use Rattle.law_flow.proofs.Control.Searching.{found_past, event_none, span_none}

-- the interval of the level outside at a later time
pub record OuterAt (y : Split) (m : ℕ) (o : Level) : Type 0 where
  pub span : Span
  pub there : slice_get y.spans o.interval ≡ Some span
  pub more : List Part
  pub parts_are : span.parts ≡ o.parts ++ nested m ∷ more
  pub below : AreBelow m o.parts

-- the interval of a level, and of the one outside, at a later time
pub level_from : (x y : Split) (n : ℕ) (inner : List Part) (l : Level) (ls : List Level)
    → AreLevels x.spans n inner (l ∷ ls) → IsLater x y → LevelAt y l (numbers ls)
level_from x y n inner l ls s h =
    let g = h.spans l.interval s.0.span s.0.there in
    record {
      span = g.0;
      there = g.1;
      block_is = g.2.block ∙ s.0.block_is;
      round_is = g.2.round ∙ s.0.round_is;
      more = inner ++ g.2.more;
      parts_are = g.2.parts ∙ ap (λ ps. ps ++ g.2.more) s.0.parts_are ∙ append_assoc l.parts inner g.2.more;
    }

pub outer_from : (x y : Split) (n : ℕ) (inner : List Part) (l o : Level) (os : List Level)
    → AreLevels x.spans n inner (l ∷ o ∷ os) → IsLater x y → OuterAt y l.interval o
outer_from x y n inner l o os s h =
    let g = h.spans o.interval s.1.0.span s.1.0.there in
    record {
      span = g.0;
      there = g.1;
      more = g.2.more;
      parts_are = g.2.parts ∙ ap (λ ps. ps ++ g.2.more) s.1.0.parts_are
          ∙ append_assoc o.parts (nested l.interval ∷ []) g.2.more;
      below = s.1.0.earlier;
    }

pub kind_is : {y : Split} (plan : Plan) (l : Level) (outside : List ℕ) → LevelAt y l outside
    → kind_at plan (seen_of y) l.interval ≡ block_kind plan l.block
kind_is {y = y} plan l outside at =
    ap (block_kind plan) (get_mapped (λ (i : Span). i.block) y.spans l.interval 0 at.span at.there ∙ at.block_is)

none_among : (y : Split) (m : ℕ) (ps : List Part) → AreBelow m ps
    → Each (λ (x : Item). is_item_of m x ≡ false) (flat_map (item_of y) ps)
none_among y m [] h = tt
none_among y m (own n ∷ ps) h = event_none m (slice_get y.trace.events n) (flat_map (item_of y) ps) (none_among y m ps h)
none_among y m (nested k ∷ ps) h = span_none m k (slice_get y.spans k) (flat_map (item_of y) ps) h.0
    (none_among y m ps h.1)

pub outer_is : {y : Split} (l : Level) (ls : List Level) → LevelAt y l (numbers ls)
    → outer_of (seen_of y) l.interval ≡ first_or l.interval (numbers ls)
outer_is {y = y} l ls at = ap (first_or l.interval)
    (get_mapped (λ (i : Span). i.round) y.spans l.interval [] at.span at.there ∙ at.round_is)

module _ (y : Split) (whole : AreWhole y) where
  pub first_ones : (l : Level) (outside : List ℕ) (at : LevelAt y l outside)
      → take (length l.parts) (get_or (seen_of y).items l.interval []) ≡ items_so_far y l
  first_ones l outside at =
      ap (take (length l.parts)) (get_mapped (items_of y) y.spans l.interval [] at.span at.there
      ∙ ap (flat_map (item_of y)) at.parts_are)
      ∙ first_items y l.parts at.more (subst (λ ps. length (flat_map (item_of y) ps) ≡ length ps) at.parts_are
      (whole l.interval at.span at.there))

  place_is : (m : ℕ) (o : Level) (i : Span) → slice_get y.spans m ≡ Some i → OuterAt y m o
      → place_of m (get_or (seen_of y).items o.interval []) ≡ length o.parts
  place_is m o i at out =
      let items : get_or (seen_of y).items o.interval [] ≡ flat_map (item_of y) (o.parts ++ nested m ∷ out.more) =
      get_mapped (items_of y) y.spans o.interval [] out.span out.there ∙ ap (flat_map (item_of y)) out.parts_are in
      let split : flat_map (item_of y) (o.parts ++ nested m ∷ out.more)
      ≡ flat_map (item_of y) o.parts ++ (item.Nested m i.block i.values (is_some i.closed) ∷ flat_map
      (item_of y) out.more) =
      flat_map-append (item_of y) o.parts (nested m ∷ out.more)
      ∙ ap (λ xs. flat_map (item_of y) o.parts ++ (xs ++ flat_map (item_of y) out.more)) (nested_item y m i at) in
      let counted : length (flat_map (item_of y) o.parts) ≡ length o.parts =
      first_whole y o.parts (nested m ∷ out.more) (subst (λ ps. length (flat_map (item_of y) ps)
      ≡ length ps) out.parts_are (whole o.interval out.span out.there)) in
      let z : 0 + length (flat_map (item_of y) o.parts) ≡ length o.parts = omega (arith, counted) in
      ap (λ r. unwrap_or r 0)
      (position_from-zero (is_item_of m) (get_or (seen_of y).items o.interval [])
      ∙ ap (position_from (is_item_of m) 0) (items ∙ split)
      ∙ found_past m 0 (flat_map (item_of y) o.parts) (item.Nested m i.block i.values (is_some i.closed))
      (flat_map (item_of y) out.more) (none_among y m o.parts out.below) (eq-eqb m m refl)
      ∙ ap (λ k. Some k) z)

  -- the call of a function's level is the last part of the level outside
  pub call_is : (p : ℕ) (l o : Level) (os : List Level) → LevelAt y l (numbers (o ∷ os)) → OuterAt y l.interval o
      → (call_of (seen_of y) p l.interval).found ≡ origin.Item p o.interval (length o.parts - 1)
  call_is p l o os at out =
      let outer : outer_of (seen_of y) l.interval ≡ o.interval = outer_is l (o ∷ os) at in
      ap (λ k. origin.Item p k (place_of l.interval (get_or (seen_of y).items k []) - 1)) outer
      ∙ ap (λ j. origin.Item p o.interval (j - 1)) (place_is l.interval o at.span at.there out)

  pub place_of_is : (l o : Level) (os : List Level) → LevelAt y l (numbers (o ∷ os)) → OuterAt y l.interval o
      → outer_place (seen_of y) l.interval ≡ length o.parts
  place_of_is l o os at out =
      ap (λ k. place_of l.interval (get_or (seen_of y).items k [])) (outer_is l (o ∷ os) at)
      ∙ place_is l.interval o at.span at.there out
