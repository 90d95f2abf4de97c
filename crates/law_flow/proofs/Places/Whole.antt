-- Each part of a level is one item.
use Rattle.std.proofs.Common.{◌≡◌, ℕ, ◌+◌, ◌≤◌, List, [], ◌∷◌, ◌++◌, Option, Some, None, ap, subst, ◌∙◌, arith, length, append-nil, length-append}
use Rattle.std.specs.Prelude.{slice_get, take}
use Rattle.std.specs.List.{flat_map}
use Rattle.std.proofs.lemmas.List.{take_at}
use Rattle.std.proofs.lemmas.List.Concat.{flat_map-append}
use Rattle.ppd_model.specs.Intervals.{Part, own, nested, Span, Split, item_of}
use Rattle.ppd_model.proofs.IntervalWords.{item_of_event, item_of_span}
use Rattle.ppd_model.specs.Items.{EachPartIsItem}
use Rattle.ppd_model.specs.declared.trace.TracedEvent.{TracedEvent}
use Rattle.law_flow.specs.Places.Levels.{IsLater, Level, StandsIn, numbers}
use Rattle.law_flow.specs.Places.Leaves.{items_so_far}

event_most : (o : Option TracedEvent) → length (item_of_event o) ≤ 1
event_most None = omega arith
event_most (Some e) = omega arith

span_most : (m : ℕ) (o : Option Span) → length (item_of_span m o) ≤ 1
span_most m None = omega arith
span_most m (Some i) = omega arith

one_most : (y : Split) (q : Part) → length (item_of y q) ≤ 1
one_most y (own n) = event_most (slice_get y.trace.events n)
one_most y (nested m) = span_most m (slice_get y.spans m)

all_most : (y : Split) (ps : List Part) → length (flat_map (item_of y) ps) ≤ length ps
all_most y [] = omega arith
all_most y (q ∷ ps) =
    let both : length (item_of y q ++ flat_map (item_of y) ps)
    ≡ length (item_of y q) + length (flat_map (item_of y) ps) =
    length-append (item_of y q) (flat_map (item_of y) ps) in
    let one : length (item_of y q) ≤ 1 = one_most y q in
    let rest : length (flat_map (item_of y) ps) ≤ length ps = all_most y ps in
    omega (arith, both, one, rest)

-- where all parts are items, so are the first ones
pub first_whole : (y : Split) (ps qs : List Part) → length (flat_map (item_of y) (ps ++ qs)) ≡ length (ps ++ qs)
    → length (flat_map (item_of y) ps) ≡ length ps
first_whole y ps qs h =
    let items : length (flat_map (item_of y) (ps ++ qs))
    ≡ length (flat_map (item_of y) ps) + length (flat_map (item_of y) qs) =
    ap length (flat_map-append (item_of y) ps qs)
    ∙ length-append (flat_map (item_of y) ps) (flat_map (item_of y) qs) in
    let parts : length (ps ++ qs) ≡ length ps + length qs = length-append ps qs in
    let first : length (flat_map (item_of y) ps) ≤ length ps = all_most y ps in
    let rest : length (flat_map (item_of y) qs) ≤ length qs = all_most y qs in
    omega (arith, items, parts, first, rest, h)

-- the items before a place are those of the parts before it
pub first_items : (y : Split) (ps qs : List Part) → length (flat_map (item_of y) (ps ++ qs)) ≡ length (ps ++ qs)
    → take (length ps) (flat_map (item_of y) (ps ++ qs)) ≡ flat_map (item_of y) ps
first_items y ps qs h = ap (take (length ps)) (flat_map-append (item_of y) ps qs)
    ∙ take_at (flat_map (item_of y) ps) (flat_map (item_of y) qs) (length ps) (first_whole y ps qs h)

-- every interval has whole items
abbrev pub AreWhole : Split → Type 0
AreWhole y = (k : ℕ) (i : Span) → slice_get y.spans k ≡ Some i → EachPartIsItem y i

-- the interval of a level at a later time
pub record LevelAt (y : Split) (l : Level) (outside : List ℕ) : Type 0 where
  pub span : Span
  pub there : slice_get y.spans l.interval ≡ Some span
  pub block_is : span.block ≡ l.block
  pub round_is : span.round ≡ outside
  pub more : List Part
  pub parts_are : span.parts ≡ l.parts ++ more

pub first_level : (x y : Split) (l : Level) (ls : List Level) → StandsIn x (l ∷ ls) → IsLater x y
    → LevelAt y l (numbers ls)
first_level x y l ls s h =
    let g = h.spans l.interval s.levels.0.span s.levels.0.there in
    record {
      span = g.0;
      there = g.1;
      block_is = g.2.block ∙ s.levels.0.block_is;
      round_is = g.2.round ∙ s.levels.0.round_is;
      more = g.2.more;
      parts_are = g.2.parts ∙ ap (λ ps. ps ++ g.2.more) (s.levels.0.parts_are ∙ append-nil l.parts);
    }

pub level_whole : (y : Split) (l : Level) (outside : List ℕ) → AreWhole y → LevelAt y l outside
    → length (items_so_far y l) ≡ length l.parts
level_whole y l outside whole at =
    first_whole y l.parts at.more (subst (λ ps. length (flat_map (item_of y) ps) ≡ length ps) at.parts_are
    (whole l.interval at.span at.there))
