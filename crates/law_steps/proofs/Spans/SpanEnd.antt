-- Where no moment is left, the spans are what is to come; and an own step before what is to come.
use Rattle.std.proofs.Common.{◌≡◌, ℕ, ◌+◌, List, [], ◌∷◌, ◌++◌, Some, None, false, Bool, true, Option, refl, ap, sym, ◌∙◌, arith, append-nil, append_assoc}
use Rattle.std.proofs.lemmas.List.Concat.{flat_map-append}
use Rattle.std.specs.List.{flat_map}
use Rattle.std.specs.Prelude.{slice_get}
use Rattle.ppd_model.specs.declared.flow.Item.{Item}
use Rattle.ppd_model.specs.declared.flow.Item.TheVariants as item
use Rattle.ppd_model.specs.Pieces.{Piece}
use Rattle.ppd_model.specs.declared.trace.TracedEvent.{TracedEvent}
use Rattle.ppd_model.specs.Intervals.{Part, Span, Split, item_of, nested, own}
use Rattle.ppd_model.proofs.IntervalWords.{item_of_event, item_of_span}
use Rattle.law_steps.specs.Coming.Pieces.{Coming, Inner, at_rest, before}
use Rattle.law_steps.proofs.Spans.Grown.{IsGrown}
use Rattle.law_steps.proofs.Spans.SpanBody.{gain}
use Rattle.law_steps.proofs.Spans.SpanSteps.{Seen, SpanAt, still_open}

pub rest_own : (x : Split) (k : ℕ) (i : Span) (since : ℕ) → SpanAt x.spans x.running None k i → IsGrown x i.parts i.steps i.block (at_rest None since) (slice_get x.spans k)
rest_own x k i since a = record {
  now = i;
  there = a.there;
  same_block = refl;
  items = sym (append-nil (flat_map (item_of x) i.parts));
  all_steps = omega arith;
}

pub rest_inner : (x : Split) (j : Inner) (k : ℕ) (i : Span) (ps : List Part) (since : ℕ) → i.parts ≡ ps ++ nested j.interval ∷ [] → SpanAt x.spans x.running (Some j) k i
    → IsGrown x ps i.steps i.block (at_rest (Some j) since) (slice_get x.spans k)
rest_inner x j k i ps since e a =
    let open_is : item_of_span j.interval (slice_get x.spans j.interval) ≡ item.Nested j.interval j.block [] false ∷ [] = still_open (Seen x.spans) x.running j.level j.interval j.block k a.runs in
    record {
      now = i;
      there = a.there;
      same_block = refl;
      items = ap (flat_map (item_of x)) e ∙ flat_map-append (item_of x) ps (nested j.interval ∷ [])
          ∙ ap (λ is. flat_map (item_of x) ps ++ is) (append-nil (item_of_span j.interval (slice_get x.spans j.interval)) ∙ open_is);
      all_steps = omega arith;
    }

-- ---- an own step before what is to come

pub gain_event : (x : Split) (e : ℕ) (i : Span) (v : TracedEvent) → slice_get x.trace.events e ≡ Some v → flat_map (item_of x) (gain true e i).parts ≡ flat_map (item_of x) i.parts ++ item.Own v.event ∷ []
gain_event x e i v h =
    flat_map-append (item_of x) i.parts (own e ∷ [])
    ∙ ap (λ is. flat_map (item_of x) i.parts ++ is) (append-nil (item_of_event (slice_get x.trace.events e)) ∙ ap item_of_event h)

pub grown_step : (x : Split) (b : Bool) (e : ℕ) (i : Span) (pieces : List Piece) (items : List Item) (c : Coming) (o : Option Span) → flat_map (item_of x) (gain b e i).parts ≡ flat_map (item_of x) i.parts ++ items
    → IsGrown x (gain b e i).parts (gain b e i).steps i.block c o → IsGrown x i.parts i.steps i.block (before pieces items 1 c) o
grown_step x b e i pieces items c o h g = record {
  now = g.now;
  there = g.there;
  same_block = g.same_block;
  items = g.items ∙ ap (λ is. is ++ c.items) h ∙ append_assoc (flat_map (item_of x) i.parts) items c.items;
  all_steps = by b g.all_steps;
}
  where
    by : (b : Bool) → g.now.steps ≡ (gain b e i).steps + c.steps → g.now.steps ≡ i.steps + (1 + c.steps)
    by true q = omega (arith, q)
    by false q = omega (arith, q)
