-- The search over what is seen of a process, at the place at which it stands: it goes as over its running intervals.
use Rattle.std.proofs.Common.{◌≡◌, ℕ, suc, ◌+◌, ◌<◌, true, false, List, [], ◌∷◌, ◌++◌, Option, Some, None, refl, ap, sym, ◌∙◌, arith, length, append-nil, append_assoc, ne_eqb, if◌then◌else◌}
use Rattle.std.specs.List.{AllByRecursion as Each, flat_map, position_from}
use Rattle.std.specs.Prelude.{⊤, fold, slice_get, is_some}
use Rattle.ppd_ast.specs.declared.plan.Plan.{Plan}
use Rattle.ppd_ast.specs.declared.program.Program.{Program}
use Rattle.ppd_model.specs.Intervals.{Part, own, nested, Span, Split, item_of}
use Rattle.ppd_model.proofs.IntervalWords.{item_of_event, item_of_span}
use Rattle.ppd_model.specs.declared.flow.Item.{Item}
use Rattle.ppd_model.specs.declared.flow.Item.TheVariants as item
use Rattle.ppd_model.specs.declared.trace.TracedEvent.{TracedEvent}
use Rattle.ppd_graph.specs.declared.leaf_call.LeafCall.{LeafCall}
use Rattle.ppd_graph.specs.Control.{Tests, test_event, test_item}
use Rattle.ppd_graph.specs.Locals.{leaf_after, leaf_at}
use Rattle.ppd_graph.specs.Seen.{is_item_of}
use Rattle.law_flow.specs.Places.Levels.{AreBelow, AreLevels, IsLater, StandsIn, numbers, Level as Place}
use Rattle.law_flow.proofs.Places.Scans.{leaf_nested as leaf_past, leaf_own}
use Rattle.law_flow.proofs.Places.Whole.{AreWhole, first_whole}
use Rattle.law_flow.proofs.Control.Seen.{SightIs}
use Rattle.law_flow.proofs.Control.Sights.{Sign, leaf_from, tests_from}

-- ---- lists

abbrev pub NoneOf : ℕ → List Item → Type 0
NoneOf m xs = Each (λ (x : Item). is_item_of m x ≡ false) xs

pub event_none : (m : ℕ) (o : Option TracedEvent) (rest : List Item) → NoneOf m rest
    → NoneOf m (item_of_event o ++ rest)
event_none m None rest h = h
event_none m (Some t) rest h = (refl, h)

pub span_none : (m k : ℕ) (o : Option Span) (rest : List Item) → k < m → NoneOf m rest
    → NoneOf m (item_of_span k o ++ rest)
span_none m k None rest lt h = h
span_none m k (Some i) rest lt h = (ne_eqb m k (λ e. omega (arith, e, lt)), h)

pub found_past : (m i : ℕ) (xs : List Item) (x : Item) (rest : List Item) → NoneOf m xs → is_item_of m x ≡ true
    → position_from (is_item_of m) i (xs ++ x ∷ rest) ≡ Some (i + length xs)
found_past m i [] x rest h e = let z : i ≡ i + 0 = omega arith in ap
    (λ b. if b then Some i else position_from (is_item_of m) (i + 1) rest) e ∙ ap (λ k. Some k) z
found_past m i (z ∷ zs) x rest h e =
    let one : i + 1 + length zs ≡ i + suc (length zs) = omega arith in
    ap (λ b. if b then Some i else position_from (is_item_of m) (i + 1) (zs ++ x ∷ rest)) h.0
    ∙ found_past m (i + 1) zs x rest h.1 e ∙ ap (λ k. Some k) one

-- ---- the levels at a later time

-- the interval of a level, with the part that runs inside it
pub record SpanAt (y : Split) (n : ℕ) (inner : List Part) (outside : List ℕ) (l : Place) : Type 0 where
  pub span : Span
  pub there : slice_get y.spans l.interval ≡ Some span
  pub block_is : span.block ≡ l.block
  pub round_is : span.round ≡ outside
  pub more : List Part
  pub parts_are : span.parts ≡ l.parts ++ (inner ++ more)
  pub below : AreBelow n l.parts

abbrev pub AllAt : Split → ℕ → List Part → List Place → Type 0
AllAt y n inner [] = ⊤
AllAt y n inner (l ∷ ls) = SpanAt y n inner (numbers ls) l × AllAt y l.interval (nested l.interval ∷ []) ls

all_at : (x y : Split) → IsLater x y → (n : ℕ) (inner : List Part) (ls : List Place) → AreLevels x.spans n inner ls
    → AllAt y n inner ls
all_at x y later n inner [] h = tt
all_at x y later n inner (l ∷ ls) h =
    let g = later.spans l.interval h.0.span h.0.there in (
      record {
        span = g.0;
        there = g.1;
        block_is = g.2.block ∙ h.0.block_is;
        round_is = g.2.round ∙ h.0.round_is;
        more = g.2.more;
        parts_are = g.2.parts ∙ ap (λ ps. ps ++ g.2.more) h.0.parts_are ∙ append_assoc l.parts inner g.2.more;
        below = h.0.earlier;
      },
      all_at x y later l.interval (nested l.interval ∷ []) ls h.1,
    )

pub levels_at : (x y : Split) → IsLater x y → (ls : List Place) → StandsIn x ls → AllAt y (length x.spans) [] ls
levels_at x y later ls s = all_at x y later (length x.spans) [] ls s.levels

module _ (program : Program) (plan : Plan) (y : Split) (whole : AreWhole y) where
  -- ---- items by signs

  -- each part is an item
  abbrev pub AreItems : List Part → Type 0
  AreItems ps = length (flat_map (item_of y) ps) ≡ length ps

  one_item : (q : Part) (ps : List Part) → AreItems (q ∷ ps) → length (flat_map (item_of y) (q ∷ [])) ≡ 1
  one_item q ps h = first_whole y (q ∷ []) ps h

  sign_of : (n : ℕ) (o : Option TracedEvent) (t : TracedEvent) → o ≡ Some t → item_of_event o ≡ item.Own t.event ∷ []
  sign_of n o t e = ap item_of_event e

  span_there : (m : ℕ) (o : Option Span) → length (item_of_span m o ++ []) ≡ 1 → (i : Span)
      × (item_of_span m o ≡ item.Nested m i.block i.values (is_some i.closed) ∷ [])
  span_there m None h = absurd (omega (arith, h))
  span_there m (Some i) h = (i, refl)

  rest_items : (q : Part) (ps : List Part) (i : Item) → item_of y q ≡ i ∷ [] → AreItems (q ∷ ps) → AreItems ps
  rest_items q ps i e h =
      let one : length (item_of y q ++ flat_map (item_of y) ps) ≡ suc (length (flat_map (item_of y) ps)) = ap
      (λ xs. length (xs ++ flat_map (item_of y) ps)) e in
      omega (arith, one, h)

  pub tests_match : (frame s : ℕ) (ps : List Part) (qs : List Sign) (t : Tests) → SightIs y.trace.events ps qs
      → AreItems ps
      → fold (test_item program plan frame s) t (flat_map (item_of y) ps) ≡ tests_from program plan frame s t qs
  tests_match frame s [] [] t h w = refl
  tests_match frame s [] (q ∷ qs) t h w = absurd h
  tests_match frame s (own n ∷ ps) [] t h w = absurd h
  tests_match frame s (nested m ∷ ps) [] t h w = absurd h
  tests_match frame s (own n ∷ ps) (None ∷ qs) t h w = absurd h
  tests_match frame s (own n ∷ ps) (Some q ∷ qs) t h w =
      let is : item_of y (own n) ≡ item.Own q.1 ∷ [] = sign_of n (slice_get y.trace.events n) h.0.1.traced h.0.1.there
      ∙ ap (λ e. item.Own e ∷ []) h.0.1.event_is in
      ap (λ xs. fold (test_item program plan frame s) t (xs ++ flat_map (item_of y) ps)) is
      ∙ tests_match frame s ps qs (record { next = t.next + 1; found = test_event program plan frame s q.1 t }) h.1
      (rest_items (own n) ps (item.Own q.1) is w)
  tests_match frame s (nested m ∷ ps) (None ∷ qs) t h w =
      let is = span_there m (slice_get y.spans m) (one_item (nested m) ps w) in
      ap (λ xs. fold (test_item program plan frame s) t (xs ++ flat_map (item_of y) ps)) is.1
      ∙ tests_match frame s ps qs (record t { next = t.next + 1 }) h
      (rest_items (nested m) ps (item.Nested m is.0.block is.0.values (is_some is.0.closed)) is.1 w)
  tests_match frame s (nested m ∷ ps) (Some q ∷ qs) t h w = absurd h

  snoc : (xs : List Item) (i : Item) (rest : List Item) → xs ++ (i ∷ rest) ≡ (xs ++ i ∷ []) ++ rest
  snoc xs i rest = sym (append_assoc xs (i ∷ []) rest)

  -- the call that goes on after some more
  pub leaf_match : (xs : List Item) (t : ℕ × Option LeafCall) (ps : List Part) (qs : List Sign)
      → leaf_at program plan xs ≡ t.1 → length xs ≡ t.0 → SightIs y.trace.events ps qs → AreItems ps
      → leaf_at program plan (xs ++ flat_map (item_of y) ps) ≡ (leaf_from program plan t qs).1
  leaf_match xs t [] [] e l h w = ap (leaf_at program plan) (append-nil xs) ∙ e
  leaf_match xs t [] (q ∷ qs) e l h w = absurd h
  leaf_match xs t (own n ∷ ps) [] e l h w = absurd h
  leaf_match xs t (nested m ∷ ps) [] e l h w = absurd h
  leaf_match xs t (own n ∷ ps) (None ∷ qs) e l h w = absurd h
  leaf_match xs t (own n ∷ ps) (Some q ∷ qs) e l h w =
      let is : item_of y (own n) ≡ item.Own q.1 ∷ [] = sign_of n (slice_get y.trace.events n) h.0.1.traced h.0.1.there
      ∙ ap (λ e. item.Own e ∷ []) h.0.1.event_is in
      ap (λ zs. leaf_at program plan (xs ++ (zs ++ flat_map (item_of y) ps))) is
      ∙ ap (leaf_at program plan) (snoc xs (item.Own q.1) (flat_map (item_of y) ps))
      ∙ leaf_match (xs ++ item.Own q.1 ∷ []) (t.0 + 1, leaf_after program plan t.0 q.1 t.1) ps qs
      (leaf_own program plan xs q.1 ∙ ap (λ k. leaf_after program plan k q.1 (leaf_at program plan xs)) l
      ∙ ap (leaf_after program plan t.0 q.1) e)
      (longer xs (item.Own q.1) ∙ ap (λ k. k + 1) l) h.1 (rest_items (own n) ps (item.Own q.1) is w)
    where
      longer : (xs : List Item) (i : Item) → length (xs ++ i ∷ []) ≡ length xs + 1
      longer [] i = refl
      longer (z ∷ zs) i = (let r : length (zs ++ i ∷ []) ≡ length zs + 1 = longer zs i in omega (arith, r))
  leaf_match xs t (nested m ∷ ps) (None ∷ qs) e l h w =
      let is = span_there m (slice_get y.spans m) (one_item (nested m) ps w) in
      let i : Item = item.Nested m is.0.block is.0.values (is_some is.0.closed) in
      ap (λ zs. leaf_at program plan (xs ++ (zs ++ flat_map (item_of y) ps))) is.1
      ∙ ap (leaf_at program plan) (snoc xs i (flat_map (item_of y) ps))
      ∙ leaf_match (xs ++ i ∷ []) (t.0 + 1, t.1) ps qs
      (leaf_past program plan xs m is.0.block is.0.values (is_some is.0.closed) ∙ e)
      (longer xs i ∙ ap (λ k. k + 1) l) h (rest_items (nested m) ps i is.1 w)
    where
      longer : (xs : List Item) (i : Item) → length (xs ++ i ∷ []) ≡ length xs + 1
      longer [] i = refl
      longer (z ∷ zs) i = (let r : length (zs ++ i ∷ []) ≡ length zs + 1 = longer zs i in omega (arith, r))
  leaf_match xs t (nested m ∷ ps) (Some q ∷ qs) e l h w = absurd h
