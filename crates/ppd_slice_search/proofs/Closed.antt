-- What an item of a run comes from is an item of the run, so that there are no more levels than items.
use Rattle.ppd_model.specs.Setting.{Setting}
use Rattle.std.proofs.Common.{◌≡◌, ℕ, zero, suc, ◌+◌, ℤ, Bool, true, false, List, [], ◌∷◌, ◌++◌, Option, Some, None, refl, ap, ap₂, sym, subst, ◌∙◌, arith, length, length-append, map, inl, inr, cond}
use Rattle.ppd_sem.specs.declared.event.Spot.TheVariants.{Local}
use Rattle.ppd_sem.specs.declared.event.Spot.{Spot}
use Rattle.ppd_model.specs.declared.flow.EdgeKind.{EdgeKind}
use Rattle.std.specs.Option.{option_map_or}
use Rattle.std.specs.Prelude.{⊤, position, slice_get, sum_by, zip, option_map, unwrap_or}
use Rattle.std.specs.List.{position_from}
use Rattle.std.proofs.lemmas.List.Sums.{sum_by-cons}
use Rattle.std.proofs.lemmas.Option.{none-some}
use Rattle.std.proofs.lemmas.Iterator.Adapters.{position_from-zero}
use Rattle.ppd_ast.specs.declared.plan.BlockKind.{BlockKind}
use Rattle.ppd_ast.specs.declared.plan.BlockKind.TheVariants as block
use Rattle.ppd_ast.specs.declared.plan.Plan.{Plan}
use Rattle.ppd_ast.specs.declared.program.Kind.{Kind}
use Rattle.ppd_ast.specs.declared.program.Kind.TheVariants as kind
use Rattle.ppd_ast.specs.declared.program.Program.{Program}
use Rattle.ppd_ast.specs.Lookups.{kind_of}
use Rattle.ppd_sem.specs.declared.event.Access.{Access}
use Rattle.ppd_sem.specs.Blocks.{block_kind, postlog_cells}
use Rattle.ppd_model.specs.declared.flow.EdgeKind.TheVariants.{Control, Left, Returned}
use Rattle.ppd_model.specs.declared.flow.FlowEdge.{FlowEdge}
use Rattle.ppd_model.specs.declared.flow.Origin.{Origin}
use Rattle.ppd_model.specs.declared.flow.Origin.TheVariants as origin
use Rattle.ppd_model.specs.declared.trace.EventId.{EventId}
use Rattle.ppd_model.specs.declared.trace.TracedEvent.{TracedEvent}
use Rattle.ppd_model.specs.declared.tracing.Story.{Story}
use Rattle.ppd_model.specs.FlowbackEdges.{bare_edge, edges, edges_of_event, edges_of_nested, edges_of_part, part_at, result_edges, sync_edges, value_edges}
use Rattle.ppd_model.proofs.EdgeWords.{edges_if, edges_in, read_edge}
use Rattle.ppd_model.specs.FullTrace.{Tag}
use Rattle.ppd_model.specs.Intervals.{Part, own, nested, Span, Split, is_own, place_in, ref, splits}
use Rattle.ppd_model.proofs.IntervalWords.{item_at, place_or, ref_in}
use Rattle.ppd_slice_search.specs.declared.reached.ItemAt.{ItemAt}
use Rattle.ppd_slice_search.specs.Reach.{IsIn, IsReach, at, place_of, places_of}
use Rattle.ppd_slice_search.specs.OfRuns.{count_items, items_of_process, origins, reach}
use Rattle.ppd_slice_search.proofs.Levels.{in_back, in_both, in_front, levels_reach}

-- ---- all items

abbrev parts_of : ℕ → ℕ → ℕ → List Part → List ItemAt
parts_of p k j [] = []
parts_of p k j (q ∷ ps) = at p k j ∷ parts_of p k (j + 1) ps

abbrev spans_of : ℕ → ℕ → List Span → List ItemAt
spans_of p k [] = []
spans_of p k (i ∷ is) = parts_of p k 0 i.parts ++ spans_of p (k + 1) is

abbrev items_from : ℕ → List Split → List ItemAt
items_from p [] = []
items_from p (x ∷ xs) = spans_of p 0 x.spans ++ items_from (p + 1) xs

count_parts : (p k j : ℕ) (ps : List Part) → length (parts_of p k j ps) ≡ length ps
count_parts p k j [] = refl
count_parts p k j (q ∷ ps) = ap suc (count_parts p k (j + 1) ps)

count_spans : (p k : ℕ) (is : List Span) → length (spans_of p k is) ≡ sum_by (λ i. length i.parts) is
count_spans p k [] = refl
count_spans p k (i ∷ is) = length-append (parts_of p k 0 i.parts) (spans_of p (k + 1) is) ∙ ap₂ (λ a b. a + b) (count_parts p k 0 i.parts) (count_spans p (k + 1) is) ∙ sym (sum_by-cons (λ (j : Span). length j.parts) i is)

count_all : (p : ℕ) (xs : List Split) → length (items_from p xs) ≡ sum_by items_of_process xs
count_all p [] = refl
count_all p (x ∷ xs) = length-append (spans_of p 0 x.spans) (items_from (p + 1) xs) ∙ ap₂ (λ a b. a + b) (count_spans p 0 x.spans) (count_all (p + 1) xs) ∙ sym (sum_by-cons items_of_process x xs)

in_parts : (p k j n : ℕ) (ps : List Part) (q : Part) → slice_get ps n ≡ Some q → IsIn (at p k (j + n)) (parts_of p k j ps)
in_parts p k j n [] q e = absurd (none-some q e)
in_parts p k j zero (r ∷ ps) q e = inl (ap (at p k) (let z : j + 0 ≡ j = omega arith in z))
in_parts p k j (suc n) (r ∷ ps) q e = inr (subst (λ z. IsIn (at p k z) (parts_of p k (j + 1) ps)) (let z : j + 1 + n ≡ j + suc n = omega arith in z) (in_parts p k (j + 1) n ps q e))

in_spans : (p k m n : ℕ) (is : List Span) (i : Span) (q : Part) → slice_get is m ≡ Some i → slice_get i.parts n ≡ Some q → IsIn (at p (k + m) n) (spans_of p k is)
in_spans p k m n [] i q e f = absurd (none-some i e)
in_spans p k zero n (j ∷ is) i q e f =
    let same : j ≡ i = cc in
    let z : k ≡ k + 0 = omega arith in
    let y : 0 + n ≡ n = omega arith in
    in_front (at p (k + 0) n) (parts_of p k 0 j.parts) (spans_of p (k + 1) is)
    (subst (λ a. IsIn (at p a n) (parts_of p k 0 j.parts)) z (subst (λ a. IsIn (at p k a) (parts_of p k 0 j.parts)) y (in_parts p k 0 n j.parts q (ap (λ (s : Span). slice_get s.parts n) same ∙ f))))
in_spans p k (suc m) n (j ∷ is) i q e f =
    in_back (at p (k + suc m) n) (parts_of p k 0 j.parts) (spans_of p (k + 1) is)
    (subst (λ a. IsIn (at p a n) (spans_of p (k + 1) is)) (let z : k + 1 + m ≡ k + suc m = omega arith in z) (in_spans p (k + 1) m n is i q e f))

in_items : (p r m n : ℕ) (xs : List Split) (x : Split) (i : Span) (q : Part) → slice_get xs r ≡ Some x → slice_get x.spans m ≡ Some i → slice_get i.parts n ≡ Some q → IsIn (at (p + r) m n) (items_from p xs)
in_items p r m n [] x i q e f g = absurd (none-some x e)
in_items p zero m n (y ∷ xs) x i q e f g =
    let same : y ≡ x = cc in
    let z : p ≡ p + 0 = omega arith in
    let w : 0 + m ≡ m = omega arith in
    in_front (at (p + 0) m n) (spans_of p 0 y.spans) (items_from (p + 1) xs)
    (subst (λ a. IsIn (at a m n) (spans_of p 0 y.spans)) z (subst (λ a. IsIn (at p a n) (spans_of p 0 y.spans)) w (in_spans p 0 m n y.spans i q (ap (λ (s : Split). slice_get s.spans m) same ∙ f) g)))
in_items p (suc r) m n (y ∷ xs) x i q e f g =
    in_back (at (p + suc r) m n) (spans_of p 0 y.spans) (items_from (p + 1) xs)
    (subst (λ a. IsIn (at a m n) (items_from (p + 1) xs)) (let z : p + 1 + r ≡ p + suc r = omega arith in z) (in_items (p + 1) r m n xs x i q e f g))

-- ---- an origin that is an item is one of them

-- the place of what is found
found_part : (t : Part → Bool) (a j : ℕ) (ps : List Part) → position_from t a ps ≡ Some j → (q : Part) × (n : ℕ) × (slice_get ps n ≡ Some q) × (j ≡ a + n)
found_part t a j [] e = absurd (none-some j e)
found_part t a j (p ∷ ps) e = by (t p) e (found_part t (a + 1) j ps)
  where
    by : (b : Bool) → cond b (Some a) (position_from t (a + 1) ps) ≡ Some j → (position_from t (a + 1) ps ≡ Some j → (q : Part) × (n : ℕ) × (slice_get ps n ≡ Some q) × (j ≡ a + 1 + n)) → (q : Part) × (n : ℕ) × (slice_get (p ∷ ps) n ≡ Some q) × (j ≡ a + n)
    by true f go = let same : a ≡ j = cc in (p, 0, refl, sym same ∙ (let z : a ≡ a + 0 = omega arith in z))
    by false f go = let r = go f in (r.0, suc r.1, r.2, r.3 ∙ (let z : a + 1 + r.1 ≡ a + suc r.1 = omega arith in z))

record IsPlace (k : ℕ) (spans : List Span) (place : ℕ × ℕ) : Type 0 where
  span : Span
  number : ℕ
  there : slice_get spans number ≡ Some span
  number_is : place.0 ≡ k + number
  part : Part
  part_is : slice_get span.parts place.1 ≡ Some part

place_found : (n k : ℕ) (spans : List Span) (place : ℕ × ℕ) → place_in n k spans ≡ Some place → IsPlace k spans place
place_found n k [] place e = absurd (none-some place e)
place_found n k (i ∷ is) place e = by (position (is_own n) i.parts) refl e (place_found n (k + 1) is place)
  where
    by : (o : Option ℕ) → position (is_own n) i.parts ≡ o → place_or k o (place_in n (k + 1) is) ≡ Some place → (place_in n (k + 1) is ≡ Some place → IsPlace (k + 1) is place) → IsPlace k (i ∷ is) place
    by (Some j) f g go =
        let same : (k, j) ≡ place = cc in
        let r = found_part (is_own n) 0 j i.parts (sym (position_from-zero (is_own n) i.parts) ∙ f) in
        let z : j ≡ r.1 = r.3 ∙ (let y : 0 + r.1 ≡ r.1 = omega arith in y) in
        record {
          span = i;
          number = 0;
          there = refl;
          number_is = sym (ap (λ (x : ℕ × ℕ). x.0) same) ∙ (let y : k ≡ k + 0 = omega arith in y);
          part = r.0;
          part_is = ap (slice_get i.parts) (sym (ap (λ (x : ℕ × ℕ). x.1) same) ∙ z) ∙ r.2;
        }
    by None f g go =
        let r : IsPlace (k + 1) is place = go g in
        record {
          span = r.span;
          number = suc r.number;
          there = r.there;
          number_is = r.number_is ∙ (let y : k + 1 + r.number ≡ k + suc r.number = omega arith in y);
          part = r.part;
          part_is = r.part_is;
        }

module _ (xs : List Split) where
  -- what it is of the origin is an item
  abbrev IsGood : Origin → Type 0
  IsGood o = (c : ItemAt) → IsIn c (place_of o) → IsIn c (items_from 0 xs)

  good_none : IsGood origin.Initial
  good_none c m = absurd m

  good_place : (p : ℕ) (x : Split) → slice_get xs p ≡ Some x → (n : ℕ) (o : Option (ℕ × ℕ)) → place_in n 0 x.spans ≡ o → IsGood (item_at p o)
  good_place p x e n None f c m = absurd m
  good_place p x e n (Some place) f c (inr m) = absurd m
  good_place p x e n (Some place) f c (inl same) =
      let r : IsPlace 0 x.spans place = place_found n 0 x.spans place f in
      let number : r.number ≡ place.0 = sym (r.number_is ∙ (let z : 0 + r.number ≡ r.number = omega arith in z)) in
      let z : 0 + p ≡ p = omega arith in
      subst (λ a. IsIn a (items_from 0 xs)) (sym same)
      (subst (λ a. IsIn (at p a place.1) (items_from 0 xs)) number
      (subst (λ a. IsIn (at a r.number place.1) (items_from 0 xs)) z (in_items 0 p r.number place.1 xs x r.span r.part e r.there r.part_is)))

  good_ref : (e : EventId) → IsGood (ref xs e)
  good_ref e = by (slice_get xs e.process) refl
    where
      by : (o : Option Split) → slice_get xs e.process ≡ o → IsGood (ref_in e o)
      by None f = λ c m. absurd m
      by (Some x) f = good_place e.process x f e.number (place_in e.number 0 x.spans) refl

  good_writer : (w : Tag) → IsGood (option_map_or (ref xs) w origin.Initial)
  good_writer None = good_none
  good_writer (Some e) = good_ref e

  good_parent : (o : Option EventId) → IsGood (option_map_or (ref xs) o origin.Entry)
  good_parent None = λ c m. absurd m
  good_parent (Some e) = good_ref e

  abbrev AreGood : List FlowEdge → Type 0
  AreGood [] = ⊤
  AreGood (e ∷ es) = IsGood e.from × AreGood es

  both_good : (es fs : List FlowEdge) → AreGood es → AreGood fs → AreGood (es ++ fs)
  both_good [] fs a b = b
  both_good (e ∷ es) fs a b = (a.0, both_good es fs a.1 b)

  reads_good : (rs : List (Access × Tag)) → AreGood (map (read_edge xs) rs)
  reads_good [] = tt
  reads_good (r ∷ rs) = (good_writer r.1, reads_good rs)

  syncs_good : (k : Kind) (o : Option EventId) → AreGood (sync_edges xs k o)
  syncs_good k (Some e) = (good_ref e, tt)
  syncs_good (kind.P s) None = (good_none, tt)
  syncs_good k None = tt

  values_good : (kind : EdgeKind) (ss : List (Option Spot)) (vs : List ℤ) (ws : List Tag) → AreGood (value_edges xs kind ss vs ws)
  values_good kind (s ∷ ss) (v ∷ vs) (w ∷ ws) = (good_writer w, values_good kind ss vs ws)
  values_good kind [] vs ws = tt
  values_good kind (s ∷ ss) [] ws = tt
  values_good kind (s ∷ ss) (v ∷ vs) [] = tt

  results_good : (plan : Plan) (k : BlockKind) (i : Span) → AreGood (result_edges plan xs k i)
  results_good plan (block.Loop s) i = values_good Left (map (λ c. Some (Local i.frame c)) (postlog_cells plan i.block)) i.values i.left
  results_good plan k i = values_good Returned (None ∷ []) i.values i.left

  event_good : (program : Program) (e : TracedEvent) → AreGood (edges_of_event program xs e)
  event_good program e =
      both_good (map (read_edge xs) (zip e.event.reads e.writers) ++ sync_edges xs (kind_of program e.event.stmt) e.paired) (bare_edge Control (option_map_or (ref xs) e.parent origin.Entry) ∷ [])
      (both_good (map (read_edge xs) (zip e.event.reads e.writers)) (sync_edges xs (kind_of program e.event.stmt) e.paired) (reads_good (zip e.event.reads e.writers)) (syncs_good (kind_of program e.event.stmt) e.paired))
      (good_parent e.parent, tt)

  nested_good : (plan : Plan) (i : Span) → AreGood (edges_of_nested plan xs i)
  nested_good plan i = both_good (result_edges plan xs (block_kind plan i.block) i) (bare_edge Control (option_map_or (ref xs) i.control origin.Entry) ∷ []) (results_good plan (block_kind plan i.block) i) (good_parent i.control, tt)

  abbrev AreGoodIf : Option (List FlowEdge) → Type 0
  AreGoodIf None = ⊤
  AreGoodIf (Some es) = AreGood es

  part_good : (program : Program) (plan : Plan) (x : Split) (p : Part) → AreGoodIf (edges_of_part program plan xs x p)
  part_good program plan x (own n) = by (slice_get x.trace.events n)
    where
      by : (o : Option TracedEvent) → AreGoodIf (option_map (edges_of_event program xs) o)
      by None = tt
      by (Some e) = event_good program e
  part_good program plan x (nested m) = by (slice_get x.spans m)
    where
      by : (o : Option Span) → AreGoodIf (option_map (edges_of_nested plan xs) o)
      by None = tt
      by (Some i) = nested_good plan i

  if_good : (program : Program) (plan : Plan) (x : Split) (o : Option Part) → AreGoodIf (edges_if program plan xs x o)
  if_good program plan x None = tt
  if_good program plan x (Some p) = part_good program plan x p

  in_good : (program : Program) (plan : Plan) (k j : ℕ) (o : Option Split) → AreGoodIf (edges_in program plan xs k j o)
  in_good program plan k j None = tt
  in_good program plan k j (Some x) = if_good program plan x (part_at x k j)

  places_good : (es : List FlowEdge) → AreGood es → (c : ItemAt) → IsIn c (places_of es) → IsIn c (items_from 0 xs)
  places_good [] h c m = absurd m
  places_good (e ∷ es) h c m = elim (in_both c (place_of e.from) (places_of es) m) [ inl k ↦ h.0 c k | inr k ↦ places_good es h.1 c k ]

  origins_good : (o : Option (List FlowEdge)) → AreGoodIf o → (c : ItemAt) → IsIn c (places_of (unwrap_or o [])) → IsIn c (items_from 0 xs)
  origins_good None h c m = absurd m
  origins_good (Some es) h c m = places_good es h c m

-- ---- the slice of an item that is there

pub reach_is_slice : (setting : Setting) (story : Story) (p k j : ℕ) (x : Split) (i : Span) (q : Part)
    → slice_get (splits setting story) p ≡ Some x → slice_get x.spans k ≡ Some i → slice_get i.parts j ≡ Some q
    → IsReach (origins setting story) (at p k j) (reach setting story p k j)
reach_is_slice setting story p k j x i q e f g =
    let all : List ItemAt = items_from 0 (splits setting story) in
    let z : 0 + p ≡ p = omega arith in
    let count : length (items_from 0 (splits setting story)) ≡ count_items setting story = count_all 0 (splits setting story) in
    levels_reach (origins setting story) (items_from 0 (splits setting story)) (at p k j) (count_items setting story + 1)
    (subst (λ a. IsIn (at a k j) (items_from 0 (splits setting story))) z (in_items 0 p k j (splits setting story) x i q e f g))
    (λ b c m n. origins_good (splits setting story) (edges setting story b.process b.interval b.item)
    (in_good (splits setting story) setting.program setting.plan b.interval b.item (slice_get (splits setting story) b.process)) c n)
    (omega (arith, count))
