-- The search at the place at which a process stands finds what the search over its running intervals finds.
use Rattle.law_flow.proofs.Control.Levels.{Run}
use Rattle.law_flow.proofs.Control.Searching.{AllAt, SpanAt, event_none, found_past, leaf_match, span_none, tests_match}
use Rattle.law_flow.proofs.Control.Seen.{AreSeen, SightIs, sight_length}
use Rattle.law_flow.proofs.Control.Sides.{above_over, among_over, begun_by, control_over, found_over, round_over}
use Rattle.law_flow.proofs.Control.Sights.{Sign, leaf_over, tests_over}
use Rattle.law_flow.proofs.Places.Scans.{nested_item}
use Rattle.law_flow.proofs.Places.Whole.{AreWhole, first_items, first_whole}
use Rattle.law_flow.specs.Places.Levels.{AreBelow, Level as Place, numbers}
use Rattle.ppd_ast.specs.Lookups.{kind_of}
use Rattle.ppd_ast.specs.declared.plan.BlockKind.{BlockKind}
use Rattle.ppd_ast.specs.declared.plan.BlockKind.TheVariants as block
use Rattle.ppd_ast.specs.declared.plan.Plan.{Plan}
use Rattle.ppd_ast.specs.declared.plan.Policy.{Policy}
use Rattle.ppd_ast.specs.declared.program.Program.{Program}
use Rattle.ppd_blocks.specs.Blocks.{plan_of}
use Rattle.ppd_graph.specs.Control.{Tests, begun_tests, call_or_entry, control_above, control_among, control_in, control_origin, control_outside, last_test, leaf_call_at, test_of_run, test_round}
use Rattle.ppd_graph.specs.Locals.{frame_in, leaf_at}
use Rattle.ppd_graph.specs.Seen.{call_of, first_or, is_item_of, kind_at, outer_of, outer_place, place_of, seen_of}
use Rattle.ppd_graph.specs.declared.leaf_call.LeafCall.{LeafCall}
use Rattle.ppd_model.proofs.Lists.{get_mapped}
use Rattle.ppd_model.specs.Intervals.{Part, Span, Split, item_of, items_of, nested, own}
use Rattle.ppd_model.specs.declared.flow.Item.{Item}
use Rattle.ppd_model.specs.declared.flow.Item.TheVariants as item
use Rattle.ppd_model.specs.declared.flow.Origin.TheVariants as origin
use Rattle.ppd_sem.specs.Blocks.{block_kind}
use Rattle.std.proofs.Common.{List, None, Option, Some, [], ap, append-nil, arith, eq-eqb, false, length, refl, subst, sym, ℕ, ◌++◌, ◌+◌, ◌-◌, ◌∙◌, ◌∷◌, ◌≡◌}
use Rattle.std.proofs.lemmas.Iterator.Adapters.{position_from-zero}
use Rattle.std.proofs.lemmas.List.{take_at}
use Rattle.std.proofs.lemmas.List.Concat.{flat_map-append}
use Rattle.std.specs.List.{AllByRecursion as Each, flat_map, position_from}
use Rattle.std.specs.Option.{option_or}
use Rattle.std.specs.Prelude.{get_or, is_some, option_and_then, option_map, slice_get, take, unwrap_or, ⊤}

-- the outermost run is the process's
abbrev pub EndsInProcess : List Run → Type 0
EndsInProcess [] = ⊤
EndsInProcess (r ∷ []) = (b : ℕ) × (r.kind ≡ block.Process b)
EndsInProcess (r ∷ q ∷ rs) = EndsInProcess (q ∷ rs)

module _ (program : Program) (policy : Policy) (p : ℕ) (y : Split) (whole : AreWhole y) where
  abbrev plan : Plan
  plan = plan_of program policy

  -- ---- one interval

  module _ (n : ℕ) (inner : List Part) (outside : List ℕ) (l : Place) (at : SpanAt y n inner outside l) where
    all_items : length (flat_map (item_of y) (l.parts ++ (inner ++ at.more))) ≡ length (l.parts ++ (inner ++ at.more))
    all_items = subst (λ ps. length (flat_map (item_of y) ps) ≡ length ps) at.parts_are
        (whole l.interval at.span at.there)

    own_items : length (flat_map (item_of y) l.parts) ≡ length l.parts
    own_items = first_whole y l.parts (inner ++ at.more) all_items

    items_are : get_or (seen_of y).items l.interval [] ≡ flat_map (item_of y) (l.parts ++ (inner ++ at.more))
    items_are = get_mapped (items_of y) y.spans l.interval [] at.span at.there ∙ ap (flat_map (item_of y)) at.parts_are

    first_ones : take (length l.parts) (get_or (seen_of y).items l.interval []) ≡ flat_map (item_of y) l.parts
    first_ones = ap (take (length l.parts)) items_are ∙ first_items y l.parts (inner ++ at.more) all_items

    kind_is : kind_at plan (seen_of y) l.interval ≡ block_kind plan l.block
    kind_is = ap (block_kind plan) (get_mapped (λ (i : Span). i.block) y.spans l.interval 0 at.span at.there
        ∙ at.block_is)

    module _ (k st : ℕ) (sight : List Sign) (is : SightIs y.trace.events l.parts sight) where
      test_is : (frame s : ℕ) → last_test program plan frame s
          (flat_map (item_of y) l.parts) ≡ tests_over program plan frame s sight
      test_is frame s = ap (λ (t : Tests). t.found)
          (tests_match program plan y whole frame s l.parts sight begun_tests is own_items)

      round_is : (frame : ℕ) (parent : Option ℕ)
          → test_round program plan p k frame
          (flat_map (item_of y) l.parts) parent ≡ round_over program policy p k frame sight parent
      round_is frame None = refl
      round_is frame (Some s) = ap (option_map (λ t. origin.Item p k t.item)) (test_is frame s)

      leaf_is : leaf_at program plan (flat_map (item_of y) l.parts) ≡ leaf_over program plan sight
      leaf_is = leaf_match program plan y whole [] (0, None) l.parts sight refl refl is own_items

      among_is : (call : Option LeafCall)
          → control_among program plan p k st
          (flat_map (item_of y) l.parts) call ≡ among_over program policy p k st sight call
      among_is call =
          ap (λ t. option_or (test_of_run p k (kind_of program st) t)
          (option_or (test_round program plan p k (frame_in call) (flat_map (item_of y) l.parts)
          (option_and_then (λ x. x.parent) (slice_get program.stmts st))) (leaf_call_at p k call))) (test_is (frame_in call) st)
          ∙ ap (λ r. option_or (test_of_run p k (kind_of program st) (tests_over program plan (frame_in call) st sight))
          (option_or r (leaf_call_at p k call))) (round_is (frame_in call) (option_and_then (λ x. x.parent) (slice_get program.stmts st)))

      pub found_is : control_among program plan p k st (take (length l.parts) (get_or (seen_of y).items l.interval []))
          (leaf_at program plan (take (length l.parts) (get_or (seen_of y).items l.interval []))) ≡ found_over program policy
          p k st sight
      found_is =
          ap (λ xs. control_among program plan p k st xs (leaf_at program plan xs)) first_ones
          ∙ among_is (leaf_at program plan (flat_map (item_of y) l.parts))
          ∙ ap (among_over program policy p k st sight) leaf_is

  -- ---- where an interval stands in the one round it

  none_among : (m : ℕ) (ps : List Part) → AreBelow m ps
      → Each (λ (x : Item). is_item_of m x ≡ false) (flat_map (item_of y) ps)
  none_among m [] h = tt
  none_among m (own n ∷ ps) h = event_none m (slice_get y.trace.events n) (flat_map (item_of y) ps) (none_among m ps h)
  none_among m (nested k ∷ ps) h = span_none m k (slice_get y.spans k) (flat_map (item_of y) ps) h.0
      (none_among m ps h.1)

  place_is : (m : ℕ) (o : Place) (outside : List ℕ) (i : Span) → slice_get y.spans m ≡ Some i
      → (out : SpanAt y m (nested m ∷ []) outside o) → place_of m (get_or (seen_of y).items o.interval []) ≡ length o.parts
  place_is m o outside i at out =
      let split : flat_map (item_of y) (o.parts ++ nested m ∷ out.more) ≡ flat_map
      (item_of y) o.parts ++ (item.Nested m i.block i.values (is_some i.closed) ∷ flat_map (item_of y) out.more) =
      flat_map-append (item_of y) o.parts (nested m ∷ out.more)
      ∙ ap (λ xs. flat_map (item_of y) o.parts ++ (xs ++ flat_map (item_of y) out.more)) (nested_item y m i at) in
      let counted : length (flat_map (item_of y) o.parts) ≡ length o.parts = own_items m
      (nested m ∷ []) outside o out in
      let z : 0 + length (flat_map (item_of y) o.parts) ≡ length o.parts = omega (arith, counted) in
      ap (λ r. unwrap_or r 0)
      (position_from-zero (is_item_of m) (get_or (seen_of y).items o.interval [])
      ∙ ap (position_from (is_item_of m) 0) (items_are m (nested m ∷ []) outside o out ∙ split)
      ∙ found_past m 0 (flat_map (item_of y) o.parts) (item.Nested m i.block i.values (is_some i.closed))
      (flat_map (item_of y) out.more) (none_among m o.parts out.below) (eq-eqb m m refl)
      ∙ ap (λ k. Some k) z)

  module _ (n : ℕ) (inner : List Part) (l : Place) (ls : List Place) (at : SpanAt y n inner (numbers ls) l) where
    outer_is : outer_of (seen_of y) l.interval ≡ first_or l.interval (numbers ls)
    outer_is = ap (first_or l.interval)
        (get_mapped (λ (i : Span). i.round) y.spans l.interval [] at.span at.there ∙ at.round_is)

  module _ (n : ℕ) (inner : List Part) (l o : Place) (os : List Place) (at : SpanAt y n inner (numbers (o ∷ os)) l)
      (out : SpanAt y l.interval (nested l.interval ∷ []) (numbers os) o) where
    outer_place_is : outer_place (seen_of y) l.interval ≡ length o.parts
    outer_place_is = ap (λ k. place_of l.interval (get_or (seen_of y).items k [])) (outer_is n inner l (o ∷ os) at)
        ∙ place_is l.interval o (numbers os) at.span at.there out

    call_is : (call_of (seen_of y) p l.interval).found ≡ origin.Item p o.interval (length o.parts - 1)
    call_is = ap (λ k. origin.Item p k (outer_place (seen_of y) l.interval - 1)) (outer_is n inner l (o ∷ os) at)
        ∙ ap (λ j. origin.Item p o.interval (j - 1)) outer_place_is

  -- ---- what began an interval

  begun_is : (n : ℕ) (inner : List Part) (signs : List Sign) (l : Place) (ls : List Place) (r : Run) (rs : List Run)
      → AllAt y n inner (l ∷ ls) → AreSeen plan y.trace.events signs (l ∷ ls) (r ∷ rs) → EndsInProcess (r ∷ rs)
      → (kind : BlockKind) → r.kind ≡ kind
      → (call_or_entry (seen_of y) p l.interval kind).found ≡ begun_by program policy p r rs kind
  begun_is n inner signs l [] r [] at seen ends (block.Function f) e = absurd (not_process f ends.0 (sym e ∙ ends.1))
    where
      not_process : (f b : ℕ) → block.Function f ≡ block.Process b → ⊥
      not_process f b e = absurd (cc)
  begun_is n inner signs l [] r (q ∷ rs) at seen ends (block.Function f) e = absurd seen.1
  begun_is n inner signs l (o ∷ os) r [] at seen ends (block.Function f) e = absurd seen.1
  begun_is n inner signs l (o ∷ os) r (q ∷ rs) at seen ends (block.Function f) e =
      call_is n inner l o os at.0 at.1.0
      ∙ ap (λ k. origin.Item p k (length o.parts - 1)) (sym seen.1.0.number_is)
      ∙ ap (λ j. origin.Item p q.number (j - 1)) (sym seen.0.place_is)
  begun_is n inner signs l ls r rs at seen ends (block.Process b) e = refl
  begun_is n inner signs l ls r rs at seen ends (block.Loop m) e = refl

  -- ---- above an interval

  above_is : (n : ℕ) (inner : List Part) (signs : List Sign) (l : Place) (ls : List Place) (r : Run) (rs : List Run)
      → AllAt y n inner (l ∷ ls) → AreSeen plan y.trace.events signs (l ∷ ls) (r ∷ rs) → EndsInProcess (r ∷ rs)
      → (kind : BlockKind) → r.kind ≡ kind
      → (control_above program plan (seen_of y) p l.interval kind).found ≡ above_over program policy p r rs kind
  above_is n inner signs l [] r [] at seen ends (block.Loop m) e = absurd (not_process m ends.0 (sym e ∙ ends.1))
    where
      not_process : (f b : ℕ) → block.Loop f ≡ block.Process b → ⊥
      not_process f b e = absurd (cc)
  above_is n inner signs l [] r (q ∷ rs) at seen ends (block.Loop m) e = absurd seen.1
  above_is n inner signs l (o ∷ os) r [] at seen ends (block.Loop m) e = absurd seen.1
  above_is n inner signs l (o ∷ os) r (q ∷ rs) at seen ends (block.Loop m) e =
      let sight : List Sign = seen.1.0.sight in
      let outer : outer_of (seen_of y) l.interval ≡ o.interval = outer_is n inner l (o ∷ os) at.0 in
      let place : outer_place (seen_of y) l.interval ≡ length o.parts = outer_place_is n inner l o os at.0 at.1.0 in
      let inside : control_in program plan (seen_of y) p o.interval
      (length o.parts) m ≡ found_over program policy p o.interval m sight = found_is l.interval
      (nested l.interval ∷ []) (numbers os) o at.1.0 o.interval m sight seen.1.0.is in
      let cut : take r.place q.sight ≡ sight =
      ap (take r.place) seen.1.0.sight_is
      ∙ take_at sight (None ∷ []) r.place
      (sight_length y.trace.events o.parts sight seen.1.0.is ∙ sym seen.0.place_is) in
      let kind : kind_at plan (seen_of y) o.interval ≡ q.kind = kind_is l.interval (nested l.interval ∷ [])
      (numbers os) o at.1.0 ∙ sym seen.1.0.kind_is in
      ap (λ k. (control_outside program plan (seen_of y) p k (outer_place (seen_of y) l.interval) m).found) outer
      ∙ ap (λ j. (control_outside program plan (seen_of y) p o.interval j m).found) place
      ∙ ap (λ f. unwrap_or f (call_or_entry (seen_of y) p o.interval (kind_at plan (seen_of y) o.interval)).found) inside
      ∙ ap (λ b. unwrap_or (found_over program policy p o.interval m sight) (call_or_entry (seen_of y) p o.interval b).found)
      kind
      ∙ ap (λ c. unwrap_or (found_over program policy p o.interval m sight) c)
      (begun_is l.interval (nested l.interval ∷ []) (None ∷ []) o os q rs at.1 seen.1 ends q.kind refl)
      ∙ ap (λ k. unwrap_or (found_over program policy p k m sight) (begun_by program policy p q rs q.kind))
      (sym seen.1.0.number_is)
      ∙ ap (λ ss. unwrap_or (found_over program policy p q.number m ss) (begun_by program policy p q rs q.kind))
      (sym cut)
  above_is n inner signs l ls r rs at seen ends (block.Function f) e = begun_is n inner signs l ls r rs at seen ends
      (block.Function f) e
  above_is n inner signs l ls r rs at seen ends (block.Process b) e = refl

  -- ---- the whole search

  pub control_is : (n : ℕ) (l : Place) (ls : List Place) (r : Run) (rs : List Run) → AllAt y n [] (l ∷ ls)
      → AreSeen plan y.trace.events [] (l ∷ ls) (r ∷ rs) → EndsInProcess (r ∷ rs) → (st : ℕ)
      → (control_origin program plan (seen_of y) p l.interval (length l.parts) st).found ≡ control_over program policy p
      (r ∷ rs) st
  control_is n l ls r rs at seen ends st =
      let sight : List Sign = seen.0.sight in
      let kind : kind_at plan (seen_of y) l.interval ≡ r.kind = kind_is n [] (numbers ls) l at.0
      ∙ sym seen.0.kind_is in
      let same : sight ≡ r.sight = sym (seen.0.sight_is ∙ append-nil sight) in
      ap (λ f. unwrap_or f (control_above program plan (seen_of y) p l.interval (kind_at plan (seen_of y) l.interval)).found)
      (found_is n [] (numbers ls) l at.0 l.interval st sight seen.0.is)
      ∙ ap (λ b. unwrap_or (found_over program policy p l.interval st sight)
      (control_above program plan (seen_of y) p l.interval b).found) kind
      ∙ ap (λ c. unwrap_or (found_over program policy p l.interval st sight) c)
      (above_is n [] [] l ls r rs at seen ends r.kind refl)
      ∙ ap (λ k. unwrap_or (found_over program policy p k st sight) (above_over program policy p r rs r.kind))
      (sym seen.0.number_is)
      ∙ ap (λ ss. unwrap_or (found_over program policy p r.number st ss) (above_over program policy p r rs r.kind))
      same
