-- The search within a process: over what it has after a beginning of a schedule it finds of an event what it finds over
-- what it has at the end.
use Rattle.law_steps.specs.Policies.{setting_by}
use Rattle.ppd_model.specs.Setting.{setting_of}
use Rattle.std.proofs.Common.{◌≡◌, ℕ, zero, suc, ◌+◌, ◌<◌, List, [], ◌∷◌, ◌++◌, length, Option, Some, None, refl, ap, sym, subst, ◌∙◌, arith}
use Rattle.ppd_model.specs.declared.flow.Origin.TheVariants as origin
use Rattle.std.specs.Option.{option_map_or}
use Rattle.std.proofs.lemmas.Option.{none-some}
use Rattle.std.specs.Prelude.{slice_get, zip, get_or}
use Rattle.ppd_ast.specs.declared.plan.Plan.{Plan}
use Rattle.ppd_ast.specs.declared.plan.Policy.{Policy}
use Rattle.ppd_ast.specs.declared.program.Program.{Program}
use Rattle.ppd_ast.specs.Valid.{IsValid}
use Rattle.ppd_ast.proofs.ValidLaws.{slice_get_below}
use Rattle.ppd_blocks.specs.Blocks.{plan_of}
use Rattle.ppd_sem.specs.declared.event.Access.{Access}
use Rattle.ppd_sem.specs.declared.event.Spot.TheVariants.{Local}
use Rattle.ppd_model.specs.declared.flow.Item.TheVariants as item
use Rattle.ppd_model.specs.declared.trace.TracedEvent.{TracedEvent}
use Rattle.ppd_model.specs.Earlier.{AreEarlier, EachNamesEarlier, IsEarlier, IsEarlierAt, NamesEarlier}
use Rattle.ppd_model.specs.FlowbackEdges.{part_at}
use Rattle.ppd_model.proofs.EdgeWords.{part_in}
use Rattle.ppd_model.specs.FullTrace.{Tag}
use Rattle.ppd_model.specs.Intervals.{own, Span, Split, items_of, splits, ref}
use Rattle.ppd_model.proofs.IntervalWords.{item_of_event}
use Rattle.ppd_model.specs.Items.{HasWholeItems}
use Rattle.ppd_model.specs.Story.{story, told}
use Rattle.ppd_model.proofs.Changes.{some}
use Rattle.ppd_model.proofs.Earlier.{name_earlier}
use Rattle.ppd_model.proofs.Items.{items_whole}
use Rattle.ppd_graph.specs.Control.{control_origin}
use Rattle.ppd_graph.specs.Locals.{local_origin}
use Rattle.ppd_graph.specs.Seen.{seen_of}
use Rattle.law_flow.proofs.Loops.OwnParts.{own_parts}
use Rattle.law_flow.specs.Edges.Assembled.{HasOwnParts}
use Rattle.law_flow.proofs.Edges.Back.Walks.{map_at}
use Rattle.law_flow.proofs.Edges.PartItems.{first_of, item_at, item_if}
use Rattle.law_flow.proofs.Edges.StepEvents.Processes.{Facts, facts}
use Rattle.law_flow.proofs.Edges.StepEvents.Timeline.{did}
use Rattle.law_clean.proofs.Items.{event_kept, part_kept, ref_kept}

-- ---- earlier events

names_at : (p k : ℕ) (es : List TracedEvent) (n : ℕ) (e : TracedEvent) → EachNamesEarlier p k es → slice_get es n ≡ Some e → NamesEarlier p (k + n) e
names_at p k [] n e h f = absurd (none-some e f)
names_at p k (x ∷ es) zero e h f =
    let z : k ≡ k + 0 = omega arith in
    subst (λ m. NamesEarlier p m e) z (subst (NamesEarlier p k) (some f) h.0)
names_at p k (x ∷ es) (suc n) e h f =
    let z : (k + 1) + n ≡ k + suc n = omega arith in
    subst (λ m. NamesEarlier p m e) z (names_at p (k + 1) es n e h.1 f)

tag_at : (p k : ℕ) (as' : List Access) (ws : List Tag) (i : ℕ) (a : Access) (w : Tag) → AreEarlier p k as' ws → slice_get (zip as' ws) i ≡ Some (a, w) → IsEarlierAt p k a.spot w
tag_at p k [] ws i a w h e = absurd (none-some (a, w) e)
tag_at p k (x ∷ xs) [] i a w h e = absurd (none-some (a, w) e)
tag_at p k (x ∷ xs) (y ∷ ys) zero a w h e =
    let one : x ≡ a = ap (λ (o : Option (Access × Tag)). elim o [ None ↦ x | Some z ↦ z.0 ]) e in
    let two : y ≡ w = ap (λ (o : Option (Access × Tag)). elim o [ None ↦ y | Some z ↦ z.1 ]) e in
    subst (λ (z : Access). IsEarlierAt p k z.spot w) one (subst (λ z. IsEarlierAt p k x.spot z) two h.0)
tag_at p k (x ∷ xs) (y ∷ ys) (suc i) a w h e = tag_at p k xs ys i a w h.1 e

-- the item of an event
pub event_at : (z : Split) (xs : List Split) (p k j n : ℕ) (e : TracedEvent) → HasWholeItems xs z p → part_at z k j ≡ Some (own n) → slice_get z.trace.events n ≡ Some e
    → slice_get (get_or (seen_of z).items k []) j ≡ Some (item.Own e.event)
event_at z xs p k j n e w place is = by (slice_get z.spans k) refl place
  where
    by : (o : Option Span) → slice_get z.spans k ≡ o → part_in o j ≡ Some (own n) → slice_get (get_or (seen_of z).items k []) j ≡ Some (item.Own e.event)
    by None there f = absurd (none-some (own n) f)
    by (Some i) there f =
        ap (λ l. slice_get l j) (map_at (items_of z) z.spans k i [] there) ∙ item_at z i.parts j (w.whole k i there)
        ∙ ap (item_if z) f ∙ ap (λ o. first_of (item_of_event o)) is

module _ (program : Program) (policy : Policy) (budget : ℕ) (g rest : List ℕ) (p : ℕ) (v : IsValid program) (x y : Split)
    (at_g : slice_get (splits (setting_by program policy budget) (story (setting_by program policy budget) g)) p ≡ Some x)
    (at : slice_get (splits (setting_by program policy budget) (story (setting_by program policy budget) (g ++ rest))) p ≡ Some y)
    (k j n : ℕ) (place : part_at x k j ≡ Some (own n)) (e : TracedEvent) (is : slice_get x.trace.events n ≡ Some e) where
  abbrev plan : Plan
  plan = plan_of program policy

  abbrev now : List Split
  now = splits (setting_of program plan budget) (story (setting_of program plan budget) g)

  abbrev whole : List Split
  whole = splits (setting_of program plan budget) (story (setting_of program plan budget) (g ++ rest))

  -- the event at the end
  pub later : (f : TracedEvent) × (slice_get y.trace.events n ≡ Some f) × (record f { paired = None } ≡ record e { paired = None })
  later = event_kept program policy budget g rest p v x y at_g at n e is

  abbrev f : TracedEvent
  f = later.0

  lt : n < length x.trace.events
  lt = slice_get_below x.trace.events n e is

  place' : part_at y k j ≡ Some (own n)
  place' = part_kept program policy budget g rest p v x y at_g at k j (own n) place

  -- what names an earlier event names it at one place
  kept : (w : Tag) → IsEarlier p n w → option_map_or (ref now) w origin.Initial ≡ option_map_or (ref whole) w origin.Initial
  kept None h = refl
  kept (Some id) h =
      let below = h.1 in
      let num : id.number < length x.trace.events = (let a : id.number < n = below in let b = lt in omega (arith, a, b)) in
      ap (λ q. option_map_or (ref now) (Some (record { process = q; number = id.number })) origin.Initial) h.0
      ∙ ref_kept program policy budget g rest p v x y at_g at id.number num
      ∙ sym (ap (λ q. option_map_or (ref whole) (Some (record { process = q; number = id.number })) origin.Initial) h.0)

  names : NamesEarlier p n e
  names =
      let fx : Facts (setting_of program plan budget) g v p x = facts (setting_of program plan budget) g v p x at_g in
      let z : 0 + n ≡ n = omega arith in
      subst (λ m. NamesEarlier p m e) z
      (names_at p 0 x.trace.events n e
      (subst (EachNamesEarlier p 0) (sym fx.events_are) (name_earlier (setting_of program plan budget) (story (setting_of program plan budget) g) p (did (told (setting_of program plan budget) g) p))) is)

  parts_g : HasOwnParts program plan now x p k j
  parts_g = own_parts program policy budget g p k j x v at_g

  parts : HasOwnParts program plan whole y p k j
  parts = own_parts program policy budget (g ++ rest) p k j y v at

  -- a local read
  pub local_same : (i frame c : ℕ) (a : Access) (w : Tag) → slice_get (zip e.event.reads e.writers) i ≡ Some (a, w) → a.spot ≡ Local frame c
      → (local_origin program plan (seen_of x) p k j frame c).found ≡ (local_origin program plan (seen_of y) p k j frame c).found
  local_same i frame c a w z spot =
      let early : IsEarlier p n w = subst (λ s. IsEarlierAt p n s w) spot (tag_at p n e.event.reads e.writers i a w names.writers z) in
      parts_g.locals n i frame c e a w place is z spot ∙ kept w early
      ∙ sym (parts.locals n i frame c f a w place' later.1 (ap (λ (t : TracedEvent). slice_get (zip t.event.reads t.writers) i) later.2 ∙ z) spot)

  -- control
  pub control_same : (control_origin program plan (seen_of x) p k j e.event.stmt).found ≡ (control_origin program plan (seen_of y) p k j e.event.stmt).found
  control_same =
      parts_g.control n e place is ∙ parents e.parent names.parent
      ∙ ap (λ o. option_map_or (ref whole) o origin.Entry) (sym (ap (λ (t : TracedEvent). t.parent) later.2))
      ∙ sym (parts.control n f place' later.1)
      ∙ ap (λ (t : TracedEvent). (control_origin program plan (seen_of y) p k j t.event.stmt).found) later.2
    where
      parents : (w : Tag) → IsEarlier p n w → option_map_or (ref now) w origin.Entry ≡ option_map_or (ref whole) w origin.Entry
      parents None h = refl
      parents (Some id) h = kept (Some id) h

  -- the item
  pub item_same : slice_get (get_or (seen_of x).items k []) j ≡ slice_get (get_or (seen_of y).items k []) j
  item_same =
      event_at x now p k j n e (items_whole (setting_of program plan budget) g p x v at_g) place is
      ∙ ap (λ (t : TracedEvent). Some (item.Own t.event)) (sym later.2)
      ∙ sym (event_at y whole p k j n f (items_whole (setting_of program plan budget) (g ++ rest) p y v at) place' later.1)

  pub item_is : slice_get (get_or (seen_of x).items k []) j ≡ Some (item.Own e.event)
  item_is = event_at x now p k j n e (items_whole (setting_of program plan budget) g p x v at_g) place is
