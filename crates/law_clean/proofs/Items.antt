-- What a process has in its intervals after a beginning of a schedule, and at its end: items stay where they are, and
-- events are referred to as before.
use Rattle.law_steps.specs.Policies.{setting_by}
use Rattle.ppd_model.specs.Setting.{setting_of}
use Rattle.law_clean.proofs.CutRuns.{moments_grow}
use Rattle.law_clean.proofs.TwoStories.{IsAlike, bare, splits_alike}
use Rattle.law_flow.proofs.Places.LeafTells.{later_at, split_is}
use Rattle.law_flow.specs.Places.Levels.{IsLater}
use Rattle.law_steps.proofs.OpenBlocks.Told.{own_steps_are}
use Rattle.ppd_ast.proofs.ValidLaws.{slice_get_below, slice_get_there}
use Rattle.ppd_ast.specs.Valid.{IsValid}
use Rattle.ppd_ast.specs.declared.plan.Plan.{Plan}
use Rattle.ppd_ast.specs.declared.plan.Policy.{Policy}
use Rattle.ppd_ast.specs.declared.program.Program.{Program}
use Rattle.ppd_blocks.specs.Blocks.{plan_of}
use Rattle.ppd_model.proofs.CountedOn.{kept_at}
use Rattle.ppd_model.proofs.EdgeWords.{part_in}
use Rattle.ppd_model.proofs.IntervalWords.{item_of_event, item_of_span}
use Rattle.ppd_model.proofs.Items.{items_whole}
use Rattle.ppd_model.proofs.Stories.{steps_append}
use Rattle.ppd_model.specs.FlowbackEdges.{part_at}
use Rattle.ppd_model.specs.Intervals.{Part, Span, Split, begun_split, item_of, nested, own, ref, split_of, splits}
use Rattle.ppd_model.specs.Items.{IsReferred}
use Rattle.ppd_model.specs.Story.{Moment, steps_of, story, told}
use Rattle.ppd_model.specs.declared.flow.Origin.TheVariants as origin
use Rattle.ppd_model.specs.declared.trace.TracedEvent.{TracedEvent}
use Rattle.ppd_model.specs.declared.tracing.Story.{Story}
use Rattle.ppd_sem.specs.Process.{started}
use Rattle.std.proofs.Common.{List, None, Option, Some, [], ap, arith, length, map, refl, subst, suc, sym, true, zero, ℕ, ◌++◌, ◌<◌, ◌∙◌, ◌∷◌, ◌≡◌}
use Rattle.std.proofs.lemmas.Option.{none-some}
use Rattle.std.specs.Prelude.{get_or, is_some, slice_get}

module _ (program : Program) (policy : Policy) (budget : ℕ) (g rest : List ℕ) (p : ℕ) (v : IsValid program) (x y : Split)
    (at_g : slice_get (splits (setting_by program policy budget) (story (setting_by program policy budget) g)) p ≡ Some x)
    (at : slice_get (splits (setting_by program policy budget) (story (setting_by program policy budget) (g ++ rest))) p ≡ Some y) where
  abbrev plan : Plan
  plan = plan_of program policy

  abbrev now : Story
  now = story (setting_of program plan budget) g

  abbrev whole : Story
  whole = story (setting_of program plan budget) (g ++ rest)

  abbrev ms : List Moment
  ms = get_or (told (setting_of program plan budget) g).moments p []

  -- the process after g, with the pairs that the whole story has
  abbrev cut : Split
  cut = split_of (setting_of program plan budget) whole p (steps_of ms)

  pub steps_are : get_or whole.steps p [] ≡ steps_of ms ++ steps_of (moments_grow (setting_of program plan budget) rest g p).0
  steps_are = own_steps_are (setting_of program plan budget) (g ++ rest) p ∙ ap steps_of (moments_grow (setting_of program plan budget) rest g p).1 ∙ steps_append ms (moments_grow (setting_of program plan budget) rest g p).0

  later : IsLater cut y
  later = later_at program policy budget (g ++ rest) p y v at (steps_of ms) (steps_of (moments_grow (setting_of program plan budget) rest g p).0) steps_are

  pub alike : IsAlike cut x
  alike =
      let start : Split = begun_split program plan p (started program plan p budget) in
      subst (IsAlike cut) (ap (λ steps. split_of (setting_of program plan budget) now p steps) (sym (own_steps_are (setting_of program plan budget) g p)) ∙ split_is (setting_of program plan budget) g p x at_g)
      (splits_alike program plan whole now p (steps_of ms) start start (record { events = []; is = refl; alike = refl }))

  pub spans_are : x.spans ≡ cut.spans
  spans_are = ap (λ (z : Split). z.spans) alike.is

  -- a part stays where it is
  pub part_kept : (k j : ℕ) (q : Part) → part_at x k j ≡ Some q → part_at y k j ≡ Some q
  part_kept k j q e = by (slice_get cut.spans k) refl (ap (λ ss. part_in (slice_get ss k) j) (sym spans_are) ∙ e)
    where
      by : (o : Option Span) → slice_get cut.spans k ≡ o → part_in o j ≡ Some q → part_at y k j ≡ Some q
      by None is f = absurd (none-some q f)
      by (Some i) is f =
          let l = later.spans k i is in
          let grown = l.2 in
          ap (λ o. part_in o j) l.1 ∙ ap (λ ps. slice_get ps j) grown.parts ∙ kept_at i.parts grown.more j q f

  -- an interval stays
  pub span_kept : (m : ℕ) (i : Span) → slice_get x.spans m ≡ Some i → (j : Span) × (slice_get y.spans m ≡ Some j)
  span_kept m i is = let l = later.spans m i (ap (λ ss. slice_get ss m) (sym spans_are) ∙ is) in (_, l.1)

  -- an event stays
  pub event_kept : (n : ℕ) (e : TracedEvent) → slice_get x.trace.events n ≡ Some e → (f : TracedEvent) × (slice_get y.trace.events n ≡ Some f) × (bare f ≡ bare e)
  event_kept n e is =
      let here : slice_get alike.events n ≡ Some e = ap (λ (z : Split). slice_get z.trace.events n) (sym alike.is) ∙ is in
      let same = of_bare alike.events cut.trace.events n e (alike.alike) here in
      (same.0, later.events n same.0 same.1, same.2)
    where
      of_bare : (es fs : List TracedEvent) (n : ℕ) (e : TracedEvent) → map bare es ≡ map bare fs → slice_get es n ≡ Some e → (f : TracedEvent) × (slice_get fs n ≡ Some f) × (bare f ≡ bare e)
      of_bare [] fs n e h is = absurd (none-some e is)
      of_bare (a ∷ es) [] n e h is = absurd (nothing (ap length h))
        where
          nothing : {k : ℕ} → suc k ≡ 0 → ⊥
          nothing z = omega (arith, z)
      of_bare (a ∷ es) (b ∷ fs) zero e h is =
          (b, refl, sym (ap (λ (zs : List TracedEvent). elim zs [ [] ↦ bare b | z ∷ rest ↦ z ]) h) ∙ ap (λ (o : Option TracedEvent). elim o [ None ↦ bare a | Some z ↦ bare z ]) is)
      of_bare (a ∷ es) (b ∷ fs) (suc n) e h is = of_bare es fs n e (ap (λ (zs : List TracedEvent). elim zs [ [] ↦ [] | z ∷ rest ↦ rest ]) h) is

  -- and so does an item that is an event, or an interval that was left
  pub event_item : (n : ℕ) (e : TracedEvent) → slice_get x.trace.events n ≡ Some e → item_of y (own n) ≡ item_of x (own n)
  event_item n e is =
      let f = event_kept n e is in
      ap item_of_event f.1 ∙ ap (λ (z : TracedEvent). item_of_event (Some z)) f.2 ∙ sym (ap item_of_event is)

  pub closed_stays : (m : ℕ) (i : Span) → slice_get x.spans m ≡ Some i → is_some i.closed ≡ true → slice_get y.spans m ≡ Some i
  closed_stays m i is closed =
      let l = later.spans m i (ap (λ ss. slice_get ss m) (sym spans_are) ∙ is) in
      let grown = l.2 in
      l.1 ∙ ap (λ (j : Span). Some j) (grown.stays closed)

  pub closed_item : (m : ℕ) (i : Span) → slice_get x.spans m ≡ Some i → is_some i.closed ≡ true → item_of y (nested m) ≡ item_of x (nested m)
  closed_item m i is closed = ap (item_of_span m) (closed_stays m i is closed) ∙ sym (ap (item_of_span m) is)

  -- an event is referred to as before
  pub ref_kept : (n : ℕ) → n < length x.trace.events → ref (splits (setting_of program plan budget) now) (record { process = p; number = n }) ≡ ref (splits (setting_of program plan budget) whole) (record { process = p; number = n })
  ref_kept n lt =
      let e = slice_get_there x.trace.events n lt in
      let f = event_kept n e.0 e.1 in
      let first : IsReferred (splits (setting_of program plan budget) now) x p n = (items_whole (setting_of program plan budget) g p x v at_g).events n lt in
      let second : IsReferred (splits (setting_of program plan budget) whole) y p n = (items_whole (setting_of program plan budget) (g ++ rest) p y v at).events n (slice_get_below y.trace.events n f.0 f.1) in
      let same = second.placed.once first.interval first.item (part_kept first.interval first.item (own n) first.placed.there) in
      first.ref_is ∙ ap (λ k. origin.Item p k first.item) same.0
      ∙ ap (λ j. origin.Item p second.interval j) same.1 ∙ sym second.ref_is
