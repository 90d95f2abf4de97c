-- What is found in the running intervals is where the trace refers to, at the head of each moment.
use Rattle.law_steps.specs.Policies.{setting_by}
use Rattle.ppd_model.specs.Setting.{setting_of}
use Rattle.std.proofs.Common.{◌≡◌, ℕ, zero, suc, ◌<◌, List, [], ◌∷◌, ◌++◌, Option, Some, None, refl, ap, sym, subst, ◌∙◌, length}
use Rattle.std.specs.Option.{option_map_or}
use Rattle.std.specs.Prelude.{⊤, slice_get}
use Rattle.std.proofs.lemmas.Option.{none-some}
use Rattle.ppd_ast.specs.Valid.{IsValid}
use Rattle.ppd_ast.specs.declared.plan.Plan.{Plan}
use Rattle.ppd_ast.specs.declared.plan.Policy.{Policy}
use Rattle.ppd_ast.specs.declared.program.Program.{Program}
use Rattle.ppd_ast.proofs.ValidLaws.{slice_get_below}
use Rattle.ppd_blocks.specs.Blocks.{plan_of}
use Rattle.ppd_sem.specs.declared.event.Event.{Event}
use Rattle.ppd_sem.specs.declared.proc.Todo.{Todo}
use Rattle.ppd_model.specs.declared.flow.Origin.{Origin}
use Rattle.ppd_model.specs.declared.flow.Origin.TheVariants as origin
use Rattle.ppd_model.specs.declared.trace.EventId.{EventId}
use Rattle.ppd_model.specs.declared.trace.TracedEvent.{TracedEvent}
use Rattle.ppd_model.specs.declared.tracing.Activation.{Activation}
use Rattle.ppd_model.specs.declared.tracing.Story.{Story}
use Rattle.ppd_model.specs.FlowbackEdges.{part_at}
use Rattle.ppd_model.specs.FullTrace.{parent_at}
use Rattle.ppd_model.specs.Intervals.{Part, own, nested, Span, Split, ref, splits}
use Rattle.ppd_model.specs.Items.{HasWholeItems, IsReferred}
use Rattle.ppd_model.specs.Story.{story}
use Rattle.ppd_model.proofs.EdgeWords.{part_in}
use Rattle.ppd_model.proofs.Changes.{some}
use Rattle.ppd_model.proofs.Items.{items_whole}
use Rattle.ppd_model.proofs.TestSteps.{views}
use Rattle.ppd_model.proofs.CountedOn.{kept_at}
use Rattle.ppd_graph.specs.Control.{control_origin}
use Rattle.ppd_graph.specs.Seen.{seen_of}
use Rattle.law_flow.specs.Places.Levels.{IsLater, StandsIn, numbers, Level as Place}
use Rattle.law_flow.proofs.Control.Answers.{answers, top_parent}
use Rattle.law_flow.proofs.Control.Levels.{Run, runs_of, views_of}
use Rattle.law_flow.proofs.Control.Located.{EndsInProcess, control_is}
use Rattle.law_flow.proofs.Control.Moments.{Moment}
use Rattle.law_flow.proofs.Control.Searching.{AllAt, SpanAt, levels_at}
use Rattle.law_flow.proofs.Control.Seen.{AreSeen, SightIs, seen_later, sight_at}
use Rattle.law_flow.proofs.Control.Sides.{Answer, control_over}
use Rattle.law_flow.proofs.Control.Sights.{Sign}
use Rattle.law_flow.proofs.Control.Start.{ends_in_process}

-- ---- signs

abbrev OnlyNested : List Sign → Type 0
OnlyNested [] = ⊤
OnlyNested (None ∷ qs) = OnlyNested qs
OnlyNested (Some q ∷ qs) = ⊥

no_event : (qs : List Sign) (j : ℕ) (q : ℕ × Event) → OnlyNested qs → slice_get qs j ≡ Some (Some q) → ⊥
no_event [] j q h e = none-some _ e
no_event (None ∷ qs) zero q h e = none-some _ (some e)
no_event (None ∷ qs) (suc j) q h e = no_event qs j q h e
no_event (Some r ∷ qs) j q h e = h

in_first : (xs qs : List Sign) (j : ℕ) (q : ℕ × Event) → OnlyNested qs → slice_get (xs ++ qs) j ≡ Some (Some q)
    → slice_get xs j ≡ Some (Some q)
in_first [] qs j q h e = absurd (no_event qs j q h e)
in_first (x ∷ xs) qs zero q h e = e
in_first (x ∷ xs) qs (suc j) q h e = in_first xs qs j q h e

sight_traced : (es : List TracedEvent) (ps : List Part) (qs : List Sign) (j : ℕ) (q : ℕ × Event) → SightIs es ps qs
    → slice_get qs j ≡ Some (Some q) → q.0 < length es
sight_traced es [] [] j q s e = absurd (none-some _ e)
sight_traced es [] (r ∷ qs) j q s e = absurd s
sight_traced es (own m ∷ ps) [] j q s e = absurd s
sight_traced es (nested m ∷ ps) [] j q s e = absurd s
sight_traced es (own m ∷ ps) (None ∷ qs) j q s e = absurd s
sight_traced es (own m ∷ ps) (Some r ∷ qs) zero q s e =
    let same : r ≡ q = some (some e) in
    let number : q.0 ≡ m = ap (λ (z : ℕ × Event). z.0) (sym same) ∙ s.0.0 in
    subst (λ i. i < length es) (sym number) (slice_get_below es m s.0.1.traced s.0.1.there)
sight_traced es (own m ∷ ps) (Some r ∷ qs) (suc j) q s e = sight_traced es ps qs j q s.1 e
sight_traced es (nested m ∷ ps) (None ∷ qs) zero q s e = absurd (none-some _ (some e))
sight_traced es (nested m ∷ ps) (None ∷ qs) (suc j) q s e = sight_traced es ps qs j q s e
sight_traced es (nested m ∷ ps) (Some r ∷ qs) j q s e = absurd s

module _ (program : Program) (policy : Policy) (budget : ℕ) (h : List ℕ) (p : ℕ) (y : Split) (v : IsValid program)
    (at : slice_get (splits (setting_by program policy budget) (story (setting_by program policy budget) h))
    p ≡ Some y) where
  abbrev plan : Plan
  plan = plan_of program policy

  abbrev s : Story
  s = story (setting_of program plan budget) h

  abbrev xs : List Split
  xs = splits (setting_of program plan budget) s

  pub all_items : HasWholeItems xs y p
  all_items = items_whole (setting_of program plan budget) h p y v at

  -- ---- where an event is an item

  pub refers : (n k j : ℕ) → n < length y.trace.events → part_at y k j ≡ Some (own n)
      → ref xs (record { process = p; number = n }) ≡ origin.Item p k j
  refers n k j lt part =
      let r : IsReferred xs y p n = all_items.events n lt in
      let same = r.placed.once k j part in
      r.ref_is ∙ ap (λ i. origin.Item p i r.item) (sym same.0) ∙ ap (λ i. origin.Item p k i) (sym same.1)

  pub part_of : (n : ℕ) (inner : List Part) (outside : List ℕ) (l : Place) (j : ℕ) (q : Part)
      → SpanAt y n inner outside l
      → slice_get l.parts j ≡ Some q → part_at y l.interval j ≡ Some q
  part_of n inner outside l j q a e = ap (λ o. part_in o j) a.there ∙ ap (λ ps. slice_get ps j) a.parts_are
      ∙ kept_at l.parts (inner ++ a.more) j q e

  -- an event that a running interval has is an item there
  pub run_at : (i n : ℕ) (inner : List Part) (signs : List Sign) (ls : List Place) (rs : List Run) (q : Run) (j m : ℕ)
      (e : Event) → OnlyNested signs → AllAt y n inner ls → AreSeen plan y.trace.events signs ls rs
      → slice_get rs i ≡ Some q → slice_get q.sight j ≡ Some (Some (m, e)) → (part_at y q.number j ≡ Some (own m))
      × (m < length y.trace.events)
  run_at i n inner signs [] [] q j m e only a seen there event = absurd (none-some q there)
  run_at i n inner signs [] (r ∷ rs) q j m e only a seen there event = absurd seen
  run_at i n inner signs (l ∷ ls) [] q j m e only a seen there event = absurd seen
  run_at zero n inner signs (l ∷ ls) (r ∷ rs) q j m e only a seen there event =
      let same : r ≡ q = some there in
      let sight : List Sign = seen.0.sight in
      let here : slice_get sight j ≡ Some (Some (m, e)) = in_first sight signs j (m, e) only
      (ap (λ ss. slice_get ss j) (sym seen.0.sight_is) ∙ ap (λ (z : Run). slice_get z.sight j) same ∙ event) in
      let number : q.number ≡ l.interval = ap (λ (z : Run). z.number) (sym same) ∙ seen.0.number_is in (
        subst (λ k. part_at y k j ≡ Some (own m)) (sym number)
            (part_of n inner (numbers ls) l j (own m) a.0
            (sight_at y.trace.events l.parts sight j m e seen.0.is here)),
        sight_traced y.trace.events l.parts sight j (m, e) seen.0.is here,
      )
  run_at (suc i) n inner signs (l ∷ ls) (r ∷ rs) q j m e only a seen there event =
      run_at i l.interval (nested l.interval ∷ []) (None ∷ []) ls rs q j m e tt a.1 seen.1 there event

  pub from_answer : (n : ℕ) (ls : List Place) (rs : List Run) (o : Origin) (parent : Option EventId) → AllAt y n [] ls
      → AreSeen plan y.trace.events [] ls rs → Answer program policy p rs o parent → o ≡ option_map_or (ref xs) parent origin.Entry
  from_answer n ls rs o None a seen h = h
  from_answer n ls rs o (Some e) a seen h =
      let found = run_at h.1 n [] [] ls rs h.0 h.3 e.number h.4 tt a seen h.2 h.7 in
      let same : record { process = p; number = e.number } ≡ e = ap
      (λ (i : ℕ). record { process = i; number = e.number }) (sym h.6) in
      h.5 ∙ sym (refers e.number h.0.number h.3 found.1 found.0) ∙ ap (ref xs) same

  -- ---- the head of a moment

  pub same_parent : (t : Todo) (ts : List Todo) (acts : List Activation)
      → top_parent program policy p v t.stmt (views acts) ≡ parent_at program acts (t ∷ ts)
  same_parent t ts [] = refl
  same_parent t ts (a ∷ as') = refl

  abbrev pub Found : ℕ → ℕ → ℕ → Option EventId → Type 0
  Found k j st parent = (control_origin program plan (seen_of y) p k j st).found ≡ option_map_or (ref xs) parent origin.Entry

  pub head_runs : (n : ℕ) (l : Place) (ls : List Place) (rs : List Run) (st : ℕ) (parent : Option EventId)
      → AllAt y n [] (l ∷ ls) → AreSeen plan y.trace.events [] (l ∷ ls) rs → EndsInProcess rs
      → Answer program policy p rs (control_over program policy p rs st) parent
      → Found l.interval (length l.parts) st parent
  head_runs n l ls [] st parent a seen ends answer = absurd seen
  head_runs n l ls (r ∷ rs) st parent a seen ends answer =
      control_is program policy p y all_items.whole n l ls r rs a seen ends st
      ∙ from_answer n (l ∷ ls) (r ∷ rs) (control_over program policy p (r ∷ rs) st) parent a seen answer

  pub head_found : (x : Split) (l : Place) (ls : List Place) → StandsIn x (l ∷ ls) → IsLater x y
      → Moment program policy v s p x (l ∷ ls) → (t : Todo) (ts : List Todo) → x.trace.proc.todo ≡ t ∷ ts
      → Found l.interval (length l.parts) t.stmt (parent_at program x.trace.activations x.trace.proc.todo)
  head_found x l ls stands later m t ts is =
      subst (λ o. Found l.interval (length l.parts) t.stmt o)
      (ap (top_parent program policy p v t.stmt) (sym m.views_are) ∙ same_parent t ts x.trace.activations
      ∙ ap (parent_at program x.trace.activations) (sym is))
      (head_runs (length x.spans) l ls (runs_of m.levels) t.stmt
      (top_parent program policy p v t.stmt (views_of m.levels)) (levels_at x y later (l ∷ ls) stands)
      (seen_later plan x.trace.events y.trace.events [] (l ∷ ls) (runs_of m.levels) later.events m.seen)
      (ends_in_process program policy p m.levels m.hold)
      (answers program policy p v m.levels m.hold m.leaf t ts (sym m.todo_is ∙ is)))
