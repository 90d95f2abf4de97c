-- The control of each new part is found.
use Rattle.law_steps.specs.Policies.{setting_by}
use Rattle.ppd_model.specs.Setting.{setting_of}
use Rattle.std.proofs.Common.{◌≡◌, ℕ, ◌+◌, ◌-◌, ◌<◌, Bool, true, false, List, [], ◌∷◌, ◌++◌, Option, Some, None, refl, ap, sym, subst, ◌∙◌, arith, length, length-append, inl, inr, true≢false, if◌then◌else◌}
use Rattle.std.specs.Option.{option_map_or}
use Rattle.std.specs.Prelude.{slice_get}
use Rattle.std.proofs.lemmas.Option.{none-some}
use Rattle.ppd_ast.specs.Valid.{IsValid}
use Rattle.ppd_ast.specs.declared.plan.BlockKind.TheVariants as block
use Rattle.ppd_ast.specs.declared.plan.Plan.{Plan}
use Rattle.ppd_ast.specs.declared.plan.Policy.{Policy}
use Rattle.ppd_ast.specs.declared.program.Program.{Program}
use Rattle.ppd_ast.proofs.ValidLaws.{slice_get_below}
use Rattle.ppd_blocks.specs.Blocks.{plan_of}
use Rattle.law_steps.proofs.OpenBlocks.Planned.{kind_is}
use Rattle.ppd_sem.specs.Blocks.{block_kind}
use Rattle.ppd_sem.specs.Process.{need_of}
use Rattle.ppd_sem.specs.Tables.{block_of}
use Rattle.ppd_sem.specs.declared.proc.Need.{Need}
use Rattle.ppd_sem.specs.declared.proc.Need.TheVariants as need
use Rattle.ppd_sem.specs.Described.{is_event}
use Rattle.ppd_model.specs.declared.flow.Origin.TheVariants as origin
use Rattle.ppd_model.specs.declared.trace.EventId.{EventId}
use Rattle.ppd_model.specs.declared.trace.TracedEvent.{TracedEvent}
use Rattle.ppd_model.specs.declared.tracing.Story.{Story}
use Rattle.ppd_model.specs.declared.tracing.Taken.{Taken}
use Rattle.ppd_model.specs.FlowbackEdges.{part_at}
use Rattle.ppd_model.specs.FullTrace.{event_of, me_in, parent_at, traced_by}
use Rattle.ppd_model.specs.Intervals.{Part, own, nested, Span, Split, control_by, split_step, splits, ref}
use Rattle.ppd_model.specs.Marks.{Mark, opened}
use Rattle.ppd_model.specs.NearIntervals.{is_loop}
use Rattle.ppd_model.specs.Story.{story}
use Rattle.ppd_model.proofs.Changes.{some}
use Rattle.ppd_model.proofs.CountedOn.{last_at}
use Rattle.law_flow.specs.Places.Levels.{IsLater, StandsIn, numbers, Level as Place}
use Rattle.law_flow.proofs.Vocabulary.Levels.{levels_after}
use Rattle.law_flow.proofs.Places.Later.{later_then, step_stands}
use Rattle.law_flow.proofs.Control.Moments.{Moment, events_after}
use Rattle.law_flow.proofs.Control.NewParts.{IsNew, new_event, new_inner, new_interval, new_parts}
use Rattle.law_flow.proofs.Control.Opens.{OpensAt, opens_at}
use Rattle.law_flow.proofs.Control.Searching.{levels_at}
use Rattle.law_flow.proofs.Control.Referred.{refers, part_of, head_found}
use Rattle.law_flow.proofs.Control.Claimed.{Claim, Claims, Found, HasHead, has_head, IsFirst, first_of, loop_number}

module _ (program : Program) (policy : Policy) (budget : ℕ) (h : List ℕ) (p : ℕ) (y : Split) (v : IsValid program)
    (at : slice_get (splits (setting_by program policy budget) (story (setting_by program policy budget) h))
    p ≡ Some y) where
  abbrev plan : Plan
  plan = plan_of program policy

  abbrev s : Story
  s = story (setting_of program plan budget) h

  abbrev FoundAt : ℕ → ℕ → ℕ → Option EventId → Type 0
  FoundAt k j st parent = Found program policy budget h p y v at k j st parent

  module _ (x : Split) (ls : List Place) (t : Taken) (own' : t.need ≡ need_of program plan x.trace.proc)
      (st : StandsIn x ls) (m : x.trace.proc.status ≡ None → Moment program policy v s p x ls)
      (later : IsLater (split_step program plan s p x t) y) where
    abbrev pub x1 : Split
    x1 = split_step program plan s p x t

    abbrev pub n : ℕ
    n = length x.trace.events

    pub step_later : IsLater x x1
    step_later = (step_stands program plan s p x t ls st).1

    pub to_end : IsLater x y
    to_end = later_then x x1 y step_later later

    -- the head's parent is found at the first running interval
    pub at_first : (k : ℕ) (parts : List Part) → IsFirst program policy budget h p y v at x ls k parts
        → (g : HasHead program policy budget h p y v at x)
        → FoundAt k (length parts) g.todo.stmt (parent_at program x.trace.activations x.trace.proc.todo)
    at_first k parts f g =
        subst (λ i. FoundAt i (length parts) g.todo.stmt (parent_at program x.trace.activations x.trace.proc.todo))
        (sym f.number_is)
        (subst (λ ps. FoundAt f.level.interval (length ps) g.todo.stmt
        (parent_at program x.trace.activations x.trace.proc.todo)) (sym f.parts_same)
        (head_found program policy budget h p y v at x f.level f.outside (subst (StandsIn x) f.levels_are st) to_end
        (subst (Moment program policy v s p x) f.levels_are (m g.running)) g.todo g.rest g.todo_is))

    pub not_stopped : (k : Need) → is_event k ≡ true → k ≡ need.Stopped → ⊥
    not_stopped k is e = true≢false (sym is ∙ ap is_event e)

    -- ---- its event

    pub event_claim : (k : ℕ) (parts : List Part) → is_event t.need ≡ true
        → IsFirst program policy budget h p y v at x ls k parts
        → Claim program policy budget h p y v at k (length parts) (own n)
    event_claim k parts is f e there =
        let g : HasHead program policy budget h p y v at x = has_head program policy budget h p y v at x
        (λ stop. not_stopped t.need is (own' ∙ stop)) in
        let traced : TracedEvent = traced_by program s t x.trace
        (event_of program plan x.trace.proc t x.trace.proc.todo) in
        let new : slice_get x1.trace.events n ≡ Some traced = ap (λ es. slice_get es n)
        (events_after program plan s p t t.need x.trace is) ∙ last_at x.trace.events traced in
        let same : traced ≡ e = some (sym (later.events n traced new) ∙ there) in
        subst (λ (z : TracedEvent). FoundAt k (length parts) z.event.stmt z.parent) same
        (subst (λ i. FoundAt k (length parts) i (parent_at program x.trace.activations x.trace.proc.todo))
        (sym (ap (λ todo. (event_of program plan x.trace.proc t todo).stmt) g.todo_is))
        (at_first k parts f g))

    -- ---- the interval that begins

    pub data Opened (mark : Mark) : Type 0 where
      enters : (b u : ℕ) → t.need ≡ need.Enter b u → mark.block ≡ b → Opened mark
      invokes : (b u : ℕ) → t.need ≡ need.Invoke (Some b) u → mark.block ≡ b → Opened mark

    pub opened_by : (mark : Mark) → opened program plan x.trace.proc t.need ≡ Some mark → Opened mark
    opened_by mark e = by t.need refl e
      where
        by : (k : Need) → t.need ≡ k → opened program plan x.trace.proc k ≡ Some mark → Opened mark
        by (need.Enter b u) is o = enters b u is (ap (λ (z : Mark). z.block) (sym (some o)))
        by (need.Invoke (Some b) u) is o = invokes b u is (ap (λ (z : Mark). z.block) (sym (some o)))
        by (need.Invoke None u) is o = absurd (none-some mark o)
        by k is o = absurd (none-some mark o)

    -- its block and its control
    pub record IsBegun (mark : Mark) (i : Span) : Type 0 where
      block_is : i.block ≡ mark.block
      control_is : i.control ≡ control_by program p x.trace t.need

    pub begun : (mark : Mark) → opened program plan x.trace.proc t.need ≡ Some mark → (i : Span)
        → slice_get y.spans (length x.spans) ≡ Some i → IsBegun mark i
    begun mark e i there =
        let new = new_interval program plan s p x t mark e in
        let g = later.spans (length x.spans) new.0 new.1 in
        let same : g.0 ≡ i = some (sym g.1 ∙ there) in
        record {
          block_is = ap (λ (z : Span). z.block) (sym same) ∙ g.2.block
              ∙ new.2;
          control_is = ap (λ (z : Span). z.control) (sym same) ∙ g.2.control ∙ new.3;
        }

    pub quiet_stop : (b u : ℕ) (k : Need) → k ≡ need.Enter b u → k ≡ need.Stopped → ⊥
    quiet_stop b u k e f = true≢false (sym (ap entering e) ∙ ap entering f)
      where
        entering : Need → Bool
        entering (need.Enter b u) = true
        entering k = false

    pub enter_claim : (k b u : ℕ) (parts : List Part) (mark : Mark) → t.need ≡ need.Enter b u → mark.block ≡ b
        → opened program plan x.trace.proc t.need ≡ Some mark → IsFirst program policy budget h p y v at x ls k parts
        → Claim program policy budget h p y v at k (length parts) (nested (length x.spans))
    enter_claim k b u parts mark is mark_is e f i there =
        let g : HasHead program policy budget h p y v at x = has_head program policy budget h p y v at x
        (λ stop. quiet_stop b u t.need is (own' ∙ stop)) in
        let new : IsBegun mark i = begun mark e i there in
        let at_loop : block_of plan (block.Loop g.todo.stmt) ≡ Some b = subst (OpensAt plan g.todo.stmt)
        (sym own' ∙ is) (opens_at program plan g.todo x.trace.proc g.rest g.todo_is) in
        let kind : block_kind plan i.block ≡ block.Loop g.todo.stmt = ap (block_kind plan) (new.block_is ∙ mark_is)
        ∙ kind_is program policy (block.Loop g.todo.stmt) b at_loop in
        let control : i.control ≡ parent_at program x.trace.activations x.trace.proc.todo = new.control_is
        ∙ ap (control_by program p x.trace) is in (
          λ l is_l. subst (λ z. FoundAt k (length parts) z i.control)
              (ap (loop_number program policy budget h p y v at) (sym kind ∙ is_l))
              (subst (λ o. FoundAt k (length parts) g.todo.stmt o) (sym control) (at_first k parts f g)),
          λ isnt. absurd (true≢false (sym (ap is_loop kind) ∙ isnt)),
        )

    pub invoke_claim : (k b u : ℕ) (parts : List Part) (mark : Mark) → t.need ≡ need.Invoke (Some b) u → mark.block ≡ b
        → opened program plan x.trace.proc t.need ≡ Some mark → IsFirst program policy budget h p y v at x ls k parts
        → Claim program policy budget h p y v at k (length (parts ++ own n ∷ [])) (nested (length x.spans))
    invoke_claim k b u parts mark is mark_is e f i there =
        let g : HasHead program policy budget h p y v at x = has_head program policy budget h p y v at x
        (λ stop. not_stopped t.need (ap is_event is) (own' ∙ stop)) in
        let new : IsBegun mark i = begun mark e i there in
        let at_call = subst (OpensAt plan g.todo.stmt) (sym own' ∙ is)
        (opens_at program plan g.todo x.trace.proc g.rest g.todo_is) in
        let kind : block_kind plan i.block ≡ block.Function at_call.0 = ap (block_kind plan) (new.block_is ∙ mark_is)
        ∙ kind_is program policy (block.Function at_call.0) b (sym at_call.1) in
        let control : i.control ≡ Some (me_in p x.trace) = new.control_is ∙ ap (control_by program p x.trace) is in (
          λ l is_l. absurd (true≢false (sym (ap is_loop (sym kind ∙ is_l)))),
          λ isnt. ap (λ j. origin.Item p k j) (before parts)
              ∙ sym (refers program policy budget h p y v at n k (length parts) (call_part.1) call_part.0)
              ∙ ap (λ o. option_map_or (ref (splits (setting_of program plan budget) s)) o origin.Entry) (sym control),
        )
      where
        before : (ps : List Part) → length (ps ++ own n ∷ []) - 1 ≡ length ps
        before ps = (let z : length (ps ++ own n ∷ []) ≡ length ps + 1 = length-append ps (own n ∷ []) in omega
            (arith, z))

        -- the call is a part straight before
        call_part : (part_at y k (length parts) ≡ Some (own n)) × (n < length y.trace.events)
        call_part =
            let l : Place = f.level in
            let stands : StandsIn x1 (levels_after program plan t.need x (l ∷ f.outside)) =
            (step_stands program plan s p x t (l ∷ f.outside) (subst (StandsIn x) f.levels_are st)).0 in
            let all = levels_at x1 y later (levels_after program plan (need.Invoke (Some b) u) x (l ∷ f.outside))
            (subst (λ z. StandsIn x1 (levels_after program plan z x (l ∷ f.outside))) is stands) in
            let here : part_at y l.interval (length l.parts) ≡ Some (own n) = part_of program policy budget h p y v at
            (length x.spans)
            (nested (length x.spans) ∷ []) (numbers f.outside) (record l { parts = l.parts ++ own n ∷ [] })
            (length l.parts) (own n) all.1.0 (last_at l.parts (own n)) in
            let traced : TracedEvent = traced_by program s t x.trace
            (event_of program plan x.trace.proc t x.trace.proc.todo) in
            let new : slice_get x1.trace.events n ≡ Some traced = ap (λ es. slice_get es n)
            (events_after program plan s p t t.need x.trace (ap is_event is)) ∙ last_at x.trace.events traced in (
              subst (λ i. part_at y i (length parts) ≡ Some (own n)) (sym f.number_is)
                  (subst (λ ps. part_at y l.interval (length ps) ≡ Some (own n)) (sym f.parts_same) here),
              slice_get_below y.trace.events n traced (later.events n traced new),
            )

    -- ---- what is new

    pub new_claim : (k j : ℕ) (q : Part) → IsNew program plan s p x t k j q
        → Claim program policy budget h p y v at k j q
    new_claim k j q (new_event rest parts is run parts_are place q_is) =
        subst (λ i. Claim program policy budget h p y v at k i q) (sym place)
        (subst (λ z. Claim program policy budget h p y v at k (length parts) z) (sym q_is)
        (event_claim k parts is (first_of program policy budget h p y v at x ls k rest parts st run parts_are)))
    new_claim k j q (new_inner mark rest parts e run parts_are place q_is) =
        subst (λ z. Claim program policy budget h p y v at k j z) (sym q_is) (by (opened_by mark e))
      where
        by : Opened mark → Claim program policy budget h p y v at k j (nested (length x.spans))
        by (enters b u is mark_is) =
            subst (λ i. Claim program policy budget h p y v at k i (nested (length x.spans)))
            (sym (place ∙ ap (λ c. length (if c then parts ++ own n ∷ [] else parts)) (ap is_event is)))
            (enter_claim k b u parts mark is mark_is e
            (first_of program policy budget h p y v at x ls k rest parts st run parts_are))
        by (invokes b u is mark_is) =
            subst (λ i. Claim program policy budget h p y v at k i (nested (length x.spans)))
            (sym (place ∙ ap (λ c. length (if c then parts ++ own n ∷ [] else parts)) (ap is_event is)))
            (invoke_claim k b u parts mark is mark_is e
            (first_of program policy budget h p y v at x ls k rest parts st run parts_are))

    pub step_claims : Claims program policy budget h p y v at x → Claims program policy budget h p y v at x1
    step_claims claims k j q part = elim (new_parts program plan s p x t k j q part) [
      | inl old ↦ claims k j q old
      | inr new ↦ new_claim k j q new
    ]
