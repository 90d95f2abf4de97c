-- The pair of an event that the numbers of synchronizations give is that of the trace.
use Rattle.ppd_model.specs.Setting.{Setting}
use Rattle.std.proofs.Common.{◌≡◌, ℕ, zero, suc, ◌+◌, ◌<◌, ◌≤◌, Bool, true, false, cond, List, [], ◌∷◌, ◌++◌, Option, Some, None, refl, ap, ap₂, sym, subst, ◌∙◌, arith, length, get_or, map, take, true≢false, inl, inr, ◌⊎◌}
use Rattle.std.specs.Prelude.{IsTrue, fold, is_some, slice_get, if◌then◌else◌, filter_map}
use Rattle.std.proofs.lemmas.Option.{none-some}
use Rattle.ppd_ast.specs.Valid.{IsValid}
use Rattle.ppd_ast.specs.declared.program.Program.{Program}
use Rattle.ppd_ast.specs.declared.status.SyncKind.{SyncKind}
use Rattle.ppd_ast.specs.declared.status.SyncKind.TheVariants as sync_kind
use Rattle.ppd_ast.proofs.ValidLaws.{slice_get_below}
use Rattle.ppd_model.specs.declared.entry.Logs.{Logs}
use Rattle.ppd_graph.specs.declared.paired.Paired.{Paired}
use Rattle.ppd_graph.specs.declared.paired.Paired.TheVariants.{Nothing, Initial, Node}
use Rattle.ppd_graph.specs.Partners.{found, paired_by, pairs_of, partner_of, wanted}
use Rattle.ppd_graph.specs.Times.{ArePartners, node_of, pair_at}
use Rattle.ppd_graph.proofs.Leads.{partners_found, row_mapped}
use Rattle.ppd_sem.specs.declared.event.Event.{Event}
use Rattle.ppd_sem.specs.Process.{need_of, started}
use Rattle.ppd_sem.specs.Described.{is_event}
use Rattle.ppd_model.specs.declared.graph.NodeId.{NodeId}
use Rattle.ppd_model.specs.declared.trace.EventId.{EventId}
use Rattle.ppd_model.specs.declared.trace.TracedEvent.{TracedEvent}
use Rattle.ppd_model.specs.declared.tracing.Story.{Story}
use Rattle.ppd_model.specs.declared.tracing.Taken.{Taken}
use Rattle.ppd_model.specs.declared.tracing.Tracing.{Tracing}
use Rattle.ppd_model.specs.FullTrace.{Tag, begun_tracing, event_of, trace_step}
use Rattle.ppd_model.specs.HappenedBefore.{node, sync_at}
use Rattle.ppd_model.specs.Intervals.{Split, splits}
use Rattle.ppd_model.specs.LocalTags.{AreOwn}
use Rattle.ppd_model.specs.Logs.{closed_logs}
use Rattle.ppd_model.specs.Record.{sync_record}
use Rattle.ppd_model.specs.RecordedSets.{record_in}
use Rattle.ppd_model.specs.Story.{story, told}
use Rattle.ppd_model.specs.Synchronizations.{Sync, kind_of_sync, leading_from, leads_at, numbered, sync_of}
use Rattle.ppd_model.proofs.Accesses.{record_at}
use Rattle.ppd_model.proofs.Changes.{some}
use Rattle.ppd_model.proofs.Numbered.{AreNumbered as AreNumberedModel, steps_numbered}
use Rattle.ppd_model.proofs.Numbers.{are_counted}
use Rattle.ppd_model.proofs.Parents.{own_from}
use Rattle.ppd_model.proofs.RecordedSyncs.{record_syncs}
use Rattle.ppd_model.proofs.Lists.{get_mapped}
use Rattle.law_flow.proofs.Writers.{events_in}
use Rattle.law_flow.proofs.Vocabulary.Events.{synchronizes}
use Rattle.law_flow.proofs.Edges.Spans.Facts.{count_to}
use Rattle.law_flow.proofs.Edges.Sources.InEdges.{sync_event as sync_is_event}
use Rattle.law_flow.proofs.Edges.StepEvents.Marks.{at_event, length_is, numbered_from}
use Rattle.law_flow.proofs.Edges.Sources.LastOrigins.{below_moments, split_there}
use Rattle.law_flow.proofs.Edges.StepEvents.Processes.{Facts, facts}
use Rattle.law_flow.proofs.Edges.StepEvents.ReadSteps.{IsStep, step_of}
use Rattle.law_flow.proofs.Edges.Spans.Steps.{headed, new_event, AreNumbered}
use Rattle.law_flow.proofs.Edges.StepEvents.Timeline.{did, numbered_told, own_is}
use Rattle.law_flow.proofs.Edges.StepEvents.Writers.{HasEvent, ev_at, ev_count}
use Rattle.law_flow.proofs.Edges.PairPlaces.Leading.{LeadsFrom, leading_all, sync_step, sync_there}
use Rattle.law_flow.specs.JoinedLaws.{bare}
use Rattle.law_flow.proofs.Vocabulary.Whole.{PairsAreLinked, all_events, edge_after}
use Rattle.law_flow.specs.Linked.{pair_of, pair_tag, sync_event, syncs_from}
use Rattle.law_flow.proofs.Marks.{edge_is}

-- the number of a synchronization, by how many are before it
sync_number : (es : List TracedEvent) (base n : ℕ) → synchronizes (slice_get es n) ≡ true → get_or (syncs_from base (bare es)) (count_to es n) 0 ≡ base + n
sync_number [] base n is = absurd (true≢false (sym is))
sync_number (e ∷ es) base zero is =
    ap (λ b. get_or (if b then base ∷ syncs_from (base + 1) (bare es) else syncs_from (base + 1) (bare es)) 0 0) is ∙ (let z : base ≡ base + 0 = omega arith in z)
sync_number (e ∷ es) base (suc n) is = by (is_some e.event.number) (sync_number es (base + 1) n is)
  where
    by : (b : Bool) → get_or (syncs_from (base + 1) (bare es)) (count_to es n) 0 ≡ base + 1 + n
        → get_or (if b then base ∷ syncs_from (base + 1) (bare es) else syncs_from (base + 1) (bare es)) (cond b 1 0 + count_to es n) 0 ≡ base + suc n
    by true h =
        let z : 1 + count_to es n ≡ suc (count_to es n) = omega arith in
        let y : base + 1 + n ≡ base + suc n = omega arith in
        ap (λ i. get_or (base ∷ syncs_from (base + 1) (bare es)) i 0) z ∙ h ∙ y
    by false h =
        let z : 0 + count_to es n ≡ count_to es n = omega arith in
        let y : base + 1 + n ≡ base + suc n = omega arith in
        ap (λ i. get_or (syncs_from (base + 1) (bare es)) i 0) z ∙ h ∙ y

none_paired : (events : List (List Event)) (k : SyncKind) → pair_tag events (paired_by k None) ≡ None
none_paired events sync_kind.P = refl
none_paired events k = refl

-- ---- pairs of all synchronizations

pair_is : (program : Program) (syncs : List (List Sync)) (p i : ℕ) (s : Sync) → sync_at syncs (node p i) ≡ Some s → pair_at (pairs_of program syncs) (node p i) ≡ partner_of program syncs s
pair_is program syncs p i s e =
    ap (λ l. get_or l i Nothing) (row_mapped (partner_of program syncs) syncs p) ∙ get_mapped (partner_of program syncs) (get_or syncs p []) i Nothing s e

to_node : (pair : Paired) (a : NodeId) → node_of pair ≡ Some a → pair ≡ Node a
to_node (Node b) a e = ap (λ z. Node z) (some e)
to_node Nothing a e = absurd (none-some a e)
to_node Initial a e = absurd (none-some a e)

leads_some : (program : Program) (o : Option Sync) (b : Option Sync) → leads_at program o b ≡ true → (a : Sync) × (o ≡ Some a)
leads_some program None b e = absurd (true≢false (sym e))
leads_some program (Some a) b e = (a, refl)

leads_none : (program : Program) (o : Option Sync) → leads_at program o None ≡ true → ⊥
leads_none program None e = true≢false (sym e)
leads_none program (Some a) e = true≢false (sym e)

module _ (setting : Setting) (h : List ℕ) (v : IsValid setting.program) where
  abbrev xs : List Split
  xs = splits setting (story setting h)

  abbrev logs : Logs
  logs = closed_logs setting h

  abbrev evs : List (List Event)
  evs = all_events setting h

  abbrev Rec : List (List Sync)
  Rec = sync_record setting h

  partners : ArePartners setting.program Rec (pairs_of setting.program Rec)
  partners = partners_found setting.program Rec (λ a b s e f. (are_counted setting h).once a b s e f)

  syncs_are : (q : ℕ) → get_or Rec q [] ≡ filter_map sync_of (did (told setting h) q)
  syncs_are q = record_at (story setting h).steps q ∙ ap (filter_map sync_of) (own_is setting.program setting.plan setting.budget h q)

  sync_of_step : (q : ℕ) (before : List Taken) (y : Taken) (after : List Taken) (s : Sync) → did (told setting h) q ≡ before ++ y ∷ after → sync_of y ≡ Some s → sync_at Rec (node q (length (filter_map sync_of before))) ≡ Some s
  sync_of_step q before y after s e f = ap (λ l. slice_get l (length (filter_map sync_of before))) (syncs_are q ∙ ap (filter_map sync_of) e) ∙ sync_there before y after s f

  -- the event of a step that is a synchronization
  place_is : (q : ℕ) (before : List Taken) (y : Taken) (after : List Taken) (s : Sync) → did (told setting h) q ≡ before ++ y ∷ after → sync_of y ≡ Some s
      → sync_event evs q (length (filter_map sync_of before)) ≡ record { process = q; number = events_in before }
  place_is q before y after s e f =
      let lt_q : q < length (told setting h).moments = below_moments (told setting h).moments q before y after e in
      let there = split_there setting (story setting h) 0 (told setting h).moments q lt_q in
      let x : Split = there.0 in
      let g : Facts setting h v q x = facts setting h v q x there.1 in
      let a : HasEvent setting h v q x g before y = ev_at setting h v q x g before y after e (sync_is_event y (ap is_some f)) in
      let counted : count_to x.trace.events (events_in before) ≡ length (filter_map sync_of before) = ev_count setting h v q x g before (y ∷ after) e in
      let row : get_or evs q [] ≡ bare x.trace.events = get_mapped (λ (z : Split). bare z.trace.events) xs q [] x there.1 in
      let number : get_or (syncs_from 0 (get_or evs q [])) (length (filter_map sync_of before)) 0 ≡ 0 + events_in before =
      ap₂ (λ es i. get_or (syncs_from 0 es) i 0) row (sym counted) ∙ sync_number x.trace.events 0 (events_in before) (a.is_sync ∙ ap is_some f) in
      ap (λ i. record { process = q; number = i }) (number ∙ (let z : 0 + events_in before ≡ events_in before = omega arith in z))

  -- of a step that is a synchronization
  of_sync : (p : ℕ) (before : List Taken) (y : Taken) (after : List Taken) (s : Sync) → did (told setting h) p ≡ before ++ y ∷ after → sync_of y ≡ Some s
      → pair_tag evs (pair_at (pairs_of setting.program (record_in logs)) (node p (length (filter_map sync_of before)))) ≡ leading_from setting.program (sync_of y) 0 (story setting h).steps
  of_sync p before y after s e f =
      ap (λ rec. pair_tag evs (pair_at (pairs_of setting.program rec) (node p (length (filter_map sync_of before))))) (record_syncs setting h).closed
      ∙ elim (leading_all setting.program (Some s) 0 (story setting h).steps) [
        | inl l ↦ leads l.0 l.1 l.2
        | inr n' ↦ none n'.0 n'.1
      ]
    where
      at_b : sync_at (sync_record setting h) (node p (length (filter_map sync_of before))) ≡ Some s
      at_b = sync_of_step p before y after s e f

      paired_is : leading_from setting.program (sync_of y) 0 (story setting h).steps ≡ leading_from setting.program (Some s) 0 (story setting h).steps
      paired_is = ap (λ o. leading_from setting.program o 0 (story setting h).steps) f

      leads : (id : EventId) → leading_from setting.program (Some s) 0 (story setting h).steps ≡ Some id → LeadsFrom setting.program (Some s) 0 (story setting h).steps id
          → pair_tag evs (pair_at (pairs_of setting.program (sync_record setting h)) (node p (length (filter_map sync_of before)))) ≡ leading_from setting.program (sync_of y) 0 (story setting h).steps
      leads id is l =
          let first = leads_some setting.program (sync_of l.leads.step) (Some s) l.leads.leads in
          let steps : did (told setting h) l.row ≡ l.leads.before ++ l.leads.step ∷ l.leads.after = sym (own_is setting.program setting.plan setting.budget h l.row) ∙ l.leads.are in
          let at_a : sync_at (sync_record setting h) (node l.row (length (filter_map sync_of l.leads.before))) ≡ Some first.0 = sync_of_step l.row l.leads.before l.leads.step l.leads.after first.0 steps first.1 in
          let test : IsTrue (leads_at setting.program (sync_at (sync_record setting h) (node l.row (length (filter_map sync_of l.leads.before)))) (sync_at (sync_record setting h) (node p (length (filter_map sync_of before))))) =
          ap₂ (λ a b. leads_at setting.program a b) (at_a ∙ sym first.1) at_b ∙ l.leads.leads in
          let pair = to_node (pair_at (pairs_of setting.program (sync_record setting h)) (node p (length (filter_map sync_of before)))) (node l.row (length (filter_map sync_of l.leads.before))) ((partners.leads (node l.row (length (filter_map sync_of l.leads.before))) (node p (length (filter_map sync_of before)))).0 test) in
          let process : l.row ≡ id.process = (let z : 0 + l.row ≡ l.row = omega arith in sym z ∙ sym l.process_is) in
          let number : events_in l.leads.before ≡ id.number = (let z : 0 + events_in l.leads.before ≡ events_in l.leads.before = omega arith in sym z ∙ sym l.leads.number) in
          ap (pair_tag evs) pair
          ∙ ap (λ o. Some o) (place_is l.row l.leads.before l.leads.step l.leads.after first.0 steps first.1)
          ∙ ap₂ (λ a b. Some (record { process = a; number = b })) process number
          ∙ sym (paired_is ∙ is)

      none : leading_from setting.program (Some s) 0 (story setting h).steps ≡ None
          → ((q : ℕ) (b : List Taken) (z : Taken) (a : List Taken) → get_or (story setting h).steps q [] ≡ b ++ z ∷ a → leads_at setting.program (sync_of z) (Some s) ≡ false)
          → pair_tag evs (pair_at (pairs_of setting.program (sync_record setting h)) (node p (length (filter_map sync_of before)))) ≡ leading_from setting.program (sync_of y) 0 (story setting h).steps
      none is no_one = by_found (found (sync_record setting h) (wanted setting.program s)) refl
        where
          pair : pair_at (pairs_of setting.program (sync_record setting h)) (node p (length (filter_map sync_of before))) ≡ partner_of setting.program (sync_record setting h) s
          pair = pair_is setting.program (sync_record setting h) p (length (filter_map sync_of before)) s at_b

          none_at : (a : NodeId) (o : Option Sync) → sync_at (sync_record setting h) a ≡ o → leads_at setting.program o (Some s) ≡ true → ⊥
          none_at a None g t = true≢false (sym t)
          none_at a (Some z) g t =
              let c = sync_step (did (told setting h) a.process) a.sync z (ap (λ l. slice_get l a.sync) (sym (syncs_are a.process)) ∙ g) in
              true≢false (sym (ap (λ o. leads_at setting.program o (Some s)) c.is ∙ t) ∙ no_one a.process c.before c.step c.after (own_is setting.program setting.plan setting.budget h a.process ∙ c.are))

          by_found : (o : Option NodeId) → found (sync_record setting h) (wanted setting.program s) ≡ o
              → pair_tag evs (pair_at (pairs_of setting.program (sync_record setting h)) (node p (length (filter_map sync_of before)))) ≡ leading_from setting.program (sync_of y) 0 (story setting h).steps
          by_found (Some a) g =
              let named : pair_at (pairs_of setting.program (sync_record setting h)) (node p (length (filter_map sync_of before))) ≡ Node a = pair ∙ ap (paired_by s.kind) g in
              let test = (partners.leads a (node p (length (filter_map sync_of before)))).1 (ap node_of named) in
              absurd (none_at a (sync_at (sync_record setting h) a) refl (ap (leads_at setting.program (sync_at (sync_record setting h) a)) (sym at_b) ∙ test))
          by_found None g = ap (pair_tag evs) (pair ∙ ap (paired_by s.kind) g) ∙ none_paired evs s.kind ∙ sym (paired_is ∙ is)

  -- of a step that is none
  of_other : (y : Taken) → sync_of y ≡ None → None ≡ leading_from setting.program (sync_of y) 0 (story setting h).steps
  of_other y f = sym (ap (λ o. leading_from setting.program o 0 (story setting h).steps) f ∙ nothing)
    where
      nothing : leading_from setting.program None 0 (story setting h).steps ≡ None
      nothing = elim (leading_all setting.program None 0 (story setting h).steps) [
        | inl l ↦ absurd (leads_none setting.program (sync_of l.2.leads.step) l.2.leads.leads)
        | inr n' ↦ n'.0
      ]

numbered_step : (ys : List Taken) (before : List Taken) (y : Taken) (after : List Taken) → AreNumberedModel ys → ys ≡ before ++ y ∷ after → sync_of y ≡ None → kind_of_sync y.need ≡ None
numbered_step ys before y after h e = by before (subst AreNumberedModel e h)
  where
    by : (zs : List Taken) → AreNumberedModel (zs ++ y ∷ after) → sync_of y ≡ None → kind_of_sync y.need ≡ None
    by [] k = k.0
    by (z ∷ zs) k = by zs k.1

-- what a synchronization is made of
made_number : (k : Option (SyncKind × ℕ)) (o : Option ℕ) (s : Sync) → numbered k o ≡ Some s → (i : ℕ) × (o ≡ Some i)
made_number None o s e = absurd (none-some s e)
made_number (Some z) None s e = absurd (none-some s e)
made_number (Some z) (Some i) s e = (i, refl)

-- by whether the step is a synchronization
by_sync : (setting : Setting) (h : List ℕ) (v : IsValid setting.program) (p edge : ℕ) (before : List Taken) (y : Taken) (after : List Taken) → did (told setting h) p ≡ before ++ y ∷ after
    → edge ≡ length (filter_map sync_of before) → (o : Option Sync) → sync_of y ≡ o
    → pair_of setting.program (closed_logs setting h) (all_events setting h) p edge y.number ≡ leading_from setting.program (sync_of y) 0 (story setting h).steps
by_sync setting h v p edge before y after are at (Some s) f =
    let m = made_number (kind_of_sync y.need) y.number s f in
    ap₂ (λ i o. pair_of setting.program (closed_logs setting h) (all_events setting h) p i o) at m.1
    ∙ of_sync setting h v p before y after s are f
by_sync setting h v p edge before y after are at None f =
    let g : kind_of_sync y.need ≡ None = numbered_step (get_or (story setting h).steps p []) before y after (steps_numbered setting.program setting.plan v setting.budget h p) (own_is setting.program setting.plan setting.budget h p ∙ are) f in
    ap (λ o. pair_of setting.program (closed_logs setting h) (all_events setting h) p edge o) ((numbered_at (did (told setting h) p) before y after (numbered_told setting.program setting.plan setting.budget h p) are) g)
    ∙ of_other setting h v y f
  where
    numbered_at : (zs : List Taken) (b : List Taken) (z : Taken) (a : List Taken) → AreNumbered zs → zs ≡ b ++ z ∷ a → kind_of_sync z.need ≡ None → z.number ≡ None
    numbered_at zs b z a w e' = (numbered_from b (z ∷ a) (subst AreNumbered e' w)).0

pub pairs_linked : PairsAreLinked
pairs_linked setting h v p number x e there event_is =
    let f : Facts setting h v p x = facts setting h v p x there in
    let steps : List Taken = did (told setting h) p in
    let told_story : Story = story setting h in
    let lt : number < length x.trace.events = slice_get_below x.trace.events number e event_is in
    let long : length x.trace.events ≡ events_in steps = ap length f.events_are ∙ length_is setting told_story p steps f.steps_own f.steps_numbered steps in
    let s : IsStep steps number = step_of steps number (omega (arith, lt, long)) in
    let u : Tracing = fold (trace_step setting.program setting.plan told_story p) (begun_tracing (started setting.program setting.plan p setting.budget)) s.before in
    let mine : s.step.need ≡ need_of setting.program setting.plan u.proc = (own_from setting.program setting.plan told_story p (begun_tracing (started setting.program setting.plan p setting.budget)) s.before (s.step ∷ s.after) (subst (AreOwn setting.program setting.plan (started setting.program setting.plan p setting.budget)) s.are f.steps_own)).0 in
    let finishes : is_event (need_of setting.program setting.plan u.proc) ≡ true = ap is_event (sym mine) ∙ s.finishes in
    let head = headed setting.program setting.plan u.proc finishes in
    let event : slice_get x.trace.events number ≡ Some (new_event setting.program setting.plan told_story p s.step u) =
    ap₂ (λ es i. slice_get es i) f.events_are (sym s.number) ∙ at_event setting told_story p steps f.steps_own f.steps_numbered s.before s.step s.after s.are s.finishes in
    let same : new_event setting.program setting.plan told_story p s.step u ≡ e = some (sym event ∙ event_is) in
    let edge : edge_after (take number (bare x.trace.events)) ≡ length (filter_map sync_of s.before) =
    edge_is x.trace.events number (omega (arith, lt)) ∙ ap (count_to x.trace.events) (sym s.number) ∙ ev_count setting h v p x f s.before (s.step ∷ s.after) s.are in
    let number_is : e.event.number ≡ s.step.number = ap (λ (z : TracedEvent). z.event.number) (sym same) ∙ ap (λ todo. (event_of setting.program setting.plan u.proc s.step todo).number) head.2 in
    let paired : e.paired ≡ leading_from setting.program (sync_of s.step) 0 told_story.steps = ap (λ (z : TracedEvent). z.paired) (sym same) in
    ap (λ o. pair_of setting.program (closed_logs setting h) (all_events setting h) p (edge_after (take number (bare x.trace.events))) o) number_is
    ∙ by_sync setting h v p (edge_after (take number (bare x.trace.events))) s.before s.step s.after s.are edge (sync_of s.step) refl
    ∙ sym paired
