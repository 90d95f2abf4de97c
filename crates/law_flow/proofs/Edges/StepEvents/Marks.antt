-- The events of a process by its steps: which are synchronizations, and which write a shared cell.
use Rattle.ppd_model.specs.Setting.{Setting}
use Rattle.std.proofs.Common.{◌≡◌, ℕ, ◌+◌, ◌<◌, ◌≤◌, Bool, true, false, cond, List, [], ◌∷◌, ◌++◌, Option, Some, None, refl, ap, ap₂, sym, subst, ◌∙◌, arith, length, length-append, inl, inr}
use Rattle.std.specs.Prelude.{⊤, fold, is_some, slice_get, filter_map}
use Rattle.std.specs.List.{cons_option}
use Rattle.std.proofs.lemmas.Bool.{cases_lt}
use Rattle.std.proofs.lemmas.List.{append-nil, append_assoc}
use Rattle.std.proofs.lemmas.List.Sums.{fold-append}
use Rattle.ppd_ast.specs.declared.plan.Plan.{Plan}
use Rattle.ppd_ast.specs.declared.program.Program.{Program}
use Rattle.ppd_ast.specs.declared.status.SyncKind.{SyncKind}
use Rattle.ppd_ast.proofs.ValidLaws.{slice_get_below}
use Rattle.ppd_sem.specs.Process.{need_of, started}
use Rattle.ppd_sem.specs.Described.{is_event}
use Rattle.ppd_model.specs.declared.trace.TracedEvent.{TracedEvent}
use Rattle.ppd_model.specs.declared.tracing.Story.{Story}
use Rattle.ppd_model.specs.declared.tracing.Taken.{Taken}
use Rattle.ppd_model.specs.declared.tracing.Tracing.{Tracing}
use Rattle.ppd_model.specs.FullTrace.{begun_tracing, event_of, trace_step, tracing_of}
use Rattle.ppd_model.specs.LocalTags.{AreOwn}
use Rattle.ppd_model.specs.Synchronizations.{Sync, kind_of_sync, numbered, sync_of}
use Rattle.ppd_model.proofs.Parents.{own_from, own_to}
use Rattle.law_steps.proofs.StaticEdges.Events.{there}
use Rattle.law_steps.proofs.StaticEdges.SharedCells.Writers.{events_in}
use Rattle.law_steps.proofs.StaticEdges.SharedCells.Writing.{count_events}
use Rattle.law_flow.proofs.Vocabulary.Events.{AreQuiet, IsQuiet, synchronizes, written_by}
use Rattle.law_flow.proofs.Edges.Spans.Facts.{count_front, count_last, count_to}
use Rattle.law_flow.proofs.Edges.Spans.Steps.{IsNumbered, events_are, headed, new_event, no_sync, told_events, AreNumbered}
use Rattle.law_flow.proofs.Edges.StepEvents.Writes.{event_writes, write_to}

-- the step neither writes the cell nor is a synchronization
abbrev pub IsStill : ℕ → Taken → Type 0
IsStill c x = (write_to c x.need ≡ None) × (sync_of x ≡ None)

abbrev pub AreStill : ℕ → List Taken → Type 0
AreStill c [] = ⊤
AreStill c (x ∷ xs) = IsStill c x × AreStill c xs

pub numbered_to : (xs ys : List Taken) → AreNumbered (xs ++ ys) → AreNumbered xs
numbered_to [] ys h = tt
numbered_to (x ∷ xs) ys h = (h.0, numbered_to xs ys h.1)

pub numbered_from : (xs ys : List Taken) → AreNumbered (xs ++ ys) → AreNumbered ys
numbered_from [] ys h = h
numbered_from (x ∷ xs) ys h = numbered_from xs ys h.1

-- a step has a number exactly where it is a synchronization
number_is : (t : Taken) → IsNumbered t → is_some t.number ≡ is_some (sync_of t)
number_is t w = by (kind_of_sync t.need) refl t.number refl
  where
    by : (k : Option (SyncKind × ℕ)) → kind_of_sync t.need ≡ k → (o : Option ℕ) → t.number ≡ o → is_some t.number ≡ is_some (sync_of t)
    by None e o f = ap is_some (w e) ∙ sym (ap (λ k. is_some (numbered k t.number)) e)
    by (Some k) e None f = ap is_some f ∙ sym (ap₂ (λ a b. is_some (numbered a b)) e f)
    by (Some k) e (Some i) f = ap is_some f ∙ sym (ap₂ (λ a b. is_some (numbered a b)) e f)

pub syncs_length : (x : Taken) (xs : List Taken) → length (filter_map sync_of (x ∷ xs)) ≡ cond (is_some (sync_of x)) 1 0 + length (filter_map sync_of xs)
syncs_length x xs = by (sync_of x)
  where
    by : (o : Option Sync) → length (cons_option o (filter_map sync_of xs)) ≡ cond (is_some o) 1 0 + length (filter_map sync_of xs)
    by None = let z : length (filter_map sync_of xs) ≡ 0 + length (filter_map sync_of xs) = omega arith in z
    by (Some s) = omega arith

module _ (program : Program) (plan : Plan) (story' : Story) (p : ℕ) where
  abbrev after_all : Tracing → List Taken → Tracing
  after_all u xs = fold (trace_step program plan story' p) u xs

  -- the event of a step
  module _ (u : Tracing) (x : Taken) (mine : x.need ≡ need_of program plan u.proc) (w : IsNumbered x) (e : is_event x.need ≡ true) where
    new_number : is_some (new_event program plan story' p x u).event.number ≡ is_some (sync_of x)
    new_number =
        let head = headed program plan u.proc (ap is_event (sym mine) ∙ e) in
        ap (λ todo. is_some (event_of program plan u.proc x todo).number) head.2 ∙ number_is x w

    new_writes : (c : ℕ) → written_by c (Some (new_event program plan story' p x u)) ≡ write_to c x.need
    new_writes c =
        let head = headed program plan u.proc (ap is_event (sym mine) ∙ e) in
        event_writes program plan c u.proc x head.0 head.1 head.2 (ap is_event (sym mine) ∙ e) ∙ ap (write_to c) (sym mine)

  -- how many synchronizations the events have
  one_count : (u : Tracing) (x : Taken) → x.need ≡ need_of program plan u.proc → IsNumbered x
      → count_to (trace_step program plan story' p u x).events (length (trace_step program plan story' p u x).events) ≡ count_to u.events (length u.events) + cond (is_some (sync_of x)) 1 0
  one_count u x mine w =
      ap (λ es. count_to es (length es)) (events_are program plan story' p x u x.need) ∙ by (is_event x.need) refl
    where
      by : (b : Bool) → is_event x.need ≡ b → count_to (told_events program plan story' p b x u) (length (told_events program plan story' p b x u)) ≡ count_to u.events (length u.events) + cond (is_some (sync_of x)) 1 0
      by true e =
          ap (λ n. count_to (u.events ++ new_event program plan story' p x u ∷ []) n) (length-append u.events (new_event program plan story' p x u ∷ []))
          ∙ count_last u.events (new_event program plan story' p x u) ∙ ap (λ b. count_to u.events (length u.events) + cond b 1 0) (new_number u x mine w e)
      by false e =
          (let z : count_to u.events (length u.events) ≡ count_to u.events (length u.events) + 0 = omega arith in z)
          ∙ ap (λ k. count_to u.events (length u.events) + cond (is_some (numbered k x.number)) 1 0) (sym (no_sync program plan story' p x.need e))

  pub all_counts : (u : Tracing) (xs : List Taken) → AreOwn program plan u.proc xs → AreNumbered xs → count_to (after_all u xs).events (length (after_all u xs).events) ≡ count_to u.events (length u.events) + length (filter_map sync_of xs)
  all_counts u [] own w = let z : count_to u.events (length u.events) ≡ count_to u.events (length u.events) + 0 = omega arith in z
  all_counts u (x ∷ xs) own w =
      let rest = all_counts (trace_step program plan story' p u x) xs own.1 w.1 in
      let one = one_count u x own.0 w.0 in
      let both : length (filter_map sync_of (x ∷ xs)) ≡ cond (is_some (sync_of x)) 1 0 + length (filter_map sync_of xs) = syncs_length x xs in
      rest ∙ ap (λ k. k + length (filter_map sync_of xs)) one ∙ (let z : count_to u.events (length u.events) + cond (is_some (sync_of x)) 1 0 + length (filter_map sync_of xs) ≡ count_to u.events (length u.events) + length (filter_map sync_of (x ∷ xs)) = omega (arith, both) in z)

  -- still steps have quiet events
  pub quiet_steps : (c : ℕ) (u : Tracing) (mid rest : List Taken) → AreOwn program plan u.proc (mid ++ rest) → AreNumbered (mid ++ rest) → AreStill c mid → AreQuiet (after_all u (mid ++ rest)).events c (length u.events) (length (after_all u mid).events)
  quiet_steps c u [] rest own w still n ge lt = absurd (omega (arith, ge, lt))
  quiet_steps c u (x ∷ mid) rest own w still n ge lt =
      by (is_event x.need) refl (λ le. quiet_steps c (trace_step program plan story' p u x) mid rest own.1 w.1 still.1 n le lt)
    where
      by : (b : Bool) → is_event x.need ≡ b → (length (trace_step program plan story' p u x).events ≤ n → IsQuiet (after_all u ((x ∷ mid) ++ rest)).events c n) → IsQuiet (after_all u ((x ∷ mid) ++ rest)).events c n
      by false e later = later (subst (λ es. length es ≤ n) (sym (events_are program plan story' p x u x.need ∙ ap (λ b. told_events program plan story' p b x u) e)) ge)
      by true e later = elim (cases_lt (length u.events) n) [
        | inl more ↦
            let long : length (trace_step program plan story' p u x).events ≡ length u.events + 1 =
            ap length (events_are program plan story' p x u x.need ∙ ap (λ b. told_events program plan story' p b x u) e) ∙ length-append u.events (new_event program plan story' p x u ∷ []) in
            later (omega (arith, more, long))
        | inr here ↦
            let same : n ≡ length u.events = omega (arith, here, ge) in
            let at : slice_get (after_all u (x ∷ (mid ++ rest))).events (length u.events) ≡ Some (new_event program plan story' p x u) = there program plan story' p u [] x (mid ++ rest) e in
            subst (λ k. IsQuiet (after_all u ((x ∷ mid) ++ rest)).events c k) (sym same) (record {
              plain = ap synchronizes at ∙ new_number u x own.0 w.0 e ∙ ap is_some still.0.1;
              unwritten = ap (written_by c) at ∙ new_writes u x own.0 w.0 e c ∙ still.0.0;
            })
      ]

-- ---- the events of all steps of a process

module _ (setting : Setting) (story' : Story) (p : ℕ) (steps : List Taken) (own : AreOwn setting.program setting.plan (started setting.program setting.plan p setting.budget) steps) (w : AreNumbered steps) where
  abbrev events : List TracedEvent
  events = (tracing_of setting story' p steps).events

  abbrev first : Tracing
  first = begun_tracing (started setting.program setting.plan p setting.budget)

  pub length_is : (xs : List Taken) → length (tracing_of setting story' p xs).events ≡ events_in xs
  length_is xs = count_events setting.program setting.plan story' p first xs ∙ (let z : 0 + events_in xs ≡ events_in xs = omega arith in z)

  pub events_within : (xs ys : List Taken) → steps ≡ xs ++ ys → events_in xs ≤ length events
  events_within xs ys e =
      let all : length events ≡ events_in steps = length_is steps in
      let sum : events_in steps ≡ events_in xs + events_in ys = ap (λ l. events_in l) e ∙ both xs ys in
      omega (arith, all, sum)
    where
      both : (xs ys : List Taken) → events_in (xs ++ ys) ≡ events_in xs + events_in ys
      both [] ys = let z : events_in ys ≡ 0 + events_in ys = omega arith in z
      both (x ∷ xs) ys = let r : events_in (xs ++ ys) ≡ events_in xs + events_in ys = both xs ys in omega (arith, r)

  -- the event of a step, by the number of the events before it
  pub record IsEventAt (before : List Taken) (x : Taken) : Type 0 where
    pub within : events_in before < length events
    pub is_sync : synchronizes (slice_get events (events_in before)) ≡ is_some (sync_of x)
    pub writes : (c : ℕ) → written_by c (slice_get events (events_in before)) ≡ write_to c x.need

  pub at_event : (before : List Taken) (x : Taken) (after : List Taken) → steps ≡ before ++ x ∷ after → is_event x.need ≡ true → slice_get events (events_in before) ≡ Some (new_event setting.program setting.plan story' p x (after_all setting.program setting.plan story' p first before))
  at_event before x after e finishes =
      ap (λ n. slice_get events n) (sym (length_is before))
      ∙ ap (λ xs. slice_get (after_all setting.program setting.plan story' p first xs).events (length (after_all setting.program setting.plan story' p first before).events)) e
      ∙ there setting.program setting.plan story' p first before x after finishes

  pub event_is : (before : List Taken) (x : Taken) (after : List Taken) → steps ≡ before ++ x ∷ after → is_event x.need ≡ true → IsEventAt before x
  event_is before x after e finishes =
      let u : Tracing = after_all setting.program setting.plan story' p first before in
      let mine : x.need ≡ need_of setting.program setting.plan u.proc = (own_from setting.program setting.plan story' p first before (x ∷ after) (subst (AreOwn setting.program setting.plan first.proc) e own)).0 in
      let numbers : IsNumbered x = (numbered_from before (x ∷ after) (subst AreNumbered e w)).0 in
      let at = at_event before x after e finishes in
      record {
        within = slice_get_below events (events_in before) (new_event setting.program setting.plan story' p x u) at;
        is_sync = ap synchronizes at ∙ new_number setting.program setting.plan story' p u x mine numbers finishes;
        writes = λ c. ap (written_by c) at ∙ new_writes setting.program setting.plan story' p u x mine numbers finishes c;
      }

  pub quiet_is : (c : ℕ) (before mid after : List Taken) → steps ≡ before ++ (mid ++ after) → AreStill c mid → AreQuiet events c (events_in before) (events_in (before ++ mid))
  quiet_is c before mid after e still =
      let u : Tracing = after_all setting.program setting.plan story' p first before in
      let mine : AreOwn setting.program setting.plan u.proc (mid ++ after) = own_from setting.program setting.plan story' p first before (mid ++ after) (subst (AreOwn setting.program setting.plan first.proc) e own) in
      let numbers : AreNumbered (mid ++ after) = numbered_from before (mid ++ after) (subst AreNumbered e w) in
      let quiet : AreQuiet (after_all setting.program setting.plan story' p u (mid ++ after)).events c (length u.events) (length (after_all setting.program setting.plan story' p u mid).events) = quiet_steps setting.program setting.plan story' p c u mid after mine numbers still in
      subst (λ es. AreQuiet es c (events_in before) (events_in (before ++ mid)))
      (sym (ap (λ xs. (after_all setting.program setting.plan story' p first xs).events) e ∙ ap (λ (z : Tracing). z.events) (fold-append (trace_step setting.program setting.plan story' p) first before (mid ++ after))))
      (subst (λ k. AreQuiet (after_all setting.program setting.plan story' p u (mid ++ after)).events c k (events_in (before ++ mid))) (length_is before)
      (subst (λ k. AreQuiet (after_all setting.program setting.plan story' p u (mid ++ after)).events c (length u.events) k)
      (ap (λ (z : Tracing). length z.events) (sym (fold-append (trace_step setting.program setting.plan story' p) first before mid)) ∙ length_is (before ++ mid)) quiet))

  -- the synchronizations before an event are those of the steps before it
  pub count_is : (before after : List Taken) → steps ≡ before ++ after → count_to events (events_in before) ≡ length (filter_map sync_of before)
  count_is before after e =
      let u : Tracing = after_all setting.program setting.plan story' p first before in
      let all : count_to u.events (length u.events) ≡ 0 + length (filter_map sync_of before) =
      all_counts setting.program setting.plan story' p first before (own_to setting.program setting.plan story' p first.proc before after (subst (AreOwn setting.program setting.plan first.proc) e own)) (numbered_to before after (subst AreNumbered e w)) in
      let grown = grows before after in
      ap (λ xs. count_to (after_all setting.program setting.plan story' p first xs).events (events_in before)) e
      ∙ ap (λ es. count_to es (events_in before)) grown.1
      ∙ count_front u.events grown.0 (events_in before) (let l : length u.events ≡ events_in before = length_is before in omega (arith, l))
      ∙ ap (λ k. count_to u.events k) (sym (length_is before)) ∙ all ∙ (let z : 0 + length (filter_map sync_of before) ≡ length (filter_map sync_of before) = omega arith in z)
    where
      more : (u : Tracing) (xs : List Taken) → (fresh : List TracedEvent) × ((after_all setting.program setting.plan story' p u xs).events ≡ u.events ++ fresh)
      more u [] = ([], sym (append-nil u.events))
      more u (x ∷ xs) =
          let rest = more (trace_step setting.program setting.plan story' p u x) xs in
          let one = step_more (is_event x.need) in
          (one.0 ++ rest.0, rest.1 ∙ ap (λ es. es ++ rest.0) (events_are setting.program setting.plan story' p x u x.need ∙ one.1) ∙ append_assoc u.events one.0 rest.0)
        where
          step_more : (b : Bool) → (fresh : List TracedEvent) × (told_events setting.program setting.plan story' p b x u ≡ u.events ++ fresh)
          step_more true = (new_event setting.program setting.plan story' p x u ∷ [], refl)
          step_more false = ([], sym (append-nil u.events))

      grows : (xs ys : List Taken) → (fresh : List TracedEvent) × ((after_all setting.program setting.plan story' p first (xs ++ ys)).events ≡ (after_all setting.program setting.plan story' p first xs).events ++ fresh)
      grows xs ys = let m = more (after_all setting.program setting.plan story' p first xs) ys in (m.0, ap (λ (z : Tracing). z.events) (fold-append (trace_step setting.program setting.plan story' p) first xs ys) ∙ m.1)
