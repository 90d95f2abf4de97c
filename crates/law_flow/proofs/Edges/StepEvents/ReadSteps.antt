-- Each shared read of an event is of a step that read the cell, with its tag then.
use Rattle.ppd_model.specs.Setting.{Setting}
use Rattle.std.proofs.Common.{◌≡◌, ℕ, zero, suc, ◌+◌, ◌<◌, Bool, true, false, List, [], ◌∷◌, ◌++◌, Some, None, refl, ap, ap₂, sym, subst, ◌∙◌, arith, length, get_or, true≢false}
use Rattle.std.specs.Prelude.{fold, slice_get}
use Rattle.std.proofs.lemmas.List.{append_assoc}
use Rattle.ppd_ast.specs.Valid.{IsValid}
use Rattle.ppd_ast.proofs.ValidLaws.{slice_get_below}
use Rattle.ppd_ast.specs.Counting.{one_if}
use Rattle.ppd_sem.specs.declared.event.Access.{Access}
use Rattle.ppd_sem.specs.declared.event.Spot.TheVariants.{Shared}
use Rattle.ppd_sem.specs.declared.proc.Need.{Need}
use Rattle.ppd_sem.specs.declared.proc.Need.TheVariants as n
use Rattle.ppd_sem.specs.Process.{need_of, started}
use Rattle.ppd_sem.specs.Described.{is_event}
use Rattle.ppd_model.specs.declared.trace.TracedEvent.{TracedEvent}
use Rattle.ppd_model.specs.declared.tracing.Taken.{Taken}
use Rattle.ppd_model.specs.declared.tracing.Tracing.{Tracing}
use Rattle.ppd_model.specs.FullTrace.{Tag, begun_tracing, trace_step}
use Rattle.ppd_model.specs.Intervals.{Split}
use Rattle.ppd_model.specs.Laws.{begins}
use Rattle.ppd_model.specs.LocalTags.{AreOwn}
use Rattle.ppd_model.specs.SharedReads.{need_after}
use Rattle.ppd_model.specs.Story.{story, told, writer_of}
use Rattle.ppd_model.proofs.Changes.{some}
use Rattle.ppd_model.proofs.Parents.{own_from, own_to}
use Rattle.law_steps.proofs.StaticEdges.SharedCells.Writers.{events_in}
use Rattle.law_steps.proofs.StaticEdges.SharedCells.SharedReads.{runs_on}
use Rattle.law_flow.proofs.Edges.StepEvents.Marks.{at_event, length_is}
use Rattle.law_flow.proofs.Edges.StepEvents.Processes.{Facts}
use Rattle.law_flow.proofs.Edges.StepEvents.ReadTags.{HasAnswers, ReadIs, answers_all, answers_start, read_is}
use Rattle.law_flow.proofs.Edges.Spans.Steps.{headed, new_event}
use Rattle.law_flow.proofs.Edges.StepEvents.Timeline.{IsTakenAt, did, none_did, taken_at}

-- the step of event n of these steps
pub record IsStep (xs : List Taken) (n : ℕ) : Type 0 where
  pub before : List Taken
  pub step : Taken
  pub after : List Taken
  pub are : xs ≡ before ++ step ∷ after
  pub finishes : is_event step.need ≡ true
  pub number : events_in before ≡ n

pub step_of : (xs : List Taken) (n : ℕ) → n < events_in xs → IsStep xs n
step_of [] n lt = absurd (omega (arith, lt))
step_of (x ∷ xs) n lt = by (is_event x.need) refl n lt (step_of xs)
  where
    more : (k m : ℕ) → one_if (is_event x.need) + k ≡ m → IsStep xs k → IsStep (x ∷ xs) m
    more k m e s = record { before = x ∷ s.before; step = s.step; after = s.after; are = ap (λ l. x ∷ l) s.are; finishes = s.finishes; number = ap (λ z. one_if (is_event x.need) + z) s.number ∙ e }

    by : (b : Bool) → is_event x.need ≡ b → (m : ℕ) → m < one_if (is_event x.need) + events_in xs → ((k : ℕ) → k < events_in xs → IsStep xs k) → IsStep (x ∷ xs) m
    by true e zero lt' rest = record { before = []; step = x; after = xs; are = refl; finishes = e; number = refl }
    by true e (suc k) lt' rest =
        let one : one_if (is_event x.need) ≡ 1 = ap one_if e in
        more k (suc k) (let z : one_if (is_event x.need) + k ≡ suc k = omega (arith, one) in z) (rest k (omega (arith, lt', one)))
    by false e m lt' rest =
        let none : one_if (is_event x.need) ≡ 0 = ap one_if e in
        more m m (let z : one_if (is_event x.need) + m ≡ m = omega (arith, none) in z) (rest m (omega (arith, lt', none)))

module _ (setting : Setting) (h : List ℕ) (v : IsValid setting.program) where
  -- a step of process p reads the cell, with this tag, after so many of its events
  pub record ReadsAt (p : ℕ) (number c : ℕ) (tag : Tag) : Type 0 where
    pub sooner : List ℕ
    pub later : List ℕ
    pub schedule_is : h ≡ sooner ++ p ∷ later
    pub needs : need_after setting sooner p ≡ n.Read c
    pub tag_is : tag ≡ get_or (told setting sooner).writers c None
    pub events_are : events_in (did (told setting sooner) p) ≡ number

  module _ (p : ℕ) (x : Split) (f : Facts setting h v p x) where
    abbrev steps : List Taken
    steps = did (told setting h) p

    abbrev after_all : List Taken → Tracing
    after_all xs = fold (trace_step setting.program setting.plan (story setting h) p) (begun_tracing (started setting.program setting.plan p setting.budget)) xs

    -- a step that reads
    reads_of : (before : List Taken) (y : Taken) (after : List Taken) → steps ≡ before ++ y ∷ after → (k : ℕ) → k ≡ events_in before → ReadIs (ReadsAt p k) y.need y.writer
    reads_of before y after e k number = by y.need refl
      where
        t : IsTakenAt setting.program setting.plan (begins setting) h p before y
        t = taken_at setting.program setting.plan (begins setting) h p before y after e (let z : length (did (begins setting) p) ≡ 0 = ap length (none_did setting.program setting.plan setting.budget p) in omega (arith, z))

        by : (m : Need) → y.need ≡ m → ReadIs (ReadsAt p k) m y.writer
        by (n.Read c) is = record {
          sooner = t.sooner;
          later = t.later;
          schedule_is = t.schedule_is;
          needs = ap (λ (z : Taken). z.need) t.step_is ∙ is;
          tag_is = ap (λ (z : Taken). z.writer) (sym t.step_is) ∙ ap (writer_of (told setting t.sooner)) (ap (λ (z : Taken). z.need) t.step_is ∙ is);
          events_are = ap events_in t.did_before ∙ sym number;
        }
        by m is = tt

    answers_here : (before : List Taken) (y : Taken) (after : List Taken) → steps ≡ before ++ y ∷ after → HasAnswers (ReadsAt p (length (after_all before).events)) setting.program (after_all before).proc (after_all before).answers
    answers_here before y after e =
        answers_all (ReadsAt p) setting.program setting.plan (story setting h) p (begun_tracing (started setting.program setting.plan p setting.budget)) before
        (own_to setting.program setting.plan (story setting h) p (started setting.program setting.plan p setting.budget) before (y ∷ after) (subst (AreOwn setting.program setting.plan (started setting.program setting.plan p setting.budget)) e f.steps_own))
        (λ b z a g. reads_of b z (a ++ y ∷ after) (e ∙ ap (λ l. l ++ y ∷ after) g ∙ append_assoc b (z ∷ a) (y ∷ after)) (length (after_all b).events)
        (length_is setting (story setting h) p steps f.steps_own f.steps_numbered b))
        (answers_start (ReadsAt p) setting.program setting.plan (story setting h) p setting.budget)

    -- a shared read of an event
    pub reads_at : (number : ℕ) (e : TracedEvent) (i c : ℕ) (a : Access) (tag : Tag) → slice_get x.trace.events number ≡ Some e → slice_get e.event.reads i ≡ Some a → a.spot ≡ Shared c → slice_get e.writers i ≡ Some tag → ReadsAt p number c tag
    reads_at number e i c a tag there read spot writer =
        let lt : number < length x.trace.events = slice_get_below x.trace.events number e there in
        let long : length x.trace.events ≡ events_in steps = ap length f.events_are ∙ length_is setting (story setting h) p steps f.steps_own f.steps_numbered steps in
        let s : IsStep steps number = step_of steps number (omega (arith, lt, long)) in
        let u : Tracing = after_all s.before in
        let mine : s.step.need ≡ need_of setting.program setting.plan u.proc = (own_from setting.program setting.plan (story setting h) p (begun_tracing (started setting.program setting.plan p setting.budget)) s.before (s.step ∷ s.after) (subst (AreOwn setting.program setting.plan (started setting.program setting.plan p setting.budget)) s.are f.steps_own)).0 in
        let finishes : is_event (need_of setting.program setting.plan u.proc) ≡ true = ap is_event (sym mine) ∙ s.finishes in
        let head = headed setting.program setting.plan u.proc finishes in
        let event : slice_get x.trace.events number ≡ Some (new_event setting.program setting.plan (story setting h) p s.step u) =
        ap₂ (λ es k. slice_get es k) f.events_are (sym s.number) ∙ at_event setting (story setting h) p steps f.steps_own f.steps_numbered s.before s.step s.after s.are s.finishes in
        let same : e ≡ new_event setting.program setting.plan (story setting h) p s.step u = some (sym there ∙ event) in
        let count : length u.events ≡ number = length_is setting (story setting h) p steps f.steps_own f.steps_numbered s.before ∙ s.number in
        subst (λ k. ReadsAt p k c tag) count
        (read_is (ReadsAt p) setting.program setting.plan (story setting h) p u s.step head.0 head.1 i c a tag head.2 (runs_on setting.program setting.plan u.proc finishes) (answers_here s.before s.step s.after s.are)
        (ap (λ (z : TracedEvent). slice_get z.event.reads i) (sym same) ∙ read) spot (ap (λ (z : TracedEvent). slice_get z.writers i) (sym same) ∙ writer))
