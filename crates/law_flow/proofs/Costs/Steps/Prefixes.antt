-- A process after some of its steps: the intervals that run then are open in the edge of the next step.
use Rattle.ppd_model.specs.Setting.{Setting}
use Rattle.ppd_model.specs.Synchronizations.{sync_of}
use Rattle.std.proofs.Common.{◌≡◌, ℕ, ◌+◌, ◌<◌, ◌≤◌, Bool, true, false, List, [], ◌∷◌, ◌++◌, Option, Some, None, refl, ap, ap₂, sym, ◌∙◌, subst, arith, length, true≢false, inl, inr, if◌then◌else◌}
use Rattle.std.specs.Prelude.{fold, option_map, slice_get, filter_map}
use Rattle.std.proofs.lemmas.List.Sums.{fold-append}
use Rattle.ppd_ast.specs.Valid.{IsValid}
use Rattle.ppd_ast.specs.declared.status.Status.{Status}
use Rattle.ppd_model.specs.declared.entry.Entry.{Entry}
use Rattle.ppd_sem.specs.Process.{need_of, started}
use Rattle.ppd_sem.proofs.Progress.{need_at_status}
use Rattle.ppd_sem.specs.declared.proc.Need.{Need}
use Rattle.ppd_sem.specs.Described.{is_event}
use Rattle.ppd_model.specs.FullTrace.{begun_tracing, tracing_of}
use Rattle.ppd_model.specs.Intervals.{own, Span, Split, begun_split, change_first, innermost, split_of, split_step, with_own, with_part, with_step}
use Rattle.ppd_model.specs.LocalTags.{AreOwn}
use Rattle.ppd_model.specs.Logs.{log_of}
use Rattle.ppd_model.specs.Story.{story, told}
use Rattle.ppd_model.specs.declared.tracing.Taken.{Taken}
use Rattle.ppd_model.specs.declared.tracing.Tracing.{Tracing}
use Rattle.ppd_model.proofs.Changes.{change-at, some}
use Rattle.ppd_model.proofs.CountedOn.{kept_at, last_at}
use Rattle.ppd_model.proofs.Items.{step_keeps}
use Rattle.ppd_model.proofs.Parents.{own_from, own_to}
use Rattle.ppd_model.proofs.States.{follow}
use Rattle.ppd_model.proofs.Tested.{In}
use Rattle.law_steps.proofs.StaticEdges.SharedCells.Writers.{events_in}
use Rattle.law_flow.specs.Edges.Near.{IsOpenAt}
use Rattle.law_flow.proofs.Edges.Near.Timed.{edge_at}
use Rattle.law_flow.proofs.Edges.Spans.Kept.{IsKept, kept}
use Rattle.law_flow.proofs.Edges.Spans.Told.{AreTiled, IsInnermost}
use Rattle.law_flow.proofs.Edges.StepEvents.Marks.{length_is, numbered_to}
use Rattle.law_flow.proofs.Edges.StepEvents.Processes.{Facts, closed_told}
use Rattle.law_flow.proofs.Edges.StepEvents.Timeline.{did}
use Rattle.law_flow.proofs.Edges.Spans.Steps.{AreNumbered}
use Rattle.law_flow.proofs.Costs.Steps.Lasting.{Holds, Lasts, all_steps, are_begun, marks_hold, step_holds}
use Rattle.law_flow.proofs.Costs.Steps.Open.{IsUnleft, open_if, tiled_unleft, tiled_zero, unclosed}
use Rattle.law_flow.proofs.Costs.Steps.Moments.{bares, bares_are, edge_counts, edges_long}

-- ---- a process of a schedule

module _ (setting : Setting) (h : List ℕ) (v : IsValid setting.program) (q : ℕ) (x : Split) (f : Facts setting h v q x) where
  abbrev steps : List Taken
  steps = did (told setting h) q

  pub all_is : split_of setting (story setting h) q (did (told setting h) q) ≡ x
  all_is = (closed_told setting h v q x f.there).0

  pub rest_is : (done rest : List Taken) → did (told setting h) q ≡ done ++ rest → fold (split_step setting.program setting.plan (story setting h) q) (split_of setting (story setting h) q done) rest ≡ x
  rest_is done rest e =
      sym (fold-append (split_step setting.program setting.plan (story setting h) q) (begun_split setting.program setting.plan q (started setting.program setting.plan q setting.budget)) done rest)
      ∙ ap (λ ts. split_of setting (story setting h) q ts) (sym e) ∙ all_is

  pub upto_long : (done : List Taken) → length (split_of setting (story setting h) q done).edges ≡ length done
  upto_long done = edges_long setting.program setting.plan (story setting h) q (begun_split setting.program setting.plan q (started setting.program setting.plan q setting.budget)) done ∙ (let z : 0 + length done ≡ length done = omega arith in z)

  -- the edge of the step after these
  pub edge_of_step : (done : List Taken) (y : Taken) (rest : List Taken) → did (told setting h) q ≡ done ++ y ∷ rest → slice_get x.edges (length done) ≡ Some (length (filter_map sync_of done))
  edge_of_step done y rest e =
      let begun : Split = begun_split setting.program setting.plan q (started setting.program setting.plan q setting.budget) in
      let z : length done ≡ 0 + length done = omega arith in
      let w : 0 + length (filter_map sync_of done) ≡ length (filter_map sync_of done) = omega arith in
      ap₂ (λ (t : Split) k. slice_get t.edges k) (sym (ap (λ ts. split_of setting (story setting h) q ts) (sym e) ∙ all_is)) z
      ∙ edge_at setting.program setting.plan (story setting h) q begun done rest y
      ∙ ap (λ k. Some k) (edge_counts setting.program setting.plan (story setting h) q begun done ∙ w)

  pub kept_then : (done rest : List Taken) → did (told setting h) q ≡ done ++ rest
      → IsKept setting.program setting.plan (story setting h) q (log_of setting q (bares done)) (split_of setting (story setting h) q done)
  kept_then done rest e =
      subst (λ ts. IsKept setting.program setting.plan (story setting h) q (log_of setting q (bares done)) (split_of setting (story setting h) q ts)) (bares_are done)
      (kept setting.program setting.plan (story setting h) q v setting.budget (bares done)
      (subst (λ ts. AreOwn setting.program setting.plan (started setting.program setting.plan q setting.budget) ts) (sym (bares_are done))
      (own_to setting.program setting.plan (story setting h) q (started setting.program setting.plan q setting.budget) done rest (subst (λ ts. AreOwn setting.program setting.plan (started setting.program setting.plan q setting.budget) ts) e f.steps_own)))
      (subst AreNumbered (sym (bares_are done)) (numbered_to done rest (subst AreNumbered e f.steps_numbered))))

  -- ---- what runs at a step

  abbrev IsThrough : ℕ → Span → Type 0
  IsThrough t i = (i.opened ≤ t) × ((u : ℕ) → i.closed ≡ Some u → t ≤ u)

  through_lasts : (t : ℕ) → Lasts (IsThrough t) t
  through_lasts t = record {
    steps = λ i k g. g;
    parts = λ i r g. g;
    ends = λ i u vs ws le g. (g.0, λ w e. subst (λ z. t ≤ z) (some e) le);
  }

  -- an interval that runs before a step is open in the step's edge
  pub runs_open : (done : List Taken) (y : Taken) (rest : List Taken) → did (told setting h) q ≡ done ++ y ∷ rest → (z : ℕ) → In z (split_of setting (story setting h) q done).running
      → IsOpenAt x (length (filter_map sync_of done)) z
  runs_open done y rest e z i =
      let k = kept_then done (y ∷ rest) e in
      let w : Split = split_of setting (story setting h) q done in
      let u : Holds IsUnleft w.spans z = tiled_unleft (log_of setting q (bares done)).entries w.trace.events w.spans w.running (length w.trace.events) k.told.tiled z i in
      let long : length (split_of setting (story setting h) q done).edges ≡ length done = upto_long done in
      let from : u.0.opened ≤ length done = elim (are_begun setting.program setting.plan (story setting h) q setting.budget done z u.0 u.1) [ inl o ↦ omega (arith, o) | inr lt ↦ omega (arith, lt, long) ] in
      let now : Holds (IsThrough (length done)) (split_of setting (story setting h) q done).spans z = (u.0, u.1, (from, λ w g. absurd (unclosed u.0 u.2 w g))) in
      let then' = all_steps (IsThrough (length done)) (length done) (through_lasts (length done)) setting.program setting.plan (story setting h) q (split_of setting (story setting h) q done) (y ∷ rest) z (omega (arith, long)) now in
      let last : Holds (IsThrough (length done)) x.spans z = subst (λ (w : Split). Holds (IsThrough (length done)) w.spans z) (rest_is done (y ∷ rest) e) then' in
      record {
        span = last.0;
        is_there = last.1;
        is_open = open_if x.edges last.0 (length done) (length (filter_map sync_of done)) last.2.0 last.2.1 (edge_of_step done y rest e);
      }

  -- ---- the innermost interval at a step that is an event

  -- one runs
  pub one_runs : (done : List Taken) (y : Taken) (rest : List Taken) → did (told setting h) q ≡ done ++ y ∷ rest → is_event y.need ≡ true
      → (m : ℕ) × (ms : List ℕ) × ((split_of setting (story setting h) q done).running ≡ m ∷ ms)
  one_runs done y rest e is = by (split_of setting (story setting h) q done).running refl
    where
      k : IsKept setting.program setting.plan (story setting h) q (log_of setting q (bares done)) (split_of setting (story setting h) q done)
      k = kept_then done (y ∷ rest) e

      trace : (split_of setting (story setting h) q done).trace ≡ tracing_of setting (story setting h) q done
      trace = (follow setting h).split (story setting h) q done

      mine : y.need ≡ need_of setting.program setting.plan (split_of setting (story setting h) q done).trace.proc
      mine =
          (own_from setting.program setting.plan (story setting h) q (begun_tracing (started setting.program setting.plan q setting.budget)) done (y ∷ rest) (subst (λ ts. AreOwn setting.program setting.plan (started setting.program setting.plan q setting.budget) ts) e f.steps_own)).0
          ∙ ap (λ (t : Tracing). need_of setting.program setting.plan t.proc) (sym trace)

      runs : (o : Option Status) → (split_of setting (story setting h) q done).trace.proc.status ≡ o → 0 < length (split_of setting (story setting h) q done).running
      runs None g = let enough = k.inside.enough g in omega (arith, enough)
      runs (Some st) g = absurd (true≢false (sym is ∙ ap is_event (mine ∙ need_at_status setting.program setting.plan (split_of setting (story setting h) q done).trace.proc (Some st) g)))

      by : (ks : List ℕ) → (split_of setting (story setting h) q done).running ≡ ks
          → (m : ℕ) × (ms : List ℕ) × ((split_of setting (story setting h) q done).running ≡ m ∷ ms)
      by [] g = absurd (let lt = runs (split_of setting (story setting h) q done).trace.proc.status refl in let z : length (split_of setting (story setting h) q done).running ≡ 0 = ap length g in omega (arith, lt, z))
      by (m ∷ ms) g = (m, ms, g)

  -- and so does interval 0
  pub zero_runs : (done : List Taken) (y : Taken) (rest : List Taken) → did (told setting h) q ≡ done ++ y ∷ rest → is_event y.need ≡ true
      → In 0 (split_of setting (story setting h) q done).running
  zero_runs done y rest e is =
      let r = one_runs done y rest e is in
      let z : Split = split_of setting (story setting h) q done in
      let k = kept_then done (y ∷ rest) e in
      let entries : List Entry = (log_of setting q (bares done)).entries in
      subst (λ ks. In 0 ks) (sym r.2)
      (tiled_zero entries z.trace.events z.spans r.0 r.1 (length z.trace.events)
      (subst (λ ks. AreTiled entries z.trace.events z.spans ks (length z.trace.events)) r.2 k.told.tiled))

  abbrev HasPart : ℕ → Span → Type 0
  HasPart n i = (a : ℕ) × (slice_get i.parts a ≡ Some (own n))

  part_lasts : (n : ℕ) → Lasts (HasPart n) 0
  part_lasts n = record {
    steps = λ i k g. g;
    parts = λ i r g. (g.0, kept_at i.parts (r ∷ []) g.0 (own n) g.1);
    ends = λ i u vs ws le g. g;
  }

  put : (z : Split) (need : Need) (m : ℕ) (ms : List ℕ) → is_event need ≡ true → z.running ≡ m ∷ ms → (i : Span) → slice_get z.spans m ≡ Some i → Holds (HasPart (length z.trace.events)) (with_own need z).spans m
  put z need m ms is runs i there = by (is_event need) is
    where
      by : (b : Bool) → b ≡ true → Holds (HasPart (length z.trace.events)) (if b then innermost (with_part (own (length z.trace.events))) z else z).spans m
      by false e = absurd (true≢false (sym e))
      by true e =
          let at : slice_get (change_first (with_part (own (length z.trace.events))) z.running z.spans) m ≡ Some (with_part (own (length z.trace.events)) i) =
          ap (λ ks. slice_get (change_first (with_part (own (length z.trace.events))) ks z.spans) m) runs ∙ change-at (with_part (own (length z.trace.events))) m z.spans ∙ ap (option_map (with_part (own (length z.trace.events)))) there in
          (with_part (own (length z.trace.events)) i, at, (length i.parts, last_at i.parts (own (length z.trace.events))))

  -- it has the event as a part, and what is round it runs
  pub record IsHome (done : List Taken) : Type 0 where
    pub interval : ℕ
    pub around : List ℕ
    pub runs : (split_of setting (story setting h) q done).running ≡ interval ∷ around
    pub span : Span
    pub there : slice_get x.spans interval ≡ Some span
    pub round : span.round ≡ around
    pub place : ℕ
    pub part : slice_get span.parts place ≡ Some (own (events_in done))

  pub home : (done : List Taken) (y : Taken) (rest : List Taken) → did (told setting h) q ≡ done ++ y ∷ rest → is_event y.need ≡ true → IsHome done
  home done y rest e is =
      let r = one_runs done y rest e is in
      let z : Split = split_of setting (story setting h) q done in
      let k = kept_then done (y ∷ rest) e in
      let entries : List Entry = (log_of setting q (bares done)).entries in
      let t : IsInnermost entries z.trace.events z.spans r.0 r.1 (length z.trace.events) = subst (λ ks. AreTiled entries z.trace.events z.spans ks (length z.trace.events)) r.2 k.told.tiled in
      let n : length z.trace.events ≡ events_in done =
      ap (λ (w : Tracing). length w.events) ((follow setting h).split (story setting h) q done)
      ∙ length_is setting (story setting h) q (did (told setting h) q) f.steps_own f.steps_numbered done in
      let a : Split = with_step y.need z in
      let keeps = step_keeps y.need z in
      let same_round : Lasts (λ (i : Span). i.round ≡ r.1) 0 = record { steps = λ i w g. g; parts = λ i w g. g; ends = λ i w vs ws le g. g } in
      let round_a : Holds (λ (i : Span). i.round ≡ r.1) a.spans r.0 = step_holds (λ (i : Span). i.round ≡ r.1) 0 same_round y.need z r.0 (t.span, t.there, t.round) in
      let put_a : Holds (HasPart (length a.trace.events)) (with_own y.need a).spans r.0 = put a y.need r.0 r.1 is (keeps.0 ∙ r.2) round_a.0 round_a.1 in
      let put_z : Holds (HasPart (events_in done)) (with_own y.need a).spans r.0 = subst (λ w. Holds (HasPart w) (with_own y.need a).spans r.0) (ap (λ (w : Tracing). length w.events) keeps.1 ∙ n) put_a in
      let one : Holds (HasPart (events_in done)) (split_step setting.program setting.plan (story setting h) q z y).spans r.0 =
      marks_hold (HasPart (events_in done)) 0 (part_lasts (events_in done)) setting.program setting.plan (story setting h) q z y r.0 (omega arith) put_z in
      let final : Holds (HasPart (events_in done)) x.spans r.0 =
      subst (λ (w : Split). Holds (HasPart (events_in done)) w.spans r.0) (rest_is done (y ∷ rest) e)
      (all_steps (HasPart (events_in done)) 0 (part_lasts (events_in done)) setting.program setting.plan (story setting h) q (split_step setting.program setting.plan (story setting h) q z y) rest r.0 (omega arith) one) in
      let round_x : Holds (λ (i : Span). i.round ≡ r.1) x.spans r.0 =
      subst (λ (w : Split). Holds (λ (i : Span). i.round ≡ r.1) w.spans r.0) (rest_is done (y ∷ rest) e)
      (all_steps (λ (i : Span). i.round ≡ r.1) 0 same_round setting.program setting.plan (story setting h) q z (y ∷ rest) r.0 (omega arith) (t.span, t.there, t.round)) in
      record {
        interval = r.0;
        around = r.1;
        runs = r.2;
        span = final.0;
        there = final.1;
        round = ap (λ (w : Span). w.round) (some (sym final.1 ∙ round_x.1)) ∙ round_x.2;
        place = final.2.0;
        part = final.2.1;
      }
