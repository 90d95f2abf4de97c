-- What holds of a process of a schedule: its log tells of its intervals and events.
use Rattle.ppd_model.specs.Setting.{Setting}
use Rattle.std.proofs.Common.{◌≡◌, ℕ, zero, suc, ◌+◌, Bool, true, false, List, [], ◌∷◌, ◌++◌, Some, refl, ap, ap₂, sym, subst, ◌∙◌, arith, map, get_or, if◌then◌else◌}
use Rattle.std.specs.Prelude.{is_none, slice_get}
use Rattle.std.proofs.lemmas.List.{append-nil}
use Rattle.std.proofs.lemmas.Option.{none-some}
use Rattle.ppd_ast.specs.Valid.{IsValid}
use Rattle.ppd_ast.specs.declared.status.Status.TheVariants as status
use Rattle.ppd_model.specs.declared.entry.Entry.TheVariants as entry
use Rattle.ppd_sem.specs.Process.{started}
use Rattle.ppd_model.specs.declared.state.Logging.{Logging}
use Rattle.ppd_model.specs.declared.tracing.Story.{Story}
use Rattle.ppd_model.specs.declared.tracing.Tracing.{Tracing}
use Rattle.ppd_model.specs.FullTrace.{tracing_of}
use Rattle.ppd_model.specs.Intervals.{Split, split_of, splits}
use Rattle.ppd_model.proofs.IntervalWords.{splits_from}
use Rattle.ppd_model.specs.LocalTags.{AreOwn}
use Rattle.ppd_model.specs.Logs.{closed_log, closed_logs, log_of}
use Rattle.ppd_model.proofs.LogWords.{logs_from}
use Rattle.ppd_model.specs.RecordedSets.{RecordsAccesses}
use Rattle.ppd_model.specs.Written.{AreOfSteps}
use Rattle.ppd_model.specs.Story.{Moment, steps_of, story, told}
use Rattle.ppd_model.proofs.Changes.{some}
use Rattle.ppd_model.proofs.Items.{split_found}
use Rattle.ppd_model.proofs.LocalTags.{own_steps_told}
use Rattle.ppd_model.proofs.RecordedSets.{record_sets}
use Rattle.ppd_model.proofs.States.{follow}
use Rattle.ppd_model.proofs.WrittenSpans.{intervals_of_steps}
use Rattle.ppd_model.proofs.Lists.{map_get}
use Rattle.ppd_graph.specs.Seen.{seen_of}
use Rattle.ppd_graph.specs.Shared.{seen_at}
use Rattle.law_flow.proofs.Edges.Spans.Steps.{end_told, AreNumbered}
use Rattle.law_flow.proofs.Edges.Spans.Kept.{IsKept, kept}
use Rattle.law_flow.proofs.Edges.StepEvents.Timeline.{did, numbered_told, own_is}
use Rattle.law_flow.proofs.Edges.Spans.Told.{IsTold}

got_or : {A : Type 0} (xs : List A) (i : ℕ) (d y : A) → slice_get xs i ≡ Some y → get_or xs i d ≡ y
got_or [] i d y e = absurd (none-some y e)
got_or (x ∷ xs) zero d y e = some e
got_or (x ∷ xs) (suc i) d y e = got_or xs i d y e

module _ (setting : Setting) where
  -- the moments of a process that has intervals
  moments_found : (s : Story) (q : ℕ) (ms : List (List Moment)) (p : ℕ) (x : Split) → slice_get (splits_from setting s q (map steps_of ms)) p ≡ Some x → slice_get ms p ≡ Some (get_or ms p [])
  moments_found s q [] p x e = absurd (none-some x e)
  moments_found s q (m ∷ ms) zero x e = refl
  moments_found s q (m ∷ ms) (suc p) x e = moments_found s (q + 1) ms p x e

  log_found : (q : ℕ) (ms : List (List Moment)) (p : ℕ) (m : List Moment) → slice_get ms p ≡ Some m → slice_get (map closed_log (logs_from setting q ms)) p ≡ Some (closed_log (log_of setting (q + p) m))
  log_found q [] p m e = absurd (none-some m e)
  log_found q (n ∷ ms) zero m e = let z : q ≡ q + 0 = omega arith in ap₂ (λ k l. Some (closed_log (log_of setting k l))) z (some e)
  log_found q (n ∷ ms) (suc p) m e = log_found (q + 1) ms p m e ∙ (let z : q + 1 + p ≡ q + suc p = omega arith in ap (λ k. Some (closed_log (log_of setting k m))) z)

  closing : (p : ℕ) (l : Logging) (x : Split) → IsTold l.entries x.trace.events x.spans x.running → IsTold (closed_log l) x.trace.events x.spans x.running
  closing p l x h = by (is_none l.proc.status)
    where
      by : (b : Bool) → IsTold (l.entries ++ (if b then entry.End status.Blocked l.rest l.reads l.writes ∷ [] else [])) x.trace.events x.spans x.running
      by true = end_told status.Blocked l.rest l.reads l.writes l.entries x.trace.events x.spans x.running h
      by false = subst (λ es. IsTold es x.trace.events x.spans x.running) (sym (append-nil l.entries)) h

  module _ (h : List ℕ) (v : IsValid setting.program) where
    abbrev xs : List Split
    xs = splits setting (story setting h)

    -- a process with its intervals x
    pub record Facts (p : ℕ) (x : Split) : Type 0 where
      pub there : slice_get xs p ≡ Some x
      pub steps_own : AreOwn setting.program setting.plan (started setting.program setting.plan p setting.budget) (did (told setting h) p)
      pub steps_numbered : AreNumbered (did (told setting h) p)
      pub events_are : x.trace.events ≡ (tracing_of setting (story setting h) p (did (told setting h) p)).events
      pub told_by : IsTold (get_or (closed_logs setting h).lists p []) x.trace.events x.spans x.running
      pub records : RecordsAccesses (story setting h) p (get_or (closed_logs setting h).lists p [])
      pub seen_is : seen_at (map (λ z. seen_of z) xs) p ≡ seen_of x

    -- its moments, and what they tell
    abbrev moments_of : ℕ → List Moment
    moments_of p = get_or (told setting h).moments p []

    pub closed_told : (p : ℕ) (x : Split) → slice_get xs p ≡ Some x
        → (split_of setting (story setting h) p (steps_of (moments_of p)) ≡ x) × AreOfSteps setting p x (moments_of p)
        × IsTold (closed_log (log_of setting p (moments_of p))) x.trace.events x.spans x.running
    closed_told p x e =
        let s : Story = story setting h in
        let ms : List Moment = get_or (told setting h).moments p [] in
        let z : 0 + p ≡ p = omega arith in
        let own_steps_are : get_or s.steps p [] ≡ steps_of ms = own_is setting.program setting.plan setting.budget h p in
        let mine : AreOwn setting.program setting.plan (started setting.program setting.plan p setting.budget) (steps_of ms) = subst (AreOwn setting.program setting.plan (started setting.program setting.plan p setting.budget)) own_steps_are (own_steps_told setting h p) in
        let split_is : split_of setting s p (steps_of ms) ≡ x = ap₂ (λ k l. split_of setting s k l) (sym z) (sym own_steps_are) ∙ split_found setting s 0 s.steps p x e in
        let k : IsKept setting.program setting.plan s p (log_of setting p ms) (split_of setting s p (steps_of ms)) = kept setting.program setting.plan s p v setting.budget ms mine (numbered_told setting.program setting.plan setting.budget h p) in (
          split_is,
          intervals_of_steps setting h p x ms e (moments_found s 0 (told setting h).moments p x e),
          subst (λ (y : Split). IsTold (closed_log (log_of setting p ms)) y.trace.events y.spans y.running) split_is
              (closing p (log_of setting p ms) (split_of setting s p (steps_of ms)) k.told),
        )

    pub facts : (p : ℕ) (x : Split) → slice_get xs p ≡ Some x → Facts p x
    facts p x e =
        let s : Story = story setting h in
        let ms : List Moment = get_or (told setting h).moments p [] in
        let z : 0 + p ≡ p = omega arith in
        let own_steps_are : get_or s.steps p [] ≡ steps_of ms = own_is setting.program setting.plan setting.budget h p in
        let mine : AreOwn setting.program setting.plan (started setting.program setting.plan p setting.budget) (steps_of ms) = subst (AreOwn setting.program setting.plan (started setting.program setting.plan p setting.budget)) own_steps_are (own_steps_told setting h p) in
        let numbers : AreNumbered (steps_of ms) = numbered_told setting.program setting.plan setting.budget h p in
        let split_is : split_of setting s p (steps_of ms) ≡ x = ap₂ (λ k l. split_of setting s k l) (sym z) (sym own_steps_are) ∙ split_found setting s 0 s.steps p x e in
        let k : IsKept setting.program setting.plan s p (log_of setting p ms) (split_of setting s p (steps_of ms)) = kept setting.program setting.plan s p v setting.budget ms mine numbers in
        let log_there : slice_get (closed_logs setting h).lists p ≡ Some (closed_log (log_of setting p ms)) =
        log_found 0 (told setting h).moments p ms (moments_found s 0 (told setting h).moments p x e) ∙ ap (λ j. Some (closed_log (log_of setting j ms))) z in
        let entries_are : get_or (closed_logs setting h).lists p [] ≡ closed_log (log_of setting p ms) = got_or (closed_logs setting h).lists p [] (closed_log (log_of setting p ms)) log_there in
        record {
          there = e;
          steps_own = mine;
          steps_numbered = numbers;
          events_are = ap (λ (y : Split). y.trace.events) (sym split_is) ∙ ap (λ (t : Tracing). t.events) ((follow setting h).split s p (steps_of ms));
          told_by = subst (λ es. IsTold es x.trace.events x.spans x.running) (sym entries_are)
              (subst (λ (y : Split). IsTold (closed_log (log_of setting p ms)) y.trace.events y.spans y.running) split_is
              (closing p (log_of setting p ms) (split_of setting s p (steps_of ms)) k.told));
          records = record_sets setting h p (get_or (closed_logs setting h).lists p []) v (log_there ∙ ap (λ l. Some l) (sym entries_are));
          seen_is = got_or (map (λ z. seen_of z) xs) p (record { items = []; blocks = []; rounds = [] }) (seen_of x) (map_get (λ z. seen_of z) xs p x e);
        }
