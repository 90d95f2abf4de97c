-- After all steps of a process its entries tell of its intervals and events.
use Rattle.ppd_model.specs.Setting.{setting_of}
use Rattle.std.proofs.Common.{◌≡◌, ℕ, zero, suc, ◌+◌, List, [], ◌∷◌, ◌++◌, Option, Some, None, refl, ap, ap₂, sym, subst, ◌∙◌, arith, length, true≢false}
use Rattle.std.specs.Prelude.{◌-◌, fold, slice_get}
use Rattle.std.proofs.lemmas.Option.{none-some}
use Rattle.ppd_ast.specs.Valid.{IsValid}
use Rattle.ppd_ast.specs.declared.plan.Plan.{Plan}
use Rattle.ppd_ast.specs.declared.program.Program.{Program}
use Rattle.ppd_ast.specs.declared.status.Status.{Status}
use Rattle.ppd_sem.specs.Described.{frame_of}
use Rattle.ppd_sem.specs.Process.{act, need_of, started}
use Rattle.ppd_sem.proofs.Progress.{need_at_status}
use Rattle.ppd_model.specs.declared.state.Logging.{Logging}
use Rattle.ppd_model.specs.declared.tracing.Story.{Story}
use Rattle.ppd_model.specs.declared.tracing.Taken.{Taken}
use Rattle.ppd_model.specs.FullTrace.{me_in, top_tags}
use Rattle.ppd_model.specs.Intervals.{Span, Split, begun_split, control_by, left_by, split_of, split_step, with_own, with_step}
use Rattle.ppd_model.proofs.IntervalWords.{end_if}
use Rattle.ppd_model.specs.LocalTags.{AreOwn}
use Rattle.ppd_model.specs.Logs.{begun_log, entries_of, log_of, log_step}
use Rattle.ppd_model.specs.Marks.{closed, opened}
use Rattle.ppd_model.specs.Story.{Moment, steps_of}
use Rattle.ppd_model.proofs.Changes.{some}
use Rattle.ppd_model.proofs.Inside.{IsInside, inside_begun, inside_step, running_after}
use Rattle.ppd_model.proofs.Items.{begin_count, begins_is, end_count, ends_is, own_keeps, step_keeps}
use Rattle.law_flow.proofs.Edges.Spans.Facts.{OpensAt}
use Rattle.law_flow.proofs.Edges.Spans.Tiles.{none, ends as no_parts, outermost}
use Rattle.law_flow.proofs.Edges.Spans.Told.{IsPlaced, IsTold, outside}
use Rattle.law_flow.proofs.Edges.Spans.Steps.{IsNumbered, at_stop, by_step, AreNumbered}

module _ (program : Program) (plan : Plan) (story' : Story) (p : ℕ) where
  counts : (x : Split) (t : Taken) → length (split_step program plan story' p x t).running ≡ running_after t.need (length x.running)
  counts x t =
      let b : Split = with_own t.need (with_step t.need x) in
      let running_b : b.running ≡ x.running = (own_keeps t.need (with_step t.need x)).0 ∙ (step_keeps t.need x).0 in
      begin_count (opened program plan b.trace.proc t.need) (frame_of program plan b.trace.proc) (control_by program p b.trace t.need) (end_if (closed program plan b.trace.proc t.need) (left_by plan (me_in p b.trace) (top_tags b.trace.activations) t.need) b)
      ∙ ap₂ (λ i j. i + j) (begins_is program plan b.trace.proc t.need)
      (end_count (closed program plan b.trace.proc t.need) (left_by plan (me_in p b.trace) (top_tags b.trace.activations) t.need) b
      ∙ ap₂ (λ i j. i - j) (ap length running_b) (ends_is program plan b.trace.proc t.need))

  -- what a process's log and its intervals are so far
  pub record IsKept (l : Logging) (x : Split) : Type 0 where
    pub proc : l.proc ≡ x.trace.proc
    pub inside : IsInside program plan p x.trace.proc (length x.running)
    pub told : IsTold l.entries x.trace.events x.spans x.running

  module _ (v : IsValid program) where
    kept_step : (l : Logging) (x : Split) (m : Moment) → m.taken.need ≡ need_of program plan x.trace.proc → IsNumbered m.taken → IsKept l x → IsKept (log_step program plan l m) (split_step program plan story' p x m.taken)
    kept_step l x m mine w h = record {
      proc = ap (λ s. act program plan s m.taken.answer) h.proc;
      inside = subst (λ k. IsInside program plan p (act program plan x.trace.proc m.taken.answer) k) (ap (λ need. running_after need (length x.running)) (sym mine) ∙ sym (counts x m.taken))
          (inside_step program plan p m.taken.answer x.trace.proc (length x.running) v h.inside);
      told = by x.trace.proc.status refl;
    }
      where
        by : (o : Option Status) → x.trace.proc.status ≡ o → IsTold (l.entries ++ entries_of program plan l m) (split_step program plan story' p x m.taken).trace.events (split_step program plan story' p x m.taken).spans (split_step program plan story' p x m.taken).running
        by None e = by_step program plan story' p m.taken m.unit_values l x mine h.proc w (let enough = h.inside.enough e in omega (arith, enough)) h.told
        by (Some s) e = at_stop program plan story' p m.taken m.unit_values l x (mine ∙ need_at_status program plan x.trace.proc (Some s) e) h.told

    kept_fold : (l : Logging) (x : Split) (ms : List Moment) → AreOwn program plan x.trace.proc (steps_of ms) → AreNumbered (steps_of ms) → IsKept l x
        → IsKept (fold (log_step program plan) l ms) (fold (split_step program plan story' p) x (steps_of ms))
    kept_fold l x [] mine w h = h
    kept_fold l x (m ∷ ms) mine w h = kept_fold (log_step program plan l m) (split_step program plan story' p x m.taken) ms mine.1 w.1 (kept_step l x m mine.0 w.0 h)

    begun : (budget : ℕ) → IsKept (begun_log (setting_of program plan budget) p) (begun_split program plan p (started program plan p budget))
    begun budget = record {
      proc = refl;
      inside = inside_begun program plan p budget v;
      told = record {
        same = refl;
        size = refl;
        count = refl;
        tiled = record { first = 0; around = outside refl refl; span = _; there = refl; runs = refl; round = refl; opened = begins; parts = no_parts refl };
        placed = λ k i e. first k i e;
        homes = λ k e. absurd (true≢false (sym e));
      };
    }
      where
        begins : OpensAt (begun_log (setting_of program plan budget) p).entries [] 0 0
        begins = record { before = []; block = _; values = _; after = _; entries_are = refl; number = refl; count = refl; within = omega arith }

        first : (k : ℕ) (i : Span) → slice_get (begun_split program plan p (started program plan p budget)).spans k ≡ Some i → IsPlaced (begun_log (setting_of program plan budget) p).entries [] (begun_split program plan p (started program plan p budget)).spans k i
        first zero i e = subst (λ j. IsPlaced (begun_log (setting_of program plan budget) p).entries [] (begun_split program plan p (started program plan p budget)).spans 0 j) (some e)
            (record { first = 0; stands = outermost refl refl; opened = begins; covers = none })
        first (suc k) i e = absurd (none-some i e)

    pub kept : (budget : ℕ) (ms : List Moment) → AreOwn program plan (started program plan p budget) (steps_of ms) → AreNumbered (steps_of ms)
        → IsKept (log_of (setting_of program plan budget) p ms) (split_of (setting_of program plan budget) story' p (steps_of ms))
    kept budget ms mine w = kept_fold (begun_log (setting_of program plan budget) p) (begun_split program plan p (started program plan p budget)) ms mine w (begun budget)
