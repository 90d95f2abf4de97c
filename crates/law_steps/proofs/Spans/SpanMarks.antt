-- What a step makes of the intervals, by the block that it opens or closes.
use Rattle.std.proofs.Common.{◌≡◌, ℕ, ◌+◌, Bool, true, false, List, [], ◌∷◌, ◌++◌, length, Option, Some, None, refl, ap, sym, ◌∙◌, subst, arith}
use Rattle.std.proofs.lemmas.List.{length-append}
use Rattle.std.specs.Prelude.{ℤ}
use Rattle.ppd_ast.specs.declared.plan.Plan.{Plan}
use Rattle.ppd_ast.specs.declared.program.Program.{Program}
use Rattle.ppd_sem.specs.Described.{frame_of, is_event}
use Rattle.ppd_sem.specs.declared.proc.Need.{Need}
use Rattle.ppd_model.specs.declared.trace.EventId.{EventId}
use Rattle.ppd_model.specs.declared.tracing.Story.{Story}
use Rattle.ppd_model.specs.declared.tracing.Taken.{Taken}
use Rattle.ppd_model.specs.FullTrace.{Tag, me_in, top_tags}
use Rattle.ppd_model.specs.Intervals.{Span, Split, begin_span, change_first, control_by, end_span, left_by, nested, new_span, own, split_step, with_marks, with_part}
use Rattle.ppd_model.proofs.IntervalWords.{begin_if, end_if}
use Rattle.ppd_model.specs.Marks.{Mark, opened, closed}
use Rattle.ppd_model.proofs.Extents.{Fall}
use Rattle.ppd_model.proofs.Items.{first_length}
use Rattle.law_steps.specs.Coming.Pieces.{Inner}
use Rattle.law_steps.proofs.Spans.SpanBody.{IsOwnStep, body, body_is, step_gain}
use Rattle.law_steps.proofs.Spans.SpanSteps.{SpanAt, SpanPast, begin_inner, begin_new, begin_own, begin_past, change_inner, change_own, change_past}

pub body_length : (b : Bool) (x : Split) → length (body b x).spans ≡ length x.spans
body_length false x = first_length step_gain x.running x.spans
body_length true x = first_length (with_part (own (length x.trace.events))) x.running (change_first step_gain x.running x.spans) ∙ first_length step_gain x.running x.spans

pub body_running : (b : Bool) (x : Split) → (body b x).running ≡ x.running
body_running false x = refl
body_running true x = refl

-- ---- a step by its marks

module _ (program : Program) (plan : Plan) (story : Story) (p : ℕ) where
  abbrev pub frame_at : Split → ℕ
  frame_at x = frame_of program plan x.trace.proc

  abbrev pub control_at : Split → Need → Option EventId
  control_at x n = control_by program p x.trace n

  abbrev pub left_at : Split → Need → List Tag
  left_at x n = left_by plan (me_in p x.trace) (top_tags x.trace.activations) n

  -- the interval's own part, and then what is opened or closed
  abbrev pub marked : Need → Split → Option Mark → Option Mark → Split → Split
  marked n x o c y = begin_if o (frame_at x) (control_at x n) (end_if c (left_at x n) y)

  marks_by : (b : Bool) (n : Need) (x : Split) → with_marks program plan p n (body b x) ≡ marked n x (opened program plan x.trace.proc n) (closed program plan x.trace.proc n) (body b x)
  marks_by false n x = refl
  marks_by true n x = refl

  -- an own step
  pub own_spans : (x : Split) (t : Taken) → IsOwnStep t.need → (split_step program plan story p x t).spans ≡ (marked t.need x (opened program plan x.trace.proc t.need) (closed program plan x.trace.proc t.need) (body (is_event t.need) x)).spans
  own_spans x t o = ap (λ y. (with_marks program plan p t.need y).spans) (body_is t.need x o) ∙ ap (λ y. y.spans) (marks_by (is_event t.need) t.need x)

  pub own_running : (x : Split) (t : Taken) → IsOwnStep t.need → (split_step program plan story p x t).running ≡ (marked t.need x (opened program plan x.trace.proc t.need) (closed program plan x.trace.proc t.need) (body (is_event t.need) x)).running
  own_running x t o = ap (λ y. (with_marks program plan p t.need y).running) (body_is t.need x o) ∙ ap (λ y. y.running) (marks_by (is_event t.need) t.need x)

-- ---- an interval begins

module _ (b frame : ℕ) (control : Option EventId) (x : Split) where
  abbrev outer : List Span
  outer = change_first (with_part (nested (length x.spans))) x.running x.spans

  abbrev born : Span
  born = new_span x b frame control

  same_length : length outer ≡ length x.spans
  same_length = first_length (with_part (nested (length x.spans))) x.running x.spans

  pub begun_length : length (begin_span b frame control x).spans ≡ length x.spans + 1
  begun_length = (let e : length (outer ++ born ∷ []) ≡ length outer + 1 = length-append outer (born ∷ []) in omega (arith, e, same_length))

  pub begun_own : (k : ℕ) (i : Span) → SpanAt x.spans x.running None k i
      → SpanAt (begin_span b frame control x).spans (begin_span b frame control x).running (Some (record { level = 0; interval = length x.spans; block = b })) k (with_part (nested (length x.spans)) i)
  begun_own k i a =
      subst (λ n. SpanAt (outer ++ born ∷ []) (n ∷ x.running) (Some (record { level = 0; interval = n; block = b })) k (with_part (nested (length x.spans)) i)) same_length
      (begin_own outer x.running born (λ m. refl) k (with_part (nested (length x.spans)) i) (change_own (with_part (nested (length x.spans))) (λ m j. refl) x.spans x.running k i a))

  pub begun_inner : (j : Inner) (k : ℕ) (i : Span) → SpanAt x.spans x.running (Some j) k i
      → SpanAt (begin_span b frame control x).spans (begin_span b frame control x).running (Some (record j { level = j.level + 1 })) k i
  begun_inner j k i a =
      subst (λ n. SpanAt (outer ++ born ∷ []) (n ∷ x.running) (Some (record j { level = j.level + 1 })) k i) same_length
      (begin_inner outer x.running born j k i (change_inner (with_part (nested (length x.spans))) (λ m j. refl) x.spans x.running j k i a))

  pub begun_past : (k : ℕ) (i : Span) → SpanPast x.spans x.running k i → SpanPast (begin_span b frame control x).spans (begin_span b frame control x).running k i
  begun_past k i a =
      subst (λ n. SpanPast (outer ++ born ∷ []) (n ∷ x.running) k i) same_length
      (begin_past outer x.running born k i (change_past (with_part (nested (length x.spans))) x.spans x.running k i a))

  pub begun_new : Fall (length x.spans) x.running → SpanAt (begin_span b frame control x).spans (begin_span b frame control x).running None (length x.spans) born
  begun_new f =
      subst (λ n. SpanAt (outer ++ born ∷ []) (n ∷ x.running) None n born) same_length
      (begin_new outer x.running born (subst (λ n. Fall n x.running) (sym same_length) f))

  pub begun_falls : Fall (length x.spans) x.running → Fall (length (begin_span b frame control x).spans) (begin_span b frame control x).running
  begun_falls f = (begun_new f).falls

-- ---- the innermost ends

module _ (values : List ℤ) (left : List Tag) (x : Split) where
  -- the interval with its postlog
  abbrev pub ended : Span → Span
  ended i = record i { closed = Some (length x.edges); values = values; left = left }

  pub ended_length : length (end_span values left x).spans ≡ length x.spans
  ended_length = first_length ended x.running x.spans
