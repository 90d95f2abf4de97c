-- The last split gives each interval the items and the steps that are to come: one step.
use Rattle.std.proofs.Common.{◌≡◌, ℕ, zero, suc, ◌+◌, Bool, true, false, List, [], ◌∷◌, ◌++◌, length, Option, Some, None, refl, ap, sym, ◌∙◌, subst, arith, append-nil, append_assoc}
use Rattle.std.proofs.lemmas.List.Concat.{flat_map-append}
use Rattle.std.proofs.lemmas.Option.{slice_get_past}
use Rattle.std.specs.List.{flat_map}
use Rattle.std.specs.Prelude.{drop, slice_get, if◌then◌else◌}
use Rattle.ppd_ast.specs.declared.plan.Plan.{Plan}
use Rattle.ppd_ast.specs.declared.program.Program.{Program}
use Rattle.ppd_ast.specs.declared.status.Status.{Status}
use Rattle.ppd_ast.specs.declared.status.Status.TheVariants as status
use Rattle.ppd_model.specs.Pieces.{Piece}
use Rattle.ppd_sem.specs.declared.proc.Proc.{Proc}
use Rattle.ppd_sem.specs.Process.{act}
use Rattle.ppd_sem.specs.Described.{is_event}
use Rattle.ppd_model.specs.declared.flow.Item.{Item}
use Rattle.ppd_model.specs.declared.flow.Item.TheVariants as item
use Rattle.ppd_model.specs.declared.trace.EventId.{EventId}
use Rattle.ppd_model.specs.declared.tracing.Story.{Story}
use Rattle.ppd_model.specs.FullTrace.{Tag, event_of}
use Rattle.ppd_model.specs.Intervals.{Part, Span, Split, begin_span, end_span, item_of, nested, split_step, with_part}
use Rattle.ppd_model.proofs.IntervalWords.{item_of_span}
use Rattle.ppd_model.specs.Marks.{Mark}
use Rattle.ppd_model.specs.Story.{Moment, steps_of, unit_started}
use Rattle.ppd_model.proofs.Extents.{Fall}
use Rattle.law_steps.specs.Coming.Pieces.{Coming, Inner, After, before, coming, event_items, inner_opens, leaves, own_ends, own_opens, since_after, step_pieces, unit_pieces}
use Rattle.law_steps.specs.Coming.Openings.{opening, opening_by}
use Rattle.law_steps.proofs.Coming.Indexes.{falls_on}
use Rattle.law_steps.proofs.Spans.Grown.{IsGrown}
use Rattle.law_steps.proofs.Spans.SpanBody.{body, body_inner, body_own, body_past, event_last, events_stay, gain}
use Rattle.law_steps.proofs.Spans.SpanEnd.{gain_event, grown_step, rest_inner}
use Rattle.law_steps.proofs.Spans.SpanGoals.{Begins, Comes, CountsAs, final, final_trace}
use Rattle.law_steps.proofs.Spans.SpanMarks.{begun_falls, begun_inner, begun_length, begun_new, begun_own, begun_past, body_length, body_running, ended, ended_length}
use Rattle.law_steps.proofs.Spans.SpanSteps.{RunsIn, Seen, SpanAt, SpanPast, end_span_inner, end_span_leaves, end_span_own, end_span_past}

gain_block : (b : Bool) (e : ℕ) (i : Span) → (gain b e i).block ≡ i.block
gain_block true e i = refl
gain_block false e i = refl

gain_steps : (b : Bool) (e : ℕ) (i : Span) → (gain b e i).steps ≡ i.steps + 1
gain_steps true e i = refl
gain_steps false e i = refl

drop_length : (n : ℕ) (ks : List ℕ) → length ks ≡ suc n → length (drop 1 ks) ≡ n
drop_length n [] e = absurd (omega (arith, e))
drop_length n (k ∷ ks) e = omega (arith, e)

drop_falls : (n : ℕ) (ks : List ℕ) → Fall n ks → Fall n (drop 1 ks)
drop_falls n [] f = tt
drop_falls n (k ∷ ks) f = falls_on k n ks f.1 f.0

-- where but one interval runs, none runs inside it
two_run : (v : ℕ → List Item) (ks : List ℕ) (level m b k : ℕ) → RunsIn v ks level m b k → length ks ≡ 1 → ⊥
two_run v [] level m b k h e = h
two_run v (r ∷ []) zero m b k h e = h.2
two_run v (r ∷ []) (suc level) m b k h e = h
two_run v (r ∷ q ∷ ks) level m b k h e = omega (arith, e)

module _ (program : Program) (plan : Plan) (story : Story) (p : ℕ) (x : Split) (m : Moment) (ms : List Moment) where
  abbrev pub y : Split
  y = split_step program plan story p x m.taken

  abbrev pub after : Proc
  after = act program plan x.trace.proc m.taken.answer

  abbrev pub last : Split
  last = final program plan story p y ms

  abbrev pub items : List Item
  items = event_items program plan x.trace.proc m.taken

  abbrev pub next_coming : After
  next_coming = coming program plan after ms

  abbrev b : Bool
  b = is_event m.taken.need

  abbrev e : ℕ
  e = length x.trace.events

  abbrev pub z1 : Split
  z1 = body b x

  -- what a step that opens, closes and ends so is to give
  pub record Gives (o c : Option Mark) (st : Option Status) (n : ℕ) : Type 0 where
    pub own : (k : ℕ) (i : Span) (next since : ℕ) → length x.running ≡ n → length x.spans ≡ next → SpanAt x.spans x.running None k i
        → IsGrown last i.parts i.steps i.block (own_opens items m next since o c st next_coming) (slice_get last.spans k)
    pub inner : (j : Inner) (k : ℕ) (i : Span) (ps : List Part) (next since : ℕ) → length x.running ≡ n → length x.spans ≡ next → i.parts ≡ ps ++ nested j.interval ∷ [] → SpanAt x.spans x.running (Some j) k i
        → IsGrown last ps i.steps i.block (inner_opens j m next since o c st next_coming) (slice_get last.spans k)
    pub past : (k : ℕ) (i : Span) → length x.running ≡ n → SpanPast x.spans x.running k i → slice_get last.spans k ≡ Some i
    pub begins : (q next : ℕ) → length x.running ≡ n → length x.spans ≡ next → Fall (length x.spans) x.running
        → Begins program plan story p last (next + q) (opening_by o q (unit_pieces (unit_started m.taken.need) m.unit_values) after ms (opening program plan after ms)) (slice_get last.spans (next + q))

  -- what is to come from these spans and running numbers on
  abbrev pub From : List Span → List ℕ → ℕ → Type 0
  From spans running n = Comes program plan story p spans running after ms last n

  -- ---- the own step

  gained : (c : Bool) → is_event m.taken.need ≡ c → (i : Span) → flat_map (item_of last) (gain c e i).parts ≡ flat_map (item_of last) i.parts ++ (if c then item.Own (event_of program plan x.trace.proc m.taken x.trace.proc.todo) ∷ [] else [])
  gained true is i =
      gain_event last e i _
      (ap (λ t. slice_get t.events e) (final_trace program plan story p ms y) ∙ events_stay program plan story p (steps_of ms) y.trace e _ (event_last program plan story p m.taken x.trace is))
  gained false is i = sym (append-nil (flat_map (item_of last) i.parts))

  event_gain : (i : Span) → flat_map (item_of last) (gain b e i).parts ≡ flat_map (item_of last) i.parts ++ items
  event_gain i = gained b refl i

  grown : (i : Span) (pieces : List Piece) (c : Coming) (o : Option Span) → IsGrown last (gain b e i).parts (gain b e i).steps (gain b e i).block c o → IsGrown last i.parts i.steps i.block (before pieces items 1 c) o
  grown i pieces c o g = grown_step last b e i pieces items c o (event_gain i) (subst (λ k. IsGrown last (gain b e i).parts (gain b e i).steps k c o) (gain_block b e i) g)

  ran : (n : ℕ) → length x.running ≡ n → length z1.running ≡ n
  ran n h = ap length (body_running b x) ∙ h

  long : (n : ℕ) → length x.spans ≡ n → length z1.spans ≡ n
  long n h = body_length b x ∙ h

  fallen : Fall (length x.spans) x.running → Fall (length z1.spans) z1.running
  fallen f = subst (λ ks. Fall (length z1.spans) ks) (sym (body_running b x)) (subst (λ n. Fall n x.running) (sym (body_length b x)) f)

  -- ---- it opens an interval

  module _ (a : Mark) (frame : ℕ) (control : Option EventId) (st : Option Status) (c : Option Mark) (n : ℕ) (g : From (begin_span a.block frame control z1).spans (begin_span a.block frame control z1).running (suc n)) where
    abbrev zo : Split
    zo = begin_span a.block frame control z1

    more_run : length x.running ≡ n → length zo.running ≡ suc n
    more_run h = ap suc (ran n h)

    one_longer : (next : ℕ) → length x.spans ≡ next → length zo.spans ≡ next + 1
    one_longer next h = begun_length a.block frame control z1 ∙ ap (λ k. k + 1) (long next h)

    new_at : (next : ℕ) → length x.running ≡ n → length x.spans ≡ next → Fall (length x.spans) x.running → IsGrown last [] 0 a.block (coming program plan after ms None (next + 1) 0) (slice_get last.spans next)
    new_at next hn hl f =
        subst (λ k. IsGrown last [] 0 a.block (coming program plan after ms None (k + 1) 0) (slice_get last.spans k)) (long next hl)
        (g.own (length z1.spans) _ (length z1.spans + 1) 0 (more_run hn) (begun_length a.block frame control z1) (begun_new a.block frame control z1 (fallen f)))

    begins_opened : (q next : ℕ) → length x.running ≡ n → length x.spans ≡ next → Fall (length x.spans) x.running
        → Begins program plan story p last (next + q) (opening_by (Some a) q (unit_pieces (unit_started m.taken.need) m.unit_values) after ms (opening program plan after ms)) (slice_get last.spans (next + q))
    begins_opened zero next hn hl f =
        let same : next ≡ next + 0 = omega arith in
        let w : IsGrown last [] 0 a.block (coming program plan after ms None ((next + 0) + 1) 0) (slice_get last.spans (next + 0)) =
        subst (λ k. IsGrown last [] 0 a.block (coming program plan after ms None (k + 1) 0) (slice_get last.spans k)) same (new_at next hn hl f) in
        record { now = w.now; there = w.there; block = w.same_block; items = w.items; all_steps = w.all_steps }
    begins_opened (suc q) next hn hl f =
        let same : next + 1 + q ≡ next + suc q = omega arith in
        subst (λ k. Begins program plan story p last k (opening program plan after ms q) (slice_get last.spans k)) same
        (g.begins q (next + 1) (more_run hn) (one_longer next hl) (begun_falls a.block frame control z1 (fallen f)))

    pub step_opens : Gives (Some a) c st n
    step_opens = record {
      own = λ k i next since hn hl at.
          grown i [] (coming program plan after ms (Some (record { level = 0; interval = next; block = a.block })) (next + 1) since) (slice_get last.spans k)
          (subst (λ l. IsGrown last (gain b e i).parts (gain b e i).steps (gain b e i).block (coming program plan after ms (Some (record { level = 0; interval = l; block = a.block })) (next + 1) since) (slice_get last.spans k)) (long next hl)
          (g.inner (record { level = 0; interval = length z1.spans; block = a.block }) k (with_part (nested (length z1.spans)) (gain b e i)) (gain b e i).parts (next + 1) since (more_run hn) (one_longer next hl) refl
          (begun_own a.block frame control z1 k (gain b e i) (body_own b x k i at))));
      inner = λ j k i ps next since hn hl parts at.
          g.inner (record j { level = j.level + 1 }) k i ps (next + 1) since (more_run hn) (one_longer next hl) parts (begun_inner a.block frame control z1 j k i (body_inner b x j k i at));
      past = λ k i hn at. g.past k i (more_run hn) (begun_past a.block frame control z1 k i (body_past b x k i at));
      begins = λ q next hn hl f. begins_opened q next hn hl f;
    }

  -- ---- it closes one, and the process goes on

  -- the interval inside has ended, and is an item
  left_item : (values : _) (left : List Tag) (span : Span) (k bl : ℕ) → slice_get last.spans k ≡ Some (ended values left z1 span) → span.block ≡ bl → item_of_span k (slice_get last.spans k) ≡ item.Nested k bl values true ∷ []
  left_item values left span k bl at is = ap (item_of_span k) at ∙ ap (λ n. item.Nested k n values true ∷ []) is

  leaves_one : (values : _) (i : Span) (ps : List Part) (j bl : ℕ) (units : List Piece) (c : Coming) (o : Option Span) → i.parts ≡ ps ++ nested j ∷ [] → item_of_span j (slice_get last.spans j) ≡ item.Nested j bl values true ∷ []
      → (piece : Piece) → IsGrown last i.parts i.steps i.block c o → IsGrown last ps i.steps i.block (before (piece ∷ units) (item.Nested j bl values true ∷ []) 0 c) o
  leaves_one values i ps j bl units c o parts is piece g = record {
    now = g.now;
    there = g.there;
    same_block = g.same_block;
    items = g.items ∙ ap (λ qs. flat_map (item_of last) qs ++ c.items) parts
        ∙ ap (λ is. is ++ c.items) (flat_map-append (item_of last) ps (nested j ∷ []) ∙ ap (λ is. flat_map (item_of last) ps ++ is) (append-nil (item_of_span j (slice_get last.spans j)) ∙ is))
        ∙ append_assoc (flat_map (item_of last) ps) (item.Nested j bl values true ∷ []) c.items;
    all_steps = (let s = g.all_steps in omega (arith, s));
  }

  module _ (a : Mark) (left : List Tag) where
    abbrev zc : Split
    zc = end_span a.values left z1

    own_closed : (st : Option Status) (k : ℕ) (i : Span) (next since : ℕ) → slice_get last.spans k ≡ Some (ended a.values left z1 (gain b e i)) → IsGrown last i.parts i.steps i.block (own_opens items m next since None (Some a) st next_coming) (slice_get last.spans k)
    own_closed st k i next since there = record {
      now = ended a.values left z1 (gain b e i);
      there = there;
      same_block = gain_block b e i;
      items = event_gain i;
      all_steps = gain_steps b e i;
    }

    module _ (n : ℕ) (g : From zc.spans zc.running n) where
      fewer_run : length x.running ≡ suc n → length zc.running ≡ n
      fewer_run h = drop_length n z1.running (ran (suc n) h)

      as_long : (next : ℕ) → length x.spans ≡ next → length zc.spans ≡ next
      as_long next h = ended_length a.values left z1 ∙ long next h

      inner_closed : (level j bl k : ℕ) (i : Span) (ps : List Part) (next since : ℕ) → length x.running ≡ suc n → length x.spans ≡ next → i.parts ≡ ps ++ nested j ∷ []
          → SpanAt x.spans x.running (Some (record { level = level; interval = j; block = bl })) k i
          → IsGrown last ps i.steps i.block (leaves (record { level = level; interval = j; block = bl }) level a.values (unit_pieces (unit_started m.taken.need) m.unit_values) next since next_coming) (slice_get last.spans k)
      inner_closed zero j bl k i ps next since hn hl parts at =
          let d = end_span_leaves (ended a.values left z1) z1.spans z1.running j bl k i (body_inner b x (record { level = zero; interval = j; block = bl }) k i at) in
          leaves_one a.values i ps j bl (unit_pieces (unit_started m.taken.need) m.unit_values) (coming program plan after ms None next 0) (slice_get last.spans k) parts
          (left_item a.values left d.span j bl (g.past j (ended a.values left z1 d.span) (fewer_run hn) d.past) d.block) _
          (g.own k i next 0 (fewer_run hn) (as_long next hl) d.at)
      inner_closed (suc level) j bl k i ps next since hn hl parts at =
          g.inner (record { level = level; interval = j; block = bl }) k i ps next since (fewer_run hn) (as_long next hl) parts
          (end_span_inner (ended a.values left z1) z1.spans z1.running level j bl k i (body_inner b x (record { level = suc level; interval = j; block = bl }) k i at))

      pub step_closes : Gives None (Some a) None (suc n)
      step_closes = record {
        own = λ k i next since hn hl at. own_closed None k i next since
            (g.past k (ended a.values left z1 (gain b e i)) (fewer_run hn) (end_span_own (ended a.values left z1) z1.spans z1.running k (gain b e i) (body_own b x k i at)));
        inner = λ j k i ps next since hn hl parts at. inner_closed j.level j.interval j.block k i ps next since hn hl parts at;
        past = λ k i hn at. g.past k i (fewer_run hn) (end_span_past (ended a.values left z1) z1.spans z1.running k i (body_past b x k i at));
        begins = λ q next hn hl f. g.begins q next (fewer_run hn) (as_long next hl) (subst (λ l. Fall l zc.running) (sym (ended_length a.values left z1)) (drop_falls (length z1.spans) z1.running (fallen f)));
      }

    -- ---- it closes the process's own interval

    module _ (spans_are : last.spans ≡ zc.spans) (none : (q : ℕ) → opening program plan after ms q ≡ None) where
      pub step_ends : (st : Status) → Gives None (Some a) (Some st) 1
      step_ends st = record {
        own = λ k i next since hn hl at. own_closed (Some st) k i next since
            (ap (λ xs. slice_get xs k) spans_are ∙ (end_span_own (ended a.values left z1) z1.spans z1.running k (gain b e i) (body_own b x k i at)).there);
        inner = λ j k i ps next since hn hl parts at. absurd (two_run (Seen x.spans) x.running j.level j.interval j.block k at.runs hn);
        past = λ k i hn at. ap (λ xs. slice_get xs k) spans_are ∙ (end_span_past (ended a.values left z1) z1.spans z1.running k i (body_past b x k i at)).there;
        begins = λ q next hn hl f. subst (λ o. Begins program plan story p last (next + q) o (slice_get last.spans (next + q))) (sym (none q))
            (slice_get_past last.spans (next + q) (let same : length last.spans ≡ next = ap length spans_are ∙ ended_length a.values left z1 ∙ long next hl in omega (arith, same)));
      }

  -- ---- it stops the process

  -- nothing was opened, and these are the last spans
  module _ (z : Split) (still : last ≡ y) (spans_are : y.spans ≡ z.spans) (running_is : y.running ≡ z.running) (none : (q : ℕ) → opening program plan after ms q ≡ None) where
    in_last : (j : Inner) (k : ℕ) (i : Span) → SpanAt z.spans z.running (Some j) k i → SpanAt last.spans last.running (Some j) k i
    in_last j k i at =
        subst (λ (w : Split). SpanAt w.spans w.running (Some j) k i) (sym still)
        (subst (λ ks. SpanAt y.spans ks (Some j) k i) (sym running_is) (subst (λ xs. SpanAt xs z.running (Some j) k i) (sym spans_are) at))

    there_last : (k : ℕ) (i : Span) → slice_get z.spans k ≡ Some i → slice_get last.spans k ≡ Some i
    there_last k i at = ap (λ (w : Split). slice_get w.spans k) still ∙ ap (λ xs. slice_get xs k) spans_are ∙ at

    none_later : (q next : ℕ) → length z.spans ≡ next → Begins program plan story p last (next + q) (opening program plan after ms q) (slice_get last.spans (next + q))
    none_later q next hl =
        subst (λ o. Begins program plan story p last (next + q) o (slice_get last.spans (next + q))) (sym (none q))
        (slice_get_past last.spans (next + q) (let same : length last.spans ≡ next = ap (λ (w : Split). length w.spans) still ∙ ap length spans_are ∙ hl in omega (arith, same)))

  module _ (still : last ≡ y) (spans_are : y.spans ≡ z1.spans) (running_is : y.running ≡ z1.running) (none : (q : ℕ) → opening program plan after ms q ≡ None) where
    pub step_traps : (st : Status) (n : ℕ) → ((next since : ℕ) → CountsAs items (own_ends items m next since (Some st) next_coming)) → Gives None None (Some st) n
    step_traps st n counts = record {
      own = λ k i next since hn hl at. record {
        now = gain b e i;
        there = there_last z1 still spans_are running_is none k (gain b e i) (body_own b x k i at).there;
        same_block = gain_block b e i;
        items = event_gain i ∙ ap (λ is. flat_map (item_of last) i.parts ++ is) (sym (counts next since).items_are);
        all_steps = gain_steps b e i ∙ ap (λ k. i.steps + k) (sym (counts next since).steps_are);
      };
      inner = λ j k i ps next since hn hl parts at. rest_inner last j k i ps since parts (in_last z1 still spans_are running_is none j k i (body_inner b x j k i at));
      past = λ k i hn at. there_last z1 still spans_are running_is none k i (body_past b x k i at).there;
      begins = λ q next hn hl f. none_later z1 still spans_are running_is none q next (long next hl);
    }

  module _ (still : last ≡ y) (spans_are : y.spans ≡ x.spans) (running_is : y.running ≡ x.running) (none : (q : ℕ) → opening program plan after ms q ≡ None) where
    pub step_halts : (n : ℕ) → Gives None None (Some status.Budget) n
    step_halts n = record {
      own = λ k i next since hn hl at. record {
        now = i;
        there = there_last x still spans_are running_is none k i at.there;
        same_block = refl;
        items = sym (append-nil (flat_map (item_of last) i.parts));
        all_steps = omega arith;
      };
      inner = λ j k i ps next since hn hl parts at. rest_inner last j k i ps since parts (in_last x still spans_are running_is none j k i at);
      past = λ k i hn at. there_last x still spans_are running_is none k i at.there;
      begins = λ q next hn hl f. none_later x still spans_are running_is none q next hl;
    }

  -- ---- it does none of these

  pub step_passes : (n : ℕ) → From z1.spans z1.running n → Gives None None None n
  step_passes n g = record {
    own = λ k i next since hn hl at.
        grown i (step_pieces m) (coming program plan after ms None next (since_after since (step_pieces m))) (slice_get last.spans k)
        (g.own k (gain b e i) next (since_after since (step_pieces m)) (ran n hn) (long next hl) (body_own b x k i at));
    inner = λ j k i ps next since hn hl parts at. g.inner j k i ps next since (ran n hn) (long next hl) parts (body_inner b x j k i at);
    past = λ k i hn at. g.past k i (ran n hn) (body_past b x k i at);
    begins = λ q next hn hl f. g.begins q next (ran n hn) (long next hl) (fallen f);
  }
