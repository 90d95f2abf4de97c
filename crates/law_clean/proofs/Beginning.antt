-- A process that begins with something spent: its states, its log, its intervals and where they begin.
use Rattle.ppd_model.specs.Setting.{setting_of}
use Rattle.std.proofs.Common.{◌≡◌, ℕ, zero, suc, ◌+◌, ◌<◌, ◌≤◌, true, List, [], ◌∷◌, Option, Some, None, refl, ap, sym, subst, ◌∙◌, arith, length, get_or, append-nil, map, true≢false}
use Rattle.std.specs.Prelude.{fold, is_some, slice_get}
use Rattle.std.proofs.lemmas.Bool.{le-leb}
use Rattle.std.proofs.lemmas.Option.{get_or_from_slice_get, none-some, same_Some}
use Rattle.ppd_ast.specs.declared.plan.BlockKind.TheVariants as block
use Rattle.ppd_ast.specs.declared.plan.Plan.{Plan}
use Rattle.ppd_ast.specs.declared.plan.Policy.{Policy}
use Rattle.ppd_ast.specs.declared.plan.Start.TheVariants as start
use Rattle.ppd_ast.specs.declared.program.Program.{Program}
use Rattle.ppd_ast.specs.Valid.{IsValid}
use Rattle.ppd_ast.proofs.ValidLaws.{slice_get_there, valid_body}
use Rattle.ppd_blocks.specs.Blocks.{plan_of}
use Rattle.ppd_model.specs.IntervalLogs.{LoggedInterval, Indexing, begun_indexing, index_step}
use Rattle.ppd_model.proofs.EntryWords.{log_in, no_interval}
use Rattle.ppd_sem.specs.Blocks.{block_todo}
use Rattle.ppd_sem.specs.declared.proc.Proc.{Proc}
use Rattle.ppd_sem.specs.Process.{new_frame, started}
use Rattle.ppd_sem.specs.Tables.{block_of, unit_of}
use Rattle.ppd_sem.proofs.TableWords.{or_zero}
use Rattle.ppd_model.specs.declared.state.Logging.{Logging}
use Rattle.ppd_model.specs.declared.tracing.Story.{Story}
use Rattle.ppd_model.specs.Intervals.{Span, Split, begun_split, split_step}
use Rattle.ppd_model.specs.Logs.{begun_log}
use Rattle.ppd_model.specs.Story.{Moment, steps_of, values_of_unit}
use Rattle.law_steps.proofs.OpenBlocks.Planned.{process_found}
use Rattle.law_steps.proofs.OpenBlocks.Stacks.{steps_move}
use Rattle.law_steps.specs.OpenBlocks.Run.{IsGiven, IsRun}
use Rattle.law_steps.specs.OpenBlocks.Stack.{IsInOrder, block_frames, functions_in, process_block, stack}
use Rattle.law_steps.specs.Coming.Pieces.{unit_pieces}
use Rattle.law_steps.proofs.Vocabulary.Nested.{IsNested}
use Rattle.law_steps.specs.Coming.Openings.{AreAlike, IsLogOf, IsSpanOf, Opening, opening}
use Rattle.law_steps.proofs.Coming.DeepOpenings.{deep_openings, frames_in}
use Rattle.law_steps.proofs.Coming.Depths.{AreDeep, blocks_at, final_blocks}
use Rattle.law_steps.proofs.Coming.Later.{finals}
use Rattle.law_steps.proofs.Coming.Later as in_logs
use Rattle.law_steps.proofs.Coming.LaterSteps.{comes}
use Rattle.law_steps.proofs.Coming.Stacked.{nested}
use Rattle.law_steps.proofs.Facts.State.{IsState, started_state}
use Rattle.law_steps.proofs.Openings.AtBlocks.{IsAtBlock, openings_at}
use Rattle.law_steps.proofs.Openings.Purses.{opening_purse}
use Rattle.law_steps.proofs.Spans.SpanGoals.{IsLive}
use Rattle.law_steps.proofs.Spans.SpanGoals as in_spans
use Rattle.law_steps.proofs.Spans.SpansComing.{comes as spans_come}
use Rattle.law_clean.proofs.Logged.{raised_log}
use Rattle.law_clean.proofs.Raised.{raised}
use Rattle.law_clean.proofs.Spanned.{raised_split}

zero_of : (o : Option ℕ) → is_some o ≡ true → o ≡ Some (or_zero o)
zero_of None e = absurd (true≢false (sym e))
zero_of (Some b) e = refl

pub raised_state : (program : Program) (plan : Plan) (d : ℕ) (s : Proc) → IsState program plan s → s.spent + d ≤ s.budget → IsState program plan (raised d s)
raised_state program plan d s h le =
    let steps : s.steps ≤ s.spent = h.runs.steps in
    record {
      home = h.home;
      ready = h.ready;
      offers = h.offers;
      sized = h.sized;
      called = h.called;
      whole = h.whole;
      until_end = h.until_end;
      runs = record { todo = h.runs.todo; frames = h.runs.frames; below = h.runs.below; steps = omega (arith, steps); spent = le };
    }

module _ (program : Program) (policy : Policy) (v : IsValid program) (budget p d : ℕ) (le : d ≤ budget) (there : program.functions + p < length program.bodies) where
  abbrev pub plan : Plan
  plan = plan_of program policy

  abbrev pub first : Proc
  first = raised d (started program plan p budget)

  abbrev body : ℕ
  body = program.functions + p

  abbrev entry_unit : ℕ
  entry_unit = unit_of plan (start.Entry body)

  state : IsState program plan first
  state = raised_state program plan d (started program plan p budget) (started_state program plan v p budget there) (omega (arith, le))

  order : IsInOrder program plan p first
  order = let o = steps_move.starts program plan p budget v there in record { frames = o.frames; course = o.course; until_end = o.until_end }

  alone : stack program plan p first ≡ process_block program plan p ∷ []
  alone = steps_move.alone program plan p budget v

  module _ (ms : List Moment) (run : IsRun program plan first ms) where
    nests : IsNested program plan first ms 1
    nests = nested program plan v p ms first 1 order refl run (ap length alone)

    -- ---- where intervals begin

    -- the process's own
    abbrev own_opening : Opening
    own_opening = record {
      mark = record { block = or_zero (block_of plan (block.Process body)); values = [] };
      units = unit_pieces (Some entry_unit) (values_of_unit plan program.starts entry_unit);
      proc = first;
      rest = ms;
    }

    abbrev pub begins : ℕ → Option Opening
    begins zero = Some own_opening
    begins (suc k) = opening program plan first ms k

    own_at : IsAtBlock program plan own_opening
    own_at =
        let b = slice_get_there program.bodies body there in
        let process : b.0.process ≡ true = (valid_body program body b.0 v b.1).process ∙ le-leb program.functions body (omega arith) in
        let found : is_some (block_of plan (block.Process body)) ≡ true = process_found program policy body b.0 b.1 process in
        record {
          state = state;
          unit_at = Some entry_unit;
          values = values_of_unit plan program.starts entry_unit;
          units_are = refl;
          at = record {
            kind = block.Process body;
            unit_is = refl;
            block_is = zero_of (block_of plan (block.Process body)) found;
            there = (b.0, b.1, omega arith);
            frame = new_frame program body [] None;
            below = [];
            top = refl;
            home = refl;
            later = [];
            todo = sym (append-nil (block_todo program (block.Process body)));
            answers = refl;
            running = refl;
            marked = (refl, refl);
          };
          run = run;
        }

    pub at_block : (k : ℕ) (o : Opening) → begins k ≡ Some o → IsAtBlock program plan o
    at_block zero o e = subst (IsAtBlock program plan) (same_Some own_opening o e) own_at
    at_block (suc k) o e = openings_at program plan v first ms k state run o e

    pub purse : (k : ℕ) (o : Opening) → begins k ≡ Some o → o.proc.budget ≡ budget
    purse zero o e = ap (λ (x : Opening). x.proc.budget) (sym (same_Some own_opening o e))
    purse (suc k) o e = opening_purse program plan v first ms k state o e

    -- ---- the log

    abbrev pub begun : Logging
    begun = raised_log d (begun_log (setting_of program plan budget) p)

    abbrev begun_index : Indexing
    begun_index = fold index_step begun_indexing begun.entries

    abbrev pub index : Indexing
    index = finals program plan begun ms begun_index

    comes_log : in_logs.Comes program plan first ms (finals program plan begun ms) 0 1
    comes_log = comes program plan ms begun 1 nests

    logs_begin : (k : ℕ) → in_logs.Begins program plan k (begins k) (slice_get index.intervals k)
    logs_begin zero =
        let i0 = get_or begun_index.intervals 0 no_interval in
        let one : 0 < 1 = omega arith in
        let g = comes_log.own begun_index 0 i0 1 refl refl (record { falls = (one, tt); runs = refl; there = refl }) in
        record { now = g.now; there = g.there; block = g.block; values = g.values; pieces = g.pieces }
    logs_begin (suc q) =
        let one : 0 < 1 = omega arith in
        let e : 1 + q ≡ suc q = omega arith in
        subst (λ z. in_logs.Begins program plan z (opening program plan first ms q) (slice_get index.intervals z)) e
        (comes_log.begins begun_index q 1 refl refl (one, tt))

    all_deep : AreDeep begun_index.intervals begun_index.running (stack program plan p first)
    all_deep = subst (AreDeep begun_index.intervals (0 ∷ [])) (sym alone) (refl, tt)

    deep_at : (k : ℕ) (o : Opening) → begins k ≡ Some o → functions_in plan (blocks_at index.intervals k) ≡ block_frames plan o.proc.frames
    deep_at zero o e =
        let one : 0 < 1 = omega arith in
        ap (functions_in plan) (final_blocks program plan ms begun begun_index 0 one ∙ sym alone)
        ∙ steps_move.depth program policy p first v there order ∙ ap (λ z. block_frames plan (frames_in z)) e
    deep_at (suc q) o e =
        let one : 0 < 1 = omega arith in
        let same : 1 + q ≡ suc q = omega arith in
        subst (λ k. functions_in plan (blocks_at index.intervals k) ≡ block_frames plan o.proc.frames) same
        (deep_openings program policy v p there ms begun begun_index order refl run (one, tt) all_deep q o e)

    as_log : (k : ℕ) (op : Option Opening) (o : Option LoggedInterval) → in_logs.Begins program plan k op o
        → ((x : Opening) (i : LoggedInterval) → op ≡ Some x → o ≡ Some i → functions_in plan i.blocks ≡ block_frames plan x.proc.frames) → AreAlike (IsLogOf program plan k) op (log_in plan o)
    as_log k None None b deep = tt
    as_log k None (Some o) b deep = absurd (none-some o (sym b))
    as_log k (Some op) None b deep = absurd (none-some b.now b.there)
    as_log k (Some op) (Some o) b deep =
        let e : b.now ≡ o = same_Some b.now o (sym b.there) in
        record {
          block = ap (λ (z : LoggedInterval). z.extent.block) (sym e) ∙ b.block;
          values = ap (λ (z : LoggedInterval). z.values) (sym e) ∙ b.values;
          depth = deep op o refl refl;
          pieces = ap (λ (z : LoggedInterval). map (λ q. q.1) z.pieces) (sym e) ∙ b.pieces;
        }

    pub logs_alike : (k : ℕ) → AreAlike (IsLogOf program plan k) (begins k) (log_in plan (slice_get index.intervals k))
    logs_alike k =
        as_log k (begins k) (slice_get index.intervals k) (logs_begin k)
        (λ o i e there'. ap (λ (z : LoggedInterval). functions_in plan z.blocks) (sym (get_or_from_slice_get index.intervals k i no_interval there')) ∙ deep_at k o e)

    -- ---- the intervals

    module _ (story : Story) where
      abbrev pub begun_spans : Split
      begun_spans = raised_split d (begun_split program plan p (started program plan p budget))

      abbrev pub last : Split
      last = fold (split_step program plan story p) begun_spans (steps_of ms)

      live : (xs : List Moment) (s : Proc) → IsRun program plan s xs → IsLive xs
      live [] s r = tt
      live (m ∷ xs) s r = ((λ e. subst (λ k. IsGiven k m.taken.answer) e r.1), live xs _ r.3)

      come_spans : in_spans.Comes program plan story p begun_spans.spans begun_spans.running first ms last 1
      come_spans = spans_come program plan story p ms begun_spans 1 nests (live ms first run)

      spans_begin : (k : ℕ) → in_spans.Begins program plan story p last k (begins k) (slice_get last.spans k)
      spans_begin zero =
          let one : 0 < 1 = omega arith in
          let g = come_spans.own 0 _ 1 0 refl refl (record { falls = (one, tt); runs = refl; there = refl }) in
          record { now = g.now; there = g.there; block = g.same_block; items = g.items; all_steps = g.all_steps }
      spans_begin (suc q) =
          let one : 0 < 1 = omega arith in
          let same : 1 + q ≡ suc q = omega arith in
          subst (λ k. in_spans.Begins program plan story p last k (opening program plan first ms q) (slice_get last.spans k)) same
          (come_spans.begins q 1 refl refl (one, tt))

      as_span : (k : ℕ) (op : Option Opening) (o : Option Span) → in_spans.Begins program plan story p last k op o → AreAlike (λ o i. IsSpanOf program plan k o last i) op o
      as_span k None None h = tt
      as_span k None (Some i) h = absurd (none-some i (sym h))
      as_span k (Some op) None h = absurd (none-some h.now h.there)
      as_span k (Some op) (Some i) h =
          let same : h.now ≡ i = same_Some h.now i (sym h.there) in
          subst (λ (j : Span). IsSpanOf program plan k op last j) same (record { block = h.block; items = h.items; steps = h.all_steps })

      pub spans_alike : (k : ℕ) → AreAlike (λ o i. IsSpanOf program plan k o last i) (begins k) (slice_get last.spans k)
      spans_alike k = as_span k (begins k) (slice_get last.spans k) (spans_begin k)
