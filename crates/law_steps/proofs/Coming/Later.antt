-- What the index of a log is to give to each interval by the steps to come: the statement, and where no step is left.
use Rattle.std.proofs.Common.{◌≡◌, ℕ, ◌+◌, List, [], ◌∷◌, ◌++◌, length, Option, Some, None, true, cond, refl, ap, sym, ◌∙◌, subst, arith, map}
use Rattle.std.proofs.lemmas.List.Sums.{fold-append}
use Rattle.std.specs.Prelude.{slice_get, ℤ, fold, if◌then◌else◌, is_none}
use Rattle.ppd_ast.specs.declared.plan.Plan.{Plan}
use Rattle.ppd_ast.specs.declared.program.Program.{Program}
use Rattle.ppd_ast.specs.declared.status.Status.{Status}
use Rattle.ppd_ast.specs.declared.status.Status.TheVariants as status
use Rattle.ppd_model.specs.declared.entry.Entry.{Entry}
use Rattle.ppd_model.specs.declared.entry.Entry.TheVariants as entry
use Rattle.ppd_model.specs.IntervalLogs.{LoggedInterval, Indexing, add_piece, index_step, left_open}
use Rattle.ppd_model.specs.Pieces.{finish}
use Rattle.ppd_sem.specs.declared.proc.Proc.{Proc}
use Rattle.ppd_sem.specs.Process.{act}
use Rattle.ppd_model.specs.declared.tracing.Taken.{Taken}
use Rattle.ppd_model.specs.declared.state.Logging.{Logging}
use Rattle.ppd_model.specs.Logs.{closed_log, entries_of, ends, log_step, rest_after, syncs, units, block_entries}
use Rattle.ppd_model.specs.Marks.{Mark}
use Rattle.ppd_model.specs.Story.{Moment, unit_started}
use Rattle.ppd_model.specs.Synchronizations.{Sync}
use Rattle.ppd_model.proofs.Extents.{Fall}
use Rattle.law_steps.specs.Coming.Pieces.{Inner, coming, event_items, inner_opens, own_opens, unit_pieces}
use Rattle.law_steps.proofs.Vocabulary.Nested.{HasStopped}
use Rattle.law_steps.specs.Coming.Openings.{Opening, coming_in, opening, opening_by}
use Rattle.law_steps.proofs.Coming.Indexes.{At, Grows, Past}
use Rattle.law_steps.proofs.Coming.IndexSteps.{end_inner, end_own, end_past, none_past, open_length, piece_length}

-- ---- the entries of one step by its parts

abbrev pub news : Logging → Taken → List ℤ → Option Mark → Option Sync → Option Mark → Option ℕ → Option Status
    → List Entry
news l t vals o sy c u s = block_entries entry.Prelog o ++ syncs l t sy ++ block_entries entry.Postlog c ++ units u vals ++ ends l s

abbrev pub closing : Logging → List Entry
closing l = if is_none l.proc.status then entry.End status.Blocked l.rest l.reads l.writes ∷ [] else []

module _ (program : Program) (plan : Plan) where
  -- the index after the entries to come
  abbrev pub finals : Logging → List Moment → Indexing → Indexing
  finals l [] x = fold index_step x (closing l)
  finals l (m ∷ ms) x = finals (log_step program plan l m) ms (fold index_step x (entries_of program plan l m))

  pub finals_are : (ms : List Moment) (l : Logging) (x : Indexing)
      → fold index_step x (closed_log (fold (log_step program plan) l ms)) ≡ finals l ms
      (fold index_step x l.entries)
  finals_are [] l x = fold-append index_step x l.entries (closing l)
  finals_are (m ∷ ms) l x =
      finals_are ms (log_step program plan l m) x
      ∙ ap (λ y. finals (log_step program plan l m) ms y)
      (fold-append index_step x l.entries (entries_of program plan l m))

  -- the interval that an opening began, in the index
  pub record NewLog (k : ℕ) (op : Opening) (o : Option LoggedInterval) : Type 0 where
    pub now : LoggedInterval
    pub there : o ≡ Some now
    pub block : now.extent.block ≡ op.mark.block
    pub values : now.values ≡ op.mark.values
    pub pieces : map (λ q. q.1) now.pieces ≡ (coming_in program plan k op).pieces

  abbrev pub Begins : ℕ → Option Opening → Option LoggedInterval → Type 0
  Begins k None o = o ≡ None
  Begins k (Some op) o = NewLog k op o

  -- what the index gives after these moments; n intervals run, and so many steps came since the last entry
  pub record Comes (s : Proc) (ms : List Moment) (F : Indexing → Indexing) (rest n : ℕ) : Type 0 where
    pub own : (x : Indexing) (k : ℕ) (i : LoggedInterval) (next : ℕ) → length x.running ≡ n → length x.intervals ≡ next
        → At x.intervals x.running None k i
        → Grows i (coming program plan s ms None next rest).pieces (slice_get (F x).intervals k)
    pub inner : (x : Indexing) (m : Inner) (k : ℕ) (i : LoggedInterval) (next since : ℕ) → length x.running ≡ n
        → length x.intervals ≡ next → At x.intervals x.running (Some m) k i
        → Grows i (coming program plan s ms (Some m) next since).pieces (slice_get (F x).intervals k)
    pub past : (x : Indexing) (k : ℕ) (i : LoggedInterval) → length x.running ≡ n → Past x.intervals x.running k i
        → Grows i [] (slice_get (F x).intervals k)
    pub begins : (x : Indexing) (q next : ℕ) → length x.running ≡ n → length x.intervals ≡ next
        → Fall (length x.intervals) x.running
        → Begins (next + q) (opening program plan s ms q) (slice_get (F x).intervals (next + q))

  -- nothing comes
  pub record Stops (s : Proc) (ms : List Moment) (F : Indexing → Indexing) : Type 0 where
    pub still : (x : Indexing) → F x ≡ x
    pub none : (q : ℕ) → opening program plan s ms q ≡ None

  -- ---- no moment is left

  pub waits : (l : Logging) (n : ℕ) → is_none l.proc.status ≡ true → Comes l.proc [] (finals l []) l.rest n
  waits l n e =
      let blocked : finals l []
      ≡ (λ x. fold index_step x (entry.End status.Blocked l.rest l.reads l.writes ∷ [])) =
      ap (λ b. (λ x. fold index_step x (cond b (entry.End status.Blocked l.rest l.reads l.writes ∷ []) []))) e in
      subst (λ F. Comes l.proc [] F l.rest n) (sym blocked) (record {
        own = λ x k i next hn hl a. end_own x.entry (finish status.Blocked l.rest) x.intervals x.running k i a;
        inner = λ x m k i next since hn hl a. end_inner x.entry
            (finish status.Blocked l.rest) x.intervals x.running m k i a;
        past = λ x k i hn a. end_past x.entry (finish status.Blocked l.rest) x.intervals x.running k i a;
        begins = λ x q next hn hl f. none_past
            (left_open x.entry x.running (add_piece x.entry (finish status.Blocked l.rest) x.running x.intervals)) (next + q)
            (let e1 : length (left_open x.entry x.running
            (add_piece x.entry (finish status.Blocked l.rest) x.running x.intervals)) ≡ length x.intervals =
            open_length x.entry x.running (add_piece x.entry (finish status.Blocked l.rest) x.running x.intervals)
            ∙ piece_length x.entry (finish status.Blocked l.rest) x.running x.intervals in omega (arith, e1, hl));
      })

  pub stopped : (l : Logging) (ms : List Moment) → HasStopped l.proc ms → Stops l.proc ms (finals l ms)
  stopped l [] h = record {
    still = λ x. ap (λ b. fold index_step x
        (cond b (entry.End status.Blocked l.rest l.reads l.writes ∷ []) [])) h;
    none = λ q. refl;
  }
  stopped l (m ∷ ms) h = absurd h

  -- ---- one step

  abbrev pub next_proc : Logging → Moment → Proc
  next_proc l m = act program plan l.proc m.taken.answer

  pub record Steps (l : Logging) (m : Moment) (ms : List Moment) (o c : Option Mark) (s : Option Status)
      (F : Indexing → Indexing) (n : ℕ) : Type 0 where
    pub own : (x : Indexing) (k : ℕ) (i : LoggedInterval) (next : ℕ) → length x.running ≡ n → length x.intervals ≡ next
        → At x.intervals x.running None k i
        → Grows i (own_opens (event_items program plan l.proc m.taken) m next l.rest o c s
        (coming program plan (next_proc l m) ms)).pieces (slice_get (F x).intervals k)
    pub inner : (x : Indexing) (j : Inner) (k : ℕ) (i : LoggedInterval) (next since : ℕ) → length x.running ≡ n
        → length x.intervals ≡ next → At x.intervals x.running (Some j) k i
        → Grows i (inner_opens j m next since o c s (coming program plan (next_proc l m) ms)).pieces
        (slice_get (F x).intervals k)
    pub past : (x : Indexing) (k : ℕ) (i : LoggedInterval) → length x.running ≡ n → Past x.intervals x.running k i
        → Grows i [] (slice_get (F x).intervals k)
    pub begins : (x : Indexing) (q next : ℕ) → length x.running ≡ n → length x.intervals ≡ next
        → Fall (length x.intervals) x.running
        → Begins (next + q) (opening_by o q (unit_pieces (unit_started m.taken.need) m.unit_values)
        (next_proc l m) ms (opening program plan (next_proc l m) ms)) (slice_get (F x).intervals (next + q))

  abbrev pub stepped : Logging → Moment → Option Mark → Option Sync → Option Mark → Option Status → Indexing → Indexing
  stepped l m o sy c s x = fold index_step x (news l m.taken m.unit_values o sy c (unit_started m.taken.need) s)

  abbrev pub rest_by : Logging → Moment → Option Mark → Option Sync → Option Mark → Option Status → ℕ
  rest_by l m o sy c s = rest_after l.rest (news l m.taken m.unit_values o sy c (unit_started m.taken.need) s)
