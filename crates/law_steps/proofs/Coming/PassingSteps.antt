-- A step that neither opens nor closes an interval, in the index of a log.
use Rattle.std.proofs.Common.{◌≡◌, ℕ, List, ◌++◌, length, Option, Some, None, ap, ◌∙◌}
use Rattle.std.specs.Prelude.{slice_get, ℤ, fold}
use Rattle.ppd_ast.specs.declared.plan.Plan.{Plan}
use Rattle.ppd_ast.specs.declared.program.Program.{Program}
use Rattle.ppd_model.specs.declared.entry.Entry.TheVariants as entry
use Rattle.ppd_model.specs.IntervalLogs.{LoggedInterval, Indexing, index_step}
use Rattle.ppd_model.proofs.EntryWords.{with_piece}
use Rattle.ppd_model.specs.Pieces.{unit, sync}
use Rattle.ppd_sem.specs.declared.proc.Proc.{Proc}
use Rattle.ppd_model.specs.declared.tracing.Taken.{Taken}
use Rattle.ppd_model.specs.declared.state.Logging.{Logging}
use Rattle.ppd_model.specs.Logs.{passed_value, rest_after}
use Rattle.ppd_model.specs.Story.{Moment}
use Rattle.ppd_model.specs.Synchronizations.{Sync, sync_of}
use Rattle.ppd_model.proofs.Extents.{Fall}
use Rattle.law_steps.specs.Coming.Pieces.{Inner, coming, since_after, sync_pieces, unit_pieces}
use Rattle.law_steps.proofs.Coming.Indexes.{At, Grows, Past, more, piece_inner, piece_own, piece_past}
use Rattle.law_steps.proofs.Coming.IndexSteps.{piece_length}
use Rattle.law_steps.proofs.Coming.Shapes.{piece_falls, unit_falls, unit_in, unit_inner, unit_length, unit_own, unit_past, unit_running, with_unit}
use Rattle.law_steps.proofs.Coming.Later.{Comes, Steps, next_proc, rest_by, stepped, news}
use Rattle.law_steps.proofs.Coming.UnitSteps.{unit_at, unit_first}

module _ (program : Program) (plan : Plan) where
  abbrev pub pass_index : Logging → Taken → List ℤ → Option Sync → Option ℕ → Indexing → Indexing
  pass_index l t vals sy u x = fold index_step x (news l t vals None sy None u None)

  abbrev pub sync_index : Logging → Taken → Sync → Indexing → Indexing
  sync_index l t z x = index_step x (entry.Sync z.kind z.object z.number (passed_value t.need t.answer) l.reads l.writes)

  module _ (l : Logging) (t : Taken) (vals : List ℤ) (s : Proc) (ms : List Moment) (F : Indexing → Indexing)
      (n : ℕ) where
    abbrev PassOwn : Option Sync → Option ℕ → Type 0
    PassOwn sy u = (x : Indexing) (k : ℕ) (i : LoggedInterval) (next : ℕ) → length x.running ≡ n
        → length x.intervals ≡ next → At x.intervals x.running None k i
        → Grows i ((sync_pieces t sy ++ unit_pieces u vals) ++ (coming program plan s ms None next
        (since_after l.rest (sync_pieces t sy ++ unit_pieces u vals))).pieces)
        (slice_get (F (pass_index l t vals sy u x)).intervals k)

    pass_own : (sy : Option Sync) (u : Option ℕ)
        → Comes program plan s ms F (rest_after l.rest (news l t vals None sy None u None)) n → PassOwn sy u
    pass_own None None c x k i next hn hl at = c.own x k i next hn hl at
    pass_own None (Some u) c x k i next hn hl at =
        more x.entry (unit u vals) i (coming program plan s ms None next 0).pieces
        (slice_get (F (with_unit vals (Some u) x)).intervals k)
        (c.own (with_unit vals (Some u) x) k (with_piece x.entry (unit u vals) i) next hn
        (unit_length vals (Some u) x ∙ hl) (unit_own vals (Some u) x k i at))
    pass_own (Some z) u c x k i next hn hl at =
        let y = sync_index l t z x in
        let p = sync z.kind z.object z.number (passed_value t.need t.answer) in
        more x.entry p i (unit_pieces u vals ++ (coming program plan s ms None next 0).pieces)
        (slice_get (F (with_unit vals u y)).intervals k)
        (unit_first program plan y.entry vals u (with_piece x.entry p i)
        (coming program plan s ms None next 0).pieces (slice_get (F (with_unit vals u y)).intervals k)
        (c.own (with_unit vals u y) k (unit_in vals y.entry u (with_piece x.entry p i)) next
        (ap length (unit_running vals u y) ∙ hn)
        (unit_length vals u y ∙ piece_length x.entry p x.running x.intervals ∙ hl)
        (unit_own vals u y k (with_piece x.entry p i) (piece_own x.entry p x.intervals x.running k i at))))

  pub pass_running : (l : Logging) (t : Taken) (vals : List ℤ) (sy : Option Sync) (u : Option ℕ) (x : Indexing)
      → (pass_index l t vals sy u x).running ≡ x.running
  pass_running l t vals None u x = unit_running vals u x
  pass_running l t vals (Some z) u x = unit_running vals u (sync_index l t z x)

  pub pass_length : (l : Logging) (t : Taken) (vals : List ℤ) (sy : Option Sync) (u : Option ℕ) (x : Indexing)
      → length (pass_index l t vals sy u x).intervals ≡ length x.intervals
  pass_length l t vals None u x = unit_length vals u x
  pass_length l t vals (Some z) u x =
      unit_length vals u (sync_index l t z x) ∙ piece_length x.entry
      (sync z.kind z.object z.number (passed_value t.need t.answer)) x.running x.intervals

  pub pass_falls : (l : Logging) (t : Taken) (vals : List ℤ) (sy : Option Sync) (u : Option ℕ) (x : Indexing)
      → Fall (length x.intervals) x.running
      → Fall (length (pass_index l t vals sy u x).intervals) (pass_index l t vals sy u x).running
  pass_falls l t vals None u x f = unit_falls vals u x f
  pass_falls l t vals (Some z) u x f =
      unit_falls vals u (sync_index l t z x)
      (piece_falls x.entry (sync z.kind z.object z.number (passed_value t.need t.answer)) x.running x.intervals x.running f)

  pub pass_inner : (l : Logging) (t : Taken) (vals : List ℤ) (sy : Option Sync) (u : Option ℕ) (x : Indexing)
      (j : Inner) (k : ℕ) (i : LoggedInterval) → At x.intervals x.running (Some j) k i
      → At (pass_index l t vals sy u x).intervals (pass_index l t vals sy u x).running (Some j) k i
  pass_inner l t vals None u x j k i a = unit_inner vals u x j k i a
  pass_inner l t vals (Some z) u x j k i a =
      unit_inner vals u (sync_index l t z x) j k i
      (piece_inner x.entry (sync z.kind z.object z.number (passed_value t.need t.answer)) x.intervals x.running j k i a)

  pub pass_past : (l : Logging) (t : Taken) (vals : List ℤ) (sy : Option Sync) (u : Option ℕ) (x : Indexing)
      (k : ℕ) (i : LoggedInterval) → Past x.intervals x.running k i
      → Past (pass_index l t vals sy u x).intervals (pass_index l t vals sy u x).running k i
  pass_past l t vals None u x k i a = unit_past vals u x k i a
  pass_past l t vals (Some z) u x k i a =
      unit_past vals u (sync_index l t z x) k i
      (piece_past x.entry (sync z.kind z.object z.number (passed_value t.need t.answer)) x.intervals x.running k i a)

  pub step_passes : (l : Logging) (m : Moment) (ms : List Moment) (F : Indexing → Indexing) (n : ℕ)
      → Comes program plan (next_proc program plan l m) ms F
      (rest_by program plan l m None (sync_of m.taken) None None) n
      → Steps program plan l m ms None None None
      (λ x. F (stepped program plan l m None (sync_of m.taken) None None x)) n
  step_passes l m ms F n c = record {
    own = λ x k i next hn hl at. pass_own l m.taken m.unit_values (next_proc program plan l m) ms F n
        (sync_of m.taken) (unit_at program plan m) c x k i next hn hl at;
    inner = λ x j k i next since hn hl at. c.inner (px x) j k i next since (ran x hn) (long x next hl)
        (pass_inner l m.taken m.unit_values (sync_of m.taken) (unit_at program plan m) x j k i at);
    past = λ x k i hn p. c.past (px x) k i (ran x hn)
        (pass_past l m.taken m.unit_values (sync_of m.taken) (unit_at program plan m) x k i p);
    begins = λ x q next hn hl f. c.begins (px x) q next (ran x hn) (long x next hl)
        (pass_falls l m.taken m.unit_values (sync_of m.taken) (unit_at program plan m) x f);
  }
    where
      px : Indexing → Indexing
      px x = pass_index l m.taken m.unit_values (sync_of m.taken) (unit_at program plan m) x

      ran : (x : Indexing) → length x.running ≡ n → length (px x).running ≡ n
      ran x h = ap length (pass_running l m.taken m.unit_values (sync_of m.taken) (unit_at program plan m) x) ∙ h

      long : (x : Indexing) (next : ℕ) → length x.intervals ≡ next → length (px x).intervals ≡ next
      long x next h = pass_length l m.taken m.unit_values (sync_of m.taken) (unit_at program plan m) x ∙ h
