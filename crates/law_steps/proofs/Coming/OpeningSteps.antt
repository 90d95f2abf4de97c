-- A step that opens an interval, in the index of a log.
use Rattle.std.proofs.Common.{◌≡◌, ℕ, zero, suc, ◌+◌, List, [], ◌∷◌, ◌++◌, length, Option, Some, None, refl, ap, sym, ◌∙◌, subst, arith}
use Rattle.std.proofs.lemmas.List.{length-append}
use Rattle.std.proofs.lemmas.Option.{none-some}
use Rattle.std.specs.Prelude.{slice_get}
use Rattle.ppd_ast.specs.declared.plan.Plan.{Plan}
use Rattle.ppd_ast.specs.declared.program.Program.{Program}
use Rattle.ppd_model.proofs.EntryWords.{new_interval}
use Rattle.ppd_model.specs.IntervalLogs.{Indexing}
use Rattle.ppd_model.specs.declared.state.Logging.{Logging}
use Rattle.ppd_model.specs.Marks.{Mark}
use Rattle.ppd_model.specs.Story.{Moment, unit_started}
use Rattle.ppd_model.specs.Synchronizations.{Sync}
use Rattle.ppd_model.proofs.Extents.{Fall}
use Rattle.law_steps.specs.Coming.Pieces.{coming, unit_pieces}
use Rattle.law_steps.specs.Coming.Openings.{opening, opening_by}
use Rattle.law_steps.proofs.Coming.Indexes.{At, Grows}
use Rattle.law_steps.proofs.Coming.IndexSteps.{put_inner, put_new, put_own, put_past}
use Rattle.law_steps.proofs.Coming.Shapes.{unit_falls, unit_in, unit_inner, unit_length, unit_own, unit_past, unit_running}
use Rattle.law_steps.proofs.Coming.Later.{Begins, Comes, NewLog, Steps, next_proc, rest_by, stepped}
use Rattle.law_steps.proofs.Coming.UnitSteps.{put_index, put_unit, unit_at, unit_block, unit_log, unit_values_are}

module _ (program : Program) (plan : Plan) where
  pub step_opens : (l : Logging) (m : Moment) (ms : List Moment) (F : Indexing → Indexing) (n : ℕ) (a : Mark)
      (sy : Option Sync) → sy ≡ None
      → Comes program plan (next_proc program plan l m) ms F (rest_by program plan l m (Some a) sy None None)
      (suc n) → Steps program plan l m ms (Some a) None None
      (λ x. F (stepped program plan l m (Some a) sy None None x)) n
  step_opens l m ms F n a (Some z) e c = absurd (none-some z (sym e))
  step_opens l m ms F n a None e c = record {
    own = λ x k i next hn hl at. c.inner (put_unit program plan m a x)
        (record { level = 0; interval = next; block = a.block }) k i (next + 1) l.rest (ran x hn) (long x next hl)
        (unit_inner m.unit_values (unit_at program plan m) (put_index program plan a x)
        (record { level = 0; interval = next; block = a.block }) k i
        (subst (λ z. At (put_index program plan a x).intervals (put_index program plan a x).running
        (Some (record { level = 0; interval = z; block = a.block })) k i) hl
        (put_own x.intervals x.running (new_interval x a.block a.values) k i at)));
    inner = λ x j k i next since hn hl at. c.inner (put_unit program plan m a x)
        (record j { level = j.level + 1 }) k i (next + 1) since (ran x hn) (long x next hl)
        (unit_inner m.unit_values (unit_at program plan m) (put_index program plan a x)
        (record j { level = j.level + 1 }) k i
        (put_inner x.intervals x.running (new_interval x a.block a.values) j k i at));
    past = λ x k i hn p. c.past (put_unit program plan m a x) k i (ran x hn)
        (unit_past m.unit_values (unit_at program plan m) (put_index program plan a x) k i
        (put_past x.intervals x.running (new_interval x a.block a.values) k i p));
    begins = λ x q next hn hl f. begin x q next hn hl f;
  }
    where
      ran : (x : Indexing) → length x.running ≡ n → length (put_unit program plan m a x).running ≡ suc n
      ran x h = ap length (unit_running m.unit_values (unit_at program plan m) (put_index program plan a x))
          ∙ ap suc h

      long : (x : Indexing) (next : ℕ) → length x.intervals ≡ next
          → length (put_unit program plan m a x).intervals ≡ next + 1
      long x next h = unit_length m.unit_values (unit_at program plan m) (put_index program plan a x)
          ∙ length-append x.intervals (new_interval x a.block a.values ∷ []) ∙ ap (λ z. z + 1) h

      begin : (x : Indexing) (q next : ℕ) → length x.running ≡ n → length x.intervals ≡ next
          → Fall (length x.intervals) x.running
          → Begins program plan (next + q)
          (opening_by (Some a) q (unit_pieces (unit_started m.taken.need) m.unit_values)
          (next_proc program plan l m) ms (opening program plan (next_proc program plan l m) ms))
          (slice_get (F (put_unit program plan m a x)).intervals (next + q))
      begin x zero next hn hl f =
          let i0 = new_interval x a.block a.values in
          let at0 : At (put_index program plan a x).intervals (put_index program plan a x).running None next i0 =
          subst (λ z. At (put_index program plan a x).intervals
          (put_index program plan a x).running None z i0) hl (put_new x.intervals x.running i0 f) in
          let g : Grows (unit_in m.unit_values (put_index program plan a x).entry (unit_at program plan m) i0)
          (coming program plan (next_proc program plan l m) ms None (next + 1) 0).pieces
          (slice_get (F (put_unit program plan m a x)).intervals next) =
          c.own (put_unit program plan m a x) next
          (unit_in m.unit_values (put_index program plan a x).entry (unit_at program plan m) i0)
          (next + 1) (ran x hn) (long x next hl)
          (unit_own m.unit_values (unit_at program plan m) (put_index program plan a x) next i0 at0) in
          let e0 : next ≡ next + 0 = omega arith in
          subst (λ z. NewLog program plan z
          (record {
            mark = a;
            units = unit_pieces (unit_started m.taken.need) m.unit_values;
            proc = next_proc program plan l m;
            rest =
                ms;
          }) (slice_get (F (put_unit program plan m a x)).intervals z)) e0 (record {
            now = g.now;
            there = g.there;
            block = g.block ∙ unit_block program plan (put_index program plan a x).entry m.unit_values
                (unit_at program plan m) i0;
            values = g.values ∙ unit_values_are program plan (put_index program plan a x).entry m.unit_values
                (unit_at program plan m) i0;
            pieces = g.pieces ∙ ap (λ ps. ps ++ (coming program plan (next_proc program plan l m) ms None
                (next + 1) 0).pieces) (unit_log program plan (put_index program plan a x).entry m.unit_values
                (unit_at program plan m) i0 refl);
          })
      begin x (suc q) next hn hl f =
          let e0 : next + 1 + q ≡ next + suc q = omega arith in
          subst (λ z. Begins program plan z (opening program plan (next_proc program plan l m) ms q)
          (slice_get (F (put_unit program plan m a x)).intervals z)) e0
          (c.begins (put_unit program plan m a x) q (next + 1) (ran x hn) (long x next hl)
          (unit_falls m.unit_values (unit_at program plan m) (put_index program plan a x)
          (put_new x.intervals x.running (new_interval x a.block a.values) f).falls))
