-- A step that closes an interval, in the index of a log.
use Rattle.std.proofs.Common.{◌≡◌, ℕ, zero, suc, List, [], ◌∷◌, ◌++◌, length, Option, Some, None, ap, sym, ◌∙◌, arith}
use Rattle.std.proofs.lemmas.Option.{none-some}
use Rattle.std.specs.Prelude.{slice_get, drop}
use Rattle.ppd_ast.specs.declared.plan.Plan.{Plan}
use Rattle.ppd_ast.specs.declared.program.Program.{Program}
use Rattle.ppd_model.specs.IntervalLogs.{LoggedInterval, Indexing}
use Rattle.ppd_model.proofs.EntryWords.{with_piece, with_postlog}
use Rattle.ppd_model.specs.Pieces.{nested}
use Rattle.ppd_model.specs.declared.state.Logging.{Logging}
use Rattle.ppd_model.specs.Marks.{Mark}
use Rattle.ppd_model.specs.Story.{Moment, unit_started}
use Rattle.ppd_model.specs.Synchronizations.{Sync}
use Rattle.law_steps.specs.Coming.Pieces.{coming, leaves, unit_pieces}
use Rattle.law_steps.proofs.Coming.Indexes.{At, Grows, more, more_left}
use Rattle.law_steps.proofs.Coming.Shapes.{Entered, left_falls, left_inner, left_leaves, left_length, left_own, left_past, unit_falls, unit_in, unit_inner, unit_length, unit_own, unit_past, unit_running}
use Rattle.law_steps.proofs.Coming.Later.{Comes, Steps, next_proc, rest_by, stepped}
use Rattle.law_steps.proofs.Coming.UnitSteps.{left_index, left_unit, unit_at, unit_first}

module _ (program : Program) (plan : Plan) where
  pub step_closes : (l : Logging) (m : Moment) (ms : List Moment) (F : Indexing → Indexing) (n : ℕ) (a : Mark)
      (sy : Option Sync) → sy ≡ None
      → Comes program plan (next_proc program plan l m) ms F (rest_by program plan l m None sy (Some a) None) n
      → Steps program plan l m ms None (Some a) None
      (λ x. F (stepped program plan l m None sy (Some a) None x)) (suc n)
  step_closes l m ms F n a (Some z) e c = absurd (none-some z (sym e))
  step_closes l m ms F n a None e c = record {
    own = λ x k i next hn hl at. more_left x.entry a.values i []
        (slice_get (F (left_unit program plan m a x)).intervals k)
        (c.past (left_unit program plan m a x) k (with_postlog x.entry a.values i) (ran x hn)
        (unit_past m.unit_values (unit_at program plan m) (left_index program plan a x) k
        (with_postlog x.entry a.values i) (left_own x.entry a.values x.intervals x.running k i at)));
    inner = λ x j k i next since hn hl at. inner_by x j.level j.interval j.block k i next since hn hl at;
    past = λ x k i hn p. c.past (left_unit program plan m a x) k i (ran x hn)
        (unit_past m.unit_values (unit_at program plan m) (left_index program plan a x) k i
        (left_past x.entry a.values x.intervals x.running k i p));
    begins = λ x q next hn hl f. c.begins (left_unit program plan m a x) q next (ran x hn) (long x next hl)
        (unit_falls m.unit_values (unit_at program plan m) (left_index program plan a x)
        (left_falls x.entry a.values x.intervals x.running f));
  }
    where
      one_less : (ks : List ℕ) → length ks ≡ suc n → length (drop 1 ks) ≡ n
      one_less [] h = let z : ⊥ = omega (arith, h) in absurd z
      one_less (k ∷ ks) h = omega (arith, h)

      ran : (x : Indexing) → length x.running ≡ suc n → length (left_unit program plan m a x).running ≡ n
      ran x h = ap length (unit_running m.unit_values (unit_at program plan m) (left_index program plan a x))
          ∙ one_less x.running h

      long : (x : Indexing) (next : ℕ) → length x.intervals ≡ next
          → length (left_unit program plan m a x).intervals ≡ next
      long x next h = unit_length m.unit_values (unit_at program plan m) (left_index program plan a x)
          ∙ left_length x.entry a.values x.intervals x.running ∙ h

      inner_by : (x : Indexing) (level j b k : ℕ) (i : LoggedInterval) (next since : ℕ) → length x.running ≡ suc n
          → length x.intervals ≡ next
          → At x.intervals x.running (Some (record { level = level; interval = j; block = b })) k i
          → Grows i (leaves (record { level = level; interval = j; block = b }) level a.values
          (unit_pieces (unit_started m.taken.need) m.unit_values) next since
          (coming program plan (next_proc program plan l m) ms)).pieces
          (slice_get (F (left_unit program plan m a x)).intervals k)
      inner_by x zero j b k i next since hn hl at =
          let d : Entered x.entry a.values x.intervals x.running j b k i =
          left_leaves x.entry a.values x.intervals x.running j b k i at in
          more d.first (nested j b a.values) i
          (unit_pieces (unit_started m.taken.need) m.unit_values ++ (coming program plan
          (next_proc program plan l m) ms None next 0).pieces)
          (slice_get (F (left_unit program plan m a x)).intervals k)
          (unit_first program plan (left_index program plan a x).entry m.unit_values (unit_at program plan m)
          (with_piece d.first (nested j b a.values) i)
          (coming program plan (next_proc program plan l m) ms None next 0).pieces
          (slice_get (F (left_unit program plan m a x)).intervals k)
          (c.own (left_unit program plan m a x) k
          (unit_in m.unit_values (left_index program plan a x).entry (unit_at program plan m)
          (with_piece d.first (nested j b a.values) i)) next (ran x hn) (long x next hl)
          (unit_own m.unit_values (unit_at program plan m) (left_index program plan a x) k
          (with_piece d.first (nested j b a.values) i) d.at)))
      inner_by x (suc level) j b k i next since hn hl at =
          c.inner (left_unit program plan m a x) (record { level = level; interval = j; block = b }) k i next since
          (ran x hn) (long x next hl)
          (unit_inner m.unit_values (unit_at program plan m) (left_index program plan a x)
          (record { level = level; interval = j; block = b }) k i
          (left_inner x.entry a.values x.intervals x.running level j b k i at))
