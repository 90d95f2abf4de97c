-- A step that ends its process, in the index of a log.
use Rattle.std.proofs.Common.{◌≡◌, ℕ, zero, suc, ◌+◌, List, [], ◌∷◌, length, Option, Some, None, refl, ap, sym, ◌∙◌, subst, arith}
use Rattle.std.proofs.lemmas.Option.{none-some}
use Rattle.std.specs.Prelude.{slice_get, fold}
use Rattle.ppd_ast.specs.declared.plan.Plan.{Plan}
use Rattle.ppd_ast.specs.declared.program.Program.{Program}
use Rattle.ppd_ast.specs.declared.status.Status.{Status}
use Rattle.ppd_ast.specs.declared.status.Status.TheVariants as status
use Rattle.ppd_model.specs.declared.entry.Entry.TheVariants as entry
use Rattle.ppd_model.specs.IntervalLogs.{LoggedInterval, Indexing, add_piece, index_step}
use Rattle.ppd_model.proofs.EntryWords.{with_postlog}
use Rattle.ppd_model.specs.Pieces.{unfinished, postlog, finish}
use Rattle.ppd_model.specs.declared.flow.Item.{Item}
use Rattle.ppd_model.specs.declared.state.Logging.{Logging}
use Rattle.ppd_model.specs.Marks.{Mark}
use Rattle.ppd_model.specs.Story.{Moment}
use Rattle.ppd_model.specs.Synchronizations.{Sync}
use Rattle.law_steps.specs.Coming.Pieces.{After, coming, event_items, own_ends}
use Rattle.law_steps.specs.Coming.Openings.{Opening, opening}
use Rattle.law_steps.proofs.Coming.Indexes.{Grows, IsInside, more_left}
use Rattle.law_steps.proofs.Coming.IndexSteps.{end_inner, end_own, end_past, none_past, open_length, piece_length}
use Rattle.law_steps.proofs.Coming.Shapes.{left_length, left_own, left_past}
use Rattle.law_steps.proofs.Coming.Later.{Begins, Steps, Stops, next_proc, news}
use Rattle.law_steps.proofs.Coming.UnitSteps.{left_index}

module _ (program : Program) (plan : Plan) where
  pub end_pieces : (items : List Item) (m : Moment) (next since : ℕ) (s : Status) (after : After)
      → (own_ends items m next since (Some s) after).pieces ≡ finish s since ∷ []
  end_pieces items m next since status.Ended after = refl
  end_pieces items m next since status.Blocked after = refl
  end_pieces items m next since (status.Trap t) after = refl
  end_pieces items m next since status.Budget after = refl

  -- it opens nothing that is later
  pub none_begins : (xs : List LoggedInterval) (next q : ℕ) (o : Option Opening) → o ≡ None → length xs ≡ next
      → Begins program plan (next + q) o (slice_get xs (next + q))
  none_begins xs next q (Some z) e h = absurd (none-some z (sym e))
  none_begins xs next q None e h = none_past xs (next + q) (omega (arith, h))

  abbrev pub end_index : Logging → Status → Indexing → Indexing
  end_index l s x = index_step x (entry.End s l.rest l.reads l.writes)

  pub end_length : (l : Logging) (s : Status) (x : Indexing) → length (end_index l s x).intervals ≡ length x.intervals
  end_length l s x = open_length x.entry x.running (add_piece x.entry (finish s l.rest) x.running x.intervals)
      ∙ piece_length x.entry (finish s l.rest) x.running x.intervals

  pub step_stops : (l : Logging) (m : Moment) (ms : List Moment) (F : Indexing → Indexing) (n : ℕ) (s : Status)
      (sy : Option Sync) (u : Option ℕ) → sy ≡ None → u ≡ None
      → Stops program plan (next_proc program plan l m) ms F
      → Steps program plan l m ms None None (Some s)
      (λ x. F (fold index_step x (news l m.taken m.unit_values None sy None u (Some s)))) n
  step_stops l m ms F n s (Some z) u e eu c = absurd (none-some z (sym e))
  step_stops l m ms F n s None (Some z) e eu c = absurd (none-some z (sym eu))
  step_stops l m ms F n s None None e eu c = record {
    own = λ x k i next hn hl at. subst (λ y. Grows i
        (own_ends (event_items program plan l.proc m.taken) m next l.rest (Some s)
        (coming program plan (next_proc program plan l m) ms)).pieces (slice_get y.intervals k))
        (sym (c.still (end_index l s x)))
        (subst (λ ps. Grows i ps (slice_get (end_index l s x).intervals k))
        (sym (end_pieces (event_items program plan l.proc m.taken) m next l.rest s
        (coming program plan (next_proc program plan l m) ms)))
        (end_own x.entry (finish s l.rest) x.intervals x.running k i at));
    inner = λ x j k i next since hn hl at. subst (λ y. Grows i (unfinished j.interval j.block ∷ [])
        (slice_get y.intervals k)) (sym (c.still (end_index l s x)))
        (end_inner x.entry (finish s l.rest) x.intervals x.running j k i at);
    past = λ x k i hn p. subst (λ y. Grows i [] (slice_get y.intervals k)) (sym (c.still (end_index l s x)))
        (end_past x.entry (finish s l.rest) x.intervals x.running k i p);
    begins = λ x q next hn hl f. none_begins (F (end_index l s x)).intervals next q
        (opening program plan (next_proc program plan l m) ms q) (c.none q)
        (ap (λ y. length y.intervals) (c.still (end_index l s x)) ∙ end_length l s x ∙ hl);
  }

  -- ---- it closes the process's own interval

  pub two_run : (xs : List LoggedInterval) (ks : List ℕ) (level j b k : ℕ) → IsInside xs ks level j b k → length ks ≡ 1 → ⊥
  two_run xs [] level j b k h e = h
  two_run xs (r ∷ []) zero j b k h e = h.2
  two_run xs (r ∷ []) (suc level) j b k h e = h
  two_run xs (r ∷ q ∷ ks) level j b k h e = omega (arith, e)

  pub step_ends : (l : Logging) (m : Moment) (ms : List Moment) (F : Indexing → Indexing) (n : ℕ) (a : Mark)
      (s : Status) (sy : Option Sync) (u : Option ℕ) → sy ≡ None → u ≡ None → n ≡ 1
      → Stops program plan (next_proc program plan l m) ms F
      → Steps program plan l m ms None (Some a) (Some s)
      (λ x. F (fold index_step x (news l m.taken m.unit_values None sy (Some a) u (Some s)))) n
  step_ends l m ms F n a s (Some z) u e eu en c = absurd (none-some z (sym e))
  step_ends l m ms F n a s None (Some z) e eu en c = absurd (none-some z (sym eu))
  step_ends l m ms F n a s None None e eu en c = record {
    own = λ x k i next hn hl at. subst (λ y. Grows i (postlog a.values ∷ []) (slice_get y.intervals k))
        (sym (c.still (end_index l s (left_index program plan a x))))
        (more_left x.entry a.values i [] (slice_get (end_index l s (left_index program plan a x)).intervals k)
        (end_past (x.entry + 1) (finish s l.rest) (left_index program plan a x).intervals
        (left_index program plan a x).running k (with_postlog x.entry a.values i)
        (left_own x.entry a.values x.intervals x.running k i at)));
    inner = λ x j k i next since hn hl at. absurd (two_run x.intervals x.running j.level j.interval j.block k at.runs (hn ∙ en));
    past = λ x k i hn p. subst (λ y. Grows i [] (slice_get y.intervals k))
        (sym (c.still (end_index l s (left_index program plan a x))))
        (end_past (x.entry + 1) (finish s l.rest) (left_index program plan a x).intervals
        (left_index program plan a x).running k i (left_past x.entry a.values x.intervals x.running k i p));
    begins = λ x q next hn hl f. none_begins (F (end_index l s (left_index program plan a x))).intervals next q
        (opening program plan (next_proc program plan l m) ms q) (c.none q)
        (ap (λ y. length y.intervals) (c.still (end_index l s (left_index program plan a x))) ∙ end_length l s
        (left_index program plan a x) ∙ left_length x.entry a.values x.intervals x.running ∙ hl);
  }
