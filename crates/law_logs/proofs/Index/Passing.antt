-- The entries of a process's steps are not refused, one step after the other.
use Rattle.law_logs.proofs.Index.Endings.{IsEnding, ending, inside_end, inside_some}
use Rattle.law_logs.proofs.Index.Marked.{IsPostlog, IsPrelog, marked}
use Rattle.law_logs.proofs.Index.OfKind.{own_fits}
use Rattle.law_logs.proofs.Index.Standing.{Stands, after_postlog, after_prelog, after_sync, after_unit, next_later}
use Rattle.law_logs.proofs.Index.Started.{IsUnder, next_under, under_there, unit_fits}
use Rattle.law_logs.proofs.Index.Tested.{IsInsideEnd, MayBegin, Passes, fit_end, fit_ended, fit_postlog, fit_prelog, fit_sync, fit_unit, last_one, one_more}
use Rattle.law_logs.proofs.Index.Valued.{AreValued, IsValued}
use Rattle.law_steps.proofs.Coming.Later.{closing, news}
use Rattle.law_steps.proofs.Coming.Shapes.{Shape, closes, ends, opens, passes, shape, stops}
use Rattle.law_steps.proofs.Coming.Stacked.{stopped_run}
use Rattle.law_steps.proofs.Vocabulary.Nested.{HasStopped}
use Rattle.law_steps.proofs.OpenBlocks.Stacks.{steps_move}
use Rattle.law_steps.specs.Course.{EndsWithEnd}
use Rattle.law_steps.specs.OpenBlocks.Run.{IsRun}
use Rattle.law_steps.specs.OpenBlocks.Stack.{IsInOrder, Moves, block_frames, functions_in, open_blocks, process_block, stack}
use Rattle.ppd_ast.specs.Valid.{IsValid}
use Rattle.ppd_ast.specs.declared.plan.Plan.{Plan}
use Rattle.ppd_ast.specs.declared.plan.Policy.{Policy}
use Rattle.ppd_ast.specs.declared.program.Program.{Program}
use Rattle.ppd_ast.specs.declared.status.Status.{Status}
use Rattle.ppd_ast.specs.declared.status.Status.TheVariants as status
use Rattle.ppd_blocks.specs.Blocks.{plan_of}
use Rattle.ppd_model.specs.IntervalLogs.{Indexing, index_step}
use Rattle.ppd_model.specs.declared.entry.Entry.{Entry}
use Rattle.ppd_model.specs.declared.entry.Entry.TheVariants as entry
use Rattle.ppd_index.proofs.Vocabulary.{fits_postlog, fits_unit}
use Rattle.ppd_model.proofs.Statuses.{status_after}
use Rattle.ppd_model.specs.Logs.{closed_log, entries_of, log_step, passed_value, status_of, units}
use Rattle.ppd_model.specs.Marks.{Mark, closed, opened}
use Rattle.ppd_model.specs.Story.{Moment, unit_started}
use Rattle.ppd_model.specs.Synchronizations.{Sync, sync_of}
use Rattle.ppd_model.specs.declared.state.Logging.{Logging}
use Rattle.ppd_model.specs.declared.tracing.Taken.{Taken}
use Rattle.ppd_sem.specs.Process.{act, need_of}
use Rattle.ppd_sem.specs.declared.proc.Proc.{Proc}
use Rattle.ppd_sem.specs.declared.proc.Todo.{Todo}
use Rattle.std.proofs.Common.{List, None, Option, Some, [], ap, append_assoc, arith, cond, eq-eqb, false, fold, length, refl, subst, suc, sym, true, ℕ, ℤ, ◌++◌, ◌+◌, ◌<◌, ◌∙◌, ◌∷◌, ◌≡◌}
use Rattle.std.proofs.lemmas.Option.{none-some}
use Rattle.std.specs.Prelude.{is_none, slice_get, unwrap_or}

module _ (program : Program) (policy : Policy) (v : IsValid program) (p : ℕ) (there : program.functions + p < length program.bodies) where
  abbrev plan : Plan
  plan = plan_of program policy

  abbrev body : ℕ
  body = program.functions + p

  abbrev Open : Proc → List ℕ
  Open s = stack program plan p s

  -- the entries to come
  pub more : Logging → List Moment → List Entry
  more l [] = closing l
  more l (m ∷ ms) = entries_of program plan l m ++ more (log_step program plan l m) ms

  pub logged : (ms : List Moment) (l : Logging) → closed_log (fold (log_step program plan) l ms) ≡ l.entries ++ more l ms
  unfolding more
  logged [] l = refl
  logged (m ∷ ms) l = logged ms (log_step program plan l m) ∙ append_assoc l.entries (entries_of program plan l m) (more (log_step program plan l m) ms)

  none_more : (l : Logging) (ms : List Moment) → HasStopped l.proc ms → more l ms ≡ []
  unfolding more
  none_more l [] h = ap (λ b. cond b (entry.End status.Blocked l.rest l.reads l.writes ∷ []) []) h
  none_more l (m ∷ ms) h = absurd h

  -- ---- the entries of one step

  module _ (l : Logging) (t : Taken) (values : List ℤ) (es : List Entry) where
    -- the unit that starts, if one does
    units_pass : (u : Option ℕ) (y : Indexing) (b : ℕ) (bs : List ℕ) → ((w : ℕ) → u ≡ Some w → fits_unit (slice_get plan.units w) values ≡ true) → Stands plan y (b ∷ bs)
        → ((z : Indexing) → Stands plan z (b ∷ bs) → Passes plan body p z es) → Passes plan body p y ((units u values ++ []) ++ es)
    units_pass None y b bs fits s next = next y s
    units_pass (Some w) y b bs fits s next =
        one_more plan body p y (entry.Unit w values) es (fit_unit plan body p y b bs s w values (fits w refl)) refl (next (index_step y (entry.Unit w values)) (after_unit plan y w values (b ∷ bs) s))

    -- where some block is open
    units_inside : (u : Option ℕ) (y : Indexing) (s : Proc) → ((w : ℕ) → u ≡ Some w → fits_unit (slice_get plan.units w) values ≡ true) → Stands plan y (Open s)
        → ((z : Indexing) → Stands plan z (Open s) → Passes plan body p z es) → Passes plan body p y ((units u values ++ []) ++ es)
    units_inside u y s fits stands next =
        let i = inside_some (open_blocks program plan s.todo) (process_block program plan p) in
        units_pass u y i.0 i.1 fits (subst (Stands plan y) i.2 stands) (λ z h. next z (subst (Stands plan z) (sym i.2) h))

    module _ (x : Indexing) (s after : Proc) (stands : Stands plan x (Open s)) (u : Option ℕ) (fits : (w : ℕ) → u ≡ Some w → fits_unit (slice_get plan.units w) values ≡ true)
        (next : (z : Indexing) → Stands plan z (Open after) → Passes plan body p z es) where
      opens_pass : (a : Mark) → IsPrelog program policy v (functions_in plan (Open s)) a → Open after ≡ a.block ∷ Open s → Passes plan body p x (news l t values (Some a) None None u None ++ es)
      opens_pass a h move =
          let i = inside_some (open_blocks program plan s.todo) (process_block program plan p) in
          one_more plan body p x (entry.Prelog a.block a.values) ((units u values ++ []) ++ es)
          (fit_prelog plan body p x i.0 i.1 (subst (Stands plan x) i.2 stands) a.block a.values
          (subst (λ bs. MayBegin plan (functions_in plan bs) a.block) i.2 h.begins) h.fits) refl
          (units_inside u (index_step x (entry.Prelog a.block a.values)) after fits
          (subst (Stands plan (index_step x (entry.Prelog a.block a.values))) (sym move) (after_prelog plan x (Open s) a.block a.values (next_later plan x.entry) stands.falls stands.are)) next)

      closes_pass : (a : Mark) → IsPostlog program policy v a → Open s ≡ a.block ∷ Open after → Passes plan body p x (news l t values None None (Some a) u None ++ es)
      closes_pass a h move =
          let here : Stands plan x (a.block ∷ Open after) = subst (Stands plan x) move stands in
          one_more plan body p x (entry.Postlog a.block a.values) ((units u values ++ []) ++ es)
          (fit_postlog plan body p x a.block (Open after) here a.values h (eq-eqb a.block a.block refl)) refl
          (units_inside u (index_step x (entry.Postlog a.block a.values)) after fits (after_postlog plan x a.block a.values a.block (Open after) here) next)

      passes_pass : (sy : Option Sync) → Open s ≡ Open after → Passes plan body p x (news l t values None sy None u None ++ es)
      passes_pass None move = units_inside u x after fits (subst (Stands plan x) move stands) next
      passes_pass (Some z) move =
          let i = inside_some (open_blocks program plan s.todo) (process_block program plan p) in
          let e : Entry = entry.Sync z.kind z.object z.number (passed_value t.need t.answer) l.reads l.writes in
          one_more plan body p x e ((units u values ++ []) ++ es) (fit_sync plan body p x i.0 i.1 (subst (Stands plan x) i.2 stands) z.kind z.object z.number (passed_value t.need t.answer) l.reads l.writes) refl
          (units_inside u (index_step x e) after fits (subst (Stands plan (index_step x e)) move (after_sync plan x z.kind z.object z.number (passed_value t.need t.answer) l.reads l.writes (Open s) stands)) next)

    module _ (x : Indexing) (s : Proc) (stands : Stands plan x (Open s)) (none : es ≡ []) where
      ends_pass : (a : Mark) (how : Status) → fits_postlog (slice_get plan.blocks a.block) a.values ≡ true → how ≡ status.Ended → Open s ≡ a.block ∷ [] → Passes plan body p x (news l t values None None (Some a) None (Some how) ++ es)
      ends_pass a how fits ended move =
          let here : Stands plan x (a.block ∷ []) = subst (Stands plan x) move stands in
          let y : Indexing = index_step x (entry.Postlog a.block a.values) in
          one_more plan body p x (entry.Postlog a.block a.values) (entry.End how l.rest l.reads l.writes ∷ es) (fit_postlog plan body p x a.block [] here a.values fits (eq-eqb a.block a.block refl)) refl
          (subst (λ fs. Passes plan body p y (entry.End how l.rest l.reads l.writes ∷ fs)) (sym none)
          (subst (λ w. Passes plan body p y (entry.End w l.rest l.reads l.writes ∷ [])) (sym ended)
          (last_one plan body p y status.Ended l.rest l.reads l.writes (fit_ended plan body p y (after_postlog plan x a.block a.values a.block [] here) l.rest l.reads l.writes))))

      stops_pass : (how : Status) → IsInsideEnd how → Passes plan body p x (news l t values None None None None (Some how) ++ es)
      stops_pass how inside =
          let i = inside_some (open_blocks program plan s.todo) (process_block program plan p) in
          subst (λ fs. Passes plan body p x (entry.End how l.rest l.reads l.writes ∷ fs)) (sym none)
          (last_one plan body p x how l.rest l.reads l.writes (fit_end plan body p x i.0 i.1 (subst (Stands plan x) i.2 stands) how l.rest l.reads l.writes inside))

  -- ---- each step

  -- a step of these marks passes
  module _ (l : Logging) (m : Moment) (es : List Entry) (x : Indexing) (after : Proc) (stands : Stands plan x (Open l.proc)) where
    by_shape : (sy : Option Sync) (u : Option ℕ) (o c : Option Mark) (st : Option Status) → Shape sy u o c st
        → ((k : Mark) → o ≡ Some k → IsPrelog program policy v (functions_in plan (Open l.proc)) k)
        → ((k : Mark) → c ≡ Some k → st ≡ None → IsPostlog program policy v k)
        → ((k : Mark) (how : Status) → c ≡ Some k → st ≡ Some how → IsEnding k how)
        → ((how : Status) → c ≡ None → st ≡ Some how → IsInsideEnd how)
        → Moves o c st (Open l.proc) (Open after)
        → (st ≡ None → (w : ℕ) → u ≡ Some w → fits_unit (slice_get plan.units w) m.unit_values ≡ true)
        → (st ≡ None → (z : Indexing) → Stands plan z (Open after) → Passes plan body p z es)
        → ((how : Status) → st ≡ Some how → es ≡ [])
        → Passes plan body p x (news l m.taken m.unit_values o sy c u st ++ es)
    by_shape None u (Some a) None None (opens _ e) pre post final inside move fits next over = opens_pass l m.taken m.unit_values es x l.proc after stands u (fits refl) (next refl) a (pre a refl) move
    by_shape (Some z) u (Some a) None None (opens _ e) pre post final inside move fits next over = absurd (none-some z (sym e))
    by_shape None u None (Some a) None (closes _ e) pre post final inside move fits next over = closes_pass l m.taken m.unit_values es x l.proc after stands u (fits refl) (next refl) a (post a refl refl) move
    by_shape (Some z) u None (Some a) None (closes _ e) pre post final inside move fits next over = absurd (none-some z (sym e))
    by_shape None None None (Some a) (Some how) (ends _ _ e eu) pre post final inside move fits next over =
        let f = final a how refl refl in
        let only : process_block program plan p ≡ a.block = last_block (open_blocks program plan l.proc.todo) (process_block program plan p) a.block move in
        ends_pass l m.taken m.unit_values es x l.proc stands (over how refl) a how
        (ap (λ vs. fits_postlog (slice_get plan.blocks a.block) vs) f.values ∙ subst (λ b. fits_postlog (slice_get plan.blocks b) [] ≡ true) only (own_fits program policy v p there).1.0)
        f.ended move
      where
        last_block : (xs : List ℕ) (y b : ℕ) → xs ++ y ∷ [] ≡ b ∷ [] → y ≡ b
        last_block [] y b e = ap (λ bs. first_or bs) e
          where
            first_or : List ℕ → ℕ
            first_or [] = 0
            first_or (z ∷ zs) = z
        last_block (z ∷ []) y b e = let two : 2 ≡ 1 = ap length e in absurd (omega (arith, two))
        last_block (z ∷ w ∷ zs) y b e = let two : suc (suc (length (zs ++ y ∷ []))) ≡ 1 = ap length e in absurd (omega (arith, two))
    by_shape (Some z) u None (Some a) (Some how) (ends _ _ e eu) pre post final inside move fits next over = absurd (none-some z (sym e))
    by_shape None (Some w) None (Some a) (Some how) (ends _ _ e eu) pre post final inside move fits next over = absurd (none-some w (sym eu))
    by_shape None None None None (Some how) (stops _ e eu) pre post final inside move fits next over = stops_pass l m.taken m.unit_values es x l.proc stands (over how refl) how (inside how refl refl)
    by_shape (Some z) u None None (Some how) (stops _ e eu) pre post final inside move fits next over = absurd (none-some z (sym e))
    by_shape None (Some w) None None (Some how) (stops _ e eu) pre post final inside move fits next over = absurd (none-some w (sym eu))
    by_shape sy u None None None passes pre post final inside move fits next over = passes_pass l m.taken m.unit_values es x l.proc after stands u (fits refl) (next refl) sy move
    by_shape sy u (Some a) None (Some how) z pre post final inside move fits next over = elim z [ ]
    by_shape sy u (Some a) (Some c) st z pre post final inside move fits next over = elim z [ ]

  -- ---- all steps

  module _ (m : Moment) (ms : List Moment) (l : Logging) (x : Indexing) (u : ℕ) (order : IsInOrder program plan p l.proc) (runs : l.proc.status ≡ None) (run : IsRun program plan l.proc (m ∷ ms)) (valued : IsValued plan m) (under : IsUnder program policy v u l.proc) (stands : Stands plan x (Open l.proc)) where
    abbrev after : Proc
    after = act program plan l.proc m.taken.answer

    status_is : after.status ≡ status_of m.taken.need
    status_is = status_after program plan m.taken.answer l.proc runs ∙ ap status_of (sym run.0)

    next_order : IsInOrder program plan p after
    next_order = steps_move.stays program plan p l.proc m.taken.answer v order

    move : Moves (opened program plan l.proc m.taken.need) (closed program plan l.proc m.taken.need) (status_of m.taken.need) (Open l.proc) (Open after)
    move = subst (λ n. Moves (opened program plan l.proc n) (closed program plan l.proc n) (status_of n) (Open l.proc) (Open after)) (sym run.0) (steps_move.moves program plan p l.proc m.taken.answer v order runs)

    -- the unit that is in force after the step
    abbrev next_unit : ℕ
    next_unit = unwrap_or (unit_started (need_of program plan l.proc)) u

    by_todo : (todo : List Todo) → l.proc.todo ≡ todo → EndsWithEnd program todo → (es : List Entry) → (after.status ≡ None → IsUnder program policy v next_unit after → (z : Indexing) → Stands plan z (Open after) → Passes plan body p z es) → (is_none after.status ≡ false → es ≡ [])
        → Passes plan body p x (entries_of program plan l m ++ es)
    by_todo [] is last es further over = absurd last
    by_todo (t ∷ ts) is last es further over =
        let marks = marked program policy v l.proc body t ts is runs order.frames in
        let deep : block_frames plan l.proc.frames ≡ functions_in plan (Open l.proc) = sym (steps_move.depth program policy p l.proc v there order) in
        let goes_on : status_of m.taken.need ≡ None → IsUnder program policy v next_unit after = λ none. next_under program policy v u p l.proc m.taken.answer t ts is order under (status_is ∙ none) in
        by_shape l m es x after stands (sync_of m.taken) (unit_started m.taken.need) (opened program plan l.proc m.taken.need) (closed program plan l.proc m.taken.need) (status_of m.taken.need)
        (shape program plan l.proc m.taken m.taken.need refl)
        (λ k e. subst (λ n. IsPrelog program policy v n k) deep (marks.0 k (ap (opened program plan l.proc) (sym run.0) ∙ e)))
        (λ k e none. marks.1 k (ap (closed program plan l.proc) (sym run.0) ∙ e) (ap status_of (sym run.0) ∙ none))
        (λ k how e f. ending program plan l.proc m.taken.need k how e f)
        (λ how e f. inside_end program plan l.proc m.taken.need how e f)
        move
        (λ none w e.
        (let unit_is : next_unit ≡ w = ap (λ n. unwrap_or (unit_started n) u) (sym run.0) ∙ ap (λ o. unwrap_or o u) e in
        let found = under_there program policy v w after (subst (λ n. IsUnder program policy v n after) unit_is (goes_on none)) (next_order.until_end (status_is ∙ none)) in
        unit_fits program policy v w found.0 m.unit_values found.1 (valued w e)))
        (λ none z h. further (status_is ∙ none) (goes_on none) z h)
        (λ how e. over (ap is_none (status_is ∙ e)))

  pub pass : (ms : List Moment) (l : Logging) (x : Indexing) (u : ℕ) → IsInOrder program plan p l.proc → l.proc.status ≡ None → IsRun program plan l.proc ms → AreValued plan ms → IsUnder program policy v u l.proc → Stands plan x (Open l.proc)
      → Passes plan body p x (more l ms)
  unfolding more
  pass [] l x u order runs run valued under stands =
      let i = inside_some (open_blocks program plan l.proc.todo) (process_block program plan p) in
      subst (λ b. Passes plan body p x (cond b (entry.End status.Blocked l.rest l.reads l.writes ∷ []) [])) (sym (ap is_none runs))
      (last_one plan body p x status.Blocked l.rest l.reads l.writes (fit_end plan body p x i.0 i.1 (subst (Stands plan x) i.2 stands) status.Blocked l.rest l.reads l.writes (λ plan body at rest reads writes h. h)))
  pass (m ∷ ms) l x u order runs run valued under stands =
      by_todo m ms l x u order runs run valued.0 under stands l.proc.todo refl (order.until_end runs) (more (log_step program plan l m) ms)
      (λ going under' z h. pass ms (log_step program plan l m) z (next_unit m ms l x u order runs run valued.0 under stands) (next_order m ms l x u order runs run valued.0 under stands) going run.3 valued.1 under' h)
      (λ stopped. none_more (log_step program plan l m) ms (stopped_run program plan (after m ms l x u order runs run valued.0 under stands) ms stopped run.3))
