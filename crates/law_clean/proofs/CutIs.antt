-- The log of a process in a whole schedule, cut as the definition says, is the log after the synchronization that ends
-- the edge, and the end of a cut log.
use Rattle.ppd_model.specs.Setting.{Setting}
use Rattle.std.specs.Option.{option_map_or}
use Rattle.std.proofs.Common.{◌≡◌, ℕ, suc, ◌+◌, ℤ, true, false, List, [], ◌∷◌, ◌++◌, length, Option, Some, None, refl, ap, ap₂, sym, ◌∙◌, arith, append_assoc, append-nil, length-append, true≢false, inl, inr, ◌⊎◌, ◌||◌}
use Rattle.std.proofs.lemmas.Bool.{cond-true}
use Rattle.std.proofs.lemmas.List.Elements.{filter_map-append}
use Rattle.std.proofs.lemmas.List.Folds.{list_any-append}
use Rattle.std.proofs.lemmas.List.Sums.{fold-append}
use Rattle.std.specs.List.{cons_option, list_any}
use Rattle.std.specs.Prelude.{filter_map, fold, is_some, option_to_list, slice_get, take, ⊤, if◌then◌else◌}
use Rattle.ppd_ast.specs.declared.plan.Plan.{Plan}
use Rattle.ppd_ast.specs.declared.program.Program.{Program}
use Rattle.ppd_model.specs.declared.entry.Entry.{Entry}
use Rattle.ppd_model.specs.declared.entry.Entry.TheVariants as entry
use Rattle.ppd_model.specs.declared.state.Logging.{Logging}
use Rattle.ppd_model.specs.Logs.{begun_log, closed_log, ends, entries_of, log_step, passed_value, status_of, syncs as sync_entries, units, block_entries}
use Rattle.ppd_model.specs.Marks.{Mark, closed, opened}
use Rattle.ppd_sem.specs.declared.proc.Need.{Need}
use Rattle.ppd_sem.specs.declared.proc.Need.TheVariants as need
use Rattle.ppd_model.specs.RecordedSets.{sync_in}
use Rattle.ppd_model.specs.Synchronizations.{Sync, kind_of_sync, sync_of}
use Rattle.ppd_model.proofs.RecordedSyncs.{of_step}
use Rattle.ppd_model.specs.Story.{Moment, steps_of, unit_started}
use Rattle.law_steps.proofs.Coming.Later.{closing}
use Rattle.ppd_graph.specs.Ends.{ending, ends_edge}
use Rattle.ppd_graph.proofs.FlowWords.{is_sync}
use Rattle.ppd_model.specs.Entries.{is_end}
use Rattle.law_flow.proofs.Edges.LogPlaces.EdgeEnds.{ending_is}
use Rattle.law_flow.proofs.Edges.Spans.Facts.{syncs}
use Rattle.law_clean.proofs.EdgeEnds.{sync_need}
use Rattle.law_clean.specs.Cuts.{cut, cut_at, is_unit, stop}

-- ---- lists

take_front : {A : Type 0} (xs ys : List A) → take (length xs) (xs ++ ys) ≡ xs
take_front [] ys = refl
take_front (x ∷ xs) ys = ap (λ zs. x ∷ zs) (take_front xs ys)

get_past : {A : Type 0} (xs ys : List A) → slice_get (xs ++ ys) (length xs) ≡ slice_get ys 0
get_past [] ys = refl
get_past (x ∷ xs) ys = get_past xs ys

-- ---- a log and what comes after it

module _ (program : Program) (plan : Plan) where
  abbrev pub tail : Logging → List Moment → List Entry
  tail l [] = closing l
  tail l (m ∷ ms) = entries_of program plan l m ++ tail (log_step program plan l m) ms

  pub log_tail : (ms : List Moment) (l : Logging) → closed_log (fold (log_step program plan) l ms) ≡ l.entries ++ tail l ms
  log_tail [] l = refl
  log_tail (m ∷ ms) l = log_tail ms (log_step program plan l m) ∙ append_assoc l.entries (entries_of program plan l m) (tail (log_step program plan l m) ms)

-- ---- the cut

-- entries of which one is a synchronization, then a unit or none, then what is no unit if there was none
pub cut_there : (before : List Entry) (e : Entry) (us after : List Entry) (i : ℕ) → is_sync e ≡ true → ends_edge e ≡ true → syncs before ≡ i → list_any is_end before ≡ false
    → (((u : ℕ) × (values : List ℤ) × (us ≡ entry.Unit u values ∷ [])) ⊎ ((us ≡ []) × (is_unit (slice_get after 0) ≡ false)))
    → cut (Some i) (before ++ e ∷ (us ++ after)) ≡ (before ++ e ∷ us) ++ stop ∷ []
cut_there before e us after i sync ends count none shape =
    cond-true (option_map_or is_sync (slice_get all (ending i all)) false) (cut_at all (ending i all + 1)) all found
    ∙ ap (λ n. cut_at all (n + 1)) at
    ∙ ap (λ xs. xs ++ stop ∷ []) (by shape)
  where
    all : List Entry
    all = before ++ e ∷ (us ++ after)

    at : ending i all ≡ length before
    at = ap (λ k. ending k all) (sym count) ∙ ending_is before e (us ++ after) ends none

    found : option_map_or is_sync (slice_get all (ending i all)) false ≡ true
    found = ap (λ n. option_map_or is_sync (slice_get all n) false) at ∙ ap (λ (o : Option Entry). option_map_or is_sync o false) (get_past before (e ∷ (us ++ after))) ∙ sync

    next : slice_get all (length before + 1) ≡ slice_get (us ++ after) 0
    next =
        ap (λ n. slice_get all n) (let z : length before + 1 ≡ length (before ++ e ∷ []) = sym (length-append before (e ∷ [])) in z)
        ∙ ap (λ xs. slice_get xs (length (before ++ e ∷ []))) (sym (append_assoc before (e ∷ []) (us ++ after))) ∙ get_past (before ++ e ∷ []) (us ++ after)

    by : (((u : ℕ) × (values : List ℤ) × (us ≡ entry.Unit u values ∷ [])) ⊎ ((us ≡ []) × (is_unit (slice_get after 0) ≡ false))) → take (if is_unit (slice_get all (length before + 1)) then length before + 1 + 1 else length before + 1) all ≡ before ++ e ∷ us
    by (inl w) =
        let unit : is_unit (slice_get all (length before + 1)) ≡ true = ap is_unit (next ∙ ap (λ xs. slice_get (xs ++ after) 0) w.2) in
        ap (λ b. take (if b then (length before + 1) + 1 else length before + 1) all) unit
        ∙ ap (λ xs. take ((length before + 1) + 1) xs) (sym (append_assoc before (e ∷ us) after))
        ∙ ap (λ n. take n ((before ++ e ∷ us) ++ after)) (let z : (length before + 1) + 1 ≡ length (before ++ e ∷ us) = (let k : length (before ++ e ∷ us) ≡ length before + suc (length us) = length-append before (e ∷ us) in let one : length us ≡ 1 = ap length w.2 in omega (arith, k, one)) in z)
        ∙ take_front (before ++ e ∷ us) after
    by (inr w) =
        let unit : is_unit (slice_get all (length before + 1)) ≡ false = ap is_unit (next ∙ ap (λ xs. slice_get (xs ++ after) 0) w.0) ∙ w.1 in
        ap (λ b. take (if b then (length before + 1) + 1 else length before + 1) all) unit
        ∙ ap (λ xs. take (length before + 1) xs) (sym (append_assoc before (e ∷ us) after))
        ∙ ap (λ n. take n ((before ++ e ∷ us) ++ after)) (let z : length before + 1 ≡ length (before ++ e ∷ us) = (let k : length (before ++ e ∷ us) ≡ length before + suc (length us) = length-append before (e ∷ us) in let one : length us ≡ 0 = ap length w.0 in omega (arith, k, one)) in z)
        ∙ take_front (before ++ e ∷ us) after

-- ---- the log before a synchronization

module _ (program : Program) (plan : Plan) where
  -- the synchronizations of a log are those of its steps
  syncs_step : (l : Logging) (m : Moment) → filter_map sync_in (entries_of program plan l m) ≡ option_to_list (sync_of m.taken)
  syncs_step l m = of_step sync_in (record { prelog = λ b vs. refl; postlog = λ b vs. refl; unit = λ u vs. refl; end = λ s r rs ws. refl }) program plan l m ∙ one (sync_of m.taken)
    where
      one : (o : Option Sync) → filter_map sync_in (sync_entries l m.taken o) ≡ option_to_list o
      one None = refl
      one (Some s) = refl

  pub syncs_are : (ms : List Moment) (l : Logging) → filter_map sync_in (fold (log_step program plan) l ms).entries ≡ filter_map sync_in l.entries ++ filter_map sync_of (steps_of ms)
  syncs_are [] l = sym (append-nil (filter_map sync_in l.entries))
  syncs_are (m ∷ ms) l =
      syncs_are ms (log_step program plan l m)
      ∙ ap (λ zs. zs ++ filter_map sync_of (steps_of ms)) (filter_map-append sync_in l.entries (entries_of program plan l m) ∙ ap (λ zs. filter_map sync_in l.entries ++ zs) (syncs_step l m))
      ∙ append_assoc (filter_map sync_in l.entries) (option_to_list (sync_of m.taken)) (filter_map sync_of (steps_of ms))
      ∙ ap (λ zs. filter_map sync_in l.entries ++ zs) (grouped (sync_of m.taken) (filter_map sync_of (steps_of ms)))
    where
      grouped : (o : Option Sync) (ss : List Sync) → option_to_list o ++ ss ≡ cons_option o ss
      grouped None ss = refl
      grouped (Some s) ss = refl

-- ---- no end before

module _ (program : Program) (plan : Plan) where
  step_unended : (l : Logging) (m : Moment) → status_of m.taken.need ≡ None → list_any is_end (entries_of program plan l m) ≡ false
  step_unended l m runs =
      ap (λ o. list_any is_end (block_entries entry.Prelog a ++ sync_entries l m.taken b ++ block_entries entry.Postlog c ++ units d m.unit_values ++ ends l o)) runs
      ∙ list_any-append is_end (block_entries entry.Prelog a ++ sync_entries l m.taken b ++ block_entries entry.Postlog c ++ units d m.unit_values) []
      ∙ ap (λ x. x || false) (list_any-append is_end (block_entries entry.Prelog a ++ sync_entries l m.taken b ++ block_entries entry.Postlog c) (units d m.unit_values)
      ∙ ap₂ (λ x y. x || y) (list_any-append is_end (block_entries entry.Prelog a ++ sync_entries l m.taken b) (block_entries entry.Postlog c)
      ∙ ap₂ (λ x y. x || y) (list_any-append is_end (block_entries entry.Prelog a) (sync_entries l m.taken b) ∙ ap₂ (λ x y. x || y) (no_prelog a) (no_sync b)) (no_postlog c)) (no_unit d))
    where
      a : Option Mark
      a = opened program plan l.proc m.taken.need

      b : Option Sync
      b = sync_of m.taken

      c : Option Mark
      c = closed program plan l.proc m.taken.need

      d : Option ℕ
      d = unit_started m.taken.need

      no_prelog : (o : Option Mark) → list_any is_end (block_entries entry.Prelog o) ≡ false
      no_prelog None = refl
      no_prelog (Some x) = refl

      no_postlog : (o : Option Mark) → list_any is_end (block_entries entry.Postlog o) ≡ false
      no_postlog None = refl
      no_postlog (Some x) = refl

      no_sync : (o : Option Sync) → list_any is_end (sync_entries l m.taken o) ≡ false
      no_sync None = refl
      no_sync (Some x) = refl

      no_unit : (o : Option ℕ) → list_any is_end (units o m.unit_values) ≡ false
      no_unit None = refl
      no_unit (Some x) = refl

  -- so it is with each step that does not end the process
  abbrev pub GoOn : List Moment → Type 0
  GoOn [] = ⊤
  GoOn (m ∷ ms) = (status_of m.taken.need ≡ None) × GoOn ms

  pub unended : (ms : List Moment) (l : Logging) → GoOn ms → list_any is_end l.entries ≡ false → list_any is_end (fold (log_step program plan) l ms).entries ≡ false
  unended [] l go none = none
  unended (m ∷ ms) l go none =
      unended ms (log_step program plan l m) go.1
      (list_any-append is_end l.entries (entries_of program plan l m) ∙ ap₂ (λ x y. x || y) none (step_unended l m go.0))

  -- ---- the entries of a synchronization

  pub record IsSynced (l : Logging) (m : Moment) : Type 0 where
    pub entry : Entry
    pub entries_are : entries_of program plan l m ≡ entry ∷ units (unit_started m.taken.need) m.unit_values
    pub is_sync : is_sync entry ≡ true
    pub ends : ends_edge entry ≡ true

  pub synced : (l : Logging) (m : Moment) → is_some (sync_of m.taken) ≡ true → IsSynced l m
  synced l m e = by m.taken.need refl (sync_need m.taken e) (sync_of m.taken) refl e
    where
      of : (n : Need) → m.taken.need ≡ n → opened program plan l.proc n ≡ None → closed program plan l.proc n ≡ None → status_of n ≡ None → (o : Option Sync) → sync_of m.taken ≡ o → is_some o ≡ true → IsSynced l m
      of n is op cl st None s f = absurd (true≢false (sym f))
      of n is op cl st (Some x) s f = record {
        entry = entry.Sync x.kind x.object x.number (passed_value m.taken.need m.taken.answer) l.reads l.writes;
        entries_are =
            ap (λ o. block_entries entry.Prelog o ++ sync_entries l m.taken (sync_of m.taken) ++ block_entries entry.Postlog (closed program plan l.proc m.taken.need) ++ units (unit_started m.taken.need) m.unit_values ++ ends l (status_of m.taken.need)) (ap (opened program plan l.proc) is ∙ op)
            ∙ ap (λ o. [] ++ sync_entries l m.taken o ++ block_entries entry.Postlog (closed program plan l.proc m.taken.need) ++ units (unit_started m.taken.need) m.unit_values ++ ends l (status_of m.taken.need)) s
            ∙ ap (λ o. (entry.Sync x.kind x.object x.number (passed_value m.taken.need m.taken.answer) l.reads l.writes ∷ []) ++ block_entries entry.Postlog o ++ units (unit_started m.taken.need) m.unit_values ++ ends l (status_of m.taken.need)) (ap (closed program plan l.proc) is ∙ cl)
            ∙ ap (λ o. (entry.Sync x.kind x.object x.number (passed_value m.taken.need m.taken.answer) l.reads l.writes ∷ units (unit_started m.taken.need) m.unit_values) ++ ends l o) (ap status_of is ∙ st)
            ∙ append-nil (entry.Sync x.kind x.object x.number (passed_value m.taken.need m.taken.answer) l.reads l.writes ∷ units (unit_started m.taken.need) m.unit_values);
        is_sync = refl;
        ends = refl;
      }

      by : (n : Need) → m.taken.need ≡ n → is_some (kind_of_sync n) ≡ true → (o : Option Sync) → sync_of m.taken ≡ o → is_some o ≡ true → IsSynced l m
      by (need.P s u) is f o g h = of (need.P s u) is refl refl refl o g h
      by (need.V s u) is f o g h = of (need.V s u) is refl refl refl o g h
      by (need.Send c v u) is f o g h = of (need.Send c v u) is refl refl refl o g h
      by (need.Offer c v) is f o g h = of (need.Offer c v) is refl refl refl o g h
      by (need.Done c u) is f o g h = of (need.Done c u) is refl refl refl o g h
      by (need.Recv c u) is f o g h = of (need.Recv c u) is refl refl refl o g h
      by n is f o g h = absurd (true≢false (sym f))

-- ---- the cut of a process's log

module _ (setting : Setting) (p : ℕ) (before : List Moment) (m : Moment) (more : List Moment) where
  abbrev front : Logging
  front = fold (log_step setting.program setting.plan) (begun_log setting p) before

  abbrev kept : Logging
  kept = log_step setting.program setting.plan front m

  -- m is synchronization i, none of the steps before it ends the process, and where it starts no unit none comes next
  pub cut_is : (i : ℕ) → is_some (sync_of m.taken) ≡ true → length (filter_map sync_of (steps_of before)) ≡ i → GoOn setting.program setting.plan before
      → (unit_started m.taken.need ≡ None → is_unit (slice_get (tail setting.program setting.plan kept more) 0) ≡ false)
      → cut (Some i) (closed_log (fold (log_step setting.program setting.plan) (begun_log setting p) (before ++ m ∷ more))) ≡ kept.entries ++ stop ∷ []
  cut_is i sync count go next =
      ap (cut (Some i)) all ∙ cut_there front.entries s.entry us (tail setting.program setting.plan kept more) i s.is_sync s.ends counted none (shape (unit_started m.taken.need) refl)
      ∙ ap (λ es. (front.entries ++ es) ++ stop ∷ []) (sym s.entries_are)
    where
      s : IsSynced setting.program setting.plan front m
      s = synced setting.program setting.plan front m sync

      us : List Entry
      us = units (unit_started m.taken.need) m.unit_values

      all : closed_log (fold (log_step setting.program setting.plan) (begun_log setting p) (before ++ m ∷ more)) ≡ front.entries ++ s.entry ∷ (us ++ tail setting.program setting.plan kept more)
      all =
          ap closed_log (fold-append (log_step setting.program setting.plan) (begun_log setting p) before (m ∷ more)) ∙ log_tail setting.program setting.plan (m ∷ more) front
          ∙ ap (λ es. front.entries ++ (es ++ tail setting.program setting.plan kept more)) s.entries_are

      counted : syncs front.entries ≡ i
      counted = ap length (syncs_are setting.program setting.plan before (begun_log setting p)) ∙ count

      none : list_any is_end front.entries ≡ false
      none = unended setting.program setting.plan before (begun_log setting p) go refl

      shape : (o : Option ℕ) → unit_started m.taken.need ≡ o
          → ((u : ℕ) × (values : List ℤ) × (us ≡ entry.Unit u values ∷ [])) ⊎ ((us ≡ []) × (is_unit (slice_get (tail setting.program setting.plan kept more) 0) ≡ false))
      shape None e = inr (ap (λ o. units o m.unit_values) e, next e)
      shape (Some u) e = inl (u, m.unit_values, ap (λ o. units o m.unit_values) e)
