-- Two schedules with one story have one history, of the logs but for the values of units.
use Rattle.ppd_model.specs.Setting.{setting_of}
use Rattle.ppd_ast.specs.declared.plan.Plan.{Plan}
use Rattle.ppd_ast.specs.declared.program.Program.{Program}
use Rattle.ppd_ast.specs.declared.status.Status.{Status}
use Rattle.ppd_ast.specs.declared.status.Status.TheVariants as status
use Rattle.ppd_model.specs.declared.entry.Entry.{Entry}
use Rattle.ppd_model.specs.declared.entry.Entry.TheVariants as entry
use Rattle.ppd_model.proofs.LogWords.{logs_from}
use Rattle.ppd_model.specs.FlowbackEdges.{edges, last}
use Rattle.ppd_model.specs.FullTrace.{full_trace}
use Rattle.ppd_model.specs.Intervals.{intervals, items}
use Rattle.ppd_model.specs.Laws.{StoriesTellAll, without_values}
use Rattle.ppd_model.specs.Logs.{Logging, begun_log, block_entries, closed_log, end_of, ends, ends_from, entries_of, log_step, loggings, rest_after, syncs, units, with_access}
use Rattle.ppd_model.specs.Marks.{Mark, closed, opened}
use Rattle.ppd_model.specs.NearIntervals.{near_intervals}
use Rattle.ppd_model.specs.Races.{edges_of_story, races_among}
use Rattle.ppd_model.specs.Record.{accesses, record_of}
use Rattle.ppd_model.specs.Story.{Moment, Taken, steps_of, story, told, unit_started}
use Rattle.ppd_model.specs.Synchronizations.{Sync, sync_of}
use Rattle.ppd_sem.specs.Process.{act}
use Rattle.ppd_sem.specs.declared.proc.Need.{Need}
use Rattle.ppd_sem.specs.declared.proc.Need.TheVariants.{Read}
use Rattle.ppd_sem.specs.declared.proc.Proc.{Proc}
use Rattle.std.proofs.Common.{Bool, List, None, Option, Some, [], ap, cond, false, map, refl, sym, true, ℕ, ◌++◌, ◌+◌, ◌∙◌, ◌∷◌, ◌≡◌}
use Rattle.std.proofs.lemmas.List.{map-append}
use Rattle.std.specs.Prelude.{fold, is_none, slice_get}

pub map-map : {A B C : Type 0} (f : B → C) (g : A → B) (xs : List A) → map f (map g xs) ≡ map (λ x. f (g x)) xs
map-map f g [] = refl
map-map f g (x ∷ xs) = ap (λ zs. f (g x) ∷ zs) (map-map f g xs)

-- ---- a log without the values of units

abbrev bare_entries : List Entry → List Entry
bare_entries es = map without_values es

abbrev bare : Logging → Logging
bare l = record l { entries = bare_entries l.entries }

abbrev pub bare_moment : Taken → Moment
bare_moment x = record { taken = x; unit_values = [] }

prelogs_bare : (m : Option Mark) → bare_entries (block_entries entry.Prelog m) ≡ block_entries entry.Prelog m
prelogs_bare None = refl
prelogs_bare (Some m) = refl

postlogs_bare : (m : Option Mark) → bare_entries (block_entries entry.Postlog m) ≡ block_entries entry.Postlog m
postlogs_bare None = refl
postlogs_bare (Some m) = refl

units_bare : (u : Option ℕ) (m : Moment) → bare_entries (units u m.unit_values) ≡ units u []
units_bare None m = refl
units_bare (Some u) m = refl

syncs_bare : (l : Logging) (x : Taken) (s : Option Sync) → bare_entries (syncs l x s) ≡ syncs (bare l) x s
syncs_bare l x None = refl
syncs_bare l x (Some s) = refl

ends_bare : (l : Logging) (s : Option Status) → bare_entries (ends l s) ≡ ends (bare l) s
ends_bare l None = refl
ends_bare l (Some s) = refl

append_bare : (xs ys xs' ys' : List Entry) → bare_entries xs ≡ xs' → bare_entries ys ≡ ys' → bare_entries (xs ++ ys) ≡ xs' ++ ys'
append_bare xs ys xs' ys' e f = map-append without_values xs ys ∙ ap (λ zs. zs ++ bare_entries ys) e ∙ ap (λ zs. xs' ++ zs) f

rest_bare : (rest : ℕ) (es : List Entry) → rest_after rest es ≡ rest_after rest (bare_entries es)
rest_bare rest [] = refl
rest_bare rest (e ∷ es) = refl

access_bare : (n : Need) (l : Logging) → bare (with_access n l) ≡ with_access n (bare l)
access_bare (Read c) l = refl
access_bare n l = refl

-- ---- the steps

module _ (program : Program) (plan : Plan) where
  entries_bare : (l : Logging) (m : Moment) → bare_entries (entries_of program plan l m) ≡ entries_of program plan (bare l) (bare_moment m.taken)
  entries_bare l m =
      let n : Need = m.taken.need in
      let a : List Entry = block_entries entry.Prelog (opened program plan l.proc n) in
      let b : List Entry = syncs l m.taken (sync_of m.taken) in
      let c : List Entry = block_entries entry.Postlog (closed program plan l.proc n) in
      let d : List Entry = units (unit_started n) m.unit_values in
      let b' : List Entry = syncs (bare l) m.taken (sync_of m.taken) in
      let d' : List Entry = units (unit_started n) [] in
      append_bare (a ++ b ++ c ++ d) _ (a ++ b' ++ c ++ d') _
      (append_bare (a ++ b ++ c) d (a ++ b' ++ c) d'
      (append_bare (a ++ b) c (a ++ b') c
      (append_bare a b a b' (prelogs_bare (opened program plan l.proc n)) (syncs_bare l m.taken (sync_of m.taken)))
      (postlogs_bare (closed program plan l.proc n)))
      (units_bare (unit_started n) m)) (ends_bare l _)

  logging : Proc → List ℕ → List ℕ → ℕ → List Entry → Logging
  logging proc reads writes rest entries = record { proc = proc; reads = reads; writes = writes; rest = rest; entries = entries }

  step_bare : (l : Logging) (m : Moment) → bare (log_step program plan l m) ≡ log_step program plan (bare l) (bare_moment m.taken)
  unfolding logging
  step_bare l m =
      let n : Need = m.taken.need in
      let s : Proc = act program plan l.proc m.taken.answer in
      let new : List Entry = entries_of program plan l m in
      let new' : List Entry = entries_of program plan (bare l) (bare_moment m.taken) in
      ap (λ xs. logging s xs (with_access n l).writes (rest_after l.rest new) (bare_entries (l.entries ++ new))) (ap (λ (a : Logging). a.reads) (access_bare n l))
      ∙ ap (λ xs. logging s (with_access n (bare l)).reads xs (rest_after l.rest new) (bare_entries (l.entries ++ new))) (ap (λ (a : Logging). a.writes) (access_bare n l))
      ∙ ap (λ k. logging s (with_access n (bare l)).reads (with_access n (bare l)).writes k (bare_entries (l.entries ++ new))) (rest_bare l.rest new ∙ ap (λ es. rest_after l.rest es) (entries_bare l m))
      ∙ ap (λ es. logging s (with_access n (bare l)).reads (with_access n (bare l)).writes (rest_after l.rest new') es) (append_bare l.entries new (bare_entries l.entries) new' refl (entries_bare l m))

  fold_bare : (l : Logging) (ms : List Moment) → bare (fold (log_step program plan) l ms) ≡ fold (log_step program plan) (bare l) (map (λ m. bare_moment m.taken) ms)
  fold_bare l [] = refl
  fold_bare l (m ∷ ms) =
      fold_bare (log_step program plan l m) ms
      ∙ ap (λ k. fold (log_step program plan) k (map (λ x. bare_moment x.taken) ms)) (step_bare l m)

  -- the logs that the steps alone give
  from_steps : ℕ → ℕ → List (List Taken) → List Logging
  from_steps budget p [] = []
  from_steps budget p (xs ∷ rest) = fold (log_step program plan) (bare (begun_log (setting_of program plan budget) p)) (map bare_moment xs) ∷ from_steps budget (p + 1) rest

  steps_bare : (budget p : ℕ) (moments : List (List Moment)) → map bare (logs_from (setting_of program plan budget) p moments) ≡ from_steps budget p (map steps_of moments)
  unfolding from_steps
  steps_bare budget p [] = refl
  steps_bare budget p (ms ∷ rest) =
      ap (λ l. l ∷ map bare (logs_from (setting_of program plan budget) (p + 1) rest))
      (fold_bare (begun_log (setting_of program plan budget) p) ms ∙ ap (λ xs. fold (log_step program plan) (bare (begun_log (setting_of program plan budget) p)) xs) (sym (map-map bare_moment (λ m. m.taken) ms)))
      ∙ ap (λ ls. fold (log_step program plan) (bare (begun_log (setting_of program plan budget) p)) (map bare_moment (steps_of ms)) ∷ ls) (steps_bare budget (p + 1) rest)

  pub same_bare : (budget : ℕ) (h h' : List ℕ) → story (setting_of program plan budget) h ≡ story (setting_of program plan budget) h' → map bare (loggings (setting_of program plan budget) h) ≡ map bare (loggings (setting_of program plan budget) h')
  same_bare budget h h' e =
      steps_bare budget 0 (told (setting_of program plan budget) h).moments ∙ ap (λ s. from_steps budget 0 s.steps) e
      ∙ sym (steps_bare budget 0 (told (setting_of program plan budget) h').moments)

-- ---- closed

closing_bare : (l : Logging) (b : Bool) → bare_entries (cond b (entry.End status.Blocked l.rest l.reads l.writes ∷ []) []) ≡ cond b (entry.End status.Blocked l.rest l.reads l.writes ∷ []) []
closing_bare l true = refl
closing_bare l false = refl

closed_bare : (l : Logging) → bare_entries (closed_log l) ≡ closed_log (bare l)
closed_bare l = append_bare l.entries _ (bare_entries l.entries) _ refl (closing_bare l (is_none l.proc.status))

lists_bare : (ls : List Logging) → map bare_entries (map closed_log ls) ≡ map closed_log (map bare ls)
lists_bare [] = refl
lists_bare (l ∷ ls) = ap (λ es. es ∷ map bare_entries (map closed_log ls)) (closed_bare l) ∙ ap (λ rest. closed_log (bare l) ∷ rest) (lists_bare ls)

ends_same : (program : Program) (b : ℕ) (ls : List Logging) → ends_from program b ls ≡ ends_from program b (map bare ls)
ends_same program b [] = refl
ends_same program b (l ∷ ls) = ap (λ rest. end_of (slice_get program.bodies b) l.proc ∷ rest) (ends_same program (b + 1) ls)

pub one_history : StoriesTellAll
one_history setting h h' e =
    let same : map bare (loggings setting h) ≡ map bare (loggings setting h') = same_bare setting.program setting.plan setting.budget h h' e in
    record {
      traces = ap (λ s. full_trace setting s) e;
      records = ap (λ s. record_of s) e;
      all_accesses = λ p. ap (λ s. accesses s p) e;
      all_races = ap (λ s. races_among (edges_of_story setting.program s)) e;
      all_intervals = λ p. ap (λ s. intervals setting s p) e;
      all_items = λ p k. ap (λ s. items setting s p k) e;
      all_edges = λ p k j. ap (λ s. edges setting s p k j) e;
      last_values = λ c. ap (λ s. last setting s c) e;
      near = λ p k j. ap (λ s. near_intervals setting s p k j) e;
      all_logs = lists_bare (loggings setting h) ∙ ap (λ ls. map closed_log ls) same ∙ sym (lists_bare (loggings setting h'));
      all_ends = ends_same setting.program setting.program.functions (loggings setting h) ∙ ap (λ ls. ends_from setting.program setting.program.functions ls) same
          ∙ sym (ends_same setting.program setting.program.functions (loggings setting h'));
    }
