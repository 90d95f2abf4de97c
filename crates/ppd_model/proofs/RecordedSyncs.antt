-- The synchronizations that logs tell are the record.
use Rattle.ppd_model.specs.Setting.{Setting}
use Rattle.std.proofs.Common.{◌≡◌, ℕ, ◌+◌, ℤ, List, [], ◌∷◌, ◌++◌, Option, Some, None, Bool, true, false, refl, ap, ap₂, sym, ◌∙◌, map, if◌then◌else◌}
use Rattle.std.specs.Prelude.{filter_map, fold, is_none, option_to_list}
use Rattle.std.specs.List.{cons_option}
use Rattle.std.proofs.lemmas.List.{append-nil, append_assoc}
use Rattle.std.proofs.lemmas.List.Elements.{filter_map-append}
use Rattle.ppd_ast.specs.declared.plan.Plan.{Plan}
use Rattle.ppd_ast.specs.declared.program.Program.{Program}
use Rattle.ppd_ast.specs.declared.status.Status.{Status}
use Rattle.ppd_ast.specs.declared.status.Status.TheVariants as status
use Rattle.ppd_model.specs.declared.entry.Entry.{Entry}
use Rattle.ppd_model.specs.declared.entry.Entry.TheVariants as entry
use Rattle.ppd_model.specs.Logs.{Logging, begun_log, closed_log, ends, entries_of, log_of, log_step, status_of, syncs, units, block_entries}
use Rattle.ppd_model.proofs.LogWords.{logs_from}
use Rattle.ppd_model.specs.Marks.{Mark, closed, opened}
use Rattle.ppd_model.specs.RecordedSets.{LogsRecordSynchronizations, sync_in}
use Rattle.ppd_model.specs.Story.{Moment, Taken, steps_of, told, unit_started}
use Rattle.ppd_model.specs.Synchronizations.{Sync, sync_of}

-- ---- a choice of entries that takes synchronizations alone

pub record IsOfSyncs {B : Type 0} (f : Entry → Option B) : Type 0 where
  pub prelog : (block : ℕ) (values : List ℤ) → f (entry.Prelog block values) ≡ None
  pub postlog : (block : ℕ) (values : List ℤ) → f (entry.Postlog block values) ≡ None
  pub unit : (u : ℕ) (values : List ℤ) → f (entry.Unit u values) ≡ None
  pub end : (s : Status) (rest : ℕ) (reads writes : List ℕ) → f (entry.End s rest reads writes) ≡ None

module _ {B : Type 0} (f : Entry → Option B) (only : IsOfSyncs f) (program : Program) (plan : Plan) where
  not_taken : (e : Entry) → f e ≡ None → filter_map f (e ∷ []) ≡ []
  not_taken e is = ap (λ o. cons_option o []) is

  no_prelog : (m : Option Mark) → filter_map f (block_entries entry.Prelog m) ≡ []
  no_prelog None = refl
  no_prelog (Some m) = not_taken (entry.Prelog m.block m.values) (only.prelog m.block m.values)

  no_postlog : (m : Option Mark) → filter_map f (block_entries entry.Postlog m) ≡ []
  no_postlog None = refl
  no_postlog (Some m) = not_taken (entry.Postlog m.block m.values) (only.postlog m.block m.values)

  no_unit : (u : Option ℕ) (values : List ℤ) → filter_map f (units u values) ≡ []
  no_unit None values = refl
  no_unit (Some u) values = not_taken (entry.Unit u values) (only.unit u values)

  no_end : (l : Logging) (s : Option Status) → filter_map f (ends l s) ≡ []
  no_end l None = refl
  no_end l (Some s) = not_taken (entry.End s l.rest l.reads l.writes) (only.end s l.rest l.reads l.writes)

  -- what it takes of the entries of a step is what it takes of the synchronization
  pub of_step : (l : Logging) (m : Moment) → filter_map f (entries_of program plan l m) ≡ filter_map f (syncs l m.taken (sync_of m.taken))
  of_step l m =
      let a : List Entry = block_entries entry.Prelog (opened program plan l.proc m.taken.need) in
      let b : List Entry = syncs l m.taken (sync_of m.taken) in
      let c : List Entry = block_entries entry.Postlog (closed program plan l.proc m.taken.need) in
      let d : List Entry = units (unit_started m.taken.need) m.unit_values in
      let e : List Entry = ends l (status_of m.taken.need) in
      filter_map-append f (a ++ b ++ c ++ d) e
      ∙ ap₂ (λ x y. x ++ y)
      (filter_map-append f (a ++ b ++ c) d
      ∙ ap₂ (λ x y. x ++ y)
      (filter_map-append f (a ++ b) c
      ∙ ap₂ (λ x y. x ++ y) (filter_map-append f a b ∙ ap (λ x. x ++ filter_map f b) (no_prelog (opened program plan l.proc m.taken.need))) (no_postlog (closed program plan l.proc m.taken.need)))
      (no_unit (unit_started m.taken.need) m.unit_values))
      (no_end l (status_of m.taken.need))
      ∙ append-nil ((filter_map f b ++ []) ++ []) ∙ append-nil (filter_map f b ++ []) ∙ append-nil (filter_map f b)

-- ---- the record

syncs_only : IsOfSyncs sync_in
syncs_only = record {
  prelog = λ block values. refl;
  postlog = λ block values. refl;
  unit = λ u values. refl;
  end = λ s rest reads writes. refl;
}

module _ (setting : Setting) where
  one : (l : Logging) (x : Taken) (o : Option Sync) → filter_map sync_in (syncs l x o) ≡ option_to_list o
  one l x None = refl
  one l x (Some s) = refl

  joined : (ss : List Sync) (o : Option Sync) (ts : List Sync) → (ss ++ option_to_list o) ++ ts ≡ ss ++ cons_option o ts
  joined ss None ts = ap (λ xs. xs ++ ts) (append-nil ss)
  joined ss (Some s) ts = append_assoc ss (s ∷ []) ts

  told_by : (l : Logging) (ms : List Moment) → filter_map sync_in (fold (log_step setting.program setting.plan) l ms).entries ≡ filter_map sync_in l.entries ++ filter_map sync_of (steps_of ms)
  told_by l [] = sym (append-nil (filter_map sync_in l.entries))
  told_by l (m ∷ ms) =
      told_by (log_step setting.program setting.plan l m) ms
      ∙ ap (λ ss. ss ++ filter_map sync_of (steps_of ms))
      (filter_map-append sync_in l.entries (entries_of setting.program setting.plan l m)
      ∙ ap (λ ss. filter_map sync_in l.entries ++ ss) (of_step sync_in syncs_only setting.program setting.plan l m ∙ one l m.taken (sync_of m.taken)))
      ∙ joined (filter_map sync_in l.entries) (sync_of m.taken) (filter_map sync_of (steps_of ms))

  closing : (l : Logging) → filter_map sync_in (closed_log l) ≡ filter_map sync_in l.entries
  closing l =
      filter_map-append sync_in l.entries (if is_none l.proc.status then entry.End status.Blocked l.rest l.reads l.writes ∷ [] else [])
      ∙ ap (λ ss. filter_map sync_in l.entries ++ ss) (by (is_none l.proc.status)) ∙ append-nil (filter_map sync_in l.entries)
    where
      by : (b : Bool) → filter_map sync_in (if b then entry.End status.Blocked l.rest l.reads l.writes ∷ [] else []) ≡ []
      by true = refl
      by false = refl

  kept_all : (p : ℕ) (moments : List (List Moment)) → map (filter_map sync_in) (map (λ l. l.entries) (logs_from setting p moments)) ≡ map (filter_map sync_of) (map steps_of moments)
  kept_all p [] = refl
  kept_all p (ms ∷ rest) = ap₂ (λ s ss. s ∷ ss) (told_by (begun_log setting p) ms) (kept_all (p + 1) rest)

  closed_all : (p : ℕ) (moments : List (List Moment)) → map (filter_map sync_in) (map closed_log (logs_from setting p moments)) ≡ map (filter_map sync_of) (map steps_of moments)
  closed_all p [] = refl
  closed_all p (ms ∷ rest) = ap₂ (λ s ss. s ∷ ss) (closing (log_of setting p ms) ∙ told_by (begun_log setting p) ms) (closed_all (p + 1) rest)

pub record_syncs : LogsRecordSynchronizations
record_syncs setting h = record {
  closed = closed_all setting 0 (told setting h).moments;
  kept = kept_all setting 0 (told setting h).moments;
}
