-- The unit in force is that of the last Unit entry of the log.
use Rattle.std.proofs.Common.{◌≡◌, ℕ, ◌+◌, ℤ, List, [], ◌∷◌, ◌++◌, Option, Some, None, refl, ap, ◌∙◌}
use Rattle.std.specs.Prelude.{fold, unwrap_or}
use Rattle.std.proofs.lemmas.List.Sums.{fold-append}
use Rattle.ppd_ast.specs.declared.plan.Plan.{Plan}
use Rattle.ppd_ast.specs.declared.plan.Start.TheVariants.{Entry as AtEntry}
use Rattle.ppd_ast.specs.declared.program.Program.{Program}
use Rattle.ppd_ast.specs.declared.status.Status.{Status}
use Rattle.ppd_model.specs.declared.entry.Entry.{Entry}
use Rattle.ppd_model.specs.declared.entry.Entry.TheVariants as entry
use Rattle.ppd_sem.specs.Tables.{unit_of}
use Rattle.ppd_model.specs.declared.state.Logging.{Logging}
use Rattle.ppd_model.specs.declared.tracing.Taken.{Taken}
use Rattle.ppd_model.specs.Logs.{begun_log, ends, entries_of, log_step, status_of, syncs, units, block_entries}
use Rattle.ppd_model.specs.Marks.{Mark, closed, opened}
use Rattle.ppd_model.specs.Story.{Moment, steps_of, unit_started}
use Rattle.ppd_model.specs.Synchronizations.{Sync, sync_of}
use Rattle.law_steps.specs.Units.{IsLastOfLog, last_unit, unit_after, unit_logged}

-- ---- the entries of one step

past_prelogs : (o : Option ℕ) (m : Option Mark) → fold unit_logged o (block_entries entry.Prelog m) ≡ o
past_prelogs o None = refl
past_prelogs o (Some m) = refl

past_syncs : (o : Option ℕ) (l : Logging) (x : Taken) (s : Option Sync) → fold unit_logged o (syncs l x s) ≡ o
past_syncs o l x None = refl
past_syncs o l x (Some s) = refl

past_postlogs : (o : Option ℕ) (m : Option Mark) → fold unit_logged o (block_entries entry.Postlog m) ≡ o
past_postlogs o None = refl
past_postlogs o (Some m) = refl

past_units : (u : ℕ) (started : Option ℕ) (values : List ℤ) → fold unit_logged (Some u) (units started values) ≡ Some (unwrap_or started u)
past_units u None values = refl
past_units u (Some w) values = refl

past_ends : (o : Option ℕ) (l : Logging) (s : Option Status) → fold unit_logged o (ends l s) ≡ o
past_ends o l None = refl
past_ends o l (Some s) = refl

-- entries after others
past_more : (a b c : Option ℕ) (xs ys : List Entry) → fold unit_logged a xs ≡ b → fold unit_logged b ys ≡ c → fold unit_logged a (xs ++ ys) ≡ c
past_more a b c xs ys first second = fold-append unit_logged a xs ys ∙ ap (λ o. fold unit_logged o ys) first ∙ second

past_step : (program : Program) (plan : Plan) (l : Logging) (m : Moment) (u : ℕ) → fold unit_logged (Some u) (entries_of program plan l m) ≡ Some (unit_after u m.taken)
past_step program plan l m u =
    let first : List Entry = block_entries entry.Prelog (opened program plan l.proc m.taken.need) in
    let second : List Entry = syncs l m.taken (sync_of m.taken) in
    let third : List Entry = block_entries entry.Postlog (closed program plan l.proc m.taken.need) in
    let fourth : List Entry = units (unit_started m.taken.need) m.unit_values in
    let last : List Entry = ends l (status_of m.taken.need) in
    let now : Option ℕ = Some (unit_after u m.taken) in
    past_more (Some u) now now (first ++ second ++ third ++ fourth) last
    (past_more (Some u) (Some u) now (first ++ second ++ third) fourth
    (past_more (Some u) (Some u) (Some u) (first ++ second) third
    (past_more (Some u) (Some u) (Some u) first second (past_prelogs (Some u) (opened program plan l.proc m.taken.need)) (past_syncs (Some u) l m.taken (sync_of m.taken)))
    (past_postlogs (Some u) (closed program plan l.proc m.taken.need)))
    (past_units u (unit_started m.taken.need) m.unit_values))
    (past_ends now l (status_of m.taken.need))

-- ---- all steps

past_all : (program : Program) (plan : Plan) (l : Logging) (moments : List Moment) (u : ℕ) → last_unit l.entries ≡ Some u → last_unit (fold (log_step program plan) l moments).entries ≡ Some (fold unit_after u (steps_of moments))
past_all program plan l [] u e = e
past_all program plan l (m ∷ ms) u e =
    past_all program plan (log_step program plan l m) ms (unit_after u m.taken)
    (past_more None (Some u) (Some (unit_after u m.taken)) l.entries (entries_of program plan l m) e (past_step program plan l m u))

pub last_of_log : IsLastOfLog
last_of_log setting p moments = past_all setting.program setting.plan (begun_log setting p) moments (unit_of setting.plan (AtEntry (setting.program.functions + p))) refl
