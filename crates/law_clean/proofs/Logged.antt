-- The log of a process that has spent more, and of one that is cut off.
use Rattle.std.proofs.Common.{◌≡◌, ℕ, List, [], ◌∷◌, ◌++◌, Option, false, refl, ap, ap₂, ◌∙◌, append-nil}
use Rattle.std.proofs.lemmas.List.Sums.{fold-append}
use Rattle.std.specs.Prelude.{fold, is_none, if◌then◌else◌}
use Rattle.ppd_ast.specs.declared.plan.Plan.{Plan}
use Rattle.ppd_ast.specs.declared.program.Program.{Program}
use Rattle.ppd_ast.specs.declared.status.Status.TheVariants as status
use Rattle.ppd_model.specs.declared.entry.Entry.{Entry}
use Rattle.ppd_model.specs.declared.entry.Entry.TheVariants as entry
use Rattle.ppd_sem.specs.declared.proc.Need.{Need}
use Rattle.ppd_sem.specs.declared.proc.Need.TheVariants.{Read, Write, P, V, Send, Offer, Done, Recv}
use Rattle.ppd_sem.specs.declared.proc.Proc.{Proc}
use Rattle.ppd_sem.specs.Process.{act, need_of}
use Rattle.ppd_model.specs.declared.state.Logging.{Logging}
use Rattle.ppd_model.specs.Logs.{closed_log, ends, entries_of, log_step, rest_after, status_of, syncs, units, with_access, block_entries}
use Rattle.ppd_model.specs.Marks.{Mark}
use Rattle.ppd_model.specs.Story.{Moment, unit_started}
use Rattle.ppd_model.specs.Synchronizations.{sync_of}
use Rattle.law_clean.proofs.Raised.{act_raised, closed_raised, opened_raised, raised}
use Rattle.law_clean.proofs.Stopped.{AreSame, stop_moment}

abbrev pub raised_log : ℕ → Logging → Logging
raised_log d l = record l { proc = raised d l.proc }

module _ (program : Program) (plan : Plan) (d : ℕ) where
  access_raised : (n : Need) (l : Logging) → with_access n (raised_log d l) ≡ raised_log d (with_access n l)
  access_raised (Read c) l = refl
  access_raised (Write c v) l = refl
  access_raised (P s u) l = refl
  access_raised (V s u) l = refl
  access_raised (Send c v u) l = refl
  access_raised (Offer c v) l = refl
  access_raised (Done c u) l = refl
  access_raised (Recv c u) l = refl
  access_raised n l = refl

  pub entries_raised : (l : Logging) (m : Moment) → entries_of program plan (raised_log d l) m ≡ entries_of program plan l m
  entries_raised l m =
      ap₂ (λ (o : Option Mark) (c : Option Mark). block_entries entry.Prelog o ++ syncs l m.taken (sync_of m.taken) ++ block_entries entry.Postlog c ++ units (unit_started m.taken.need) m.unit_values ++ ends l (status_of m.taken.need))
      (opened_raised program plan d l.proc m.taken.need) (closed_raised program plan d l.proc m.taken.need)

  -- the state and the log after a step, from its parts
  abbrev gone : Logging → Logging → Proc → List Entry → Logging
  gone w l q new = record w { proc = q; rest = rest_after l.rest new; entries = l.entries ++ new }

  step_raised : (l : Logging) (m : Moment) → need_of program plan (raised d l.proc) ≡ need_of program plan l.proc → log_step program plan (raised_log d l) m ≡ raised_log d (log_step program plan l m)
  step_raised l m e =
      ap (λ w. gone w l (act program plan (raised d l.proc) m.taken.answer) (entries_of program plan (raised_log d l) m)) (access_raised m.taken.need l)
      ∙ ap₂ (λ q new. gone (raised_log d (with_access m.taken.need l)) l q new) (act_raised program plan d l.proc m.taken.answer e) (entries_raised l m)

  pub logs_raised : (ms : List Moment) (l : Logging) → AreSame program plan d l.proc ms → fold (log_step program plan) (raised_log d l) ms ≡ raised_log d (fold (log_step program plan) l ms)
  logs_raised [] l same = refl
  logs_raised (m ∷ ms) l same = ap (λ x. fold (log_step program plan) x ms) (step_raised l m same.0) ∙ logs_raised ms (log_step program plan l m) same.1

  -- with the stop after them
  pub log_cut : (ms : List Moment) (l : Logging) → AreSame program plan d l.proc ms → (let end : Logging = fold (log_step program plan) l ms in
      is_none (act program plan (raised d end.proc) stop_moment.taken.answer).status ≡ false
      → closed_log (fold (log_step program plan) (raised_log d l) (ms ++ stop_moment ∷ [])) ≡ end.entries ++ entry.End status.Budget end.rest end.reads end.writes ∷ [])
  log_cut ms l same stops =
      let end : Logging = fold (log_step program plan) l ms in
      ap closed_log (fold-append (log_step program plan) (raised_log d l) ms (stop_moment ∷ []) ∙ ap (λ x. log_step program plan x stop_moment) (logs_raised ms l same))
      ∙ ap (λ b. (end.entries ++ entry.End status.Budget end.rest end.reads end.writes ∷ []) ++ (if b then entry.End status.Blocked (rest_after end.rest (entry.End status.Budget end.rest end.reads end.writes ∷ [])) end.reads end.writes ∷ [] else [])) stops
      ∙ append-nil (end.entries ++ entry.End status.Budget end.rest end.reads end.writes ∷ [])
