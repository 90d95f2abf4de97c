-- What an index lends is the interval's log.
use Rattle.std.proofs.Common.{◌≡◌, ℕ, zero, suc, ◌+◌, ◌<◌, List, [], ◌∷◌, Some, None, length, get_or, subst, ap, sym, ◌∙◌}
use Rattle.std.specs.Prelude.{slice_get}
use Rattle.ppd_ast.specs.declared.plan.Plan.{Plan}
use Rattle.ppd_ast.specs.declared.program.Program.{Program}
use Rattle.ppd_ast.proofs.Walks.{got_some}
use Rattle.ppd_model.specs.declared.entry.Entry.{Entry}
use Rattle.ppd_model.specs.declared.entry.Logs.{Logs}
use Rattle.ppd_model.specs.IntervalLogs.{IntervalLog, indexed, interval_log, log_by}
use Rattle.ppd_model.specs.Bounds.{AreEach}
use Rattle.ppd_model.proofs.Lists.{map_get}
use Rattle.std.proofs.lemmas.Option.{slice_get-map}
use Rattle.ppd_index.specs.declared.row.Row.{Row}
use Rattle.ppd_index.specs.Fitting.{AreFittingLogs, IsFittingLog}
use Rattle.ppd_index.specs.Indexes.{AreIntervals, IsLogOf, rows_at}
use Rattle.ppd_index.specs.Refusals.{first_bad, first_in_lists}
use Rattle.ppd_index.specs.Tables.{log_of}
use Rattle.ppd_index.proofs.Fitting.{logs_fit, or_none}

lent_in : (plan : Plan) (tables : List (List Row)) (lists : List (List Entry)) (p k : ℕ) (row : Row) → AreEach (AreIntervals plan) tables lists → slice_get (get_or tables p []) k ≡ Some row → interval_log plan (get_or lists p []) k ≡ Some (log_of (get_or lists p []) row)
lent_in plan [] [] p k row h e = absurd (cc e)
lent_in plan [] (es ∷ lists) p k row h e = absurd h
lent_in plan (rows ∷ tables) [] p k row h e = absurd h
lent_in plan (rows ∷ tables) (es ∷ lists) zero k row h e =
    sym (slice_get-map (log_by plan) (indexed es) k) ∙ ap (λ (ls : List IntervalLog). slice_get ls k) (sym h.0.logs_are) ∙ map_get (log_of es) rows k row e
lent_in plan (rows ∷ tables) (es ∷ lists) (suc p) k row h e = lent_in plan tables lists p k row h.1 e

pub lent : (logs : Logs) (tables : List (List Row)) (p k : ℕ) (row : Row) → slice_get (rows_at tables p) k ≡ Some row → IsLogOf logs tables p k (log_of (get_or logs.lists p []) row)
lent logs tables p k row e = λ plan h. lent_in plan tables logs.lists p k row h e

fit_in : (program : Program) (plan : Plan) (q : ℕ) (lists : List (List Entry)) (p k : ℕ) (log : IntervalLog) → first_in_lists program plan q lists ≡ None → interval_log plan (get_or lists p []) k ≡ Some log → IsFittingLog plan log
fit_in program plan q [] p k log none e = absurd (cc e)
fit_in program plan q (es ∷ lists) zero k log none e =
    logs_fit plan (program.functions + q) q es k log (or_none (first_bad program plan q es) (first_in_lists program plan (q + 1) lists) none).0 e
fit_in program plan q (es ∷ lists) (suc p) k log none e =
    fit_in program plan (q + 1) lists p k log (or_none (first_bad program plan q es) (first_in_lists program plan (q + 1) lists) none).1 e

pub all_fit : (program : Program) (plan : Plan) (logs : Logs) → first_in_lists program plan 0 logs.lists ≡ None → AreFittingLogs plan logs
all_fit program plan logs none = λ p k log e. fit_in program plan 0 logs.lists p k log none e

pub lent_by : (logs : Logs) (tables : List (List Row)) (p k : ℕ) (entries : List Entry) (rows : List Row) (row : Row) → entries ≡ get_or logs.lists p [] → rows ≡ rows_at tables p → k < length rows → row ≡ get_or rows k row → IsLogOf logs tables p k (log_of entries row)
lent_by logs tables p k entries rows row es rs h is =
    subst (λ xs. IsLogOf logs tables p k (log_of xs row)) (sym es) (lent logs tables p k row (ap (λ (xs : List Row). slice_get xs k) (sym rs) ∙ got_some rows k row h is))
