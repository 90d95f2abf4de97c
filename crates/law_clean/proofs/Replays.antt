-- The replay of an interval from a log that was cut off gives the items that the interval had by then.
use Rattle.ppd_model.specs.Setting.{setting_of}
use Rattle.std.proofs.Common.{◌≡◌, ℕ, zero, suc, ◌+◌, ◌<◌, ◌≤◌, List, Option, Some, None, Ok, refl, ap, ap₂, sym, subst, ◌∙◌, length}
use Rattle.std.specs.Prelude.{fold, slice_get}
use Rattle.ppd_ast.specs.declared.plan.Plan.{Plan}
use Rattle.ppd_ast.specs.declared.plan.Policy.{Policy}
use Rattle.ppd_ast.specs.declared.program.Program.{Program}
use Rattle.ppd_ast.specs.Valid.{IsValid}
use Rattle.ppd_model.specs.IntervalLogs.{IntervalLog, begun_indexing, index_step}
use Rattle.ppd_model.proofs.EntryWords.{log_in}
use Rattle.ppd_model.specs.declared.tracing.Story.{Story}
use Rattle.ppd_model.specs.Intervals.{Span, Split, items_of}
use Rattle.ppd_model.specs.Logs.{closed_log, log_step}
use Rattle.ppd_model.specs.Story.{Moment}
use Rattle.ppd_model.specs.Replay.{replay}
use Rattle.law_steps.specs.InForce.Values.{AreRead, begun_in_force}
use Rattle.law_steps.specs.OpenBlocks.Run.{IsRun}
use Rattle.law_steps.specs.Coming.Openings.{AreAlike, IsLogOf, IsSpanOf, Opening}
use Rattle.law_steps.proofs.Coming.Later.{finals_are}
use Rattle.law_steps.proofs.Openings.AtBlocks.{IsAtBlock}
use Rattle.law_steps.proofs.Theorem.Begins.{replay_gives}
use Rattle.law_steps.proofs.Theorem.Units.{IsReadFrom}
use Rattle.law_steps.specs.Theorem.Laws.{modelled_of, replay_of}
use Rattle.law_clean.proofs.Beginning.{at_block, begins, begun, first, index, last, logs_alike, plan, purse, spans_alike}
use Rattle.law_clean.proofs.Reading.{opening_reads, same_unit}

module _ (program : Program) (policy : Policy) (v : IsValid program) (budget p d : ℕ) (le : d ≤ budget) (there : program.functions + p < length program.bodies)
    (ms : List Moment) (run : IsRun program (plan program policy v budget p d le there) (first program policy v budget p d le there) ms) (story : Story) where
  abbrev used : Plan
  used = plan program policy v budget p d le there

  abbrev Begins : ℕ → Option Opening
  Begins k = begins program policy v budget p d le there ms run k

  abbrev end : Split
  end = last program policy v budget p d le there ms run story

  module _ (reads : AreRead used (begun_in_force program used p) ms) where
    read_from : (k : ℕ) (o : Opening) → Begins k ≡ Some o → IsReadFrom used o
    read_from zero o e = λ u values is.
        (let same : o.rest ≡ ms = ap (λ (x : Option Opening). elim x [ None ↦ ms | Some y ↦ y.rest ]) (sym e) in
        let units = ap (λ (x : Option Opening). elim x [ None ↦ o.units | Some y ↦ y.units ]) e in
        subst (AreRead used _) (sym same) (subst (λ zs. AreRead used zs ms) (same_unit used _ u _ values (units ∙ is)) reads))
    read_from (suc k) o e = opening_reads program used (first program policy v budget p d le there) ms (begun_in_force program used p) k reads o e

    interval : (k : ℕ) (o : Opening) (l : IntervalLog) (i : Span) → Begins k ≡ Some o → IsLogOf program used k o l → IsSpanOf program used k o end i
        → replay program used l budget ≡ record { steps = i.steps; answer = Ok (record { items = items_of end i }) }
    interval k o l i e log span =
        let at : IsAtBlock program used o = at_block program policy v budget p d le there ms run k o e in
        replay_gives program policy v o at budget l.depth k l log refl (purse program policy v budget p d le there ms run k o e) (read_from k o e _ at.values at.units_are)
        ∙ ap₂ (λ n items. record { steps = n; answer = Ok (record { items = items }) }) (sym span.steps) (sym span.items)

    alike : (k : ℕ) (o : Option Opening) (l : Option IntervalLog) (i : Option Span) → Begins k ≡ o → AreAlike (IsLogOf program used k) o l → AreAlike (λ o i. IsSpanOf program used k o end i) o i
        → replay_of (setting_of program used budget) l ≡ modelled_of end i
    alike k None None None e log span = refl
    alike k None None (Some i) e log span = absurd span
    alike k None (Some l) i e log span = absurd log
    alike k (Some o) None i e log span = absurd log
    alike k (Some o) (Some l) None e log span = absurd span
    alike k (Some o) (Some l) (Some i) e log span = ap Some (interval k o l i e log span)

    pub replays_alike : (k : ℕ) → replay_of (setting_of program used budget) (log_in used (slice_get (fold index_step begun_indexing
        (closed_log (fold (log_step program used) (begun program policy v budget p d le there ms run) ms))).intervals k)) ≡ modelled_of end (slice_get end.spans k)
    replays_alike k =
        ap (λ x. replay_of (setting_of program used budget) (log_in used (slice_get x.intervals k))) (finals_are program used ms (begun program policy v budget p d le there ms run) begun_indexing)
        ∙ alike k (Begins k) (log_in used (slice_get (index program policy v budget p d le there ms run).intervals k)) (slice_get end.spans k) refl
        (logs_alike program policy v budget p d le there ms run k) (spans_alike program policy v budget p d le there ms run story k)
