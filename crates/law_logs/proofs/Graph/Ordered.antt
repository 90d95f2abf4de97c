-- The logs of a schedule pass each test of their graph, so it is not refused.
use Rattle.ppd_model.proofs.Tested.{none_before_itself, none_is_before_itself}
use Rattle.std.proofs.Common.{◌≡◌, List, [], ◌∷◌, refl, ap, sym, subst, ◌∙◌}
use Rattle.std.proofs.lemmas.Option.{none-some}
use Rattle.ppd_ast.specs.declared.program.Program.{Program}
use Rattle.ppd_model.specs.declared.entry.Logs.{Logs}
use Rattle.ppd_model.specs.declared.graph.NodeId.{NodeId}
use Rattle.ppd_model.specs.HappenedBefore.{Before, direct, through}
use Rattle.ppd_model.specs.Logs.{closed_logs}
use Rattle.ppd_model.specs.RecordedSets.{record_in}
use Rattle.ppd_model.specs.Synchronizations.{Sync}
use Rattle.ppd_model.specs.declared.bad_sync.BadSync.{BadSync}
use Rattle.ppd_model.specs.declared.bad_sync.BadSync.TheVariants.{NumberTwice, NumberMissing, Cycle, NoObject, Memory}
use Rattle.ppd_graph.specs.Cycles.{IsWay}
use Rattle.ppd_graph.specs.Refusals.{AreOrdered, IsRefused, missing}
use Rattle.law_logs.specs.Graph.Accepted.{GraphsOfRunsAreNotRefused, LogsOfRunsAreOrdered}
use Rattle.law_logs.proofs.Graph.Earlier.{never_before_itself}
use Rattle.law_logs.proofs.Graph.Lacking.{none_lacks}
use Rattle.law_logs.proofs.Graph.Standing.{all_are, no_object, no_twice, records}

pub ordered : LogsOfRunsAreOrdered
ordered setting h w runs = record {
  numbered = record {
    objects = no_object setting h;
    once = no_twice setting h;
    complete = ap (missing setting.program) (all_are setting h) ∙ none_lacks setting h w runs;
  };
  acyclic = none_is_before_itself setting.program (record_in (closed_logs setting h)) (λ a before. never_before_itself setting h w runs a (subst (λ r. Before setting.program r a a) (records setting h) before));
}

-- ---- no refusal

pub way_before : (program : Program) (rows : List (List Sync)) (a : NodeId) (way : List NodeId) (z : NodeId) → IsWay program rows a way z → Before program rows a z
way_before program rows a [] z d = direct d
way_before program rows a (b ∷ bs) z w = through (direct w.0) (way_before program rows b bs z w.1)

not_refused : (program : Program) (of : Logs) → AreOrdered program of → (e : BadSync) → (e ≡ Memory → ⊥) → IsRefused program of e → ⊥
not_refused program of o (NoObject at) other r = none-some at (sym o.numbered.objects ∙ r)
not_refused program of o (NumberTwice at) other r = none-some at (sym o.numbered.once ∙ r.1)
not_refused program of o (NumberMissing kind object number) other r = none-some (kind, object, number) (sym o.numbered.complete ∙ r.2)
not_refused program of o (Cycle nodes) other r = none_before_itself program (record_in of) o.acyclic r.1.first (way_before program (record_in of) r.1.first r.1.rest r.1.first r.1.way)
not_refused program of o Memory other r = other refl

pub refused : GraphsOfRunsAreNotRefused
refused setting h w runs e other r = not_refused setting.program (closed_logs setting h) (ordered setting h w runs) e other r
