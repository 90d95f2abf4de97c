use Rattle.std.proofs.Common.{Err, subst, sym}
use Rattle.ppd_clean.specs.declared.clean_error.CleanError.{CleanError}
use Rattle.ppd_clean.specs.Answers.{AreEdges}
use Rattle.ppd_clean.proofs.FoundEdges.{edges_failed, edges_found}
use Rattle.ppd_clean.proofs.cleaning.edges_of.Goals as goal

pub returns-in-Ok : goal.returns-in-Ok
returns-in-Ok g c = edges_found c.args.past.now c.args.asked.now c.in-Ok.edges c.args.steps.now c.edges.new.steps c.in-Ok.ensures.found

pub returns-in-Err : goal.returns-in-Err
returns-in-Err g c =
    subst (λ (e : CleanError). AreEdges c.args.past.now c.args.asked.now (Err e)) (sym c.of_flow.ensures)
    (edges_failed c.args.past.now c.args.asked.now c.in-Err.error c.args.steps.now c.edges.new.steps c.in-Err.ensures.found)
