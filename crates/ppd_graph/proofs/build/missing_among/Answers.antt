use Rattle.std.proofs.Common.{sym, ◌∙◌, length, map}
use Rattle.std.proofs.lemmas.List.{length-map}
use Rattle.ppd_graph.specs.Refusals.{sync_placed}
use Rattle.ppd_graph.specs.Spending.{missing_cost}
use Rattle.ppd_graph.proofs.Counted.{complete_spent}
use Rattle.ppd_graph.proofs.Numbered.{missing_within}
use Rattle.ppd_graph.proofs.Partnered.{missing_same}
use Rattle.ppd_graph.proofs.build.missing_among.Goals as goal

pub returns-clause-found : goal.returns-clause-found
returns-clause-found g c = c.missing.ensures.value ∙ missing_same c.args.program.now c.args.nodes.now c.in_ok-greatest.greatest c.args.placed.now c.requires.kept c.in_ok-greatest.ensures.greatest

pub returns-clause-cost : goal.returns-clause-cost
returns-clause-cost g c = λ none.
    let complete = sym (missing_same c.args.program.now c.args.nodes.now c.in_ok-greatest.greatest c.args.placed.now c.requires.kept c.in_ok-greatest.ensures.greatest) ∙ sym c.missing.ensures.value ∙ none in
    complete_spent c.args.steps.now c.among.new.steps _ (length c.args.placed.now) (length (map sync_placed c.args.placed.now)) (missing_cost c.args.program.now c.in_ok-greatest.greatest)
    (length c.args.program.now.sems) (length c.args.program.now.chans) c.in_ok-greatest.ensures.cost c.missing.ensures.cost
    (missing_within c.args.program.now c.in_ok-greatest.greatest c.args.placed.now c.in_ok-greatest.ensures.greatest complete) (length-map c.args.placed.now sync_placed)
