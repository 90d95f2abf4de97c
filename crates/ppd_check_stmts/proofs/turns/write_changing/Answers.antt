use Rattle.ppd_check_names.specs.Nodes.{phrase_of, phrases_below}
use Rattle.ppd_check_names.specs.Reading.{phrase}
use Rattle.ppd_check_stmts.proofs.Rows.Declaring.{walked_changing, walked_unchanged}
use Rattle.ppd_check_names.proofs.Found.Outcomes.{both_ok}
use Rattle.ppd_check_stmts.proofs.turns.write_changing.Goals as goal

pub returns-in-None-clause-walked : goal.returns-in-None-clause-walked
returns-in-None-clause-walked g c = walked_unchanged c.args.level.site (phrase (phrases_below c.args.level.source.nodes.now c.args.id) c.args.k) c.args.frame.now c.args.out.now.table c.args.out.now.row c.in-None.ensures.said

pub returns-in-Some-clause-walked : goal.returns-in-Some-clause-walked
returns-in-Some-clause-walked g c =
    both_ok c.write_local.result _ _ _ c.write_local.ensures.wrote c.write_local.ensures.frame
    (λ w e. walked_changing c.args.level.site (phrase (phrases_below c.args.level.source.nodes.now c.args.id) c.args.k) (phrase_of c.args.level.source.nodes.now c.in-Some.child) _ _ _ _ _ _ c.in-Some.ensures.said w e)
