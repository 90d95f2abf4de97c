use Rattle.ppd_check_stmts.specs.Values.{goal_said, value_said_by}
use Rattle.ppd_check_stmts.proofs.Table.Through.{hidden_store}
use Rattle.ppd_check_names.proofs.Found.Outcomes.{ok_map}
use Rattle.ppd_check_stmts.proofs.hidden.write_hidden.Goals as goal

pub returns-clause-wrote : goal.returns-clause-wrote
returns-clause-wrote g c =
    ok_map c.write_move.result _ _
    (λ moved. hidden_store c.args.here.level.site c.args.here.place c.args.frame.now c.hide.new.frame c.in_ok-cell.cell (goal_said c.args.here.level.source.nodes.now c.args.goal) (value_said_by c.args.here.level.source.nodes.now c.args.value) c.args.out.now.table c.write_value.new.out.table c.write_move.new.out.table c.args.out.now.row c.write_value.new.out.row c.write_move.new.out.row
    c.in_ok-cell.ensures.frame c.in_ok-cell.ensures.cell c.in_ok-write_value.ensures.wrote moved)
    c.write_move.ensures.wrote
