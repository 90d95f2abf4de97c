use Rattle.std.proofs.Common.{◌++◌, List, ap, subst}
use Rattle.ppd_check_names.specs.Reading.{goal_formula}
use Rattle.ppd_check_names.proofs.Found.Outcomes.{ok_map}
use Rattle.ppd_check_stmts.specs.Code.{Act, acts}
use Rattle.ppd_check_stmts.specs.Expressions.{formula_faults}
use Rattle.ppd_check_stmts.specs.Statements.{goal_name, spot_of, value_faults}
use Rattle.ppd_check_stmts.specs.Values.{goal_said, value_said_by}
use Rattle.ppd_check_stmts.specs.Writing.{Wrote}
use Rattle.ppd_check_stmts.proofs.Table.Through.{through_received, through_result}
use Rattle.ppd_check_stmts.proofs.hidden.write_store.Goals as goal

pub returns-in-Result-clause-wrote : goal.returns-in-Result-clause-wrote
returns-in-Result-clause-wrote g c =
    let ns = c.args.level.source.nodes.now in
    let f = c.args.frame.now in
    let g = goal_said ns c.args.goal in
    let v = value_said_by ns c.args.value in
    ok_map c.write_through.result _ _
    (λ w. subst (λ (bs : List Act). Wrote c.args.level.site.body c.args.level.site.parent (acts (goal_name g).place bs) (formula_faults f.scopes (goal_formula g) ++ value_faults f.scopes v) c.args.out.now.table c.write_through.new.out.table c.args.out.now.row c.write_through.new.out.row)
    (through_result (spot_of f.scopes g) v _ _ f (ap (value_said_by ns) c.in-Result.is)) w)
    c.write_through.ensures.wrote

pub returns-in-Received-clause-wrote : goal.returns-in-Received-clause-wrote
returns-in-Received-clause-wrote g c =
    let ns = c.args.level.source.nodes.now in
    let f = c.args.frame.now in
    let g = goal_said ns c.args.goal in
    let v = value_said_by ns c.args.value in
    ok_map c.write_through-in-Received.result _ _
    (λ w. subst (λ (bs : List Act). Wrote c.args.level.site.body c.args.level.site.parent (acts (goal_name g).place bs) (formula_faults f.scopes (goal_formula g) ++ value_faults f.scopes v) c.args.out.now.table c.write_through-in-Received.new.out.table c.args.out.now.row c.write_through-in-Received.new.out.row)
    (through_received (spot_of f.scopes g) v _ f (ap (value_said_by ns) c.in-Received.is)) w)
    c.write_through-in-Received.ensures.wrote
