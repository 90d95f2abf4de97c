use Rattle.ppd_index.specs.Indexes.{rows_at}
use Rattle.ppd_session.proofs.Lines.{lines_more}
use Rattle.ppd_session.proofs.blocks.put_intervals.Goals as goal
use Rattle.std.proofs.Common.{◌≤◌, ◌∙◌, ◌++◌, List, ap, arith, length, map, rules}
use Rattle.std.proofs.lemmas.Grind.{common_steps}
use Rattle.std.proofs.lemmas.List.{length-map, take_all}
use Rattle.ppd_session.specs.Known.{Interval}
use Rattle.ppd_session.specs.Rows.{of_row}
use Rattle.ppd_session.proofs.KnownWords.{interval_lines}

pub loop-number-preserved : goal.loop-number-preserved
loop-number-preserved c =
    lines_more c.args.program.now c.args.plan.now (rows_at c.args.index.now.tables c.args.process) c.loop-number.number c.args.text.now.items c.loop-number.text.items c.put_interval_at.new.text.items
    c.loop-number.invariant c.in_ok-put_interval_at.ensures

pub branch-put_interval_at-requires : goal.branch-put_interval_at-requires
branch-put_interval_at-requires c = search rules depth 1 fits 30

pub count-number-end-requires : goal.count-number-end-requires
count-number-end-requires c = search rules depth 1 fits 30

pub from_residual-requires : goal.from_residual-requires
from_residual-requires c = search rules depth 1 fits 30

pub loop-number-init : goal.loop-number-init
loop-number-init c = search rules depth 1 fits 30

pub loop-number-smaller : goal.loop-number-smaller
loop-number-smaller c = search rules depth 1 fits 30

pub put_interval_at-requires : goal.put_interval_at-requires
put_interval_at-requires c = search rules depth 1 fits 30

pub returns-in_err-put_interval_at : goal.returns-in_err-put_interval_at
returns-in_err-put_interval_at c = grind (arith, common_steps) steps 250000

pub returns : goal.returns
returns c =
    let rows = rows_at c.args.index.now.tables c.args.process in
    let long : length (map of_row rows) ≤ c.loop-number.number =
    omega (arith, length-map rows of_row, c.count-number-end.ensures, c.loop-number-test.false) in
    c.loop-number.invariant
    ∙ ap (λ (is : List Interval). c.args.text.now.items ++ interval_lines c.args.program.now c.args.plan.now 0 is)
    (take_all c.loop-number.number (map of_row rows) long)
