use Rattle.std.proofs.Common.{◌∙◌, ap, drop, arith, length, ◌≡◌, ◌≤◌, ◌+◌, ◌*◌}
use Rattle.ppd_check_names.specs.Nodes.{phrases_below}
use Rattle.ppd_check_stmts.specs.Writing.{block_at}
use Rattle.ppd_check.proofs.Filling.{filled_from}
use Rattle.ppd_check_names.proofs.Found.Outcomes.{ok_map}
use Rattle.ppd_check_names.specs.Cost.{plain_below, nested_below}
use Rattle.ppd_check_names.specs.Reading.{last, as_block}
use Rattle.ppd_check_names.specs.Syntax.{Block, Row}
use Rattle.ppd_check_names.specs.Holding.{head_said}
use Rattle.ppd_check.proofs.HeadCosts.{head_few, row_few, inside_few}
use Rattle.ppd_check_stmts.proofs.Costs.Rows.{row_size}
use Rattle.ppd_check.proofs.bodies.fill.Goals as goal
use Rattle.std.proofs.lemmas.Grind.{common_steps}

pub returns-clause-filled : goal.returns-clause-filled
returns-clause-filled g c =
    ok_map c.write_close.result _ _
    (λ closed. filled_from c.args.level.site c.args.process (phrases_below c.args.level.source.nodes.now c.args.id) c.args.level.source.nodes.now c.block_of-block.result c.args.frame.now c.write_block.new.frame
    c.args.out.now.table c.write_block.new.out.table c.note_body.new.found c.write_close.new.out.table c.args.out.now.row c.write_block.new.out.row c.write_close.new.out.row c.from_on-inside.result.now c.len-start.result
    c.gives_at-gives.result c.close_of-close.result c.ending_of-ending.result
    c.block_of-block.ensures.said c.len-start.ensures c.in_ok-write_block.ensures.walked (c.from_on-inside.ensures ∙ ap (drop c.len-start.result) c.as_slice.ensures)
    c.gives_at-gives.ensures c.close_of-close.ensures c.ending_of-ending.ensures.ending c.note_body.ensures.faults closed)
    c.write_close.ensures.wrote

pub returns-clause-cost : goal.returns-clause-cost
returns-clause-cost g c =
    let ns = c.args.level.source.nodes.now in
    let ps = phrases_below ns c.args.id in
    let r : Row = (block_at ns c.block_of-block.result).row in
    let inside = inside_few _ _ c.from_on-inside.result.now _ c.len-start.result c.in_ok-write_block.ensures.walked.wrote.stmts c.len-start.ensures (c.from_on-inside.ensures ∙ ap (drop c.len-start.result) c.as_slice.ensures) in
    let few = row_few c.args.level.site.body c.args.level.site.parent (length c.args.out.now.table.stmts) (length c.args.out.now.table.exprs) r c.args.frame.now in
    let head : length (head_said c.args.process ps).params + row_size (as_block (last ps)).row ≤ 9 * plain_below ns c.args.id + 9 * nested_below ns c.args.id = head_few ns c.args.id c.args.process in
    let same : row_size (as_block (last ps)).row ≡ row_size r = ap (λ (b : Block). row_size b.row) c.block_of-block.ensures.said in
    omega (arith, c.write_block.ensures.cost, c.block_of-block.ensures.nodes, c.ending_of-ending.ensures.cost, c.note_body.ensures.cost, c.write_close.ensures.cost, inside, few, head, same)

pub block_of-block-requires : goal.block_of-block-requires
block_of-block-requires c = omega arith

pub close_of-close-requires : goal.close_of-close-requires
close_of-close-requires c = grind (arith, common_steps) steps 250000

pub ending_of-ending-requires : goal.ending_of-ending-requires
ending_of-ending-requires c = grind (arith, common_steps) steps 250000

pub from_on-inside-requires : goal.from_on-inside-requires
from_on-inside-requires c = omega arith

pub returns-in_err-write_block : goal.returns-in_err-write_block
returns-in_err-write_block c = grind (arith, common_steps) steps 250000
