use Rattle.std.proofs.Common.{◌∙◌, ap, take_all}
use Rattle.std.specs.Prelude.{not}
use Rattle.std.specs.List.{filter}
use Rattle.ppd_blocks.specs.Walk.{is_between}
use Rattle.ppd_blocks.proofs.Filling.{left_in, left_out}
use Rattle.ppd_blocks.proofs.ways.unit_row.Goals as goal
use Rattle.ppd_blocks.proofs.ways.unit_row.Goals.{then-not-is_between+in_ok-push, else-not-is_between}

pub loop-index-preserved : goal.loop-index-preserved
loop-index-preserved c =
    let test = is_between c.args.program.now c.args.loops.now c.args.stmt in
    let ns = c.as_slice-numbers.result.now in
    elim c.if-not-is_between.branch [
      | then-not-is_between+in_ok-push w ↦ w.ids-is ∙ w.in_ok-push.ensures.ok ∙ left_in test ns c.loop-index.ids c.loop-index.index c.is_between.result c.loop-index-test.true c.loop-index.invariant c.is_between.ensures w.if-not-is_between.true
      | else-not-is_between w ↦ w.ids-is ∙ left_out test ns c.loop-index.ids c.loop-index.index c.is_between.result c.loop-index-test.true c.loop-index.invariant c.is_between.ensures w.if-not-is_between.false
    ]

pub returns : goal.returns
returns c =
    c.loop-index.invariant
    ∙ ap (filter (λ t. not (is_between c.args.program.now c.args.loops.now c.args.stmt t))) (take_all c.loop-index.index c.as_slice-numbers.result.now c.loop-index-test.false ∙ c.as_slice-numbers.ensures ∙ c.in_ok-next.ensures)
