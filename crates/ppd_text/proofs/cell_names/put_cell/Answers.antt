use Rattle.std.proofs.Common.{◌≡◌, arith, sym, ◌∙◌, true, false, append-nil}
use Rattle.ppd_ast.specs.Cells.{holds}
use Rattle.ppd_text.proofs.ItemLines.Holding.{cell_end, cell_found, cell_passes}
use Rattle.ppd_text.proofs.cell_names.put_cell.Goals as goal

pub returns-then-holds : goal.returns-then-holds
returns-then-holds c =
    let test : holds c.args.cell c.var-item.result ≡ true = cc in
    let found = cell_found c.args.vars.now c.loop-var.var-index c.var-item.result c.args.cell c.loop-var-test.true c.var-item.is test in
    let is = sym found ∙ c.loop-var.invariant.rest in
    rw (← is, ← c.loop-var.invariant.same) c.put_element.ensures

pub returns : goal.returns
returns c =
    let none = cell_end c.args.vars.now c.loop-var.var-index c.args.cell (omega arith) in
    let is = sym none ∙ c.loop-var.invariant.rest in
    rw (← is, append-nil) c.loop-var.invariant.same

pub loop-var-preserved : goal.loop-var-preserved
loop-var-preserved c =
    let test : holds c.args.cell c.var-item.result ≡ false = cc in
    record {
      same = c.loop-var.invariant.same;
      rest = sym (cell_passes c.args.vars.now c.loop-var.var-index c.var-item.result c.args.cell c.loop-var-test.true c.var-item.is test) ∙ c.loop-var.invariant.rest;
    }
