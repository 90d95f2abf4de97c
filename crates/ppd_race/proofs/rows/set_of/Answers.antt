use Rattle.std.proofs.Common.{ap, sym, ◌∙◌, arith, subst}
use Rattle.std.specs.Prelude.{◌||◌}
use Rattle.std.proofs.lemmas.List.{drop_all}
use Rattle.std.proofs.Math.Bool.{or-false}
use Rattle.ppd_ast.specs.Members.{has, AreBelow}
use Rattle.ppd_ast.specs.declared.limits.TheConstants.{MOST_SHARED_CELLS}
use Rattle.ppd_race.proofs.BusyRows.{none_below, set_more}
use Rattle.ppd_race.proofs.rows.set_of.Goals as goal

pub loop-cell-init : goal.loop-cell-init
loop-cell-init g c = record {
  holds = λ k lt. ap (λ xs. has xs k || has c.args.cells.now k) c.new-set.ensures;
  below = subst (AreBelow MOST_SHARED_CELLS) (sym c.new-set.ensures) none_below;
  spent = omega arith;
}

pub loop-cell-preserved : goal.loop-cell-preserved
loop-cell-preserved g c = record {
  holds = set_more c.args.cells.now c.loop-cell.cell-index _ c.loop-cell.set c.insert_below.new.set c.loop-cell-test.true c.insert_below.ensures.puts c.loop-cell.invariant.holds;
  below = c.insert_below.ensures.below c.loop-cell.invariant.below;
  spent = omega (arith, c.tick.ensures, c.loop-cell.invariant.spent);
}

pub returns-clause-set : goal.returns-clause-set
returns-clause-set g c = record {
  low = λ k lt.
      sym (or-false (has c.loop-cell.set k)) ∙ ap (λ ys. has c.loop-cell.set k || has ys k) (sym (drop_all c.loop-cell.cell-index c.args.cells.now c.loop-cell-test.false)) ∙ c.loop-cell.invariant.holds k lt;
  high = c.loop-cell.invariant.below;
}
