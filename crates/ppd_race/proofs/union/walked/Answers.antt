use Rattle.std.proofs.Common.{arith, ◌||◌}
use Rattle.ppd_ast.specs.Members.{has}
use Rattle.ppd_race.proofs.Merged.{none_high, one_more, those_union}
use Rattle.ppd_race.proofs.union.walked.Goals as goal

pub loop-cell-preserved : goal.loop-cell-preserved
loop-cell-preserved g c =
    let now = one_more c.loop-cell.cells c.push_if.new.cells (λ k. has c.args.reads.now k || has c.args.writes.now k) c.loop-cell.cell c.is_in_either.result c.is_in_either.ensures c.in_ok-push_if.ensures c.loop-cell.invariant.those_are c.loop-cell.invariant.size in
    record { those_are = now.0; size = now.1; spent = omega (arith, c.tick.ensures, c.loop-cell.invariant.spent) }

pub returns-clause-union : goal.returns-clause-union
returns-clause-union g c =
    those_union (λ k. has c.args.reads.now k || has c.args.writes.now k) c.loop-cell.cells c.loop-cell.cell (omega (arith, c.loop-cell-test.false)) c.loop-cell.invariant.those_are
    (none_high c.args.reads.now c.args.writes.now c.requires.reads c.requires.writes)
