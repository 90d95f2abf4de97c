use Rattle.std.proofs.Common.{◌∙◌, ◌∷◌, [], ap, arith, drop, length, subst, sym}
use Rattle.std.proofs.lemmas.List.{length-append}
use Rattle.ppd_race.proofs.Merged.{IsMerged, merged_all, merged_more, merged_none}
use Rattle.ppd_race.proofs.union.merged.Goals as goal

pub loop-cell-init : goal.loop-cell-init
loop-cell-init g c = record { merged = subst (λ cells. IsMerged c.args.reads.now c.args.writes.now cells c.args.reads.now c.args.writes.now) (sym c.new-cells.ensures) (merged_none c.args.reads.now c.args.writes.now c.requires.reads c.requires.writes); taken = (let none = ap length c.new-cells.ensures in omega (arith, none)); spent = omega arith }

pub loop-cell-preserved : goal.loop-cell-preserved
loop-cell-preserved g c =
    let now = merged_more c.args.reads.now c.args.writes.now c.loop-cell.cells (drop c.loop-cell.read c.args.reads.now) (drop c.loop-cell.write c.args.writes.now) c.push.new.self (drop c.past-read.result c.args.reads.now) (drop c.past-write.result c.args.writes.now) c.in-Some.cell
    c.in-Some.ensures c.in_ok-push.ensures.ok c.past-read.ensures c.past-write.ensures c.loop-cell.invariant.merged in
    let long = ap length c.in_ok-push.ensures.ok ∙ length-append c.loop-cell.cells (c.in-Some.cell ∷ []) in
    record { merged = now.0; taken = omega (arith, long, c.tick.ensures, c.loop-cell.invariant.taken); spent = (let less = now.1 in omega (arith, less, c.tick.ensures, c.loop-cell.invariant.spent)) }

pub loop-cell-smaller : goal.loop-cell-smaller
loop-cell-smaller g c =
    let now = merged_more c.args.reads.now c.args.writes.now c.loop-cell.cells (drop c.loop-cell.read c.args.reads.now) (drop c.loop-cell.write c.args.writes.now) c.push.new.self (drop c.past-read.result c.args.reads.now) (drop c.past-write.result c.args.writes.now) c.in-Some.cell
    c.in-Some.ensures c.in_ok-push.ensures.ok c.past-read.ensures c.past-write.ensures c.loop-cell.invariant.merged in
    now.1

pub returns-clause-union : goal.returns-clause-union
returns-clause-union g c =
    (merged_all c.args.reads.now c.args.writes.now c.loop-cell.cells (drop c.loop-cell.read c.args.reads.now) (drop c.loop-cell.write c.args.writes.now) (sym c.in_default.is ∙ c.least.ensures) c.requires.reads c.requires.writes c.loop-cell.invariant.merged).0
