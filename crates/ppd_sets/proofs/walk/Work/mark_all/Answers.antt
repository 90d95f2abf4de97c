use Rattle.std.proofs.Common.{◌∙◌, ap, arith, length, get_or}
use Rattle.ppd_sets.specs.WorkList.{WorkList}
use Rattle.ppd_sets.proofs.Marks.{has_at, with_mark_long, with_marks_more}
use Rattle.ppd_sets.proofs.walk.Work.mark_all.Goals as goal

pub mark-requires : goal.mark-requires
mark-requires c =
    let below = c.requires (get_or c.args.xs.now c.loop-x.x-index 0) (has_at c.args.xs.now c.loop-x.x-index (omega arith)) in
    omega (arith, below, c.loop-x.invariant.1)

pub loop-x-preserved : goal.loop-x-preserved
loop-x-preserved c =
    let x = get_or c.args.xs.now c.loop-x.x-index 0 in (
      with_marks_more c.args.xs.now c.loop-x.x-index c.args.self.now c.loop-x.self c.mark.new.self (omega arith) c.loop-x.invariant.0 c.in_ok-mark.ensures,
      ap (λ (w : WorkList). length w.marks) c.in_ok-mark.ensures ∙ with_mark_long x c.loop-x.self ∙ c.loop-x.invariant.1,
    )
