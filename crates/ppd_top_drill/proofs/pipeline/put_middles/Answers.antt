use Rattle.std.proofs.Common.{◌≡◌, ◌+◌, arith}
use Rattle.ppd_top_drill.specs.Drills.{middle_process}
use Rattle.ppd_top_drill.proofs.Lines.{lines_more}
use Rattle.ppd_top_drill.proofs.pipeline.put_middles.Goals as goal

pub loop-process-preserved : goal.loop-process-preserved
loop-process-preserved c =
    let is : 1 + c.loop-process.process ≡ (c.loop-process.process + 1) = omega arith in
    lines_more (middle_process c.args.number) 1 c.loop-process.process (c.loop-process.process + 1) c.args.text.now.items c.loop-process.text.items
    c.put_middle.new.text.items is c.loop-process.invariant c.in_ok-put_middle.ensures
