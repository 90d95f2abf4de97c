use Rattle.std.proofs.Common.{◌≡◌, ◌+◌, arith}
use Rattle.ppd_top_drill.specs.Drills.{channel_line}
use Rattle.ppd_top_drill.proofs.Lines.{lines_more}
use Rattle.ppd_top_drill.proofs.pipeline.put_channels.Goals as goal

pub loop-channel-preserved : goal.loop-channel-preserved
loop-channel-preserved c =
    let is : 0 + c.loop-channel.channel ≡ c.loop-channel.channel = omega arith in
    lines_more channel_line 0 c.loop-channel.channel c.loop-channel.channel c.args.text.now.items c.loop-channel.text.items
    c.put_channel.new.text.items is c.loop-channel.invariant c.in_ok-put_channel.ensures
