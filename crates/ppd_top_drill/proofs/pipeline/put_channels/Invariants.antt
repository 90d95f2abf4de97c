use Rattle.std.proofs.Common.{◌≡◌, ◌++◌}
use Rattle.std.specs.List.{flat_map, range_with_len}
use Rattle.ppd_top_drill.specs.Drills.{channel_line}
use Rattle.ppd_top_drill.proofs.pipeline.put_channels.Given as goal

abbrev pub invariant-loop-channel : goal.invariant-loop-channel
invariant-loop-channel l = l.text.items ≡ l.initial.text.items ++ flat_map channel_line (range_with_len 0 l.channel)
