use Rattle.std.proofs.Common.{arith}
use Rattle.ppd_world.proofs.Lists.{first_off}
use Rattle.ppd_world.proofs.closing.take_first.Goals as goal

pub returns : goal.returns
returns c = first_off c.args.loggings.now.items c.remove.new.self.items c.remove.result (omega arith) c.remove.ensures.value c.remove.ensures.by_index.2
