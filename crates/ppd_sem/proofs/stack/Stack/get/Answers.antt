use Rattle.std.proofs.Common.{arith}
use Rattle.ppd_sem.proofs.Tops.{numbered}
use Rattle.ppd_sem.proofs.stack.Stack.get.Goals as goal

pub returns : goal.returns
returns g c =
    numbered c.self.inside.items.items c.args.self.now c.args.index c.len-count.result c.index.result.now c.self.view_is (omega arith) (omega arith) c.index.ensures
