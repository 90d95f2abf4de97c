use Rattle.std.proofs.Common.{◌∷◌, []}
use Rattle.ppd_codec.proofs.Writing.{link, on_ok}
use Rattle.ppd_codec.proofs.writer.Writer.two_bytes.Goals as goal

pub returns-clause-ok : goal.returns-clause-ok
returns-clause-ok g c =
    on_ok c.byte-2.result
    (link c.args.self.now.out.items (c.args.first ∷ []) c.byte.new.self.out.items (c.args.second ∷ []) c.byte-2.new.self.out.items c.in_ok-byte.ensures.ok)
    c.byte-2.ensures.ok
