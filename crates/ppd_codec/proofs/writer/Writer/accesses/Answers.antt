use Rattle.ppd_codec.specs.Format.{cells}
use Rattle.ppd_codec.proofs.Writing.{link, on_ok}
use Rattle.ppd_codec.proofs.writer.Writer.accesses.Goals as goal

pub returns-clause-ok : goal.returns-clause-ok
returns-clause-ok g c =
    on_ok c.cells-2.result
    (λ h shared. link c.args.self.now.out.items ((cells shared).bytes c.args.reads.now) c.cells.new.self.out.items _ c.cells-2.new.self.out.items (c.in_ok-cells.ensures.ok shared) (h shared))
    c.cells-2.ensures.ok
