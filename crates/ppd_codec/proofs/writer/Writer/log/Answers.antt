use Rattle.std.specs.Int.{w32}
use Rattle.ppd_codec.specs.Form.{number}
use Rattle.std.proofs.Common.{◌++◌, ◌∙◌, ap, arith, length}
use Rattle.ppd_codec.specs.Format.{an_entry}
use Rattle.ppd_codec.proofs.Writing.{closed, grown}
use Rattle.ppd_codec.proofs.writer.Writer.log.Goals as goal

pub loop-entry-preserved : goal.loop-entry-preserved
loop-entry-preserved g c = record {
  bytes = λ f. grown (an_entry f).bytes c.args.entries.now c.loop-entry.entry-index c.entry-item.result _ _ _ c.loop-entry-test.true (c.loop-entry.invariant.bytes f) (c.in_ok-entry.ensures.ok f ∙ ap (λ (e : _). c.loop-entry.self.out.items ++ (an_entry f).bytes e) c.entry-item.is);
  cost = omega (arith, c.loop-entry.invariant.cost, c.entry.ensures.cost);
}

pub returns-clause-ok : goal.returns-clause-ok
returns-clause-ok g c = λ f. closed (an_entry f).bytes c.args.entries.now c.loop-entry.entry-index ((number w32).bytes (length c.args.entries.now)) _ _ _ c.loop-entry-test.false c.in_ok-number_4.ensures.ok (c.loop-entry.invariant.bytes f)
