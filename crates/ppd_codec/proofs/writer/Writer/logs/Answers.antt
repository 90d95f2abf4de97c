use Rattle.std.proofs.Common.{◌++◌, ◌∙◌, ap, arith, length}
use Rattle.ppd_codec.specs.Form.{byte}
use Rattle.ppd_codec.specs.Format.{log}
use Rattle.ppd_codec.proofs.Writing.{closed, grown}
use Rattle.ppd_codec.proofs.writer.Writer.logs.Goals as goal

pub loop-log-preserved : goal.loop-log-preserved
loop-log-preserved g c = record {
  bytes = λ f. grown (log f).bytes c.args.logs.now c.loop-log.log-index c.log-item.result _ _ _ c.loop-log-test.true (c.loop-log.invariant.bytes f) (c.in_ok-log.ensures.ok f ∙ ap (λ (es : _). c.loop-log.self.out.items ++ (log f).bytes es) (c.as_slice.ensures ∙ c.log-item.is));
  cost = omega (arith, c.loop-log.invariant.cost, c.log.ensures.cost);
}

pub returns-clause-ok : goal.returns-clause-ok
returns-clause-ok g c = λ f. closed (log f).bytes c.args.logs.now c.loop-log.log-index (byte.bytes (length c.args.logs.now)) _ _ _ c.loop-log-test.false c.in_ok-byte.ensures.ok (c.loop-log.invariant.bytes f)
