use Rattle.std.proofs.Common.{arith}
use Rattle.ppd_codec.specs.Recordings.{facts_of}
use Rattle.ppd_codec.proofs.Answered.{past_other, past_same}
use Rattle.ppd_codec.proofs.Mapped.{map_err, map_ok}
use Rattle.ppd_codec.proofs.cursor.Cursor.last_of.Goals as goal

pub returns-then-version-facts-clause-err : goal.returns-then-version-facts-clause-err
returns-then-version-facts-clause-err g c = λ m. past_other c.args.version c.facts_of-facts.result (facts_of c.args.program.now) c.args.self.now.at c.args.self.now.rest.now c.facts_of-facts.ensures (omega (arith, c.if-version-facts.true))

pub returns-clause-ok : goal.returns-clause-ok
returns-clause-ok g c =
    map_ok c.last.result
    (λ lists n. let k = past_same c.args.version c.facts_of-facts.result (facts_of c.args.program.now) c.args.self.now.at c.args.self.now.rest.now _ c.facts_of-facts.ensures (omega (arith, c.if-version-facts.false)) n in (k.0, k.1))
    c.last.ensures.ok

pub returns-clause-err : goal.returns-clause-err
returns-clause-err g c =
    map_err c.last.result
    (λ e n m. let k = past_same c.args.version c.facts_of-facts.result (facts_of c.args.program.now) c.args.self.now.at c.args.self.now.rest.now _ c.facts_of-facts.ensures (omega (arith, c.if-version-facts.false)) (n m) in k.2)
    c.last.ensures.err
