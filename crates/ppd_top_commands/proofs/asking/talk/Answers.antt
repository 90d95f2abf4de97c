use Rattle.std.proofs.Common.{subst, sym, refl, []}
use Rattle.ppd_codec_runs.specs.Known.{Known}
use Rattle.ppd_top_commands.specs.Asking.{IsAsked}
use Rattle.ppd_top_commands.specs.Output.{Talks, standing}
use Rattle.ppd_top_commands.proofs.Conversing.{asked_none}
use Rattle.ppd_top_commands.proofs.asking.talk.Goals as goal

pub loop-number-init : goal.loop-number-init
loop-number-init g c = record { same = refl; asked = asked_none _ _ _ c.requires.reader }

pub returns-in-Some : goal.returns-in-Some
returns-in-Some g c =
    let a = standing (g.I.Source.left c.args.input.now) (g.I.Source.before_last c.args.input.now) (g.I.Source.faults c.args.input.now) (g.O.Sink.written c.args.output.now) (g.O.Sink.faults c.args.output.now) in
    let b = standing (g.I.Source.left c.loop-number.input) (g.I.Source.before_last c.loop-number.input) (g.I.Source.faults c.loop-number.input) (g.O.Sink.written c.loop-number.output) (g.O.Sink.faults c.loop-number.output) in
    let d = standing (g.I.Source.left c.answer_next.new.input) (g.I.Source.before_last c.answer_next.new.input) (g.I.Source.faults c.answer_next.new.input) (g.O.Sink.written c.answer_next.new.output) (g.O.Sink.faults c.answer_next.new.output) in
    let n = c.loop-number._number in
    let same = c.loop-number.invariant.same in
    let q : IsAsked c.loop-number.session.known n c.loop-number.reader a b = subst (λ (x : Known). IsAsked x n c.loop-number.reader a b) (sym same) c.loop-number.invariant.asked in
    let t : Talks c.loop-number.session.known [] a d c.in-Some.status = c.in-Some.ensures.goes a n c.loop-number-test.true q in
    subst (λ (x : Known). Talks x [] a d c.in-Some.status) same t
