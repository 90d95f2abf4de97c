use Rattle.std.proofs.Common.{ap, subst, sym, ◌++◌, ◌∷◌, [], ◌∙◌}
use Rattle.ppd_sem.specs.Process.{need_of}
use Rattle.ppd_model.specs.declared.state.Logging.{Logging}
use Rattle.ppd_world.specs.Parts.{IsSmallLogging}
use Rattle.ppd_world.proofs.Lists.{mapped_all, mapped_more}
use Rattle.ppd_world.proofs.needs.start_needs.Goals as goal

pub look_of-requires-clause-logging : goal.look_of-requires-clause-logging
look_of-requires-clause-logging c =
    subst (λ (l : Logging). IsSmallLogging c.args.code.now.program.now l) (sym c.logging-item.is) (c.requires.loggings c.loop-logging.logging-index c.logging-item.result c.loop-logging-test.true)

pub loop-logging-preserved : goal.loop-logging-preserved
loop-logging-preserved c =
    mapped_more (λ (l : Logging). need_of c.args.code.now.program.now c.args.code.now.plan.now l.proc) c.args.loggings.now c.loop-logging.logging-index c.logging-item.result c.loop-logging.needs.items c.push.new.self.items
    c.loop-logging-test.true c.logging-item.is c.loop-logging.invariant (c.in_ok-push.ensures.items ∙ ap (λ n. c.loop-logging.needs.items ++ n ∷ []) c.look_of.ensures)

pub returns : goal.returns
returns c =
    mapped_all (λ (l : Logging). need_of c.args.code.now.program.now c.args.code.now.plan.now l.proc) c.args.loggings.now c.loop-logging.logging-index c.loop-logging.needs.items c.loop-logging-test.false c.loop-logging.invariant
