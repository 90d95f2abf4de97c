use Rattle.ppd_emul.proofs.Few.{has_few}
use Rattle.ppd_emul.proofs.Given.{gives_intervals}
use Rattle.ppd_emul.proofs.emulating.emulate_in.Goals as goal

pub returns-clause-intervals : goal.returns-clause-intervals
returns-clause-intervals g c =
    gives_intervals c.emulations_give_intervals.ensures c.args.program.now c.args.plan.now c.args.budget c.args.log.now
    c.args.counters.now.own c.emulate_log.new.steps c.emulate_log.result c.requires.program
    c.emulate_log.ensures.answer c.emulate_log.ensures.steps

pub returns-clause-items : goal.returns-clause-items
returns-clause-items g c =
    has_few c.args.program.now c.args.plan.now c.args.log.now c.args.budget c.args.counters.now.own c.emulate_log.new.steps c.emulate_log.result
    c.emulate_log.ensures.answer c.emulate_log.ensures.steps
