use Rattle.ppd_top.proofs.Promises.{debug_tells, flow_tells, programs_told, run_tells, runs_told, sources_recorded}
use Rattle.ppd_top.proofs.laws.calls_tell_of_runs.Goals as goal

pub returns-clause-flow : goal.returns-clause-flow
returns-clause-flow c = flow_tells c.runs_have_the_headline.ensures

pub returns-clause-programs : goal.returns-clause-programs
returns-clause-programs c = programs_told c.runs_have_the_headline.ensures c.one_answer.ensures.program

pub returns-clause-run : goal.returns-clause-run
returns-clause-run c = run_tells c.runs_have_the_headline.ensures

pub returns-clause-sources : goal.returns-clause-sources
returns-clause-sources c = sources_recorded c.runs_have_the_headline.ensures c.one_answer.ensures.program

pub returns-clause-debug : goal.returns-clause-debug
returns-clause-debug c = debug_tells c.runs_have_the_headline.ensures

pub returns-clause-recordings : goal.returns-clause-recordings
returns-clause-recordings c = runs_told c.runs_have_the_headline.ensures
