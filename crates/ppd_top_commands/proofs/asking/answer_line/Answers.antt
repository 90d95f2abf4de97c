use Rattle.std.proofs.Common.{sym, subst}
use Rattle.ppd_ast.specs.declared.program.Program.{Program}
use Rattle.ppd_top_commands.specs.Asking.{IsFailed}
use Rattle.ppd_top_commands.proofs.Conversing.{failed_becomes}
use Rattle.ppd_top_commands.proofs.asking.answer_line.Goals as goal

pub returns-in-Err-clause-becomes : goal.returns-in-Err-clause-becomes
returns-in-Err-clause-becomes g c =
    failed_becomes c.args.session.now.known c.args.line.now c.in-Err.error (g.O.Sink.written c.args.output.now) (g.O.Sink.written c.refuse_replay.new.output) (g.O.Sink.faults c.args.output.now) (g.O.Sink.faults c.refuse_replay.new.output) c.refuse_replay.result c.in-Err.ensures.error
    (subst (λ (p : Program). IsFailed p c.in-Err.error (g.O.Sink.written c.args.output.now) (g.O.Sink.written c.refuse_replay.new.output) (g.O.Sink.faults c.args.output.now) (g.O.Sink.faults c.refuse_replay.new.output) c.refuse_replay.result) (sym c.requires) c.refuse_replay.ensures.failed)

pub returns-in-Ok-clause-becomes : goal.returns-in-Ok-clause-becomes
returns-in-Ok-clause-becomes g c = c.deliver.ensures.becomes c.args.session.now.known c.args.line.now c.in-Ok.ensures.told c.in-Ok.ensures.text c.in-Ok.ensures.quit
