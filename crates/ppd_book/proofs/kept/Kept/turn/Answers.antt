use Rattle.std.proofs.Common.{sym, ◌∙◌}
use Rattle.ppd_book.proofs.Processes.{of_process}
use Rattle.ppd_book.proofs.kept.Kept.turn.Goals as goal

pub returns-then-enabled-clause-process : goal.returns-then-enabled-clause-process
returns-then-enabled-clause-process g c = of_process _ _ _ c.self.invariant c.args.worker (sym c.enabled.ensures ∙ c.if-enabled.true)

pub returns-in_ok-take-in-Some-clause-process : goal.returns-in_ok-take-in-Some-clause-process
returns-in_ok-take-in-Some-clause-process g c = of_process _ _ _ c.lowest.ensures.held c.in-Some.p c.in-Some.ensures.some.can
