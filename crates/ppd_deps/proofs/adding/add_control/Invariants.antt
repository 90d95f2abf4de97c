use Rattle.ppd_deps.proofs.Added.{AddsFirst}
use Rattle.ppd_deps.specs.Edges.{control_into}
use Rattle.ppd_deps.proofs.adding.add_control.Given as goal

abbrev pub invariant-loop-stmt : goal.invariant-loop-stmt
invariant-loop-stmt l = AddsFirst l.stmt l.initial.rows l.rows (control_into l.program)
