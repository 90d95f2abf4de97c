use Rattle.std.proofs.Common.{ap, ◌∙◌, refl, rules, arith}
use Rattle.ppd_ast.specs.Members.{has}
use Rattle.ppd_race.proofs.rows.busy_edge.Goals as goal
use Rattle.std.proofs.lemmas.Grind.{common_steps}

pub returns-clause-busy : goal.returns-clause-busy
returns-clause-busy g c = record {
  edge_is = refl;
  reads = λ k lt. c.set_of-reads.ensures.set.low k lt ∙ ap (λ xs. has xs k) c.as_slice.ensures;
  writes = λ k lt. c.set_of-writes.ensures.set.low k lt ∙ ap (λ xs. has xs k) c.as_slice-2.ensures;
  rises = c.in_ok-cells.ensures.union.rises;
  below = c.in_ok-cells.ensures.union.below;
  all = c.in_ok-cells.ensures.union.has_all;
}

pub as_slice-requires : goal.as_slice-requires
as_slice-requires c = search rules depth 1 fits 30

pub as_slice-requires-2 : goal.as_slice-requires-2
as_slice-requires-2 c = search rules depth 1 fits 30

pub returns-clause-cost : goal.returns-clause-cost
returns-clause-cost c = grind (arith, common_steps) steps 250000

pub returns-clause-least : goal.returns-clause-least
returns-clause-least c = grind (arith, common_steps) steps 250000

pub returns-clause-size : goal.returns-clause-size
returns-clause-size c = grind (arith, common_steps) steps 250000

pub returns-in_err-cells : goal.returns-in_err-cells
returns-in_err-cells c = grind (arith, common_steps) steps 250000

pub set_of-reads-requires : goal.set_of-reads-requires
set_of-reads-requires c = search rules depth 1 fits 30

pub set_of-writes-requires : goal.set_of-writes-requires
set_of-writes-requires c = search rules depth 1 fits 30

pub union_of-requires : goal.union_of-requires
union_of-requires c = search rules depth 1 fits 30
