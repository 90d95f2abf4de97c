use Rattle.std.proofs.lemmas.Grind.{common_steps, elements}
use Rattle.std.specs.Int.{w16}
use Rattle.ppd_codec.specs.Form.{number}
use Rattle.std.proofs.Common.{◌+◌, ◌∙◌, ap, arith, rules}
use Rattle.std.proofs.lemmas.Result.{err_from_is_err_and}
use Rattle.ppd_codec.specs.Reader.{several}
use Rattle.ppd_codec.specs.Format.{cell}
use Rattle.ppd_codec.proofs.Several.{counted, no_more, one_more}
use Rattle.ppd_codec.proofs.cursor.Cursor.cells.Goals as goal

pub returns-in_err-cell : goal.returns-in_err-cell
returns-in_err-cell g c =
    let e = err_from_is_err_and c.from_residual-in_err-cell.result c.from_residual-in_err-cell.ensures.1 in
    rw (e.1, e.2) (record {
      ok = search rules;
      err = λ m.
          counted ((number w16).read) (several (λ low. (cell c.args.shared low).read) (λ c. c + 1) (0)) _ _ _ _ _ c.in_ok-left.ensures.read.ok
          ∙ c.loop-left.invariant.reads
          ∙ no_more (λ low. (cell c.args.shared low).read) (λ c. c + 1) (c.loop-left.low) c.loop-left.left c.loop-left.self.at c.loop-left.self.rest.now c.loop-left.found c.in_err-cell.field-0.0 (omega (arith, c.loop-left-test.true)) c.in_err-cell.ensures.err m;
      within = omega (arith, c.loop-left.invariant.within, c.cell.ensures.within);
      cost = omega (arith, c.loop-left.invariant.cost, c.cell.ensures.cost);
    })

pub loop-left-preserved : goal.loop-left-preserved
loop-left-preserved g c = record {
  reads = c.loop-left.invariant.reads ∙ one_more (λ low. (cell c.args.shared low).read) (λ c. c + 1) (c.loop-left.low) _ c.loop-left.left c.loop-left.self.at _ c.loop-left.self.rest.now _ c.loop-left.found _ c.in_ok-cell.cell (omega (arith, c.loop-left-test.true)) c.in_ok-cell.ensures.ok (ap (λ c. c + 1) c.from-low.ensures) (c.in_ok-push.ensures.ok);
  within = omega (arith, c.loop-left.invariant.within, c.cell.ensures.within);
  cost = omega (arith, c.loop-left.invariant.cost, c.cell.ensures.cost);
}

pub branch-left-requires : goal.branch-left-requires
branch-left-requires c = search rules depth 1 fits 30

pub cell-requires : goal.cell-requires
cell-requires c = search rules depth 1 fits 30

pub from-low-requires : goal.from-low-requires
from-low-requires c = search rules depth 1 fits 30

pub loop-left-init : goal.loop-left-init
loop-left-init c = grind (arith, elements) steps 250000

pub loop-left-smaller : goal.loop-left-smaller
loop-left-smaller c = grind (arith, common_steps) steps 250000

pub new-found-requires : goal.new-found-requires
new-found-requires c = search rules depth 1 fits 30

pub number_2-requires : goal.number_2-requires
number_2-requires c = search rules depth 1 fits 30

pub push-requires : goal.push-requires
push-requires c = search rules depth 1 fits 30

pub returns-in_err-left : goal.returns-in_err-left
returns-in_err-left c = grind (arith, common_steps) steps 250000

pub returns-in_err-push : goal.returns-in_err-push
returns-in_err-push c = grind (arith, elements) steps 250000

pub same-found-in-loop-left : goal.same-found-in-loop-left
same-found-in-loop-left c = search rules depth 1 fits 30
