use Rattle.std.proofs.Common.{◌≡◌, ◌∙◌, sym, ap, arith, List, Some}
use Rattle.std.specs.Prelude.{slice_get}
use Rattle.ppd_ast.specs.declared.program.Body.{Body}
use Rattle.ppd_ast.proofs.Walks.{got_some}
use Rattle.ppd_sets.proofs.Gathering.{touched_more}
use Rattle.ppd_sets.proofs.bodies.touched_by_bodies.Goals as goal

pub loop-number-preserved : goal.loop-number-preserved
loop-number-preserved c =
    let p = c.args.program.now in
    let k = c.loop-number.number in
    let is : slice_get c.as_slice-bodies.result.now k ≡ Some c.index-bodies-number.result = got_some c.as_slice-bodies.result.now k c.index-bodies-number.result (omega (arith, c.loop-number-test.true)) c.index-bodies-number.is in
    let at : slice_get p.bodies k ≡ Some c.index-bodies-number.result = ap (λ (xs : List Body). slice_get xs k) (sym c.as_slice-bodies.ensures) ∙ is in
    let more = touched_more p c.loop-number.list c.push.new.self c.touched_in-touched.result k c.index-bodies-number.result c.loop-number.invariant.long c.loop-number.invariant.each at c.touched_in-touched.ensures c.in_ok-push.ensures.ok in
    record { long = more.0; each = more.1 }
