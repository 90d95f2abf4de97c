use Rattle.std.proofs.Common.{◌≡◌, ◌∙◌, sym, ap, arith, List, Some}
use Rattle.std.specs.Prelude.{slice_get}
use Rattle.ppd_ast.specs.declared.program.Body.{Body}
use Rattle.ppd_ast.proofs.Walks.{got_some}
use Rattle.ppd_ast.specs.Lookups.{kind_of}
use Rattle.ppd_sets.specs.Used.{callee}
use Rattle.ppd_sets.proofs.Vocabulary.{calls_at}
use Rattle.ppd_sets.proofs.Calling.{map_more, at_body}
use Rattle.ppd_sets.proofs.bodies.calls.Goals as goal

pub loop-number-preserved : goal.loop-number-preserved
loop-number-preserved c =
    let p = c.args.program.now in
    let k = c.loop-number.number in
    let is : slice_get c.as_slice-bodies.result.now k ≡ Some c.index-bodies-number.result = got_some c.as_slice-bodies.result.now k c.index-bodies-number.result (omega (arith, c.loop-number-test.true)) c.index-bodies-number.is in
    let at : slice_get p.bodies k ≡ Some c.index-bodies-number.result = ap (λ (xs : List Body). slice_get xs k) (sym c.as_slice-bodies.ensures) ∙ is in
    map_more (calls_at p) k c.loop-number.rows c.push.new.self c.in_ok-row.row c.loop-number.invariant (c.in_ok-row.ensures ∙ sym (at_body p (λ s. callee (kind_of p s)) k c.index-bodies-number.result at)) c.in_ok-push.ensures.ok
