use Rattle.std.proofs.Common.{◌≡◌, ◌≤◌, ◌<◌, ◌∙◌, sym, ap, arith, Some, min, length, get_or}
use Rattle.std.specs.Prelude.{slice_get}
use Rattle.ppd_ast.proofs.Vocabulary.{is_call_of}
use Rattle.std.proofs.lemmas.Option.{slice_get-get_or}
use Rattle.ppd_ast.proofs.Ranges.{any_more, any_found}
use Rattle.ppd_blocks.proofs.numbered.has_call.Goals as goal

pub returns-then-is_call : goal.returns-then-is_call
returns-then-is_call c =
    let low : c.args.body.now.first ≤ c.loop-number.number = omega arith in
    let high : c.loop-number.number < min c.args.body.now.end (length c.args.stmts.now) = omega (arith, c.loop-number-test.true, c.end_of-number-end.ensures) in
    let is : slice_get c.args.stmts.now c.loop-number.number ≡ Some (get_or c.args.stmts.now c.loop-number.number c.index-stmts-number.result) = slice_get-get_or c.args.stmts.now c.loop-number.number c.index-stmts-number.result (omega (arith, high)) in
    sym (any_found (λ k. is_call_of (slice_get c.args.stmts.now k)) c.args.body.now.first c.loop-number.number (min c.args.body.now.end (length c.args.stmts.now)) low high
    (ap is_call_of is ∙ sym c.is_call.ensures ∙ c.if-is_call.true))

pub loop-number-preserved : goal.loop-number-preserved
loop-number-preserved c =
    let low : c.args.body.now.first ≤ c.loop-number.number = omega arith in
    let high : c.loop-number.number < min c.args.body.now.end (length c.args.stmts.now) = omega (arith, c.loop-number-test.true, c.end_of-number-end.ensures) in
    let is : slice_get c.args.stmts.now c.loop-number.number ≡ Some (get_or c.args.stmts.now c.loop-number.number c.index-stmts-number.result) = slice_get-get_or c.args.stmts.now c.loop-number.number c.index-stmts-number.result (omega (arith, high)) in
    any_more (λ k. is_call_of (slice_get c.args.stmts.now k)) c.args.body.now.first c.loop-number.number low c.loop-number.invariant
    (ap is_call_of is ∙ sym c.is_call.ensures ∙ c.if-is_call.false)
