use Rattle.std.proofs.Common.{◌+◌, ◌&&◌, sym, ◌∙◌, ap, arith, get_or}
use Rattle.std.proofs.lemmas.List.Folds.{list_all_at, list_all_more}
use Rattle.std.specs.Char.{is_ascii_digit}
use Rattle.ppd_ast.proofs.Digits.{value_next}
use Rattle.ppd_parse.proofs.Numbers.{value_front, too_great, digit_small, not_digits, all_digits}
use Rattle.ppd_parse.proofs.text.value_of.Goals as goal

pub returns-then-not-is_digit-clause-value : goal.returns-then-not-is_digit-clause-value
returns-then-not-is_digit-clause-value c =
    sym (not_digits c.args.digits.now (list_all_at is_ascii_digit c.args.digits.now c.loop-b.b-index 0 c.loop-b-test.true (sym c.if-not-is_digit.ensures)))

pub returns-then-value-digit-clause-value : goal.returns-then-value-digit-clause-value
returns-then-value-digit-clause-value c =
    let bs = c.args.digits.now in
    let i = c.loop-b.b-index in
    let n = value_next bs i 0 c.loop-b-test.true in
    let f = value_front bs (i + 1) in
    let v = c.loop-b.invariant.value in
    let d = c.from-digit.ensures in
    let t = c.if-value-digit.true in
    let s = digit_small (get_or bs i 0) (sym c.if-not-is_digit.ensures) in
    sym (too_great bs (omega (arith, n, f, v, d, t, s)))

pub loop-b-preserved : goal.loop-b-preserved
loop-b-preserved c =
    let bs = c.args.digits.now in
    let i = c.loop-b.b-index in
    let n = value_next bs i 0 c.loop-b-test.true in
    let v = c.loop-b.invariant.value in
    let d = c.from-digit.ensures in
    let t = c.if-value-digit.false in
    let s = digit_small (get_or bs i 0) (sym c.if-not-is_digit.ensures) in
    record {
      digits = list_all_more is_ascii_digit bs i 0 c.loop-b-test.true ∙ (ap (λ b. b && is_ascii_digit (get_or bs i 0)) c.loop-b.invariant.digits ∙ sym c.if-not-is_digit.ensures);
      value = omega (arith, n, v, d);
      small = omega (arith, t, s, d);
    }

pub returns-clause-value : goal.returns-clause-value
returns-clause-value c =
    let inv = c.loop-b.invariant in
    sym (all_digits c.args.digits.now c.loop-b.b-index c.loop-b.value c.loop-b-test.false inv.digits inv.value inv.small)
