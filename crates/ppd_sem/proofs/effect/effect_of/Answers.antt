use Rattle.std.proofs.Common.{◌≡◌, Ok, Err, IfOk, length, ap, sym, subst, ◌∙◌, to_z, of_z, w64, rules}
use Rattle.std.proofs.lemmas.Int.{to_z-of_z}
use Rattle.ppd_sem.specs.Effects.{HasRange, deed_if, deed_of}
use Rattle.ppd_sem.proofs.Asks.{is_err}
use Rattle.ppd_sem.proofs.ByValue.{by_asked, by_its_value, by_value_in_range, is_other, without_its_value, without_value_in_range}
use Rattle.ppd_sem.proofs.effect.effect_of.Goals as goal

pub returns-in_err-value-in-Some : goal.returns-in_err-value-in-Some
returns-in_err-value-in-Some c =
    let k = c.args.kind.now in
    let is : c.from_residual-in_err-value-in-Some.result ≡ Err c.in_err-value-in-Some.field-0.0 = is_err _ _ c.from_residual-in_err-value-in-Some.ensures in
    record {
      deed = by_its_value c.args.exprs.now c.args.cells.now c.args.answers.now k c.in-Some.value (sym c.in-Some.ensures)
          ∙ ap (λ r. deed_if c.args.exprs.now k c.args.cells.now c.args.answers.now (by_asked k r)) c.in_err-value-in-Some.ensures.err
          ∙ ap (deed_if c.args.exprs.now k c.args.cells.now c.args.answers.now) (sym is);
      range = subst (λ r. IfOk r HasRange) (sym is) tt;
    }

pub returns-in_ok-value-in-Some : goal.returns-in_ok-value-in-Some
returns-in_ok-value-in-Some c =
    let k = c.args.kind.now in
    let same : to_z w64 (of_z w64 c.in_ok-value-in-Some.value) ≡ c.in_ok-value-in-Some.value = search (rules, to_z-of_z) in
    record {
      deed = by_its_value c.args.exprs.now c.args.cells.now c.args.answers.now k c.in-Some.value (sym c.in-Some.ensures)
          ∙ ap (λ r. deed_if c.args.exprs.now k c.args.cells.now c.args.answers.now (by_asked k r)) (c.in_ok-value-in-Some.ensures.ok ∙ ap (λ v. Ok (v, c.in_ok-value-in-Some.field-0-1.now)) (sym same))
          ∙ ap (deed_if c.args.exprs.now k c.args.cells.now c.args.answers.now) (sym c.by_value.ensures);
      range = subst (λ r. IfOk r HasRange) (sym c.by_value.ensures) (by_value_in_range k _);
    }

pub returns-in-None : goal.returns-in-None
returns-in-None c =
    let k = c.args.kind.now in
    record {
      deed = without_its_value c.args.exprs.now c.args.cells.now c.args.answers.now k (is_other k c.in_default.not-Set c.in_default.not-Call) (sym c.in-None.ensures)
          ∙ ap (λ e. Ok (deed_of c.args.exprs.now k c.args.cells.now c.args.answers.now e)) (sym c.without_value.ensures);
      range = subst HasRange (sym c.without_value.ensures) (without_value_in_range c.args.exprs.now (length c.args.cells.now) k c.requires.uses);
    }
