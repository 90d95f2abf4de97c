use Rattle.std.proofs.Common.{◌≡◌, None, length, sym, subst, ◌∙◌}
use Rattle.std.proofs.lemmas.Result.{err_from_is_err_and}
use Rattle.ppd_index.specs.Refusals.{IsRefused}
use Rattle.ppd_index.proofs.Vocabulary.{unended}
use Rattle.ppd_index.proofs.build.own_rows.Goals as goal

pub returns-clause-passed : goal.returns-clause-passed
returns-clause-passed g c =
    let none : unended c.args.process (length c.args.entries.now) c.in_ok-ended.ended ≡ None = c.in_ok-check_end.ensures.passed in
    sym c.in_ok-ended.ensures.passed ∙ none

pub returns-in_err-check_end-clause-refused : goal.returns-in_err-check_end-clause-refused
returns-in_err-check_end-clause-refused g c =
    let bad = c.in_err-check_end.field-0.0 in
    let refused : IsRefused (unended c.args.process (length c.args.entries.now) c.in_ok-ended.ended) bad = c.in_err-check_end.ensures.refused in
    let e = err_from_is_err_and c.from_residual-in_err-check_end.result c.from_residual-in_err-check_end.ensures.1 in
    rw (e.1, e.2) (subst (λ o. IsRefused o bad) c.in_ok-ended.ensures.passed refused)
