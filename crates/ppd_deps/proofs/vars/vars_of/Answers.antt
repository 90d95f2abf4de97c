use Rattle.std.proofs.Common.{◌∙◌, ◌++◌, ◌∷◌, [], ℕ, ap, get_or, sym, take_all}
use Rattle.std.specs.Prelude.{slice_get}
use Rattle.std.specs.List.{filter}
use Rattle.ppd_sets.specs.Used.{is_met}
use Rattle.ppd_deps.proofs.Tabled.{taken_no, taken_yes}
use Rattle.ppd_deps.proofs.vars.vars_of.Goals as goal
use Rattle.ppd_deps.proofs.vars.vars_of.Goals.{then-is_met_at+in_ok-push, else-is_met_at}

pub loop-number-preserved : goal.loop-number-preserved
loop-number-preserved c =
    let test : ℕ → _ = λ v. is_met c.args.set.now (slice_get c.args.vars.now v) in
    let numbers = c.args.numbers.now in
    let i = c.loop-number.number-index in
    elim c.if-is_met_at.branch [
      | then-is_met_at+in_ok-push w ↦
          w.ids-is ∙ w.in_ok-push.ensures.ok ∙ ap (λ ids. ids ++ get_or numbers i 0 ∷ []) c.loop-number.invariant ∙ taken_yes test numbers i c.loop-number-test.true (sym c.is_met_at.ensures ∙ w.if-is_met_at.true)
      | else-is_met_at w ↦ w.ids-is ∙ c.loop-number.invariant ∙ taken_no test numbers i c.loop-number-test.true (sym c.is_met_at.ensures ∙ w.if-is_met_at.false)
    ]

pub returns : goal.returns
returns c = c.loop-number.invariant ∙ ap (filter (λ v. is_met c.args.set.now (slice_get c.args.vars.now v))) (take_all c.loop-number.number-index c.args.numbers.now c.loop-number-test.false)
