use Rattle.std.proofs.Common.{◌≡◌, ◌∙◌, refl, sym, take, false, true}
use Rattle.std.proofs.lemmas.Result.{err_from_is_err_and}
use Rattle.ppd_flow_shared.specs.Items.{is_passed}
use Rattle.ppd_flow_shared.proofs.Steps.{walk_ended, walk_failed, walk_outward}
use Rattle.ppd_flow_shared.proofs.search.CellSearch.walk.Goals as goal

pub returns-in_err-walked : goal.returns-in_err-walked
returns-in_err-walked g c =
    let search = c.args.self.now in
    let e = err_from_is_err_and c.from_residual.result c.from_residual.ensures.1 in
    rw (e.1, e.2) (walk_failed search.past.now search.process search.cell c.args.interval c.args.place
    c.count_of-depth.result c.args.items.now (take c.args.place c.args.items.now)
    c.count_of-depth.ensures c.requires.items refl c.args.steps.now c.over_items.new.steps
    c.in_err-walked.field-0.0 c.in_err-walked.ensures)

pub returns-then-not-is_passed : goal.returns-then-not-is_passed
returns-then-not-is_passed g c =
    let search = c.args.self.now in
    let not_passed : is_passed c.in_ok-walked.walked ≡ false = sym c.is_passed.ensures ∙ c.if-not-is_passed.true in
    walk_ended search.past.now search.process search.cell c.args.interval c.args.place c.count_of-depth.result
    c.args.items.now (take c.args.place c.args.items.now)
    c.count_of-depth.ensures c.requires.items refl c.args.steps.now c.over_items.new.steps
    c.in_ok-walked.walked not_passed c.in_ok-walked.ensures

pub returns : goal.returns
returns g c =
    let search = c.args.self.now in
    let passed : is_passed c.in_ok-walked.walked ≡ true = sym c.is_passed.ensures ∙ c.if-not-is_passed.false in
    walk_outward search.past.now search.process search.cell c.args.interval c.args.place c.count_of-depth.result
    c.args.items.now (take c.args.place c.args.items.now)
    c.count_of-depth.ensures c.requires.items refl c.args.steps.now c.over_items.new.steps
    c.outward.new.steps c.in_ok-walked.walked c.outward.result
    passed c.in_ok-walked.ensures c.outward.ensures
