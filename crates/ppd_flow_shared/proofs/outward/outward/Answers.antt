use Rattle.std.proofs.Common.{◌≡◌, ◌∙◌, sym, false, true}
use Rattle.std.proofs.lemmas.Result.{err_from_is_err_and}
use Rattle.std.specs.Prelude.{get_or, []}
use Rattle.ppd_flow_shared.specs.Items.{is_passed, out_of, seen_for}
use Rattle.ppd_flow_shared.proofs.Steps.{out_done, out_ended, out_failed, out_passed, outer_below}
use Rattle.ppd_flow_shared.proofs.outward.outward.Goals as goal

pub returns-in_err-walked : goal.returns-in_err-walked
returns-in_err-walked g c =
    let search = c.args.search.now in
    let e = err_from_is_err_and c.from_residual.result c.from_residual.ensures.1 in
    rw (e.1, e.2) (out_failed search.past.now search.process search.cell
    (out_of (seen_for search) search.cell c.args.interval (get_or (seen_for search).rounds c.args.interval [])) c.args.steps.now c.loop-outer.inner
    c.loop-outer.steps c.in-Some.outer c.loop-outer.invariant c.in-Some.ensures c.over_before.new.steps
    c.in_err-walked.field-0.0 c.in_err-walked.ensures)

pub returns-then-not-is_passed : goal.returns-then-not-is_passed
returns-then-not-is_passed g c =
    let search = c.args.search.now in
    let not_passed : is_passed c.in_ok-walked.walked ≡ false = sym c.is_passed.ensures ∙ c.if-not-is_passed.true in
    out_ended search.past.now search.process search.cell
    (out_of (seen_for search) search.cell c.args.interval (get_or (seen_for search).rounds c.args.interval [])) c.args.steps.now c.loop-outer.inner c.loop-outer.steps
    c.in-Some.outer
    c.loop-outer.invariant c.in-Some.ensures c.over_before.new.steps c.in_ok-walked.walked not_passed c.in_ok-walked.ensures

pub loop-outer-smaller : goal.loop-outer-smaller
loop-outer-smaller g c =
    let search = c.args.search.now in
    outer_below search.past.now search.process search.cell c.loop-outer.inner c.in-Some.outer c.in-Some.ensures

pub loop-outer-preserved : goal.loop-outer-preserved
loop-outer-preserved g c =
    let search = c.args.search.now in
    let passed : is_passed c.in_ok-walked.walked ≡ true = sym c.is_passed.ensures ∙ c.if-not-is_passed.false in
    out_passed search.past.now search.process search.cell
    (out_of (seen_for search) search.cell c.args.interval (get_or (seen_for search).rounds c.args.interval [])) c.args.steps.now c.loop-outer.inner c.loop-outer.steps
    c.in-Some.outer
    c.loop-outer.invariant c.in-Some.ensures c.over_before.new.steps c.in_ok-walked.walked passed c.in_ok-walked.ensures

pub returns : goal.returns
returns g c =
    let search = c.args.search.now in
    out_done search.past.now search.process search.cell
    (out_of (seen_for search) search.cell c.args.interval (get_or (seen_for search).rounds c.args.interval [])) c.args.steps.now c.loop-outer.inner c.loop-outer.steps
    c.in_default.ensures c.loop-outer.invariant
