use Rattle.std.proofs.Common.{◌∙◌, sym, ap, subst, length}
use Rattle.std.specs.Prelude.{slice_get}
use Rattle.ppd_ast.specs.Members.{AreBelow}
use Rattle.ppd_sets.specs.Reach.{closure, leads}
use Rattle.ppd_sets.specs.WorkList.{AreRowsBelow}
use Rattle.ppd_deps.proofs.Reaching.{kept_below, kept_long, marks_lead}
use Rattle.ppd_deps.proofs.locals.arrivals.Goals as goal
use Rattle.ppd_ast.specs.Lookups.{body_numbered}

pub reach-requires-clause-rows : goal.reach-requires-clause-rows
reach-requires-clause-rows c =
    let p = c.args.program.now in
    let b = c.args.local.body in
    let x = slice_get (body_numbered p b).locals c.args.local.var in
    subst AreRowsBelow (sym (c.as_slice.ensures ∙ c.in_ok-rows.ensures)) (kept_below p b x c.requires.valid)

pub reach-requires-clause-starts : goal.reach-requires-clause-starts
reach-requires-clause-starts c =
    let p = c.args.program.now in
    let b = c.args.local.body in
    let x = slice_get (body_numbered p b).locals c.args.local.var in
    subst (λ n. AreBelow n c.args.starts.now) (sym (ap length (c.as_slice.ensures ∙ c.in_ok-rows.ensures) ∙ kept_long p b x)) c.requires.starts

pub returns-clause-long : goal.returns-clause-long
returns-clause-long c =
    let p = c.args.program.now in
    let b = c.args.local.body in
    let x = slice_get (body_numbered p b).locals c.args.local.var in
    c.in_ok-marks.ensures.long ∙ ap length (c.as_slice.ensures ∙ c.in_ok-rows.ensures) ∙ kept_long p b x

pub returns-clause-reached : goal.returns-clause-reached
returns-clause-reached c = λ t.
    marks_lead c.as_slice.result.now c.args.starts.now c.in_ok-marks.marks.items c.in_ok-marks.ensures.reached t
    ∙ ap (λ rows. leads (closure rows) c.args.starts.now t) (c.as_slice.ensures ∙ c.in_ok-rows.ensures)
