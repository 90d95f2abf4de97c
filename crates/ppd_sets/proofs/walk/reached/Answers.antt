use Rattle.std.proofs.Common.{◌≡◌, ◌∙◌, ap, length}
use Rattle.ppd_ast.specs.Members.{those}
use Rattle.ppd_sets.specs.WorkList.{is_marked}
use Rattle.ppd_sets.proofs.walk.reached.Goals as goal
use Rattle.ppd_sets.proofs.Leading.{marked_is}

pub returns : goal.returns
returns c =
    let n_is : length c.as_slice.result.now ≡ length c.args.next.now = ap length c.as_slice.ensures.value ∙ c.in_ok-marks.ensures.long in
    c.in_ok-ids.ensures ∙ ap (λ n. those n (is_marked c.as_slice.result.now)) n_is ∙ ap (λ bs. those (length c.args.next.now) (is_marked bs)) c.as_slice.ensures.value
    ∙ marked_is c.args.next.now c.args.starts.now c.in_ok-marks.marks.items (length c.args.next.now) c.in_ok-marks.ensures.reached
