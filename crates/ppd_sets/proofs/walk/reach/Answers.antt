use Rattle.std.proofs.Common.{ℕ, ◌↔◌, ◌∙◌, ap, subst, sym}
use Rattle.ppd_sets.specs.WorkList.{WorkList, with_marks, is_marked}
use Rattle.std.specs.Prelude.{IsTrue}
use Rattle.ppd_sets.specs.Reach.{Reached}
use Rattle.ppd_sets.proofs.Marks.{Holds, holds_first, row_is, popped_below, popped_fits, went_on, went_less, all_done}
use Rattle.ppd_sets.proofs.walk.reach.Goals as goal

pub loop-x-init : goal.loop-x-init
loop-x-init c =
    subst (Holds c.args.next.now c.args.starts.now) (sym (c.in_ok-mark_all.ensures ∙ ap (with_marks c.args.starts.now) c.in_ok-work.ensures))
    (holds_first c.args.next.now c.args.starts.now c.requires.starts)

pub bounds-next-x : goal.bounds-next-x
bounds-next-x c = popped_below c.args.next.now c.args.starts.now c.in-Some.x c.loop-x.work c.pop.new.self c.loop-x.invariant c.in-Some.ensures

pub mark_all-requires-in-Some : goal.mark_all-requires-in-Some
mark_all-requires-in-Some c =
    let inside = popped_below c.args.next.now c.args.starts.now c.in-Some.x c.loop-x.work c.pop.new.self c.loop-x.invariant c.in-Some.ensures in
    popped_fits c.args.next.now c.args.starts.now c.as_slice.result.now c.in-Some.x c.loop-x.work c.pop.new.self c.requires.rows c.loop-x.invariant c.in-Some.ensures
    (row_is c.args.next.now c.in-Some.x c.as_slice.result.now c.index-next-x.result inside (c.as_slice.ensures ∙ c.index-next-x.is))

pub loop-x-smaller : goal.loop-x-smaller
loop-x-smaller c =
    let inside = popped_below c.args.next.now c.args.starts.now c.in-Some.x c.loop-x.work c.pop.new.self c.loop-x.invariant c.in-Some.ensures in
    went_less c.args.next.now c.args.starts.now c.as_slice.result.now c.in-Some.x c.loop-x.work c.pop.new.self c.mark_all-in-Some.new.self c.requires.rows c.loop-x.invariant c.in-Some.ensures
    (row_is c.args.next.now c.in-Some.x c.as_slice.result.now c.index-next-x.result inside (c.as_slice.ensures ∙ c.index-next-x.is))
    c.in_ok-mark_all-2.ensures

pub loop-x-preserved : goal.loop-x-preserved
loop-x-preserved c =
    let inside = popped_below c.args.next.now c.args.starts.now c.in-Some.x c.loop-x.work c.pop.new.self c.loop-x.invariant c.in-Some.ensures in
    went_on c.args.next.now c.args.starts.now c.as_slice.result.now c.in-Some.x c.loop-x.work c.pop.new.self c.mark_all-in-Some.new.self c.requires.rows c.loop-x.invariant c.in-Some.ensures
    (row_is c.args.next.now c.in-Some.x c.as_slice.result.now c.index-next-x.result inside (c.as_slice.ensures ∙ c.index-next-x.is))
    c.in_ok-mark_all-2.ensures

pub returns-clause-reached : goal.returns-clause-reached
returns-clause-reached c =
    subst (λ (w : WorkList). (x : ℕ) → IsTrue (is_marked w.marks x) ↔ Reached c.args.next.now c.args.starts.now x)
    (sym (c.work-2.view_is ∙ c.in_default.ensures.1))
    (all_done c.args.next.now c.args.starts.now c.loop-x.work c.loop-x.invariant c.in_default.ensures.0)
