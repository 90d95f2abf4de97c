use Rattle.std.proofs.lemmas.Grind.{common_steps}
use Rattle.std.proofs.Common.{◌∷◌, ◌∙◌, [], Err, ap, subst, sym, rules, arith}
use Rattle.std.proofs.lemmas.Result.{err_from_is_err_and}
use Rattle.ppd_flow.specs.Far.{far_in}
use Rattle.ppd_slice.specs.Asked.{IsAsked, IsThere}
use Rattle.ppd_slice.proofs.Keeping.{failed_asked, kept_first, on_any, on_one, rose_still, unread_asked}
use Rattle.ppd_slice.proofs.Kept.{kept_both, kept_only, no_item, rose_then}
use Rattle.ppd_slice.proofs.asking.edges_by_kept.Goals as goal

pub returns-in_err-keep-clause-is : goal.returns-in_err-keep-clause-is
returns-in_err-keep-clause-is g c =
    let e = err_from_is_err_and c.from_residual.result c.from_residual.ensures.1 in
    subst (IsAsked c.args.past.now c.args.at) (sym (e.1 ∙ ap Err e.2)) (failed_asked c.args.past.now c.args.at c.in_err-keep.field-0.0 c.in_err-keep.ensures.error)

pub returns-in_err-there-clause-is : goal.returns-in_err-there-clause-is
returns-in_err-there-clause-is g c =
    let e = err_from_is_err_and c.from_residual-in_err-there.result c.from_residual-in_err-there.ensures.1 in
    subst (IsAsked c.args.past.now c.args.at) (sym (e.1 ∙ ap Err e.2)) (unread_asked c.args.past.now c.args.at c.in_err-there.field-0.0 c.in_err-there.ensures.error)

pub returns-then-not-there-clause-is : goal.returns-then-not-there-clause-is
returns-then-not-there-clause-is g c =
    no_item c.args.past.now c.args.at (subst (IsThere c.args.past.now c.args.at) c.if-not-there.true c.in_ok-there.ensures.is)

pub returns-then-not-there-clause-only : goal.returns-then-not-there-clause-only
returns-then-not-there-clause-only g c =
    kept_first c.args.at.process (far_in c.args.past.now c.args.at.process c.args.at.interval c.args.at.item)
    c.args.kept.now.replays c.keep.new.kept.replays c.keep.ensures.others

pub returns-then-not-there-clause-cost : goal.returns-then-not-there-clause-cost
returns-then-not-there-clause-cost g c =
    rose_still c.args.past.now c.args.kept.now.replays c.keep.new.kept.replays c.args.steps.now c.keep.new.steps c.is_there.new.steps
    c.in_ok-keep.ensures.cost (c.in_ok-there.ensures.cost c.in_ok-keep.ensures.all)

pub returns-in_err-keep_far-clause-is : goal.returns-in_err-keep_far-clause-is
returns-in_err-keep_far-clause-is g c =
    let e = err_from_is_err_and c.from_residual-in_err-keep_far.result c.from_residual-in_err-keep_far.ensures.1 in
    subst (IsAsked c.args.past.now c.args.at) (sym (e.1 ∙ ap Err e.2)) (failed_asked c.args.past.now c.args.at c.in_err-keep_far.field-0.0 c.in_err-keep_far.ensures.error)

pub edges_known-requires-clause-own : goal.edges_known-requires-clause-own
edges_known-requires-clause-own g c = c.in_ok-keep_far.ensures.still c.args.at.process c.in_ok-keep.ensures.all

pub edges_known-requires-clause-there : goal.edges_known-requires-clause-there
edges_known-requires-clause-there g c =
    subst (IsThere c.args.past.now c.args.at) c.if-not-there.false c.in_ok-there.ensures.is

pub returns-clause-only : goal.returns-clause-only
returns-clause-only g c =
    on_any c.edges_known.result (kept_both (c.args.at.process ∷ [])
    (far_in c.args.past.now c.args.at.process c.args.at.interval c.args.at.item) c.args.kept.now.replays c.keep.new.kept.replays
    c.keep_far.new.kept.replays (kept_only c.args.at.process c.args.kept.now.replays c.keep.new.kept.replays c.keep.ensures.others)
    c.keep_far.ensures.only)

pub returns-clause-cost : goal.returns-clause-cost
returns-clause-cost g c =
    on_one c.edges_known.result c.edges_known.ensures.cost
    (rose_still c.args.past.now c.args.kept.now.replays c.keep_far.new.kept.replays c.args.steps.now c.keep_far.new.steps
    c.edges_known.new.steps (rose_then c.args.past.now c.args.kept.now.replays c.keep.new.kept.replays c.keep_far.new.kept.replays
    c.args.steps.now c.is_there.new.steps c.keep_far.new.steps
    (rose_still c.args.past.now c.args.kept.now.replays c.keep.new.kept.replays c.args.steps.now c.keep.new.steps c.is_there.new.steps
    c.in_ok-keep.ensures.cost (c.in_ok-there.ensures.cost c.in_ok-keep.ensures.all)) c.in_ok-keep_far.ensures.cost))

pub is_there-requires : goal.is_there-requires
is_there-requires c = search rules depth 1 fits 30

pub keep-requires : goal.keep-requires
keep-requires c = search rules depth 1 fits 30

pub keep_far-requires : goal.keep_far-requires
keep_far-requires c = grind (arith, common_steps) steps 250000

pub returns-clause-is : goal.returns-clause-is
returns-clause-is g c = c.edges_known.ensures.is

pub returns-clause-kept : goal.returns-clause-kept
returns-clause-kept g c = c.keep_far.ensures.kept

pub returns-in_err-keep-clause-kept : goal.returns-in_err-keep-clause-kept
returns-in_err-keep-clause-kept g c = c.keep.ensures.kept

pub returns-in_err-keep_far-clause-kept : goal.returns-in_err-keep_far-clause-kept
returns-in_err-keep_far-clause-kept g c = c.keep_far.ensures.kept

pub returns-in_err-there-clause-kept : goal.returns-in_err-there-clause-kept
returns-in_err-there-clause-kept g c = c.keep.ensures.kept

pub returns-then-not-there-clause-kept : goal.returns-then-not-there-clause-kept
returns-then-not-there-clause-kept g c = c.keep.ensures.kept
