use Rattle.std.proofs.Common.{◌≡◌, [], subst, true, false, rules}
use Rattle.ppd_flow_past.proofs.Keeping.{on_both}
use Rattle.ppd_slice.specs.Asked.{IsThere}
use Rattle.ppd_slice.proofs.Keeping.{failed_first, failed_slice_of, kept_first, on_any, rose_still}
use Rattle.ppd_slice.proofs.Kept.{an_item, no_item}
use Rattle.ppd_slice.proofs.asking.keep_first.Goals as goal

pub returns-in-Ok-true-clause-only : goal.returns-in-Ok-true-clause-only
returns-in-Ok-true-clause-only g c =
    kept_first c.args.start.process [] c.args.kept.now.replays c.keep-replays.new.kept.replays c.keep-replays.ensures.others

pub returns-in-Ok-true-clause-there : goal.returns-in-Ok-true-clause-there
returns-in-Ok-true-clause-there g c =
    let known : c.in-Ok-true.field-0 ≡ true = search rules depth 1 fits 30 in
    on_any c.keep-replays.result (an_item c.args.past.now c.args.start
    (subst (IsThere c.args.past.now c.args.start) known c.in-Ok-true.ensures.is))

pub returns-in-Ok-true-clause-cost : goal.returns-in-Ok-true-clause-cost
returns-in-Ok-true-clause-cost g c =
    on_both c.keep-replays.result c.keep-replays.ensures.all c.keep-replays.ensures.cost
    (λ all rose. rose_still c.args.past.now c.args.kept.now.replays c.keep-replays.new.kept.replays c.args.steps.now
    c.keep-replays.new.steps c.is_there.new.steps rose (c.in-Ok-true.ensures.cost all))

pub returns-in-Ok-true-clause-error : goal.returns-in-Ok-true-clause-error
returns-in-Ok-true-clause-error g c =
    let known : c.in-Ok-true.field-0 ≡ true = search rules depth 1 fits 30 in
    failed_slice_of c.args.past.now c.args.start c.keep-replays.result (an_item c.args.past.now c.args.start
    (subst (IsThere c.args.past.now c.args.start) known c.in-Ok-true.ensures.is)) c.keep-replays.ensures.error

pub returns-in-Ok-false-clause-only : goal.returns-in-Ok-false-clause-only
returns-in-Ok-false-clause-only g c =
    kept_first c.args.start.process [] c.args.kept.now.replays c.keep-replays.new.kept.replays c.keep-replays.ensures.others

pub returns-in-Ok-false-clause-error : goal.returns-in-Ok-false-clause-error
returns-in-Ok-false-clause-error g c =
    let known : c.in-Ok-false.field-0 ≡ false = search rules depth 1 fits 30 in
    no_item c.args.past.now c.args.start (subst (IsThere c.args.past.now c.args.start) known c.in-Ok-false.ensures.is)

pub returns-in-Err-clause-only : goal.returns-in-Err-clause-only
returns-in-Err-clause-only g c =
    kept_first c.args.start.process [] c.args.kept.now.replays c.keep-replays.new.kept.replays c.keep-replays.ensures.others

pub returns-in-Err-clause-error : goal.returns-in-Err-clause-error
returns-in-Err-clause-error g c = failed_first c.args.past.now c.args.start c.in-Err.error c.in-Err.ensures.error

pub is_there-requires : goal.is_there-requires
is_there-requires c = search rules depth 1 fits 30

pub keep-replays-requires : goal.keep-replays-requires
keep-replays-requires c = search rules depth 1 fits 30

pub returns-in-Err-clause-cost : goal.returns-in-Err-clause-cost
returns-in-Err-clause-cost c = search rules depth 1 fits 30

pub returns-in-Err-clause-kept : goal.returns-in-Err-clause-kept
returns-in-Err-clause-kept c = search rules depth 1 fits 30

pub returns-in-Err-clause-there : goal.returns-in-Err-clause-there
returns-in-Err-clause-there c = search rules depth 1 fits 30

pub returns-in-Ok-false-clause-kept : goal.returns-in-Ok-false-clause-kept
returns-in-Ok-false-clause-kept c = search rules depth 1 fits 30

pub returns-in-Ok-true-clause-kept : goal.returns-in-Ok-true-clause-kept
returns-in-Ok-true-clause-kept c = search rules depth 1 fits 30
