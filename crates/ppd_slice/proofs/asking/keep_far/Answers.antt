use Rattle.std.proofs.Common.{◌≡◌, ◌∙◌, List, ℕ, subst}
use Rattle.ppd_flow.specs.Far.{far_in}
use Rattle.ppd_slice.specs.Asked.{AreAllKept, AreKeptFor}
use Rattle.ppd_slice.proofs.Keeping.{on_one, rose_later}
use Rattle.ppd_slice.proofs.Kept.{kept_none}
use Rattle.ppd_slice.proofs.asking.keep_far.Goals as goal

pub returns-in_err-far-clause-only : goal.returns-in_err-far-clause-only
returns-in_err-far-clause-only g c =
    kept_none (far_in c.args.past.now c.args.at.process c.args.at.interval c.args.at.item) c.args.kept.now.replays

pub returns-clause-all : goal.returns-clause-all
returns-clause-all g c =
    let is : c.in_ok-far.far ≡ far_in c.args.past.now c.args.at.process c.args.at.interval c.args.at.item =
    c.in_ok-far.ensures.is in
    on_one c.keep_all.result c.keep_all.ensures.all
    (λ all. subst (AreAllKept c.args.past.now c.keep_all.new.kept.replays) (c.as_slice.ensures ∙ is) all)

pub returns-clause-only : goal.returns-clause-only
returns-clause-only g c =
    let is : c.in_ok-far.far ≡ far_in c.args.past.now c.args.at.process c.args.at.interval c.args.at.item =
    c.in_ok-far.ensures.is in
    subst (λ (ps : List ℕ). AreKeptFor ps c.args.kept.now.replays c.keep_all.new.kept.replays) (c.as_slice.ensures ∙ is)
    c.keep_all.ensures.only

pub returns-clause-cost : goal.returns-clause-cost
returns-clause-cost g c =
    on_one c.keep_all.result c.keep_all.ensures.cost
    (rose_later c.args.past.now c.args.kept.now.replays c.keep_all.new.kept.replays c.args.steps.now c.far_known.new.steps
    c.keep_all.new.steps c.in_ok-far.ensures.cost)
