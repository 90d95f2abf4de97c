use Rattle.std.proofs.Common.{◌∙◌, List, ap, sym, rules, arith}
use Rattle.std.specs.Prelude.{slice_set}
use Rattle.ppd_model.specs.declared.flow.Item.{Item}
use Rattle.ppd_flow_past.proofs.Keeping.{now_kept, on_both, rose_newly}
use Rattle.ppd_flow_past.proofs.kept_replays.KeptReplays.keep.Goals as goal
use Rattle.std.proofs.lemmas.Grind.{common_steps}

pub returns-clause-kept : goal.returns-clause-kept
returns-clause-kept g c =
    let past = c.args.past.now in
    let rows = c.replay_all-replays.new.rows in
    now_kept past c.args.process c.args.self.now c.requires.kept rows
    (λ e. c.if-count-count_of.false (c.count.ensures ∙ e ∙ sym c.count_of.ensures)) c.set.new.self
    (c.set.ensures ∙ ap (λ (xs : List (List (List Item))). slice_set xs c.args.process rows) c.self.view_is)
    c.replay_all-replays.ensures.first

pub returns-clause-cost : goal.returns-clause-cost
returns-clause-cost g c =
    let past = c.args.past.now in
    let rows = c.replay_all-replays.new.rows in
    on_both c.replay_all-replays.result c.replay_all-replays.ensures.all c.replay_all-replays.ensures.cost
    (rose_newly past c.args.process c.args.self.now c.set.new.self c.requires.kept rows
    (λ e. c.if-count-count_of.false (c.count.ensures ∙ e ∙ sym c.count_of.ensures))
    (c.set.ensures ∙ ap (λ (xs : List (List (List Item))). slice_set xs c.args.process rows) c.self.view_is)
    c.args.steps.now c.replay_all-replays.new.steps)

pub count-requires : goal.count-requires
count-requires c = search rules depth 1 fits 30

pub count_of-requires : goal.count_of-requires
count_of-requires c = search rules depth 1 fits 30

pub new-rows-requires : goal.new-rows-requires
new-rows-requires c = search rules depth 1 fits 30

pub replay_all-replays-requires : goal.replay_all-replays-requires
replay_all-replays-requires c = search rules depth 1 fits 30

pub returns-clause-error : goal.returns-clause-error
returns-clause-error c = grind (arith, common_steps) steps 250000

pub returns-clause-others : goal.returns-clause-others
returns-clause-others c = grind (arith, common_steps) steps 250000

pub returns-then-count-count_of : goal.returns-then-count-count_of
returns-then-count-count_of c = search rules depth 1 fits 30

pub set-requires : goal.set-requires
set-requires c = search rules depth 1 fits 30
