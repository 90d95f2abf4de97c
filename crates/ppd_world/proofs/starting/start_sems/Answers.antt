use Rattle.std.proofs.Common.{ap, map, sym, take, ◌+◌, ◌∙◌}
use Rattle.ppd_world.proofs.Lists.{mapped_all, mapped_more}
use Rattle.ppd_world.proofs.starting.start_sems.Goals as goal

pub loop-sem-preserved : goal.loop-sem-preserved
loop-sem-preserved c =
    let i = c.loop-sem.sem-index in
    let same = c.as_slice-sem-items.ensures in
    mapped_more (λ s. record { given = s.start; taken = 0 }) c.as_slice-sem-items.result.now i c.sem-item.result c.loop-sem.sems.items c.push.new.self.items c.loop-sem-test.true c.sem-item.is
    (c.loop-sem.invariant ∙ ap (λ sems. map (λ s. record { given = s.start; taken = 0 }) (take i sems)) (sym same)) c.in_ok-push.ensures.items
    ∙ ap (λ sems. map (λ s. record { given = s.start; taken = 0 }) (take (i + 1) sems)) same

pub returns : goal.returns
returns c =
    let i = c.loop-sem.sem-index in
    let same = c.as_slice-sem-items.ensures in
    mapped_all (λ s. record { given = s.start; taken = 0 }) c.as_slice-sem-items.result.now i c.loop-sem.sems.items c.loop-sem-test.false
    (c.loop-sem.invariant ∙ ap (λ sems. map (λ s. record { given = s.start; taken = 0 }) (take i sems)) (sym same))
    ∙ ap (λ sems. map (λ s. record { given = s.start; taken = 0 }) sems) same
