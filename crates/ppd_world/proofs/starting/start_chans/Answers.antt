use Rattle.std.proofs.Common.{[], ap, map, sym, take, ◌+◌, ◌++◌, ◌∷◌, ◌∙◌}
use Rattle.ppd_world.proofs.Lists.{mapped_all, mapped_more}
use Rattle.ppd_world.proofs.starting.start_chans.Goals as goal

pub loop-chan-preserved : goal.loop-chan-preserved
loop-chan-preserved c =
    let i = c.loop-chan.chan-index in
    let same = c.as_slice-chan-items.ensures in
    mapped_more (λ x. record { capacity = x.capacity; sent = []; received = 0; completed = 0 }) c.as_slice-chan-items.result.now i c.chan-item.result c.loop-chan.chans.items c.push.new.self.items c.loop-chan-test.true c.chan-item.is
    (c.loop-chan.invariant ∙ ap (λ chans. map (λ x. record { capacity = x.capacity; sent = []; received = 0; completed = 0 }) (take i chans)) (sym same))
    (c.in_ok-push.ensures.items ∙ ap (λ values. c.loop-chan.chans.items ++ record { capacity = c.chan-item.result.capacity; sent = values; received = 0; completed = 0 } ∷ []) c.new.ensures)
    ∙ ap (λ chans. map (λ x. record { capacity = x.capacity; sent = []; received = 0; completed = 0 }) (take (i + 1) chans)) same

pub returns : goal.returns
returns c =
    let i = c.loop-chan.chan-index in
    let same = c.as_slice-chan-items.ensures in
    mapped_all (λ x. record { capacity = x.capacity; sent = []; received = 0; completed = 0 }) c.as_slice-chan-items.result.now i c.loop-chan.chans.items c.loop-chan-test.false
    (c.loop-chan.invariant ∙ ap (λ chans. map (λ x. record { capacity = x.capacity; sent = []; received = 0; completed = 0 }) (take i chans)) (sym same))
    ∙ ap (λ chans. map (λ x. record { capacity = x.capacity; sent = []; received = 0; completed = 0 }) chans) same
