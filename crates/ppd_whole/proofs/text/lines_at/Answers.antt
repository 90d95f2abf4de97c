use Rattle.std.proofs.lemmas.Grind.{common_steps}
use Rattle.std.proofs.Common.{◌≡◌, ◌≤◌, ◌+◌, ◌∙◌, ◌++◌, ℕ, [], List, get_or, map, ap, ap₂, subst, rules, arith}
use Rattle.std.specs.List.{sum_by}
use Rattle.ppd_whole.specs.Costs.{event_cost}
use Rattle.ppd_whole.specs.Told.{told_process}
use Rattle.ppd_whole.proofs.Events.Parts.{made_at}
use Rattle.ppd_whole.proofs.text.lines_at.Goals as goal

pub returns-clause-lines : goal.returns-clause-lines
returns-clause-lines g c =
    let all = map (λ es. map (λ e. e.now) es.items) c.args.events.now in
    let own : map (λ e. e.now) c.deref.result.now ≡ get_or all c.args.p [] =
    ap (map (λ e. e.now)) c.deref.ensures.value ∙ made_at (λ es. map (λ e. e.now) es.items) c.args.events.now c.args.p c.index-events-p.result [] c.requires.there c.index-events-p.is in
    let told = ap₂ (told_process c.args.linked.now.past.now) c.in-Ok.ensures.1 own in
    c.from_vec.ensures ∙ c.in_ok-put_process.ensures.text ∙ ap₂ (λ (a b : List ℕ). a ++ b) c.new-text.ensures.items told

pub returns-clause-cost : goal.returns-clause-cost
returns-clause-cost g c =
    let all = map (λ es. map (λ e. e.now) es.items) c.args.events.now in
    let own : map (λ e. e.now) c.deref.result.now ≡ get_or all c.args.p [] =
    ap (map (λ e. e.now)) c.deref.ensures.value ∙ made_at (λ es. map (λ e. e.now) es.items) c.args.events.now c.args.p c.index-events-p.result [] c.requires.there c.index-events-p.is in
    subst (λ es. c.put_process.new.steps ≤ c.args.steps.now + sum_by (event_cost c.args.linked.now.past.now) es) own c.in_ok-put_process.ensures.cost

pub from_vec-requires : goal.from_vec-requires
from_vec-requires c = search rules depth 1 fits 30

pub new-text-requires : goal.new-text-requires
new-text-requires c = search rules depth 1 fits 30

pub put_process-requires : goal.put_process-requires
put_process-requires c = search rules depth 1 fits 30

pub returns-in_default : goal.returns-in_default
returns-in_default c = search rules depth 1 fits 30

pub returns-in_err-put_process : goal.returns-in_err-put_process
returns-in_err-put_process c = grind (arith, common_steps) steps 250000

pub try_from-requires : goal.try_from-requires
try_from-requires c = search rules depth 1 fits 30
