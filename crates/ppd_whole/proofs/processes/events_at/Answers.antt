use Rattle.std.proofs.Common.{◌≡◌, [], List, ℕ, get_or, map}
use Rattle.std.proofs.lemmas.Result.{IfOk-weaker}
use Rattle.law_flow.specs.Joined.{events_in}
use Rattle.ppd_graph.specs.Seen.{Seen}
use Rattle.ppd_flow_past.specs.SeenBy.{seen_in}
use Rattle.ppd_flow.specs.SharedCells.{seens_in}
use Rattle.ppd_whole.proofs.Events.Parts.{in_step}
use Rattle.ppd_whole.proofs.processes.events_at.Goals as goal

pub returns : goal.returns
returns c =
    let p : ℕ = c.args.p in
    let seens : List Seen = seens_in c.args.past.now in
    IfOk-weaker c.events_of.result
    (λ events. (x : Seen) → x.items ≡ c.index-own-p.result.now → map (λ e. e.now) events.items ≡ events_in x)
    (λ events. map (λ e. e.now) events.items ≡ get_or (map events_in seens) p [])
    (λ events h. in_step (λ r. r.now) (λ x. x.items) events_in c.args.own.now seens p c.index-own-p.result (seen_in c.args.past.now p) [] [] (map (λ e. e.now) events.items) c.requires.own c.requires.there c.index-own-p.is h)
    c.events_of.ensures
