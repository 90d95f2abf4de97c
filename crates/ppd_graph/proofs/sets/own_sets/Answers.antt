use Rattle.std.proofs.Common.{◌+◌, ◌∷◌, ◌++◌, ap, arith, drop, sym, ◌∙◌, rules}
use Rattle.std.proofs.lemmas.List.{drop_more}
use Rattle.ppd_graph.specs.LogRecord.{sets_from}
use Rattle.ppd_graph.proofs.sets.own_sets.Goals as goal
use Rattle.std.proofs.lemmas.Grind.{common_steps}

pub loop-entry-preserved : goal.loop-entry-preserved
loop-entry-preserved g c =
    let entries = c.args.entries.now in
    let i = c.loop-entry.entry-index in
    let rest = drop (i + 1) entries in
    record {
      holds = c.in_ok-found.ensures rest ∙ ap (λ es. c.loop-entry.edges ++ sets_from c.loop-entry.found es) (ap (λ e. e ∷ rest) c.entry-item.is ∙ sym (drop_more entries i c.entry-item.result c.loop-entry-test.true))
          ∙ c.loop-entry.invariant.holds;
      spent = omega (arith, c.tick.ensures, c.loop-entry.invariant.spent);
    }

pub loop-entry-init : goal.loop-entry-init
loop-entry-init c = search rules depth 1 fits 30

pub loop-entry-smaller : goal.loop-entry-smaller
loop-entry-smaller c = search rules depth 1 fits 30

pub new-edges-requires : goal.new-edges-requires
new-edges-requires c = search rules depth 1 fits 30

pub or_none-requires : goal.or_none-requires
or_none-requires c = search rules depth 1 fits 30

pub push-requires : goal.push-requires
push-requires c = search rules depth 1 fits 30

pub returns : goal.returns
returns c = grind (arith, common_steps) steps 250000

pub returns-in_err-found : goal.returns-in_err-found
returns-in_err-found c = grind (arith, common_steps) steps 250000

pub returns-in_err-push : goal.returns-in_err-push
returns-in_err-push c = grind (arith, common_steps) steps 250000

pub take_entry-requires : goal.take_entry-requires
take_entry-requires c = search rules depth 1 fits 30

pub tick-requires : goal.tick-requires
tick-requires c = search rules depth 1 fits 30
