use Rattle.std.proofs.lemmas.Grind.{common_steps}
use Rattle.std.specs.Option.{unwrap_or}
use Rattle.std.proofs.Common.{Option, ℕ, ap, sym, rules, arith}
use Rattle.std.proofs.lemmas.Iterator.Adapters.{position_from-zero}
use Rattle.ppd_graph.specs.Seen.{is_item_of}
use Rattle.ppd_flow_tables.proofs.lookups.place_in.Goals as goal

pub loop-place-init : goal.loop-place-init
loop-place-init c =
    ap (λ (o : Option ℕ). unwrap_or o 0) (sym (position_from-zero (is_item_of c.args.interval) c.args.items.now))

pub is_interval-requires : goal.is_interval-requires
is_interval-requires c = search rules depth 1 fits 30

pub loop-place-preserved : goal.loop-place-preserved
loop-place-preserved c = grind (arith, common_steps) steps 250000

pub loop-place-smaller : goal.loop-place-smaller
loop-place-smaller c = search rules depth 1 fits 30

pub returns : goal.returns
returns c = grind (arith, common_steps) steps 250000

pub returns-then-is_interval : goal.returns-then-is_interval
returns-then-is_interval c = grind (arith, common_steps) steps 250000
