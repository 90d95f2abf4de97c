use Rattle.std.proofs.Common.{rules, arith, ℕ, ◌^◌, ◌<◌, None, ap, sym, subst, ◌∙◌, length, map}
use Rattle.ppd_graph.specs.Cycles.{AllWait, IsRoundsCycle}
use Rattle.ppd_graph.specs.Graphs.{IsGraphOf}
use Rattle.ppd_graph.specs.LogRecord.{sets_from}
use Rattle.ppd_graph.specs.Times.{AreTimed, HasAll, IsReady, own_times}
use Rattle.std.specs.List.{sum_by}
use Rattle.ppd_graph.specs.Spending.{list_cost, times_cost}
use Rattle.ppd_graph.proofs.Counted.{graph_spent}
use Rattle.ppd_graph.proofs.Built.{cycle_refused, few_of, graph_is, ordered, pairs_few, seen_both, times_few, waiting}
use Rattle.ppd_graph.proofs.build.graph_in.Goals as goal
use Rattle.std.proofs.lemmas.Grind.{common_steps, elements}

pub all_times-requires : goal.all_times-requires
all_times-requires g c =
    let few = few_of c.are_few.result c.as_slice.result.now c.args.logs.now.lists c.as_slice.ensures c.are_few.ensures.few.0 (search rules) in
    record { few = pairs_few c.args.program.now c.args.logs.now c.as_slice-2.result.now (c.as_slice-2.ensures ∙ c.in_ok-pairs.ensures.pairs) few }

pub cycle-requires-clause-wait : goal.cycle-requires-clause-wait
cycle-requires-clause-wait g c =
    let program = c.args.program.now in
    let logs = c.args.logs.now in
    let pairs = c.in_ok-pairs.pairs in
    let times = c.in_ok-times.times.items in
    let are = c.in_ok-pairs.ensures.pairs in
    let numbered = c.in_ok-pairs.ensures.passed in
    let timed : AreTimed pairs times = subst (λ p. AreTimed p times) c.as_slice-2.ensures c.in_ok-times.ensures.timed in
    let stopped : (q : ℕ) → IsReady pairs times q → ⊥ = subst (λ p. (q : ℕ) → IsReady p times q → ⊥) c.as_slice-2.ensures c.in_ok-times.ensures.stopped in
    seen_both AllWait pairs c.as_slice-in-Some.result.now times c.as_slice-in-Some-2.result.now (sym c.as_slice-in-Some.ensures) (sym c.as_slice-in-Some-2.ensures.value) (waiting program logs pairs are numbered times timed stopped)

pub cycle-requires-clause-few : goal.cycle-requires-clause-few
cycle-requires-clause-few g c =
    let few = few_of c.are_few.result c.as_slice.result.now c.args.logs.now.lists c.as_slice.ensures c.are_few.ensures.few.0 (search rules) in
    pairs_few c.args.program.now c.args.logs.now c.as_slice-in-Some.result.now (c.as_slice-in-Some.ensures ∙ c.in_ok-pairs.ensures.pairs) few

pub cycle-requires-clause-done : goal.cycle-requires-clause-done
cycle-requires-clause-done g c =
    let program = c.args.program.now in
    let logs = c.args.logs.now in
    let pairs = c.in_ok-pairs.pairs in
    let times = c.in_ok-times.times.items in
    let are = c.in_ok-pairs.ensures.pairs in
    let numbered = c.in_ok-pairs.ensures.passed in
    let timed : AreTimed pairs times = subst (λ p. AreTimed p times) c.as_slice-2.ensures c.in_ok-times.ensures.timed in
    let few = few_of c.are_few.result c.as_slice.result.now c.args.logs.now.lists c.as_slice.ensures c.are_few.ensures.few.0 (search rules) in
    subst (λ ts. (q : ℕ) → length (own_times ts q) < 2 ^ 32) (sym c.as_slice-in-Some-2.ensures.value) (times_few program logs pairs are numbered times timed few)

pub returns-in-Some-clause-refused : goal.returns-in-Some-clause-refused
returns-in-Some-clause-refused g c =
    let program = c.args.program.now in
    let logs = c.args.logs.now in
    let pairs = c.in_ok-pairs.pairs in
    let times = c.in_ok-times.times.items in
    let are = c.in_ok-pairs.ensures.pairs in
    let numbered = c.in_ok-pairs.ensures.passed in
    let timed : AreTimed pairs times = subst (λ p. AreTimed p times) c.as_slice-2.ensures c.in_ok-times.ensures.timed in
    let stopped : (q : ℕ) → IsReady pairs times q → ⊥ = subst (λ p. (q : ℕ) → IsReady p times q → ⊥) c.as_slice-2.ensures c.in_ok-times.ensures.stopped in
    cycle_refused program logs pairs are numbered times timed stopped c.in_ok-nodes.nodes
    (seen_both (λ p t. IsRoundsCycle p t c.in_ok-nodes.nodes) c.as_slice-in-Some.result.now pairs c.as_slice-in-Some-2.result.now times c.as_slice-in-Some.ensures c.as_slice-in-Some-2.ensures.value c.in_ok-nodes.ensures)

pub returns-clause-graph : goal.returns-clause-graph
returns-clause-graph g c =
    let program = c.args.program.now in
    let logs = c.args.logs.now in
    let pairs = c.in_ok-pairs.pairs in
    let times = c.in_ok-times.times.items in
    let are = c.in_ok-pairs.ensures.pairs in
    let numbered = c.in_ok-pairs.ensures.passed in
    let timed : AreTimed pairs times = subst (λ p. AreTimed p times) c.as_slice-2.ensures c.in_ok-times.ensures.timed in
    let few = few_of c.are_few.result c.as_slice.result.now c.args.logs.now.lists c.as_slice.ensures c.are_few.ensures.few.0 (search rules) in
    let all = seen_both (λ p t. (q : ℕ) → HasAll p t q) c.as_slice-3.result.now pairs c.as_slice-4.result.now times c.as_slice-3.ensures c.as_slice-4.ensures.value c.in_default.ensures.stuck in
    let edges = c.in_ok-edges.edges in
    subst (λ ts. IsGraphOf program logs (record { edges = edges; times = ts; pairs = pairs })) (sym c.from_vec.ensures)
    (graph_is program logs pairs are numbered times timed all few edges (c.in_ok-edges.ensures.edges ∙ ap (map (sets_from None)) c.as_slice-5.ensures))

pub returns-clause-passed : goal.returns-clause-passed
returns-clause-passed g c =
    let program = c.args.program.now in
    let logs = c.args.logs.now in
    let pairs = c.in_ok-pairs.pairs in
    let times = c.in_ok-times.times.items in
    let are = c.in_ok-pairs.ensures.pairs in
    let numbered = c.in_ok-pairs.ensures.passed in
    let timed : AreTimed pairs times = subst (λ p. AreTimed p times) c.as_slice-2.ensures c.in_ok-times.ensures.timed in
    let all = seen_both (λ p t. (q : ℕ) → HasAll p t q) c.as_slice-3.result.now pairs c.as_slice-4.result.now times c.as_slice-3.ensures c.as_slice-4.ensures.value c.in_default.ensures.stuck in
    ordered program logs pairs are numbered times timed all

pub returns-clause-cost : goal.returns-clause-cost
returns-clause-cost g c =
    let lists = ap length c.as_slice.ensures in
    let first = ap times_cost c.as_slice-2.ensures in
    let second = ap length c.as_slice-3.ensures in
    let third = ap (sum_by list_cost) c.as_slice-5.ensures in
    graph_spent c.args.program.now c.args.logs.now c.in_ok-pairs.pairs c.args.steps.now c.are_few.new.steps c.pair_all.new.steps c.all_times.new.steps c.first_stuck.new.steps _ c.in_ok-pairs.ensures.pairs
    (omega (arith, lists, c.are_few.ensures.cost)) c.in_ok-pairs.ensures.cost (omega (arith, first, c.in_ok-times.ensures.cost)) (omega (arith, second, c.first_stuck.ensures.cost)) (omega (arith, third, c.in_ok-edges.ensures.cost))

pub all_sets-requires : goal.all_sets-requires
all_sets-requires c = search rules depth 1 fits 30

pub are_few-requires : goal.are_few-requires
are_few-requires c = search rules depth 1 fits 30

pub as_slice-requires : goal.as_slice-requires
as_slice-requires c = search rules depth 1 fits 30

pub as_slice-requires-2 : goal.as_slice-requires-2
as_slice-requires-2 c = search rules depth 1 fits 30

pub as_slice-requires-3 : goal.as_slice-requires-3
as_slice-requires-3 c = search rules depth 1 fits 30

pub as_slice-requires-5 : goal.as_slice-requires-5
as_slice-requires-5 c = search rules depth 1 fits 30

pub as_slice-requires-in-Some : goal.as_slice-requires-in-Some
as_slice-requires-in-Some c = search rules depth 1 fits 30

pub from_vec-requires : goal.from_vec-requires
from_vec-requires c = search rules depth 1 fits 30

pub pair_all-requires : goal.pair_all-requires
pair_all-requires c = grind (arith, common_steps) steps 250000

pub returns-in_err-edges : goal.returns-in_err-edges
returns-in_err-edges c = grind (arith, common_steps) steps 250000

pub returns-in_err-pairs : goal.returns-in_err-pairs
returns-in_err-pairs c = grind (arith, elements) steps 250000

pub returns-in_err-times : goal.returns-in_err-times
returns-in_err-times c = grind (arith, common_steps) steps 250000

pub returns-then-not-are_few : goal.returns-then-not-are_few
returns-then-not-are_few c = grind (arith, common_steps) steps 250000

pub cycle-requires-clause-start : goal.cycle-requires-clause-start
cycle-requires-clause-start c = grind (arith, common_steps) steps 250000

pub returns-clause-refused : goal.returns-clause-refused
returns-clause-refused c = search rules depth 1 fits 30

pub returns-in-Some-clause-cost : goal.returns-in-Some-clause-cost
returns-in-Some-clause-cost c = grind (arith, common_steps) steps 250000

pub returns-in-Some-clause-graph : goal.returns-in-Some-clause-graph
returns-in-Some-clause-graph c = grind (arith, common_steps) steps 250000

pub returns-in-Some-clause-passed : goal.returns-in-Some-clause-passed
returns-in-Some-clause-passed c = grind (arith, common_steps) steps 250000

pub returns-in_err-nodes-clause-cost : goal.returns-in_err-nodes-clause-cost
returns-in_err-nodes-clause-cost c = grind (arith, common_steps) steps 250000

pub returns-in_err-nodes-clause-graph : goal.returns-in_err-nodes-clause-graph
returns-in_err-nodes-clause-graph c = grind (arith, common_steps) steps 250000

pub returns-in_err-nodes-clause-passed : goal.returns-in_err-nodes-clause-passed
returns-in_err-nodes-clause-passed c = grind (arith, common_steps) steps 250000

pub returns-in_err-nodes-clause-refused : goal.returns-in_err-nodes-clause-refused
returns-in_err-nodes-clause-refused c = grind (arith, common_steps) steps 250000
