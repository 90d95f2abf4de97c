use Rattle.std.proofs.Common.{refl, ◌-◌, ◌≡◌, ◌+◌, ◌<◌, ◌≤◌, ◌∙◌, [], ap, subst, arith, get_or, length}
use Rattle.std.specs.List.{flat_map, range_with_len}
use Rattle.std.proofs.lemmas.List.Sums.{sum_by-take-le, sum_by_more}
use Rattle.ppd_race_found.specs.Lists.{GrowsBy}
use Rattle.ppd_race_found.specs.Search.{found_in, row_cost}
use Rattle.ppd_race_found.proofs.Grown.{grown_none}
use Rattle.ppd_race.proofs.Over.{grown_range, none_yet, row_cells, row_elsewhere}
use Rattle.ppd_race.proofs.search.add_later.Goals as goal
use Rattle.ppd_model.proofs.Lists.{get_or_any}

pub add_row-requires-clause-cells : goal.add_row-requires-clause-cells
add_row-requires-clause-cells g c =
    let rows = c.args.rows.now in
    let q = c.loop-q.q in
    let inside : q < length rows = omega (arith, c.loop-q-test.true) in
    row_cells c.args.graph.now rows c.requires.rows q c.as_slice.result.now inside (c.as_slice.ensures ∙ c.index-rows-q.is ∙ get_or_any rows q c.index-rows-q.result [] inside)

pub loop-q-preserved : goal.loop-q-preserved
loop-q-preserved g c =
    let rows = c.args.rows.now in
    let q = c.loop-q.q in
    let above : c.args.p + 1 ≤ q = omega (arith, c.loop-q.auto.q) in
    let inside : q < length rows = omega (arith, c.loop-q-test.true) in
    let row_is : c.as_slice.result.now ≡ get_or rows q [] = c.as_slice.ensures ∙ c.index-rows-q.is ∙ get_or_any rows q c.index-rows-q.result [] inside in
    let more = sum_by_more row_cost rows q [] inside in
    let same = ap row_cost row_is in
    record {
      long = c.in_ok-add_row.ensures.long ∙ c.loop-q.invariant.long;
      grown = λ can.
          grown_range (λ r. found_in c.args.graph.now c.args.lists.now (get_or rows r [])) (c.args.p + 1) q c.args.found.now.items c.loop-q.found.items c.add_row.new.found.items above (c.loop-q.invariant.grown can)
          (subst (λ row. GrowsBy (found_in c.args.graph.now c.args.lists.now row) c.loop-q.found.items c.add_row.new.found.items) row_is
          (c.in_ok-add_row.ensures.grows c.args.p can (row_elsewhere c.args.graph.now rows c.requires.rows c.args.p q c.as_slice.result.now (omega (arith, above)) inside row_is)));
      least = omega (arith, above, c.tick.ensures, c.in_ok-add_row.ensures.least, c.loop-q.invariant.least);
      spent = omega (arith, c.tick.ensures, c.in_ok-add_row.ensures.cost, c.loop-q.invariant.spent, more, same);
    }

pub returns-clause-cost : goal.returns-clause-cost
returns-clause-cost g c = let less = sum_by-take-le row_cost c.args.rows.now c.loop-q.q in omega (arith, less, c.loop-q.invariant.spent)

pub loop-q-init : goal.loop-q-init
loop-q-init g c = record { long = refl; grown = λ can. grown_none (λ m. flat_map (λ q. found_in c.args.graph.now c.args.lists.now (get_or c.args.rows.now q []) m) (range_with_len (c.args.p + 1) ((c.args.p + 1) - (c.args.p + 1)))) c.args.found.now.items (λ m lt. none_yet (λ q. found_in c.args.graph.now c.args.lists.now (get_or c.args.rows.now q []) m) (c.args.p + 1)); least = omega arith; spent = omega arith }

pub returns-clause-least : goal.returns-clause-least
returns-clause-least g c = omega (arith, c.loop-q-test.false, c.loop-q.invariant.least)
