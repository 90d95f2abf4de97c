use Rattle.std.proofs.Common.{◌∙◌, ◌++◌, [], ap, sym, subst, arith, get_or, length, rules}
use Rattle.std.specs.List.{sum_by}
use Rattle.std.proofs.lemmas.List.{take_all}
use Rattle.std.proofs.lemmas.List.Sums.{sum_by-take-le, sum_by_more}
use Rattle.ppd_ast.specs.Members.{has}
use Rattle.ppd_ast.specs.declared.limits.TheConstants.{MOST_SHARED_CELLS}
use Rattle.ppd_race_found.proofs.Rows.{length_replicated, no_items, none_at}
use Rattle.ppd_race_found.specs.declared.busy.Accessor.{Accessor}
use Rattle.ppd_race_found.specs.declared.busy.Busy.{Busy}
use Rattle.ppd_race.specs.ByCell.{accessor, accessors_from, listed_in, listing_cost, listing_least}
use Rattle.ppd_race_found.specs.Search.{IsOfCells}
use Rattle.ppd_race.proofs.Listed.{edge_listed, edges_listed, reads_listed, writes_listed}
use Rattle.ppd_race.proofs.by_cell.list_by_cell.Goals as goal
use Rattle.std.proofs.lemmas.Grind.{common_steps}

pub loop-place-init : goal.loop-place-init
loop-place-init g c = record {
  long_readers = ap length c.in_ok-no_lists.ensures.none ∙ length_replicated MOST_SHARED_CELLS (no_items Accessor);
  long_writers = ap length c.in_ok-no_lists-2.ensures.none ∙ length_replicated MOST_SHARED_CELLS (no_items Accessor);
  readers = λ k lt. ap (λ lists. get_or lists k [] ++ accessors_from 0 (λ a. has a.reads k) c.args.own.now) c.in_ok-no_lists.ensures.none ∙ ap (λ list. list ++ accessors_from 0 (λ a. has a.reads k) c.args.own.now) (none_at MOST_SHARED_CELLS k);
  writers = λ k lt. ap (λ lists. get_or lists k [] ++ accessors_from 0 (λ a. has a.writes k) c.args.own.now) c.in_ok-no_lists-2.ensures.none ∙ ap (λ list. list ++ accessors_from 0 (λ a. has a.writes k) c.args.own.now) (none_at MOST_SHARED_CELLS k);
  least = omega (arith, c.in_ok-no_lists.ensures.taken, c.in_ok-no_lists-2.ensures.taken);
  spent = omega (arith, c.no_lists.ensures.cost, c.no_lists-2.ensures.cost);
}

pub list_edge-requires : goal.list_edge-requires
list_edge-requires g c = record { below = (subst IsOfCells (sym c.index-own-place.is) (c.requires.cells c.loop-place.place c.index-own-place.result c.loop-place-test.true)).below }

pub loop-place-preserved : goal.loop-place-preserved
loop-place-preserved g c =
    let a : Busy = c.index-own-place.result in
    let is : IsOfCells a = subst IsOfCells (sym c.index-own-place.is) (c.requires.cells c.loop-place.place c.index-own-place.result c.loop-place-test.true) in
    let read = c.in_ok-list_edge.ensures.readers is.rises in
    let wrote = c.in_ok-list_edge.ensures.writers is.rises in
    let more = sum_by_more listing_cost c.args.own.now c.loop-place.place c.index-own-place.result c.loop-place-test.true in
    let same = ap listing_cost c.index-own-place.is in
    let more_least = sum_by_more listing_least c.args.own.now c.loop-place.place c.index-own-place.result c.loop-place-test.true in
    let same_least = ap listing_least c.index-own-place.is in
    record {
      long_readers = read.long ∙ c.loop-place.invariant.long_readers;
      long_writers = wrote.long ∙ c.loop-place.invariant.long_writers;
      readers = edge_listed (λ k x. has x.reads k) c.args.own.now c.loop-place.place a c.loop-place.lists.readers.items c.list_edge.new.lists.readers.items (listed_in a.reads a.cells (accessor c.loop-place.place a)) c.loop-place-test.true c.index-own-place.is
          c.loop-place.invariant.long_readers read (λ k. reads_listed a (accessor c.loop-place.place a) k (is.all k)) c.loop-place.invariant.readers;
      writers = edge_listed (λ k x. has x.writes k) c.args.own.now c.loop-place.place a c.loop-place.lists.writers.items c.list_edge.new.lists.writers.items (listed_in a.writes a.cells (accessor c.loop-place.place a)) c.loop-place-test.true c.index-own-place.is
          c.loop-place.invariant.long_writers wrote (λ k. writes_listed a (accessor c.loop-place.place a) k (is.all k)) c.loop-place.invariant.writers;
      least = omega (arith, more_least, same_least, c.tick.ensures, c.in_ok-list_edge.ensures.least, c.loop-place.invariant.least);
      spent = omega (arith, more, same, c.tick.ensures, c.in_ok-list_edge.ensures.cost, c.loop-place.invariant.spent);
    }

pub returns-clause-lists : goal.returns-clause-lists
returns-clause-lists g c = record {
  long_readers = c.loop-place.invariant.long_readers;
  long_writers = c.loop-place.invariant.long_writers;
  readers = edges_listed (λ k x. has x.reads k) c.args.own.now c.loop-place.place c.loop-place.lists.readers.items c.loop-place-test.false c.loop-place.invariant.readers;
  writers = edges_listed (λ k x. has x.writes k) c.args.own.now c.loop-place.place c.loop-place.lists.writers.items c.loop-place-test.false c.loop-place.invariant.writers;
}

pub returns-clause-cost : goal.returns-clause-cost
returns-clause-cost g c = let less = sum_by-take-le listing_cost c.args.own.now c.loop-place.place in omega (arith, less, c.loop-place.invariant.spent)

pub returns-clause-least : goal.returns-clause-least
returns-clause-least g c =
    let all = ap (sum_by listing_least) (take_all c.loop-place.place c.args.own.now c.loop-place-test.false) in
    omega (arith, all, c.loop-place.invariant.least)

pub bounds-own-place : goal.bounds-own-place
bounds-own-place c = grind (arith, common_steps) steps 250000

pub branch-no_lists-requires : goal.branch-no_lists-requires
branch-no_lists-requires c = search rules depth 1 fits 30

pub from_residual-requires : goal.from_residual-requires
from_residual-requires c = search rules depth 1 fits 30

pub loop-place-smaller : goal.loop-place-smaller
loop-place-smaller c = grind (arith, common_steps) steps 250000

pub no_lists-requires : goal.no_lists-requires
no_lists-requires c = search rules depth 1 fits 30

pub returns-in_err-no_lists : goal.returns-in_err-no_lists
returns-in_err-no_lists c = search rules depth 1 fits 30

pub returns-in_err-no_lists-2 : goal.returns-in_err-no_lists-2
returns-in_err-no_lists-2 c = grind (arith, common_steps) steps 250000

pub tick-requires : goal.tick-requires
tick-requires c = search rules depth 1 fits 30

pub returns-in_err-list_edge-clause-least : goal.returns-in_err-list_edge-clause-least
returns-in_err-list_edge-clause-least c = grind (arith, common_steps) steps 250000

pub returns-in_err-list_edge-clause-lists : goal.returns-in_err-list_edge-clause-lists
returns-in_err-list_edge-clause-lists c = grind (arith, common_steps) steps 250000
