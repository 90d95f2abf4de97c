use Rattle.std.proofs.Common.{arith, ◌≡◌, ◌∙◌, [], ap, sym, subst, get_or, length, rules}
use Rattle.ppd_race_found.proofs.Rows.{length_replicated, none_at}
use Rattle.ppd_race.specs.Busy.{IsBusyRow}
use Rattle.ppd_race.proofs.Listed.{can_search}
use Rattle.ppd_race.proofs.Over.{is_whole, row_cells}
use Rattle.ppd_race.proofs.Spent.{process_least, process_spent}
use Rattle.ppd_race.proofs.Picked.{process_is}
use Rattle.ppd_race.proofs.search.races_of_process.Goals as goal
use Rattle.ppd_model.proofs.Lists.{get_or_any}
use Rattle.std.proofs.lemmas.Grind.{common_steps}

pub list_by_cell-requires : goal.list_by_cell-requires
list_by_cell-requires g c = record {
  cells = row_cells c.args.graph.now c.args.rows.now c.requires.rows c.args.p c.as_slice-own.result.now c.requires.there (c.as_slice-own.ensures ∙ c.index-rows-p.is ∙ get_or_any c.args.rows.now c.args.p c.index-rows-p.result [] c.requires.there);
}

pub add_later-requires-clause-whole : goal.add_later-requires-clause-whole
add_later-requires-clause-whole g c = is_whole c.as_slice-own.result.now c.in_ok-lists.lists c.in_ok-lists.ensures.lists

pub returns-clause-races : goal.returns-clause-races
returns-clause-races g c = λ rising.
    let graph = c.args.graph.now in
    let rows = c.args.rows.now in
    let own = c.as_slice-own.result.now in
    let own_is : own ≡ get_or rows c.args.p [] = c.as_slice-own.ensures ∙ c.index-rows-p.is ∙ get_or_any rows c.args.p c.index-rows-p.result [] c.requires.there in
    let can = can_search graph c.args.p own c.in_ok-lists.lists rising (subst (IsBusyRow c.args.p (get_or graph.edges c.args.p [])) (sym own_is) (c.requires.rows.row c.args.p c.requires.there)) c.in_ok-lists.ensures.lists in
    let first = c.in_ok-found.ensures.none in
    c.in_ok-races.ensures.races
    ∙ process_is graph own c.in_ok-lists.lists rows c.args.p c.in_ok-found.found.items c.add_later.new.found.items c.in_ok-lists.ensures.lists c.requires.rows c.requires.there own_is
    (ap length first ∙ length_replicated (length own) []) (λ m. ap (λ lists. get_or lists m []) first ∙ none_at (length own) m) (c.in_ok-add_later.ensures.grows can)

pub returns-clause-cost : goal.returns-clause-cost
returns-clause-cost g c =
    let rows = c.args.rows.now in
    let own = c.as_slice-own.result.now in
    let own_is : own ≡ get_or rows c.args.p [] = c.as_slice-own.ensures ∙ c.index-rows-p.is ∙ get_or_any rows c.args.p c.index-rows-p.result [] c.requires.there in
    process_spent c.args.steps.now own (get_or rows c.args.p []) rows c.list_by_cell.new.steps c.no_lists.new.steps c.add_later.new.steps _ c.in_ok-found.found.items c.add_later.new.found.items c.in_ok-races.races own_is
    c.in_ok-found.ensures.none c.in_ok-races.ensures.races c.in_ok-add_later.ensures.long c.in_ok-lists.ensures.cost c.in_ok-found.ensures.cost c.in_ok-add_later.ensures.cost c.in_ok-races.ensures.cost

pub returns-clause-least : goal.returns-clause-least
returns-clause-least g c =
    let listed = c.in_ok-lists.ensures.least in
    let begun = c.in_ok-found.ensures.taken in
    let later = c.in_ok-add_later.ensures.least in
    let joined = c.in_ok-races.ensures.taken in
    process_least c.args.steps.now (length c.as_slice-own.result.now) c.list_by_cell.new.steps c.no_lists.new.steps c.add_later.new.steps _ c.in_ok-found.found.items c.add_later.new.found.items c.in_ok-races.races
    c.in_ok-found.ensures.none c.in_ok-races.ensures.races (omega (arith, listed)) (omega (arith, begun)) (omega (arith, later)) (omega (arith, joined))

pub add_later-requires-clause-few : goal.add_later-requires-clause-few
add_later-requires-clause-few c = search rules depth 1 fits 30

pub add_later-requires-clause-rows : goal.add_later-requires-clause-rows
add_later-requires-clause-rows c = grind (arith, common_steps) steps 250000

pub add_later-requires-clause-there : goal.add_later-requires-clause-there
add_later-requires-clause-there c = grind (arith, common_steps) steps 250000

pub as_slice-own-requires : goal.as_slice-own-requires
as_slice-own-requires c = search rules depth 1 fits 30

pub branch-lists-requires : goal.branch-lists-requires
branch-lists-requires c = search rules depth 1 fits 30

pub joined-requires : goal.joined-requires
joined-requires c = search rules depth 1 fits 30

pub returns-in_err-found : goal.returns-in_err-found
returns-in_err-found c = grind (arith, common_steps) steps 250000

pub returns-in_err-lists : goal.returns-in_err-lists
returns-in_err-lists c = grind (arith, common_steps) steps 250000
