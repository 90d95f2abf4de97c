use Rattle.std.proofs.Common.{rules, arith}
use Rattle.std.proofs.lemmas.Grind.{common_steps}
use Rattle.std.proofs.lemmas.Result.{err_from_is_err_and}
use Rattle.ppd_clean.proofs.Found.{edges_here, no_edges_here, no_item_here, no_items}
use Rattle.ppd_clean.proofs.cleaning.answered.Goals as goal

pub returns-in_err-items : goal.returns-in_err-items
returns-in_err-items g c =
    let e = err_from_is_err_and c.from_residual.result c.from_residual.ensures.1 in
    rw (e.1, e.2) (no_items c.args.past.now c.args.asked.now c.in_err-items.field-0.0 c.in_err-items.ensures)

pub returns-in_err-item : goal.returns-in_err-item
returns-in_err-item g c =
    let e = err_from_is_err_and c.from_residual-in_err-item.result c.from_residual-in_err-item.ensures.1 in
    rw (e.1, e.2) (no_item_here c.args.past.now c.args.asked.now c.in_ok-items.items c.in_err-item.field-0.0 c.in_ok-items.ensures c.in_err-item.ensures)

pub returns-in_err-edges : goal.returns-in_err-edges
returns-in_err-edges g c =
    let e = err_from_is_err_and c.from_residual-in_err-edges.result c.from_residual-in_err-edges.ensures.1 in
    rw (e.1, e.2) (no_edges_here c.args.past.now c.args.asked.now c.in_ok-items.items c.in_ok-items.ensures c.in_ok-item.item c.in_ok-item.ensures c.in_err-edges.field-0.0 c.in_err-edges.ensures)

pub returns : goal.returns
returns g c = edges_here c.args.past.now c.args.asked.now c.in_ok-items.items c.in_ok-items.ensures c.in_ok-item.item c.in_ok-item.ensures c.in_ok-edges.edges c.in_ok-edges.ensures

pub branch-item-requires : goal.branch-item-requires
branch-item-requires g c = search rules depth 1 fits 30

pub branch-items-requires : goal.branch-items-requires
branch-items-requires g c = search rules depth 1 fits 30

pub clean_item-requires : goal.clean_item-requires
clean_item-requires g c = grind (arith, common_steps) steps 250000

pub edges_of-requires : goal.edges_of-requires
edges_of-requires g c = search rules depth 1 fits 30

pub from_residual-requires : goal.from_residual-requires
from_residual-requires g c = search rules depth 1 fits 30

pub from_residual-requires-in_err-item : goal.from_residual-requires-in_err-item
from_residual-requires-in_err-item g c = search rules depth 1 fits 30

pub items_of-requires : goal.items_of-requires
items_of-requires g c = search rules depth 1 fits 30
