use Rattle.std.proofs.Common.{arith, ap, ◌≡◌, ◌≤◌, Some}
use Rattle.ppd_check_names.proofs.Declared.Costs.{left_filled}
use Rattle.ppd_ast.specs.declared.limits.TheConstants.{MOST_SHARED_CELLS}
use Rattle.ppd_check_names.specs.declared.globals.Globals.{Globals}
use Rattle.ppd_check_names.specs.Frames.{after_cells}
use Rattle.ppd_check_names.proofs.globals.add_numbered.Goals as goal

pub returns-then-from-le-MOST_SHARED_CELLS-clause-cost : goal.returns-then-from-le-MOST_SHARED_CELLS-clause-cost
returns-then-from-le-MOST_SHARED_CELLS-clause-cost g c =
    let h : Globals = record c.place_shared.new.globals { starts = c.push_zeros.new.starts } in
    let cells : c.place_shared.new.globals.cells ≡ after_cells c.args.globals.now.cells (Some c.as_short-length.result) = ap (λ (x : Globals). x.cells) c.in_ok-place_shared-in-Array.ensures.globals in
    let few : c.place_shared.new.globals.cells ≤ MOST_SHARED_CELLS = omega arith in
    omega (arith, c.place_shared.ensures.cost, c.push_zeros.ensures.cost, left_filled c.args.globals.now h c.as_short-length.result cells few)

pub alloc-alloc-requires : goal.alloc-alloc-requires
alloc-alloc-requires c = omega arith

pub from-requires : goal.from-requires
from-requires c = omega arith

pub next_channel-next-requires : goal.next_channel-next-requires
next_channel-next-requires c = omega arith

pub next_semaphore-next-requires : goal.next_semaphore-next-requires
next_semaphore-next-requires c = omega arith
