use Rattle.std.proofs.Common.{◌≡◌, drop}
use Rattle.ppd_model.specs.NearIntervals.{is_in}
use Rattle.ppd_flow_local.proofs.scan.has_cell.Given as goal

abbrev pub invariant-loop-found : goal.invariant-loop-found
invariant-loop-found l = is_in l.cell (drop l.found-index l.cells) ≡ is_in l.cell l.cells
