use Rattle.std.proofs.Common.{arith}
use Rattle.std.proofs.lemmas.Grind.{elements}
use Rattle.ppd_check_names.proofs.nodes.child_id.Goals as goal

pub offset_bounds-source-id : goal.offset_bounds-source-id
offset_bounds-source-id c = omega arith

pub returns : goal.returns
returns c = grind (arith, elements) steps 250000
