-- What a scan in code stands for, whose loops are seen from the last, and how the call whose activation goes on is
-- found without one.
use Rattle.std.specs.Prelude.{ℕ, Option, reverse}
use Rattle.ppd_ast.specs.declared.plan.Plan.{Plan}
use Rattle.ppd_ast.specs.declared.program.Program.{Program}
use Rattle.ppd_model.specs.declared.flow.Item.{Item}
use Rattle.ppd_model.specs.declared.flow.Item.TheVariants as item
use Rattle.ppd_graph.specs.declared.leaf_call.LeafCall.{LeafCall}
use Rattle.ppd_graph.specs.Locals.{Scan, leaf_after}
use Rattle.ppd_flow_local.specs.declared.scan.Scan.{Scan as Kept}

abbrev pub scanned : Kept → Scan
scanned s = record { next = s.next; leaf = s.leaf; call = s.call; writer = s.writer; loops = reverse s.loops }

-- the call whose activation goes on after this item, which has number n
abbrev pub leaf_past : Program → Plan → ℕ → Option LeafCall → Item → Option LeafCall
leaf_past program plan n leaf (item.Own e) = leaf_after program plan n e leaf
leaf_past program plan n leaf (item.Nested m b values closed) = leaf
