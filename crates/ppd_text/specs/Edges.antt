-- The line of each flowback edge of an item, and of each shared cell with its last value and write.
use Rattle.ppd_ast.specs.Lookups.{body_numbered}
use Rattle.ppd_ast.specs.declared.plan.Plan.{Plan}
use Rattle.ppd_ast.specs.declared.program.Program.{Program}
use Rattle.ppd_ast.specs.declared.program.Var.{Var}
use Rattle.ppd_model.specs.declared.flow.EdgeKind.{EdgeKind}
use Rattle.ppd_model.specs.declared.flow.EdgeKind.TheVariants as edge
use Rattle.ppd_model.specs.declared.flow.FlowEdge.{FlowEdge}
use Rattle.ppd_model.specs.declared.flow.Item.{Item}
use Rattle.ppd_model.specs.declared.flow.Item.TheVariants as item
use Rattle.ppd_model.specs.declared.flow.Origin.{Origin}
use Rattle.ppd_model.specs.declared.flow.Origin.TheVariants as origin
use Rattle.ppd_sem.specs.declared.event.Spot.{Spot}
use Rattle.ppd_text.specs.CellNames.{cell_text, process_name}
use Rattle.ppd_text.specs.Items.{access_text, item_line}
use Rattle.ppd_text.specs.Names.{at_number}
use Rattle.ppd_text.specs.Plans.{block_locals}
use Rattle.std.specs.Fmt.{signed_decimal}
use Rattle.std.specs.List.{flat_map}
use Rattle.std.specs.Prelude.{List, None, Option, Some, [], codes, decimal, ℕ, ℤ, ◌++◌}

-- ---- origins

-- an item by its process, interval and number
abbrev pub origin_text : Program → Origin → List ℕ
origin_text p origin.Initial = codes "initial"
origin_text p origin.Entry = codes "entry"
origin_text p (origin.Item q k j) =
    process_name p q ++ codes " " ++ decimal k ++ codes " " ++ decimal j

-- ---- edges

abbrev pub edge_word : EdgeKind → List ℕ
edge_word edge.Read = codes "read"
edge_word edge.Left = codes "left"
edge_word edge.Returned = codes "returned"
edge_word edge.Sync = codes "sync"
edge_word edge.Control = codes "control"

-- a value after the cell that has it, if it is in one; or nothing
abbrev pub subject_text : Program → List Var → Option Spot → Option ℤ → List ℕ
subject_text p locals spot None = []
subject_text p locals None (Some v) = codes " " ++ signed_decimal v
subject_text p locals (Some spot) (Some v) = access_text (codes " ") p locals (record { spot = spot; value = v })

-- an edge into an item whose local cells are of these variables
abbrev pub edge_line : Program → List Var → FlowEdge → List ℕ
edge_line p locals e =
    edge_word e.kind ++ subject_text p locals e.spot e.value ++ codes " from " ++ origin_text p e.from ++ codes "\n"

-- whose local cells the edges of an item name: those of the body in which its statement stands, or of the body of its
-- block
abbrev pub item_locals : Program → Plan → Item → List Var
item_locals p plan (item.Own e) = at_number (λ s. (body_numbered p s.body).locals) p.stmts e.stmt
item_locals p plan (item.Nested k b values closed) = at_number (λ x. block_locals p x.kind) plan.blocks b

-- the line of item j, then its edges, as `why` writes them
abbrev pub why_text : Program → Plan → (j : ℕ) → Item → List FlowEdge → List ℕ
why_text p plan j i edges = item_line p plan j i ++ flat_map (edge_line p (item_locals p plan i)) edges

-- ---- last values

-- shared cell c with its last value and the write of it
abbrev pub last_line : Program → (c : ℕ) → ℤ × Origin → List ℕ
last_line p c x =
    cell_text p.shared c ++ codes "=" ++ signed_decimal x.0 ++ codes " from " ++ origin_text p x.1 ++ codes "\n"
