-- The last write of a cell, from the items of the interval in which its edge ends.
use Rattle.std.specs.Prelude.{option_map, get_or, []}
use Rattle.std.proofs.Common.{◌≡◌, ℕ, ◌+◌, ℤ, List, Option, Some, None, Result, ap, sym, subst, ◌∙◌}
use Rattle.std.proofs.lemmas.Option.{none-some, same_Some}
use Rattle.ppd_model.specs.declared.entry.Entry.{Entry}
use Rattle.ppd_model.specs.declared.flow.Item.{Item}
use Rattle.ppd_model.specs.declared.flow.Origin.{Origin}
use Rattle.ppd_model.specs.declared.graph.EdgeId.{EdgeId}
use Rattle.ppd_flow_tables.specs.FlowError.{FlowError}
use Rattle.ppd_flow_tables.specs.Past.{Past}
use Rattle.ppd_flow_tables.specs.ByReplays.{AreReplayed, steps_to_replay}
use Rattle.ppd_graph.specs.Ends.{first_edge, sync_item}
use Rattle.ppd_graph.specs.Shared.{greatest_writing, written_or_start}
use Rattle.ppd_flow_shared.specs.declared.last.LastEdge.{LastEdge}
use Rattle.ppd_flow_shared.specs.SharedCells.{IsAnswerTo, IsLastFound, last_edge, seens_in, with_end}
use Rattle.ppd_flow_shared.proofs.SharedFound.{Before, written_from_items}

module _ (past : Past) (c : ℕ) where
  abbrev entries : LastEdge → List Entry
  entries l = get_or past.logs.now.lists l.edge.process []

  -- the last write in this edge, which is there, is found, but for the steps of the interval in which the edge ends
  abbrev IsFrom : Option EdgeId → LastEdge → (n o : ℕ) → Result (ℤ × Origin) FlowError → Type 0
  IsFrom a l n o r =
      IsAnswerTo past (written_or_start past.program.now past.logs.now (seens_in past) c a) n
      (o + steps_to_replay past l.edge.process l.interval) r

  module _ (items : List Item) (j n o : ℕ) (r : Result (ℤ × Origin) FlowError) where
    abbrev Given : LastEdge → Type 0
    Given l =
        AreReplayed past l.edge.process l.interval items
        × (j ≡ sync_item (entries l) l.edge.edge (first_edge (entries l) l.interval) items)
        × Before past l.edge c l.interval j n o r

    from_edge : (a : EdgeId) → Given (with_end past a) → IsFrom (Some a) (with_end past a) n o r
    from_edge a g =
        let l : LastEdge = with_end past a in
        let place = g.1 ∙ ap (sync_item (entries l) a.edge (first_edge (entries l) l.interval)) g.0.1 in
        written_from_items past a c n o r g.0.0 (subst (λ i. Before past a c l.interval i n o r) place g.2)

    from_last : (l : LastEdge) (a : Option EdgeId) → option_map (with_end past) a ≡ Some l → Given l → IsFrom a l n o r
    from_last l None e g = absurd (none-some l e)
    from_last l (Some a) e g =
        let is : with_end past a ≡ l = same_Some (with_end past a) l e in
        subst (λ (m : LastEdge). IsFrom (Some a) m n o r) is
        (from_edge a (subst (λ (m : LastEdge). Given m) (sym is) g))

  pub found_from : (l : LastEdge) (items : List Item) (j n o : ℕ) (r : Result (ℤ × Origin) FlowError)
      → last_edge past c ≡ Some l → AreReplayed past l.edge.process l.interval items
      → j ≡ sync_item (entries l) l.edge.edge (first_edge (entries l) l.interval) items
      → Before past l.edge c l.interval j n o r
      → IsLastFound past c n (o + steps_to_replay past l.edge.process l.interval) r
  found_from l items j n o r e given place g =
      from_last items j n o r l (greatest_writing past.program.now past.logs.now c) e (given, place, g)
