-- An interval that was left: as an item, and with the edges that are found of it, it is the same in a cut as at the end.
use Rattle.law_steps.specs.Policies.{setting_by}
use Rattle.ppd_model.specs.Setting.{setting_of}
use Rattle.law_clean.proofs.CutShared.{IsBegun}
use Rattle.law_clean.proofs.Items.{closed_stays, part_kept, ref_kept}
use Rattle.law_clean.proofs.SpansEarlier.{IsNamed, each_there, spans_named}
use Rattle.law_flow.proofs.Loops.OwnParts.{own_parts}
use Rattle.law_flow.proofs.Places.LeafTells.{split_is}
use Rattle.law_flow.proofs.Edges.Back.Walks.{map_at}
use Rattle.law_flow.proofs.Edges.PartItems.{first_of, item_at, item_if}
use Rattle.law_flow.proofs.Edges.StepEvents.Processes.{Facts, facts}
use Rattle.law_flow.specs.Edges.Assembled.{HasOwnParts}
use Rattle.law_flow.specs.Edges.SharedEdges.{all_seen}
use Rattle.ppd_ast.specs.Valid.{IsValid}
use Rattle.ppd_ast.specs.declared.plan.BlockKind.{BlockKind}
use Rattle.ppd_ast.specs.declared.plan.BlockKind.TheVariants as block
use Rattle.ppd_ast.specs.declared.plan.Plan.{Plan}
use Rattle.ppd_ast.specs.declared.plan.Policy.{Policy}
use Rattle.ppd_ast.specs.declared.program.Program.{Program}
use Rattle.ppd_blocks.specs.Blocks.{plan_of}
use Rattle.ppd_model.specs.declared.entry.Logs.{Logs}
use Rattle.ppd_graph.specs.Found.{edges_if, found_edges}
use Rattle.ppd_graph.specs.Own.{edges_of_nested}
use Rattle.ppd_graph.specs.Seen.{Seen, seen_of}
use Rattle.ppd_model.proofs.EdgeWords.{part_in}
use Rattle.ppd_model.proofs.IntervalWords.{item_of_span}
use Rattle.ppd_model.proofs.Items.{items_whole}
use Rattle.ppd_model.specs.Earlier.{IsEarlier}
use Rattle.ppd_model.specs.FlowbackEdges.{bare_edge, edges_of_nested as model_edges_of_nested, part_at, result_edges, value_edges}
use Rattle.ppd_model.specs.FullTrace.{Tag}
use Rattle.ppd_model.specs.Intervals.{Span, Split, items_of, nested, ref, split_of, splits}
use Rattle.ppd_model.specs.Items.{HasWholeItems}
use Rattle.ppd_model.specs.Logs.{closed_logs}
use Rattle.ppd_model.specs.Schedule.{run}
use Rattle.ppd_model.specs.Story.{story}
use Rattle.ppd_model.specs.World.{World}
use Rattle.ppd_model.specs.declared.flow.EdgeKind.{EdgeKind}
use Rattle.ppd_model.specs.declared.flow.EdgeKind.TheVariants.{Control, Left, Returned}
use Rattle.ppd_model.specs.declared.flow.FlowEdge.{FlowEdge}
use Rattle.ppd_model.specs.declared.flow.Item.{Item}
use Rattle.ppd_model.specs.declared.flow.Item.TheVariants as item
use Rattle.ppd_model.specs.declared.flow.Origin.TheVariants as origin
use Rattle.ppd_sem.specs.Blocks.{block_kind, postlog_cells}
use Rattle.ppd_sem.specs.declared.event.Spot.{Spot}
use Rattle.ppd_sem.specs.declared.event.Spot.TheVariants.{Local}
use Rattle.std.proofs.Common.{List, None, Ok, Option, Some, [], ap, ap₂, length, map, refl, subst, sym, true, ℕ, ℤ, ◌++◌, ◌<◌, ◌∙◌, ◌∷◌, ◌≡◌}
use Rattle.std.proofs.lemmas.Option.{none-some}
use Rattle.std.specs.List.{AllByRecursion as Each}
use Rattle.std.specs.Option.{option_map_or}
use Rattle.std.specs.Prelude.{get_or, is_some, slice_get}

-- the item of an interval inside
pub nested_at : (z : Split) (xs : List Split) (p k j m : ℕ) (i : Span) → HasWholeItems xs z p → part_at z k j ≡ Some (nested m) → slice_get z.spans m ≡ Some i
    → slice_get (get_or (seen_of z).items k []) j ≡ Some (item.Nested m i.block i.values (is_some i.closed))
nested_at z xs p k j m i w place is = by (slice_get z.spans k) refl place
  where
    by : (o : Option Span) → slice_get z.spans k ≡ o → part_in o j ≡ Some (nested m) → slice_get (get_or (seen_of z).items k []) j ≡ Some (item.Nested m i.block i.values (is_some i.closed))
    by None there f = absurd (none-some (nested m) f)
    by (Some o) there f =
        ap (λ l. slice_get l j) (map_at (items_of z) z.spans k o [] there) ∙ item_at z o.parts j (w.whole k o there)
        ∙ ap (item_if z) f ∙ ap (λ s. first_of (item_of_span m s)) is

module _ (program : Program) (policy : Policy) (budget : ℕ) (g rest : List ℕ) (p : ℕ) (v : IsValid program) (x y : Split)
    (at_g : slice_get (splits (setting_by program policy budget) (story (setting_by program policy budget) g)) p ≡ Some x)
    (at : slice_get (splits (setting_by program policy budget) (story (setting_by program policy budget) (g ++ rest))) p ≡ Some y) where
  abbrev plan : Plan
  plan = plan_of program policy

  abbrev now : List Split
  now = splits (setting_of program plan budget) (story (setting_of program plan budget) g)

  abbrev whole : List Split
  whole = splits (setting_of program plan budget) (story (setting_of program plan budget) (g ++ rest))

  -- what names an event that is there by then names it at one place
  kept : (w : Tag) → IsEarlier p (length x.trace.events) w → option_map_or (ref now) w origin.Initial ≡ option_map_or (ref whole) w origin.Initial
  kept None h = refl
  kept (Some id) h =
      ap (λ q. option_map_or (ref now) (Some (record { process = q; number = id.number })) origin.Initial) h.0
      ∙ ref_kept program policy budget g rest p v x y at_g at id.number h.1
      ∙ sym (ap (λ q. option_map_or (ref whole) (Some (record { process = q; number = id.number })) origin.Initial) h.0)

  parents : (w : Tag) → IsEarlier p (length x.trace.events) w → option_map_or (ref now) w origin.Entry ≡ option_map_or (ref whole) w origin.Entry
  parents None h = refl
  parents (Some id) h = kept (Some id) h

  values : (kind : EdgeKind) (ss : List (Option Spot)) (vs : List ℤ) (ws : List Tag) → Each (IsEarlier p (length x.trace.events)) ws → value_edges now kind ss vs ws ≡ value_edges whole kind ss vs ws
  values kind [] vs ws h = refl
  values kind (s ∷ ss) [] ws h = refl
  values kind (s ∷ ss) (u ∷ vs) [] h = refl
  values kind (s ∷ ss) (u ∷ vs) (w ∷ ws) h =
      ap₂ (λ o es. record { kind = kind; spot = s; value = Some u; from = o } ∷ es) (kept w h.0) (values kind ss vs ws h.1)

  results : (kind : BlockKind) (i : Span) → Each (IsEarlier p (length x.trace.events)) i.left → result_edges plan now kind i ≡ result_edges plan whole kind i
  results (block.Loop s) i h = values Left (map (λ c. Some (Local i.frame c)) (postlog_cells plan i.block)) i.values i.left h
  results kind i h = values Returned (None ∷ []) i.values i.left h

  named : (m : ℕ) (i : Span) → slice_get x.spans m ≡ Some i → IsNamed program plan (story (setting_of program plan budget) g) p (length x.trace.events) i
  named m i is =
      each_there (IsNamed program plan (story (setting_of program plan budget) g) p (length x.trace.events)) x.spans m i
      (subst (λ (z : Split). Each (IsNamed program plan (story (setting_of program plan budget) g) p (length z.trace.events)) z.spans) (split_is (setting_of program plan budget) g p x at_g)
      (spans_named program plan (story (setting_of program plan budget) g) p budget (get_or (story (setting_of program plan budget) g).steps p []))) is

  model_same : (m : ℕ) (i : Span) → slice_get x.spans m ≡ Some i → model_edges_of_nested plan now i ≡ model_edges_of_nested plan whole i
  model_same m i is =
      let n = named m i is in
      ap₂ (λ es o. es ++ bare_edge Control o ∷ []) (results (block_kind plan i.block) i n.left) (parents i.control n.control)

  module _ (k j m : ℕ) (i : Span) (place : part_at x k j ≡ Some (nested m)) (is : slice_get x.spans m ≡ Some i) (closed : is_some i.closed ≡ true) where
    is' : slice_get y.spans m ≡ Some i
    is' = closed_stays program policy budget g rest p v x y at_g at m i is closed

    place' : part_at y k j ≡ Some (nested m)
    place' = part_kept program policy budget g rest p v x y at_g at k j (nested m) place

    parts_g : HasOwnParts program plan now x p k j
    parts_g = own_parts program policy budget g p k j x v at_g

    parts : HasOwnParts program plan whole y p k j
    parts = own_parts program policy budget (g ++ rest) p k j y v at

    pub inside_same : (edges_of_nested program plan (seen_of x) p k j m i.block i.values (block_kind plan i.block)).found ≡ (edges_of_nested program plan (seen_of y) p k j m i.block i.values (block_kind plan i.block)).found
    inside_same = parts_g.inside m i place is ∙ model_same m i is ∙ sym (parts.inside m i place' is')

    pub here_is : slice_get (get_or (seen_of x).items k []) j ≡ Some (item.Nested m i.block i.values (is_some i.closed))
    here_is = nested_at x now p k j m i (items_whole (setting_of program plan budget) g p x v at_g) place is

    pub there_is : slice_get (get_or (seen_of y).items k []) j ≡ Some (item.Nested m i.block i.values (is_some i.closed))
    there_is = nested_at y whole p k j m i (items_whole (setting_of program plan budget) (g ++ rest) p y v at) place' is'

-- the edges found of it by what its process has after a beginning of the schedule are those by the whole
pub inside_edges_same : (program : Program) (policy : Policy) (budget : ℕ) (h : List ℕ) (w : World) (v : IsValid program)
    (r : run (setting_by program policy budget) h ≡ Some w) (xs : List Seen) (p k j : ℕ) (y : Split)
    → slice_get (splits (setting_by program policy budget) (story (setting_by program policy budget) h)) p ≡ Some y
    → (b : IsBegun program policy budget h w v r xs p) (m : ℕ) (i : Span) → part_at b.split k j ≡ Some (nested m) → slice_get b.split.spans m ≡ Some i → is_some i.closed ≡ true
    → (found_edges program (plan_of program policy) (closed_logs (setting_by program policy budget) h) xs p k j).found
    ≡ (found_edges program (plan_of program policy) (closed_logs (setting_by program policy budget) h) (all_seen (setting_by program policy budget) h) p k j).found
inside_edges_same program policy budget h w v r xs p k j y at b m i place is closed =
    ap (λ o. (edges_if program plan logs xs p k j o).found) (ap (λ (q : Seen). slice_get (get_or q.items k []) j) b.seen_is ∙ here_is program policy budget b.before b.rest p v b.split y b.there at' k j m i place is closed)
    ∙ ap (λ q. Some (Ok (edges_of_nested program plan q p k j m i.block i.values (block_kind plan i.block)).found)) b.seen_is
    ∙ ap (λ es. Some (Ok es)) (inside_same program policy budget b.before b.rest p v b.split y b.there at' k j m i place is closed)
    ∙ ap (λ q. Some (Ok (edges_of_nested program plan q p k j m i.block i.values (block_kind plan i.block)).found)) (sym fy.seen_is)
    ∙ sym (ap (λ o. (edges_if program plan logs all p k j o).found) (ap (λ (q : Seen). slice_get (get_or q.items k []) j) fy.seen_is ∙ there_is program policy budget b.before b.rest p v b.split y b.there at' k j m i place is closed))
  where
    plan : Plan
    plan = plan_of program policy

    logs : Logs
    logs = closed_logs (setting_by program policy budget) h

    all : List Seen
    all = all_seen (setting_by program policy budget) h

    fy : Facts (setting_by program policy budget) h v p y
    fy = facts (setting_by program policy budget) h v p y at

    at' : slice_get (splits (setting_by program policy budget) (story (setting_by program policy budget) (b.before ++ b.rest))) p ≡ Some y
    at' = subst (λ l. slice_get (splits (setting_by program policy budget) (story (setting_by program policy budget) l)) p ≡ Some y) b.schedule_is at
