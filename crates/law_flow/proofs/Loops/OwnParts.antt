-- Of each item what is found within the process is as the model has it.
use Rattle.law_steps.specs.Policies.{setting_by}
use Rattle.ppd_model.specs.Setting.{setting_of}
use Rattle.law_flow.proofs.Control.Whole.{controls_found}
use Rattle.law_flow.proofs.Locals.LocalReads.{all_reads_found}
use Rattle.law_flow.proofs.Locals.OpenSpans.{are_empty}
use Rattle.law_flow.proofs.Locals.Returned.{leaving, left_by_return, returns_found}
use Rattle.law_flow.proofs.Loops.LoopsLeft.{IsLeftFrom, left_from}
use Rattle.law_flow.proofs.Places.LeafTells.{split_is}
use Rattle.law_flow.specs.Loops.AllOwnParts.{AllOwnPartsAreFound}
use Rattle.ppd_ast.specs.Valid.{IsValid}
use Rattle.ppd_ast.specs.declared.plan.BlockKind.{BlockKind}
use Rattle.ppd_ast.specs.declared.plan.BlockKind.TheVariants as block
use Rattle.ppd_ast.specs.declared.plan.Plan.{Plan}
use Rattle.ppd_ast.specs.declared.plan.Policy.{Policy}
use Rattle.ppd_ast.specs.declared.program.Program.{Program}
use Rattle.ppd_blocks.specs.Blocks.{plan_of}
use Rattle.ppd_graph.specs.Locals.{local_origin}
use Rattle.ppd_graph.specs.Own.{edges_of_nested, frame_at, left_edges, returned_edges}
use Rattle.ppd_graph.specs.Seen.{seen_of}
use Rattle.ppd_model.specs.FlowbackEdges.{bare_edge, edges_of_nested as model_nested, part_at, result_edges, value_edges}
use Rattle.ppd_model.specs.FullTrace.{Tag, me_in}
use Rattle.ppd_model.specs.Intervals.{Span, Split, nested, ref, split_of, splits}
use Rattle.ppd_model.specs.NearIntervals.{is_loop}
use Rattle.ppd_model.specs.Story.{story}
use Rattle.ppd_model.specs.declared.flow.EdgeKind.TheVariants.{Control, Left, Returned}
use Rattle.ppd_model.specs.declared.flow.FlowEdge.{FlowEdge}
use Rattle.ppd_model.specs.declared.flow.Origin.{Origin}
use Rattle.ppd_model.specs.declared.flow.Origin.TheVariants as origin
use Rattle.ppd_sem.specs.Blocks.{block_kind, postlog_cells}
use Rattle.ppd_sem.specs.declared.event.Spot.TheVariants.{Local}
use Rattle.std.proofs.Common.{Bool, List, None, Some, [], ap, ap₂, false, map, refl, subst, suc, sym, true, ℕ, ℤ, ◌++◌, ◌+◌, ◌∙◌, ◌∷◌, ◌≡◌}
use Rattle.std.proofs.lemmas.Option.{none-some}
use Rattle.std.specs.Option.{option_map_or}
use Rattle.std.specs.Prelude.{get_or, is_some, slice_get}

-- a function's interval that is left has the tag of its return
function_left : (program : Program) (policy : Policy) (budget : ℕ) (h : List ℕ) (p m : ℕ) (y : Split) (i : Span)
    → IsValid program
    → slice_get (splits (setting_by program policy budget) (story (setting_by program policy budget) h)) p
    ≡ Some y
    → slice_get y.spans m ≡ Some i → is_some i.closed ≡ true → is_loop (block_kind (plan_of program policy) i.block) ≡ false
    → (w : Tag) × (i.left ≡ w ∷ [])
function_left program policy budget h p m y i v at there is_so no_loop = (
  Some (me_in p (split_of (setting_by program policy budget) (story (setting_by program policy budget) h) p
      (leaving program policy budget h p m y i v at there is_so).before).trace),
  left_by_return program policy budget h p m y i v at there is_so no_loop,
)

module _ (program : Program) (plan : Plan) (xs : List Split) (y : Split) (p k j : ℕ) where
  no_values : (frame : ℕ) (cells : List ℕ) → (left_edges program plan (seen_of y) p k j frame cells []).found ≡ []
  no_values frame [] = refl
  no_values frame (c ∷ cs) = refl

  no_left : (frame : ℕ) (cells : List ℕ) (left : List Tag)
      → value_edges xs Left (map (λ c. Some (Local frame c)) cells) [] left ≡ []
  no_left frame [] left = refl
  no_left frame (c ∷ cs) left = refl

  left_same : (frame : ℕ) (tag : ℕ → Tag) (cells : List ℕ) (values : List ℤ)
      → ((n c : ℕ) → slice_get cells n ≡ Some c
      → (local_origin program plan (seen_of y) p k (j + 1) frame c).found ≡ option_map_or (ref xs) (tag c) origin.Initial)
      → (left_edges program plan (seen_of y) p k j frame cells values).found
      ≡ value_edges xs Left (map (λ c. Some (Local frame c)) cells) values (map tag cells)
  left_same frame tag [] values h = refl
  left_same frame tag (c ∷ cs) [] h = refl
  left_same frame tag (c ∷ cs) (v ∷ vs) h =
      ap₂ (λ (o : Origin) (es : List FlowEdge). record {
        kind = Left;
        spot = Some (Local frame c);
        value = Some v;
        from = o;
      } ∷ es) (h 0 c refl) (left_same frame tag cs vs (λ n d at. h (suc n) d at))

module _ (program : Program) (policy : Policy) (budget : ℕ) (h : List ℕ) (p k j : ℕ) (y : Split) (v : IsValid program)
    (at : slice_get (splits (setting_by program policy budget) (story (setting_by program policy budget) h)) p
    ≡ Some y) (m : ℕ) (i : Span) (part : part_at y k j ≡ Some (nested m)) (there : slice_get y.spans m ≡ Some i) where
  abbrev plan : Plan
  plan = plan_of program policy

  abbrev xs : List Split
  xs = splits (setting_of program plan budget) (story (setting_of program plan budget) h)

  empty : is_some i.closed ≡ false → i.values ≡ []
  empty = subst (λ (z : Split). (a : ℕ) (b : Span) → slice_get z.spans a ≡ Some b → is_some b.closed ≡ false → b.values ≡ [])
      (split_is (setting_of program plan budget) h p y at)
      (are_empty program plan (story (setting_of program plan budget) h) p budget (get_or (story (setting_of program plan budget) h).steps p [])) m i
      there

  -- with a value it was left
  was_left : (value : ℤ) (values : List ℤ) → i.values ≡ value ∷ values → is_some i.closed ≡ true
  was_left value values is = by (is_some i.closed) refl
    where
      by : (b : Bool) → is_some i.closed ≡ b → is_some i.closed ≡ true
      by true e = e
      by false e = absurd (none-some value (ap (λ vs. slice_get vs 0) (sym (empty e) ∙ is)))

  lefts : (q : ℕ) → block_kind plan i.block ≡ block.Loop q → (values : List ℤ) → i.values ≡ values
      → (left_edges program plan (seen_of y) p k j (frame_at program plan (seen_of y) k j) (postlog_cells plan i.block)
      values).found
      ≡ value_edges xs Left (map (λ c. Some (Local i.frame c)) (postlog_cells plan i.block)) values i.left
  lefts q kind [] is =
      no_values program plan xs y p k j (frame_at program plan (seen_of y) k j) (postlog_cells plan i.block)
      ∙ sym (no_left program plan xs y p k j i.frame (postlog_cells plan i.block) i.left)
  lefts q kind (z ∷ zs) is =
      let l : IsLeftFrom program plan xs y p k j i =
      left_from program policy budget h p k j m 0 q y i z v at part there (was_left z zs is) kind
      (ap (λ vs. slice_get vs 0) is) in
      left_same program plan xs y p k j (frame_at program plan (seen_of y) k j) l.tag (postlog_cells plan i.block)
      (z ∷ zs) l.found
      ∙ ap₂ (λ f ts. value_edges xs Left (map (λ c. Some (Local f c)) (postlog_cells plan i.block)) (z ∷ zs) ts) l.frame_is (sym l.left_are)

  returned : is_loop (block_kind plan i.block) ≡ false → (values : List ℤ) → i.values ≡ values
      → (returned_edges (seen_of y) p m values).found ≡ value_edges xs Returned (None ∷ []) values i.left
  returned isnt [] is = refl
  returned isnt (z ∷ zs) is =
      let is_so : is_some i.closed ≡ true = was_left z zs is in
      let w = function_left program policy budget h p m y i v at there is_so isnt in
      ap (λ o. record { kind = Returned; spot = None; value = Some z; from = o } ∷ [])
      (returns_found program policy budget h p m y i w.0 v at there is_so isnt (ap (λ ts. slice_get ts 0) w.1))
      ∙ ap (value_edges xs Returned (None ∷ []) (z ∷ zs)) (sym w.1)

  by_kind : (kind : BlockKind) → block_kind plan i.block ≡ kind
      → (edges_of_nested program plan (seen_of y) p k j m i.block i.values kind).found
      ≡ result_edges plan xs kind i ++ bare_edge Control (option_map_or (ref xs) i.control origin.Entry) ∷ []
  by_kind (block.Loop q) e =
      ap₂ (λ es o. es ++ bare_edge Control o ∷ []) (lefts q e i.values refl)
      ((controls_found program policy budget h p y v at k j).loop m q i part there e)
  by_kind (block.Function g) e =
      ap₂ (λ es o. es ++ bare_edge Control o ∷ []) (returned (ap is_loop e) i.values refl)
      ((controls_found program policy budget h p y v at k j).function m i part there (ap is_loop e))
  by_kind (block.Process g) e =
      ap₂ (λ es o. es ++ bare_edge Control o ∷ []) (returned (ap is_loop e) i.values refl)
      ((controls_found program policy budget h p y v at k j).function m i part there (ap is_loop e))

  pub nested_found : (edges_of_nested program plan (seen_of y) p k j m i.block i.values (block_kind plan i.block)).found
      ≡ model_nested plan xs i
  nested_found = by_kind (block_kind plan i.block) refl

pub own_parts : AllOwnPartsAreFound
own_parts program policy budget h p k j x v at = record {
  locals = λ n i frame c e a w part traced read local.
      all_reads_found program policy budget h p k j n i x e a w frame c v at part traced read local;
  control = λ n e part traced. (controls_found program policy budget h p x v at k j).event n e part traced;
  inside = λ m i part there. nested_found program policy budget h p k j x v at m i part there;
}
