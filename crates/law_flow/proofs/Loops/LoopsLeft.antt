-- The search finds the writers of what each loop left.
use Rattle.law_steps.specs.Policies.{setting_by}
use Rattle.ppd_model.specs.Setting.{setting_of}
use Rattle.law_flow.proofs.Locals.AtSteps.{tagged_at, told_at}
use Rattle.law_flow.proofs.Locals.EachStep.{AtMoment}
use Rattle.law_flow.proofs.Locals.LocalReads.{says_is}
use Rattle.law_flow.proofs.Locals.Moments.{need_is, next_later, running}
use Rattle.law_flow.proofs.Locals.Places.{OuterAt, first_ones, level_from, outer_from}
use Rattle.law_flow.proofs.Locals.Returned.{closing_step, leaving}
use Rattle.law_flow.proofs.Loops.InFrame.{zipped}
use Rattle.law_flow.proofs.Loops.Leaves.{left_in}
use Rattle.law_flow.proofs.Places.Following.{IsFollowed}
use Rattle.law_flow.proofs.Places.LeafTells.{all_whole, followed_at, later_at, split_is, there}
use Rattle.law_flow.proofs.Places.Whole.{AreWhole, LevelAt}
use Rattle.law_flow.proofs.Vocabulary.LoopTells.{IsFramed}
use Rattle.law_flow.proofs.Vocabulary.Says.{activations}
use Rattle.law_flow.specs.Loops.LoopsLeft.{LoopsLeftAreFound}
use Rattle.law_flow.specs.Places.Leaves.{leaf_of}
use Rattle.law_flow.specs.Places.Levels.{IsLater, StandsIn, numbers}
use Rattle.law_flow.proofs.Edges.Near.Tree.{IsTree, has_tree}
use Rattle.ppd_ast.specs.Valid.{IsValid}
use Rattle.ppd_ast.specs.declared.plan.BlockKind.TheVariants as block
use Rattle.ppd_ast.specs.declared.plan.Plan.{Plan}
use Rattle.ppd_ast.specs.declared.plan.Policy.{Policy}
use Rattle.ppd_ast.specs.declared.program.Program.{Program}
use Rattle.ppd_blocks.specs.Blocks.{plan_of}
use Rattle.ppd_graph.specs.Locals.{frame_in, leaf_at, local_origin}
use Rattle.ppd_graph.specs.Own.{frame_at}
use Rattle.ppd_graph.specs.Seen.{seen_of}
use Rattle.ppd_model.proofs.Changes.{some}
use Rattle.ppd_model.proofs.EdgeWords.{part_in}
use Rattle.ppd_model.proofs.Items.{items_whole}
use Rattle.ppd_model.specs.FlowbackEdges.{part_at}
use Rattle.ppd_model.specs.FullTrace.{Tag, top_tags}
use Rattle.ppd_model.specs.Intervals.{Part, Span, Split, nested, ref, split_of, split_step, splits}
use Rattle.ppd_model.specs.Items.{HasWholeItems}
use Rattle.ppd_model.specs.LocalTags.{HasTags}
use Rattle.ppd_model.specs.Marks.{closed}
use Rattle.ppd_model.specs.Story.{story}
use Rattle.ppd_model.specs.declared.flow.Origin.TheVariants as origin
use Rattle.ppd_model.specs.declared.tracing.Story.{Story}
use Rattle.ppd_model.specs.declared.tracing.Taken.{Taken}
use Rattle.ppd_sem.specs.Blocks.{block_kind, postlog_cells}
use Rattle.ppd_sem.specs.Process.{need_of}
use Rattle.ppd_sem.specs.declared.proc.Need.TheVariants as need
use Rattle.std.proofs.Common.{List, None, Option, Some, [], ap, ap₂, get_or, length, map, refl, subst, sym, true, ℕ, ℤ, ◌++◌, ◌+◌, ◌<◌, ◌∙◌, ◌∷◌, ◌≡◌}
use Rattle.std.proofs.lemmas.Option.{none-some}
use Rattle.std.specs.Option.{option_map_or}
use Rattle.std.specs.Prelude.{is_some, slice_get, zip}

at_end : (xs : List Part) (x : Part) (more : List Part) → slice_get (xs ++ x ∷ more) (length xs) ≡ Some x
at_end [] x more = refl
at_end (z ∷ zs) x more = at_end zs x more

-- where an interval stands in the one outside, in a tree of intervals
span_of : (o : Option Span) (j m : ℕ) → part_in o j ≡ Some (nested m) → (s : Span) × (o ≡ Some s)
    × (slice_get s.parts j ≡ Some (nested m))
span_of None j m e = absurd (none-some (nested m) e)
span_of (Some s) j m e = (s, refl, e)

abbrev first_number : List ℕ → ℕ
first_number [] = 0
first_number (m ∷ ms) = m

-- what is known of an interval of a loop that left values
pub record IsLeftFrom (program : Program) (plan : Plan) (xs : List Split) (y : Split) (p k j : ℕ) (i : Span) : Type 0 where
  pub frame_is : frame_at program plan (seen_of y) k j ≡ i.frame
  pub tag : ℕ → Tag
  pub left_are : i.left ≡ map tag (postlog_cells plan i.block)
  pub found : (n c : ℕ) → slice_get (postlog_cells plan i.block) n ≡ Some c
      → (local_origin program plan (seen_of y) p k (j + 1) (frame_at program plan (seen_of y) k j) c).found
      ≡ option_map_or (ref xs) (tag c) origin.Initial

pub left_from : (program : Program) (policy : Policy) (budget : ℕ) (h : List ℕ) (p k j m n q : ℕ) (y : Split) (i : Span)
    (value : ℤ) → IsValid program
    → slice_get (splits (setting_by program policy budget) (story (setting_by program policy budget) h)) p
    ≡ Some y
    → part_at y k j ≡ Some (nested m) → slice_get y.spans m ≡ Some i → is_some i.closed ≡ true
    → block_kind (plan_of program policy) i.block ≡ block.Loop q → slice_get i.values n ≡ Some value
    → IsLeftFrom program (plan_of program policy)
    (splits (setting_by program policy budget) (story (setting_by program policy budget) h)) y p k j i
left_from program policy budget h p k j m n q y i value v at part there_i is_so kind value_is =
    let plan : Plan = plan_of program policy in
    let s : Story = story (setting_of program plan budget) h in
    let turn = leaving program policy budget h p m y i v at there_i is_so in
    let x : Split = split_of (setting_of program plan budget) s p turn.before in
    let t : Taken = turn.taken in
    let cl = closing_step program policy budget h p m y i v at there_i is_so in
    let whole : AreWhole y = all_whole program policy budget h p y v at in
    let there_is : program.functions + p < length program.bodies = there program policy budget h p y v at in
    let runs : x.trace.proc.status ≡ None =
    running program policy budget h p y v at turn.before t turn.after turn.steps_are
    (λ n. is_some (closed program plan x.trace.proc n)) refl cl.closes in
    let mine : t.need ≡ need_of program plan x.trace.proc =
    need_is program policy budget h p y v at turn.before t turn.after turn.steps_are in
    let later : IsLater x y = later_at program policy budget h p y v at turn.before (t ∷ turn.after) turn.steps_are in
    let tagged : HasTags x.trace =
    tagged_at program policy budget h p y v at turn.before t turn.after turn.steps_are in
    let next : IsLater (split_step program plan s p x t) y =
    next_later program policy budget h p y v at turn.before t turn.after turn.steps_are in
    let f : IsFollowed program policy v s p y whole x (cl.level ∷ cl.others) =
    subst (IsFollowed program policy v s p y whole x) cl.levels_are
    (followed_at program policy budget h p y v at turn.before (t ∷ turn.after) turn.steps_are) in
    let told_l : AtMoment program policy v s p y whole there_is x (cl.level ∷ cl.others) =
    subst (AtMoment program policy v s p y whole there_is x) cl.levels_are
    (told_at program policy budget h p y v at turn.before t turn.after turn.steps_are runs) in
    let there_l : slice_get y.spans cl.level.interval ≡ Some i =
    ap (slice_get y.spans) (sym cl.number) ∙ there_i in
    let got = left_in program policy v s p y whole there_is x t mine next later runs tagged cl.level q
    (ap (block_kind plan) (sym cl.block_is) ∙ kind) cl.others f told_l i there_l n value value_is cl.closes in
    let just = got.3.just in
    let stands : StandsIn x (cl.level ∷ just.outer ∷ just.others) =
    subst (λ ms. StandsIn x (cl.level ∷ ms)) just.levels_are f.stands in
    let out : OuterAt y cl.level.interval just.outer =
    outer_from x y (length x.spans) [] cl.level just.outer just.others stands.levels later in
    let at_l : LevelAt y cl.level (numbers (just.outer ∷ just.others)) =
    level_from x y (length x.spans) [] cl.level (just.outer ∷ just.others) stands.levels later in
    let at_o : LevelAt y just.outer (numbers just.others) =
    level_from x y cl.level.interval (nested cl.level.interval ∷ []) just.outer just.others stands.levels.1 later in
    let tree : IsTree y.spans y.running =
    subst (λ (z : Split). IsTree z.spans z.running) (split_is (setting_of program plan budget) h p y at)
    (has_tree program plan s p budget (get_or s.steps p [])) in
    let span = span_of (slice_get y.spans k) j m part in
    let parent = tree.parent k j m span.0 span.1 span.2 in
    let k_is : k ≡ just.outer.interval =
    ap first_number (sym parent.round_is
    ∙ ap (λ (z : Span). z.round) (some (sym parent.is_there ∙ ap (slice_get y.spans) cl.number ∙ at_l.there))
    ∙ at_l.round_is) in
    let same_span : span.0 ≡ out.span = some (sym span.1 ∙ ap (slice_get y.spans) k_is ∙ out.there) in
    let in_out : slice_get span.0.parts (length just.outer.parts) ≡ Some (nested m) =
    ap (λ (z : Span). slice_get z.parts (length just.outer.parts)) same_span
    ∙ ap (λ ps. slice_get ps (length just.outer.parts)) out.parts_are
    ∙ at_end just.outer.parts (nested cl.level.interval) out.more ∙ ap (λ z. Some (nested z)) (sym cl.number) in
    let j_is : j ≡ length just.outer.parts =
    tree.once k j (length just.outer.parts) m span.0 span.1 span.2 in_out in
    let frame : frame_at program plan (seen_of y) k j ≡ frame_in (leaf_of program plan y just.outer) =
    ap₂ (λ a b. frame_at program plan (seen_of y) a b) k_is j_is
    ∙ ap (λ xs. frame_in (leaf_at program plan xs))
    (first_ones y whole just.outer (numbers just.others) at_o) in
    let items : HasWholeItems (splits (setting_of program plan budget) s) y p = items_whole (setting_of program plan budget) h p y v at in
    record {
      frame_is = frame ∙ sym (subst (IsFramed program plan y i) just.levels_are (got.3.framed i there_l));
      tag = λ d. get_or (top_tags x.trace.activations) d None;
      left_are = cl.left_are ∙ got.3.tags_are
          ∙ ap (λ b. map (λ d. get_or (top_tags x.trace.activations) d None) (postlog_cells plan b)) (sym cl.block_is);
      found = λ e c cell.
          ap (λ z. (local_origin program plan (seen_of y) p k (j + 1) z c).found) frame
          ∙ ap₂ (λ a b. (local_origin program plan (seen_of y) p a (b + 1)
          (frame_in (leaf_of program plan y just.outer)) c).found) k_is j_is
          ∙ says_is (splits (setting_of program plan budget) s) y p
          (local_origin program plan (seen_of y) p just.outer.interval (length just.outer.parts + 1)
          (frame_in (leaf_of program plan y just.outer)) c).found (get_or (top_tags x.trace.activations) c None) items
          (just.says e c (ap (λ b. slice_get (postlog_cells plan b) e) (sym cl.block_is) ∙ cell));
    }

pub lefts_found : LoopsLeftAreFound
lefts_found program policy budget h p k j m n q y i c value w v at part there_i is_so kind tag_at value_is =
    let plan : Plan = plan_of program policy in
    let xs : List Split = splits (setting_of program plan budget) (story (setting_of program plan budget) h) in
    let l : IsLeftFrom program plan xs y p k j i =
    left_from program policy budget h p k j m n q y i value v at part there_i is_so kind value_is in
    let cells = zipped (postlog_cells plan i.block) l.tag n c w
    (ap (λ ts. slice_get (zip (postlog_cells plan i.block) ts) n) (sym l.left_are) ∙ tag_at) in
    l.found n c cells.0 ∙ ap (λ w. option_map_or (ref xs) w origin.Initial) (sym cells.1)
