-- The search at the place of a level finds what is told there.
use Rattle.std.proofs.Common.{◌≡◌, ℕ, ◌<◌, Bool, true, false, List, [], ◌∷◌, Option, Some, None, refl, ap, sym, subst, ◌∙◌, length, if◌then◌else◌}
use Rattle.std.specs.Prelude.{take, unwrap_or, get_or}
use Rattle.ppd_ast.specs.declared.plan.BlockKind.{BlockKind}
use Rattle.ppd_ast.specs.declared.plan.BlockKind.TheVariants as block
use Rattle.ppd_ast.specs.declared.plan.Plan.{Plan}
use Rattle.ppd_ast.specs.declared.program.Program.{Program}
use Rattle.ppd_sem.specs.Blocks.{block_kind, prelog_cells}
use Rattle.ppd_model.specs.FullTrace.{Tag}
use Rattle.ppd_model.specs.Intervals.{Part, nested, Span, Split}
use Rattle.ppd_model.specs.NearIntervals.{is_in}
use Rattle.ppd_model.specs.declared.flow.Origin.{Origin}
use Rattle.ppd_model.specs.declared.flow.Origin.TheVariants as origin
use Rattle.ppd_model.proofs.Lists.{get_mapped}
use Rattle.ppd_graph.specs.declared.leaf_call.LeafCall.{LeafCall}
use Rattle.ppd_graph.specs.Locals.{frame_in, leaf_at, local_above, local_in, local_origin, local_outside, outer_frame, parameter, scan}
use Rattle.ppd_graph.specs.Looked.{Looked, known}
use Rattle.ppd_graph.specs.Seen.{call_of, kind_at, outer_of, outer_place, seen_of}
use Rattle.law_flow.specs.Places.Levels.{AreLevels, IsLater, Level, StandsIn, numbers}
use Rattle.law_flow.specs.Places.Leaves.{leaf_of}
use Rattle.law_flow.proofs.Places.Whole.{AreWhole, LevelAt}
use Rattle.law_flow.proofs.Vocabulary.Says.{IsPassed, IsUnwritten, Says, SaysOr, activations, with_own}
use Rattle.law_flow.proofs.Vocabulary.LoopTells.{IsBefore, IsOutside, LoopTells, here, of_scan, own_number}
use Rattle.law_flow.proofs.Locals.Places.{OuterAt, call_is, first_ones, kind_is, level_from, outer_from, outer_is, place_of_is}

-- the number of the activation that goes on at a level
abbrev pub number_at : Program → Plan → Split → Level → List Level → Option LeafCall → ℕ
number_at program plan y l ls None = own_number program plan y l ls
number_at program plan y l ls (Some call) = with_own (block_kind plan l.block) (activations program plan y ls)

module _ (program : Program) (plan : Plan) (p : ℕ) (y : Split) (whole : AreWhole y) where
  here_is : (l : Level) (outside : List ℕ) → LevelAt y l outside → (frame c : ℕ)
      → (local_in program plan (seen_of y) p l.interval (length l.parts) frame c).found ≡ here program plan p y l frame c
  here_is l outside at frame c =
      ap (λ xs. of_scan program plan p y l.interval c (scan program plan frame c xs)) (first_ones y whole l outside at)

  -- ---- what the search finds

  -- the call, where the cell is a parameter of the level's interval; else the start value
  abbrev of_call : Level → Bool → Looked ℕ Origin
  of_call l b = if b then call_of (seen_of y) p l.interval else known origin.Initial

  parameter_is : (l : Level) (outside : List ℕ) → LevelAt y l outside → (c f : ℕ)
      → parameter plan (seen_of y) p l.interval c (block.Function f) ≡ of_call l (is_in c (prelog_cells plan l.block))
  parameter_is l outside at c f =
      ap (λ b. of_call l (is_in c (prelog_cells plan b)))
      (get_mapped (λ (i : Span). i.block) y.spans l.interval 0 at.span at.there ∙ at.block_is)

  -- before the first write in an interval other than a loop's
  unwritten_says : (x : Split) (n : ℕ) (inner : List Part) (l : Level) (ls : List Level)
      → AreLevels x.spans n inner (l ∷ ls) → IsLater x y → (c : ℕ) (w : Tag) (k : BlockKind)
      → IsUnwritten plan p y l.block ls k c w → Says y p (parameter plan (seen_of y) p l.interval c k).found w
  unwritten_says x n inner l ls s h c w (block.Loop q) u = absurd u
  unwritten_says x n inner l ls s h c w (block.Process b) u = subst (Says y p origin.Initial) (sym u) refl
  unwritten_says x n inner l ls s h c w (block.Function f) u =
      subst (λ (a : Looked ℕ Origin). Says y p a.found w) (sym (parameter_is l (numbers ls) (level_from x y n inner l ls s h) c f))
      (by (is_in c (prelog_cells plan l.block)) ls s u)
    where
      by : (b : Bool) (ls : List Level) → AreLevels x.spans n inner (l ∷ ls) → IsPassed y p b ls w
          → Says y p (of_call l b).found w
      by false ls s u = subst (Says y p origin.Initial) (sym u) refl
      by true [] s u = absurd u
      by true (o ∷ os) s u = subst (λ r. Says y p r w) (sym (call_is y whole p l o os (level_from x y n inner l (o ∷ os) s h)
          (outer_from x y n inner l o os s h))) u

  says_or : (o : Option Origin) (w : Tag) (P : Type 0) (otherwise : Origin) → SaysOr y p o w P
      → (P → Says y p otherwise w) → Says y p (unwrap_or o otherwise) w
  says_or None w P otherwise h g = g h
  says_or (Some r) w P otherwise h g = h

  -- at the place of a loop in the interval outside
  outside_says : (x : Split) (n : ℕ) (inner : List Part) (o : Level) (os : List Level)
      → AreLevels x.spans n inner (o ∷ os) → IsLater x y → (c : ℕ) (w : Tag) (leaf : Option LeafCall)
      → IsOutside program plan p y o os leaf c w
      → Says y p (local_outside program plan (seen_of y) p o.interval (length o.parts) (frame_in leaf) c).found w
  outside_says x n inner o os s h c w leaf u =
      let at : LevelAt y o (numbers os) = level_from x y n inner o os s h in
      subst (λ r. Says y p (unwrap_or r (parameter plan (seen_of y) p o.interval c
      (kind_at plan (seen_of y) o.interval)).found) w) (sym (here_is o (numbers os) at (frame_in leaf) c))
      (subst (λ k. Says y p (unwrap_or (here program plan p y o (frame_in leaf) c)
      (parameter plan (seen_of y) p o.interval c k).found) w) (sym (kind_is plan o (numbers os) at)) (by leaf u))
    where
      by : (leaf : Option LeafCall) → IsOutside program plan p y o os leaf c w
          → Says y p (unwrap_or (here program plan p y o (frame_in leaf) c)
          (parameter plan (seen_of y) p o.interval c (block_kind plan o.block)).found) w
      by None u = says_or (here program plan p y o 0 c) w
          (IsUnwritten plan p y o.block os (block_kind plan o.block) c w)
          (parameter plan (seen_of y) p o.interval c (block_kind plan o.block)).found u
          (unwritten_says x n inner o os s h c w (block_kind plan o.block))
      by (Some call) u = says_or (here program plan p y o 1 c) w ⊥
          (parameter plan (seen_of y) p o.interval c (block_kind plan o.block)).found u (λ z. absurd z)

  before_says : (x : Split) (n : ℕ) (inner : List Part) (l : Level) (ls : List Level)
      → AreLevels x.spans n inner (l ∷ ls) → IsLater x y → (c : ℕ) (w : Tag) (k : BlockKind)
      → IsBefore program plan p y l.block k ls c w
      → Says y p (local_above program plan (seen_of y) p l.interval c k).found w
  before_says x n inner l [] s h c w (block.Loop q) u = absurd u
  before_says x n inner l (o ∷ os) s h c w (block.Loop q) u =
      let at : LevelAt y l (numbers (o ∷ os)) = level_from x y n inner l (o ∷ os) s h in
      let out : OuterAt y l.interval o = outer_from x y n inner l o os s h in
      let outer : outer_of (seen_of y) l.interval ≡ o.interval = outer_is l (o ∷ os) at in
      let place : outer_place (seen_of y) l.interval ≡ length o.parts = place_of_is y whole l o os at out in
      let at_o : LevelAt y o (numbers os) = level_from x y l.interval (nested l.interval ∷ []) o os s.1 h in
      let frame : outer_frame program plan (seen_of y) l.interval ≡ frame_in (leaf_of program plan y o) =
      ap (λ j. frame_in (leaf_at program plan (take j (get_or (seen_of y).items (outer_of (seen_of y) l.interval) [])))) place
      ∙ ap (λ k. frame_in (leaf_at program plan (take (length o.parts) (get_or (seen_of y).items k [])))) outer
      ∙ ap (λ xs. frame_in (leaf_at program plan xs)) (first_ones y whole o (numbers os) at_o) in
      subst (λ k. Says y p (local_outside program plan (seen_of y) p k (outer_place (seen_of y) l.interval)
      (outer_frame program plan (seen_of y) l.interval) c).found w) (sym outer)
      (subst (λ j. Says y p (local_outside program plan (seen_of y) p o.interval j
      (outer_frame program plan (seen_of y) l.interval) c).found w) (sym place)
      (subst (λ f. Says y p (local_outside program plan (seen_of y) p o.interval (length o.parts) f c).found w) (sym frame)
      (outside_says x l.interval (nested l.interval ∷ []) o os s.1 h c w (leaf_of program plan y o) u)))
  before_says x n inner l ls s h c w (block.Process b) u =
      unwritten_says x n inner l ls s h c w (block.Process b) u
  before_says x n inner l ls s h c w (block.Function f) u =
      unwritten_says x n inner l ls s h c w (block.Function f) u

  -- at the place of the first level the search finds the tag of its activation's cell
  pub origin_at : (Z : ℕ → ℕ) (T : ℕ → ℕ → Tag) (x : Split) (l : Level) (ls : List Level) → StandsIn x (l ∷ ls)
      → IsLater x y → LoopTells program plan p y Z T true (l ∷ ls) → (o : Option LeafCall)
      → leaf_of program plan y l ≡ o → (c : ℕ) → c < Z (number_at program plan y l ls o)
      → Says y p (local_origin program plan (seen_of y) p l.interval (length l.parts) (frame_in o) c).found
      (T (number_at program plan y l ls o) c)
  origin_at Z T x l ls s h tells o leaf c lt =
      let at : LevelAt y l (numbers ls) = level_from x y (length x.spans) [] l ls s.levels h in
      let w : Tag = T (number_at program plan y l ls o) c in
      subst (λ r. Says y p (unwrap_or r (local_above program plan (seen_of y) p l.interval c
      (kind_at plan (seen_of y) l.interval)).found) w) (sym (here_is l (numbers ls) at (frame_in o) c))
      (subst (λ k. Says y p (unwrap_or (here program plan p y l (frame_in o) c)
      (local_above program plan (seen_of y) p l.interval c k).found) w) (sym (kind_is plan l (numbers ls) at))
      (by o leaf lt))
    where
      by : (o : Option LeafCall) → leaf_of program plan y l ≡ o → c < Z (number_at program plan y l ls o)
          → Says y p (unwrap_or (here program plan p y l (frame_in o) c)
          (local_above program plan (seen_of y) p l.interval c (block_kind plan l.block)).found)
          (T (number_at program plan y l ls o) c)
      by None leaf lt =
          let v : Tag = T (own_number program plan y l ls) c in
          says_or (here program plan p y l 0 c) v
          (IsBefore program plan p y l.block (block_kind plan l.block) ls c v)
          (local_above program plan (seen_of y) p l.interval c (block_kind plan l.block)).found
          (tells.0.own_cells refl c lt)
          (before_says x (length x.spans) [] l ls s.levels h c v (block_kind plan l.block))
      by (Some call) leaf lt =
          says_or (here program plan p y l 1 c)
          (T (with_own (block_kind plan l.block) (activations program plan y ls)) c) ⊥
          (local_above program plan (seen_of y) p l.interval c (block_kind plan l.block)).found
          (tells.0.leaf_cells refl call leaf c lt) (λ u. absurd u)
