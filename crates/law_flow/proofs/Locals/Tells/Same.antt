-- What is told of the tags holds on where nothing changes.
use Rattle.std.proofs.Common.{◌≡◌, ℕ, ◌+◌, ◌-◌, ◌<◌, ◌||◌, Bool, true, false, not, List, [], ◌∷◌, Option, Some, None, ap, sym, subst, arith, true≢false}
use Rattle.std.specs.Prelude.{is_some}
use Rattle.ppd_ast.specs.declared.plan.BlockKind.{BlockKind}
use Rattle.ppd_ast.specs.declared.plan.BlockKind.TheVariants as block
use Rattle.ppd_ast.specs.declared.plan.Plan.{Plan}
use Rattle.ppd_ast.specs.declared.program.Program.{Program}
use Rattle.ppd_sem.specs.Blocks.{block_kind}
use Rattle.ppd_model.specs.FullTrace.{Tag}
use Rattle.ppd_model.specs.Intervals.{Split}
use Rattle.ppd_model.specs.NearIntervals.{is_loop}
use Rattle.ppd_graph.specs.declared.leaf_call.LeafCall.{LeafCall}
use Rattle.ppd_graph.specs.Locals.{frame_in}
use Rattle.law_flow.specs.Places.Levels.{Level}
use Rattle.law_flow.specs.Places.Leaves.{leaf_of}
use Rattle.law_flow.proofs.Vocabulary.Says.{SaysOr, activations, with_own}
use Rattle.law_flow.proofs.Vocabulary.LoopTells.{IsBefore, IsTold, LoopTells, here, own_number}

-- the activations that n levels' are told of, where no loop runs directly inside, and where one does
abbrev pub cover : Bool → ℕ → ℕ
cover true n = n
cover false n = n - 1

pub cover_low : (b : Bool) (k : BlockKind) (fr n i : ℕ) → i < cover (not (is_loop k)) n
    → i < cover b (fr + with_own k n)
cover_low true (block.Loop q) fr n i lt = omega (arith, lt)
cover_low true (block.Function f) fr n i lt = omega (arith, lt)
cover_low true (block.Process f) fr n i lt = omega (arith, lt)
cover_low false (block.Loop q) fr n i lt = omega (arith, lt)
cover_low false (block.Function f) fr n i lt = omega (arith, lt)
cover_low false (block.Process f) fr n i lt = omega (arith, lt)

own_low : (b : Bool) (o : Option LeafCall) (w : ℕ) → (b || is_some o) ≡ true → 0 < w
    → w - 1 < cover b (frame_in o + w)
own_low true o w free lt = omega (arith, lt)
own_low false None w free lt = absurd (true≢false (sym free))
own_low false (Some call) w free lt = omega (arith, lt)

leaf_low : (b : Bool) (o : Option LeafCall) (call : LeafCall) (w : ℕ) → b ≡ true → o ≡ Some call
    → w < cover b (frame_in o + w)
leaf_low true o call w told is = let one : frame_in o ≡ 1 = ap frame_in is in omega (arith, one)
leaf_low false o call w told is = absurd (true≢false (sym told))

module _ (program : Program) (plan : Plan) (p : ℕ) (y : Split) where
  pub told_same : (Z Z' : ℕ → ℕ) (T T' : ℕ → ℕ → Tag) (b : Bool) (l : Level) (ls : List Level)
      → ((k : ℕ) → k < cover b (activations program plan y (l ∷ ls)) → Z' k ≡ Z k)
      → ((k c : ℕ) → k < cover b (activations program plan y (l ∷ ls)) → T' k c ≡ T k c)
      → IsTold program plan p y Z T b l ls → IsTold program plan p y Z' T' b l ls
  told_same Z Z' T T' b l ls sizes tags h = record {
    own_cells = λ free c lt.
        let n : ℕ = own_number program plan y l ls in
        let less : n < cover b (activations program plan y (l ∷ ls)) =
        own_low b (leaf_of program plan y l) (with_own (block_kind plan l.block) (activations program plan y ls)) free
        h.counted in
        subst (λ w. SaysOr y p (here program plan p y l 0 c) w
        (IsBefore program plan p y l.block (block_kind plan l.block) ls c w)) (sym (tags n c less))
        (h.own_cells free c (subst (λ m. c < m) (sizes n less) lt));
    leaf_cells = λ told call e c lt.
        let n : ℕ = with_own (block_kind plan l.block) (activations program plan y ls) in
        let less : n < cover b (activations program plan y (l ∷ ls)) =
        leaf_low b (leaf_of program plan y l) call n told e in
        subst (λ w. SaysOr y p (here program plan p y l 1 c) w ⊥) (sym (tags n c less))
        (h.leaf_cells told call e c (subst (λ m. c < m) (sizes n less) lt));
    loop = h.loop;
    called = h.called;
    counted = h.counted;
  }

  pub tells_same : (Z Z' : ℕ → ℕ) (T T' : ℕ → ℕ → Tag) (b : Bool) (ls : List Level)
      → ((k : ℕ) → k < cover b (activations program plan y ls) → Z' k ≡ Z k)
      → ((k c : ℕ) → k < cover b (activations program plan y ls) → T' k c ≡ T k c)
      → LoopTells program plan p y Z T b ls → LoopTells program plan p y Z' T' b ls
  tells_same Z Z' T T' b [] sizes tags h = tt
  tells_same Z Z' T T' b (l ∷ ls) sizes tags h = (
    told_same Z Z' T T' b l ls sizes tags h.0,
    tells_same Z Z' T T' (not (is_loop (block_kind plan l.block))) ls
        (λ i lt. sizes i (cover_low b (block_kind plan l.block) (frame_in (leaf_of program plan y l))
        (activations program plan y ls) i lt))
        (λ i c lt. tags i c (cover_low b (block_kind plan l.block) (frame_in (leaf_of program plan y l))
        (activations program plan y ls) i lt)) h.1,
  )
