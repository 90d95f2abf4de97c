-- What is told of the tags where a loop is left: the two levels become one.
use Rattle.std.proofs.Common.{◌≡◌, ℕ, ◌+◌, ◌-◌, ◌<◌, Bool, true, false, not, ◌&&◌, List, ◌∷◌, Option, Some, None, refl, ap, sym, subst, ◌∙◌, arith, true≢false}
use Rattle.std.specs.Prelude.{is_some, nat_eq, slice_get, get_or, []}
use Rattle.ppd_ast.specs.declared.plan.BlockKind.{BlockKind}
use Rattle.ppd_ast.specs.declared.plan.BlockKind.TheVariants as block
use Rattle.ppd_ast.specs.declared.plan.Plan.{Plan}
use Rattle.ppd_ast.specs.declared.program.Program.{Program}
use Rattle.ppd_sem.specs.Blocks.{block_kind, postlog_cells}
use Rattle.ppd_model.specs.FullTrace.{Tag}
use Rattle.ppd_model.specs.Intervals.{nested, Span, Split}
use Rattle.ppd_model.specs.NearIntervals.{is_in, is_loop}
use Rattle.ppd_graph.specs.declared.leaf_call.LeafCall.{LeafCall}
use Rattle.ppd_graph.specs.Locals.{frame_in}
use Rattle.ppd_graph.specs.Seen.{seen_of}
use Rattle.law_flow.specs.Places.Levels.{Level}
use Rattle.law_flow.proofs.Vocabulary.Levels.{put}
use Rattle.law_flow.specs.Places.Leaves.{items_so_far, leaf_of}
use Rattle.law_flow.proofs.Places.Opening.{leaf_interval}
use Rattle.law_flow.proofs.Vocabulary.Says.{IsUnwritten, SaysOr, activations, with_own}
use Rattle.law_flow.proofs.Vocabulary.LoopTells.{IsBefore, IsLoopTold, IsOutside, IsTold, LeafTold, LoopTells, OwnTold, here, own_number}
use Rattle.law_flow.proofs.Locals.Cells.Intervals.{here_loop, here_past, loops_past, says_both, says_then}

module _ (program : Program) (plan : Plan) (p : ℕ) (y : Split) where
  -- what a level other than a loop's has before its first write
  before_from : (b : ℕ) (k : BlockKind) (outside : List Level) (c : ℕ) (w : Tag)
      → IsUnwritten plan p y b outside k c w → IsBefore program plan p y b k outside c w
  before_from b (block.Loop q) outside c w u = absurd u
  before_from b (block.Function f) outside c w u = u
  before_from b (block.Process f) outside c w u = u

  module _ (Z : ℕ → ℕ) (T : ℕ → ℕ → Tag) (l o : Level) (os : List Level) (q : ℕ)
      (kind : block_kind plan l.block ≡ block.Loop q) (i : Span) (at : slice_get y.spans l.interval ≡ Some i)
      (is_so : is_some i.closed ≡ true) (block_is : i.block ≡ l.block)
      (items : get_or (seen_of y).items l.interval [] ≡ items_so_far y l)
      (h : LoopTells program plan p y Z T true (l ∷ o ∷ os)) where
    abbrev joint : Level
    joint = put (nested l.interval) o

    loop_told : IsLoopTold program plan p y l (o ∷ os)
    loop_told = h.0.loop (ap is_loop kind)

    kind_i : block_kind plan i.block ≡ block.Loop q
    kind_i = ap (block_kind plan) block_is ∙ kind

    outer : IsTold program plan p y Z T false o os
    outer = (subst (λ k. LoopTells program plan p y Z T (not (is_loop k)) (o ∷ os)) kind h.1).0

    same_leaf : leaf_of program plan y joint ≡ leaf_of program plan y o
    same_leaf = leaf_interval program plan p y l.interval o i at

    -- what is found in the loop or before it
    told_at : (n : ℕ) → own_number program plan y l (o ∷ os) ≡ n → (c : ℕ) → c < Z n
        → SaysOr y p (here program plan p y l 0 c) (T n c)
        (IsOutside program plan p y o os (leaf_of program plan y o) c (T n c))
    told_at n is c lt =
        subst (λ k. SaysOr y p (here program plan p y l 0 c) (T n c)
        (IsBefore program plan p y l.block k (o ∷ os) c (T n c))) kind
        (subst (λ m. OwnTold program plan p y Z T l (o ∷ os) m) is (h.0.own_cells refl) c lt)

    number_is : own_number program plan y l (o ∷ os)
        ≡ frame_in (leaf_of program plan y o) + with_own (block_kind plan o.block) (activations program plan y os) - 1
    number_is = ap (λ k. with_own k (activations program plan y (o ∷ os)) - 1) kind

    in_list : (c : ℕ) (b : Bool) → is_in c (postlog_cells plan l.block) ≡ b
        → is_in c (postlog_cells plan i.block) ≡ b
    in_list c b e = ap (λ d. is_in c (postlog_cells plan d)) block_is ∙ e

    -- the activation outside has the cell
    joined : (o1 : Option LeafCall) → leaf_of program plan y o ≡ o1 → (c : ℕ) (w : Tag) (P : Type 0)
        → SaysOr y p (here program plan p y l 0 c) w (SaysOr y p (here program plan p y o (frame_in o1) c) w P)
        → SaysOr y p (here program plan p y joint (frame_in o1) c) w P
    joined o1 e c w P g = by (is_in c (postlog_cells plan l.block)) refl
      where
        one : (b : Bool) → is_in c (postlog_cells plan l.block) ≡ b
            → (nat_eq (frame_in o1) (frame_in (leaf_of program plan y o)) && is_in c (postlog_cells plan i.block)) ≡ b
        one b is = ap (λ z. nat_eq (frame_in o1) (frame_in z) && is_in c (postlog_cells plan i.block)) e
            ∙ same o1 ∙ in_list c b is
          where
            same : (z : Option LeafCall) → (nat_eq (frame_in z) (frame_in z) && is_in c (postlog_cells plan i.block))
                ≡ is_in c (postlog_cells plan i.block)
            same None = refl
            same (Some call) = refl

        by : (b : Bool) → is_in c (postlog_cells plan l.block) ≡ b
            → SaysOr y p (here program plan p y joint (frame_in o1) c) w P
        by true is =
            subst (λ r. SaysOr y p r w P)
            (sym (here_loop program plan p y l.interval o i at is_so (frame_in o1) c q kind_i l refl items
            (loop_told.no_loops c) (one true is)))
            (says_both y p (here program plan p y l 0 c) (here program plan p y o (frame_in o1) c) w P g)
        by false is =
            subst (λ r. SaysOr y p r w P)
            (sym (here_past program plan p y l.interval o i at is_so (frame_in o1) c q kind_i (one false is)))
            (subst (λ r. SaysOr y p r w (SaysOr y p (here program plan p y o (frame_in o1) c) w P))
            (loop_told.kept c is) g)

    -- a cell of the interval's own activation, where another one goes on
    apart_is : (call : LeafCall) → leaf_of program plan y o ≡ Some call → (c : ℕ)
        → (nat_eq 0 (frame_in (leaf_of program plan y o)) && is_in c (postlog_cells plan i.block)) ≡ false
    apart_is call e c = ap (λ z. nat_eq 0 (frame_in z) && is_in c (postlog_cells plan i.block)) e

    own_left : (o1 : Option LeafCall) → leaf_of program plan y o ≡ o1
        → OwnTold program plan p y Z T joint os (own_number program plan y o os)
    own_left None e c lt =
        let zero_frame : frame_in (leaf_of program plan y o) ≡ 0 = ap frame_in e in
        let n : ℕ = own_number program plan y o os in
        joined None e c (T n c) (IsBefore program plan p y o.block (block_kind plan o.block) os c (T n c))
        (says_then y p (here program plan p y l 0 c) (T n c)
        (SaysOr y p (here program plan p y o 0 c) (T n c)
        (IsUnwritten plan p y o.block os (block_kind plan o.block) c (T n c)))
        (SaysOr y p (here program plan p y o 0 c) (T n c)
        (IsBefore program plan p y o.block (block_kind plan o.block) os c (T n c)))
        (says_then y p (here program plan p y o 0 c) (T n c)
        (IsUnwritten plan p y o.block os (block_kind plan o.block) c (T n c))
        (IsBefore program plan p y o.block (block_kind plan o.block) os c (T n c))
        (before_from o.block (block_kind plan o.block) os c (T n c)))
        (subst (λ z. SaysOr y p (here program plan p y l 0 c) (T n c) (IsOutside program plan p y o os z c (T n c))) e
        (told_at n (omega (arith, number_is, zero_frame)) c lt)))
    own_left (Some call) e c lt =
        let n : ℕ = own_number program plan y o os in
        subst (λ r. SaysOr y p r (T n c) (IsBefore program plan p y o.block (block_kind plan o.block) os c (T n c)))
        (sym (here_past program plan p y l.interval o i at is_so 0 c q kind_i (apart_is call e c)))
        (outer.own_cells (ap is_some e) c lt)

    leaf_left : (call : LeafCall) → leaf_of program plan y o ≡ Some call
        → LeafTold program plan p y Z T joint
        (with_own (block_kind plan o.block) (activations program plan y os))
    leaf_left call e c lt =
        let one : frame_in (leaf_of program plan y o) ≡ 1 = ap frame_in e in
        let n : ℕ = with_own (block_kind plan o.block) (activations program plan y os) in
        joined (Some call) e c (T n c) ⊥
        (subst (λ z. SaysOr y p (here program plan p y l 0 c) (T n c) (IsOutside program plan p y o os z c (T n c))) e
        (told_at n (omega (arith, number_is, one)) c lt))

    loop_left : is_loop (block_kind plan o.block) ≡ true → (o1 : Option LeafCall) → leaf_of program plan y o ≡ o1
        → IsLoopTold program plan p y joint os
    loop_left is None e = absurd (true≢false (sym is ∙ loop_told.apart e))
    loop_left is (Some call) e = record {
      no_loops = λ c.
          loops_past program plan p y l.interval o i at is_so 0 c q kind_i (apart_is call e c)
          ∙ (outer.loop is).no_loops c;
      kept = λ c out.
          here_past program plan p y l.interval o i at is_so 0 c q kind_i (apart_is call e c)
          ∙ (outer.loop is).kept c out;
      leaf_in = λ k j. (outer.loop is).leaf_in k (sym same_leaf ∙ j);
      apart = (outer.loop is).apart;
      framed = (outer.loop is).framed;
      listed = (outer.loop is).listed;
    }

    pub joined_told : LoopTells program plan p y Z T true (put (nested l.interval) o ∷ os)
    joined_told = (
      record {
        own_cells = λ free. own_left (leaf_of program plan y o) refl;
        leaf_cells = λ told call e. leaf_left call (sym same_leaf ∙ e);
        loop = λ is. loop_left is (leaf_of program plan y o) refl;
        called = outer.called;
        counted = outer.counted;
      },
      (subst (λ k. LoopTells program plan p y Z T (not (is_loop k)) (o ∷ os)) kind h.1).1,
    )
