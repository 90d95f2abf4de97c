-- What is told of the tags, after an event at the first level.
use Rattle.std.proofs.Common.{◌≡◌, ℕ, suc, ◌<◌, ◌≤◌, Bool, true, false, not, ◌&&◌, List, ◌∷◌, Option, Some, None, refl, ap, sym, subst, ◌∙◌, arith, true≢false}
use Rattle.std.specs.Prelude.{nat_eq}
use Rattle.std.proofs.Math.Bool.{and-false}
use Rattle.ppd_ast.specs.declared.plan.BlockKind.{BlockKind}
use Rattle.ppd_ast.specs.declared.plan.BlockKind.TheVariants as block
use Rattle.ppd_ast.specs.declared.plan.Plan.{Plan}
use Rattle.ppd_ast.specs.declared.program.Program.{Program}
use Rattle.ppd_sem.specs.Blocks.{block_kind, postlog_cells}
use Rattle.ppd_model.specs.Intervals.{own, Split}
use Rattle.ppd_model.specs.NearIntervals.{is_in, is_loop}
use Rattle.ppd_model.specs.declared.trace.TracedEvent.{TracedEvent}
use Rattle.ppd_graph.specs.declared.leaf_call.LeafCall.{LeafCall}
use Rattle.ppd_graph.specs.Locals.{begins_leaf, frame_in, receives}
use Rattle.law_flow.specs.Places.Levels.{Level}
use Rattle.law_flow.proofs.Vocabulary.Levels.{put}
use Rattle.law_flow.specs.Places.Leaves.{leaf_of}
use Rattle.law_flow.proofs.Vocabulary.Says.{SaysOr, activations, with_own}
use Rattle.law_flow.proofs.Vocabulary.LoopTells.{IsBefore, IsLoopTold, LeafTold, LoopTells, OwnTold, Takes, here, own_number}
use Rattle.law_flow.proofs.Locals.Cells.Events.{here_event, here_same, loops_event, writes}
use Rattle.law_flow.proofs.Locals.Tells.Same.{cover, tells_same}
use Rattle.law_flow.proofs.Locals.Tells.Tags.{Change, IsEventAt}

-- what would be in a list in which it is not, is not
pub unless_in : (a b : Bool) → (a ≡ true → b ≡ true) → b ≡ false → a ≡ false
unless_in true b h e = absurd (true≢false (sym (h refl) ∙ e))
unless_in false b h e = refl

pub cover_own : (k : BlockKind) (n a : ℕ) → with_own k n ≡ suc a → cover (not (is_loop k)) n ≡ a
cover_own (block.Loop q) n a e = omega (arith, e)
cover_own (block.Function f) n a e = omega (arith, e)
cover_own (block.Process f) n a e = omega (arith, e)

module _ {program : Program} {plan : Plan} {p : ℕ} {y : Split} {l : Level} {ls : List Level} {n : ℕ} {e : TracedEvent}
    {k : Change} {a : ℕ} (g : IsEventAt program plan p y l ls n e k a) where
  -- the levels of the activations below number m
  pub low_told : (b : Bool) (os : List Level) (m : ℕ) → cover b (activations program plan y os) ≡ m → m ≤ a
      → ((i c : ℕ) → i < m → k.received i c ≡ false) → m ≤ k.count_then
      → LoopTells program plan p y k.sizes k.tags b os → LoopTells program plan p y k.sizes_then k.tags_then b os
  low_told b os m top le r most h =
      tells_same program plan p y k.sizes k.sizes_then k.tags k.tags_then b os
      (λ i lt. g.tagged.sized i (omega (arith, lt, top, le, g.counted)) (omega (arith, lt, top, most)))
      (λ i c lt. g.tagged.keeps i c (g.low_writes i c (omega (arith, lt, top, le))) (r i c (omega (arith, lt, top)))
      (omega (arith, lt, top, le, g.counted)) (omega (arith, lt, top, most))) h

  -- the level's own cells
  own_told : ((c : ℕ) → receives program 0 c e.event (leaf_of program plan y l) ≡ k.received a c) → a < k.count_then
      → OwnTold program plan p y k.sizes k.tags l ls a
      → OwnTold program plan p y k.sizes_then k.tags_then (put (own n) l) ls a
  own_told r lt h c less =
      here_event program plan p y n l e g.there g.whole g.placed 0 c (k.tags_then a c)
      (IsBefore program plan p y l.block (block_kind plan l.block) ls c (k.tags_then a c))
      (λ w. g.tagged.writes a c (g.own_writes c ∙ w) less)
      (λ w b. absurd (true≢false (sym b ∙ and-false (begins_leaf program plan e.event))))
      (λ w b q. g.tagged.receives a c (sym (r c) ∙ q) less)
      (λ w b q.
      subst (λ t. SaysOr y p (here program plan p y l 0 c) t
      (IsBefore program plan p y l.block (block_kind plan l.block) ls c t))
      (sym (g.tagged.keeps a c (g.own_writes c ∙ w) (sym (r c) ∙ q) (omega (arith, g.counted)) lt))
      (h c (subst (λ i. c < i) (g.tagged.sized a (omega (arith, g.counted)) lt) less)))

  no_receipt : (c : ℕ) (o : Option LeafCall) → receives program 1 c e.event o ≡ false
  no_receipt c None = refl
  no_receipt c (Some call) = refl

  -- an activation without an interval goes on
  leaf_told : begins_leaf program plan e.event ≡ false → ((c : ℕ) → k.received (suc a) c ≡ false) → suc a < k.count
      → suc a < k.count_then → LeafTold program plan p y k.sizes k.tags l (suc a)
      → LeafTold program plan p y k.sizes_then k.tags_then (put (own n) l) (suc a)
  leaf_told begins r lt lt' h c less =
      here_event program plan p y n l e g.there g.whole g.placed 1 c (k.tags_then (suc a) c) ⊥
      (λ w. g.tagged.writes (suc a) c (g.leaf_writes c ∙ w) less)
      (λ w b. absurd (true≢false (sym b ∙ ap (λ z. z && nat_eq 1 1) begins)))
      (λ w b q. absurd (true≢false (sym q ∙ no_receipt c (leaf_of program plan y l))))
      (λ w b q. subst (λ t. SaysOr y p (here program plan p y l 1 c) t ⊥)
      (sym (g.tagged.keeps (suc a) c (g.leaf_writes c ∙ w) (r c) lt lt'))
      (h c (subst (λ i. c < i) (g.tagged.sized (suc a) lt lt') less)))

  -- one begins
  leaf_new : begins_leaf program plan e.event ≡ true → ((c : ℕ) → k.received (suc a) c ≡ false) → k.count ≤ suc a
      → LeafTold program plan p y k.sizes_then k.tags_then (put (own n) l) (suc a)
  leaf_new begins r le c less =
      here_event program plan p y n l e g.there g.whole g.placed 1 c (k.tags_then (suc a) c) ⊥
      (λ w. g.tagged.writes (suc a) c (g.leaf_writes c ∙ w) less)
      (λ w b. g.tagged.begins (suc a) c (g.leaf_writes c ∙ w) (r c) le)
      (λ w b q. absurd (true≢false (sym (ap (λ z. z && nat_eq 1 1) begins) ∙ b)))
      (λ w b q. absurd (true≢false (sym (ap (λ z. z && nat_eq 1 1) begins) ∙ b)))

  -- a loop's level
  pub loop_event : ((c : ℕ) → writes 0 c e.event ≡ true → is_in c (postlog_cells plan l.block) ≡ true)
      → ((c : ℕ) → receives program 0 c e.event (leaf_of program plan y l) ≡ true
      → is_in c (postlog_cells plan l.block) ≡ true)
      → ((call : LeafCall) → leaf_of program plan y (put (own n) l) ≡ Some call
      → Takes program plan l.block call.stmt)
      → IsLoopTold program plan p y l ls → IsLoopTold program plan p y (put (own n) l) ls
  loop_event w r leaf h = record {
    no_loops = λ c. loops_event program plan p y n l e g.there g.whole g.placed 0 c (h.no_loops c);
    kept = λ c out.
        here_same program plan p y n l e g.there g.whole g.placed 0 c
        (unless_in (writes 0 c e.event) (is_in c (postlog_cells plan l.block)) (w c) out)
        (and-false (begins_leaf program plan e.event))
        (unless_in (receives program 0 c e.event (leaf_of program plan y l)) (is_in c (postlog_cells plan l.block))
        (r c) out)
        ∙ h.kept c out;
    leaf_in = leaf;
    apart = h.apart;
    framed = h.framed;
    listed = h.listed;
  }

  -- with the event the first level tells; the leaf's cells are given
  pub put_told : ((c : ℕ) → receives program 0 c e.event (leaf_of program plan y l) ≡ k.received a c)
      → ((i c : ℕ) → i < a → k.received i c ≡ false) → a < k.count_then
      → LoopTells program plan p y k.sizes k.tags true (l ∷ ls)
      → ((call : LeafCall) → leaf_of program plan y (put (own n) l) ≡ Some call
      → LeafTold program plan p y k.sizes_then k.tags_then (put (own n) l) (suc a))
      → (is_loop (block_kind plan l.block) ≡ true → IsLoopTold program plan p y (put (own n) l) ls)
      → LoopTells program plan p y k.sizes_then k.tags_then true (put (own n) l ∷ ls)
  put_told r r_low lt h leaf loop = (
    record {
      own_cells = λ free.
          subst (λ m. OwnTold program plan p y k.sizes_then k.tags_then (put (own n) l) ls m) (sym number)
          (own_told r lt (subst (λ m. OwnTold program plan p y k.sizes k.tags l ls m) number (h.0.own_cells refl)));
      leaf_cells = λ told call is.
          subst (λ m. LeafTold program plan p y k.sizes_then k.tags_then (put (own n) l) m) (sym g.base) (leaf call is);
      loop = loop;
      called = h.0.called;
      counted = h.0.counted;
    },
    low_told (not (is_loop (block_kind plan l.block))) ls a
        (cover_own (block_kind plan l.block) (activations program plan y ls) a g.base) (omega arith) r_low
        (omega (arith, lt)) h.1,
  )
    where
      number : own_number program plan y l ls ≡ a
      number = omega (arith, g.base)

  -- the cells of an activation without an interval that goes on, or begins
  pub leaf_goes : begins_leaf program plan e.event ≡ false
      → leaf_of program plan y (put (own n) l) ≡ leaf_of program plan y l → ((c : ℕ) → k.received (suc a) c ≡ false)
      → k.count_then ≡ k.count → LoopTells program plan p y k.sizes k.tags true (l ∷ ls) → (call : LeafCall)
      → leaf_of program plan y (put (own n) l) ≡ Some call
      → LeafTold program plan p y k.sizes_then k.tags_then (put (own n) l) (suc a)
  leaf_goes begins same r frames h call is =
      let was : leaf_of program plan y l ≡ Some call = sym same ∙ is in
      let one : frame_in (leaf_of program plan y l) ≡ 1 = ap frame_in was in
      leaf_told begins r (omega (arith, g.counted, one)) (omega (arith, g.counted, one, frames))
      (subst (λ m. LeafTold program plan p y k.sizes k.tags l m) g.base (h.0.leaf_cells refl call was))

  pub leaf_starts : begins_leaf program plan e.event ≡ true → leaf_of program plan y l ≡ None
      → ((c : ℕ) → k.received (suc a) c ≡ false)
      → LeafTold program plan p y k.sizes_then k.tags_then (put (own n) l) (suc a)
  leaf_starts begins none r =
      let zero_frame : frame_in (leaf_of program plan y l) ≡ 0 = ap frame_in none in
      leaf_new begins r (omega (arith, g.counted, zero_frame))
