-- What is told of the tags where an event leaves a function's level.
use Rattle.std.proofs.Common.{◌≡◌, ℕ, suc, ◌+◌, ◌<◌, true, false, not, List, ◌∷◌, Some, None, refl, sym, subst, ◌∙◌, arith, length}
use Rattle.std.specs.Prelude.{slice_get, is_some}
use Rattle.std.proofs.lemmas.Option.{none-some}
use Rattle.ppd_ast.specs.declared.plan.BlockKind.TheVariants as block
use Rattle.ppd_ast.specs.declared.plan.Plan.{Plan}
use Rattle.ppd_ast.specs.declared.program.Program.{Program}
use Rattle.ppd_sem.specs.Blocks.{block_kind, postlog_cells}
use Rattle.ppd_model.specs.Intervals.{nested, Span, Split}
use Rattle.ppd_model.specs.NearIntervals.{is_in, is_loop}
use Rattle.ppd_model.specs.declared.flow.Origin.TheVariants as origin
use Rattle.ppd_model.specs.declared.trace.TracedEvent.{TracedEvent}
use Rattle.ppd_graph.specs.Locals.{scan}
use Rattle.ppd_graph.specs.Seen.{last_item, seen_of}
use Rattle.law_flow.specs.Places.Levels.{Level}
use Rattle.law_flow.proofs.Vocabulary.Levels.{put}
use Rattle.law_flow.specs.Places.Leaves.{items_so_far, leaf_of}
use Rattle.law_flow.proofs.Places.Opening.{leaf_interval}
use Rattle.law_flow.proofs.Vocabulary.Says.{Says, SaysOr, activations, with_own}
use Rattle.law_flow.proofs.Vocabulary.LoopTells.{IsBefore, LoopTells, OwnTold, here, own_number}
use Rattle.law_flow.proofs.Locals.Cells.Events.{says_item}
use Rattle.law_flow.proofs.Locals.Cells.Intervals.{here_returned, here_unreturned, loops_returned, returned_to}
use Rattle.law_flow.proofs.Locals.Tells.Put.{cover_own, low_told, unless_in}
use Rattle.law_flow.proofs.Locals.Tells.Tags.{Change, IsEventAt}

module _ {program : Program} {plan : Plan} {p : ℕ} {y : Split} {l o : Level} {os : List Level} {n : ℕ} {e : TracedEvent}
    {k : Change} {a : ℕ} (g : IsEventAt program plan p y l (o ∷ os) n e k a) where
  pub back_told : (i : Span) → slice_get y.spans l.interval ≡ Some i → is_some i.closed ≡ true → (f : ℕ)
      → block_kind plan i.block ≡ block.Function f
      → (last_item (seen_of y) p l.interval).found ≡ origin.Item p l.interval (length l.parts)
      → (call : ℕ) → ((j c : ℕ) → (scan program plan j c (items_so_far y o)).call ≡ call)
      → (m : ℕ) → with_own (block_kind plan o.block) (activations program plan y os) ≡ suc m
      → m < a
      → leaf_of program plan y o ≡ None
      → ((c : ℕ) → returned_to program 0 c call i.values ≡ k.received m c)
      → ((c : ℕ) → is_loop (block_kind plan o.block) ≡ true → returned_to program 0 c call i.values ≡ true
      → is_in c (postlog_cells plan o.block) ≡ true)
      → ((j c : ℕ) → j < m → k.received j c ≡ false)
      → k.count_then ≡ m + 1 → LoopTells program plan p y k.sizes k.tags true (o ∷ os)
      → LoopTells program plan p y k.sizes_then k.tags_then true (put (nested l.interval) o ∷ os)
  back_told i at is_so f kind last call call_is m base less none r into r_low frames h = (
    record {
      own_cells = λ free.
          subst (λ j. OwnTold program plan p y k.sizes_then k.tags_then (put (nested l.interval) o) os j) (sym number)
          (λ c small.
          here_returned program plan p y l.interval o i at is_so 0 c f kind call (k.tags_then m c)
          (IsBefore program plan p y o.block (block_kind plan o.block) os c (k.tags_then m c)) (call_is 0 c)
          (λ q. subst (λ t. Says y p (last_item (seen_of y) p l.interval).found t)
          (sym (g.tagged.receives m c (sym (r c) ∙ q) small))
          (says_item y p l.interval (length l.parts) n e g.there g.placed (last_item (seen_of y) p l.interval).found last))
          (λ q.
          subst (λ t. SaysOr y p (here program plan p y o 0 c) t
          (IsBefore program plan p y o.block (block_kind plan o.block) os c t))
          (sym (g.tagged.keeps m c (g.low_writes m c less) (sym (r c) ∙ q) counted then_counted))
          (subst (λ j. OwnTold program plan p y k.sizes k.tags o os j) number (h.0.own_cells refl) c
          (subst (λ j. c < j) (g.tagged.sized m counted then_counted) small))));
      leaf_cells = λ told j q.
          absurd (none-some j (sym (leaf_interval program plan p y l.interval o i at ∙ none) ∙ q));
      loop = λ is. record {
        no_loops = λ c. loops_returned program plan p y l.interval o i at is_so 0 c f kind ((h.0.loop is).no_loops c);
        kept = λ c out.
            here_unreturned program plan p y l.interval o i at is_so 0 c f kind call (call_is 0 c)
            (unless_in (returned_to program 0 c call i.values) (is_in c (postlog_cells plan o.block)) (into c is) out)
            ∙ (h.0.loop is).kept c out;
        leaf_in = λ j q.
            absurd (none-some j (sym (leaf_interval program plan p y l.interval o i at ∙ none) ∙ q));
        apart = (h.0.loop is).apart;
        framed = (h.0.loop is).framed;
        listed = (h.0.loop is).listed;
      };
      called = h.0.called;
      counted = h.0.counted;
    },
    low_told g (not (is_loop (block_kind plan o.block))) os m
        (cover_own (block_kind plan o.block) (activations program plan y os) m base) (omega (arith, less)) r_low
        (omega (arith, frames)) h.1,
  )
    where
      number : own_number program plan y o os ≡ m
      number = omega (arith, base)

      counted : m < k.count
      counted = omega (arith, g.counted, less)

      then_counted : m < k.count_then
      then_counted = omega (arith, frames)
