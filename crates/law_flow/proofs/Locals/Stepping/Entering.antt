-- What is told of the tags after a step that is no event, and where a loop is entered.
use Rattle.std.proofs.Common.{◌≡◌, ℕ, ◌+◌, ◌-◌, ◌<◌, Bool, true, false, not, ◌&&◌, ◌||◌, List, [], ◌∷◌, Option, Some, None, refl, ap, sym, subst, ◌∙◌, arith, length, true≢false}
use Rattle.std.specs.Prelude.{slice_get}
use Rattle.std.proofs.lemmas.Option.{none-some}
use Rattle.ppd_ast.specs.declared.plan.BlockKind.TheVariants as block
use Rattle.ppd_ast.specs.declared.plan.Plan.{Plan}
use Rattle.ppd_ast.specs.declared.program.Program.{Program}
use Rattle.ppd_sem.specs.Blocks.{block_kind}
use Rattle.ppd_sem.specs.Described.{frame_of, is_event}
use Rattle.ppd_sem.specs.declared.proc.Proc.{Proc}
use Rattle.ppd_sem.specs.declared.proc.Todo.{Todo}
use Rattle.ppd_model.specs.FullTrace.{Tag}
use Rattle.ppd_model.specs.Intervals.{Span, Split, split_step}
use Rattle.ppd_model.specs.LocalTags.{cells_in, is_in_writes, is_received, local_tag}
use Rattle.ppd_model.specs.NearIntervals.{is_loop}
use Rattle.ppd_model.specs.declared.tracing.Story.{Story}
use Rattle.ppd_model.specs.declared.tracing.Taken.{Taken}
use Rattle.ppd_graph.specs.declared.leaf_call.LeafCall.{LeafCall}
use Rattle.ppd_graph.specs.Locals.{frame_in}
use Rattle.law_flow.specs.Places.Levels.{Level}
use Rattle.law_flow.specs.Places.Leaves.{leaf_of}
use Rattle.ppd_ast.specs.declared.plan.BlockKind.{BlockKind}
use Rattle.ppd_sem.specs.Tables.{block_of}
use Rattle.law_flow.proofs.Vocabulary.Says.{IsUnwritten, activations, with_own}
use Rattle.law_flow.proofs.Vocabulary.LoopTells.{IsBefore, IsCalledIn, IsOutside, IsTold, LeafTold, LoopTells, OwnTold, here, own_number}
use Rattle.law_flow.proofs.Locals.Cells.Intervals.{says_then}
use Rattle.law_flow.proofs.Locals.Stepping.FirstLevel.{IsFirst, TellsThen}
use Rattle.law_flow.proofs.Locals.Tells.Same.{cover, tells_same}
use Rattle.law_flow.proofs.Locals.Tells.Tags.{TellsOf}

module _ {program : Program} {plan : Plan} {story : Story} {p : ℕ} {y x : Split} {taken : Taken} {l : Level}
    {ls : List Level} {h : Todo} (m : IsFirst program plan story p y x taken l ls h) where
  abbrev next : Split
  next = split_step program plan story p x taken

  abbrev s : Proc
  s = x.trace.proc

  -- where nothing is an event
  quiet_at : (b : Bool) → is_event taken.need ≡ false → length next.trace.proc.frames ≡ length s.frames
      → LoopTells program plan p y (cells_in s.frames) (local_tag x.trace.activations) b (l ∷ ls)
      → LoopTells program plan p y (cells_in next.trace.proc.frames) (local_tag next.trace.activations) b (l ∷ ls)
  quiet_at b none same t =
      tells_same program plan p y (cells_in s.frames) (cells_in next.trace.proc.frames)
      (local_tag x.trace.activations) (local_tag next.trace.activations) b (l ∷ ls)
      (λ k lt. let low = below b k lt in m.tags.same_cells k (omega (arith, low, m.frames_are)) (omega (arith, low, m.frames_are, same)))
      (λ k c lt. let low = below b k lt in m.tags.kept k c
      (ap (λ b. b && (is_in_writes program plan s taken k c || is_received program s k c s.todo)) none)
      (omega (arith, low, m.frames_are)) (omega (arith, low, m.frames_are, same))) t
    where
      below : (b : Bool) (k : ℕ) → k < cover b (activations program plan y (l ∷ ls))
          → k < frame_in (leaf_of program plan y l) + with_own (block_kind plan l.block) (activations program plan y ls)
      below true k lt = lt
      below false k lt = omega (arith, lt)

  pub quiet : is_event taken.need ≡ false → length next.trace.proc.frames ≡ length s.frames
      → TellsOf program plan p y x.trace (l ∷ ls) → TellsThen program plan story p y x taken (l ∷ ls)
  quiet none same t = quiet_at true none same t

  -- a loop is entered
  module _ (k b : ℕ) (q : ℕ) (loop : block_kind plan b ≡ block.Loop q)
      (found : block_of plan (block.Loop q) ≡ Some b) (none : is_event taken.need ≡ false)
      (same : length next.trace.proc.frames ≡ length s.frames)
      (free : leaf_of program plan y l ≡ None → is_loop (block_kind plan l.block) ≡ false)
      (framed : (i : Span) → slice_get y.spans k ≡ Some i → i.frame ≡ frame_of program plan s)
      (t : TellsOf program plan p y x.trace (l ∷ ls)) where
    abbrev new : Level
    new = record { interval = k; block = b; parts = [] }

    kept : TellsThen program plan story p y x taken (l ∷ ls)
    kept = quiet_at true none same t

    unwritten_from : (kind : BlockKind) → is_loop kind ≡ false → (c : ℕ) (w : Tag)
        → IsBefore program plan p y l.block kind ls c w → IsUnwritten plan p y l.block ls kind c w
    unwritten_from (block.Loop q) isnt c w u = absurd (true≢false isnt)
    unwritten_from (block.Function f) isnt c w u = u
    unwritten_from (block.Process f) isnt c w u = u

    outside : (o : Option LeafCall) → leaf_of program plan y l ≡ o → (n : ℕ)
        → frame_in o + with_own (block_kind plan l.block) (activations program plan y ls) - 1 ≡ n
        → (c : ℕ) → c < cells_in next.trace.proc.frames n
        → IsOutside program plan p y l ls o c (local_tag next.trace.activations n c)
    outside None leaf n number c lt =
        let same_number : own_number program plan y l ls ≡ n = omega (arith, number) in
        let w : Tag = local_tag next.trace.activations n c in
        says_then y p (here program plan p y l 0 c) w
        (IsBefore program plan p y l.block (block_kind plan l.block) ls c w)
        (IsUnwritten plan p y l.block ls (block_kind plan l.block) c w)
        (unwritten_from (block_kind plan l.block) (free leaf) c w)
        (subst (λ j. OwnTold program plan p y (cells_in next.trace.proc.frames) (local_tag next.trace.activations) l ls
        j) same_number (kept.0.own_cells refl) c lt)
    outside (Some call) leaf n number c lt =
        let same_number : with_own (block_kind plan l.block) (activations program plan y ls) ≡ n =
        omega (arith, number) in
        subst (λ j. LeafTold program plan p y (cells_in next.trace.proc.frames) (local_tag next.trace.activations) l
        j) same_number (kept.0.leaf_cells refl call leaf) c lt

    new_number : own_number program plan y new (l ∷ ls)
        ≡ frame_in (leaf_of program plan y l) + with_own (block_kind plan l.block) (activations program plan y ls) - 1
    new_number = ap (λ z. with_own z (activations program plan y (l ∷ ls)) - 1) loop

    new_told : IsTold program plan p y (cells_in next.trace.proc.frames) (local_tag next.trace.activations) true new
        (l ∷ ls)
    new_told = record {
      own_cells = λ z c lt.
          subst (λ j. IsBefore program plan p y b j (l ∷ ls) c
          (local_tag next.trace.activations (own_number program plan y new (l ∷ ls)) c)) (sym loop)
          (outside (leaf_of program plan y l) refl (own_number program plan y new (l ∷ ls)) (sym new_number) c lt);
      leaf_cells = λ z call j. absurd (none-some call j);
      loop = λ z. record {
        no_loops = λ c. refl;
        kept = λ c out. refl;
        leaf_in = λ call j. absurd (none-some call j);
        apart = free;
        framed = λ i there. framed i there ∙ m.frame;
        listed = λ i e. ap (λ j. block_of plan j) (sym e ∙ loop) ∙ found;
      };
      called = subst (λ j. IsCalledIn program plan y j (l ∷ ls)) (sym loop) tt;
      counted =
          let some : with_own (block_kind plan b) (activations program plan y (l ∷ ls))
          ≡ activations program plan y (l ∷ ls) =
          ap (λ j. with_own j (activations program plan y (l ∷ ls))) loop in
          omega (arith, some, m.base);
    }

    pub loop_entered : TellsThen program plan story p y x taken (new ∷ l ∷ ls)
    loop_entered = (
      new_told,
      subst (λ z. LoopTells program plan p y (cells_in next.trace.proc.frames)
          (local_tag next.trace.activations) (not (is_loop z)) (l ∷ ls)) (sym loop) (quiet_at false none same (
            record {
              own_cells = λ z. t.0.own_cells refl;
              leaf_cells = λ z. absurd (true≢false (sym z));
              loop = t.0.loop;
              called = t.0.called;
              counted = t.0.counted;
            },
            t.1,
          )),
    )
