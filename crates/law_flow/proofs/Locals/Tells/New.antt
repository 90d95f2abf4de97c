-- What is told of the tags at the level of a function that an event calls.
use Rattle.std.proofs.Common.{◌≡◌, ℕ, suc, ◌+◌, ◌-◌, ◌<◌, ◌≤◌, Bool, true, false, List, [], ◌∷◌, ◌++◌, Some, None, refl, ap, sym, subst, ◌∙◌, arith, length, true≢false}
use Rattle.std.proofs.lemmas.List.{length_push}
use Rattle.std.proofs.lemmas.Option.{none-some}
use Rattle.ppd_ast.specs.declared.plan.BlockKind.TheVariants as block
use Rattle.ppd_ast.specs.declared.plan.Plan.{Plan}
use Rattle.ppd_ast.specs.declared.program.Program.{Program}
use Rattle.ppd_sem.specs.Blocks.{block_kind, prelog_cells}
use Rattle.ppd_model.specs.Intervals.{own, Split}
use Rattle.ppd_model.specs.NearIntervals.{is_in, is_loop}
use Rattle.ppd_model.specs.declared.flow.Origin.TheVariants as origin
use Rattle.ppd_model.specs.declared.trace.TracedEvent.{TracedEvent}
use Rattle.ppd_graph.specs.Locals.{frame_in}
use Rattle.law_flow.specs.Places.Levels.{Level}
use Rattle.law_flow.proofs.Vocabulary.Levels.{put}
use Rattle.law_flow.specs.Places.Leaves.{leaf_of}
use Rattle.law_flow.proofs.Vocabulary.Says.{IsPassed, Says, activations, with_own}
use Rattle.law_flow.proofs.Vocabulary.LoopTells.{IsBefore, IsCalledIn, IsTold, OwnTold, own_number}
use Rattle.law_flow.proofs.Locals.Cells.Events.{says_item, writes}
use Rattle.law_flow.proofs.Locals.Tells.Tags.{Change, IsEventAt}

module _ {program : Program} {plan : Plan} {p : ℕ} {y : Split} {l : Level} {ls : List Level} {n : ℕ} {e : TracedEvent}
    {k : Change} {a : ℕ} (g : IsEventAt program plan p y l ls n e k a) where
  abbrev outside : List Level
  outside = put (own n) l ∷ ls

  abbrev new : ℕ → ℕ → Level
  new i b = record { interval = i; block = b; parts = [] }

  says_call : Says y p (origin.Item p l.interval (length (l.parts ++ own n ∷ []) - 1))
      (Some (record { process = p; number = n }))
  says_call =
      let more : length (l.parts ++ own n ∷ []) ≡ length l.parts + 1 = length_push l.parts (own n) in
      let last : length (l.parts ++ own n ∷ []) - 1 ≡ length l.parts = omega (arith, more) in
      says_item y p l.interval (length l.parts) n e g.there g.placed
      (origin.Item p l.interval (length (l.parts ++ own n ∷ []) - 1)) (ap (λ j. origin.Item p l.interval j) last)

  -- a function's level begins with the call's parameters
  pub level_new : (i b f : ℕ) → block_kind plan b ≡ block.Function f → leaf_of program plan y l ≡ None
      → leaf_of program plan y (put (own n) l) ≡ None → ((c : ℕ) → k.received (suc a) c ≡ false)
      → ((c : ℕ) → is_in c (prelog_cells plan b) ≡ writes 1 c e.event)
      → IsCalledIn program plan y (block.Function f) (put (own n) l ∷ ls)
      → IsTold program plan p y k.sizes_then k.tags_then true (record { interval = i; block = b; parts = [] })
      (put (own n) l ∷ ls)
  level_new i b f kind none over r passed called = record {
    own_cells = λ free.
        subst (λ m. OwnTold program plan p y k.sizes_then k.tags_then (new i b) outside m) (sym new_number)
        (λ c less. subst (λ q. IsBefore program plan p y b q outside c (k.tags_then (suc a) c)) (sym kind)
        (by c less (writes 1 c e.event) refl));
    leaf_cells = λ told call h. absurd (none-some call h);
    loop = λ is. absurd (true≢false (sym is ∙ ap is_loop kind));
    called = subst (λ q. IsCalledIn program plan y q outside) (sym kind) called;
    counted = subst (λ q. 0 < with_own q (activations program plan y outside)) (sym kind) (omega arith);
  }
    where
      new_number : own_number program plan y (new i b) outside ≡ suc a
      new_number =
          let zero_frame : frame_in (leaf_of program plan y (put (own n) l)) ≡ 0 = ap frame_in over in
          let one : with_own (block_kind plan b) (activations program plan y outside)
          ≡ suc (activations program plan y outside) =
          ap (λ q. with_own q (activations program plan y outside)) kind in
          omega (arith, zero_frame, g.base, one)

      le : k.count ≤ suc a
      le = let zero_frame : frame_in (leaf_of program plan y l) ≡ 0 = ap frame_in none in
          omega (arith, g.counted, zero_frame)

      by : (c : ℕ) → c < k.sizes_then (suc a) → (w : Bool) → writes 1 c e.event ≡ w
          → IsPassed y p (is_in c (prelog_cells plan b)) outside (k.tags_then (suc a) c)
      by c less true is =
          subst (λ q. IsPassed y p q outside (k.tags_then (suc a) c)) (sym (passed c ∙ is))
          (subst (λ t. Says y p (origin.Item p l.interval (length (l.parts ++ own n ∷ []) - 1)) t)
          (sym (g.tagged.writes (suc a) c (g.leaf_writes c ∙ is) less)) says_call)
      by c less false is =
          subst (λ q. IsPassed y p q outside (k.tags_then (suc a) c)) (sym (passed c ∙ is))
          (g.tagged.begins (suc a) c (g.leaf_writes c ∙ is) (r c) le)
