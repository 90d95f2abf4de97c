-- A walk back over the events of a process after a beginning of a schedule, and one over the same events at its end,
-- find the same write.
use Rattle.law_steps.specs.Policies.{setting_by}
use Rattle.std.proofs.Common.{◌≡◌, ℕ, ◌+◌, ◌<◌, ◌≤◌, ℤ, true, false, List, ◌++◌, length, Some, refl, ap, sym, ◌∙◌, arith, true≢false}
use Rattle.std.specs.Prelude.{slice_get, Result}
use Rattle.ppd_ast.specs.declared.plan.Policy.{Policy}
use Rattle.ppd_ast.specs.declared.program.Program.{Program}
use Rattle.ppd_ast.specs.Valid.{IsValid}
use Rattle.ppd_ast.proofs.ValidLaws.{slice_get_there, slice_get_below}
use Rattle.ppd_model.specs.declared.flow.Origin.{Origin}
use Rattle.ppd_model.specs.declared.trace.TracedEvent.{TracedEvent}
use Rattle.ppd_model.specs.FlowbackEdges.{part_at}
use Rattle.ppd_model.specs.Intervals.{own, Split, splits}
use Rattle.ppd_model.specs.Items.{IsReferred}
use Rattle.ppd_model.specs.Story.{story}
use Rattle.ppd_model.proofs.Items.{items_whole}
use Rattle.ppd_graph.specs.declared.walked.Walked.{Walked}
use Rattle.ppd_graph.specs.declared.walked.Walked.TheVariants.{Stopped, Passed, Found}
use Rattle.ppd_graph.specs.Looked.{Looked}
use Rattle.ppd_graph.specs.Shared.{Missing, own_or}
use Rattle.law_flow.proofs.Vocabulary.Events.{AreQuiet, IsLastSync, IsLastWriter, IsQuiet, IsWalk, synchronizes, written_by}
use Rattle.law_flow.proofs.Edges.Back.Walked.{IsFoundAt, found_is, not_found}
use Rattle.law_clean.proofs.Items.{event_kept, part_kept}

-- events that look alike at these numbers
record LookAlike (es fs : List TracedEvent) (n : ℕ) : Type 0 where
  pub syncs : synchronizes (slice_get fs n) ≡ synchronizes (slice_get es n)
  pub writes : (c : ℕ) → written_by c (slice_get fs n) ≡ written_by c (slice_get es n)

module _ (es fs : List TracedEvent) (hi : ℕ) (alike : (n : ℕ) → n < hi → LookAlike es fs n) where
  quiet_kept : (c lo : ℕ) → AreQuiet es c lo hi → AreQuiet fs c lo hi
  quiet_kept c lo q n ge lt =
      let a = alike n lt in
      let one : IsQuiet es c n = q n ge lt in
      record { plain = a.syncs ∙ one.plain; unwritten = a.writes c ∙ one.unwritten }

  writer_kept : (c lo m : ℕ) (v : ℤ) → IsLastWriter es c lo hi m v → IsLastWriter fs c lo hi m v
  writer_kept c lo m v l =
      let a = alike m l.to in
      record { from = l.from; to = l.to; plain = a.syncs ∙ l.plain; writes = a.writes c ∙ l.writes; since = quiet_kept c (m + 1) l.since }

back_alike : (es fs : List TracedEvent) (n : ℕ) → LookAlike es fs n → LookAlike fs es n
back_alike es fs n a = record { syncs = sym a.syncs; writes = λ c. sym (a.writes c) }

module _ (program : Program) (policy : Policy) (budget : ℕ) (g rest : List ℕ) (p : ℕ) (v : IsValid program) (x y : Split)
    (at_g : slice_get (splits (setting_by program policy budget) (story (setting_by program policy budget) g)) p ≡ Some x)
    (at : slice_get (splits (setting_by program policy budget) (story (setting_by program policy budget) (g ++ rest))) p ≡ Some y) where
  events_alike : (n : ℕ) → n < length x.trace.events → LookAlike x.trace.events y.trace.events n
  events_alike n lt =
      let e = slice_get_there x.trace.events n lt in
      let f = event_kept program policy budget g rest p v x y at_g at n e.0 e.1 in
      record {
        syncs = ap synchronizes f.1 ∙ ap (λ (z : TracedEvent). synchronizes (Some z)) f.2 ∙ sym (ap synchronizes e.1);
        writes = λ c. ap (written_by c) f.1 ∙ ap (λ (z : TracedEvent). written_by c (Some z)) f.2 ∙ sym (ap (written_by c) e.1);
      }

  module _ (c n : ℕ) (le : n ≤ length x.trace.events) where
    here : (m : ℕ) → m < n → LookAlike x.trace.events y.trace.events m
    here m lt = events_alike m (omega (arith, lt, le))

    there : (m : ℕ) → m < n → LookAlike y.trace.events x.trace.events m
    there m lt = back_alike x.trace.events y.trace.events m (here m lt)

    found_kept : (k i : ℕ) (u : ℤ) (w : Walked) → IsWalk x c 0 n (Found k i u) → IsWalk y c 0 n w → w ≡ Found k i u
    found_kept k i u w h h' =
        let l : IsLastWriter x.trace.events c 0 n h.0 u = h.2 in
        let f : IsFoundAt y w h.0 u = found_is y c n h.0 u (writer_kept x.trace.events y.trace.events n here c 0 h.0 u l) w h' in
        let r : IsReferred (splits (setting_by program policy budget) (story (setting_by program policy budget) (g ++ rest))) y p h.0 =
        (items_whole (setting_by program policy budget) (g ++ rest) p y v at).events h.0 (within (part_kept program policy budget g rest p v x y at_g at k i (own h.0) h.1) l.to) in
        let first = r.placed.once k i (part_kept program policy budget g rest p v x y at_g at k i (own h.0) h.1) in
        let second = r.placed.once f.interval f.item f.there in
        f.is ∙ ap (λ z. Found z f.item u) (second.0 ∙ sym first.0) ∙ ap (λ z. Found k z u) (second.1 ∙ sym first.1)
      where
        within : {m : ℕ} → part_at y k i ≡ Some (own m) → m < n → m < length y.trace.events
        within {m = m} e lt =
            let z = slice_get_there x.trace.events m (omega (arith, lt, le)) in
            let f = event_kept program policy budget g rest p v x y at_g at m z.0 z.1 in
            slice_get_below y.trace.events m f.0 f.1

    -- the search goes on, or finds, as before
    pub walk_kept : (w w' : Walked) (r : Looked (ℕ × ℕ) (Result Origin Missing)) → IsWalk x c 0 n w → IsWalk y c 0 n w' → (own_or p w' r).found ≡ (own_or p w r).found
    walk_kept (Found k i u) w' r h h' = ap (λ z. (own_or p z r).found) (found_kept k i u w' h h')
    walk_kept Passed w' r h h' = not_found y c n p w' r h' (λ m u l. no_passed (found_is x c n m u (writer_kept y.trace.events x.trace.events n there c 0 m u l) Passed h).is)
      where
        no_passed : {k i : ℕ} {u : ℤ} → Passed ≡ Found k i u → ⊥
        no_passed e = true≢false (ap (λ z. elim z [ Passed ↦ true | _ ↦ false ]) e)
    walk_kept Stopped w' r h h' = not_found y c n p w' r h' (λ m u l. no_stopped (found_is x c n m u (writer_kept y.trace.events x.trace.events n there c 0 m u l) Stopped h).is)
      where
        no_stopped : {k i : ℕ} {u : ℤ} → Stopped ≡ Found k i u → ⊥
        no_stopped e = true≢false (ap (λ z. elim z [ Stopped ↦ true | _ ↦ false ]) e)

    no_found : (k i : ℕ) (u : ℤ) (w : Walked) → IsWalk x c 0 n w → IsWalk y c 0 n (Found k i u) → (k' : ℕ) × (i' : ℕ) × (w ≡ Found k' i' u)
    no_found k i u w h h' = let f = found_is x c n h'.0 u (writer_kept y.trace.events x.trace.events n there c 0 h'.0 u h'.2) w h in (f.interval, f.item, f.is)

    -- the walks are one
    pub walk_equal : (w w' : Walked) → IsWalk x c 0 n w → IsWalk y c 0 n w' → w' ≡ w
    walk_equal (Found k i u) w' h h' = found_kept k i u w' h h'
    walk_equal Passed Passed h h' = refl
    walk_equal Passed Stopped h h' = let l : IsLastSync y.trace.events c 0 n h'.0 = h'.1 in absurd (true≢false (sym l.is_sync ∙ (here h'.0 l.to).syncs ∙ (h h'.0 (omega arith) l.to).plain))
    walk_equal Passed (Found k i u) h h' = absurd (let f = no_found k i u Passed h h' in true≢false (ap (λ z. elim z [ Passed ↦ true | _ ↦ false ]) f.2))
    walk_equal Stopped Stopped h h' = refl
    walk_equal Stopped Passed h h' = let l : IsLastSync x.trace.events c 0 n h.0 = h.1 in absurd (true≢false (sym l.is_sync ∙ sym (here h.0 l.to).syncs ∙ (h' h.0 (omega arith) l.to).plain))
    walk_equal Stopped (Found k i u) h h' = absurd (let f = no_found k i u Stopped h h' in true≢false (ap (λ z. elim z [ Stopped ↦ true | _ ↦ false ]) f.2))
