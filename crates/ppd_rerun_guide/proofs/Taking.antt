-- The guided schedule of a record takes the record's synchronizations in order.
use Rattle.ppd_model.specs.Setting.{Setting}
use Rattle.std.specs.Option.{option_map_or}
use Rattle.std.proofs.Common.{◌≡◌, ℕ, zero, suc, ◌+◌, ◌<◌, ◌≤◌, ◌&&◌, List, [], ◌∷◌, ◌++◌, Option, Some, None, Bool, true, false, refl, ap, ap₂, sym, subst, ◌∙◌, arith, length, get_or, take, take_all, drop, true≢false, inl, inr}
use Rattle.std.specs.Prelude.{fold, option_to_list, slice_get}
use Rattle.std.proofs.lemmas.Bool.{cases_eq}
use Rattle.std.proofs.lemmas.Option.{none-some}
use Rattle.ppd_sem.specs.declared.proc.Need.{Need}
use Rattle.ppd_model.specs.declared.trace.EventId.{EventId}
use Rattle.ppd_model.specs.Laws.{begins}
use Rattle.ppd_model.specs.Numbers.{count_of, sync}
use Rattle.ppd_model.specs.Prefixes.{Good, told_to}
use Rattle.ppd_model.specs.Schedule.{run_from, started_world}
use Rattle.ppd_model.specs.Story.{Telling, next_event, tell}
use Rattle.ppd_model.proofs.WorldWords.{taken_of}
use Rattle.ppd_model.specs.Synchronizations as s
use Rattle.ppd_model.specs.Synchronizations.{sync_of}
use Rattle.ppd_model.specs.World.{World, change, enabled, need, step}
use Rattle.ppd_model.proofs.Changes.{own-else}
use Rattle.ppd_model.proofs.Prefixes.{enabled_at, goes_at, good_to}
use Rattle.law_steps.proofs.Machine.Model.{Want, Stop, Local, Read, Write, Sync, Enabled, answer_for, number_for, tick, wants_of}
use Rattle.law_steps.proofs.Instance.Wants.{Line, Tagged, machine, made, sorted, synced_in, view}
use Rattle.law_steps.proofs.Instance.Given.{enabled_back, taken_is}
use Rattle.law_steps.proofs.Instance.Lawful.{lawful, one_more, sync_made}
use Rattle.law_steps.proofs.Schedules.Records.{line_in, number_at, sheet}
use Rattle.law_steps.proofs.Schedules.Steps.{is_step, run_of, want_is}
use Rattle.law_steps.proofs.Agreeing.{fresh}
use Rattle.ppd_rerun_guide.specs.Guided.{Guiding, chosen, guide, guided, guided_from, guiding, is_let, may_step, sync_of_next}
use Rattle.ppd_rerun_guide.specs.Laws.{EndsGuided, guided_end}
use Rattle.ppd_rerun_guide.proofs.Ending.{chosen_at, chosen_can, chosen_let, ends_guided, fold_at}
use Rattle.ppd_rerun_guide.proofs.Following.{IsGuided, Takes, Waits}
use Rattle.ppd_rerun_guide.proofs.Lines.{entry_is, let_is, let_self, there_is}
use Rattle.ppd_rerun_guide.proofs.MostSteps.{most_steps}

-- ---- lists

pub drop_one : {A : Type 0} (k : ℕ) (xs : List A) → drop 1 (drop k xs) ≡ drop (suc k) xs
drop_one zero xs = refl
drop_one (suc k) [] = refl
drop_one (suc k) (x ∷ xs) = drop_one k xs

pub first_left : {A : Type 0} (k : ℕ) (xs : List A) → slice_get (drop k xs) 0 ≡ slice_get xs k
first_left zero xs = refl
first_left (suc k) [] = refl
first_left (suc k) (x ∷ xs) = first_left k xs

pub one_off : (p : ℕ) (left : List (List s.Sync)) → get_or (change (drop 1) p left) p [] ≡ drop 1 (get_or left p [])
one_off p [] = refl
one_off zero (xs ∷ left) = refl
one_off (suc p) (xs ∷ left) = one_off p left

none_of : (o : Option s.Sync) → length (option_to_list o) + 0 ≡ 0 → o ≡ None
none_of None e = refl
none_of (Some x) e = absurd (omega (arith, e))

within : {A : Type 0} (xs : List A) (k : ℕ) (x : A) → slice_get xs k ≡ Some x → k < length xs
within [] k x e = absurd (none-some x e)
within (y ∷ xs) zero x e = omega arith
within (y ∷ xs) (suc k) x e = let below : k < length xs = within xs k x e in omega arith

both : (a b : Bool) → a ≡ true → (a && b) ≡ false → b ≡ false
both true b x y = y
both false b x y = absurd (true≢false (sym x))

-- ---- a step

-- the synchronization that a want is now
abbrev IsNow : Telling → Want Line Tagged → Option s.Sync → Type 0
IsNow t (Sync l v) o = o ≡ Some (sync l.0 l.1 (suc (count_of t.world l.0 l.1)))
IsNow t w o = o ≡ None

-- what is left of a record where the steps of t were taken
abbrev AreLeft : List (List s.Sync) → Telling → List (List s.Sync) → Type 0
AreLeft syncs t left = (q : ℕ) → get_or left q [] ≡ drop (synced_in ((view t).hist q)) (get_or syncs q [])

module _ (setting : Setting) where
  module _ (t : Telling) (p : ℕ) (g : Good setting t) (can : enabled setting.program setting.plan t.world p ≡ true) where
    abbrev next_id : EventId
    next_id = next_event t p

    abbrev next_need : Need
    next_need = need setting.program setting.plan t.world p

    abbrev next_want : Want Line Tagged
    next_want = sorted setting.program next_id next_need

    abbrev next_answer : Tagged
    next_answer = answer_for (machine setting) (view t) next_want

    abbrev next_number : ℕ
    next_number = number_for (view t) next_want

    same_sync : sync_of_next setting.program setting.plan t.world p ≡ sync_of (made setting.program next_need next_answer next_number)
    same_sync = ap sync_of (taken_is setting t g.sizes next_id next_need can)

    none_by : tick next_want 0 ≡ 0 → sync_of_next setting.program setting.plan t.world p ≡ None
    none_by is = same_sync ∙ none_of (sync_of (made setting.program next_need next_answer next_number)) (one_more setting.program next_need next_id next_answer next_number 0 ∙ is)

    now_by : (w : Want Line Tagged) → next_want ≡ w → IsNow t w (sync_of_next setting.program setting.plan t.world p)
    now_by Stop is = none_by (ap (λ (w : Want Line Tagged). tick w 0) is)
    now_by Local is = none_by (ap (λ (w : Want Line Tagged). tick w 0) is)
    now_by (Read x) is = none_by (ap (λ (w : Want Line Tagged). tick w 0) is)
    now_by (Write x v) is = none_by (ap (λ (w : Want Line Tagged). tick w 0) is)
    now_by (Sync l v) is = same_sync ∙ sync_made setting.program next_need next_id next_answer next_number l v is ∙ ap (λ (w : Want Line Tagged). Some (sync l.0 l.1 (number_for (view t) w))) is

    now_is : IsNow t (wants_of (machine setting) (view t) p) (sync_of_next setting.program setting.plan t.world p)
    now_is = subst (λ (w : Want Line Tagged). IsNow t w (sync_of_next setting.program setting.plan t.world p)) (sym (want_is setting t p g)) (now_by next_want refl)

  synced_after : (t : Telling) (p : ℕ) → Good setting t → enabled setting.program setting.plan t.world p ≡ true → synced_in ((view (tell setting.program setting.plan t p)).hist p) ≡ tick (wants_of (machine setting) (view t) p) (synced_in ((view t).hist p))
  synced_after t p g can = ap synced_in (is_step setting t p g can).hist_own ∙ (lawful setting.program setting.plan setting.budget).counted p ((view t).hist p) _ _

  left_own : (syncs : List (List s.Sync)) (t : Telling) (p : ℕ) (left : List (List s.Sync)) → Good setting t → enabled setting.program setting.plan t.world p ≡ true → AreLeft syncs t left
      → get_or (option_map_or (λ taken. change (drop 1) p left) (sync_of_next setting.program setting.plan t.world p) left) p [] ≡ drop (synced_in ((view (tell setting.program setting.plan t p)).hist p)) (get_or syncs p [])
  left_own syncs t p left g can hyp = of_want (wants_of (machine setting) (view t) p) refl (sync_of_next setting.program setting.plan t.world p) (now_is t p g can)
    where
      ticked : (w : Want Line Tagged) → wants_of (machine setting) (view t) p ≡ w → drop (tick w (synced_in ((view t).hist p))) (get_or syncs p []) ≡ drop (synced_in ((view (tell setting.program setting.plan t p)).hist p)) (get_or syncs p [])
      ticked w is = ap (λ (n : ℕ). drop n (get_or syncs p [])) (sym (synced_after t p g can ∙ ap (λ (x : Want Line Tagged). tick x (synced_in ((view t).hist p))) is))

      stays : (o : Option s.Sync) → o ≡ None → get_or (option_map_or (λ taken. change (drop 1) p left) o left) p [] ≡ drop (synced_in ((view t).hist p)) (get_or syncs p [])
      stays o now = ap (λ (x : Option s.Sync). get_or (option_map_or (λ taken. change (drop 1) p left) x left) p []) now ∙ hyp p

      of_want : (w : Want Line Tagged) → wants_of (machine setting) (view t) p ≡ w → (o : Option s.Sync) → IsNow t w o → get_or (option_map_or (λ taken. change (drop 1) p left) o left) p [] ≡ drop (synced_in ((view (tell setting.program setting.plan t p)).hist p)) (get_or syncs p [])
      of_want Stop is o now = stays o now ∙ ticked Stop is
      of_want Local is o now = stays o now ∙ ticked Local is
      of_want (Read x) is o now = stays o now ∙ ticked (Read x) is
      of_want (Write x v) is o now = stays o now ∙ ticked (Write x v) is
      of_want (Sync l v) is o now =
          ap (λ (x : Option s.Sync). get_or (option_map_or (λ taken. change (drop 1) p left) x left) p []) now
          ∙ one_off p left
          ∙ ap (λ (xs : List s.Sync). drop 1 xs) (hyp p)
          ∙ drop_one (synced_in ((view t).hist p)) (get_or syncs p [])
          ∙ ticked (Sync l v) is

  left_else : (o : Option s.Sync) (p q : ℕ) (left : List (List s.Sync)) → (q ≡ p → ⊥) → get_or (option_map_or (λ taken. change (drop 1) p left) o left) q [] ≡ get_or left q []
  left_else None p q left d = refl
  left_else (Some x) p q left d = own-else (drop 1) p q [] left d

  left_more : (syncs : List (List s.Sync)) (t : Telling) (p : ℕ) (left : List (List s.Sync)) → Good setting t → enabled setting.program setting.plan t.world p ≡ true → AreLeft syncs t left
      → AreLeft syncs (tell setting.program setting.plan t p) (option_map_or (λ taken. change (drop 1) p left) (sync_of_next setting.program setting.plan t.world p) left)
  left_more syncs t p left g can hyp q = elim (cases_eq q p) [
    | inl is ↦
        subst (λ (x : ℕ). get_or (option_map_or (λ taken. change (drop 1) p left) (sync_of_next setting.program setting.plan t.world p) left) x [] ≡ drop (synced_in ((view (tell setting.program setting.plan t p)).hist x)) (get_or syncs x [])) (sym is)
        (left_own syncs t p left g can hyp)
    | inr d ↦
        left_else (sync_of_next setting.program setting.plan t.world p) p q left d
        ∙ hyp q
        ∙ ap (λ h. drop (synced_in h) (get_or syncs q [])) (sym ((is_step setting t p g can).hist_other q d))
  ]

  -- ---- the schedule

  module _ (syncs : List (List s.Sync)) where
    abbrev schedule : List ℕ
    schedule = guided setting syncs

    abbrev state : ℕ → Guiding
    state i = fold (guide setting.program setting.plan) (guiding setting syncs) (take i schedule)

    abbrev last : World
    last = (guided_end setting syncs).world

    ends : EndsGuided setting syncs
    ends = ends_guided setting.program setting.plan setting.budget syncs

    -- after i steps: the world, and what is left
    record IsAt (i : ℕ) : Type 0 where
      world : (told_to setting schedule i).world ≡ (state i).world
      left : AreLeft syncs (told_to setting schedule i) (state i).left

    at_time : (i : ℕ) → i ≤ length schedule → IsAt i
    at_time zero top = record { world = refl; left = λ q. ap (λ (n : ℕ). drop n (get_or syncs q [])) (sym (fresh setting q)) }
    at_time (suc i) top =
        let here : IsAt i = at_time i (omega arith) in
        let p : ℕ = get_or schedule i 0 in
        let t : Telling = told_to setting schedule i in
        let tells : told_to setting schedule (suc i) ≡ tell setting.program setting.plan t p = goes_at setting (begins setting) schedule i top in
        let guides : state (suc i) ≡ guide setting.program setting.plan (state i) p = fold_at (guide setting.program setting.plan) (guiding setting syncs) schedule 0 i top in
        let can : enabled setting.program setting.plan t.world p ≡ true = enabled_at setting (begins setting) schedule i last ends.runs top in
        record {
          world = ap (λ (x : Telling). x.world) tells ∙ ap (λ (w : World). step setting.program setting.plan w p) here.world ∙ sym (ap (λ (x : Guiding). x.world) guides);
          left = λ q.
              ap (λ (x : Guiding). get_or x.left q []) guides
              ∙ ap (λ (w : World). get_or (option_map_or (λ taken. change (drop 1) p (state i).left) (sync_of_next setting.program setting.plan w p) (state i).left) q []) (sym here.world)
              ∙ left_more syncs t p (state i).left (good_to setting schedule i) can here.left q
              ∙ ap (λ (x : Telling). drop (synced_in ((view x).hist q)) (get_or syncs q [])) (sym tells);
        }

    -- what is next of the record
    next_is : (i : ℕ) → IsAt i → (p : ℕ) → slice_get (get_or (state i).left p []) 0 ≡ slice_get (get_or syncs p []) (synced_in ((view (told_to setting schedule i)).hist p))
    next_is i here p =
        ap (λ (xs : List s.Sync). slice_get xs 0) (here.left p)
        ∙ first_left (synced_in ((view (told_to setting schedule i)).hist p)) (get_or syncs p [])

    -- a synchronization that is taken is the next one
    entry : (i : ℕ) (l : Line) (v : Tagged) → i < length schedule
        → wants_of (machine setting) (view (told_to setting schedule i)) (get_or schedule i 0) ≡ Sync l v
        → slice_get (get_or syncs (get_or schedule i 0) []) (synced_in ((view (told_to setting schedule i)).hist (get_or schedule i 0)))
        ≡ Some (sync l.0 l.1 (suc (count_of (told_to setting schedule i).world l.0 l.1)))
    entry i l v lt is =
        let here : IsAt i = at_time i (omega arith) in
        let p : ℕ = get_or schedule i 0 in
        let t : Telling = told_to setting schedule i in
        let can : enabled setting.program setting.plan t.world p ≡ true = enabled_at setting (begins setting) schedule i last ends.runs lt in
        let now : sync_of_next setting.program setting.plan t.world p ≡ Some (sync l.0 l.1 (suc (count_of t.world l.0 l.1))) =
        subst (λ (w : Want Line Tagged). IsNow t w (sync_of_next setting.program setting.plan t.world p)) is (now_is t p (good_to setting schedule i) can) in
        let lets : is_let (sync_of_next setting.program setting.plan (state i).world p) (slice_get (get_or (state i).left p []) 0) ≡ true =
        chosen_let setting.program setting.plan (state i) p (chosen_at setting.program setting.plan (most_steps setting.program setting.budget) (guiding setting syncs) i lt) in
        let lets2 : is_let (Some (sync l.0 l.1 (suc (count_of t.world l.0 l.1)))) (slice_get (get_or (state i).left p []) 0) ≡ true =
        ap (λ (o : Option s.Sync). is_let o (slice_get (get_or (state i).left p []) 0)) (sym now ∙ ap (λ (w : World). sync_of_next setting.program setting.plan w p) here.world) ∙ lets in
        sym (next_is i here p) ∙ let_is (sync l.0 l.1 (suc (count_of t.world l.0 l.1))) (slice_get (get_or (state i).left p []) 0) lets2

    -- ---- the end

    abbrev all_told : Telling
    all_told = told_to setting schedule (length schedule)

    good_last : Good setting all_told
    good_last = good_to setting schedule (length schedule)

    last_at : IsAt (length schedule)
    last_at = at_time (length schedule) (omega arith)

    module _ (p : ℕ) (free : Enabled (machine setting) (view all_told) (wants_of (machine setting) (view all_told) p)) where
      abbrev place : ℕ
      place = synced_in ((view all_told).hist p)

      can_last : enabled setting.program setting.plan all_told.world p ≡ true
      can_last = enabled_back setting all_told good_last.sizes (next_event all_told p) (need setting.program setting.plan all_told.world p)
          (subst (λ (w : Want Line Tagged). Enabled (machine setting) (view all_told) w) (want_is setting all_told p good_last) free)

      -- the test of the last state is that of what is told
      not_let : is_let (sync_of_next setting.program setting.plan all_told.world p) (slice_get (get_or syncs p []) place) ≡ false
      not_let = both (enabled setting.program setting.plan all_told.world p) (is_let (sync_of_next setting.program setting.plan all_told.world p) (slice_get (get_or syncs p []) place)) can_last
          (ap₂ (λ (w : World) (o : Option s.Sync). enabled setting.program setting.plan w p && is_let (sync_of_next setting.program setting.plan w p) o) last_at.world (sym (next_is (length schedule) last_at p))
          ∙ ap (λ (h : List ℕ). may_step setting.program setting.plan (fold (guide setting.program setting.plan) (guiding setting syncs) h) p) (take_all (length schedule) schedule (omega arith))
          ∙ ends.stops p)

      not_none : sync_of_next setting.program setting.plan all_told.world p ≡ None → ⊥
      not_none none = true≢false (sym (ap (λ (o : Option s.Sync). is_let o (slice_get (get_or syncs p []) place)) none) ∙ not_let)

      waits_by : (w : Want Line Tagged) → wants_of (machine setting) (view all_told) p ≡ w → IsNow all_told w (sync_of_next setting.program setting.plan all_told.world p) → Waits (machine setting) (view all_told) (sheet (λ q. get_or syncs q [])) p
      waits_by Stop is now = absurd (not_none now)
      waits_by Local is now = absurd (not_none now)
      waits_by (Read x) is now = absurd (not_none now)
      waits_by (Write x v) is now = absurd (not_none now)
      waits_by (Sync l v) is now = record {
        line = l;
        value = v;
        is = is;
        other = λ there line number.
            let x = there_is (get_or syncs p []) place there in
            let same : x.0 ≡ sync l.0 l.1 (suc (count_of all_told.world l.0 l.1)) =
            entry_is x.0 l (suc (count_of all_told.world l.0 l.1)) (sym (ap line_in x.1) ∙ line) (sym (ap number_at x.1) ∙ number) in
            let lets : is_let (sync_of_next setting.program setting.plan all_told.world p) (slice_get (get_or syncs p []) place) ≡ true =
            ap₂ (λ (o o2 : Option s.Sync). is_let o o2) now (x.1 ∙ ap (λ (y : s.Sync). Some y) same) ∙ let_self (sync l.0 l.1 (suc (count_of all_told.world l.0 l.1))) in
            true≢false (sym lets ∙ not_let);
      }

      -- who could still take a step is at another synchronization than the next one
      waits : Waits (machine setting) (view all_told) (sheet (λ q. get_or syncs q [])) p
      waits = waits_by (wants_of (machine setting) (view all_told) p) refl (now_is all_told p good_last can_last)

    -- ---- a run that is guided

    pub guided_run : (e : run_from setting.program setting.plan (started_world setting) (guided setting syncs) ≡ Some (guided_end setting syncs).world) → IsGuided (run_of setting (guided setting syncs) (guided_end setting syncs).world e) (sheet (λ q. get_or syncs q []))
    unfolding run_of
    guided_run e = record {
      takes = record {
        lines = λ i l v lt is. ap line_in (entry i l v lt is);
        numbers = λ i l v lt is. ap number_at (entry i l v lt is);
        there = λ i l v lt is. within (get_or syncs (get_or schedule i 0) []) (synced_in ((view (told_to setting schedule i)).hist (get_or schedule i 0))) (sync l.0 l.1 (suc (count_of (told_to setting schedule i).world l.0 l.1))) (entry i l v lt is);
      };
      stops = λ p free. waits p free;
    }
