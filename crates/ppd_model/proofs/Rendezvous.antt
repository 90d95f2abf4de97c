-- Channels of capacity 0: counts, pairs, and the two steps of a send.
use Rattle.ppd_model.specs.Setting.{Setting}
use Rattle.ppd_ast.specs.Lookups.{body_numbered}
use Rattle.ppd_ast.specs.declared.program.Chan.{Chan}
use Rattle.ppd_ast.specs.declared.status.SyncKind.{SyncKind}
use Rattle.ppd_ast.specs.declared.status.SyncKind.TheVariants.{Done, P, Recv, Send, V}
use Rattle.ppd_model.proofs.Balanced.{balanced}
use Rattle.ppd_model.proofs.Changes.{some}
use Rattle.ppd_model.proofs.Forward.{completed_below}
use Rattle.ppd_model.proofs.LocalTags.{own-before, own_steps_told}
use Rattle.ppd_model.proofs.Numbers.{are_counted}
use Rattle.ppd_model.proofs.OfferMarks.{AreUnmarked, HasEnded, IsUnmarked, TakesOffer, marked_step, no_completion, offer_step, over_step, unmarked_step}
use Rattle.ppd_model.proofs.Stories.{stories_are_of_runs}
use Rattle.ppd_model.specs.Bounds.{AreEach, IsBalanced, IsBalancedChan}
use Rattle.ppd_model.specs.LocalTags.{AreOwn}
use Rattle.ppd_model.specs.Numbers.{count_in, count_of, sync}
use Rattle.ppd_model.specs.Rendezvous.{ChannelsAreInTurn, Completes, CompletionsAreLedTo, CompletionsAreReceived, CompletionsLead, CompletionsWereOffered, IsInTurn, OffersAreCompleted}
use Rattle.ppd_model.specs.Schedule.{started_world}
use Rattle.ppd_model.specs.States.{act_on, state_of}
use Rattle.ppd_model.specs.Story.{Taken, told}
use Rattle.ppd_model.specs.Synchronizations.{Sync, is_number, leads_at, led_to}
use Rattle.ppd_model.specs.World.{World, room_of}
use Rattle.ppd_model.specs.declared.state.Channel.{Channel}
use Rattle.ppd_sem.specs.Passed.{next_stmt_of}
use Rattle.ppd_sem.specs.Process.{act, need_of, started, todos}
use Rattle.ppd_sem.specs.Tables.{capacity_of}
use Rattle.ppd_sem.specs.declared.proc.Need.{Need}
use Rattle.ppd_sem.specs.declared.proc.Need.TheVariants as need
use Rattle.ppd_sem.specs.declared.proc.Proc.{Proc}
use Rattle.std.proofs.Common.{List, Some, [], ap, arith, eq-eqb, eqb-true, inl, inr, length, map, refl, subst, suc, sym, true≢false, zero, ℕ, ℤ, ◌++◌, ◌+◌, ◌<◌, ◌∙◌, ◌∷◌, ◌≡◌, ◌≤◌, ◌⊎◌}
use Rattle.std.proofs.lemmas.Bool.{and_from, and_parts}
use Rattle.std.proofs.lemmas.List.{append-nil, append_assoc}
use Rattle.std.proofs.lemmas.List.Sums.{fold-append}
use Rattle.std.proofs.lemmas.Option.{none-some}
use Rattle.std.specs.Prelude.{IsTrue, fold, nat_eq, slice_get}

-- ---- counts

in_turn : (chans : List Chan) (xs : List Channel) → AreEach IsBalancedChan chans xs → (c : ℕ) (x : Channel) → slice_get xs c ≡ Some x → IsInTurn x
in_turn [] [] h c x e = absurd (none-some x e)
in_turn [] (y ∷ ys) h c x e = absurd h
in_turn (d ∷ ds) [] h c x e = absurd h
in_turn (d ∷ ds) (y ∷ ys) h zero x e =
    subst IsInTurn (some e) (record { completed = h.0.completed; received = h.0.received; offered = λ none. subst (λ n. length y.sent ≤ room_of n y) none h.0.sent })
in_turn (d ∷ ds) (y ∷ ys) h (suc c) x e = in_turn ds ys h.1 c x e

pub channels_in_turn : ChannelsAreInTurn
channels_in_turn setting h w c x runs e = in_turn setting.program.chans w.chans (balanced setting h w runs).chans c x e

-- ---- pairs

-- the number fits, for this capacity
led : (n : ℕ) (ka kb : SyncKind) (j k : ℕ) → IsTrue (is_number (led_to n ka kb j) k) → (kb ≡ Done → (n ≡ 0) × (ka ≡ Recv) × (j ≡ k)) × (ka ≡ Done → (n ≡ 0) × (kb ≡ Send) × (j + 1 ≡ k))
led zero Recv Done j k h = ((λ e. (refl, refl, eqb-true j k h)), (λ e. cc))
led zero Done Send j k h = ((λ e. cc), (λ e. (refl, refl, eqb-true (j + 1) k h)))
led zero V P j k h = ((λ e. cc), (λ e. cc))
led zero Send Recv j k h = ((λ e. cc), (λ e. cc))
led zero ka kb j k h = absurd (true≢false (sym h))
led (suc n) V P j k h = ((λ e. cc), (λ e. cc))
led (suc n) Send Recv j k h = ((λ e. cc), (λ e. cc))
led (suc n) Recv Send j k h = ((λ e. cc), (λ e. cc))
led (suc n) ka kb j k h = absurd (true≢false (sym h))

pub completions_lead : CompletionsLead
completions_lead program k o b = (to, from)
  where
    to : IsTrue (leads_at program (Some (sync Done o k)) (Some b)) → (capacity_of program o ≡ 0) × (b ≡ sync Send o (k + 1))
    to h =
        let parts = and_parts (nat_eq o b.object) (is_number (led_to (capacity_of program o) Done b.kind k) b.number) h in
        let fits = (led (capacity_of program o) Done b.kind k b.number parts.1).1 refl in
        (fits.0, made fits.1 (sym (eqb-true o b.object parts.0)) (sym fits.2))
      where
        made : b.kind ≡ Send → b.object ≡ o → b.number ≡ k + 1 → b ≡ sync Send o (k + 1)
        made e f g = (λ i. record { kind = e i; object = f i; number = g i })

    from : (capacity_of program o ≡ 0) × (b ≡ sync Send o (k + 1)) → IsTrue (leads_at program (Some (sync Done o k)) (Some b))
    from h =
        subst (λ (x : Sync). IsTrue (leads_at program (Some (sync Done o k)) (Some x))) (sym h.1)
        (and_from (nat_eq o o) (is_number (led_to (capacity_of program o) Done Send k) (k + 1)) (eq-eqb o o refl)
        (subst (λ n. IsTrue (is_number (led_to n Done Send k) (k + 1))) (sym h.0) (eq-eqb (k + 1) (k + 1) refl)))

pub completions_led_to : CompletionsAreLedTo
completions_led_to program k o a = (to, from)
  where
    to : IsTrue (leads_at program (Some a) (Some (sync Done o k))) → (capacity_of program o ≡ 0) × (a ≡ sync Recv o k)
    to h =
        let parts = and_parts (nat_eq a.object o) (is_number (led_to (capacity_of program a.object) a.kind Done a.number) k) h in
        let fits = (led (capacity_of program a.object) a.kind Done a.number k parts.1).0 refl in
        let same : a.object ≡ o = eqb-true a.object o parts.0 in
        (ap (capacity_of program) (sym same) ∙ fits.0, made fits.1 same fits.2)
      where
        made : a.kind ≡ Recv → a.object ≡ o → a.number ≡ k → a ≡ sync Recv o k
        made e f g = (λ i. record { kind = e i; object = f i; number = g i })

    from : (capacity_of program o ≡ 0) × (a ≡ sync Recv o k) → IsTrue (leads_at program (Some a) (Some (sync Done o k)))
    from h =
        subst (λ (x : Sync). IsTrue (leads_at program (Some x) (Some (sync Done o k)))) (sym h.1)
        (and_from (nat_eq o o) (is_number (led_to (capacity_of program o) Recv Done k) k) (eq-eqb o o refl)
        (subst (λ n. IsTrue (is_number (led_to n Recv Done k) k)) (sym h.0) (eq-eqb k k refl)))

none_received : (chans : List Chan) (o : ℕ) → count_in (λ (x : Channel). x.received) (slice_get (map (λ (c : Chan). record { capacity = c.capacity; sent = []; received = 0; completed = 0 }) chans) o) ≡ 0
none_received [] o = refl
none_received (c ∷ cs) zero = refl
none_received (c ∷ cs) (suc o) = none_received cs o

pub completions_received : CompletionsAreReceived
completions_received setting h w k o b runs e =
    let counts = are_counted setting h in
    let here = counts.numbers b (sync Done o k) e in
    let even : IsBalanced setting.program (told setting h).world = subst (λ (v : World). IsBalanced setting.program v) (sym (stories_are_of_runs setting h w runs)) (balanced setting h w runs) in
    let fewer = completed_below setting.program.chans (told setting h).world.chans even.chans o in
    let none : count_of (started_world setting) Recv o ≡ 0 = none_received setting.program.chans o in
    let some_at : 0 < k = omega (arith, here.0) in
    counts.found Recv o k (subst (λ n. n < k) (sym none) some_at) (omega (arith, here.1, fewer))

-- ---- one statement, two steps

-- the channel of a completion
done_chan : ℕ → Need → ℕ
done_chan c (need.Done d w) = d
done_chan c n = c

module _ (setting : Setting) (p : ℕ) where
  abbrev state : List Taken → Proc
  state xs = state_of setting p xs

  -- the last of these steps took an offer
  record TookOffer (xs : List Taken) : Type 0 where
    earlier : List Taken
    step : Taken
    steps_are : xs ≡ earlier ++ step ∷ []
    own : step.need ≡ need_of setting.program setting.plan (state earlier)
    chan : ℕ
    value : ℤ
    takes : TakesOffer setting.program setting.plan chan value (state earlier) (state xs)

  abbrev IsSteady : List Taken → Type 0
  IsSteady xs = HasEnded (state xs) ⊎ (IsUnmarked (state xs) ⊎ TookOffer xs)

  one_more : (xs : List Taken) (x : Taken) → state (xs ++ x ∷ []) ≡ act setting.program setting.plan (state xs) x.answer
  one_more xs x = fold-append (act_on setting.program setting.plan) (started setting.program setting.plan p setting.budget) xs (x ∷ [])

  steady_step : (xs : List Taken) (x : Taken) → IsSteady xs → x.need ≡ need_of setting.program setting.plan (state xs) → IsSteady (xs ++ x ∷ [])
  steady_step xs x (inl over) own = inl (subst HasEnded (sym (one_more xs x)) (over_step setting.program setting.plan x.answer (state xs) over).1)
  steady_step xs x (inr (inl unmarked)) own = elim (unmarked_step setting.program setting.plan x.answer (state xs) unmarked) [
    | inl over ↦ inl (subst HasEnded (sym (one_more xs x)) over)
    | inr (inl still) ↦ inr (inl (subst IsUnmarked (sym (one_more xs x)) still))
    | inr (inr takes) ↦ inr (inr (record { earlier = xs; step = x; steps_are = refl; own = own; chan = takes.0; value = takes.1; takes = subst (λ (s : Proc). TakesOffer setting.program setting.plan takes.0 takes.1 (state xs) s) (sym (one_more xs x)) takes.2 }))
  ]
  steady_step xs x (inr (inr took)) own = elim (marked_step setting.program setting.plan x.answer (state xs) took.chan took.takes.stmt took.takes.marked) [
    | inl done ↦ inr (inl (subst IsUnmarked (sym (one_more xs x)) done.2))
    | inr stops ↦ inl (subst HasEnded (sym (one_more xs x)) stops.1)
  ]

  steady_all : (done xs : List Taken) → IsSteady done → AreOwn setting.program setting.plan (state done) xs → IsSteady (done ++ xs)
  steady_all done [] h own = subst IsSteady (sym (append-nil done)) h
  steady_all done (x ∷ xs) h own =
      subst IsSteady (append_assoc done (x ∷ []) xs)
      (steady_all (done ++ x ∷ []) xs (steady_step done x h own.0) (subst (λ (s : Proc). AreOwn setting.program setting.plan s xs) (sym (one_more done x)) own.1))

  begun_unmarked : (ss : List ℕ) → AreUnmarked (todos ss)
  begun_unmarked [] = tt
  begun_unmarked (s ∷ ss) = (refl, begun_unmarked ss)

  begun : IsSteady []
  begun = inr (inl (record { runs = refl; unmarked = begun_unmarked (body_numbered setting.program (setting.program.functions + p)).top }))

  steady : (before after : List Taken) → AreOwn setting.program setting.plan (started setting.program setting.plan p setting.budget) (before ++ after) → IsSteady before
  steady before after own = steady_all [] before begun (own-before setting.program setting.plan (started setting.program setting.plan p setting.budget) before after own)

  own_at : (s : Proc) (xs : List Taken) (y : Taken) (ys : List Taken) → AreOwn setting.program setting.plan s (xs ++ y ∷ ys) → y.need ≡ need_of setting.program setting.plan (fold (act_on setting.program setting.plan) s xs)
  own_at s [] y ys own = own.0
  own_at s (x ∷ xs) y ys own = own_at (act setting.program setting.plan s x.answer) xs y ys own.1

  -- the step that completes the offer just before it
  completing : (before : List Taken) (x y : Taken) (c : ℕ) (v : ℤ) (u : ℕ) → x.need ≡ need.Offer c v → y.need ≡ need.Done c u → TakesOffer setting.program setting.plan c v (state before) (state (before ++ x ∷ [])) → Completes setting p before x y c
  completing before x y c v u offer done takes = record {
    value = v;
    unit = u;
    stmt = takes.stmt;
    offer = offer;
    done = done;
    offered_at = takes.stmt_is;
    completed_at = ap next_stmt_of takes.marked.todo_is ∙ ap (λ (s : ℕ). Some s) takes.marked.stmt_is;
  }

  after_offer : (before : List Taken) (x y : Taken) (after : List Taken) (c : ℕ) (v : ℤ) → AreOwn setting.program setting.plan (started setting.program setting.plan p setting.budget) (before ++ x ∷ y ∷ after) → x.need ≡ need.Offer c v
      → Completes setting p before x y c ⊎ (y.need ≡ need.Budget)
  after_offer before x y after c v own offer = by (steady before (x ∷ y ∷ after) own)
    where
      at_x : need_of setting.program setting.plan (state before) ≡ need.Offer c v
      at_x = sym (own_at (started setting.program setting.plan p setting.budget) before x (y ∷ after) own) ∙ offer

      at_y : y.need ≡ need_of setting.program setting.plan (state (before ++ x ∷ []))
      at_y = own_at (started setting.program setting.plan p setting.budget) (before ++ x ∷ []) y after (subst (λ xs. AreOwn setting.program setting.plan (started setting.program setting.plan p setting.budget) xs) (sym (append_assoc before (x ∷ []) (y ∷ after))) own)

      by : IsSteady before → Completes setting p before x y c ⊎ (y.need ≡ need.Budget)
      by (inl over) = let stop : need.Stopped ≡ need.Offer c v = sym (over_step setting.program setting.plan x.answer (state before) over).0 ∙ at_x in absurd (cc)
      by (inr (inr took)) = elim (marked_step setting.program setting.plan x.answer (state before) took.chan took.takes.stmt took.takes.marked) [
        | inl done ↦ let no : need.Done took.chan done.0 ≡ need.Offer c v = sym done.1 ∙ at_x in absurd (cc)
        | inr stops ↦ let no : need.Budget ≡ need.Offer c v = sym stops.0 ∙ at_x in absurd (cc)
      ]
      by (inr (inl unmarked)) =
          let takes : TakesOffer setting.program setting.plan c v (state before) (state (before ++ x ∷ [])) =
          subst (λ (s : Proc). TakesOffer setting.program setting.plan c v (state before) s) (sym (one_more before x)) (offer_step setting.program setting.plan x.answer (state before) unmarked c v at_x) in
          elim (marked_step setting.program setting.plan y.answer (state (before ++ x ∷ [])) c takes.stmt takes.marked) [
            | inl done ↦ inl (completing before x y c v done.0 offer (at_y ∙ done.1) takes)
            | inr stops ↦ inr (at_y ∙ stops.0)
          ]

  Offered : List Taken → Taken → ℕ → Type 0
  Offered before y c = (earlier : List Taken) × (x : Taken) × (before ≡ earlier ++ x ∷ []) × Completes setting p earlier x y c

  before_completion : (before : List Taken) (y : Taken) (after : List Taken) (c u : ℕ) → AreOwn setting.program setting.plan (started setting.program setting.plan p setting.budget) (before ++ y ∷ after) → y.need ≡ need.Done c u → Offered before y c
  unfolding Offered done_chan
  before_completion before y after c u own done = by (steady before (y ∷ after) own)
    where
      at_y : need_of setting.program setting.plan (state before) ≡ need.Done c u
      at_y = sym (own_at (started setting.program setting.plan p setting.budget) before y after own) ∙ done

      by : IsSteady before → Offered before y c
      by (inl over) = let stop : need.Stopped ≡ need.Done c u = sym (over_step setting.program setting.plan y.answer (state before) over).0 ∙ at_y in absurd (cc)
      by (inr (inl unmarked)) = absurd (no_completion setting.program setting.plan y.answer (state before) unmarked c u at_y)
      by (inr (inr took)) = elim (marked_step setting.program setting.plan y.answer (state before) took.chan took.takes.stmt took.takes.marked) [
        | inr stops ↦ let no : need.Budget ≡ need.Done c u = sym stops.0 ∙ at_y in absurd (cc)
        | inl completes ↦
            let same : need.Done took.chan completes.0 ≡ need.Done c u = sym completes.1 ∙ at_y in
            let chan : took.chan ≡ c = ap (done_chan c) same in
            let now : TakesOffer setting.program setting.plan c took.value (state took.earlier) (state before) = subst (λ k. TakesOffer setting.program setting.plan k took.value (state took.earlier) (state before)) chan took.takes in (
              took.earlier,
              took.step,
              took.steps_are,
              completing took.earlier took.step y c took.value u (took.own ∙ now.need_is) done
                  (subst (λ xs. TakesOffer setting.program setting.plan c took.value (state took.earlier) (state xs)) took.steps_are now),
            )
      ]

pub offers_completed : OffersAreCompleted
offers_completed setting h p before x y after c v e offer =
    after_offer setting p before x y after c v (subst (λ xs. AreOwn setting.program setting.plan (started setting.program setting.plan p setting.budget) xs) e (own_steps_told setting h p)) offer

pub completions_offered : CompletionsWereOffered
unfolding Offered
completions_offered setting h p before y after c u e done =
    before_completion setting p before y after c u (subst (λ xs. AreOwn setting.program setting.plan (started setting.program setting.plan p setting.budget) xs) e (own_steps_told setting h p)) done
