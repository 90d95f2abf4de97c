-- One step, and what stays through a run.
use Rattle.std.proofs.Common.{◌≡◌, ℕ, zero, suc, ◌<◌, ◌≤◌, ◌≢◌, ◌⊎◌, eqb, refl, sym, ap, ◌∙◌, subst, ⊎_elim, inl, inr, arith}
use Rattle.std.proofs.lemmas.Bool.{cases_eq, cases_lt, eq-eqb, ne_eqb, cond-true, cond-false}
use Rattle.law_steps.proofs.Machine.Model.{Want, Stop, Local, Read, Write, Sync, Scene, Machine, upd, answer_for, number_for, Enabled, Run, want_at, tick, Record, HasRecord, Follows, Hb, Own, Pair, Then, Writes}

pub upd_same : {X : Type 0} (f : ℕ → X) (k : ℕ) (v : X) → upd f k v k ≡ v
upd_same f k v = cond-true (eqb k k) v (f k) (eq-eqb k k refl)

pub upd_at : {X : Type 0} (f : ℕ → X) (k : ℕ) (v : X) (j : ℕ) → j ≡ k → upd f k v j ≡ v
upd_at f k v j e = cond-true (eqb j k) v (f j) (eq-eqb j k e)

pub upd_other : {X : Type 0} (f : ℕ → X) (k : ℕ) (v : X) (j : ℕ) → j ≢ k → upd f k v j ≡ f j
upd_other f k v j ne = cond-false (eqb j k) v (f j) (ne_eqb j k ne)

-- what each step keeps holds from a time on
pub climb : (P : ℕ → Type 0) (j top : ℕ) → P j → ((i : ℕ) → j ≤ i → i < top → P i → P (suc i)) → (n : ℕ) → j ≤ n → n ≤ top → P n
climb P j top base step zero low high =
    let e : j ≡ 0 = omega arith in
    subst P e base
climb P j top base step (suc n) low high =
    ⊎_elim
    (λ (e : j ≡ suc n). subst P e base)
    (λ (ne : j ≡ suc n → ⊥).
    let here : j ≤ n = omega arith in
    let below : n ≤ top = omega arith in
    let under : n < top = omega arith in
    step n here under (climb P j top base step n here below))
    (cases_eq j (suc n))

pub tick_keeps : {L V : Type 0} (n : Want L V) (m : ℕ) → m ≤ tick n m
tick_keeps Stop m = omega arith
tick_keeps Local m = omega arith
tick_keeps (Read x) m = omega arith
tick_keeps (Write x v) m = omega arith
tick_keeps (Sync l v) m = omega arith

module _ {H L V : Type 0} {M : Machine H L V} {first : Scene H L V} (R : Run M first) where
  pub hist_own : (i : ℕ) → i < R.ends → (R.at (suc i)).hist (R.who i) ≡ M.grow (R.who i) ((R.at i).hist (R.who i)) (answer_for M (R.at i) (want_at R i)) (number_for (R.at i) (want_at R i))
  hist_own i h = (R.goes i h).hist_own

  pub hist_other : (i q : ℕ) → i < R.ends → q ≢ R.who i → (R.at (suc i)).hist q ≡ (R.at i).hist q
  hist_other i q h ne = (R.goes i h).hist_other q ne

  pub count_step : (i : ℕ) (l : L) → i < R.ends → (R.at i).count l ≤ (R.at (suc i)).count l
  count_step i l h = (R.goes i h).count_kept l

  pub counts : (i j : ℕ) (l : L) → i ≤ j → j ≤ R.ends → (R.at i).count l ≤ (R.at j).count l
  counts i j l h k =
      climb (λ n. (R.at i).count l ≤ (R.at n).count l) i R.ends
      (omega arith)
      (λ n a b hyp. let s : (R.at n).count l ≤ (R.at (suc n)).count l = count_step n l b in omega arith)
      j h k

  pub cell_step : (x i : ℕ) → i < R.ends → (Writes x (want_at R i) → ⊥) → (R.at (suc i)).cells x ≡ (R.at i).cells x
  cell_step x i h free = (R.goes i h).cell_kept x free

  pub cell_stays : (x i j : ℕ) → i ≤ j → j ≤ R.ends → ((b : ℕ) → i ≤ b → b < j → Writes x (want_at R b) → ⊥) → (R.at j).cells x ≡ (R.at i).cells x
  cell_stays x i j h k free =
      climb (λ n. (R.at n).cells x ≡ (R.at i).cells x) i j
      refl
      (λ n a b hyp. let in_run : n < R.ends = omega arith in cell_step x n in_run (free n a b) ∙ hyp)
      j h (omega arith)

  pub pay_step : (l : L) (k i : ℕ) → i < R.ends → k ≤ (R.at i).count l → (R.at (suc i)).pay l k ≡ (R.at i).pay l k
  pay_step l k i h low = (R.goes i h).pay_kept l k low

  pub pay_stays : (l : L) (k i j : ℕ) → i ≤ j → j ≤ R.ends → k ≤ (R.at i).count l → (R.at j).pay l k ≡ (R.at i).pay l k
  pay_stays l k i j h top low =
      climb (λ n. (R.at n).pay l k ≡ (R.at i).pay l k) i R.ends
      refl
      (λ n a b hyp.
      let more : (R.at i).count l ≤ (R.at n).count l = counts i n l a (omega arith) in
      let low2 : k ≤ (R.at n).count l = omega arith in
      pay_step l k n b low2 ∙ hyp)
      j h top

  pub syncs_own : (i : ℕ) → i < R.ends → M.synced ((R.at (suc i)).hist (R.who i)) ≡ tick (want_at R i) (M.synced ((R.at i).hist (R.who i)))
  syncs_own i h = ap M.synced (hist_own i h) ∙ R.laws.counted (R.who i) ((R.at i).hist (R.who i)) (answer_for M (R.at i) (want_at R i)) (number_for (R.at i) (want_at R i))

  pub syncs_step : (i q : ℕ) → i < R.ends → M.synced ((R.at i).hist q) ≤ M.synced ((R.at (suc i)).hist q)
  syncs_step i q h =
      ⊎_elim
      (λ (e : q ≡ R.who i).
      let t : (p : ℕ) → p ≡ R.who i → M.synced ((R.at i).hist p) ≤ M.synced ((R.at (suc i)).hist p) =
      λ p same. subst (λ (p : ℕ). M.synced ((R.at i).hist p) ≤ M.synced ((R.at (suc i)).hist p)) (sym same)
      (subst (λ (n : ℕ). M.synced ((R.at i).hist (R.who i)) ≤ n) (sym (syncs_own i h)) (tick_keeps (want_at R i) _)) in
      t q e)
      (λ (ne : q ≡ R.who i → ⊥).
      let same : M.synced ((R.at (suc i)).hist q) ≡ M.synced ((R.at i).hist q) = ap M.synced (hist_other i q h ne) in
      omega arith)
      (cases_eq q (R.who i))

  pub syncs_grow : (q i j : ℕ) → i ≤ j → j ≤ R.ends → M.synced ((R.at i).hist q) ≤ M.synced ((R.at j).hist q)
  syncs_grow q i j h top =
      climb (λ n. M.synced ((R.at i).hist q) ≤ M.synced ((R.at n).hist q)) i R.ends
      (omega arith)
      (λ n a b hyp. let s : M.synced ((R.at n).hist q) ≤ M.synced ((R.at (suc n)).hist q) = syncs_step n q b in omega arith)
      j h top

  -- a synchronization that is taken is ready, and its number is the next
  pub ready_at : (i : ℕ) (l : L) (v : V) → i < R.ends → want_at R i ≡ Sync l v → M.Ready l (R.at i).count
  ready_at i l v h e = subst (λ (n : Want L V). Enabled M (R.at i) n) e (R.enabled i h)

  pub count_taken : (i : ℕ) (l : L) (v : V) → i < R.ends → want_at R i ≡ Sync l v → (R.at (suc i)).count l ≡ suc ((R.at i).count l)
  count_taken i l v h e = (R.goes i h).count_new l v e

  -- what happened before is earlier
  pub hb_earlier : (i j : ℕ) → Hb R i j → i < j
  hb_earlier _ _ (Own i j h e) = h
  hb_earlier _ _ (Pair i j l l0 v v0 hi hj ei ej pairs) =
      ⊎_elim
      (λ (lt : i < j). lt)
      (λ (ge : j ≤ i).
      let low : suc ((R.at i).count l0) ≤ (R.at j).count l0 = R.laws.paired l (R.at j).count l0 _ (ready_at j l v hj ej) pairs in
      let more : (R.at j).count l0 ≤ (R.at i).count l0 = counts j i l0 ge (omega arith) in
      absurd (omega arith))
      (cases_lt i j)
  hb_earlier _ _ (Then i j k a b) =
      let x : i < j = hb_earlier i j a in
      let y : j < k = hb_earlier j k b in
      omega arith

-- the first step of a process from a time on
pub record FirstStep {H L V : Type 0} {M : Machine H L V} {first : Scene H L V} (R : Run M first) (p t top : ℕ) : Type 0 where
  pub time : ℕ
  pub low : t ≤ time
  pub high : time < top
  pub own : R.who time ≡ p
  pub none : (b : ℕ) → t ≤ b → b < time → R.who b ≢ p
  pub same : (R.at time).hist p ≡ (R.at t).hist p

pub record NoStep {H L V : Type 0} {M : Machine H L V} {first : Scene H L V} (R : Run M first) (p t top : ℕ) : Type 0 where
  pub none : (b : ℕ) → t ≤ b → b < top → R.who b ≢ p
  pub same : (R.at top).hist p ≡ (R.at t).hist p

module _ {H L V : Type 0} {M : Machine H L V} {first : Scene H L V} (R : Run M first) where
  first_more : (p t i : ℕ) → t ≤ i → i < R.ends → FirstStep R p t i ⊎ NoStep R p t i → FirstStep R p t (suc i) ⊎ NoStep R p t (suc i)
  first_more p t i h top (inl f) = inl (record { time = f.time; low = f.low; high = omega arith; own = f.own; none = f.none; same = f.same })
  first_more p t i h top (inr n) =
      ⊎_elim
      (λ (e : R.who i ≡ p). inl (record { time = i; low = h; high = omega arith; own = e; none = n.none; same = n.same }))
      (λ (ne : R.who i ≡ p → ⊥).
      inr (record {
        none = λ b lo hi. ⊎_elim
            (λ (lt : b < i). n.none b lo lt)
            (λ (ge : i ≤ b).
            let same : b ≡ i = omega arith in
            subst (λ (c : ℕ). R.who c ≢ p) (sym same) ne)
            (cases_lt b i);
        same = hist_other R i p top (λ (e : p ≡ R.who i). ne (sym e)) ∙ n.same;
      }))
      (cases_eq (R.who i) p)

  pub first_step : (p t : ℕ) → t ≤ R.ends → FirstStep R p t R.ends ⊎ NoStep R p t R.ends
  first_step p t h =
      climb (λ n. FirstStep R p t n ⊎ NoStep R p t n) t R.ends
      (inr (record { none = λ b lo hi. absurd (omega arith); same = refl }))
      (λ i lo hi hyp. first_more p t i lo hi hyp)
      R.ends h (omega arith)

-- the record's entries that a run has still to make have numbers above its counts
module _ {H L V : Type 0} {M : Machine H L V} {first : Scene H L V} (R : Run M first) (r : Record L) (h : HasRecord R r) where
  abbrev Later : ℕ → ℕ → ℕ → Type 0
  Later q j i = (s : ℕ) → M.synced ((R.at j).hist q) ≤ s → s < M.synced ((R.at i).hist q) → (R.at j).count (r.line q s) < r.number q s

  later_sync : (j i : ℕ) (l : L) (v : V) → j ≤ i → i < R.ends → want_at R i ≡ Sync l v → (s : ℕ) → s ≡ M.synced ((R.at i).hist (R.who i)) → (R.at j).count (r.line (R.who i) s) < r.number (R.who i) s
  later_sync j i l v lo hi e s is =
      let q = R.who i in
      let line : r.line q s ≡ l = ap (r.line q) is ∙ h.lines i l v hi e in
      let number : r.number q s ≡ suc ((R.at i).count l) = ap (r.number q) is ∙ h.numbers i l v hi e in
      let more : (R.at j).count l ≤ (R.at i).count l = counts R j i l lo (omega arith) in
      let at_line : (R.at j).count (r.line q s) ≡ (R.at j).count l = ap (R.at j).count line in
      omega arith

  later_need : (j i : ℕ) (n : Want L V) → want_at R i ≡ n → j ≤ i → i < R.ends → (s : ℕ) → M.synced ((R.at i).hist (R.who i)) ≤ s → s < tick n (M.synced ((R.at i).hist (R.who i))) → (R.at j).count (r.line (R.who i) s) < r.number (R.who i) s
  later_need j i Stop e lo hi s a b = absurd (omega arith)
  later_need j i Local e lo hi s a b = absurd (omega arith)
  later_need j i (Read x) e lo hi s a b = absurd (omega arith)
  later_need j i (Write x v) e lo hi s a b = absurd (omega arith)
  later_need j i (Sync l v) e lo hi s a b = later_sync j i l v lo hi e s (omega arith)

  later_more : (q j i : ℕ) → j ≤ i → i < R.ends → Later q j i → Later q j (suc i)
  later_more q j i lo hi hyp s a b =
      ⊎_elim
      (λ (lt : s < M.synced ((R.at i).hist q)). hyp s a lt)
      (λ (ge : M.synced ((R.at i).hist q) ≤ s).
      ⊎_elim
      (λ (e : q ≡ R.who i).
      let ge2 : M.synced ((R.at i).hist (R.who i)) ≤ s = subst (λ (p : ℕ). M.synced ((R.at i).hist p) ≤ s) e ge in
      let b2 : s < M.synced ((R.at (suc i)).hist (R.who i)) = subst (λ (p : ℕ). s < M.synced ((R.at (suc i)).hist p)) e b in
      let b3 : s < tick (want_at R i) (M.synced ((R.at i).hist (R.who i))) = subst (λ (n : ℕ). s < n) (syncs_own R i hi) b2 in
      subst (λ (p : ℕ). (R.at j).count (r.line p s) < r.number p s) (sym e)
      (later_need j i (want_at R i) refl lo hi s ge2 b3))
      (λ (ne : q ≡ R.who i → ⊥).
      let same : M.synced ((R.at (suc i)).hist q) ≡ M.synced ((R.at i).hist q) = ap M.synced (hist_other R i q hi ne) in
      absurd (omega arith))
      (cases_eq q (R.who i)))
      (cases_lt s (M.synced ((R.at i).hist q)))

  pub later : (q j s : ℕ) → j ≤ R.ends → M.synced ((R.at j).hist q) ≤ s → s < r.total q → (R.at j).count (r.line q s) < r.number q s
  later q j s lo a b =
      let end : s < M.synced ((R.at R.ends).hist q) = subst (λ (n : ℕ). s < n) (sym (h.totals q)) b in
      climb (λ n. Later q j n) j R.ends
      (λ s a b. absurd (omega arith))
      (λ i l u hyp. later_more q j i l u hyp)
      R.ends lo (omega arith) s a end

  pub follows : Follows R r
  follows = record {
    lines = h.lines;
    numbers = h.numbers;
    few = λ i q top.
        let grown : M.synced ((R.at i).hist q) ≤ M.synced ((R.at R.ends).hist q) = syncs_grow R q i R.ends top (omega arith) in
        let all : M.synced ((R.at R.ends).hist q) ≡ r.total q = h.totals q in
        omega arith;
    later = later;
  }
