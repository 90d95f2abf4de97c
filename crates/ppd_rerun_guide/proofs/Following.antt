-- A run that takes the synchronizations of another one's record, and stops only where nothing of the record can be taken,
-- comes to the same, where the other is final and has no race.
use Rattle.std.proofs.Common.{◌≡◌, ℕ, zero, suc, ◌<◌, ◌≤◌, refl, sym, ap, ◌∙◌, subst, ⊎_elim, arith}
use Rattle.std.proofs.lemmas.Bool.{cases_eq, cases_lt}
use Rattle.law_steps.proofs.Machine.Model.{Want, Stop, Local, Read, Write, Sync, Scene, Machine, wants_of, Enabled, Run, IsFinal, want_at, tick, Record, HasRecord, Follows, IsOrdered}
use Rattle.law_steps.proofs.Machine.Runs.{climb, hist_other, count_step, counts, count_taken, syncs_step, syncs_grow, syncs_own, follows, later, FirstStep}
use Rattle.law_steps.proofs.Machine.Cut.{Fits}
use Rattle.law_steps.proofs.Machine.Meeting.{Agrees, complete, end_fits}

-- each synchronization that the run takes is the next one of its process in the record
pub record Takes {H L V : Type 0} {M : Machine H L V} {first : Scene H L V} (R : Run M first) (r : Record L) : Type 0 where
  pub lines : (i : ℕ) (l : L) (v : V) → i < R.ends → want_at R i ≡ Sync l v → r.line (R.who i) (M.synced ((R.at i).hist (R.who i))) ≡ l
  pub numbers : (i : ℕ) (l : L) (v : V) → i < R.ends → want_at R i ≡ Sync l v → r.number (R.who i) (M.synced ((R.at i).hist (R.who i))) ≡ suc ((R.at i).count l)
  pub there : (i : ℕ) (l : L) (v : V) → i < R.ends → want_at R i ≡ Sync l v → M.synced ((R.at i).hist (R.who i)) < r.total (R.who i)

-- the process is at a synchronization that is not its next one in the record
pub record Waits {H L V : Type 0} (M : Machine H L V) (w : Scene H L V) (r : Record L) (p : ℕ) : Type 0 where
  pub line : L
  pub value : V
  pub is : wants_of M w p ≡ Sync line value
  pub other : M.synced (w.hist p) < r.total p → r.line p (M.synced (w.hist p)) ≡ line → r.number p (M.synced (w.hist p)) ≡ suc (w.count line) → ⊥

-- the run takes the record's synchronizations, and where it stops, who can still step waits
pub record IsGuided {H L V : Type 0} {M : Machine H L V} {first : Scene H L V} (R : Run M first) (r : Record L) : Type 0 where
  pub takes : Takes R r
  pub stops : (p : ℕ) → Enabled M (R.at R.ends) (wants_of M (R.at R.ends) p) → Waits M (R.at R.ends) r p

-- each entry stands in the record once
abbrev pub IsOnce : {L : Type 0} → Record L → Type 0
IsOnce r = (p q s t : ℕ) → s < r.total p → t < r.total q → r.line p s ≡ r.line q t → r.number p s ≡ r.number q t → (p ≡ q) × (s ≡ t)

-- a line that is free stays free where other lines have more
abbrev pub IsMonotone : {H L V : Type 0} → Machine H L V → Type 0
IsMonotone {L = L} M = (l : L) (c d : L → ℕ) → M.Ready l c → c l ≡ d l → ((k : L) → c k ≤ d k) → M.Ready l d

-- ---- a run that has a record takes it

module _ {H L V : Type 0} {M : Machine H L V} {first : Scene H L V} (R : Run M first) (r : Record L) (has : HasRecord R r) where
  pub takes_own : Takes R r
  takes_own = record {
    lines = has.lines;
    numbers = has.numbers;
    there = λ i l v lt e.
        let q = R.who i in
        let one : M.synced ((R.at (suc i)).hist q) ≡ suc (M.synced ((R.at i).hist q)) = syncs_own R i lt ∙ ap (λ (n : Want L V). tick n (M.synced ((R.at i).hist q))) e in
        let most : M.synced ((R.at (suc i)).hist q) ≤ r.total q = (follows R r has).few (suc i) q lt in
        omega arith;
  }

-- ---- what was taken has numbers up to the counts

module _ {H L V : Type 0} {M : Machine H L V} {first : Scene H L V} (R : Run M first) (r : Record L) (t : Takes R r) (fresh : (q : ℕ) → M.synced (first.hist q) ≡ 0) where
  made_now : (i : ℕ) (n : Want L V) → want_at R i ≡ n → i < R.ends → (s : ℕ) → M.synced ((R.at i).hist (R.who i)) ≤ s → s < tick n (M.synced ((R.at i).hist (R.who i))) → r.number (R.who i) s ≤ (R.at (suc i)).count (r.line (R.who i) s)
  made_now i Stop e lt s a b = absurd (omega arith)
  made_now i Local e lt s a b = absurd (omega arith)
  made_now i (Read x) e lt s a b = absurd (omega arith)
  made_now i (Write x v) e lt s a b = absurd (omega arith)
  made_now i (Sync l v) e lt s a b =
      let q = R.who i in
      let is : s ≡ M.synced ((R.at i).hist q) = omega arith in
      let line : r.line q s ≡ l = ap (r.line q) is ∙ t.lines i l v lt e in
      let number : r.number q s ≡ suc ((R.at i).count l) = ap (r.number q) is ∙ t.numbers i l v lt e in
      let up : (R.at (suc i)).count l ≡ suc ((R.at i).count l) = count_taken R i l v lt e in
      let at_line : (R.at (suc i)).count (r.line q s) ≡ (R.at (suc i)).count l = ap (R.at (suc i)).count line in
      omega arith

  abbrev Made : ℕ → Type 0
  Made j = (q s : ℕ) → s < M.synced ((R.at j).hist q) → r.number q s ≤ (R.at j).count (r.line q s)

  made_more : (i : ℕ) → i < R.ends → Made i → Made (suc i)
  made_more i lt hyp q s low =
      ⊎_elim
      (λ (old : s < M.synced ((R.at i).hist q)).
      let before : r.number q s ≤ (R.at i).count (r.line q s) = hyp q s old in
      let up : (R.at i).count (r.line q s) ≤ (R.at (suc i)).count (r.line q s) = count_step R i (r.line q s) lt in
      omega arith)
      (λ (ge : M.synced ((R.at i).hist q) ≤ s).
      ⊎_elim
      (λ (e : q ≡ R.who i).
      let ge2 : M.synced ((R.at i).hist (R.who i)) ≤ s = subst (λ (p : ℕ). M.synced ((R.at i).hist p) ≤ s) e ge in
      let low2 : s < M.synced ((R.at (suc i)).hist (R.who i)) = subst (λ (p : ℕ). s < M.synced ((R.at (suc i)).hist p)) e low in
      let low3 : s < tick (want_at R i) (M.synced ((R.at i).hist (R.who i))) = subst (λ (n : ℕ). s < n) (syncs_own R i lt) low2 in
      subst (λ (p : ℕ). r.number p s ≤ (R.at (suc i)).count (r.line p s)) (sym e) (made_now i (want_at R i) refl lt s ge2 low3))
      (λ (ne : q ≡ R.who i → ⊥).
      let same : M.synced ((R.at (suc i)).hist q) ≡ M.synced ((R.at i).hist q) = ap M.synced (hist_other R i q lt ne) in
      absurd (omega arith))
      (cases_eq q (R.who i)))
      (cases_lt s (M.synced ((R.at i).hist q)))

  made_first : Made 0
  made_first q s low =
      let none : M.synced ((R.at 0).hist q) ≡ 0 = ap M.synced (R.starts.hist q) ∙ fresh q in
      absurd (omega arith)

  pub made : (j : ℕ) → j ≤ R.ends → Made j
  made j top = climb Made 0 R.ends made_first (λ i a b hyp. made_more i b hyp) j (omega arith) top

-- ---- what is left has numbers above the counts

module _ {H L V : Type 0} {M : Machine H L V} {first : Scene H L V} (R : Run M first) (r : Record L) (has : HasRecord R r) (once : IsOnce r) (R2 : Run M first) (t : Takes R2 r) where
  abbrev Ahead : ℕ → Type 0
  Ahead j = (q s : ℕ) → M.synced ((R2.at j).hist q) ≤ s → s < r.total q → (R2.at j).count (r.line q s) < r.number q s

  ahead_first : Ahead 0
  ahead_first q s low top =
      let here : M.synced ((R2.at 0).hist q) ≡ M.synced ((R.at 0).hist q) = ap M.synced (R2.starts.hist q ∙ sym (R.starts.hist q)) in
      let same : (R2.at 0).count (r.line q s) ≡ (R.at 0).count (r.line q s) = R2.starts.count (r.line q s) ∙ sym (R.starts.count (r.line q s)) in
      let above : (R.at 0).count (r.line q s) < r.number q s = later R r has q 0 s (omega arith) (omega arith) top in
      omega arith

  ahead_more : (i : ℕ) → i < R2.ends → Ahead i → Ahead (suc i)
  ahead_more i lt hyp q s low top =
      let l = r.line q s in
      let grown : M.synced ((R2.at i).hist q) ≤ M.synced ((R2.at (suc i)).hist q) = syncs_step R2 i q lt in
      let above : (R2.at i).count l < r.number q s = hyp q s (omega arith) top in
      ⊎_elim
      (λ (less : (R2.at (suc i)).count l < r.number q s). less)
      (λ (ge : r.number q s ≤ (R2.at (suc i)).count l).
      ⊎_elim
      (λ (old : r.number q s ≤ (R2.at i).count l). absurd (omega arith))
      (λ (new : (v : V) × (want_at R2 i ≡ Sync l v) × (r.number q s ≡ suc ((R2.at i).count l))).
      let p = R2.who i in
      let n = M.synced ((R2.at i).hist p) in
      let both : (q ≡ p) × (s ≡ n) = once q p s n top (t.there i l new.0 lt new.1) (sym (t.lines i l new.0 lt new.1)) (new.2 ∙ sym (t.numbers i l new.0 lt new.1)) in
      let one : M.synced ((R2.at (suc i)).hist p) ≡ suc n = syncs_own R2 i lt ∙ ap (λ (w : Want L V). tick w n) new.1 in
      let low2 : M.synced ((R2.at (suc i)).hist p) ≤ s = subst (λ (x : ℕ). M.synced ((R2.at (suc i)).hist x) ≤ s) both.0 low in
      let is : s ≡ n = both.1 in
      absurd (omega arith))
      ((R2.goes i lt).count_old l (r.number q s) ge))
      (cases_lt ((R2.at (suc i)).count l) (r.number q s))

  few_now : (i : ℕ) (n : Want L V) → want_at R2 i ≡ n → i < R2.ends → M.synced ((R2.at i).hist (R2.who i)) ≤ r.total (R2.who i) → tick n (M.synced ((R2.at i).hist (R2.who i))) ≤ r.total (R2.who i)
  few_now i Stop e lt hyp = hyp
  few_now i Local e lt hyp = hyp
  few_now i (Read x) e lt hyp = hyp
  few_now i (Write x v) e lt hyp = hyp
  few_now i (Sync l v) e lt hyp = t.there i l v lt e

  abbrev AreFew : ℕ → Type 0
  AreFew i = (q : ℕ) → M.synced ((R2.at i).hist q) ≤ r.total q

  few_more : (i : ℕ) → i < R2.ends → AreFew i → AreFew (suc i)
  few_more i lt hyp q =
      ⊎_elim
      (λ (e : q ≡ R2.who i).
      subst (λ (p : ℕ). M.synced ((R2.at (suc i)).hist p) ≤ r.total p) (sym e)
      (subst (λ (n : ℕ). n ≤ r.total (R2.who i)) (sym (syncs_own R2 i lt)) (few_now i (want_at R2 i) refl lt (hyp (R2.who i)))))
      (λ (ne : q ≡ R2.who i → ⊥).
      subst (λ (n : ℕ). n ≤ r.total q) (sym (ap M.synced (hist_other R2 i q lt ne))) (hyp q))
      (cases_eq q (R2.who i))

  few_first : AreFew 0
  few_first q =
      let here : M.synced ((R2.at 0).hist q) ≡ M.synced ((R.at 0).hist q) = ap M.synced (R2.starts.hist q ∙ sym (R.starts.hist q)) in
      let most : M.synced ((R.at 0).hist q) ≤ r.total q = (follows R r has).few 0 q (omega arith) in
      omega arith

  pub followed : Follows R2 r
  followed = record {
    lines = t.lines;
    numbers = t.numbers;
    few = λ i q top. climb AreFew 0 R2.ends few_first (λ j a b hyp. few_more j b hyp) i (omega arith) top q;
    later = λ q j s top low in_record. climb Ahead 0 R2.ends ahead_first (λ i a b hyp. ahead_more i b hyp) j (omega arith) top q s low in_record;
  }

-- ---- who is enabled

-- only a synchronization can be enabled in one scene and not in another
transfer : {H L V : Type 0} (M : Machine H L V) (w w2 : Scene H L V) (n : Want L V) → Enabled M w n → ((l : L) (v : V) → n ≡ Sync l v → M.Ready l w.count → M.Ready l w2.count) → Enabled M w2 n
transfer M w w2 Stop h k = h
transfer M w w2 Local h k = tt
transfer M w w2 (Read x) h k = tt
transfer M w w2 (Write x v) h k = tt
transfer M w w2 (Sync l v) h k = k l v refl h

-- ---- the end

pub record Comes {H L V : Type 0} {M : Machine H L V} {first : Scene H L V} (R R2 : Run M first) : Type 0 where
  pub agrees : Agrees R R2
  pub final : IsFinal R2

module _ {H L V : Type 0} {M : Machine H L V} {first : Scene H L V} (R : Run M first) (r : Record L) (has : HasRecord R r) (norace : IsOrdered R) (whole : IsFinal R) (R2 : Run M first) (g : IsGuided R2 r) (fresh : (q : ℕ) → M.synced (first.hist q) ≡ 0) (once : IsOnce r) (mono : IsMonotone M) where
  two : Follows R2 r
  two = followed R r has once R2 g.takes

  module _ (cut : ℕ → ℕ) (fits : Fits R (R2.at R2.ends) cut) where
    -- a synchronization that was taken is counted
    reached : (i : ℕ) (l : L) (v : V) → i < R.ends → i < cut (R.who i) → want_at R i ≡ Sync l v → suc ((R.at i).count l) ≤ (R2.at R2.ends).count l
    reached i l v lt t e =
        let q = R.who i in
        let s = M.synced ((R.at i).hist q) in
        let one : M.synced ((R.at (suc i)).hist q) ≡ suc s = syncs_own R i lt ∙ ap (λ (n : Want L V). tick n s) e in
        let rest : M.synced ((R.at (suc i)).hist q) ≤ M.synced ((R.at (cut q)).hist q) = syncs_grow R q (suc i) (cut q) t (fits.inside q) in
        let here : M.synced ((R2.at R2.ends).hist q) ≡ M.synced ((R.at (cut q)).hist q) = ap M.synced (fits.hist q) in
        let line : r.line q s ≡ l = has.lines i l v lt e in
        let number : r.number q s ≡ suc ((R.at i).count l) = has.numbers i l v lt e in
        let low : r.number q s ≤ (R2.at R2.ends).count (r.line q s) = made R2 r g.takes fresh R2.ends (omega arith) q s (omega arith) in
        let at_line : (R2.at R2.ends).count (r.line q s) ≡ (R2.at R2.ends).count l = ap (R2.at R2.ends).count line in
        omega arith

    -- what came before a time up to which all was taken is counted
    counts_to : (n : ℕ) → n ≤ R.ends → ((b : ℕ) → b < n → b < cut (R.who b)) → (l : L) → (R.at n).count l ≤ (R2.at R2.ends).count l
    counts_to n top before l =
        climb (λ m. (R.at m).count l ≤ (R2.at R2.ends).count l) 0 n
        (let same : (R.at 0).count l ≡ (R2.at 0).count l = R.starts.count l ∙ sym (R2.starts.count l) in
        let grown : (R2.at 0).count l ≤ (R2.at R2.ends).count l = counts R2 0 R2.ends l (omega arith) (omega arith) in
        omega arith)
        (λ i a b hyp.
        let lt : i < R.ends = omega arith in
        ⊎_elim
        (λ (old : (R.at (suc i)).count l ≤ (R.at i).count l). omega arith)
        (λ (new : (v : V) × (want_at R i ≡ Sync l v) × ((R.at (suc i)).count l ≡ suc ((R.at i).count l))).
        let low : suc ((R.at i).count l) ≤ (R2.at R2.ends).count l = reached i l new.0 lt (before i b) new.1 in
        let is : (R.at (suc i)).count l ≡ suc ((R.at i).count l) = new.2 in
        omega arith)
        ((R.goes i lt).count_old l ((R.at (suc i)).count l) (omega arith)))
        n (omega arith) (omega arith)

    -- the first step that was not taken could be taken
    stuck : (n : ℕ) → n < R.ends → ((b : ℕ) → b < n → b < cut (R.who b)) → cut (R.who n) ≤ n → ⊥
    stuck n lt before ge =
        let p = R.who n in
        let still : (R.at n).hist p ≡ (R.at (cut p)).hist p =
        climb (λ m. (R.at m).hist p ≡ (R.at (cut p)).hist p) (cut p) n refl
        (λ i a b hyp.
        let in_run : i < R.ends = omega arith in
        hist_other R i p in_run
        (λ (e : p ≡ R.who i).
        let taken : i < cut p = subst (λ (q : ℕ). i < cut q) (sym e) (before i b) in
        omega arith)
        ∙ hyp)
        n ge (omega arith) in
        let same : (R.at n).hist p ≡ (R2.at R2.ends).hist p = still ∙ sym (fits.hist p) in
        let needs : want_at R n ≡ wants_of M (R2.at R2.ends) p = ap (M.want p) same in
        let syncs : M.synced ((R.at n).hist p) ≡ M.synced ((R2.at R2.ends).hist p) = ap M.synced same in
        let top : n ≤ R.ends = omega arith in
        let equal : (l : L) (v : V) → want_at R n ≡ Sync l v → (R.at n).count l ≡ (R2.at R2.ends).count l =
        λ l v e.
        let s = M.synced ((R.at n).hist p) in
        let line : r.line p s ≡ l = has.lines n l v lt e in
        let number : r.number p s ≡ suc ((R.at n).count l) = has.numbers n l v lt e in
        let there : s < r.total p = (takes_own R r has).there n l v lt e in
        let above : (R2.at R2.ends).count (r.line p s) < r.number p s = two.later p R2.ends s (omega arith) (omega arith) there in
        let at_line : (R2.at R2.ends).count (r.line p s) ≡ (R2.at R2.ends).count l = ap (R2.at R2.ends).count line in
        let below : (R.at n).count l ≤ (R2.at R2.ends).count l = counts_to n top before l in
        omega arith in
        let can : Enabled M (R2.at R2.ends) (want_at R n) =
        transfer M (R.at n) (R2.at R2.ends) (want_at R n) (R.enabled n lt)
        (λ l v e h. mono l (R.at n).count (R2.at R2.ends).count h (equal l v e) (counts_to n top before)) in
        let w : Waits M (R2.at R2.ends) r p = g.stops p (subst (λ (x : Want L V). Enabled M (R2.at R2.ends) x) needs can) in
        let e : want_at R n ≡ Sync w.line w.value = needs ∙ w.is in
        w.other
        (subst (λ (s : ℕ). s < r.total p) syncs ((takes_own R r has).there n w.line w.value lt e))
        (ap (r.line p) (sym syncs) ∙ has.lines n w.line w.value lt e)
        (ap (r.number p) (sym syncs) ∙ has.numbers n w.line w.value lt e ∙ ap suc (equal w.line w.value e))

    all_taken : (n : ℕ) → n ≤ R.ends → (b : ℕ) → b < n → b < cut (R.who b)
    all_taken zero top b lt = absurd (omega arith)
    all_taken (suc n) top b lt =
        let top2 : n ≤ R.ends = omega arith in
        ⊎_elim
        (λ (old : b < n). all_taken n top2 b old)
        (λ (ge : n ≤ b).
        let is : b ≡ n = omega arith in
        subst (λ (c : ℕ). c < cut (R.who c)) (sym is)
        (⊎_elim
        (λ (t : n < cut (R.who n)). t)
        (λ (not : cut (R.who n) ≤ n). absurd (stuck n top (all_taken n top2) not))
        (cases_lt n (cut (R.who n)))))
        (cases_lt b n)

    none : (q : ℕ) → FirstStep R q (cut q) R.ends → ⊥
    none q s =
        let taken : s.time < cut q = subst (λ (p : ℕ). s.time < cut p) s.own (all_taken R.ends (omega arith) s.time s.high) in
        let low : cut q ≤ s.time = s.low in
        omega arith

    -- no more is counted than at the end of the first run
    bound : (l : L) (j : ℕ) → j ≤ R2.ends → (R2.at j).count l ≤ (R.at R.ends).count l
    bound l j top =
        climb (λ m. (R2.at m).count l ≤ (R.at R.ends).count l) 0 R2.ends
        (let same : (R2.at 0).count l ≡ (R.at 0).count l = R2.starts.count l ∙ sym (R.starts.count l) in
        let grown : (R.at 0).count l ≤ (R.at R.ends).count l = counts R 0 R.ends l (omega arith) (omega arith) in
        omega arith)
        (λ i a b hyp.
        ⊎_elim
        (λ (old : (R2.at (suc i)).count l ≤ (R2.at i).count l). omega arith)
        (λ (new : (v : V) × (want_at R2 i ≡ Sync l v) × ((R2.at (suc i)).count l ≡ suc ((R2.at i).count l))).
        let p = R2.who i in
        let s = M.synced ((R2.at i).hist p) in
        let line : r.line p s ≡ l = g.takes.lines i l new.0 b new.1 in
        let number : r.number p s ≡ suc ((R2.at i).count l) = g.takes.numbers i l new.0 b new.1 in
        let there : s < r.total p = g.takes.there i l new.0 b new.1 in
        let all : M.synced ((R.at R.ends).hist p) ≡ r.total p = has.totals p in
        let low : r.number p s ≤ (R.at R.ends).count (r.line p s) = made R r (takes_own R r has) fresh R.ends (omega arith) p s (omega arith) in
        let at_line : (R.at R.ends).count (r.line p s) ≡ (R.at R.ends).count l = ap (R.at R.ends).count line in
        let is : (R2.at (suc i)).count l ≡ suc ((R2.at i).count l) = new.2 in
        omega arith)
        ((R2.goes i b).count_old l ((R2.at (suc i)).count l) (omega arith)))
        j (omega arith) top

    agrees : Agrees R R2
    agrees = complete R r has norace R2 two cut fits none

    final : IsFinal R2
    final p free =
        let same : (R2.at R2.ends).hist p ≡ (R.at R.ends).hist p = agrees.hist p in
        let equal : (l : L) → (R2.at R2.ends).count l ≡ (R.at R.ends).count l =
        λ l.
        let up : (R2.at R2.ends).count l ≤ (R.at R.ends).count l = bound l R2.ends (omega arith) in
        let down : (R.at R.ends).count l ≤ (R2.at R2.ends).count l = counts_to R.ends (omega arith) (all_taken R.ends (omega arith)) l in
        omega arith in
        let can : Enabled M (R.at R.ends) (wants_of M (R2.at R2.ends) p) =
        transfer M (R2.at R2.ends) (R.at R.ends) (wants_of M (R2.at R2.ends) p) free
        (λ l v e h. mono l (R2.at R2.ends).count (R.at R.ends).count h (equal l) (λ k. bound k R2.ends (omega arith))) in
        whole p (subst (λ (h : H). Enabled M (R.at R.ends) (M.want p h)) same can)

  -- the guided run comes to what the first one came to, and it is final
  pub comes : Comes R R2
  comes =
      let f : (cut : ℕ → ℕ) × Fits R (R2.at R2.ends) cut = end_fits R r has norace R2 two whole in
      record { agrees = agrees f.0 f.1; final = final f.0 f.1 }
