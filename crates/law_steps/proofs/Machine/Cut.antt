-- How far a second run has come in the first: for each process a time of the first run.
use Rattle.std.proofs.Common.{◌≡◌, ℕ, suc, ◌<◌, ◌≤◌, ◌≢◌, ◌↔◌, sym, ap, ap₂, ◌∙◌, subst, ⊎_elim, arith}
use Rattle.std.proofs.lemmas.Bool.{cases_eq, cases_lt}
use Rattle.law_steps.proofs.Machine.Model.{Want, Sync, Scene, Machine, Run, want_at, tick, Record, HasRecord, Follows, Hb, Own, Pair, Then, Touches, Writes, IsOrdered}
use Rattle.law_steps.proofs.Machine.Runs.{syncs_grow, syncs_own, ready_at, hb_earlier, FirstStep}

-- the world of the second run, and the cut that it stands at
pub record Fits {H L V : Type 0} {M : Machine H L V} {first : Scene H L V} (R : Run M first) (w : Scene H L V) (cut : ℕ → ℕ) : Type 0 where
  pub inside : (q : ℕ) → cut q ≤ R.ends
  -- each process has taken a prefix of its own steps
  pub hist : (q : ℕ) → w.hist q ≡ (R.at (cut q)).hist q
  -- what a taken synchronization waits for was done
  pub closed : (b : ℕ) (l l0 : L) (k0 : ℕ) (v : V) → b < R.ends → b < cut (R.who b) → want_at R b ≡ Sync l v → M.Pairs l (suc ((R.at b).count l)) l0 k0 → k0 ≤ w.count l0
  -- a cell is as at any time before which the same writes to it were made
  pub cells : (x i : ℕ) → i ≤ R.ends → ((b : ℕ) → b < R.ends → Writes x (want_at R b) → (b < i) ↔ (b < cut (R.who b))) → w.cells x ≡ (R.at i).cells x
  -- what a line was given is what it has at the end
  pub pay : (l : L) (k : ℕ) → k ≤ w.count l → w.pay l k ≡ (R.at R.ends).pay l k

-- what comes before this time was taken
pub record Settled {H L V : Type 0} {M : Machine H L V} {first : Scene H L V} (R : Run M first) (w : Scene H L V) (cut : ℕ → ℕ) (b : ℕ) : Type 0 where
  pub pairs : (l l0 : L) (k0 : ℕ) (v : V) → want_at R b ≡ Sync l v → M.Pairs l (suc ((R.at b).count l)) l0 k0 → k0 ≤ w.count l0
  pub before : (a : ℕ) → a < b → R.who a ≡ R.who b → a < cut (R.who a)

-- the step of the first run that the second takes next
pub record Meets {H L V : Type 0} {M : Machine H L V} {first : Scene H L V} (R R2 : Run M first) (cut : ℕ → ℕ) (j : ℕ) : Type 0 where
  pub time : ℕ
  pub in_run : time < R.ends
  pub in_second : j < R2.ends
  pub low : cut (R2.who j) ≤ time
  pub own : R.who time ≡ R2.who j
  pub none : (b : ℕ) → cut (R2.who j) ≤ b → b < time → R.who b ≢ R2.who j
  pub hist : (R.at time).hist (R.who time) ≡ (R2.at j).hist (R2.who j)

module _ {H L V : Type 0} {M : Machine H L V} {first : Scene H L V} (R : Run M first) (r : Record L) (has : HasRecord R r) (R2 : Run M first) (has2 : Follows R2 r) (j : ℕ) (in_second : j ≤ R2.ends) (cut : ℕ → ℕ) (fits : Fits R (R2.at j) cut) where
  settled_taken : (b : ℕ) → b < R.ends → b < cut (R.who b) → Settled R (R2.at j) cut b
  settled_taken b h t = record {
    pairs = λ l l0 k0 v e p. fits.closed b l l0 k0 v h t e p;
    before = λ a lt e. subst (λ (q : ℕ). a < cut q) (sym e) (omega arith);
  }

  -- a synchronization with a number up to the count of its line was taken
  entry_taken : (a : ℕ) (l : L) (v : V) → a < R.ends → want_at R a ≡ Sync l v → suc ((R.at a).count l) ≤ (R2.at j).count l → a < cut (R.who a)
  entry_taken a l v h e low =
      let q = R.who a in
      let s = M.synced ((R.at a).hist q) in
      ⊎_elim
      (λ (lt : a < cut q). lt)
      (λ (ge : cut q ≤ a).
      let here : M.synced ((R2.at j).hist q) ≡ M.synced ((R.at (cut q)).hist q) = ap M.synced (fits.hist q) in
      let grown : M.synced ((R.at (cut q)).hist q) ≤ s = syncs_grow R q (cut q) a ge (omega arith) in
      let one : M.synced ((R.at (suc a)).hist q) ≡ suc s = syncs_own R a h ∙ ap (λ (n : Want L V). tick n s) e in
      let rest : M.synced ((R.at (suc a)).hist q) ≤ M.synced ((R.at R.ends).hist q) = syncs_grow R q (suc a) R.ends h (omega arith) in
      let all : M.synced ((R.at R.ends).hist q) ≡ r.total q = has.totals q in
      let line : r.line q s ≡ l = has.lines a l v h e in
      let number : r.number q s ≡ suc ((R.at a).count l) = has.numbers a l v h e in
      let at_line : (R2.at j).count (r.line q s) ≡ (R2.at j).count l = ap (R2.at j).count line in
      let above : (R2.at j).count (r.line q s) < r.number q s = has2.later q j s in_second (omega arith) (omega arith) in
      absurd (omega arith))
      (cases_lt a (cut q))

  -- the taken steps are closed downward
  pub down : (a b : ℕ) → Hb R a b → b < R.ends → Settled R (R2.at j) cut b → a < cut (R.who a)
  down _ _ (Own a b lt e) h s = s.before a lt e
  down _ _ (Pair a b l l0 v v0 ha hb ea eb pairs) h s = entry_taken a l0 v0 ha ea (s.pairs l l0 _ v eb pairs)
  down _ _ (Then a b c x y) h s =
      let middle : b < cut (R.who b) = down b c y h s in
      let earlier : b < c = hb_earlier R b c y in
      let in_run : b < R.ends = omega arith in
      down a b x in_run (settled_taken b in_run middle)

  pub down_taken : (a b : ℕ) → Hb R a b → b < R.ends → b < cut (R.who b) → a < cut (R.who a)
  down_taken a b x h t = down a b x h (settled_taken b h t)

  pub meets : (lt : j < R2.ends) → FirstStep R (R2.who j) (cut (R2.who j)) R.ends → Meets R R2 cut j
  meets lt f = record {
    time = f.time;
    in_run = f.high;
    in_second = lt;
    low = f.low;
    own = f.own;
    none = f.none;
    hist = ap (R.at f.time).hist f.own ∙ f.same ∙ sym (fits.hist (R2.who j));
  }

  module _ (m : Meets R R2 cut j) where
    pub same_need : want_at R m.time ≡ want_at R2 j
    same_need = ap₂ M.want m.own m.hist

    pub same_count : (l : L) (v : V) → want_at R m.time ≡ Sync l v → (R.at m.time).count l ≡ (R2.at j).count l
    same_count l v e =
        let one : r.number (R.who m.time) (M.synced ((R.at m.time).hist (R.who m.time))) ≡ suc ((R.at m.time).count l) = has.numbers m.time l v m.in_run e in
        let two : r.number (R2.who j) (M.synced ((R2.at j).hist (R2.who j))) ≡ suc ((R2.at j).count l) = has2.numbers j l v m.in_second (sym same_need ∙ e) in
        let entry : r.number (R.who m.time) (M.synced ((R.at m.time).hist (R.who m.time))) ≡ r.number (R2.who j) (M.synced ((R2.at j).hist (R2.who j))) = ap₂ r.number m.own (ap M.synced m.hist) in
        omega arith

    pub next_pairs : (l l0 : L) (k0 : ℕ) (v : V) → want_at R m.time ≡ Sync l v → M.Pairs l (suc ((R.at m.time).count l)) l0 k0 → k0 ≤ (R2.at j).count l0
    next_pairs l l0 k0 v e pairs =
        R2.laws.paired l (R2.at j).count l0 k0 (ready_at R2 j l v m.in_second (sym same_need ∙ e))
        (subst (λ (n : ℕ). M.Pairs l (suc n) l0 k0) (same_count l v e) pairs)

    pub own_taken : (b : ℕ) → b < m.time → R.who b ≡ R2.who j → b < cut (R.who b)
    own_taken b lt e =
        ⊎_elim
        (λ (t : b < cut (R2.who j)). subst (λ (q : ℕ). b < cut q) (sym e) t)
        (λ (ge : cut (R2.who j) ≤ b). absurd (m.none b ge lt e))
        (cases_lt b (cut (R2.who j)))

    pub own_before : (b : ℕ) → b < cut (R.who b) → R.who b ≡ R2.who j → b < m.time
    own_before b t e =
        let t2 : b < cut (R2.who j) = subst (λ (q : ℕ). b < cut q) e t in
        let low : cut (R2.who j) ≤ m.time = m.low in
        omega arith

    pub settled_next : Settled R (R2.at j) cut m.time
    settled_next = record {
      pairs = next_pairs;
      before = λ a lt e. own_taken a lt (e ∙ m.own);
    }

    pub not_taken : m.time < cut (R.who m.time) → ⊥
    not_taken t =
        let t2 : m.time < cut (R2.who j) = subst (λ (q : ℕ). m.time < cut q) m.own t in
        let low : cut (R2.who j) ≤ m.time = m.low in
        omega arith

    -- of the writes to the cell that the next step touches, those were taken that came before it in the first run
    pub key : IsOrdered R → (b x : ℕ) → b < R.ends → Writes x (want_at R b) → Touches x (want_at R m.time) → (b < m.time) ↔ (b < cut (R.who b))
    key norace b x h w t =
        ⊎_elim
        (λ (e : R.who b ≡ R2.who j). ((λ lt. own_taken b lt e), (λ taken. own_before b taken e)))
        (λ (ne : R.who b ≡ R2.who j → ⊥).
        let ordered : (Hb R b m.time → ⊥) → (Hb R m.time b → ⊥) → ⊥ = norace b m.time x h m.in_run (λ e. ne (e ∙ m.own)) w t in (
          (λ lt. ⊎_elim
              (λ (taken : b < cut (R.who b)). taken)
              (λ (ge : cut (R.who b) ≤ b). absurd (ordered
              (λ hb. let taken : b < cut (R.who b) = down b m.time hb m.in_run settled_next in omega arith)
              (λ hb. let after : m.time < b = hb_earlier R m.time b hb in omega arith)))
              (cases_lt b (cut (R.who b)))),
          (λ taken. ⊎_elim
              (λ (lt : b < m.time). lt)
              (λ (ge : m.time ≤ b). absurd (ordered
              (λ hb. let before : b < m.time = hb_earlier R b m.time hb in omega arith)
              (λ hb. not_taken (down_taken m.time b hb h taken))))
              (cases_lt b m.time)),
        ))
        (cases_eq (R.who b) (R2.who j))
