-- A second run with the same record takes the same steps.
use Rattle.std.proofs.Common.{◌≡◌, ℕ, suc, ◌<◌, ◌≤◌, ◌⊎◌, ◌↔◌, Option, Some, None, refl, sym, ap, ap₂, ◌∙◌, subst, ⊎_elim, inl, inr, arith}
use Rattle.std.proofs.lemmas.Bool.{cases_eq, cases_lt}
use Rattle.law_steps.proofs.Machine.Model.{Want, Stop, Local, Read, Write, Sync, Scene, Machine, upd, value_of, answer_for, number_for, wants_of, Enabled, Run, IsFinal, want_at, tick, Record, HasRecord, Follows, Touches, Writes, IsOrdered}
use Rattle.law_steps.proofs.Machine.Runs.{upd_same, upd_at, upd_other, climb, hist_own, hist_other, count_step, count_taken, cell_step, cell_stays, pay_step, pay_stays, syncs_grow, syncs_own, ready_at, follows, FirstStep, NoStep, first_step}
use Rattle.law_steps.proofs.Machine.Cut.{Fits, Meets, meets, same_need, same_count, next_pairs, own_taken, own_before, key}

pub writes_touches : {L V : Type 0} (x : ℕ) (n : Want L V) → Writes x n → Touches x n
writes_touches x Stop h = h
writes_touches x Local h = h
writes_touches x (Read y) h = absurd h
writes_touches x (Write y v) h = h
writes_touches x (Sync l v) h = h

write_is : {L V : Type 0} (x : ℕ) (n : Want L V) → Writes x n → (v : V) × (n ≡ Write x v)
write_is x Stop h = absurd h
write_is x Local h = absurd h
write_is x (Read y) h = absurd h
write_is x (Write y v) h = (v, ap (λ (a : ℕ). Write a v) h)
write_is x (Sync l v) h = absurd h

writes_or_not : {L V : Type 0} (x : ℕ) (n : Want L V) → Writes x n ⊎ (Writes x n → ⊥)
writes_or_not x Stop = inr (λ h. h)
writes_or_not x Local = inr (λ h. h)
writes_or_not x (Read y) = inr (λ h. h)
writes_or_not x (Write y v) = cases_eq y x
writes_or_not x (Sync l v) = inr (λ h. h)

module _ {H L V : Type 0} {M : Machine H L V} {first : Scene H L V} (R : Run M first) (r : Record L) (has : HasRecord R r) (norace : IsOrdered R) (R2 : Run M first) (has2 : Follows R2 r) where
  module _ (j : ℕ) (lt : j < R2.ends) (cut : ℕ → ℕ) (fits : Fits R (R2.at j) cut) (m : Meets R R2 cut j) where
    unfoldable pub new_cut : ℕ → ℕ
    new_cut = upd cut (R2.who j) (suc m.time)

    -- what the new cut takes: what the old one took, and this step
    taken_then : (b : ℕ) → b < new_cut (R.who b) → (b < cut (R.who b)) ⊎ (b ≡ m.time)
    unfolding new_cut
    taken_then b t =
        ⊎_elim
        (λ (e : R.who b ≡ R2.who j).
        let new : upd cut (R2.who j) (suc m.time) (R.who b) ≡ suc m.time = upd_at cut (R2.who j) _ (R.who b) e in
        ⊎_elim
        (λ (before : b < m.time). inl (own_taken R r has R2 has2 j (omega arith) cut fits m b before e))
        (λ (from : m.time ≤ b). let same : b ≡ m.time = omega arith in inr same)
        (cases_lt b m.time))
        (λ (ne : R.who b ≡ R2.who j → ⊥).
        let new : upd cut (R2.who j) (suc m.time) (R.who b) ≡ cut (R.who b) = upd_other cut (R2.who j) _ (R.who b) ne in
        let old : b < cut (R.who b) = omega arith in
        inl old)
        (cases_eq (R.who b) (R2.who j))

    still_taken : (b : ℕ) → b < cut (R.who b) → b < new_cut (R.who b)
    unfolding new_cut
    still_taken b t =
        ⊎_elim
        (λ (e : R.who b ≡ R2.who j).
        let new : upd cut (R2.who j) (suc m.time) (R.who b) ≡ suc m.time = upd_at cut (R2.who j) _ (R.who b) e in
        let before : b < m.time = own_before R r has R2 has2 j (omega arith) cut fits m b t e in
        omega arith)
        (λ (ne : R.who b ≡ R2.who j → ⊥).
        let new : upd cut (R2.who j) (suc m.time) (R.who b) ≡ cut (R.who b) = upd_other cut (R2.who j) _ (R.who b) ne in
        omega arith)
        (cases_eq (R.who b) (R2.who j))

    now_taken : m.time < new_cut (R.who m.time)
    unfolding new_cut
    now_taken =
        let new : upd cut (R2.who j) (suc m.time) (R.who m.time) ≡ suc m.time = upd_at cut (R2.who j) _ (R.who m.time) m.own in
        omega arith

    need : want_at R m.time ≡ want_at R2 j
    need = same_need R r has R2 has2 j (omega arith) cut fits m

    -- a read finds the value that it found in the first run
    read_same : (x : ℕ) → want_at R m.time ≡ Read x → (R2.at j).cells x ≡ (R.at m.time).cells x
    read_same x e =
        fits.cells x m.time (let h : m.time < R.ends = m.in_run in omega arith)
        (λ b h w. key R r has R2 has2 j (omega arith) cut fits m norace b x h w (subst (λ (n : Want L V). Touches x n) (sym e) refl))

    value_same : (l : L) (v : V) (o : Option L) → M.source l ≡ o → want_at R m.time ≡ Sync l v → value_of M (R.at m.time) o (suc ((R.at m.time).count l)) ≡ value_of M (R2.at j) o (suc ((R2.at j).count l))
    value_same l v None s e = refl
    value_same l v (Some g) s e =
        let h : m.time < R.ends = m.in_run in
        let number : (R.at m.time).count l ≡ (R2.at j).count l = same_count R r has R2 has2 j (omega arith) cut fits m l v e in
        let low : (R.at m.time).count l < (R.at m.time).count g = R.laws.given l (R.at m.time).count g (ready_at R m.time l v h e) s in
        let low2 : (R2.at j).count l < (R2.at j).count g = R.laws.given l (R2.at j).count g (ready_at R2 j l v lt (sym need ∙ e)) s in
        sym (pay_stays R g (suc ((R.at m.time).count l)) m.time R.ends (omega arith) (omega arith) low)
        ∙ ap (λ (k : ℕ). (R.at R.ends).pay g (suc k)) number
        ∙ sym (fits.pay g (suc ((R2.at j).count l)) low2)

    answer_same : (n : Want L V) → want_at R m.time ≡ n → answer_for M (R.at m.time) n ≡ answer_for M (R2.at j) n
    answer_same Stop e = refl
    answer_same Local e = refl
    answer_same (Read x) e = sym (read_same x e)
    answer_same (Write x v) e = refl
    answer_same (Sync l v) e = value_same l v (M.source l) refl e

    number_same : (n : Want L V) → want_at R m.time ≡ n → number_for (R.at m.time) n ≡ number_for (R2.at j) n
    number_same Stop e = refl
    number_same Local e = refl
    number_same (Read x) e = refl
    number_same (Write x v) e = refl
    number_same (Sync l v) e = ap suc (same_count R r has R2 has2 j (omega arith) cut fits m l v e)

    own_hist : (R2.at (suc j)).hist (R2.who j) ≡ (R.at (suc m.time)).hist (R2.who j)
    own_hist =
        let n = want_at R m.time in
        hist_own R2 j lt
        ∙ ap (λ (k : Want L V). M.grow (R2.who j) ((R2.at j).hist (R2.who j)) (answer_for M (R2.at j) k) (number_for (R2.at j) k)) (sym need)
        ∙ ap₂ (λ (v : V) (k : ℕ). M.grow (R2.who j) ((R2.at j).hist (R2.who j)) v k) (sym (answer_same n refl)) (sym (number_same n refl))
        ∙ ap₂ (λ (p : ℕ) (h : H). M.grow p h (answer_for M (R.at m.time) n) (number_for (R.at m.time) n)) (sym m.own) (sym m.hist)
        ∙ sym (hist_own R m.time m.in_run)
        ∙ ap (R.at (suc m.time)).hist m.own

    new_hist : (q : ℕ) → (R2.at (suc j)).hist q ≡ (R.at (new_cut q)).hist q
    unfolding new_cut
    new_hist q =
        ⊎_elim
        (λ (e : q ≡ R2.who j).
        subst (λ (p : ℕ). (R2.at (suc j)).hist p ≡ (R.at (upd cut (R2.who j) (suc m.time) p)).hist p) (sym e)
        (own_hist ∙ ap (λ (t : ℕ). (R.at t).hist (R2.who j)) (sym (upd_same cut (R2.who j) (suc m.time)))))
        (λ (ne : q ≡ R2.who j → ⊥).
        hist_other R2 j q lt ne
        ∙ fits.hist q
        ∙ ap (λ (t : ℕ). (R.at t).hist q) (sym (upd_other cut (R2.who j) (suc m.time) q ne)))
        (cases_eq q (R2.who j))

    new_inside : (q : ℕ) → new_cut q ≤ R.ends
    unfolding new_cut
    new_inside q =
        ⊎_elim
        (λ (e : q ≡ R2.who j).
        let new : upd cut (R2.who j) (suc m.time) q ≡ suc m.time = upd_at cut (R2.who j) _ q e in
        let h : m.time < R.ends = m.in_run in
        omega arith)
        (λ (ne : q ≡ R2.who j → ⊥).
        let new : upd cut (R2.who j) (suc m.time) q ≡ cut q = upd_other cut (R2.who j) _ q ne in
        let h : cut q ≤ R.ends = fits.inside q in
        omega arith)
        (cases_eq q (R2.who j))

    new_closed : (b : ℕ) (l l0 : L) (k0 : ℕ) (v : V) → b < R.ends → b < new_cut (R.who b) → want_at R b ≡ Sync l v → M.Pairs l (suc ((R.at b).count l)) l0 k0 → k0 ≤ (R2.at (suc j)).count l0
    new_closed b l l0 k0 v h t e pairs =
        let grown : (R2.at j).count l0 ≤ (R2.at (suc j)).count l0 = count_step R2 j l0 lt in
        ⊎_elim
        (λ (old : b < cut (R.who b)).
        let low : k0 ≤ (R2.at j).count l0 = fits.closed b l l0 k0 v h old e pairs in
        omega arith)
        (λ (same : b ≡ m.time).
        let e2 : want_at R m.time ≡ Sync l v = subst (λ (c : ℕ). want_at R c ≡ Sync l v) same e in
        let pairs2 : M.Pairs l (suc ((R.at m.time).count l)) l0 k0 = subst (λ (c : ℕ). M.Pairs l (suc ((R.at c).count l)) l0 k0) same pairs in
        let low : k0 ≤ (R2.at j).count l0 = next_pairs R r has R2 has2 j (omega arith) cut fits m l l0 k0 v e2 pairs2 in
        omega arith)
        (taken_then b t)

    -- the new number's value
    pay_own : (l : L) (v : V) → want_at R m.time ≡ Sync l v → (R2.at (suc j)).pay l (suc ((R2.at j).count l)) ≡ (R.at R.ends).pay l (suc ((R2.at j).count l))
    pay_own l v e =
        let h : m.time < R.ends = m.in_run in
        let e2 : want_at R2 j ≡ Sync l v = sym need ∙ e in
        let number : (R.at m.time).count l ≡ (R2.at j).count l = same_count R r has R2 has2 j (omega arith) cut fits m l v e in
        let counted : (R.at (suc m.time)).count l ≡ suc ((R.at m.time).count l) = count_taken R m.time l v h e in
        let here : (R2.at (suc j)).pay l (suc ((R2.at j).count l)) ≡ v = (R2.goes j lt).pay_new l v e2 in
        let there : (R.at (suc m.time)).pay l (suc ((R.at m.time).count l)) ≡ v = (R.goes m.time h).pay_new l v e in
        here ∙ sym there
        ∙ sym (pay_stays R l (suc ((R.at m.time).count l)) (suc m.time) R.ends h (omega arith) (omega arith))
        ∙ ap (λ (k : ℕ). (R.at R.ends).pay l (suc k)) number

    new_pay : (l : L) (k : ℕ) → k ≤ (R2.at (suc j)).count l → (R2.at (suc j)).pay l k ≡ (R.at R.ends).pay l k
    new_pay l k h =
        ⊎_elim
        (λ (old : k ≤ (R2.at j).count l). pay_step R2 l k j lt old ∙ fits.pay l k old)
        (λ (new : (v : V) × (want_at R2 j ≡ Sync l v) × (k ≡ suc ((R2.at j).count l))).
        subst (λ (a : ℕ). (R2.at (suc j)).pay l a ≡ (R.at R.ends).pay l a) (sym new.2) (pay_own l new.0 (need ∙ new.1)))
        ((R2.goes j lt).count_old l k h)

    new_cells : (x i : ℕ) → i ≤ R.ends → ((b : ℕ) → b < R.ends → Writes x (want_at R b) → (b < i) ↔ (b < new_cut (R.who b))) → (R2.at (suc j)).cells x ≡ (R.at i).cells x
    new_cells x i top same =
        ⊎_elim
        (λ (w : Writes x (want_at R m.time)).
        let h : m.time < R.ends = m.in_run in
        let past : m.time < i = (same m.time h w).1 now_taken in
        let n : (v : V) × (want_at R m.time ≡ Write x v) = write_is x (want_at R m.time) w in
        let here : (R2.at (suc j)).cells x ≡ n.0 = (R2.goes j lt).cell_new x n.0 (sym need ∙ n.1) in
        let there : (R.at (suc m.time)).cells x ≡ n.0 = (R.goes m.time h).cell_new x n.0 n.1 in
        let none : (b : ℕ) → suc m.time ≤ b → b < i → Writes x (want_at R b) → ⊥ = λ b lo hi wb.
        let in_run : b < R.ends = omega arith in
        ⊎_elim
        (λ (old : b < cut (R.who b)).
        let before : b < m.time = (key R r has R2 has2 j (omega arith) cut fits m norace b x in_run wb (writes_touches x (want_at R m.time) w)).1 old in
        omega arith)
        (λ (is : b ≡ m.time). omega arith)
        (taken_then b ((same b in_run wb).0 hi)) in
        here ∙ sym there ∙ sym (cell_stays R x (suc m.time) i past top none))
        (λ (free : Writes x (want_at R m.time) → ⊥).
        let free2 : Writes x (want_at R2 j) → ⊥ = λ w. free (subst (λ (n : Want L V). Writes x n) (sym need) w) in
        cell_step R2 x j lt free2
        ∙ fits.cells x i top (λ b h w. (
          (λ before. ⊎_elim
              (λ (old : b < cut (R.who b)). old)
              (λ (is : b ≡ m.time). absurd (free (subst (λ (c : ℕ). Writes x (want_at R c)) is w)))
              (taken_then b ((same b h w).0 before))),
          (λ taken. (same b h w).1 (still_taken b taken)),
        )))
        (writes_or_not x (want_at R m.time))

    pub new_fits : Fits R (R2.at (suc j)) new_cut
    new_fits = record { inside = new_inside; hist = new_hist; closed = new_closed; cells = new_cells; pay = new_pay }

-- only a synchronization can be enabled in one world and not in another
enabled_or_sync : {H L V : Type 0} (M : Machine H L V) (w w2 : Scene H L V) (n : Want L V) → Enabled M w n → Enabled M w2 n ⊎ ((m : ℕ) → tick n m ≡ suc m)
enabled_or_sync M w w2 Stop h = absurd h
enabled_or_sync M w w2 Local h = inl tt
enabled_or_sync M w w2 (Read x) h = inl tt
enabled_or_sync M w w2 (Write x v) h = inl tt
enabled_or_sync M w w2 (Sync l v) h = inr (λ m. refl)

pub record Agrees {H L V : Type 0} {M : Machine H L V} {first : Scene H L V} (R R2 : Run M first) : Type 0 where
  pub hist : (q : ℕ) → (R2.at R2.ends).hist q ≡ (R.at R.ends).hist q
  pub cells : (x : ℕ) → (R2.at R2.ends).cells x ≡ (R.at R.ends).cells x

module _ {H L V : Type 0} {M : Machine H L V} {first : Scene H L V} (R : Run M first) (r : Record L) (has : HasRecord R r) (norace : IsOrdered R) (R2 : Run M first) (has2 : Follows R2 r) where
  start_fits : Fits R (R2.at 0) (λ q. 0)
  start_fits =
      record {
        inside = λ q. omega arith;
        hist = λ q. R2.starts.hist q ∙ sym (R.starts.hist q);
        closed = λ b l l0 k0 v h t e p. absurd (omega arith);
        cells = λ x i top taken.
            R2.starts.cells x ∙ sym (R.starts.cells x)
            ∙ sym (cell_stays R x 0 i (omega arith) top (λ b lo hi w.
            let in_run : b < R.ends = omega arith in
            let none : b < 0 = (taken b in_run w).0 hi in
            omega arith));
        pay = λ l k low.
            let same : (R2.at 0).count l ≡ (R.at 0).count l = R2.starts.count l ∙ sym (R.starts.count l) in
            let low2 : k ≤ (R.at 0).count l = omega arith in
            R2.starts.pay l k ∙ sym (R.starts.pay l k) ∙ sym (pay_stays R l k 0 R.ends (omega arith) (omega arith) low2);
      }

  -- the second run takes no step that the first does not have
  none_more : IsFinal R → (j : ℕ) → j < R2.ends → (cut : ℕ → ℕ) → Fits R (R2.at j) cut → NoStep R (R2.who j) (cut (R2.who j)) R.ends → ⊥
  none_more whole j lt cut fits n =
      let p = R2.who j in
      let same : (R2.at j).hist p ≡ (R.at R.ends).hist p = fits.hist p ∙ sym n.same in
      ⊎_elim
      (λ (e : Enabled M (R.at R.ends) (want_at R2 j)). whole p (subst (λ (h : H). Enabled M (R.at R.ends) (M.want p h)) same e))
      (λ (t : (m : ℕ) → tick (want_at R2 j) m ≡ suc m).
      let one : M.synced ((R2.at (suc j)).hist p) ≡ suc (M.synced ((R2.at j).hist p)) = syncs_own R2 j lt ∙ t _ in
      let most : M.synced ((R2.at (suc j)).hist p) ≤ r.total p = has2.few (suc j) p lt in
      let all : M.synced ((R.at R.ends).hist p) ≡ r.total p = has.totals p in
      let here : M.synced ((R2.at j).hist p) ≡ M.synced ((R.at R.ends).hist p) = ap M.synced same in
      omega arith)
      (enabled_or_sync M (R2.at j) (R.at R.ends) (want_at R2 j) (R2.enabled j lt))

  step_fits : IsFinal R → (j : ℕ) → j < R2.ends → (cut : ℕ → ℕ) × Fits R (R2.at j) cut → (cut : ℕ → ℕ) × Fits R (R2.at (suc j)) cut
  step_fits whole j lt f =
      ⊎_elim
      (λ (s : FirstStep R (R2.who j) (f.0 (R2.who j)) R.ends).
      let m : Meets R R2 f.0 j = meets R r has R2 has2 j (omega arith) f.0 f.1 lt s in
      (new_cut R r has norace R2 has2 j lt f.0 f.1 m, new_fits R r has norace R2 has2 j lt f.0 f.1 m))
      (λ (n : NoStep R (R2.who j) (f.0 (R2.who j)) R.ends). absurd (none_more whole j lt f.0 f.1 n))
      (first_step R (R2.who j) (f.0 (R2.who j)) (f.1.inside (R2.who j)))

  pub end_fits : IsFinal R → (cut : ℕ → ℕ) × Fits R (R2.at R2.ends) cut
  end_fits whole =
      climb (λ n. (cut : ℕ → ℕ) × Fits R (R2.at n) cut) 0 R2.ends
      ((λ q. 0), start_fits)
      (λ j lo lt f. step_fits whole j lt f)
      R2.ends (omega arith) (omega arith)

  -- the second run, once it is whole, lacks no step of the first
  none_left : ((p : ℕ) → M.synced ((R2.at R2.ends).hist p) ≡ r.total p) → IsFinal R2 → (cut : ℕ → ℕ) → Fits R (R2.at R2.ends) cut → (q : ℕ) → FirstStep R q (cut q) R.ends → ⊥
  none_left totals2 whole2 cut fits q s =
      let same : (R.at s.time).hist (R.who s.time) ≡ (R2.at R2.ends).hist q = ap (R.at s.time).hist s.own ∙ s.same ∙ sym (fits.hist q) in
      let needs : want_at R s.time ≡ wants_of M (R2.at R2.ends) q = ap₂ M.want s.own same in
      let h : s.time < R.ends = s.high in
      let p = R.who s.time in
      ⊎_elim
      (λ (e : Enabled M (R2.at R2.ends) (want_at R s.time)). whole2 q (subst (λ (n : Want L V). Enabled M (R2.at R2.ends) n) needs e))
      (λ (t : (m : ℕ) → tick (want_at R s.time) m ≡ suc m).
      let one : M.synced ((R.at (suc s.time)).hist p) ≡ suc (M.synced ((R.at s.time).hist p)) = syncs_own R s.time h ∙ t _ in
      let rest : M.synced ((R.at (suc s.time)).hist p) ≤ M.synced ((R.at R.ends).hist p) = syncs_grow R p (suc s.time) R.ends h (omega arith) in
      let all : M.synced ((R.at R.ends).hist p) ≡ r.total p = has.totals p in
      let all2 : M.synced ((R2.at R2.ends).hist q) ≡ r.total q = totals2 q in
      let totals : r.total p ≡ r.total q = ap r.total s.own in
      let here : M.synced ((R.at s.time).hist p) ≡ M.synced ((R2.at R2.ends).hist q) = ap M.synced same in
      omega arith)
      (enabled_or_sync M (R.at s.time) (R2.at R2.ends) (want_at R s.time) (R.enabled s.time h))

  -- a second run that lacks no step of the first comes to the same
  pub complete : (cut : ℕ → ℕ) → Fits R (R2.at R2.ends) cut → ((q : ℕ) → FirstStep R q (cut q) R.ends → ⊥) → Agrees R R2
  complete cut fits none =
      let left : (q : ℕ) → NoStep R q (cut q) R.ends = λ q.
      ⊎_elim
      (λ (s : FirstStep R q (cut q) R.ends). absurd (none q s))
      (λ (n : NoStep R q (cut q) R.ends). n)
      (first_step R q (cut q) (fits.inside q)) in
      record {
        hist = λ q. fits.hist q ∙ sym (left q).same;
        cells = λ x. fits.cells x R.ends (omega arith) (λ b h w. (
          (λ lt. ⊎_elim
              (λ (t : b < cut (R.who b)). t)
              (λ (ge : cut (R.who b) ≤ b). absurd ((left (R.who b)).none b ge h refl))
              (cases_lt b (cut (R.who b)))),
          (λ taken. h),
        ));
      }

-- whole runs with one record, of which the first has no race, agree
pub agree : {H L V : Type 0} {M : Machine H L V} {first : Scene H L V} (R : Run M first) (r : Record L) → HasRecord R r → IsOrdered R → (R2 : Run M first) → HasRecord R2 r → IsFinal R → IsFinal R2 → Agrees R R2
agree {M = M} R r has norace R2 has2 whole whole2 =
    let f : (cut : ℕ → ℕ) × Fits R (R2.at R2.ends) cut = end_fits R r has norace R2 (follows R2 r has2) whole in
    complete R r has norace R2 (follows R2 r has2) f.0 f.1 (none_left R r has norace R2 (follows R2 r has2) has2.totals whole2 f.0 f.1)
