-- Of numbers that never fall those below a limit stand first, and are found by halves.
use Rattle.std.proofs.Common.{◌≡◌, ℕ, zero, suc, ◌+◌, ◌-◌, ◌<◌, ◌≤◌, false, cond, List, [], ◌∷◌, Option, Some, None, refl, ap, sym, ◌∙◌, arith, filter, get_or, length, lt-ltb}
use Rattle.std.specs.Prelude.{nat_lt}
use Rattle.std.specs.List.Sorted.{IsNonDecreasing}
use Rattle.ppd_model.proofs.Lists.{get_or_any}
use Rattle.ppd_flow_tables.specs.LatestEdges.{last_below, last_or}
use Rattle.ppd_flow_tables.specs.Writing.{IsCut}

-- ---- halves

module _ (limit : ℕ) (numbers : List ℕ) where
  -- those before `low` are below the limit, and those from `high` on are not
  pub record Halved (low high : ℕ) : Type 0 where
    pub first : (k d : ℕ) → k < low → get_or numbers k d < limit
    pub others : (k d : ℕ) → high ≤ k → k < length numbers → limit ≤ get_or numbers k d

  pub halved_none : (n : ℕ) → n ≡ length numbers → Halved 0 n
  halved_none n e = record { first = λ k d lt. absurd (omega (arith, lt)); others = λ k d le there. absurd (omega (arith, e, le, there)) }

  pub halved_up : IsNonDecreasing numbers → (low high middle x d : ℕ) → middle < length numbers → x ≡ get_or numbers middle d → x < limit → Halved low high → Halved (middle + 1) high
  halved_up rises low high middle x d inside is below h = record {
    first = λ k e lt.
        let most = rises k middle e (omega (arith, lt)) inside in
        let same : get_or numbers middle e ≡ x = get_or_any numbers middle e d inside ∙ sym is in
        omega (arith, most, same, below);
    others = h.others;
  }

  pub halved_down : IsNonDecreasing numbers → (low high middle x d : ℕ) → middle < length numbers → x ≡ get_or numbers middle d → limit ≤ x → Halved low high → Halved low middle
  halved_down rises low high middle x d inside is above h = record {
    first = h.first;
    others = λ k e le there.
        let least = rises middle k e le there in
        let same : get_or numbers middle e ≡ x = get_or_any numbers middle e d inside ∙ sym is in
        omega (arith, least, same, above);
  }

  pub halved_cut : (low high : ℕ) → high ≤ low → low ≤ length numbers → Halved low high → IsCut limit numbers low
  halved_cut low high le within h = record { within = within; first = h.first; others = λ k d after there. h.others k d (omega (arith, le, after)) there }

-- ---- the last below the limit

above : (x limit : ℕ) → limit ≤ x → nat_lt x limit ≡ false
above x limit le = search (arith)

-- the number before place n, and this at the first place
abbrev place_before : Option ℕ → List ℕ → ℕ → ℕ → Option ℕ
place_before o xs d zero = o
place_before o xs d (suc n) = Some (get_or xs n d)

last_is : (limit : ℕ) (xs : List ℕ) (n d : ℕ) (o : Option ℕ) → n ≤ length xs → ((k : ℕ) → k < n → get_or xs k d < limit) → ((k : ℕ) → n ≤ k → k < length xs → limit ≤ get_or xs k d)
    → last_or o (filter (λ m. nat_lt m limit) xs) ≡ place_before o xs d n
last_is limit [] zero d o le first others = refl
last_is limit [] (suc n) d o le first others = absurd (omega (arith, le))
last_is limit (x ∷ xs) zero d o le first others =
    let rest : List ℕ = filter (λ m. nat_lt m limit) xs in
    ap (λ b. last_or o (cond b (x ∷ rest) rest)) (above x limit (others 0 (omega arith) (omega arith)))
    ∙ last_is limit xs zero d o (omega arith) (λ k lt. absurd (omega (arith, lt))) (λ k after there. others (suc k) (omega arith) (omega (arith, there)))
last_is limit (x ∷ xs) (suc n) d o le first others =
    let rest : List ℕ = filter (λ m. nat_lt m limit) xs in
    ap (λ b. last_or o (cond b (x ∷ rest) rest)) (lt-ltb x limit (first 0 (omega arith)))
    ∙ last_is limit xs n d (Some x) (omega (arith, le)) (λ k lt. first (suc k) (omega (arith, lt))) (λ k after there. others (suc k) (omega (arith, after)) (omega (arith, there)))
    ∙ shifted n
  where
    shifted : (m : ℕ) → place_before (Some x) xs d m ≡ Some (get_or (x ∷ xs) m d)
    shifted zero = refl
    shifted (suc m) = refl

pub none_below : (limit : ℕ) (numbers : List ℕ) (n : ℕ) → n ≡ 0 → IsCut limit numbers n → None ≡ last_below limit numbers
none_below limit numbers zero e cut = sym (last_is limit numbers 0 0 None cut.within (λ k lt. cut.first k 0 lt) (λ k after there. cut.others k 0 after there))
none_below limit numbers (suc n) e cut = absurd (omega (arith, e))

pub some_below : (limit : ℕ) (numbers : List ℕ) (n x d : ℕ) → (n ≡ 0 → ⊥) → x ≡ get_or numbers (n - 1) d → IsCut limit numbers n → Some x ≡ last_below limit numbers
some_below limit numbers zero x d other is cut = absurd (other refl)
some_below limit numbers (suc n) x d other is cut =
    let before : suc n - 1 ≡ n = omega arith in
    ap Some (is ∙ ap (λ k. get_or numbers k d) before)
    ∙ sym (last_is limit numbers (suc n) d None cut.within (λ k lt. cut.first k d lt) (λ k after there. cut.others k d after there))
