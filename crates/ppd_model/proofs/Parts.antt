-- Lists of parts: each event is in one place, when it is put at the end of one of them.
use Rattle.std.proofs.Common.{◌≡◌, ℕ, zero, suc, ◌+◌, ◌<◌, List, [], ◌∷◌, ◌++◌, Option, Some, refl, ap, sym, subst, ◌∙◌, arith, length, get_or, inl, inr, ◌⊎◌, length-append}
use Rattle.std.specs.Prelude.{slice_get}
use Rattle.std.proofs.lemmas.Bool.{cases_lt}
use Rattle.std.proofs.lemmas.Option.{none-some}
use Rattle.ppd_model.specs.World.{change}
use Rattle.ppd_model.specs.Intervals.{Part, own, nested}
use Rattle.ppd_model.proofs.Changes.{length-change, some}
use Rattle.ppd_model.proofs.CountedOn.{last_at}

abbrev pub Parts : Type 0
Parts = List (List Part)

-- part j of list k
abbrev pub at : Parts → ℕ → ℕ → Option Part
at ps k j = slice_get (get_or ps k []) j

-- list k with one more part
abbrev pub put : Part → ℕ → Parts → Parts
put q k ps = change (λ xs. xs ++ q ∷ []) k ps

-- ---- one more part

cases_last : (xs : List Part) (q : Part) (j : ℕ) (r : Part) → slice_get (xs ++ q ∷ []) j ≡ Some r → (slice_get xs j ≡ Some r) ⊎ ((j ≡ length xs) × (q ≡ r))
cases_last [] q zero r e = inr (refl, some e)
cases_last [] q (suc j) r e = absurd (none-some r e)
cases_last (x ∷ xs) q zero r e = inl e
cases_last (x ∷ xs) q (suc j) r e = elim (cases_last xs q j r e) [ inl old ↦ inl old | inr new ↦ inr (ap suc new.0, new.1) ]

kept_first : (xs : List Part) (q : Part) (j : ℕ) (r : Part) → slice_get xs j ≡ Some r → slice_get (xs ++ q ∷ []) j ≡ Some r
kept_first [] q j r e = absurd (none-some r e)
kept_first (x ∷ xs) q zero r e = e
kept_first (x ∷ xs) q (suc j) r e = kept_first xs q j r e

put_cases : (q : Part) (k0 : ℕ) (ps : Parts) (k j : ℕ) (r : Part) → at (put q k0 ps) k j ≡ Some r → (at ps k j ≡ Some r) ⊎ ((k ≡ k0) × (j ≡ length (get_or ps k0 [])) × (q ≡ r))
put_cases q k0 [] k j r e = absurd (none-some r e)
put_cases q zero (xs ∷ rest) zero j r e = elim (cases_last xs q j r e) [ inl old ↦ inl old | inr new ↦ inr (refl, new.0, new.1) ]
put_cases q zero (xs ∷ rest) (suc k) j r e = inl e
put_cases q (suc k0) (xs ∷ rest) zero j r e = inl e
put_cases q (suc k0) (xs ∷ rest) (suc k) j r e = elim (put_cases q k0 rest k j r e) [ inl old ↦ inl old | inr new ↦ inr (ap suc new.0, new.1, new.2) ]

put_keeps : (q : Part) (k0 : ℕ) (ps : Parts) (k j : ℕ) (r : Part) → at ps k j ≡ Some r → at (put q k0 ps) k j ≡ Some r
put_keeps q k0 [] k j r e = e
put_keeps q zero (xs ∷ rest) zero j r e = kept_first xs q j r e
put_keeps q zero (xs ∷ rest) (suc k) j r e = e
put_keeps q (suc k0) (xs ∷ rest) zero j r e = e
put_keeps q (suc k0) (xs ∷ rest) (suc k) j r e = put_keeps q k0 rest k j r e

put_there : (q : Part) (k0 : ℕ) (ps : Parts) → k0 < length ps → at (put q k0 ps) k0 (length (get_or ps k0 [])) ≡ Some q
put_there q k0 [] lt = absurd (omega (arith, lt))
put_there q zero (xs ∷ rest) lt = last_at xs q
put_there q (suc k0) (xs ∷ rest) lt = put_there q k0 rest (omega (arith, lt))

-- a new list has no parts yet
new_list : (ps : Parts) (k j : ℕ) → at (ps ++ [] ∷ []) k j ≡ at ps k j
new_list [] zero j = refl
new_list [] (suc k) j = refl
new_list (xs ∷ rest) zero j = refl
new_list (xs ∷ rest) (suc k) j = new_list rest k j

-- ---- what the lists are

-- event n is in this place and in no other
pub record IsOnce (ps : Parts) (n : ℕ) : Type 0 where
  pub list : ℕ
  pub place : ℕ
  pub there : at ps list place ≡ Some (own n)
  pub once : (k j : ℕ) → at ps k j ≡ Some (own n) → (k ≡ list) × (j ≡ place)

-- the events are those below n, each in one place, and the nested numbers are of lists
pub record AreParts (ps : Parts) (n : ℕ) : Type 0 where
  pub events : (m : ℕ) → m < n → IsOnce ps m
  pub own_below : (k j m : ℕ) → at ps k j ≡ Some (own m) → m < n
  pub nested_below : (k j m : ℕ) → at ps k j ≡ Some (nested m) → m < length ps

own_is : {m n : ℕ} → own m ≡ own n → m ≡ n
own_is {m = m} e = ap (λ q. elim q [ own k ↦ k | nested k ↦ m ]) e

nested_is : {m n : ℕ} → nested m ≡ nested n → m ≡ n
nested_is {m = m} e = ap (λ q. elim q [ own k ↦ m | nested k ↦ k ]) e

not_own : {m n : ℕ} → nested m ≡ own n → ⊥
not_own e = cc

not_nested : {m n : ℕ} → own m ≡ nested n → ⊥
not_nested e = cc

-- the next event, in a list that is there
pub with_event : (ps : Parts) (n k0 : ℕ) → k0 < length ps → AreParts ps n → AreParts (put (own n) k0 ps) (n + 1)
with_event ps n k0 lt h = record {
  events = λ m below. elim (cases_lt m n) [ inl old ↦ kept m old (h.events m old) | inr ge ↦ new m (omega (arith, below, ge)) ];
  own_below = λ k j m e. elim (put_cases (own n) k0 ps k j (own m) e) [
    | inl old ↦ let less : m < n = h.own_below k j m old in omega (arith, less)
    | inr new ↦ let same : n ≡ m = own_is new.2 in omega (arith, same)
  ];
  nested_below = λ k j m e. elim (put_cases (own n) k0 ps k j (nested m) e) [
    | inl old ↦ subst (λ l. m < l) (sym (length-change (λ xs. xs ++ own n ∷ []) k0 ps)) (h.nested_below k j m old)
    | inr new ↦ absurd (not_nested new.2)
  ];
}
  where
    kept : (m : ℕ) → m < n → IsOnce ps m → IsOnce (put (own n) k0 ps) m
    kept m less o = record {
      list = o.list;
      place = o.place;
      there = put_keeps (own n) k0 ps o.list o.place (own m) o.there;
      once = λ k j e. elim (put_cases (own n) k0 ps k j (own m) e) [
        | inl old ↦ o.once k j old
        | inr new ↦ let same : n ≡ m = own_is new.2 in absurd (omega (arith, same, less))
      ];
    }

    new : (m : ℕ) → m ≡ n → IsOnce (put (own n) k0 ps) m
    new m is = record {
      list = k0;
      place = length (get_or ps k0 []);
      there = subst (λ l. at (put (own n) k0 ps) k0 (length (get_or ps k0 [])) ≡ Some (own l)) (sym is) (put_there (own n) k0 ps lt);
      once = λ k j e. elim (put_cases (own n) k0 ps k j (own m) e) [
        | inl old ↦ let less : m < n = h.own_below k j m old in absurd (omega (arith, less, is))
        | inr at_new ↦ (at_new.0, at_new.1)
      ];
    }

-- a new list
pub with_list : (ps : Parts) (n : ℕ) → AreParts ps n → AreParts (ps ++ [] ∷ []) n
with_list ps n h = record {
  events = λ m below. let o : IsOnce ps m = h.events m below in record {
    list = o.list;
    place = o.place;
    there = new_list ps o.list o.place ∙ o.there;
    once = λ k j e. o.once k j (sym (new_list ps k j) ∙ e);
  };
  own_below = λ k j m e. h.own_below k j m (sym (new_list ps k j) ∙ e);
  nested_below = λ k j m e.
      let less : m < length ps = h.nested_below k j m (sym (new_list ps k j) ∙ e) in
      let longer : length (ps ++ [] ∷ []) ≡ length ps + 1 = length-append ps ([] ∷ []) in
      omega (arith, less, longer);
}

module _ (ps : Parts) (n k0 : ℕ) where
  abbrev q : Part
  q = nested (length ps)

  abbrev more : Parts
  more = put q k0 ps

  -- a new list that stands in one of the lists
  pub with_nested : AreParts ps n → AreParts (more ++ [] ∷ []) n
  with_nested h = record {
    events = λ m below. let o : IsOnce ps m = h.events m below in record {
      list = o.list;
      place = o.place;
      there = new_list more o.list o.place ∙ put_keeps q k0 ps o.list o.place (own m) o.there;
      once = λ k j e. elim (put_cases q k0 ps k j (own m) (sym (new_list more k j) ∙ e)) [
        | inl old ↦ o.once k j old
        | inr new ↦ absurd (not_own new.2)
      ];
    };
    own_below = λ k j m e. elim (put_cases q k0 ps k j (own m) (sym (new_list more k j) ∙ e)) [
      | inl old ↦ h.own_below k j m old
      | inr new ↦ absurd (not_own new.2)
    ];
    nested_below = λ k j m e.
        let longer : length (more ++ [] ∷ []) ≡ length more + 1 = length-append more ([] ∷ []) in
        let same : length more ≡ length ps = length-change (λ xs. xs ++ q ∷ []) k0 ps in
        elim (put_cases q k0 ps k j (nested m) (sym (new_list more k j) ∙ e)) [
          | inl old ↦ let less : m < length ps = h.nested_below k j m old in omega (arith, less, longer, same)
          | inr new ↦ let is : length ps ≡ m = nested_is new.2 in omega (arith, is, longer, same)
        ];
  }
