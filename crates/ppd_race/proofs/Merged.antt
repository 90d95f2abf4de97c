-- Two rising lists of cells as one.
use Rattle.std.proofs.Common.{◌≡◌, ℕ, zero, suc, ◌+◌, ◌<◌, ◌≤◌, List, [], ◌∷◌, ◌++◌, Bool, true, false, cond, not, refl, ap, ap₂, sym, subst, ◌∙◌, arith, inl, inr, length, min, eq-eqb, ne_eqb, lt-ltb, ltb-true, true≢false, ◌&&◌, ◌||◌}
use Rattle.std.specs.List.{filter, range_with_len}
use Rattle.std.specs.Prelude.{IsTrue, Some, None, unwrap_or, nat_eq, nat_lt, ⊤}
use Rattle.std.proofs.lemmas.Bool.{cond-true, cond-false, and_parts, cases_lt, cases_eq}
use Rattle.std.proofs.lemmas.List.{append_assoc, append-nil}
use Rattle.ppd_ast.specs.Members.{has, those, RisesFrom, AreBelow}
use Rattle.ppd_ast.proofs.Those.{rises_filter}
use Rattle.ppd_ast.specs.declared.limits.TheConstants.{MOST_SHARED_CELLS}
use Rattle.ppd_race.specs.Union.{IsUnion, do_rise, least_of, left_after, push_when}
use Rattle.ppd_race.proofs.BusyRows.{those_more}
use Rattle.ppd_race.proofs.Cells.{not_below}

-- ---- a rising list

later_or : (b : Bool) → b ≡ false → (c : Bool) → (b || c) ≡ c
later_or true e c = absurd (true≢false e)
later_or false e c = refl

pub rises_of : (n : ℕ) (cells : List ℕ) → IsTrue (do_rise n cells) → RisesFrom n cells × AreBelow MOST_SHARED_CELLS cells
rises_of n [] h = (tt, λ c t. absurd (true≢false (sym t)))
rises_of n (x ∷ xs) h =
    let parts = and_parts (not (nat_lt x n) && nat_lt x MOST_SHARED_CELLS) (do_rise (x + 1) xs) h in
    let both = and_parts (not (nat_lt x n)) (nat_lt x MOST_SHARED_CELLS) parts.0 in
    let low : n ≤ x = elim (cases_lt x n) [ inl lt ↦ absurd (true≢false (sym both.0 ∙ ap not (lt-ltb x n lt))) | inr le ↦ omega (arith, le) ] in
    let high = ltb-true x MOST_SHARED_CELLS both.1 in
    let rest = rises_of (x + 1) xs parts.1 in (
      (low, rest.0),
      λ c t. elim (cases_eq x c) [
        | inl same ↦ omega (arith, same, high)
        | inr other ↦ rest.1 c (sym (later_or (nat_eq x c) (ne_eqb x c other) (has xs c)) ∙ t)
      ],
    )

-- ---- what comes next of two lists

Above : ℕ → List ℕ → Type 0
Above c [] = ⊤
Above c (x ∷ xs) = c < x

-- the cell comes first
record Takes (c : ℕ) (xs : List ℕ) : Type 0 where
  rest : List ℕ
  is : xs ≡ c ∷ rest
  left : left_after c xs ≡ rest

-- all are above it
record Keeps (c : ℕ) (xs : List ℕ) : Type 0 where
  above : Above c xs
  left : left_after c xs ≡ xs

data Next (c : ℕ) (xs ys : List ℕ) : Type 0 where
  both : Takes c xs → Takes c ys → Next c xs ys
  first : Takes c xs → Keeps c ys → Next c xs ys
  second : Keeps c xs → Takes c ys → Next c xs ys

takes : (c x : ℕ) (xs : List ℕ) → x ≡ c → Takes c (x ∷ xs)
takes c x xs e = record { rest = xs; is = ap (λ k. k ∷ xs) e; left = cond-true (nat_eq x c) xs (x ∷ xs) (eq-eqb x c e) }

keeps : (c x : ℕ) (xs : List ℕ) → c < x → Keeps c (x ∷ xs)
unfolding Above
keeps c x xs lt = record { above = lt; left = cond-false (nat_eq x c) xs (x ∷ xs) (ne_eqb x c (λ e. omega (arith, e, lt))) }

keeps_none : (c : ℕ) → Keeps c []
unfolding Above
keeps_none c = record { above = tt; left = refl }

some_is : (x y : ℕ) → Some x ≡ Some y → x ≡ y
some_is x y e = ap (λ o. unwrap_or o x) e

next_of : (xs ys : List ℕ) (c : ℕ) → Some c ≡ least_of xs ys → Next c xs ys
next_of [] [] c e = absurd (cc e)
next_of (x ∷ xs) [] c e = first (takes c x xs (sym (some_is c x e))) (keeps_none c)
next_of [] (y ∷ ys) c e = second (keeps_none c) (takes c y ys (sym (some_is c y e)))
next_of (x ∷ xs) (y ∷ ys) c e =
    let least : c ≡ min x y = some_is c (min x y) e in
    elim (cases_lt x y) [
      | inl less ↦ first (takes c x xs (omega (arith, less, least))) (keeps c y ys (omega (arith, less, least)))
      | inr le ↦ elim (cases_eq x y) [
        | inl same ↦ both (takes c x xs (omega (arith, same, least))) (takes c y ys (omega (arith, same, least)))
        | inr other ↦ second (keeps c x xs (omega (arith, le, other, least))) (takes c y ys (omega (arith, le, least)))
      ]
    ]

-- ---- one more cell

rises_on : (n c : ℕ) (all xs ys : List ℕ) → RisesFrom n (all ++ c ∷ ys) → RisesFrom n (all ++ xs) → Above c xs → RisesFrom n ((all ++ c ∷ []) ++ xs)
unfolding Above
rises_on n c [] [] ys h k above = (h.0, tt)
rises_on n c [] (x ∷ xs) ys h k above = (h.0, (omega (arith, above), k.1))
rises_on n c (a ∷ all) xs ys h k above = (h.0, rises_on (a + 1) c all xs ys h.1 k.1 above)

rises_taken : (c : ℕ) (all xs : List ℕ) (t : Takes c xs) → RisesFrom 0 (all ++ xs) → RisesFrom 0 ((all ++ c ∷ []) ++ left_after c xs)
rises_taken c all xs t h = subst (RisesFrom 0) (ap (λ zs. all ++ zs) t.is ∙ sym (append_assoc all (c ∷ []) t.rest) ∙ ap (λ zs. (all ++ c ∷ []) ++ zs) (sym t.left)) h

rises_kept : (c : ℕ) (all xs ys : List ℕ) (k : Keeps c xs) (t : Takes c ys) → RisesFrom 0 (all ++ xs) → RisesFrom 0 (all ++ ys) → RisesFrom 0 ((all ++ c ∷ []) ++ left_after c xs)
rises_kept c all xs ys k t h g = subst (λ zs. RisesFrom 0 ((all ++ c ∷ []) ++ zs)) (sym k.left) (rises_on 0 c all xs t.rest (subst (λ zs. RisesFrom 0 (all ++ zs)) t.is g) h k.above)

has_more : (all : List ℕ) (c x : ℕ) → has (all ++ c ∷ []) x ≡ (has all x || nat_eq c x)
has_more [] c x = by (nat_eq c x)
  where
    by : (b : Bool) → (b || false) ≡ b
    by true = refl
    by false = refl
has_more (a ∷ all) c x = ap (λ b. nat_eq a x || b) (has_more all c x) ∙ sym (three (nat_eq a x) (has all x) (nat_eq c x))
  where
    three : (a b c : Bool) → ((a || b) || c) ≡ (a || (b || c))
    three true b c = refl
    three false b c = refl

has_taken : (c x : ℕ) (xs : List ℕ) → Takes c xs → has xs x ≡ (nat_eq c x || has (left_after c xs) x)
has_taken c x xs t = ap (λ zs. has zs x) t.is ∙ ap (λ zs. nat_eq c x || has zs x) (sym t.left)

has_kept : (c x : ℕ) (xs : List ℕ) → Keeps c xs → has xs x ≡ has (left_after c xs) x
has_kept c x xs k = ap (λ zs. has zs x) (sym k.left)

module _ (reads writes : List ℕ) where
  -- a part of the cells, and what is left of the two lists
  pub record IsMerged (all xs ys : List ℕ) : Type 0 where
    pub reading : RisesFrom 0 (all ++ xs)
    pub writing : RisesFrom 0 (all ++ ys)
    pub each : (c : ℕ) → (has all c || (has xs c || has ys c)) ≡ (has reads c || has writes c)
    pub size : length all + (length xs + length ys) ≤ length reads + length writes

  pub merged_more : (all xs ys new xs' ys' : List ℕ) (c : ℕ) → Some c ≡ least_of xs ys → new ≡ all ++ c ∷ [] → xs' ≡ left_after c xs → ys' ≡ left_after c ys → IsMerged all xs ys
      → IsMerged new xs' ys' × (length xs' + length ys' < length xs + length ys)
  merged_more all xs ys new xs' ys' c is grows left left' h = by (next_of xs ys c is)
    where
      longer : (zs : List ℕ) → length (zs ++ c ∷ []) ≡ length zs + 1
      longer [] = refl
      longer (z ∷ zs) = let e = longer zs in omega (arith, e)

      shorter : (zs : List ℕ) → Takes c zs → length zs ≡ length (left_after c zs) + 1
      shorter zs t = ap length t.is ∙ (let e : length (c ∷ t.rest) ≡ length t.rest + 1 = omega arith in e) ∙ ap (λ ws. length ws + 1) (sym t.left)

      as_long : (zs : List ℕ) → Keeps c zs → length zs ≡ length (left_after c zs)
      as_long zs k = ap length (sym k.left)

      both_in : (a e p q : Bool) → ((a || e) || (p || q)) ≡ (a || ((e || p) || (e || q)))
      both_in true e p q = refl
      both_in false true p q = refl
      both_in false false p q = refl

      first_in : (a e p q : Bool) → ((a || e) || (p || q)) ≡ (a || ((e || p) || q))
      first_in true e p q = refl
      first_in false true p q = refl
      first_in false false p q = refl

      second_in : (a e p q : Bool) → ((a || e) || (p || q)) ≡ (a || (p || (e || q)))
      second_in true e p q = refl
      second_in false true true q = refl
      second_in false true false q = refl
      second_in false false p q = refl

      fewer : length (left_after c xs) + length (left_after c ys) < length xs + length ys → length xs' + length ys' < length xs + length ys
      fewer less = subst (λ zs. length zs + length ys' < length xs + length ys) (sym left) (subst (λ zs. length (left_after c xs) + length zs < length xs + length ys) (sym left') less)

      done : RisesFrom 0 ((all ++ c ∷ []) ++ left_after c xs) → RisesFrom 0 ((all ++ c ∷ []) ++ left_after c ys)
          → ((x : ℕ) → ((has all x || nat_eq c x) || (has (left_after c xs) x || has (left_after c ys) x)) ≡ (has all x || (has xs x || has ys x)))
          → length (left_after c xs) + length (left_after c ys) < length xs + length ys
          → IsMerged new xs' ys' × (length xs' + length ys' < length xs + length ys)
      done reading writing same less =
          let l = longer all in
          let size = h.size in
          let merged : IsMerged (all ++ c ∷ []) (left_after c xs) (left_after c ys) = record {
            reading = reading;
            writing = writing;
            each = λ x. ap (λ b. b || (has (left_after c xs) x || has (left_after c ys) x)) (has_more all c x) ∙ same x ∙ h.each x;
            size = omega (arith, l, less, size);
          } in (
            subst (λ n. IsMerged n xs' ys') (sym grows) (subst (λ zs. IsMerged (all ++ c ∷ []) zs ys') (sym left) (subst (λ zs. IsMerged (all ++ c ∷ []) (left_after c xs) zs) (sym left') merged)),
            fewer less,
          )

      by : Next c xs ys → IsMerged new xs' ys' × (length xs' + length ys' < length xs + length ys)
      by (both t u) =
          done (rises_taken c all xs t h.reading) (rises_taken c all ys u h.writing)
          (λ x. both_in (has all x) (nat_eq c x) (has (left_after c xs) x) (has (left_after c ys) x)
          ∙ ap₂ (λ p q. has all x || (p || q)) (sym (has_taken c x xs t)) (sym (has_taken c x ys u)))
          (let s = shorter xs t in let r = shorter ys u in omega (arith, s, r))
      by (first t u) =
          done (rises_taken c all xs t h.reading) (rises_kept c all ys xs u t h.writing h.reading)
          (λ x. first_in (has all x) (nat_eq c x) (has (left_after c xs) x) (has (left_after c ys) x)
          ∙ ap₂ (λ p q. has all x || (p || q)) (sym (has_taken c x xs t)) (sym (has_kept c x ys u)))
          (let s = shorter xs t in let r = as_long ys u in omega (arith, s, r))
      by (second t u) =
          done (rises_kept c all xs ys t u h.reading h.writing) (rises_taken c all ys u h.writing)
          (λ x. second_in (has all x) (nat_eq c x) (has (left_after c xs) x) (has (left_after c ys) x)
          ∙ ap₂ (λ p q. has all x || (p || q)) (sym (has_kept c x xs t)) (sym (has_taken c x ys u)))
          (let s = as_long xs t in let r = shorter ys u in omega (arith, s, r))

  pub merged_none : IsTrue (do_rise 0 reads) → IsTrue (do_rise 0 writes) → IsMerged [] reads writes
  merged_none h k = record { reading = (rises_of 0 reads h).0; writing = (rises_of 0 writes k).0; each = λ c. refl; size = omega arith }

  pub merged_all : (all xs ys : List ℕ) → None ≡ least_of xs ys → IsTrue (do_rise 0 reads) → IsTrue (do_rise 0 writes) → IsMerged all xs ys → IsUnion (λ c. has reads c || has writes c) all × (length all ≤ length reads + length writes)
  merged_all all [] [] none h k m = (
    record {
      rises = subst (RisesFrom 0) (append-nil all) m.reading;
      below = λ c t. either (has reads c) (has writes c) (sym (m.each c) ∙ or_nothing (has all c) ∙ t) (λ r. (rises_of 0 reads h).1 c r) (λ w. (rises_of 0 writes k).1 c w);
      has_all = λ c. sym (or_nothing (has all c)) ∙ m.each c;
    },
    (let s = m.size in omega (arith, s)),
  )
    where
      or_nothing : (b : Bool) → (b || (false || false)) ≡ b
      or_nothing true = refl
      or_nothing false = refl

      either : {X : Type 0} (r w : Bool) → (r || w) ≡ true → (r ≡ true → X) → (w ≡ true → X) → X
      either true w e f g = f refl
      either false w e f g = g e
  merged_all all (x ∷ xs) [] none h k m = absurd (cc none)
  merged_all all (x ∷ xs) (y ∷ ys) none h k m = absurd (cc none)
  merged_all all [] (y ∷ ys) none h k m = absurd (cc none)

-- ---- all cells looked at

inside_range : (t : ℕ → Bool) (a n c : ℕ) → a ≤ c → c < a + n → has (filter t (range_with_len a n)) c ≡ t c
inside_range t a zero c le lt = absurd (omega (arith, le, lt))
inside_range t a (suc n) c le lt = elim (cases_eq a c) [
  | inl same ↦ here (t a) refl same
  | inr other ↦ later (t a) other (inside_range t (a + 1) n c (omega (arith, le, other)) (omega (arith, lt)))
]
  where
    here : (b : Bool) → t a ≡ b → a ≡ c → has (cond b (a ∷ filter t (range_with_len (a + 1) n)) (filter t (range_with_len (a + 1) n))) c ≡ t c
    here true e same = ap (λ s. s || has (filter t (range_with_len (a + 1) n)) c) (eq-eqb a c same) ∙ sym e ∙ ap t same
    here false e same = not_below (a + 1) c (filter t (range_with_len (a + 1) n)) (rises_filter t (a + 1) n) (omega (arith, same)) ∙ sym e ∙ ap t same

    later : (b : Bool) → (a ≡ c → ⊥) → has (filter t (range_with_len (a + 1) n)) c ≡ t c → has (cond b (a ∷ filter t (range_with_len (a + 1) n)) (filter t (range_with_len (a + 1) n))) c ≡ t c
    later true d e = ap (λ s. s || has (filter t (range_with_len (a + 1) n)) c) (ne_eqb a c d) ∙ e
    later false d e = e

above_range : (t : ℕ → Bool) (a n c : ℕ) → a + n ≤ c → has (filter t (range_with_len a n)) c ≡ false
above_range t a zero c le = refl
above_range t a (suc n) c le = later (t a) (above_range t (a + 1) n c (omega (arith, le)))
  where
    later : (b : Bool) → has (filter t (range_with_len (a + 1) n)) c ≡ false → has (cond b (a ∷ filter t (range_with_len (a + 1) n)) (filter t (range_with_len (a + 1) n))) c ≡ false
    later true e = ap (λ s. s || has (filter t (range_with_len (a + 1) n)) c) (ne_eqb a c (λ k. omega (arith, k, le))) ∙ e
    later false e = e

pub those_union : (test : ℕ → Bool) (cells : List ℕ) (n : ℕ) → n ≡ MOST_SHARED_CELLS → cells ≡ those n test → ((c : ℕ) → MOST_SHARED_CELLS ≤ c → test c ≡ false) → IsUnion test cells
those_union test cells n end is high =
    let whole : cells ≡ those MOST_SHARED_CELLS test = is ∙ ap (λ k. those k test) end in
    subst (IsUnion test) (sym whole) (record {
      rises = rises_filter test 0 MOST_SHARED_CELLS;
      below = λ c t. elim (cases_lt c MOST_SHARED_CELLS) [ inl lt ↦ lt | inr le ↦ absurd (true≢false (sym t ∙ above_range test 0 MOST_SHARED_CELLS c (omega (arith, le)))) ];
      has_all = λ c. elim (cases_lt c MOST_SHARED_CELLS) [
        | inl lt ↦ inside_range test 0 MOST_SHARED_CELLS c (omega arith) (omega (arith, lt))
        | inr le ↦ above_range test 0 MOST_SHARED_CELLS c (omega (arith, le)) ∙ sym (high c le)
      ];
    })

pub none_high : (xs ys : List ℕ) → AreBelow MOST_SHARED_CELLS xs → AreBelow MOST_SHARED_CELLS ys → (c : ℕ) → MOST_SHARED_CELLS ≤ c → (has xs c || has ys c) ≡ false
none_high xs ys h k c le = by (has xs c) (has ys c) (h c) (k c)
  where
    by : (s t : Bool) → (IsTrue s → c < MOST_SHARED_CELLS) → (IsTrue t → c < MOST_SHARED_CELLS) → (s || t) ≡ false
    by true t f g = let lt = f refl in absurd (omega (arith, lt, le))
    by false true f g = let lt = g refl in absurd (omega (arith, lt, le))
    by false false f g = refl

pub one_more : (cells new : List ℕ) (test : ℕ → Bool) (c : ℕ) (b : Bool) → b ≡ test c → new ≡ cells ++ push_when b c → cells ≡ those c test → length cells ≤ c → (new ≡ those (c + 1) test) × (length new ≤ c + 1)
one_more cells new test c b e grows is size =
    (grows ∙ ap (λ xs. xs ++ push_when b c) is ∙ sym (those_more test c b (sym e)), (let n = ap length grows in let l = longer cells b in omega (arith, n, l, size)))
  where
    longer : (cells : List ℕ) (b : Bool) → length (cells ++ push_when b c) ≤ length cells + 1
    longer [] true = omega arith
    longer [] false = omega arith
    longer (x ∷ xs) b = let e = longer xs b in omega (arith, e)
