-- Numbers of which none is missing are at most as many as the synchronizations that have them.
use Rattle.std.proofs.Common.{◌≡◌, ℕ, zero, suc, ◌+◌, ◌-◌, ◌*◌, ◌<◌, ◌≤◌, max, List, [], ◌∷◌, Option, Some, None, Bool, true, false, not, find, cond, refl, ap, sym, ◌∙◌, arith, inl, inr, length, map, true≢false, ne_eqb, eqb-true, ◌&&◌, ◌||◌}
use Rattle.std.specs.Prelude.{IsTrue, nat_eq, if◌then◌else◌}
use Rattle.std.specs.List.{cons_option, range_with_len, sum_by}
use Rattle.std.proofs.lemmas.Bool.{cases_eq}
use Rattle.ppd_model.specs.Entries.{same_kind}
use Rattle.ppd_ast.specs.declared.program.Program.{Program}
use Rattle.ppd_ast.specs.declared.status.SyncKind.{SyncKind}
use Rattle.ppd_ast.specs.declared.status.SyncKind.TheVariants.{P, V, Send, Recv, Done}
use Rattle.ppd_ast.specs.Members.{has}
use Rattle.ppd_ast.specs.Counting.{one_if}
use Rattle.std.specs.Option.{option_or as or_else}
use Rattle.ppd_model.specs.Synchronizations.{Sync}
use Rattle.ppd_model.specs.Tables.{capacity_of}
use Rattle.ppd_graph.specs.declared.greatest.Greatest.{Greatest}
use Rattle.ppd_graph.specs.declared.missing.Objects.TheVariants.{Semaphores, Channels}
use Rattle.ppd_graph.specs.declared.placed.Placed.{Placed}
use Rattle.ppd_graph.specs.ByNumber.{AllGreatest, greatest_kept}
use Rattle.ppd_graph.specs.Refusals.{Missing, absent, first_missing, missing, missing_of_places, numbers_of, object_misses, of_kind, start_of, sync_placed}
use Rattle.ppd_graph.proofs.Vocabulary.{chan_misses, sem_misses, greatest, numbered_in}
use Rattle.ppd_graph.specs.Spending.{done_numbers, missing_cost, object_cost}
use Rattle.ppd_graph.proofs.Counted.{sum_more}

-- ---- numbers in a row that are all there

without : ℕ → List ℕ → List ℕ
without x [] = []
without x (y ∷ ys) = if nat_eq y x then ys else y ∷ without x ys

under_false : (b c : Bool) → b ≡ false → (b || c) ≡ true → c ≡ true
under_false true c e h = absurd (true≢false e)
under_false false c e h = h

without_less : (x : ℕ) (xs : List ℕ) → IsTrue (has xs x) → length (without x xs) + 1 ≤ length xs
unfolding without
without_less x [] h = absurd (true≢false (sym h))
without_less x (y ∷ ys) h = by (nat_eq y x) refl (λ e. without_less x ys (under_false (nat_eq y x) (has ys x) e h))
  where
    by : (b : Bool) → nat_eq y x ≡ b → (nat_eq y x ≡ false → length (without x ys) + 1 ≤ length ys) → length (if b then ys else y ∷ without x ys) + 1 ≤ length (y ∷ ys)
    by true e f = omega arith
    by false e f = let rest = f e in omega (arith, rest)

without_has : (x k : ℕ) (xs : List ℕ) → (k ≡ x → ⊥) → IsTrue (has xs k) → IsTrue (has (without x xs) k)
unfolding without
without_has x k [] d h = h
without_has x k (y ∷ ys) d h = by (nat_eq y x) refl (nat_eq y k) refl h (without_has x k ys d)
  where
    by : (b : Bool) → nat_eq y x ≡ b → (c : Bool) → nat_eq y k ≡ c → (c || has ys k) ≡ true → (IsTrue (has ys k) → IsTrue (has (without x ys) k)) → has (if b then ys else y ∷ without x ys) k ≡ true
    by true e true e' t f = absurd (d (sym (eqb-true y k e') ∙ eqb-true y x e))
    by true e false e' t f = t
    by false e true e' t f = ap (λ c. c || has (without x ys) k) e'
    by false e false e' t f = ap (λ c. c || has (without x ys) k) e' ∙ f t

row_within : (n a : ℕ) (xs : List ℕ) → ((k : ℕ) → a ≤ k → k < a + n → IsTrue (has xs k)) → n ≤ length xs
row_within zero a xs h = omega arith
row_within (suc n) a xs h =
    let rest = row_within n a (without (a + n) xs) (λ k le lt. without_has (a + n) k xs (λ e. omega (arith, e, lt)) (h k le (omega (arith, lt)))) in
    let less = without_less (a + n) xs (h (a + n) (omega arith) (omega arith)) in
    omega (arith, rest, less)

all_there : (test : ℕ → Bool) (n a : ℕ) → find (λ k. not (test k)) (range_with_len a n) ≡ None → (k : ℕ) → a ≤ k → k < a + n → IsTrue (test k)
all_there test zero a e k le lt = absurd (omega (arith, le, lt))
all_there test (suc n) a e k le lt = by (test a) refl e (λ f above. all_there test n (a + 1) f k above (omega (arith, lt)))
  where
    by : (b : Bool) → test a ≡ b → cond (not b) (Some a) (find (λ j. not (test j)) (range_with_len (a + 1) n)) ≡ None
        → (find (λ j. not (test j)) (range_with_len (a + 1) n) ≡ None → a + 1 ≤ k → IsTrue (test k)) → IsTrue (test k)
    by true is f later = elim (cases_eq a k) [ inl same ↦ ap test (sym same) ∙ is | inr other ↦ later f (omega (arith, le, other)) ]
    by false is f later = absurd (cc f)

absent_within : (first last : ℕ) (xs : List ℕ) → absent first last (has xs) ≡ None → last - first ≤ length xs
absent_within first last xs e = row_within (last - first) (first + 1) xs (all_there (has xs) (last - first) (first + 1) e)

-- ---- of one object

or_first : {A : Type 0} (x y : Option A) → or_else x y ≡ None → x ≡ None
or_first None y e = refl
or_first (Some a) y e = absurd (cc e)

or_second : {A : Type 0} (x y : Option A) → or_else x y ≡ None → y ≡ None
or_second None y e = e
or_second (Some a) y e = absurd (cc e)

none_of_kind : (kind : SyncKind) (o : ℕ) (x : Option ℕ) → of_kind kind o x ≡ None → x ≡ None
none_of_kind kind o None e = refl
none_of_kind kind o (Some n) e = absurd (cc e)

sem_within : (program : Program) (syncs : List Sync) (o : ℕ) → object_misses Semaphores program (numbered_in syncs) o ≡ None
    → greatest 0 (numbers_of P o syncs) + (greatest 0 (numbers_of V o syncs) - start_of program o) ≤ length (numbers_of P o syncs) + length (numbers_of V o syncs)
sem_within program syncs o e =
    let start : ℕ = start_of program o in
    let taken : List ℕ = numbers_of P o syncs in
    let given : List ℕ = numbers_of V o syncs in
    let a : ℕ = greatest 0 taken in
    let b : ℕ = greatest 0 given in
    let rest = or_second (of_kind P o (absent 0 a (has taken))) _ e in
    let one = absent_within 0 a taken (none_of_kind P o (absent 0 a (has taken)) (or_first (of_kind P o (absent 0 a (has taken))) _ e)) in
    let two = absent_within start (max start b) given (none_of_kind V o (absent start (max start b) (has given)) (or_first (of_kind V o (absent start (max start b) (has given))) _ rest)) in
    omega (arith, one, two)

done_of : ℕ → ℕ → ℕ
done_of zero d = d
done_of (suc c) d = 0

places_within : (c o s r : ℕ) (syncs : List Sync) → missing_of_places c o s r (numbered_in syncs Done o) ≡ None → done_of c (greatest 0 (numbers_of Done o syncs)) ≤ length (numbers_of Done o syncs)
unfolding done_of
places_within zero o s r syncs e =
    let done : List ℕ = numbers_of Done o syncs in
    let d : ℕ = greatest 0 done in
    let rest = or_second (of_kind Recv o _) _ e in
    let one = absent_within 0 d done (none_of_kind Done o (absent 0 d (has done)) (or_first (of_kind Done o (absent 0 d (has done))) _ rest)) in
    omega (arith, one)
places_within (suc c) o s r syncs e = omega arith

chan_within : (program : Program) (syncs : List Sync) (o : ℕ) → object_misses Channels program (numbered_in syncs) o ≡ None
    → greatest 0 (numbers_of Send o syncs) + greatest 0 (numbers_of Recv o syncs) + done_of (capacity_of program o) (greatest 0 (numbers_of Done o syncs))
    ≤ length (numbers_of Send o syncs) + length (numbers_of Recv o syncs) + length (numbers_of Done o syncs)
chan_within program syncs o e =
    let sent : List ℕ = numbers_of Send o syncs in
    let received : List ℕ = numbers_of Recv o syncs in
    let s : ℕ = greatest 0 sent in
    let r : ℕ = greatest 0 received in
    let second = or_second (of_kind Send o (absent 0 s (has sent))) _ e in
    let third = or_second (of_kind Send o _) _ second in
    let last = or_second (of_kind Recv o (absent 0 r (has received))) _ third in
    let one = absent_within 0 s sent (none_of_kind Send o (absent 0 s (has sent)) (or_first (of_kind Send o (absent 0 s (has sent))) _ e)) in
    let two = absent_within 0 r received (none_of_kind Recv o (absent 0 r (has received)) (or_first (of_kind Recv o (absent 0 r (has received))) _ third)) in
    let three = places_within (capacity_of program o) o s r syncs last in
    omega (arith, one, two, three)

none_first : (f : ℕ → Option Missing) (n a : ℕ) → first_missing f (range_with_len a n) ≡ None → (o : ℕ) → a ≤ o → o < a + n → f o ≡ None
none_first f zero a e o le lt = absurd (omega (arith, le, lt))
none_first f (suc n) a e o le lt = elim (cases_eq a o) [
  | inl same ↦ ap f (sym same) ∙ or_first (f a) (first_missing f (range_with_len (a + 1) n)) e
  | inr other ↦ none_first f n (a + 1) (or_second (f a) (first_missing f (range_with_len (a + 1) n)) e) o (omega (arith, le, other)) (omega (arith, lt))
]

-- ---- over all objects

module _ (kind : SyncKind) where
  one : Sync → ℕ → ℕ
  one s o = one_if (same_kind s.kind kind && nat_eq s.object o)

  one_other : (s : Sync) (o : ℕ) → (s.object ≡ o → ⊥) → one s o ≡ 0
  unfolding one
  one_other s o d = by (same_kind s.kind kind) (nat_eq s.object o) (ne_eqb s.object o d)
    where
      by : (b c : Bool) → c ≡ false → one_if (b && c) ≡ 0
      by true true e = absurd (true≢false e)
      by true false e = refl
      by false c e = refl

  one_within : (s : Sync) (o : ℕ) → one s o ≤ 1
  unfolding one
  one_within s o = by (same_kind s.kind kind && nat_eq s.object o)
    where
      by : (b : Bool) → one_if b ≤ 1
      by true = omega arith
      by false = omega arith

  none_yet : (s : Sync) (n : ℕ) → n ≤ s.object → sum_by (one s) (range_with_len 0 n) ≡ 0
  none_yet s zero le = refl
  none_yet s (suc n) le =
      let more = sum_more (one s) n in
      let before = none_yet s n (omega (arith, le)) in
      let here = one_other s n (λ e. omega (arith, e, le)) in
      let same = ap (λ k. sum_by (one s) (range_with_len 0 k)) (let e : suc n ≡ n + 1 = omega arith in e) in
      omega (arith, more, before, here, same)

  once : (s : Sync) (n : ℕ) → sum_by (one s) (range_with_len 0 n) ≤ 1
  once s zero = omega arith
  once s (suc n) =
      let more = sum_more (one s) n in
      let same = ap (λ k. sum_by (one s) (range_with_len 0 k)) (let e : suc n ≡ n + 1 = omega arith in e) in
      elim (cases_eq s.object n) [
        | inl is ↦ let before = none_yet s n (omega (arith, is)) in let here = one_within s n in omega (arith, more, same, before, here)
        | inr other ↦ let before = once s n in let here = one_other s n other in omega (arith, more, same, before, here)
      ]

  counted : (s : Sync) (syncs : List Sync) (o : ℕ) → length (numbers_of kind o (s ∷ syncs)) ≡ one s o + length (numbers_of kind o syncs)
  unfolding one
  counted s syncs o = by (same_kind s.kind kind && nat_eq s.object o)
    where
      by : (b : Bool) → length (cons_option (if b then Some s.number else None) (numbers_of kind o syncs)) ≡ one_if b + length (numbers_of kind o syncs)
      by true = omega arith
      by false = omega arith

  sum_both : (f g h : ℕ → ℕ) (n : ℕ) → ((o : ℕ) → f o ≡ g o + h o) → sum_by f (range_with_len 0 n) ≡ sum_by g (range_with_len 0 n) + sum_by h (range_with_len 0 n)
  sum_both f g h zero e = refl
  sum_both f g h (suc n) e =
      let step : suc n ≡ n + 1 = omega arith in
      let a = ap (λ k. sum_by f (range_with_len 0 k)) step ∙ sum_more f n in
      let b = ap (λ k. sum_by g (range_with_len 0 k)) step ∙ sum_more g n in
      let c = ap (λ k. sum_by h (range_with_len 0 k)) step ∙ sum_more h n in
      let rest = sum_both f g h n e in
      let here = e n in
      omega (arith, a, b, c, rest, here)

  sum_zero : (n : ℕ) → sum_by (λ o. 0) (range_with_len 0 n) ≡ 0
  sum_zero zero = refl
  sum_zero (suc n) =
      let step : suc n ≡ n + 1 = omega arith in
      let a = ap (λ k. sum_by (λ o. 0) (range_with_len 0 k)) step ∙ sum_more (λ o. 0) n in
      let rest = sum_zero n in
      omega (arith, a, rest)

  pub spread : (n : ℕ) (syncs : List Sync) → sum_by (λ o. length (numbers_of kind o syncs)) (range_with_len 0 n) ≤ length syncs
  spread n [] = let z = sum_zero n in omega (arith, z)
  spread n (s ∷ syncs) =
      let both = sum_both (λ o. length (numbers_of kind o (s ∷ syncs))) (one s) (λ o. length (numbers_of kind o syncs)) n (counted s syncs) in
      let here = once s n in
      let rest = spread n syncs in
      omega (arith, both, here, rest)

sum_each : (f g : ℕ → ℕ) (n : ℕ) → ((o : ℕ) → o < n → f o ≤ g o) → sum_by f (range_with_len 0 n) ≤ sum_by g (range_with_len 0 n)
sum_each f g zero h = omega arith
sum_each f g (suc n) h =
    let step : suc n ≡ n + 1 = omega arith in
    let a = ap (λ k. sum_by f (range_with_len 0 k)) step ∙ sum_more f n in
    let b = ap (λ k. sum_by g (range_with_len 0 k)) step ∙ sum_more g n in
    let rest = sum_each f g n (λ o lt. h o (omega (arith, lt))) in
    let here = h n (omega arith) in
    omega (arith, a, b, rest, here)

sum_ones : (f : ℕ → ℕ) (n : ℕ) → sum_by (λ o. 1 + f o) (range_with_len 0 n) ≡ n + sum_by f (range_with_len 0 n)
sum_ones f zero = refl
sum_ones f (suc n) =
    let step : suc n ≡ n + 1 = omega arith in
    let a = ap (λ k. sum_by (λ o. 1 + f o) (range_with_len 0 k)) step ∙ sum_more (λ o. 1 + f o) n in
    let b = ap (λ k. sum_by f (range_with_len 0 k)) step ∙ sum_more f n in
    let rest = sum_ones f n in
    omega (arith, a, b, rest)

done_is : (g : Greatest) (c o d : ℕ) → greatest_kept g Done o ≡ d → done_numbers c g o ≡ done_of c d
unfolding done_of
done_is g zero o d e = e
done_is g (suc c) o d e = refl

-- where nothing is missing, what is looked up for it are the objects and five times the synchronizations
pub missing_within : (program : Program) (g : Greatest) (placed : List Placed) → AllGreatest placed g → missing program (map sync_placed placed) ≡ None
    → missing_cost program g ≤ length program.sems + length program.chans + 5 * length (map sync_placed placed)
missing_within program g placed great none =
    let syncs = map sync_placed placed in
    let numbers : SyncKind → ℕ → List ℕ = λ kind o. numbers_of kind o syncs in
    let sems : first_missing (sem_misses program (numbered_in syncs)) (range_with_len 0 (length program.sems)) ≡ None = or_first _ _ none in
    let chans : first_missing (chan_misses program (numbered_in syncs)) (range_with_len 0 (length program.chans)) ≡ None = or_second (first_missing (sem_misses program (numbered_in syncs)) (range_with_len 0 (length program.sems))) _ none in
    let sem = sum_each (object_cost Semaphores program g) (λ o. 1 + (length (numbers P o) + length (numbers V o))) (length program.sems) (λ o lt.
    let here = sem_within program syncs o (none_first (sem_misses program (numbered_in syncs)) (length program.sems) 0 sems o (omega arith) (omega (arith, lt))) in
    let a = great P o in
    let b = great V o in
    omega (arith, here, a, b)) in
    let sem' = sum_ones (λ o. length (numbers P o) + length (numbers V o)) (length program.sems) in
    let sem'' = sum_both P (λ o. length (numbers P o) + length (numbers V o)) (λ o. length (numbers P o)) (λ o. length (numbers V o)) (length program.sems) (λ o. refl) in
    let chan = sum_each (object_cost Channels program g) (λ o. 1 + ((length (numbers Send o) + length (numbers Recv o)) + length (numbers Done o))) (length program.chans) (λ o lt.
    let here = chan_within program syncs o
    (none_first (chan_misses program (numbered_in syncs)) (length program.chans) 0 chans o (omega arith) (omega (arith, lt))) in
    let a = great Send o in
    let b = great Recv o in
    let c = done_is g (capacity_of program o) o (greatest 0 (numbers Done o)) (great Done o) in
    omega (arith, here, a, b, c)) in
    let chan' = sum_ones (λ o. (length (numbers Send o) + length (numbers Recv o)) + length (numbers Done o)) (length program.chans) in
    let chan'' = sum_both P (λ o. (length (numbers Send o) + length (numbers Recv o)) + length (numbers Done o)) (λ o. length (numbers Send o) + length (numbers Recv o)) (λ o. length (numbers Done o)) (length program.chans) (λ o. refl) in
    let chan''' = sum_both P (λ o. length (numbers Send o) + length (numbers Recv o)) (λ o. length (numbers Send o)) (λ o. length (numbers Recv o)) (length program.chans) (λ o. refl) in
    let p = spread P (length program.sems) syncs in
    let v = spread V (length program.sems) syncs in
    let s = spread Send (length program.chans) syncs in
    let r = spread Recv (length program.chans) syncs in
    let d = spread Done (length program.chans) syncs in
    omega (arith, sem, sem', sem'', chan, chan', chan'', chan''', p, v, s, r, d)
