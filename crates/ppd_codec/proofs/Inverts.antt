-- Reading undoes spelling, both ways; and what is built of readers for which this holds.
use Rattle.std.specs.Prelude.{⊤}
use Rattle.std.proofs.Common.{◌≡◌, ◌^◌, ℕ, ◌+◌, ◌<◌, List, [], ◌∷◌, ◌++◌, length, Bool, true, false, cond, Option, Some, None, Result, Ok, Err, refl, ap, sym, ◌∙◌, subst, arith, length-append, if◌then◌else◌}
use Rattle.std.proofs.lemmas.List.{append_assoc}
use Rattle.ppd_codec.specs.declared.bad.BadBytes.{BadBytes}
use Rattle.std.specs.Option.{option_map_or}
use Rattle.ppd_codec.specs.Reader.{Got, Reader, after, checked, done, next}

abbrev pub AreBytes : List ℕ → Type 0
AreBytes [] = ⊤
AreBytes (b ∷ bs) = (b < 2 ^ 8) × AreBytes bs

pub bytes_after : (xs ys : List ℕ) → AreBytes (xs ++ ys) → AreBytes ys
bytes_after [] ys h = h
bytes_after (x ∷ xs) ys h = bytes_after xs ys h.1

abbrev pub got : {A : Type 0} → A → ℕ → List ℕ → Got A
got x at rest = record { value = x; at = at; rest = rest }

-- what reading gave was written there, is lawful, and was taken off
pub record Wrote {A : Type 0} (w : A → List ℕ) (P : A → Type 0) (at : ℕ) (bytes : List ℕ) (x : A) (now : ℕ) (rest : List ℕ) : Type 0 where
  pub lawful : P x
  pub bytes_are : bytes ≡ w x ++ rest
  pub at_is : now ≡ at + length (w x)

pub record Inverts {A : Type 0} (r : Reader A) (w : A → List ℕ) (P : A → Type 0) : Type 0 where
  pub there : (x : A) → P x → (at : ℕ) (rest : List ℕ) → r at (w x ++ rest) ≡ Ok (got x (at + length (w x)) rest)
  pub back : (at : ℕ) (bytes : List ℕ) (x : A) (now : ℕ) (rest : List ℕ) → AreBytes bytes → r at bytes ≡ Ok (got x now rest) → Wrote w P at bytes x now rest

pub ok_is : {A : Type 0} (r : Result A BadBytes) (x y : A) → r ≡ Ok x → r ≡ Ok y → x ≡ y
ok_is r x y d e = cc

-- ---- nothing is read

pub done_inverts : {A : Type 0} (x : A) → Inverts (done x) (λ y. []) (λ y. y ≡ x)
done_inverts x = record {
  there = λ y e at rest. ap (λ z. Ok (got z at rest)) (sym e) ∙ ap (λ n. Ok (got y n rest)) (omega arith);
  back = λ at bytes y now rest b e.
      let same : got x at bytes ≡ got y now rest = ok_is (Ok (got x at bytes)) (got x at bytes) (got y now rest) refl e in
      record { lawful = sym (ap (λ (g : Got _). g.value) same); bytes_are = ap (λ (g : Got _). g.rest) same; at_is = sym (ap (λ (g : Got _). g.at) same) ∙ omega arith };
}

-- ---- one after the other: the first value can be seen in the second

pub next_inverts : {A B : Type 0} (r : Reader A) (s : A → Reader B) (w : A → List ℕ) (v : A → B → List ℕ) (P : A → Type 0) (Q : A → B → Type 0) (see : B → A)
    → Inverts r w P → ((x : A) → Inverts (s x) (v x) (Q x)) → ((x : A) (y : B) → Q x y → see y ≡ x)
    → Inverts (next r s) (λ y. w (see y) ++ v (see y) y) (λ y. P (see y) × Q (see y) y)
next_inverts r s w v P Q see first second seen = record {
  there = λ y l at rest.
      let x = see y in
      let one : r at (w x ++ (v x y ++ rest)) ≡ Ok (got x (at + length (w x)) (v x y ++ rest)) = first.there x l.0 at (v x y ++ rest) in
      let two : s x (at + length (w x)) (v x y ++ rest) ≡ Ok (got y ((at + length (w x)) + length (v x y)) rest) = (second x).there y l.1 (at + length (w x)) rest in
      ap (λ (bs : List ℕ). next r s at bs) (append_assoc (w x) (v x y) rest)
      ∙ ap (λ (g : Result (Got _) BadBytes). after g s) one ∙ two
      ∙ ap (λ (n : ℕ). Ok (got y n rest)) (omega (arith, length-append (w x) (v x y)));
  back = λ at bytes y now rest b e. by at bytes y now rest b (r at bytes) refl e;
}
  where
    by : (at : ℕ) (bytes : List ℕ) (y : _) (now : ℕ) (rest : List ℕ) → AreBytes bytes → (g : Result (Got _) BadBytes) → r at bytes ≡ g → after g s ≡ Ok (got y now rest)
        → Wrote (λ z. w (see z) ++ v (see z) z) (λ z. P (see z) × Q (see z) z) at bytes y now rest
    by at bytes y now rest b (Err bad) is e = absurd (cc)
    by at bytes y now rest b (Ok g) is e =
        let one : Wrote w P at bytes g.value g.at g.rest = first.back at bytes g.value g.at g.rest b is in
        let two : Wrote (v g.value) (Q g.value) g.at g.rest y now rest = (second g.value).back g.at g.rest y now rest (bytes_after (w g.value) g.rest (subst AreBytes one.bytes_are b)) e in
        let x_is : see y ≡ g.value = seen g.value y two.lawful in
        let here : Wrote (λ z. w g.value ++ v g.value z) (λ z. P g.value × Q g.value z) at bytes y now rest = record {
          lawful = (one.lawful, two.lawful);
          bytes_are = one.bytes_are ∙ ap (λ (bs : List ℕ). w g.value ++ bs) two.bytes_are ∙ sym (append_assoc (w g.value) (v g.value y) rest);
          at_is = omega (arith, one.at_is, two.at_is, length-append (w g.value) (v g.value y));
        } in
        let l : P (see y) × Q (see y) y = subst (λ z. P z × Q z y) (sym x_is) here.lawful in
        record {
          lawful = l;
          bytes_are = subst (λ z. bytes ≡ (w z ++ v z y) ++ rest) (sym x_is) here.bytes_are;
          at_is = subst (λ z. now ≡ at + length (w z ++ v z y)) (sym x_is) here.at_is;
        }

-- ---- a field with a meaning

pub checked_inverts : {A B : Type 0} (of : A → Option B) (bad : ℕ → BadBytes) (r : Reader A) (code : B → A) (w : A → List ℕ) (P : A → Type 0) (Q : B → Type 0)
    → Inverts r w P → ((y : B) → Q y → (P (code y) × (of (code y) ≡ Some y))) → ((x : A) (y : B) → P x → of x ≡ Some y → (code y ≡ x) × Q y)
    → Inverts (checked of bad r) (λ y. w (code y)) Q
checked_inverts of bad r code w P Q inner there back = record {
  there = λ y l at rest.
      let t = there y l in
      ap (λ (g : Result (Got _) BadBytes). after g (λ x. option_map_or done (of x) (λ now rest. Err (bad at)))) (inner.there (code y) t.0 at rest)
      ∙ ap (λ (o : Option _). option_map_or done o (λ now rest. Err (bad at)) (at + length (w (code y))) rest) t.1;
  back = λ at bytes y now rest b e. by at bytes y now rest b (r at bytes) refl e;
}
  where
    go : (at : ℕ) (bytes : List ℕ) (y : _) (now : ℕ) (rest : List ℕ) (g : Got _) → Wrote w P at bytes g.value g.at g.rest → (o : Option _) → of g.value ≡ o → option_map_or done o (λ now rest. Err (bad at)) g.at g.rest ≡ Ok (got y now rest)
        → Wrote (λ z. w (code z)) Q at bytes y now rest
    go at bytes y now rest g one None is e = absurd (cc)
    go at bytes y now rest g one (Some z) is e =
        let same : got z g.at g.rest ≡ got y now rest = ok_is (Ok (got z g.at g.rest)) (got z g.at g.rest) (got y now rest) refl e in
        let y_is : z ≡ y = ap (λ (h : Got _). h.value) same in
        let k = back g.value y one.lawful (is ∙ ap Some y_is) in
        record {
          lawful = k.1;
          bytes_are = one.bytes_are ∙ ap (λ x. w x ++ g.rest) (sym k.0) ∙ ap (λ (bs : List ℕ). w (code y) ++ bs) (ap (λ (h : Got _). h.rest) same);
          at_is = sym (ap (λ (h : Got _). h.at) same) ∙ one.at_is ∙ ap (λ x. at + length (w x)) (sym k.0);
        }

    by : (at : ℕ) (bytes : List ℕ) (y : _) (now : ℕ) (rest : List ℕ) → AreBytes bytes → (g : Result (Got _) BadBytes) → r at bytes ≡ g → after g (λ x. option_map_or done (of x) (λ now rest. Err (bad at))) ≡ Ok (got y now rest)
        → Wrote (λ z. w (code z)) Q at bytes y now rest
    by at bytes y now rest b (Err x) is e = absurd (cc)
    by at bytes y now rest b (Ok g) is e = go at bytes y now rest g (inner.back at bytes g.value g.at g.rest b is) (of g.value) refl e

-- a test alone
pub kept_inverts : {A : Type 0} (test : A → Bool) (bad : ℕ → BadBytes) (r : Reader A) (w : A → List ℕ) (P : A → Type 0) → Inverts r w P
    → Inverts (checked (λ x. if test x then Some x else None) bad r) w (λ x. P x × (test x ≡ true))
kept_inverts test bad r w P inner = checked_inverts (λ x. if test x then Some x else None) bad r (λ x. x) w P (λ x. P x × (test x ≡ true)) inner
    (λ y l. (l.0, ap (λ (b : Bool). cond b (Some y) None) l.1))
    (λ x y l e. by x y (test x) refl l e)
  where
    by : (x y : _) (b : Bool) → test x ≡ b → P x → cond b (Some x) None ≡ Some y → (y ≡ x) × (P y × (test y ≡ true))
    by x y true is l e = let same : x ≡ y = cc in (sym same, (subst P same l, subst (λ z. test z ≡ true) same is))
    by x y false is l e = absurd (cc)
