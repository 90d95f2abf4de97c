-- What is built of forms, both ways.
use Rattle.std.specs.Prelude.{⊤, IsSomeAnd, nat_eq, nat_le}
use Rattle.std.specs.List.{AllByRecursion, find, flat_map}
use Rattle.std.specs.Option.{option_map_or}
use Rattle.std.proofs.Common.{◌≡◌, ℕ, zero, suc, ◌+◌, ◌≤◌, List, [], ◌∷◌, ◌++◌, length, take, drop, Bool, true, false, cond, Option, Some, None, Result, Ok, Err, refl, ap, sym, ◌∙◌, subst, arith, length-append}
use Rattle.std.proofs.lemmas.Bool.Decides.{nat_tests}
use Rattle.std.proofs.lemmas.List.{append_assoc, take-append-drop}
use Rattle.ppd_codec.specs.declared.bad.BadBytes.{BadBytes}
use Rattle.ppd_codec.specs.declared.bad.BadBytes.TheVariants as bad
use Rattle.ppd_codec.specs.Reader.{Got, Reader, after, done, field, next, several}
use Rattle.ppd_codec.specs.Form.{Along, Form, listed, listed_along, named, one_of, pair, ranged}
use Rattle.ppd_codec.proofs.Inverts.{AreBytes, Inverts, Wrote, bytes_after, checked_inverts, done_inverts, got, kept_inverts, next_inverts, ok_is}
use Rattle.ppd_codec.proofs.Widths.{drop_front, length_take, take_front}

-- reading and spelling of a form undo each other
abbrev pub Holds : {A : Type 0} → Form A → Type 0
Holds f = Inverts f.read f.bytes f.Lawful

-- another spelling of the same
pub same_inverts : {A : Type 0} (r : Reader A) (w v : A → List ℕ) (P Q : A → Type 0) → Inverts r w P → ((x : A) → Q x → P x × (v x ≡ w x)) → ((x : A) → P x → Q x × (v x ≡ w x)) → Inverts r v Q
same_inverts r w v P Q i down up = record {
  there = λ x q at rest. let d = down x q in subst (λ (bs : List ℕ). r at (bs ++ rest) ≡ Ok (got x (at + length bs) rest)) (sym d.1) (i.there x d.0 at rest);
  back = λ at bytes x now rest b e.
      let h : Wrote w P at bytes x now rest = i.back at bytes x now rest b e in
      let u = up x h.lawful in
      record { lawful = u.0; bytes_are = h.bytes_are ∙ ap (λ (bs : List ℕ). bs ++ rest) (sym u.1); at_is = h.at_is ∙ ap (λ (bs : List ℕ). at + length bs) (sym u.1) };
}

-- a reading with another name: no way back is needed, only that a lawful one comes from somewhere
pub as_inverts : {A B : Type 0} (f : A → B) (r : Reader A) (w : A → List ℕ) (v : B → List ℕ) (P : A → Type 0) (Q : B → Type 0) → Inverts r w P
    → ((y : B) → Q y → (x : A) × P x × (f x ≡ y) × (v y ≡ w x)) → ((x : A) → P x → Q (f x) × (v (f x) ≡ w x)) → Inverts (next r (λ x. done (f x))) v Q
as_inverts f r w v P Q i down up = record {
  there = λ y q at rest.
      let h = down y q in
      let one : next r (λ x. done (f x)) at (w h.0 ++ rest) ≡ Ok (got y (at + length (w h.0)) rest) =
      ap (λ (g : Result (Got _) BadBytes). after g (λ x. done (f x))) (i.there h.0 h.1 at rest) ∙ ap (λ (z : _). Ok (got z (at + length (w h.0)) rest)) h.2 in
      subst (λ (bs : List ℕ). next r (λ x. done (f x)) at (bs ++ rest) ≡ Ok (got y (at + length bs) rest)) (sym h.3) one;
  back = λ at bytes y now rest b e. by at bytes y now rest b (r at bytes) refl e;
}
  where
    by : (at : ℕ) (bytes : List ℕ) (y : _) (now : ℕ) (rest : List ℕ) → AreBytes bytes → (g : Result (Got _) BadBytes) → r at bytes ≡ g → after g (λ x. done (f x)) ≡ Ok (got y now rest)
        → Wrote v Q at bytes y now rest
    by at bytes y now rest b (Err x) is e = absurd (cc)
    by at bytes y now rest b (Ok g) is e =
        let one : Wrote w P at bytes g.value g.at g.rest = i.back at bytes g.value g.at g.rest b is in
        let u = up g.value one.lawful in
        let same : got (f g.value) g.at g.rest ≡ got y now rest = ok_is (Ok (got (f g.value) g.at g.rest)) (got (f g.value) g.at g.rest) (got y now rest) refl e in
        let here : Wrote v Q at bytes (f g.value) g.at g.rest = record {
          lawful = u.0;
          bytes_are = one.bytes_are ∙ ap (λ (bs : List ℕ). bs ++ g.rest) (sym u.1);
          at_is = one.at_is ∙ ap (λ (bs : List ℕ). at + length bs) (sym u.1);
        } in
        subst (λ (h : Got _). Wrote v Q at bytes h.value h.at h.rest) same here

-- two, one after the other, by the name of the whole
both_inverts : {A B C : Type 0} (f : A → B → C) (r : Reader A) (s : A → Reader B) (w : A → List ℕ) (v : A → B → List ℕ) (u : C → List ℕ) (P : A → Type 0) (Q : A → B → Type 0) (R : C → Type 0)
    → Inverts r w P → ((x : A) → Inverts (s x) (v x) (Q x))
    → ((z : C) → R z → (x : A) × (y : B) × P x × Q x y × (f x y ≡ z) × (u z ≡ w x ++ v x y)) → ((x : A) (y : B) → P x → Q x y → R (f x y) × (u (f x y) ≡ w x ++ v x y))
    → Inverts (next r (λ x. next (s x) (λ y. done (f x y)))) u R
both_inverts {A} {B} {C} f r s w v u P Q R first second down up = record {
  there = λ z q at rest.
      let h = down z q in
      let x = h.0 in
      let y = h.1 in
      let one : r at (w x ++ (v x y ++ rest)) ≡ Ok (got x (at + length (w x)) (v x y ++ rest)) = first.there x h.2 at (v x y ++ rest) in
      let two : s x (at + length (w x)) (v x y ++ rest) ≡ Ok (got y ((at + length (w x)) + length (v x y)) rest) = (second x).there y h.3 (at + length (w x)) rest in
      let all : next r (λ a. next (s a) (λ b. done (f a b))) at ((w x ++ v x y) ++ rest) ≡ Ok (got z (at + length (w x ++ v x y)) rest) =
      ap (λ (bs : List ℕ). next r (λ a. next (s a) (λ b. done (f a b))) at bs) (append_assoc (w x) (v x y) rest)
      ∙ ap (λ (g : Result (Got A) BadBytes). after g (λ a. next (s a) (λ b. done (f a b)))) one
      ∙ ap (λ (g : Result (Got B) BadBytes). after g (λ b. done (f x b))) two
      ∙ ap (λ (c : C). Ok (got c ((at + length (w x)) + length (v x y)) rest)) h.4
      ∙ ap (λ (n : ℕ). Ok (got z n rest)) (omega (arith, length-append (w x) (v x y))) in
      subst (λ (bs : List ℕ). next r (λ a. next (s a) (λ b. done (f a b))) at (bs ++ rest) ≡ Ok (got z (at + length bs) rest)) (sym h.5) all;
  back = λ at bytes z now rest b e. by at bytes z now rest b (r at bytes) refl e;
}
  where
    go : (at : ℕ) (bytes : List ℕ) (z : C) (now : ℕ) (rest : List ℕ) → AreBytes bytes → (g : Got A) → Wrote w P at bytes g.value g.at g.rest → (k : Result (Got B) BadBytes) → s g.value g.at g.rest ≡ k
        → after k (λ b. done (f g.value b)) ≡ Ok (got z now rest) → Wrote u R at bytes z now rest
    go at bytes z now rest b g one (Err x) is e = absurd (cc)
    go at bytes z now rest b g one (Ok k) is e =
        let two : Wrote (v g.value) (Q g.value) g.at g.rest k.value k.at k.rest = (second g.value).back g.at g.rest k.value k.at k.rest (bytes_after (w g.value) g.rest (subst AreBytes one.bytes_are b)) is in
        let whole = up g.value k.value one.lawful two.lawful in
        let same : got (f g.value k.value) k.at k.rest ≡ got z now rest = ok_is (Ok (got (f g.value k.value) k.at k.rest)) (got (f g.value k.value) k.at k.rest) (got z now rest) refl e in
        let at_is : k.at ≡ at + length (w g.value ++ v g.value k.value) = omega (arith, one.at_is, two.at_is, length-append (w g.value) (v g.value k.value)) in
        let here : Wrote u R at bytes (f g.value k.value) k.at k.rest = record {
          lawful = whole.0;
          bytes_are = one.bytes_are ∙ ap (λ (bs : List ℕ). w g.value ++ bs) two.bytes_are ∙ sym (append_assoc (w g.value) (v g.value k.value) k.rest) ∙ ap (λ (bs : List ℕ). bs ++ k.rest) (sym whole.1);
          at_is = at_is ∙ ap (λ (bs : List ℕ). at + length bs) (sym whole.1);
        } in
        subst (λ (h : Got C). Wrote u R at bytes h.value h.at h.rest) same here

    by : (at : ℕ) (bytes : List ℕ) (z : C) (now : ℕ) (rest : List ℕ) → AreBytes bytes → (g : Result (Got A) BadBytes) → r at bytes ≡ g → after g (λ a. next (s a) (λ b. done (f a b))) ≡ Ok (got z now rest)
        → Wrote u R at bytes z now rest
    by at bytes z now rest b (Err x) is e = absurd (cc)
    by at bytes z now rest b (Ok g) is e = go at bytes z now rest b g (first.back at bytes g.value g.at g.rest b is) (s g.value g.at g.rest) refl e

pub pair_holds : {A B : Type 0} (f : Form A) (g : A → Form B) → Holds f → ((x : A) → Holds (g x)) → Holds (pair f g)
pair_holds {A} {B} f g first second = both_inverts {A = A} {B = B} {C = A × B} (λ x y. (x, y)) f.read (λ x. (g x).read) f.bytes (λ x. (g x).bytes) (pair f g).bytes f.Lawful (λ x. (g x).Lawful) (pair f g).Lawful first second
    (λ p q. (p.0, p.1, q.0, q.1, refl, refl)) (λ x y l m. ((l, m), refl))

pub ranged_holds : {A : Type 0} (bad : ℕ → BadBytes) (test : A → Bool) (f : Form A) → Holds f → Holds (ranged bad test f)
ranged_holds bad test f h = kept_inverts test bad f.read f.bytes f.Lawful h

-- ---- codes

-- the first of these that has the code
abbrev coded : {A : Type 0} → (A → ℕ) → List A → ℕ → Option A
coded code all n = find (λ y. nat_eq (code y) n) all

coded_is : {A : Type 0} (code : A → ℕ) (all : List A) (n : ℕ) (x : A) → coded code all n ≡ Some x → code x ≡ n
coded_is code [] n x e = absurd (cc)
coded_is code (y ∷ ys) n x e = by (nat_eq (code y) n) refl e (λ d. coded_is code ys n x d)
  where
    by : (t : Bool) → nat_eq (code y) n ≡ t → cond t (Some y) (coded code ys n) ≡ Some x → (coded code ys n ≡ Some x → code x ≡ n) → code x ≡ n
    by true is e more = let same : y ≡ x = cc in let here : code y ≡ n = grind (arith, nat_tests) in ap code (sym same) ∙ here
    by false is e more = more e

pub one_of_holds : {A : Type 0} (bad : ℕ → BadBytes) (code : A → ℕ) (all : List A) (f : Form ℕ) → Holds f → Holds (one_of bad code all f)
one_of_holds bad code all f h = checked_inverts (coded code all) bad f.read code f.bytes f.Lawful (one_of bad code all f).Lawful h
    (λ y l. l)
    (λ x y l e. let is : code y ≡ x = coded_is code all x y e in (is, (subst f.Lawful (sym is) l, ap (coded code all) is ∙ e)))

-- ---- names

pub named_holds : {A B : Type 0} (whole : A → B) (parts : B → Option A) (f : Form A) → ((x : A) → parts (whole x) ≡ Some x) → ((x : A) (y : B) → parts y ≡ Some x → whole x ≡ y)
    → Holds f → Holds (named whole parts f)
named_holds {A} {B} whole parts f to from h = as_inverts whole f.read f.bytes (named whole parts f).bytes f.Lawful (named whole parts f).Lawful h
    (λ y q. by y (parts y) refl q)
    (λ x l. (subst (λ (o : Option A). IsSomeAnd o f.Lawful) (sym (to x)) l, ap (λ (o : Option A). option_map_or f.bytes o []) (to x)))
  where
    by : (y : B) (o : Option A) → parts y ≡ o → IsSomeAnd o f.Lawful → (x : A) × f.Lawful x × (whole x ≡ y) × (option_map_or f.bytes (parts y) [] ≡ f.bytes x)
    by y None is q = absurd q
    by y (Some x) is q = (x, q, from x y is, ap (λ (o : Option A). option_map_or f.bytes o []) is)

-- ---- lists

-- bytes that stand for themselves
pub raw_inverts : (w : ℕ) → Inverts (field w (λ bs. bs)) (λ s. s) (λ s. length s ≡ w)
raw_inverts w = record {
  there = λ x l at rest.
      let whole : nat_le w (length (x ++ rest)) ≡ true = (let a = length-append x rest in grind (arith, nat_tests)) in
      let t : take w (x ++ rest) ≡ x = ap (λ n. take n (x ++ rest)) (sym l) ∙ take_front x rest in
      let d : drop w (x ++ rest) ≡ rest = ap (λ n. drop n (x ++ rest)) (sym l) ∙ drop_front x rest in
      ap (λ (b : Bool). cond b (Ok (got (take w (x ++ rest)) (at + w) (drop w (x ++ rest)))) (Err (bad.Short at))) whole
      ∙ ap (λ (ys : List ℕ). Ok (got ys (at + w) (drop w (x ++ rest)))) t
      ∙ ap (λ (ys : List ℕ). Ok (got x (at + w) ys)) d
      ∙ ap (λ n. Ok (got x (at + n) rest)) (sym l);
  back = λ at bytes x now rest b e. by at bytes x now rest (nat_le w (length bytes)) refl e;
}
  where
    by : (at : ℕ) (bytes x : List ℕ) (now : ℕ) (rest : List ℕ) → (t : Bool) → nat_le w (length bytes) ≡ t
        → cond t (Ok (got (take w bytes) (at + w) (drop w bytes))) (Err (bad.Short at)) ≡ Ok (got x now rest) → Wrote (λ s. s) (λ s. length s ≡ w) at bytes x now rest
    by at bytes x now rest false is e = absurd (cc)
    by at bytes x now rest true is e =
        let fits : w ≤ length bytes = grind (arith, nat_tests) in
        let bs : List ℕ = take w bytes in
        let long : length bs ≡ w = length_take w bytes fits in
        let g : Got (List ℕ) = got bs (at + w) (drop w bytes) in
        let same : g ≡ got x now rest = ok_is (Ok g) g (got x now rest) refl e in
        let here : Wrote (λ s. s) (λ s. length s ≡ w) at bytes bs (at + w) (drop w bytes) = record {
          lawful = long;
          bytes_are = sym (take-append-drop w bytes);
          at_is = ap (λ n. at + n) (sym long);
        } in
        subst (λ (h : Got (List ℕ)). Wrote (λ s. s) (λ s. length s ≡ w) at bytes h.value h.at h.rest) same here

-- each is lawful at what the one before it leaves
abbrev pub EachAlong : {S A : Type 0} → (S → A → Type 0) → (A → S) → S → List A → Type 0
EachAlong P leaves s [] = ⊤
EachAlong P leaves s (x ∷ xs) = P s x × EachAlong P leaves (leaves x) xs

module _ {S A : Type 0} (r : S → Reader A) (leaves : A → S) (w : A → List ℕ) (P : S → A → Type 0) (i : (s : S) → Inverts (r s) w (P s)) where
  abbrev pub AreSeveral : S → ℕ → List A → Type 0
  AreSeveral s n xs = (length xs ≡ n) × EachAlong P leaves s xs

  no_down : (s : S) (xs : List A) → AreSeveral s 0 xs → (xs ≡ []) × (flat_map w xs ≡ [])
  no_down s [] q = (refl, refl)
  no_down s (x ∷ xs) q = absurd (omega (arith, q.0))

  no_up : (s : S) (xs : List A) → xs ≡ [] → AreSeveral s 0 xs × (flat_map w xs ≡ [])
  no_up s [] p = ((refl, tt), refl)
  no_up s (x ∷ xs) p = absurd (cc)

  some_down : (s : S) (n : ℕ) (xs : List A) → AreSeveral s (suc n) xs → (x : A) × (ys : List A) × P s x × AreSeveral (leaves x) n ys × (x ∷ ys ≡ xs) × (flat_map w xs ≡ w x ++ flat_map w ys)
  some_down s n [] q = absurd (omega (arith, q.0))
  some_down s n (x ∷ xs) q = (x, xs, q.1.0, (omega (arith, q.0), q.1.1), refl, refl)

  pub several_inverts : (s : S) (n : ℕ) → Inverts (several r leaves s n) (flat_map w) (AreSeveral s n)
  several_inverts s zero = same_inverts (done []) (λ y. []) (flat_map w) (λ y. y ≡ []) (AreSeveral s 0) (done_inverts []) (λ xs q. no_down s xs q) (λ xs p. no_up s xs p)
  several_inverts s (suc n) =
      both_inverts (λ x xs. x ∷ xs) (r s) (λ x. several r leaves (leaves x) n) w (λ x xs. flat_map w xs) (flat_map w) (P s) (λ x xs. AreSeveral (leaves x) n xs) (AreSeveral s (suc n)) (i s) (λ x. several_inverts (leaves x) n)
      (λ xs q. some_down s n xs q) (λ x xs l m. ((ap suc m.0, (l, m.1)), refl))

  pub counted_inverts : (count : Form ℕ) (s : S) → Holds count → Inverts (next count.read (several r leaves s)) (λ xs. count.bytes (length xs) ++ flat_map w xs) (λ xs. count.Lawful (length xs) × EachAlong P leaves s xs)
  counted_inverts count s h = same_inverts (next count.read (several r leaves s)) _ (λ xs. count.bytes (length xs) ++ flat_map w xs) _ (λ xs. count.Lawful (length xs) × EachAlong P leaves s xs)
      (next_inverts count.read (several r leaves s) count.bytes (λ n xs. flat_map w xs) count.Lawful (AreSeveral s) length h (several_inverts s) (λ n xs m. m.0))
      (λ xs q. ((q.0, (refl, q.1)), refl))
      (λ xs p. ((p.0, p.1.1), refl))

each_there : {A : Type 0} (P : A → Type 0) (xs : List A) → AllByRecursion P xs → EachAlong (λ (t : ⊤). P) (λ x. tt) tt xs
each_there P [] l = tt
each_there P (x ∷ xs) l = (l.0, each_there P xs l.1)

each_back : {A : Type 0} (P : A → Type 0) (xs : List A) → EachAlong (λ (t : ⊤). P) (λ x. tt) tt xs → AllByRecursion P xs
each_back P [] l = tt
each_back P (x ∷ xs) l = (l.0, each_back P xs l.1)

pub listed_holds : {A : Type 0} (count : Form ℕ) (f : Form A) → Holds count → Holds f → Holds (listed count f)
listed_holds count f h i = same_inverts (listed count f).read _ (listed count f).bytes _ (listed count f).Lawful
    (counted_inverts (λ (t : ⊤). f.read) (λ x. tt) f.bytes (λ t. f.Lawful) (λ t. i) count tt h)
    (λ xs q. ((q.0, each_there f.Lawful xs q.1), refl))
    (λ xs q. ((q.0, each_back f.Lawful xs q.1), refl))

module _ {S A : Type 0} (P : A → Type 0) (fits : S → A → Bool) (leaves : A → S) where
  along_there : (s : S) (xs : List A) → AllByRecursion P xs → Along fits leaves s xs → EachAlong (λ t x. P x × (fits t x ≡ true)) leaves s xs
  along_there s [] l m = tt
  along_there s (x ∷ xs) l m = ((l.0, m.0), along_there (leaves x) xs l.1 m.1)

  along_back : (s : S) (xs : List A) → EachAlong (λ t x. P x × (fits t x ≡ true)) leaves s xs → AllByRecursion P xs × Along fits leaves s xs
  along_back s [] l = (tt, tt)
  along_back s (x ∷ xs) l = let k = along_back (leaves x) xs l.1 in ((l.0.0, k.0), (l.0.1, k.1))

pub listed_along_holds : {S A : Type 0} (count : Form ℕ) (bad : ℕ → BadBytes) (fits : S → A → Bool) (leaves : A → S) (s : S) (f : Form A) → Holds count → Holds f
    → Holds (listed_along count bad fits leaves s f)
listed_along_holds count bad fits leaves s f h i = same_inverts (listed_along count bad fits leaves s f).read _ (listed_along count bad fits leaves s f).bytes _ (listed_along count bad fits leaves s f).Lawful
    (counted_inverts (λ t. (ranged bad (fits t) f).read) leaves f.bytes (λ t. (ranged bad (fits t) f).Lawful) (λ t. ranged_holds bad (fits t) f i) count s h)
    (λ xs q. ((q.0, along_there f.Lawful fits leaves s xs q.1 q.2), refl))
    (λ xs q. let k = along_back f.Lawful fits leaves s xs q.1 in ((q.0, k.0, k.1), refl))
