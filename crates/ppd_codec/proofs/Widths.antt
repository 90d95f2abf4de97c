-- Fields of a fixed width, both ways.
use Rattle.std.specs.Prelude.{get_or, nat_le}
use Rattle.std.specs.Int.{w16, w32, w64, to_be_bytes, from_be_bytes}
use Rattle.std.proofs.Common.{◌≡◌, ℕ, zero, suc, ◌+◌, ◌<◌, ◌≤◌, ◌^◌, List, [], ◌∷◌, ◌++◌, length, take, drop, Bool, true, false, cond, Ok, Err, refl, ap, sym, ◌∙◌, subst, arith, length-append}
use Rattle.std.proofs.lemmas.Bool.Decides.{nat_tests}
use Rattle.std.proofs.lemmas.List.{take-append-drop}
use Rattle.std.proofs.lemmas.Nat.{be_bytes_2, be_bytes_4, from_be_bytes-to_be_bytes_2, from_be_bytes-to_be_bytes_4}
use Rattle.ppd_codec.specs.declared.bad.BadBytes.TheVariants.{Short}
use Rattle.ppd_codec.specs.Reader.{Got, field}
use Rattle.ppd_codec.proofs.Inverts.{AreBytes, Inverts, Wrote, got, ok_is}

pub take_front : (xs ys : List ℕ) → take (length xs) (xs ++ ys) ≡ xs
take_front [] ys = refl
take_front (x ∷ xs) ys = ap (λ zs. x ∷ zs) (take_front xs ys)

pub drop_front : (xs ys : List ℕ) → drop (length xs) (xs ++ ys) ≡ ys
drop_front [] ys = refl
drop_front (x ∷ xs) ys = drop_front xs ys

pub length_take : (n : ℕ) (xs : List ℕ) → n ≤ length xs → length (take n xs) ≡ n
length_take zero xs h = refl
length_take (suc n) [] h = absurd (omega arith)
length_take (suc n) (x ∷ xs) h = ap suc (length_take n xs (omega arith))

bytes_front : (n : ℕ) (xs : List ℕ) → AreBytes xs → AreBytes (take n xs)
bytes_front zero xs h = tt
bytes_front (suc n) [] h = tt
bytes_front (suc n) (x ∷ xs) h = (h.0, bytes_front n xs h.1)

pub byte_at : (xs : List ℕ) → AreBytes xs → (i : ℕ) → get_or xs i 0 < 2 ^ 8
byte_at [] h i = omega arith
byte_at (x ∷ xs) h zero = h.0
byte_at (x ∷ xs) h (suc i) = byte_at xs h.1 i

pub record IsWidth {A : Type 0} (w : ℕ) (of : List ℕ → A) (bytes_of : A → List ℕ) (P : A → Type 0) : Type 0 where
  pub long : (x : A) → length (bytes_of x) ≡ w
  pub there : (x : A) → P x → of (bytes_of x) ≡ x
  pub lawful : (bs : List ℕ) → length bs ≡ w → AreBytes bs → P (of bs)
  pub back : (bs : List ℕ) → length bs ≡ w → AreBytes bs → bytes_of (of bs) ≡ bs

pub field_inverts : {A : Type 0} (w : ℕ) (of : List ℕ → A) (bytes_of : A → List ℕ) (P : A → Type 0) → IsWidth w of bytes_of P → Inverts (field w of) bytes_of P
field_inverts w of bytes_of P f = record {
  there = λ x l at rest.
      let bs = bytes_of x in
      let w_is : w ≡ length bs = sym (f.long x) in
      let whole : nat_le w (length (bs ++ rest)) ≡ true = (let a = length-append bs rest in grind (arith, nat_tests)) in
      let t : take w (bs ++ rest) ≡ bs = ap (λ n. take n (bs ++ rest)) w_is ∙ take_front bs rest in
      let d : drop w (bs ++ rest) ≡ rest = ap (λ n. drop n (bs ++ rest)) w_is ∙ drop_front bs rest in
      ap (λ (b : Bool). cond b (Ok (got (of (take w (bs ++ rest))) (at + w) (drop w (bs ++ rest)))) (Err (Short at))) whole
      ∙ ap (λ (ys : List ℕ). Ok (got (of ys) (at + w) (drop w (bs ++ rest)))) t
      ∙ ap (λ (ys : List ℕ). Ok (got (of bs) (at + w) ys)) d
      ∙ ap (λ (y : _). Ok (got y (at + w) rest)) (f.there x l)
      ∙ ap (λ n. Ok (got x (at + n) rest)) w_is;
  back = λ at bytes x now rest b e. by at bytes x now rest b (nat_le w (length bytes)) refl e;
}
  where
    by : (at : ℕ) (bytes : List ℕ) (x : _) (now : ℕ) (rest : List ℕ) → AreBytes bytes → (t : Bool) → nat_le w (length bytes) ≡ t
        → cond t (Ok (got (of (take w bytes)) (at + w) (drop w bytes))) (Err (Short at)) ≡ Ok (got x now rest) → Wrote bytes_of P at bytes x now rest
    by at bytes x now rest b false is e = absurd (cc)
    by at bytes x now rest b true is e =
        let fits : w ≤ length bytes = grind (arith, nat_tests) in
        let bs : List ℕ = take w bytes in
        let long : length bs ≡ w = length_take w bytes fits in
        let small : AreBytes bs = bytes_front w bytes b in
        let g : Got _ = got (of bs) (at + w) (drop w bytes) in
        let same : g ≡ got x now rest = ok_is (Ok g) g (got x now rest) refl e in
        let here : Wrote bytes_of P at bytes (of bs) (at + w) (drop w bytes) = record {
          lawful = f.lawful bs long small;
          bytes_are = sym (ap (λ (ys : List ℕ). ys ++ drop w bytes) (f.back bs long small) ∙ take-append-drop w bytes);
          at_is = ap (λ n. at + n) (sym (f.long (of bs)));
        } in
        subst (λ (h : Got _). Wrote bytes_of P at bytes h.value h.at h.rest) same here

-- ---- numbers

bound_2 : (bs : List ℕ) → length bs ≡ 2 → AreBytes bs → from_be_bytes w16 bs < 2 ^ 16
bound_2 (a ∷ b ∷ []) l h = let x : a < 2 ^ 8 = h.0 in let y : b < 2 ^ 8 = h.1.0 in omega arith
bound_2 [] l h = absurd (omega arith)
bound_2 (a ∷ []) l h = absurd (omega arith)
bound_2 (a ∷ b ∷ c ∷ bs) l h = absurd (omega arith)

bound_4 : (bs : List ℕ) → length bs ≡ 4 → AreBytes bs → from_be_bytes w32 bs < 2 ^ 32
bound_4 (a ∷ b ∷ c ∷ d ∷ []) l h = let x : a < 2 ^ 8 = h.0 in let y : b < 2 ^ 8 = h.1.0 in let z : c < 2 ^ 8 = h.1.1.0 in let u : d < 2 ^ 8 = h.1.1.1.0 in omega arith
bound_4 [] l h = absurd (omega arith)
bound_4 (a ∷ []) l h = absurd (omega arith)
bound_4 (a ∷ b ∷ []) l h = absurd (omega arith)
bound_4 (a ∷ b ∷ c ∷ []) l h = absurd (omega arith)
bound_4 (a ∷ b ∷ c ∷ d ∷ e ∷ bs) l h = absurd (omega arith)

pub width_2 : IsWidth 2 (from_be_bytes w16) (to_be_bytes w16) (λ n. n < 2 ^ 16)
width_2 = record {
  long = λ n. refl;
  there = λ n l. from_be_bytes-to_be_bytes_2 n l;
  lawful = λ bs l h. bound_2 bs l h;
  back = λ bs l h. be_bytes_2 bs (from_be_bytes w16 bs) l (byte_at bs h) refl;
}

pub width_4 : IsWidth 4 (from_be_bytes w32) (to_be_bytes w32) (λ n. n < 2 ^ 32)
width_4 = record {
  long = λ n. refl;
  there = λ n l. from_be_bytes-to_be_bytes_4 n l;
  lawful = λ bs l h. bound_4 bs l h;
  back = λ bs l h. be_bytes_4 bs (from_be_bytes w32 bs) l (byte_at bs h) refl;
}

pub width_1 : IsWidth 1 (λ bs. get_or bs 0 0) (λ b. b ∷ []) (λ b. b < 2 ^ 8)
width_1 = record {
  long = λ n. refl;
  there = λ n l. refl;
  lawful = λ bs l h. byte_at bs h 0;
  back = λ bs l h. one bs l;
}
  where
    one : (bs : List ℕ) → length bs ≡ 1 → get_or bs 0 0 ∷ [] ≡ bs
    one [] l = absurd (omega arith)
    one (b ∷ []) l = refl
    one (b ∷ c ∷ bs) l = absurd (omega arith)

-- a value in two's complement
pub bound_8 : (bs : List ℕ) → length bs ≡ 8 → AreBytes bs → from_be_bytes w64 bs < 2 ^ 64
bound_8 bs l h = omega (arith, l, byte_at bs h 0, byte_at bs h 1, byte_at bs h 2, byte_at bs h 3, byte_at bs h 4, byte_at bs h 5, byte_at bs h 6, byte_at bs h 7)
