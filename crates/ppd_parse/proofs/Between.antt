-- What stands between tokens: white space and comments alone.
use Rattle.std.proofs.Common.{◌≡◌, ◌≤◌, ℕ, suc, zero, ◌+◌, ◌-◌, List, [], ◌∷◌, length, drop, take, take_while, Bool, true, false, cond, refl, sym, ◌∙◌, ap, subst, arith, nat_eq, nat_lt, not, ◌&&◌, Option, Some, None, length-take, length-drop}
use Rattle.std.specs.Prelude.{codes, slice_range}
use Rattle.std.specs.List.{starts_with, prefix_len, list_all}
use Rattle.std.proofs.Math.Seq.{take-nil}
use Rattle.std.proofs.lemmas.List.{drop-take}
use Rattle.ppd_ast.specs.declared.limits.TheConstants.{MOST_NAME_BYTES}
use Rattle.ppd_parse.specs.declared.token.Kind.{Kind}
use Rattle.ppd_parse.specs.declared.scan.Fault.TheVariants as F
use Rattle.ppd_parse.specs.declared.scan.Piece.TheVariants.{Gap, Read, Bad}
use Rattle.ppd_parse.specs.Front.{front, is_name_byte, looked_up, keywords, marks, number_of, close_from, read_word, read_number, read_mark}
use Rattle.ppd_parse.proofs.Words.{word_kind, read_value, read_block, read_single, read_pair}
use Rattle.ppd_parse.specs.Gaps.{IsBlank, AreApart}
use Rattle.ppd_parse.specs.Tokens.{Lexes, end, gap, token, IsTokens}
use Rattle.ppd_parse.specs.declared.token.Token.{Token}
use Rattle.ppd_parse.proofs.FormedTokens.{proper_at}
use Rattle.ppd_parse.specs.Gaps as G
use Rattle.ppd_parse.proofs.Begins.{Begins, begins, space, word, number, line, block, mark, front_space, front_word, front_number, front_line, front_block, front_mark}
use Rattle.ppd_parse.proofs.Munch.{take_after, starts_cut}
use Rattle.ppd_parse.proofs.Fronts.{close_bound, line_least}

word_no_gap : (text : List ℕ) (n : ℕ) → read_word text ≡ Gap n → ⊥
word_no_gap text n h = go (nat_lt MOST_NAME_BYTES (length text)) h
  where
    go : (t : Bool) → cond t (Bad F.LongName) (Read (length text) (word_kind (looked_up keywords text) text)) ≡ Gap n → ⊥
    go true h = cc
    go false h = cc

number_no_gap : (text : List ℕ) (n : ℕ) → read_number text ≡ Gap n → ⊥
number_no_gap text n h = go (number_of text) h
  where
    go : (o : Option ℕ) → read_value (length text) o ≡ Gap n → ⊥
    go (Some v) h = cc
    go None h = cc

single_no_gap : (o : Option Kind) (n : ℕ) → read_single o ≡ Gap n → ⊥
single_no_gap (Some v) n h = cc
single_no_gap None n h = cc

mark_no_gap : (b : ℕ) (bs : List ℕ) (n : ℕ) → read_mark b bs ≡ Gap n → ⊥
mark_no_gap b [] n h = single_no_gap (looked_up marks (b ∷ [])) n h
mark_no_gap b (c ∷ cs) n h = go (looked_up marks (b ∷ c ∷ [])) h
  where
    go : (o : Option Kind) → read_pair o b ≡ Gap n → ⊥
    go (Some v) h = cc
    go None h = single_no_gap (looked_up marks (b ∷ [])) n h

-- the elements as far as a test goes pass it
front_passes : (test : ℕ → Bool) (xs : List ℕ) → list_all test (take (prefix_len test xs) xs) ≡ true
front_passes test [] = ap (list_all test) (take-nil 0)
front_passes test (x ∷ xs) = go (test x) refl (front_passes test xs)
  where
    go : (t : Bool) → t ≡ test x → list_all test (take (prefix_len test xs) xs) ≡ true → list_all test (take (cond t (1 + prefix_len test xs) 0) (x ∷ xs)) ≡ true
    go true e more = ap (list_all test) (take_after (prefix_len test xs) x xs) ∙ (ap (λ t. t && list_all test (take (prefix_len test xs) xs)) (sym e) ∙ more)
    go false e more = refl

-- two bytes that the bytes begin with are also those of a piece of two bytes or more
pair_kept : (a c : ℕ) (bs : List ℕ) (n : ℕ) → 2 ≤ n → starts_with nat_eq bs (a ∷ c ∷ []) ≡ true → starts_with nat_eq (take n bs) (a ∷ c ∷ []) ≡ true
pair_kept a c [] n l h = cc
pair_kept a c (b ∷ bs) zero l h = absurd (omega arith)
pair_kept a c (b ∷ bs) (suc zero) l h = absurd (omega arith)
pair_kept a c (b ∷ []) (suc (suc n)) l h = h
pair_kept a c (b ∷ (d ∷ ds)) (suc (suc n)) l h = h

-- the end of a comment is where it is, however the bytes are cut off after it
close_cut : (before : ℕ) (bs : List ℕ) (n m : ℕ) → n ≤ before + m → close_from before bs ≡ Some n → close_from before (take m bs) ≡ Some n
close_cut before [] n m l h = cc
close_cut before (b ∷ bs) n zero l h = let k = close_bound before (b ∷ bs) n h in absurd (omega (arith, k.0))
close_cut before (b ∷ bs) n (suc m) l h = go (starts_with nat_eq (b ∷ bs) (codes "*/")) refl h (close_cut (before + 1) bs n m (omega arith))
  where
    go : (t : Bool) → t ≡ starts_with nat_eq (b ∷ bs) (codes "*/") → cond t (Some (before + 2)) (close_from (before + 1) bs) ≡ Some n → (close_from (before + 1) bs ≡ Some n → close_from (before + 1) (take m bs) ≡ Some n) → close_from before (b ∷ take m bs) ≡ Some n
    go true e h more =
        let two : before + 2 ≡ n = cc in
        let kept : starts_with nat_eq (b ∷ take m bs) (codes "*/") ≡ true = pair_kept 42 47 (b ∷ bs) (suc m) (omega arith) (sym e) in
        ap (λ t. cond t (Some (before + 2)) (close_from (before + 1) (take m bs))) kept ∙ h
    go false e h more = ap (λ t. cond t (Some (before + 2)) (close_from (before + 1) (take m bs))) (starts_cut 42 47 b bs m (sym e)) ∙ more h

line_blank : (b : ℕ) (bs : List ℕ) → starts_with nat_eq (b ∷ bs) (codes "//") ≡ true → IsBlank (take (prefix_len (λ c. not (nat_eq c 10)) (b ∷ bs)) (b ∷ bs))
line_blank b bs x = G.line (pair_kept 47 47 (b ∷ bs) (prefix_len (λ c. not (nat_eq c 10)) (b ∷ bs)) (line_least b bs x) x) (front_passes (λ c. not (nat_eq c 10)) (b ∷ bs))

drop_take : (n : ℕ) (bs : List ℕ) → 2 ≤ n → drop 2 (take n bs) ≡ take (n - 2) (drop 2 bs)
drop_take n bs l = let e : n ≡ 2 + (n - 2) = omega arith in ap (λ k. drop 2 (take k bs)) e ∙ drop-take 2 (n - 2) bs

block_blank : (bs : List ℕ) (n : ℕ) → n ≤ length bs → starts_with nat_eq bs (codes "/*") ≡ true → close_from 2 (drop 2 bs) ≡ Some n → IsBlank (take n bs)
block_blank bs n l x h =
    let k = close_bound 2 (drop 2 bs) n h in
    let len : length (take n bs) ≡ n = omega (arith, length-take n bs) in
    G.block (pair_kept 47 42 bs n (omega (arith, k.0)) x) (ap (close_from 2) (drop_take n bs (omega (arith, k.0))) ∙ (close_cut 2 (drop 2 bs) n (n - 2) (omega (arith, k.0)) h ∙ ap Some (sym len)))

module _ (b : ℕ) (bs : List ℕ) (n : ℕ) (l : n ≤ length (b ∷ bs)) (h : front (b ∷ bs) ≡ Gap n) where
  blank_by : Begins b bs → IsBlank (take n (b ∷ bs))
  blank_by (space s) = let e = front_space b bs s in let one : n ≡ 1 = cc in G.space b (ap (λ k. take k (b ∷ bs)) one) s
  blank_by (word s p) = absurd (word_no_gap (take_while is_name_byte (b ∷ bs)) n (sym (front_word b bs s p) ∙ h))
  blank_by (number s p d) = absurd (number_no_gap (take_while is_name_byte (b ∷ bs)) n (sym (front_number b bs s p d) ∙ h))
  blank_by (line s p d x) =
      let e : Gap (prefix_len (λ c. not (nat_eq c 10)) (b ∷ bs)) ≡ Gap n = sym (front_line b bs s p d x) ∙ h in
      let is : prefix_len (λ c. not (nat_eq c 10)) (b ∷ bs) ≡ n = cc in
      subst (λ k. IsBlank (take k (b ∷ bs))) is (line_blank b bs x)
  blank_by (block s p d x y) = by_end (close_from 2 (drop 2 (b ∷ bs))) refl (sym (front_block b bs s p d x y) ∙ h)
    where
      by_end : (o : Option ℕ) → o ≡ close_from 2 (drop 2 (b ∷ bs)) → read_block o ≡ Gap n → IsBlank (take n (b ∷ bs))
      by_end (Some k) e f = let is : k ≡ n = cc in block_blank (b ∷ bs) n l y (sym e ∙ ap Some is)
      by_end None e f = cc
  blank_by (mark s p d x y) = absurd (mark_no_gap b bs n (sym (front_mark b bs s p d x y) ∙ h))

-- a gap at the front is white space or a comment
pub front_blank : (bs : List ℕ) (n : ℕ) → n ≤ length bs → front bs ≡ Gap n → IsBlank (take n bs)
front_blank [] n l h = cc
front_blank (b ∷ bs) n l h = blank_by b bs n l h (begins b bs)

slice_is : (bs : List ℕ) (i n : ℕ) → slice_range bs i (i + n) ≡ take n (drop i bs)
slice_is bs i n = let e : (i + n) - i ≡ n = omega arith in ap (λ k. take k (drop i bs)) e

apart_sooner : (bs : List ℕ) (i j : ℕ) (ts : List Token) → IsBlank (slice_range bs i j) → AreApart bs j ts → AreApart bs i ts
apart_sooner bs i j [] h k = tt
apart_sooner bs i j (t ∷ ts) h k = (G.more h k.0, k.1)

apart_from : (bs : List ℕ) (i : ℕ) (ts : List Token) → Lexes bs i ts → AreApart bs i ts
apart_from bs i _ (end e) = (G.none, tt)
apart_from bs i ts (gap {n = n} lt e h) =
    let w = proper_at bs i (Gap n) lt e in
    let blank = front_blank (drop i bs) n (omega (arith, w.1, length-drop i bs)) e in
    apart_sooner bs i (i + n) ts (subst IsBlank (sym (slice_is bs i n)) blank) (apart_from bs (i + n) ts h)
apart_from bs i _ (token {n = n} {ts = ts} lt e h) = (G.none, apart_from bs (i + n) ts h)

-- only white space and comments stand before the first token and between tokens
pub apart : (bs : List ℕ) (ts : List Token) → IsTokens bs ts → AreApart bs 0 ts
apart bs ts h = apart_from bs 0 ts h.lexes
