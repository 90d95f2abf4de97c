-- A token is the longest: cutting the bytes off after it, or later, leaves it as it is.
use Rattle.std.proofs.Common.{◌≡◌, ◌<◌, ◌≤◌, ℕ, suc, zero, ◌+◌, List, [], ◌∷◌, length, drop, take, take_while, Bool, true, false, cond, refl, sym, ◌∙◌, ap, arith, nat_eq, nat_lt, ◌&&◌, Option, Some, None, one-add}
use Rattle.std.specs.List.{starts_with, prefix_len}
use Rattle.std.proofs.lemmas.List.Folds.{length-prefix_len}
use Rattle.std.proofs.Math.Seq.{take-nil}
use Rattle.ppd_ast.specs.declared.limits.TheConstants.{MOST_NAME_BYTES}
use Rattle.ppd_parse.specs.declared.token.Kind.{Kind}
use Rattle.ppd_parse.specs.declared.scan.Piece.TheVariants.{Read, Bad}
use Rattle.ppd_parse.specs.declared.scan.Fault.TheVariants as F
use Rattle.ppd_parse.specs.declared.token.TokenKind.{TokenKind}
use Rattle.ppd_parse.specs.Front.{front, is_name_byte, looked_up, keywords, marks, number_of, close_from, read_word, read_number, read_mark}
use Rattle.ppd_parse.proofs.Words.{word_kind, read_value, read_block, read_single, read_pair}
use Rattle.ppd_parse.proofs.Begins.{Begins, begins, space, word, number, line, block, mark, front_space, front_word, front_number, front_line, front_block, front_mark}

pub take_after : (k x : ℕ) (xs : List ℕ) → take (1 + k) (x ∷ xs) ≡ x ∷ take k xs
take_after k x xs = rw one-add refl

-- as far as the test goes, and a piece that is cut off later
while_cut : (test : ℕ → Bool) (xs : List ℕ) (m : ℕ) → prefix_len test xs ≤ m → take_while test (take m xs) ≡ take_while test xs
while_cut test [] m h = ap (take_while test) (take-nil m)
while_cut test (x ∷ xs) zero h = go (test x) h
  where
    go : (t : Bool) → cond t (1 + prefix_len test xs) 0 ≤ 0 → [] ≡ take (cond t (1 + prefix_len test xs) 0) (x ∷ xs)
    go true h = absurd (omega arith)
    go false h = refl
while_cut test (x ∷ xs) (suc m) h = go (test x) h (while_cut test xs m)
  where
    go : (t : Bool) → cond t (1 + prefix_len test xs) 0 ≤ suc m → (prefix_len test xs ≤ m → take_while test (take m xs) ≡ take_while test xs) → take (cond t (1 + prefix_len test (take m xs)) 0) (x ∷ take m xs) ≡ take (cond t (1 + prefix_len test xs) 0) (x ∷ xs)
    go true h more = take_after (prefix_len test (take m xs)) x (take m xs) ∙ (ap (λ ys. x ∷ ys) (more (omega arith)) ∙ sym (take_after (prefix_len test xs) x xs))
    go false h more = refl

-- a beginning of two bytes, and a piece that is cut off
pub starts_cut : (a c b : ℕ) (bs : List ℕ) (m : ℕ) → starts_with nat_eq (b ∷ bs) (a ∷ c ∷ []) ≡ false → starts_with nat_eq (b ∷ take m bs) (a ∷ c ∷ []) ≡ false
starts_cut a c b [] m h = ap (λ xs. starts_with nat_eq (b ∷ xs) (a ∷ c ∷ [])) (take-nil m) ∙ h
starts_cut a c b (d ∷ ds) zero h = go (nat_eq a b)
  where
    go : (t : Bool) → (t && false) ≡ false
    go true = refl
    go false = refl
starts_cut a c b (d ∷ ds) (suc m) h = h

word_length : (text : List ℕ) (n : ℕ) (kind : TokenKind) → read_word text ≡ Read n kind → length text ≡ n
word_length text n kind h = go (nat_lt MOST_NAME_BYTES (length text)) h
  where
    go : (t : Bool) → cond t (Bad F.LongName) (Read (length text) (word_kind (looked_up keywords text) text)) ≡ Read n kind → length text ≡ n
    go true h = cc
    go false h = cc

number_length : (text : List ℕ) (n : ℕ) (kind : TokenKind) → read_number text ≡ Read n kind → length text ≡ n
number_length text n kind h = go (number_of text) h
  where
    go : (o : Option ℕ) → read_value (length text) o ≡ Read n kind → length text ≡ n
    go (Some v) h = cc
    go None h = cc

mark_cut : (b : ℕ) (bs : List ℕ) (m n : ℕ) (kind : TokenKind) → n ≤ suc m → read_mark b bs ≡ Read n kind → read_mark b (take m bs) ≡ Read n kind
mark_cut b [] m n kind l h = ap (read_mark b) (take-nil m) ∙ h
mark_cut b (c ∷ cs) (suc m) n kind l h = h
mark_cut b (c ∷ cs) zero n kind l h = go (looked_up marks (b ∷ c ∷ [])) h
  where
    go : (o : Option Kind) → read_pair o b ≡ Read n kind → read_single (looked_up marks (b ∷ [])) ≡ Read n kind
    go (Some found) h = let two : 2 ≡ n = cc in absurd (omega arith)
    go None h = h

while_length : (b : ℕ) (bs : List ℕ) (m n : ℕ) → n ≤ suc m → length (take_while is_name_byte (b ∷ bs)) ≡ n → take_while is_name_byte (b ∷ take m bs) ≡ take_while is_name_byte (b ∷ bs)
while_length b bs m n l e =
    let len : length (take_while is_name_byte (b ∷ bs)) ≡ prefix_len is_name_byte (b ∷ bs) = length-prefix_len is_name_byte (b ∷ bs) in
    while_cut is_name_byte (b ∷ bs) (suc m) (omega (arith, len, e))

module _ (b : ℕ) (bs : List ℕ) (m n : ℕ) (kind : TokenKind) (l : n ≤ suc m) (h : front (b ∷ bs) ≡ Read n kind) where
  cut_by : Begins b bs → front (b ∷ take m bs) ≡ Read n kind
  cut_by (space s) = let e = front_space b bs s in cc
  cut_by (word s p) =
      let e : read_word (take_while is_name_byte (b ∷ bs)) ≡ Read n kind = sym (front_word b bs s p) ∙ h in
      front_word b (take m bs) s p ∙ (ap read_word (while_length b bs m n l (word_length (take_while is_name_byte (b ∷ bs)) n kind e)) ∙ e)
  cut_by (number s p d) =
      let e : read_number (take_while is_name_byte (b ∷ bs)) ≡ Read n kind = sym (front_number b bs s p d) ∙ h in
      front_number b (take m bs) s p d ∙ (ap read_number (while_length b bs m n l (number_length (take_while is_name_byte (b ∷ bs)) n kind e)) ∙ e)
  cut_by (line s p d x) = let e = front_line b bs s p d x in cc
  cut_by (block s p d x y) = no_block (close_from 2 (drop 2 (b ∷ bs))) (sym (front_block b bs s p d x y) ∙ h)
    where
      no_block : (o : Option ℕ) → read_block o ≡ Read n kind → front (b ∷ take m bs) ≡ Read n kind
      no_block (Some k) e = cc
      no_block None e = cc
  cut_by (mark s p d x y) = front_mark b (take m bs) s p d (starts_cut 47 47 b bs m x) (starts_cut 47 42 b bs m y) ∙ mark_cut b bs m n kind l (sym (front_mark b bs s p d x y) ∙ h)

-- the token at the front is there however the bytes are cut off after it
pub front_cut : (bs : List ℕ) (n m : ℕ) (kind : TokenKind) → 0 < n → n ≤ m → front bs ≡ Read n kind → front (take m bs) ≡ Read n kind
front_cut [] n m kind p l h = ap front (take-nil m) ∙ h
front_cut (b ∷ bs) n zero kind p l h = absurd (omega arith)
front_cut (b ∷ bs) n (suc m) kind p l h = cut_by b bs m n kind l h (begins b bs)
