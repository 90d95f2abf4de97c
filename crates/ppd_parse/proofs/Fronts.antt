-- What stands at the front has at least one byte, at most those that there are, and a kind of token.
use Rattle.std.proofs.Common.{◌≡◌, ◌≢◌, ◌<◌, ◌≤◌, ℕ, ◌+◌, ◌^◌, List, [], ◌∷◌, length, drop, take_while, Bool, true, false, cond, refl, sym, ap, arith, nat_eq, nat_lt, ◌||◌, not, Option, Some, None}
use Rattle.std.specs.Prelude.{codes}
use Rattle.std.specs.List.{starts_with, prefix_len}
use Rattle.std.proofs.lemmas.List.Sums.{prefix_len-le-length}
use Rattle.std.proofs.lemmas.List.Folds.{length-prefix_len}
use Rattle.std.proofs.lemmas.Bool.{cond_below, cond_above}
use Rattle.std.proofs.lemmas.Bool.Decides.{nat_tests}
use Rattle.std.specs.Char.{is_ascii_digit}
use Rattle.ppd_ast.specs.declared.limits.TheConstants.{MOST_NAME_BYTES}
use Rattle.ppd_parse.specs.declared.token.Kind.{Kind}
use Rattle.ppd_parse.specs.declared.scan.Fault.TheVariants.{LongName}
use Rattle.ppd_parse.specs.declared.scan.Piece.{Piece}
use Rattle.ppd_parse.specs.declared.scan.Piece.TheVariants.{Gap, Read, Bad}
use Rattle.ppd_parse.specs.declared.token.TokenKind.TheVariants.{End}
use Rattle.ppd_parse.specs.Front.{front, is_space, is_letter, is_name_byte, looked_up, keywords, marks, number_of, value_of, close_from, read_word, read_number, read_mark}
use Rattle.ppd_parse.proofs.Words.{word_kind, read_value, read_block, read_single, read_pair}
use Rattle.ppd_parse.specs.Formed.{IsKind}

-- a piece of at most m bytes
abbrev pub IsProper : ℕ → Piece → Type 0
IsProper m (Gap n) = (0 < n) × (n ≤ m)
IsProper m (Read n kind) = (0 < n) × (n ≤ m) × IsKind kind × (kind ≢ End)
IsProper m (Bad fault) = Unit {0}

-- by the outcome of a test
pub by_test : (P : Piece → Type 0) (t : Bool) (x y : Piece) → (t ≡ true → P x) → (t ≡ false → P y) → P (cond t x y)
by_test P true x y f g = f refl
by_test P false x y f g = g refl

pub value_small : (text : List ℕ) (v : ℕ) → value_of text ≡ Some v → v < 2 ^ 63
value_small text v h = grind (arith, nat_tests)

pub number_small : (text : List ℕ) (v : ℕ) → number_of text ≡ Some v → v < 2 ^ 63
number_small [] v h = cc
number_small (b ∷ []) v h = value_small (b ∷ []) v h
number_small (b ∷ (c ∷ cs)) v h = go (nat_eq b 48) h
  where
    go : (t : Bool) → cond t None (value_of (b ∷ (c ∷ cs))) ≡ Some v → v < 2 ^ 63
    go true h = cc
    go false h = value_small (b ∷ (c ∷ cs)) v h

marker_len : (bs : List ℕ) → starts_with nat_eq bs (codes "*/") ≡ true → 2 ≤ length bs
marker_len [] h = grind (arith, nat_tests)
marker_len (b ∷ []) h = grind (arith, nat_tests)
marker_len (b ∷ (c ∷ cs)) h = omega arith

pub close_bound : (before : ℕ) (bs : List ℕ) (n : ℕ) → close_from before bs ≡ Some n → (before < n) × (n ≤ before + length bs)
close_bound before [] n h = cc
close_bound before (b ∷ bs) n h = go (starts_with nat_eq (b ∷ bs) (codes "*/")) refl h (close_bound (before + 1) bs n)
  where
    go : (t : Bool) → t ≡ starts_with nat_eq (b ∷ bs) (codes "*/") → cond t (Some (before + 2)) (close_from (before + 1) bs) ≡ Some n → (close_from (before + 1) bs ≡ Some n → (before + 1 < n) × (n ≤ (before + 1) + length bs)) → (before < n) × (n ≤ before + length (b ∷ bs))
    go true e h more = let is : before + 2 ≡ n = cc in (omega (arith, is), omega (arith, is, marker_len (b ∷ bs) (sym e)))
    go false e h more = let k = more h in (omega (arith, k.0), omega (arith, k.1))

word_proper : (m : ℕ) (text : List ℕ) → 0 < length text → length text ≤ m → IsProper m (read_word text)
word_proper m text l h = by_test (IsProper m) (nat_lt MOST_NAME_BYTES (length text)) _ _ (λ t. tt) (λ t. (l, h, (go (looked_up keywords text) refl t).0, (go (looked_up keywords text) refl t).1))
  where
    go : (o : Option Kind) → o ≡ looked_up keywords text → nat_lt MOST_NAME_BYTES (length text) ≡ false → IsKind (word_kind o text) × (word_kind o text ≢ End)
    go (Some kind) e t = ((text, sym e), λ x. cc)
    go None e t = ((l, grind (arith, nat_tests)), λ x. cc)

number_proper : (m : ℕ) (text : List ℕ) → 0 < length text → length text ≤ m → IsProper m (read_number text)
number_proper m text l h = go (number_of text) refl
  where
    go : (o : Option ℕ) → o ≡ number_of text → IsProper m (read_value (length text) o)
    go (Some v) e = (l, h, number_small text v (sym e), λ x. cc)
    go None e = tt

block_proper : (m : ℕ) (bs : List ℕ) → 2 + length bs ≤ m → IsProper m (read_block (close_from 2 bs))
block_proper m bs h = go (close_from 2 bs) refl
  where
    go : (o : Option ℕ) → o ≡ close_from 2 bs → IsProper m (read_block o)
    go (Some n) e = let k = close_bound 2 bs n (sym e) in (omega (arith, k.0), omega (arith, k.1))
    go None e = tt

single_proper : (m b : ℕ) → 1 ≤ m → IsProper m (read_single (looked_up marks (b ∷ [])))
single_proper m b h = go (looked_up marks (b ∷ [])) refl
  where
    go : (o : Option Kind) → o ≡ looked_up marks (b ∷ []) → IsProper m (read_single o)
    go (Some n) e = (omega arith, h, (b ∷ [], sym e), λ x. cc)
    go None e = tt

mark_proper : (b : ℕ) (bs : List ℕ) → IsProper (length (b ∷ bs)) (read_mark b bs)
mark_proper b [] = single_proper 1 b (omega arith)
mark_proper b (c ∷ cs) = go (looked_up marks (b ∷ c ∷ [])) refl
  where
    go : (o : Option Kind) → o ≡ looked_up marks (b ∷ c ∷ []) → IsProper (length (b ∷ (c ∷ cs))) (read_pair o b)
    go (Some n) e = (omega arith, omega arith, (b ∷ c ∷ [], sym e), λ x. cc)
    go None e = single_proper (length (b ∷ (c ∷ cs))) b (omega arith)

letter_passes : (b : ℕ) → is_letter b ≡ true → is_name_byte b ≡ true
letter_passes b h = ap (λ t. t || is_ascii_digit b) h

digit_passes : (b : ℕ) → is_ascii_digit b ≡ true → is_name_byte b ≡ true
digit_passes b h = grind (arith, nat_tests)

passed_proper : (b : ℕ) (bs : List ℕ) → is_name_byte b ≡ true → (0 < length (take_while is_name_byte (b ∷ bs))) × (length (take_while is_name_byte (b ∷ bs)) ≤ length (b ∷ bs))
passed_proper b bs h =
    let len : length (take_while is_name_byte (b ∷ bs)) ≡ prefix_len is_name_byte (b ∷ bs) = length-prefix_len is_name_byte (b ∷ bs) in
    let one : prefix_len is_name_byte (b ∷ bs) ≡ 1 + prefix_len is_name_byte bs = ap (λ t. cond t (1 + prefix_len is_name_byte bs) 0) h in
    let most = prefix_len-le-length is_name_byte (b ∷ bs) in
    (omega (arith, len, one), omega (arith, len, most))

pub line_least : (b : ℕ) (bs : List ℕ) → starts_with nat_eq (b ∷ bs) (codes "//") ≡ true → 2 ≤ prefix_len (λ c. not (nat_eq c 10)) (b ∷ bs)
line_least b [] h = grind (arith, nat_tests)
line_least b (c ∷ cs) h =
    let first : b ≡ 47 = grind (arith, nat_tests) in
    let second : c ≡ 47 = grind (arith, nat_tests) in
    rw (first, second) (omega arith)

line_proper : (b : ℕ) (bs : List ℕ) → starts_with nat_eq (b ∷ bs) (codes "//") ≡ true → IsProper (length (b ∷ bs)) (Gap (prefix_len (λ c. not (nat_eq c 10)) (b ∷ bs)))
line_proper b bs h =
    let one : prefix_len (λ c. not (nat_eq c 10)) (b ∷ bs) ≡ 1 + prefix_len (λ c. not (nat_eq c 10)) bs = grind (arith, nat_tests) in
    (omega (arith, one), prefix_len-le-length (λ c. not (nat_eq c 10)) (b ∷ bs))

block_room : (b : ℕ) (bs : List ℕ) → starts_with nat_eq (b ∷ bs) (codes "/*") ≡ true → 2 + length (drop 2 (b ∷ bs)) ≤ length (b ∷ bs)
block_room b [] h = grind (arith, nat_tests)
block_room b (c ∷ cs) h = omega arith

-- what stands at the front of one byte or more
pub front_proper : (bs : List ℕ) → 0 < length bs → IsProper (length bs) (front bs)
front_proper [] h = absurd (omega arith)
front_proper (b ∷ bs) h =
    let m = length (b ∷ bs) in
    by_test (IsProper m) (is_space b) _ _ (λ s. (omega arith, omega arith)) (λ s.
    by_test (IsProper m) (is_letter b) _ _ (λ l. let k = passed_proper b bs (letter_passes b l) in word_proper m _ k.0 k.1) (λ l.
    by_test (IsProper m) (is_ascii_digit b) _ _ (λ d. let k = passed_proper b bs (digit_passes b d) in number_proper m _ k.0 k.1) (λ d.
    by_test (IsProper m) (starts_with nat_eq (b ∷ bs) (codes "//")) _ _ (line_proper b bs) (λ n.
    by_test (IsProper m) (starts_with nat_eq (b ∷ bs) (codes "/*")) _ _ (λ e. block_proper m (drop 2 (b ∷ bs)) (block_room b bs e)) (λ e. mark_proper b bs)))))

-- what a text of letters and digits is, by its length and by what the table of keywords has for it

pub word_long : (text : List ℕ) → MOST_NAME_BYTES < length text → Bad LongName ≡ read_word text
word_long text h = cond_below MOST_NAME_BYTES (length text) (Bad LongName) (Read (length text) (word_kind (looked_up keywords text) text)) h

pub word_short : (text : List ℕ) (k : Option Kind) → length text ≤ MOST_NAME_BYTES → k ≡ looked_up keywords text → Read (length text) (word_kind k text) ≡ read_word text
word_short text k h e = cond_above MOST_NAME_BYTES (length text) (Bad LongName) (Read (length text) (word_kind (looked_up keywords text) text)) (Read (length text) (word_kind k text)) h (ap (λ (o : Option Kind). Read (length text) (word_kind o text)) e)
