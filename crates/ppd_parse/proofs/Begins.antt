-- How bytes may begin, and what then stands at the front.
use Rattle.std.proofs.Common.{◌≡◌, ℕ, List, ◌∷◌, take_while, drop, Bool, true, false, refl, nat_eq, not}
use Rattle.std.specs.Prelude.{codes}
use Rattle.std.specs.List.{starts_with, prefix_len}
use Rattle.std.specs.Char.{is_ascii_digit}
use Rattle.ppd_parse.specs.declared.scan.Piece.TheVariants.{Gap}
use Rattle.ppd_parse.specs.Front.{front, is_space, is_letter, is_name_byte, read_word, read_number, read_mark, close_from}
use Rattle.ppd_parse.proofs.Words.{read_block}

pub data Begins (b : ℕ) (bs : List ℕ) : Type 0 where
  space : is_space b ≡ true → Begins b bs
  word : is_space b ≡ false → is_letter b ≡ true → Begins b bs
  number : is_space b ≡ false → is_letter b ≡ false → is_ascii_digit b ≡ true → Begins b bs
  line : is_space b ≡ false → is_letter b ≡ false → is_ascii_digit b ≡ false → starts_with nat_eq (b ∷ bs) (codes "//") ≡ true → Begins b bs
  block : is_space b ≡ false → is_letter b ≡ false → is_ascii_digit b ≡ false → starts_with nat_eq (b ∷ bs) (codes "//") ≡ false → starts_with nat_eq (b ∷ bs) (codes "/*") ≡ true → Begins b bs
  mark : is_space b ≡ false → is_letter b ≡ false → is_ascii_digit b ≡ false → starts_with nat_eq (b ∷ bs) (codes "//") ≡ false → starts_with nat_eq (b ∷ bs) (codes "/*") ≡ false → Begins b bs

pub begins : (b : ℕ) (bs : List ℕ) → Begins b bs
begins b bs = go (is_space b) (is_letter b) (is_ascii_digit b) (starts_with nat_eq (b ∷ bs) (codes "//")) (starts_with nat_eq (b ∷ bs) (codes "/*")) refl refl refl refl refl
  where
    go : (s l d n e : Bool) → is_space b ≡ s → is_letter b ≡ l → is_ascii_digit b ≡ d → starts_with nat_eq (b ∷ bs) (codes "//") ≡ n → starts_with nat_eq (b ∷ bs) (codes "/*") ≡ e → Begins b bs
    go true l d n e s' l' d' n' e' = space s'
    go false true d n e s' l' d' n' e' = word s' l'
    go false false true n e s' l' d' n' e' = number s' l' d'
    go false false false true e s' l' d' n' e' = line s' l' d' n'
    go false false false false true s' l' d' n' e' = block s' l' d' n' e'
    go false false false false false s' l' d' n' e' = mark s' l' d' n' e'

module _ (b : ℕ) (bs : List ℕ) where
  pub front_space : is_space b ≡ true → front (b ∷ bs) ≡ Gap 1
  front_space s = rw s refl

  pub front_word : is_space b ≡ false → is_letter b ≡ true → front (b ∷ bs) ≡ read_word (take_while is_name_byte (b ∷ bs))
  front_word s l = rw (s, l) refl

  pub front_number : is_space b ≡ false → is_letter b ≡ false → is_ascii_digit b ≡ true → front (b ∷ bs) ≡ read_number (take_while is_name_byte (b ∷ bs))
  front_number s l d = rw (s, l, d) refl

  pub front_line : is_space b ≡ false → is_letter b ≡ false → is_ascii_digit b ≡ false → starts_with nat_eq (b ∷ bs) (codes "//") ≡ true → front (b ∷ bs) ≡ Gap (prefix_len (λ c. not (nat_eq c 10)) (b ∷ bs))
  front_line s l d n = rw (s, l, d, n) refl

  pub front_block : is_space b ≡ false → is_letter b ≡ false → is_ascii_digit b ≡ false → starts_with nat_eq (b ∷ bs) (codes "//") ≡ false → starts_with nat_eq (b ∷ bs) (codes "/*") ≡ true → front (b ∷ bs) ≡ read_block (close_from 2 (drop 2 (b ∷ bs)))
  front_block s l d n e = rw (s, l, d, n, e) refl

  pub front_mark : is_space b ≡ false → is_letter b ≡ false → is_ascii_digit b ≡ false → starts_with nat_eq (b ∷ bs) (codes "//") ≡ false → starts_with nat_eq (b ∷ bs) (codes "/*") ≡ false → front (b ∷ bs) ≡ read_mark b bs
  front_mark s l d n e = rw (s, l, d, n, e) refl
