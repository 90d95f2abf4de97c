-- The form of a part of a recording, from which three things follow: which values are lawful, how each is spelled, and
-- how bytes are read. A form is built of fields by the words below.
use Rattle.std.specs.Prelude.{◌≡◌, ℕ, ◌<◌, ◌*◌, ◌^◌, nat_eq, ℤ, Bool, true, List, [], ◌∷◌, ◌++◌, length, get_or, Option, Some, None, IsSomeAnd, if◌then◌else◌, ⊤, FitsSigned}
use Rattle.std.specs.Int.{Width, cast_signed, cast_unsigned, byte_len, w64, to_be_bytes, from_be_bytes}
use Rattle.std.specs.List.{AllByRecursion, find, flat_map}
use Rattle.std.specs.Option.{option_map_or}
use Rattle.ppd_codec.specs.declared.bad.BadBytes.{BadBytes}
use Rattle.ppd_codec.specs.Reader.{Reader, checked, done, field, next, several}

pub record Form (A : Type 0) : Type 1 where
  pub Lawful : A → Type 0
  pub bytes : A → List ℕ
  pub read : Reader A

-- ---- numbers, big-endian

abbrev pub byte : Form ℕ
byte = record { Lawful = λ n. n < 2 ^ 8; bytes = λ n. n ∷ []; read = field 1 (λ bytes. get_or bytes 0 0) }

-- in so many bytes
abbrev pub number : Width → Form ℕ
number w = record {
  Lawful = λ n. n < 2 ^ (8 * byte_len w);
  bytes = to_be_bytes w;
  read = field (byte_len w) (from_be_bytes w);
}

-- in two's complement
abbrev pub value : Form ℤ
value = record {
  Lawful = FitsSigned w64;
  bytes = λ v. to_be_bytes w64 (cast_unsigned w64 v);
  read = field 8 (λ bytes. cast_signed w64 (from_be_bytes w64 bytes));
}

-- ---- what is lawful in a field

-- those that pass the test
abbrev pub ranged : {A : Type 0} → (ℕ → BadBytes) → (A → Bool) → Form A → Form A
ranged bad test f = record {
  Lawful = λ x. f.Lawful x × (test x ≡ true);
  bytes = f.bytes;
  read = checked (λ x. if test x then Some x else None) bad f.read;
}

-- one of these, by its code
abbrev pub one_of : {A : Type 0} → (ℕ → BadBytes) → (A → ℕ) → List A → Form ℕ → Form A
one_of bad code all f = record {
  Lawful = λ x. f.Lawful (code x) × (find (λ y. nat_eq (code y) (code x)) all ≡ Some x);
  bytes = λ x. f.bytes (code x);
  read = checked (λ n. find (λ y. nat_eq (code y) n) all) bad f.read;
}

-- ---- one after the other

abbrev pub pair : {A B : Type 0} → Form A → (A → Form B) → Form (A × B)
pair f g = record {
  Lawful = λ p. f.Lawful p.0 × (g p.0).Lawful p.1;
  bytes = λ p. f.bytes p.0 ++ (g p.0).bytes p.1;
  read = next f.read (λ x. next (g x).read (λ y. done (x, y)));
}

-- the parts by the name of the whole; `parts` gives them back
abbrev pub named : {A B : Type 0} → (A → B) → (B → Option A) → Form A → Form B
named whole parts f = record {
  Lawful = λ y. IsSomeAnd (parts y) f.Lawful;
  bytes = λ y. option_map_or f.bytes (parts y) [];
  read = next f.read (λ x. done (whole x));
}

-- ---- lists, after their count

abbrev pub listed : {A : Type 0} → Form ℕ → Form A → Form (List A)
listed count f = record {
  Lawful = λ xs. count.Lawful (length xs) × AllByRecursion f.Lawful xs;
  bytes = λ xs. count.bytes (length xs) ++ flat_map f.bytes xs;
  read = next count.read (several (λ t. f.read) (λ x. tt {0}) (tt {0}));
}

-- each element passes the test at what the one before it leaves
abbrev pub Along : {S A : Type 0} → (S → A → Bool) → (A → S) → S → List A → Type 0
Along fits leaves s [] = ⊤
Along fits leaves s (x ∷ xs) = (fits s x ≡ true) × Along fits leaves (leaves x) xs

abbrev pub listed_along : {S A : Type 0} → Form ℕ → (ℕ → BadBytes) → (S → A → Bool) → (A → S) → S → Form A
    → Form (List A)
listed_along count bad fits leaves s f = record {
  Lawful = λ xs. count.Lawful (length xs) × AllByRecursion f.Lawful xs × Along fits leaves s xs;
  bytes = λ xs. count.bytes (length xs) ++ flat_map f.bytes xs;
  read = next count.read (several (λ t. (ranged bad (fits t) f).read) leaves s);
}
