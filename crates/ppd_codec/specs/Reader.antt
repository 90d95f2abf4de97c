-- Reading: what the bytes from an offset on come to, field by field.
use Rattle.std.specs.Prelude.{ℕ, zero, suc, ◌+◌, nat_le, List, [], ◌∷◌, take, drop, length, Option, Result, Ok, Err, if◌then◌else◌}
use Rattle.std.specs.Option.{option_map_or}
use Rattle.ppd_codec.specs.declared.bad.BadBytes.{BadBytes}
use Rattle.ppd_codec.specs.declared.bad.BadBytes.TheVariants.{Short}

-- a value, with the offset and the bytes after its field
pub record Got (A : Type 0) : Type 0 where
  pub value : A
  pub at : ℕ
  pub rest : List ℕ

-- from an offset and the bytes there: a value, or what is wrong
abbrev pub Reader : Type 0 → Type 0
Reader A = ℕ → List ℕ → Result (Got A) BadBytes

abbrev pub done : {A : Type 0} → A → Reader A
done x at bytes = Ok (record { value = x; at = at; rest = bytes })

abbrev pub after : {A B : Type 0} → Result (Got A) BadBytes → (A → Reader B) → Result (Got B) BadBytes
after (Err e) more = Err e
after (Ok g) more = more g.value g.at g.rest

-- one after the other
abbrev pub next : {A B : Type 0} → Reader A → (A → Reader B) → Reader B
next r more at bytes = after (r at bytes) more

-- a field of so many bytes, which is whole
abbrev pub field : {A : Type 0} → ℕ → (List ℕ → A) → Reader A
field w of at bytes =
    if nat_le w (length bytes) then Ok (record { value = of (take w bytes); at = at + w; rest = drop w bytes })
    else Err (Short at)

-- a field that has one of the values that mean something, refused at its own offset
abbrev pub checked : {A B : Type 0} → (A → Option B) → (ℕ → BadBytes) → Reader A → Reader B
checked of bad r at bytes = next r (λ x. option_map_or done (of x) (λ now rest. Err (bad at))) at bytes

-- so many, each by what the one before it leaves
abbrev pub several : {S A : Type 0} → (S → Reader A) → (A → S) → S → ℕ → Reader (List A)
several r leaves s zero = done []
several r leaves s (suc n) = next (r s) (λ x. next (several r leaves (leaves x) n) (λ xs. done (x ∷ xs)))
