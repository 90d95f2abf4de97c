-- What stands between tokens, and which texts are one token.
use Rattle.std.specs.Prelude.{◌≡◌, ◌<◌, ◌≤◌, ℕ, List, [], ◌∷◌, length, drop, slice_range, true, not, nat_eq, Some, codes}
use Rattle.std.specs.List.{starts_with, list_all}
use Rattle.ppd_parse.specs.declared.token.Token.{Token}
use Rattle.ppd_parse.specs.declared.token.TokenKind.{TokenKind}
use Rattle.ppd_parse.specs.declared.scan.Piece.TheVariants.{Read}
use Rattle.ppd_parse.specs.Front.{front, is_space, close_from}

-- The text is one byte of white space; or `//` and no end of line; or `/*` up to the first `*/` that begins after it.
pub data IsBlank (text : List ℕ) : Type 0 where
  space : (b : ℕ) → text ≡ b ∷ [] → is_space b ≡ true → IsBlank text
  line : starts_with nat_eq text (codes "//") ≡ true → list_all (λ c. not (nat_eq c 10)) text ≡ true → IsBlank text
  block : starts_with nat_eq text (codes "/*") ≡ true → close_from 2 (drop 2 text) ≡ Some (length text) → IsBlank text

-- The bytes from i up to j are white space and comments.
pub data IsGap (bytes : List ℕ) : ℕ → ℕ → Type 0 where
  none : {i : ℕ} → IsGap bytes i i
  more : {i j k : ℕ} → IsBlank (slice_range bytes i j) → IsGap bytes j k → IsGap bytes i k

-- From byte i on, only white space and comments stand before each token.
abbrev pub AreApart : List ℕ → ℕ → List Token → Type 0
AreApart bytes i [] = Unit {0}
AreApart bytes i (t ∷ ts) = IsGap bytes i t.from × AreApart bytes t.to ts

-- The whole text is one token.
abbrev pub IsToken : List ℕ → TokenKind → Type 0
IsToken text kind = front text ≡ Read (length text) kind

-- The token is the text that it covers, and no longer text from its first byte on is a token.
pub record IsLongest (bytes : List ℕ) (t : Token) : Type 0 where
  pub is : IsToken (slice_range bytes t.from t.to) t.kind
  pub longest : (to : ℕ) (kind : TokenKind) → t.to < to → to ≤ length bytes
      → IsToken (slice_range bytes t.from to) kind → ⊥
