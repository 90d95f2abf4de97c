-- The tokens of a source, or the first fault in it.
use Rattle.std.specs.Prelude.{◌≡◌, ◌<◌, ◌≤◌, ℕ, ◌+◌, ◌^◌, List, [], ◌∷◌, length, take, drop, fold, nat_eq, if◌then◌else◌}
use Rattle.ppd_ast.specs.declared.program.Place.{Place}
use Rattle.ppd_parse.specs.declared.token.Token.{Token}
use Rattle.ppd_parse.specs.declared.token.TokenKind.{TokenKind}
use Rattle.ppd_parse.specs.declared.token.TokenKind.TheVariants.{End}
use Rattle.ppd_parse.specs.declared.token.LexError.{LexError}
use Rattle.ppd_parse.specs.declared.token.LexError.TheVariants as E
use Rattle.ppd_parse.specs.declared.scan.Fault.{Fault}
use Rattle.ppd_parse.specs.declared.scan.Fault.TheVariants as F
use Rattle.ppd_parse.specs.declared.scan.Piece.TheVariants.{Gap, Read, Bad}
use Rattle.ppd_parse.specs.Front.{front}

-- the place after a byte: byte 10 ends a line
abbrev pub after_byte : Place → ℕ → Place
after_byte p b =
    if nat_eq b 10 then record { line = p.line + 1; column = 1 } else record { line = p.line; column = p.column + 1 }

-- the place of the byte with this number from 0
abbrev pub place_of : List ℕ → ℕ → Place
place_of bytes i = fold after_byte (record { line = 1; column = 1 }) (take i bytes)

-- the token of n bytes from byte i on
abbrev pub token_at : List ℕ → ℕ → ℕ → TokenKind → Token
token_at bytes i n kind = record { kind = kind; from = i; to = i + n; place = place_of bytes i }

-- From byte i on, the bytes are these tokens.
pub data Lexes (bytes : List ℕ) : ℕ → List Token → Type 0 where
  end : {i : ℕ} → i ≡ length bytes → Lexes bytes i (token_at bytes i 0 End ∷ [])
  gap : {i n : ℕ} {ts : List Token} → i < length bytes → front (drop i bytes) ≡ Gap n → Lexes bytes (i + n) ts
      → Lexes bytes i ts
  token : {i n : ℕ} {kind : TokenKind} {ts : List Token} → i < length bytes → front (drop i bytes) ≡ Read n kind
      → Lexes bytes (i + n) ts → Lexes bytes i (token_at bytes i n kind ∷ ts)

-- From byte i on, the first fault is at byte j.
pub data Faults (bytes : List ℕ) : ℕ → ℕ → Fault → Type 0 where
  here : {i : ℕ} {fault : Fault} → i < length bytes → front (drop i bytes) ≡ Bad fault → Faults bytes i i fault
  after_gap : {i n j : ℕ} {fault : Fault} → i < length bytes → front (drop i bytes) ≡ Gap n
      → Faults bytes (i + n) j fault → Faults bytes i j fault
  after_token : {i n j : ℕ} {kind : TokenKind} {fault : Fault} → i < length bytes
      → front (drop i bytes) ≡ Read n kind → Faults bytes (i + n) j fault → Faults bytes i j fault

-- These are the tokens of a source of these bytes.
pub record IsTokens (bytes : List ℕ) (tokens : List Token) : Type 0 where
  pub short : length bytes ≤ 2 ^ 18
  pub lexes : Lexes bytes 0 tokens

abbrev pub error_of : Fault → Place → LexError
error_of F.BadByte p = E.BadByte p
error_of F.BadNumber p = E.BadNumber p
error_of F.OpenComment p = E.OpenComment p
error_of F.LongName p = E.LongName p

-- The answer is the first fault of a source that is not too long.
pub record IsFirstFault (bytes : List ℕ) (error : LexError) : Type 0 where
  pub at : ℕ
  pub fault : Fault
  pub short : length bytes ≤ 2 ^ 18
  pub faults : Faults bytes 0 at fault
  pub is : error ≡ error_of fault (place_of bytes at)

-- Why a source of these bytes has no tokens; want of memory may come at any.
abbrev pub IsRefused : List ℕ → LexError → Type 0
IsRefused bytes E.Memory = Unit {0}
IsRefused bytes (E.TooLong p) = (2 ^ 18 < length bytes) × (p ≡ place_of bytes 0)
IsRefused bytes error = IsFirstFault bytes error
