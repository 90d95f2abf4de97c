-- What the tokens of every source are.
use Rattle.std.specs.Prelude.{◌≡◌, ◌≢◌, ◌<◌, ◌≤◌, ℕ, pos, negsuc, ◌^◌, List, [], ◌∷◌, length, All, Some}
use Rattle.ppd_ast.specs.declared.limits.TheConstants.{MOST_NAME_BYTES}
use Rattle.ppd_ast.specs.declared.program.Place.{Place}
use Rattle.ppd_parse.specs.declared.token.Token.{Token}
use Rattle.ppd_parse.specs.declared.token.TokenKind.{TokenKind}
use Rattle.ppd_parse.specs.declared.token.TokenKind.TheVariants.{Name, Number, Word, Mark, End}
use Rattle.ppd_parse.specs.Front.{keywords, marks, looked_up}

-- a name of at least a byte that is not too long, a number of 0 to 9223372036854775807, the kind of a keyword or a
-- mark, or the end
abbrev pub IsKind : TokenKind → Type 0
IsKind (Name text) = (1 ≤ length text) × (length text ≤ MOST_NAME_BYTES)
IsKind (Number (pos n)) = n < 2 ^ 63
IsKind (Number (negsuc n)) = ⊥
IsKind (Word kind) = (text : List ℕ) × (looked_up keywords text ≡ Some kind)
IsKind (Mark kind) = (text : List ℕ) × (looked_up marks text ≡ Some kind)
IsKind End = Unit {0}

-- lines and columns count from 1, and fit i32
pub record IsPlace (p : Place) : Type 0 where
  pub line_least : 1 ≤ p.line
  pub line_most : p.line < 2 ^ 31
  pub column_least : 1 ≤ p.column
  pub column_most : p.column < 2 ^ 31

-- a token of a source of len bytes
pub record IsFormed (len : ℕ) (t : Token) : Type 0 where
  pub kind : IsKind t.kind
  pub place : IsPlace t.place
  pub order : t.from ≤ t.to
  pub within : t.to ≤ len

-- the last token, and no other, is the end
abbrev pub EndOnce : List Token → Type 0
EndOnce [] = ⊥
EndOnce (t ∷ []) = t.kind ≡ End
EndOnce (t ∷ (u ∷ us)) = (t.kind ≢ End) × EndOnce (u ∷ us)

-- each token begins where the one before it ends or later, the first at byte i or later; all but the last have a byte
abbrev pub Rise : ℕ → List Token → Type 0
Rise i [] = Unit {0}
Rise i (t ∷ []) = i ≤ t.from
Rise i (t ∷ (u ∷ us)) = (i ≤ t.from) × (t.from < t.to) × Rise t.to (u ∷ us)

-- tokens of a source of len bytes
pub record AreFormed (len : ℕ) (tokens : List Token) : Type 0 where
  pub each : All (IsFormed len) tokens
  pub ends : EndOnce tokens
  pub rise : Rise 0 tokens
