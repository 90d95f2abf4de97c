-- What holds of the tokens and the faults of every source.
use Rattle.std.specs.Prelude.{◌≡◌, ◌≢◌, ℕ, List, All, ◌⊎◌}
use Rattle.ppd_parse.specs.declared.token.Token.{Token}
use Rattle.ppd_parse.specs.declared.token.TokenKind.TheVariants.{End}
use Rattle.ppd_parse.specs.declared.token.LexError.{LexError}
use Rattle.ppd_parse.specs.declared.token.LexError.TheVariants.{Memory}
use Rattle.ppd_parse.specs.Gaps.{IsLongest, AreApart}
use Rattle.ppd_parse.specs.Tokens.{IsTokens, IsRefused}

-- bytes are one list of tokens at most
abbrev pub HaveOneReading : Type 0
HaveOneReading = (bytes : List ℕ) (ts us : List Token) → IsTokens bytes ts → IsTokens bytes us → ts ≡ us

-- bytes have one fault at most, want of memory aside
abbrev pub HaveOneFault : Type 0
HaveOneFault =
    (bytes : List ℕ) (d e : LexError) → IsRefused bytes d → IsRefused bytes e → d ≢ Memory → e ≢ Memory → d ≡ e

-- bytes that are tokens are refused for want of memory alone
abbrev pub AreReadOrRefused : Type 0
AreReadOrRefused =
    (bytes : List ℕ) (ts : List Token) (e : LexError) → IsTokens bytes ts → IsRefused bytes e → e ≡ Memory

-- all bytes are tokens or have a fault
abbrev pub AreReadOrFaulty : Type 0
AreReadOrFaulty =
    (bytes : List ℕ) → ((ts : List Token) × IsTokens bytes ts) ⊎ ((e : LexError) × (e ≢ Memory) × IsRefused bytes e)

-- no longer text from the first byte of a token on is a token
abbrev pub AreLongest : Type 0
AreLongest = (bytes : List ℕ) (ts : List Token) → IsTokens bytes ts → All (λ t. t.kind ≢ End → IsLongest bytes t) ts

-- only white space and comments stand before the first token and between tokens
abbrev pub AreApartByGaps : Type 0
AreApartByGaps = (bytes : List ℕ) (ts : List Token) → IsTokens bytes ts → AreApart bytes 0 ts
