-- A source has at most one token more than bytes.
use Rattle.std.proofs.Common.{◌≤◌, ℕ, ◌+◌, ◌^◌, List, [], ◌∷◌, length, arith}
use Rattle.std.specs.List.{All}
use Rattle.std.proofs.lemmas.List.Elements.{All-head, All-tail}
use Rattle.ppd_parse.specs.declared.token.Token.{Token}
use Rattle.ppd_parse.specs.Formed.{IsFormed, Rise, AreFormed}
use Rattle.ppd_parse.specs.Tokens.{IsTokens}

pub counted_from : (i len : ℕ) (t : Token) (ts : List Token) → All (IsFormed len) (t ∷ ts) → Rise i (t ∷ ts) → i + length (t ∷ ts) ≤ len + 1
counted_from i len t [] each rise =
    let f = All-head (IsFormed len) t [] each in
    omega (arith, f.order, f.within)
counted_from i len t (u ∷ us) each rise = omega (arith, counted_from t.to len u us (All-tail (IsFormed len) t (u ∷ us) each) rise.2)

pub few_tokens : (bytes : List ℕ) (ts : List Token) → IsTokens bytes ts → AreFormed (length bytes) ts → length ts ≤ 2 ^ 18 + 1
few_tokens bytes [] is formed = omega arith
few_tokens bytes (t ∷ ts) is formed = omega (arith, is.short, counted_from 0 (length bytes) t ts formed.each formed.rise)

-- so many that the numbers of nodes fit
pub short_tokens : (bytes : List ℕ) (ts : List Token) → IsTokens bytes ts → AreFormed (length bytes) ts → length ts ≤ 2 ^ 30
short_tokens bytes ts is formed = omega (arith, few_tokens bytes ts is formed)
