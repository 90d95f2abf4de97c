-- Every source has its tokens or a first fault.
use Rattle.std.proofs.Common.{◌≡◌, ◌≢◌, ◌<◌, ◌≤◌, ◌^◌, ◌⊎◌, ℕ, zero, suc, ◌+◌, List, [], ◌∷◌, length, drop, refl, sym, arith, Bool, true, false, nat_lt, nat_le, inl, inr}
use Rattle.std.proofs.lemmas.Bool.Decides.{nat_tests}
use Rattle.ppd_parse.specs.declared.token.Token.{Token}
use Rattle.ppd_parse.specs.declared.scan.Fault.{Fault}
use Rattle.ppd_parse.specs.declared.scan.Piece.{Piece}
use Rattle.ppd_parse.specs.declared.scan.Piece.TheVariants.{Gap, Read, Bad}
use Rattle.ppd_parse.specs.declared.token.TokenKind.{TokenKind}
use Rattle.ppd_parse.specs.declared.token.TokenKind.TheVariants.{End}
use Rattle.ppd_parse.specs.Front.{front}
use Rattle.ppd_ast.specs.declared.program.Place.{Place}
use Rattle.ppd_parse.specs.declared.scan.Fault.TheVariants as F
use Rattle.ppd_parse.specs.declared.token.LexError.{LexError}
use Rattle.ppd_parse.specs.declared.token.LexError.TheVariants as E
use Rattle.ppd_parse.specs.Tokens.{token_at, place_of, Lexes, end, gap, token, Faults, here, after_gap, after_token, error_of, IsTokens, IsRefused}
use Rattle.ppd_parse.proofs.FormedTokens.{proper_at}
use Rattle.ppd_parse.proofs.Lexed.{refused}

-- from byte i on there are tokens, or there is a fault
pub data Outcome (bs : List ℕ) (i : ℕ) : Type 0 where
  tokens : (ts : List Token) → Lexes bs i ts → Outcome bs i
  fault : (j : ℕ) (f : Fault) → Faults bs i j f → Outcome bs i

-- a fault is no want of memory
real : (f : Fault) (p : Place) → error_of f p ≢ E.Memory
real F.BadByte p e = cc
real F.BadNumber p e = cc
real F.OpenComment p e = cc
real F.LongName p e = cc

module _ (bs : List ℕ) where
  past_gap : (i n : ℕ) → i < length bs → front (drop i bs) ≡ Gap n → Outcome bs (i + n) → Outcome bs i
  past_gap i n lt e (tokens ts h) = tokens ts (gap lt e h)
  past_gap i n lt e (fault j f h) = fault j f (after_gap lt e h)

  past_token : (i n : ℕ) (kind : TokenKind) → i < length bs → front (drop i bs) ≡ Read n kind → Outcome bs (i + n) → Outcome bs i
  past_token i n kind lt e (tokens ts h) = tokens (token_at bs i n kind ∷ ts) (token lt e h)
  past_token i n kind lt e (fault j f h) = fault j f (after_token lt e h)

  -- by what is left
  from_left : (k i : ℕ) → i ≤ length bs → length bs ≤ i + k → Outcome bs i
  from_left zero i l r = tokens (token_at bs i 0 End ∷ []) (end (omega arith))
  from_left (suc k) i l r = go (nat_lt i (length bs)) refl (λ lt. step (front (drop i bs)) refl lt (λ n p w. from_left k (i + n) w (omega arith)))
    where
      step : (p : Piece) → p ≡ front (drop i bs) → i < length bs → ((n : ℕ) → 0 < n → i + n ≤ length bs → Outcome bs (i + n)) → Outcome bs i
      step (Gap n) e lt more = let w = proper_at bs i (Gap n) lt (sym e) in past_gap i n lt (sym e) (more n w.0 (omega (arith, w.1)))
      step (Read n kind) e lt more = let w = proper_at bs i (Read n kind) lt (sym e) in past_token i n kind lt (sym e) (more n w.0 (omega (arith, w.1)))
      step (Bad f) e lt more = fault i f (here lt (sym e))

      go : (t : Bool) → t ≡ nat_lt i (length bs) → (i < length bs → Outcome bs i) → Outcome bs i
      go true e inside = inside (grind (arith, nat_tests))
      go false e inside = let last : i ≡ length bs = grind (arith, nat_tests) in tokens (token_at bs i 0 End ∷ []) (end last)

  pub covered : Outcome bs 0
  covered = from_left (length bs) 0 (omega arith) (omega arith)

  -- the answer to these bytes, where memory lasts
  pub read_or_faulty : ((ts : List Token) × IsTokens bs ts) ⊎ ((e : LexError) × (e ≢ E.Memory) × IsRefused bs e)
  read_or_faulty = go (nat_le (length bs) (2 ^ 18)) refl
    where
      by_outcome : length bs ≤ 2 ^ 18 → Outcome bs 0 → ((ts : List Token) × IsTokens bs ts) ⊎ ((e : LexError) × (e ≢ E.Memory) × IsRefused bs e)
      by_outcome s (tokens ts h) = inl (ts, record { short = s; lexes = h })
      by_outcome s (fault j f h) = inr (error_of f (place_of bs j), real f (place_of bs j), refused bs j f s h)

      go : (t : Bool) → t ≡ nat_le (length bs) (2 ^ 18) → ((ts : List Token) × IsTokens bs ts) ⊎ ((e : LexError) × (e ≢ E.Memory) × IsRefused bs e)
      go true e = by_outcome (grind (arith, nat_tests)) covered
      go false e = inr (E.TooLong (place_of bs 0), (λ d. cc), (grind (arith, nat_tests), refl))
