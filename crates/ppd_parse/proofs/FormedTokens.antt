-- The tokens of every source are well formed.
use Rattle.std.proofs.Common.{◌≡◌, ◌≢◌, ◌<◌, ◌≤◌, ℕ, ◌+◌, ◌-◌, ◌^◌, List, [], ◌∷◌, length, drop, refl, subst, arith, length-drop, All}
use Rattle.std.proofs.lemmas.List.Elements.{All-cons, All-nil}
use Rattle.ppd_parse.specs.declared.token.Token.{Token}
use Rattle.ppd_parse.specs.declared.token.TokenKind.{TokenKind}
use Rattle.ppd_parse.specs.declared.token.TokenKind.TheVariants.{End}
use Rattle.ppd_parse.specs.declared.scan.Piece.{Piece}
use Rattle.ppd_parse.specs.declared.scan.Piece.TheVariants.{Gap, Read}
use Rattle.ppd_parse.specs.Front.{front}
use Rattle.ppd_parse.specs.Tokens.{place_of, Lexes, gap, token, end, token_at, IsTokens}
use Rattle.ppd_parse.specs.Formed.{IsKind, IsPlace, IsFormed, EndOnce, Rise, AreFormed}
use Rattle.ppd_parse.proofs.Places.{place_bound}
use Rattle.ppd_parse.proofs.Fronts.{IsProper, front_proper}

-- what stands at byte i of a source
pub proper_at : (bs : List ℕ) (i : ℕ) (p : Piece) → i < length bs → front (drop i bs) ≡ p → IsProper (length bs - i) p
proper_at bs i p lt e =
    let len : length (drop i bs) ≡ length bs - i = length-drop i bs in
    subst (IsProper (length bs - i)) e (subst (λ m. IsProper m (front (drop i bs))) len (front_proper (drop i bs) (omega (arith, len))))

place_formed : (bs : List ℕ) (i : ℕ) → i ≤ length bs → length bs ≤ 2 ^ 18 → IsPlace (place_of bs i)
place_formed bs i h l =
    let b = place_bound bs i in
    record {
      line_least = b.line;
      line_most = omega (arith, b.sum, b.column);
      column_least = b.column;
      column_most = omega (arith, b.sum, b.line);
    }

token_formed : (bs : List ℕ) (i n : ℕ) (kind : TokenKind) → i + n ≤ length bs → length bs ≤ 2 ^ 18 → IsKind kind → IsFormed (length bs) (token_at bs i n kind)
token_formed bs i n kind h l k = record { kind = k; place = place_formed bs i (omega arith) l; order = omega arith; within = h }

ends_after : (t : Token) (ts : List Token) → t.kind ≢ End → EndOnce ts → EndOnce (t ∷ ts)
ends_after t [] k e = absurd e
ends_after t (u ∷ us) k e = (k, e)

rises_after : (i : ℕ) (t : Token) (ts : List Token) → i ≤ t.from → t.from < t.to → Rise t.to ts → Rise i (t ∷ ts)
rises_after i t [] f w r = f
rises_after i t (u ∷ us) f w r = (f, w, r)

rises_sooner : (i j : ℕ) (ts : List Token) → i ≤ j → Rise j ts → Rise i ts
rises_sooner i j [] h r = tt
rises_sooner i j (t ∷ []) h r = omega (arith, r)
rises_sooner i j (t ∷ (u ∷ us)) h r = (omega (arith, r.0), r.1, r.2)

record From (bs : List ℕ) (i : ℕ) (ts : List Token) : Type 0 where
  each : All (IsFormed (length bs)) ts
  ends : EndOnce ts
  rise : Rise i ts

module _ (bs : List ℕ) (l : length bs ≤ 2 ^ 18) where
  from_at : (i : ℕ) (ts : List Token) → Lexes bs i ts → From bs i ts
  from_at i ts (end e) = record { each = All-cons (IsFormed (length bs)) (token_at bs i 0 End) [] (token_formed bs i 0 End (omega (arith, e)) l tt) (All-nil (IsFormed (length bs))); ends = refl; rise = omega arith }
  from_at i ts (gap {n = n} lt e h) =
      let k = from_at (i + n) ts h in
      let w = proper_at bs i (Gap n) lt e in
      record { each = k.each; ends = k.ends; rise = rises_sooner i (i + n) ts (omega arith) k.rise }
  from_at i _ (token {n = n} {kind = kind} {ts = ts} lt e h) =
      let k = from_at (i + n) ts h in
      let w = proper_at bs i (Read n kind) lt e in
      let t = token_at bs i n kind in
      record {
        each = All-cons (IsFormed (length bs)) t ts (token_formed bs i n kind (omega (arith, w.1)) l w.2) k.each;
        ends = ends_after t ts w.3 k.ends;
        rise = rises_after i t ts (omega arith) (omega (arith, w.0)) k.rise;
      }

pub formed : (bs : List ℕ) (ts : List Token) → IsTokens bs ts → AreFormed (length bs) ts
formed bs ts h = let k = from_at bs h.short 0 ts h.lexes in record { each = k.each; ends = k.ends; rise = k.rise }
