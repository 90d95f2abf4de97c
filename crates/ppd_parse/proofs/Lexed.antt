-- From one piece to the next.
use Rattle.std.proofs.Common.{Result, Ok, Err, true, false, ◌≡◌, ◌<◌, ◌≤◌, ℕ, ◌+◌, ◌-◌, List, [], ◌∷◌, ◌++◌, length, drop, take, refl, sym, ◌∙◌, ap, subst, arith, length-take, append_assoc, ◌^◌}
use Rattle.std.specs.Result.{IsErr, IsErrAnd, IsErrOf, IfOk, IfErr}
use Rattle.ppd_parse.specs.declared.token.LexError.{LexError}
use Rattle.ppd_parse.specs.declared.token.LexError.TheVariants as E
use Rattle.ppd_parse.specs.declared.token.Token.{Token}
use Rattle.ppd_parse.specs.declared.token.TokenKind.{TokenKind}
use Rattle.ppd_parse.specs.declared.token.TokenKind.TheVariants.{End}
use Rattle.ppd_parse.specs.declared.scan.Fault.{Fault}
use Rattle.ppd_parse.specs.declared.scan.Fault.TheVariants as F
use Rattle.ppd_ast.specs.declared.program.Place.{Place}
use Rattle.ppd_parse.specs.declared.scan.Piece.{Piece}
use Rattle.ppd_parse.specs.declared.scan.Piece.TheVariants.{Gap, Read, Bad}
use Rattle.ppd_parse.specs.Front.{front}
use Rattle.ppd_parse.specs.Tokens.{place_of, Lexes, Faults, gap, token, here, after_gap, after_token, token_at, IsTokens, IsFirstFault, IsRefused, error_of, end}
use Rattle.ppd_parse.proofs.Comments.{rest_of}
use Rattle.ppd_parse.proofs.Places.{place_bound}
use Rattle.ppd_parse.proofs.FormedTokens.{proper_at}
use Rattle.ppd_parse.proofs.Fronts.{IsProper}

module _ (bs : List ℕ) (i : ℕ) (lt : i < length bs) where
  -- what stands at the front of what is left
  front_left : (p : Piece) → p ≡ front (take (length bs - i) (drop i bs)) → front (drop i bs) ≡ p
  front_left p e = ap front (sym (rest_of bs i)) ∙ sym e

  front_within : (p : Piece) → p ≡ front (take (length bs - i) (drop i bs)) → IsProper (length bs - i) p
  front_within p e = proper_at bs i p lt (front_left p e)

  pub gap_within : (n : ℕ) → Gap n ≡ front (take (length bs - i) (drop i bs)) → (0 < n) × (i + n ≤ length bs)
  gap_within n e = let h = front_within (Gap n) e in (h.0, omega (arith, h.1))

  pub read_within : (n : ℕ) (kind : TokenKind) → Read n kind ≡ front (take (length bs - i) (drop i bs)) → (0 < n) × (i + n ≤ length bs)
  read_within n kind e = let h = front_within (Read n kind) e in (h.0, omega (arith, h.1))

  -- the place fits, also after the next n bytes
  pub place_fits : (p : Place) (n : ℕ) → p ≡ place_of bs i → i + n ≤ length bs → length bs ≤ 2 ^ 18 → p.line + p.column + length (take ((i + n) - i) (drop i bs)) < 2 ^ 31
  place_fits p n e h l =
      let b = place_bound bs i in
      let k : (i + n) - i ≡ n = omega arith in
      let line : p.line ≡ (place_of bs i).line = ap (λ (q : Place). q.line) e in
      let column : p.column ≡ (place_of bs i).column = ap (λ (q : Place). q.column) e in
      omega (arith, length-take ((i + n) - i) (drop i bs), b.sum, line, column, k)

  pub place_column : (p : Place) → p ≡ place_of bs i → 1 ≤ p.column
  place_column p e = let b = place_bound bs i in let column : p.column ≡ (place_of bs i).column = ap (λ (q : Place). q.column) e in omega (arith, b.column, column)

  module _ (ts : List Token) (tokens : (rest : List Token) → Lexes bs i rest → Lexes bs 0 (ts ++ rest)) (faults : (j : ℕ) (f : Fault) → Faults bs i j f → Faults bs 0 j f) where
    pub gap_tokens : (n : ℕ) → Gap n ≡ front (take (length bs - i) (drop i bs)) → (rest : List Token) → Lexes bs (i + n) rest → Lexes bs 0 (ts ++ rest)
    gap_tokens n e rest h = tokens rest (gap lt (front_left (Gap n) e) h)

    pub gap_faults : (n : ℕ) → Gap n ≡ front (take (length bs - i) (drop i bs)) → (j : ℕ) (f : Fault) → Faults bs (i + n) j f → Faults bs 0 j f
    gap_faults n e j f h = faults j f (after_gap lt (front_left (Gap n) e) h)

    pub read_tokens : (n : ℕ) (kind : TokenKind) → Read n kind ≡ front (take (length bs - i) (drop i bs)) → (us : List Token) (t : Token) → us ≡ ts ++ t ∷ [] → t ≡ token_at bs i n kind → (rest : List Token) → Lexes bs (i + n) rest → Lexes bs 0 (us ++ rest)
    read_tokens n kind e us t eu et rest h =
        let list : us ++ rest ≡ ts ++ token_at bs i n kind ∷ rest = ap (λ xs. xs ++ rest) eu ∙ (append_assoc ts (t ∷ []) rest ∙ ap (λ z. ts ++ z ∷ rest) et) in
        subst (Lexes bs 0) (sym list) (tokens (token_at bs i n kind ∷ rest) (token lt (front_left (Read n kind) e) h))

    pub read_faults : (n : ℕ) (kind : TokenKind) → Read n kind ≡ front (take (length bs - i) (drop i bs)) → (j : ℕ) (f : Fault) → Faults bs (i + n) j f → Faults bs 0 j f
    read_faults n kind e j f h = faults j f (after_token lt (front_left (Read n kind) e) h)

    pub fault_here : (f : Fault) → Bad f ≡ front (take (length bs - i) (drop i bs)) → Faults bs 0 i f
    fault_here f e = faults i f (here lt (front_left (Bad f) e))

first_fault : (bs : List ℕ) (i : ℕ) (f : Fault) → length bs ≤ 2 ^ 18 → Faults bs 0 i f → IsFirstFault bs (error_of f (place_of bs i))
first_fault bs i f h k = record { at = i; fault = f; short = h; faults = k; is = refl }

pub refused : (bs : List ℕ) (i : ℕ) (f : Fault) → length bs ≤ 2 ^ 18 → Faults bs 0 i f → IsRefused bs (error_of f (place_of bs i))
refused bs i F.BadByte h k = first_fault bs i F.BadByte h k
refused bs i F.BadNumber h k = first_fault bs i F.BadNumber h k
refused bs i F.OpenComment h k = first_fault bs i F.OpenComment h k
refused bs i F.LongName h k = first_fault bs i F.LongName h k

pub ended : (bs : List ℕ) (i : ℕ) (ts : List Token) → length bs ≤ 2 ^ 18 → ((rest : List Token) → Lexes bs i rest → Lexes bs 0 (ts ++ rest)) → i ≡ length bs → (us : List Token) (p : Place) → us ≡ ts ++ record { kind = End; from = i; to = i; place = p } ∷ [] → p ≡ place_of bs i → IsTokens bs us
ended bs i ts h tokens e us p eu ep =
    let zero : i ≡ i + 0 = omega arith in
    let last : record { kind = End; from = i; to = i; place = p } ≡ token_at bs i 0 End = ap (λ q. record { kind = End; from = i; to = i; place = q }) ep ∙ ap (λ z. record { kind = End; from = i; to = z; place = place_of bs i }) zero in
    record { short = h; lexes = subst (Lexes bs 0) (sym (eu ∙ ap (λ z. ts ++ z ∷ []) last)) (tokens (token_at bs i 0 End ∷ []) (end e)) }

-- an answer for want of memory
pub without_memory : {X : Type 0} (bs : List ℕ) (P Q : X → Type 0) (r : Result X LexError) → IsErr r → IsErrAnd r (λ e. e ≡ E.Memory) → length bs ≤ 2 ^ 18
    → IfOk r P × IfOk r Q × IfErr r (λ e. IsRefused bs e) × (2 ^ 18 < length bs → IsErrOf r (E.TooLong (place_of bs 0)))
without_memory bs P Q (Ok x) f g h = absurd (apart f)
  where
    apart : false ≡ true → ⊥
    apart e = cc
without_memory bs P Q (Err e) f g h = (tt, tt, subst (IsRefused bs) (sym g) tt, λ l. absurd (omega (arith, l, h)))
