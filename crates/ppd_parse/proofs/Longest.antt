-- Each token is the longest from its first byte on.
use Rattle.std.proofs.Common.{◌≡◌, ◌≢◌, ◌<◌, ◌≤◌, ℕ, ◌+◌, ◌-◌, List, [], length, drop, take, refl, sym, ◌∙◌, ap, arith, length-drop, length-take, All}
use Rattle.std.proofs.lemmas.List.Elements.{All-cons, All-nil}
use Rattle.ppd_parse.specs.declared.token.Token.{Token}
use Rattle.ppd_parse.specs.declared.token.TokenKind.{TokenKind}
use Rattle.ppd_parse.specs.declared.token.TokenKind.TheVariants.{End}
use Rattle.ppd_parse.specs.declared.scan.Piece.TheVariants.{Read}
use Rattle.ppd_parse.specs.Front.{front}
use Rattle.ppd_parse.specs.Tokens.{token_at, Lexes, end, gap, token, IsTokens}
use Rattle.ppd_parse.specs.Gaps.{IsToken, IsLongest}
use Rattle.ppd_parse.proofs.FormedTokens.{proper_at}
use Rattle.ppd_parse.proofs.Munch.{front_cut}

module _ (bs : List ℕ) where
  token_longest : (i n : ℕ) (kind : TokenKind) → 0 < n → i + n ≤ length bs → front (drop i bs) ≡ Read n kind → IsLongest bs (token_at bs i n kind)
  token_longest i n kind p l e = record { is = whole; longest = no_longer }
    where
      whole : IsToken (take ((i + n) - i) (drop i bs)) kind
      whole =
          let k : (i + n) - i ≡ n = omega arith in
          let len : length (take ((i + n) - i) (drop i bs)) ≡ n = omega (arith, length-take ((i + n) - i) (drop i bs), length-drop i bs, k) in
          ap (λ m. front (take m (drop i bs))) k ∙ (front_cut (drop i bs) n n kind p (omega arith) e ∙ ap (λ m. Read m kind) (sym len))

      no_longer : (to : ℕ) (other : TokenKind) → i + n < to → to ≤ length bs → IsToken (take (to - i) (drop i bs)) other → ⊥
      no_longer to other past within h =
          let cut : front (take (to - i) (drop i bs)) ≡ Read n kind = front_cut (drop i bs) n (to - i) kind p (omega arith) e in
          let same : n ≡ length (take (to - i) (drop i bs)) = cc in
          absurd (omega (arith, same, length-take (to - i) (drop i bs), length-drop i bs))

  longest_from : (i : ℕ) (ts : List Token) → Lexes bs i ts → All (λ t. t.kind ≢ End → IsLongest bs t) ts
  longest_from i _ (end e) = All-cons (λ t. t.kind ≢ End → IsLongest bs t) (token_at bs i 0 End) [] (λ k. absurd (k refl)) (All-nil (λ t. t.kind ≢ End → IsLongest bs t))
  longest_from i ts (gap {n = n} lt e h) = longest_from (i + n) ts h
  longest_from i _ (token {n = n} {kind = kind} {ts = ts} lt e h) =
      let w = proper_at bs i (Read n kind) lt e in
      All-cons (λ t. t.kind ≢ End → IsLongest bs t) (token_at bs i n kind) ts (λ k. token_longest i n kind w.0 (omega (arith, w.1)) e) (longest_from (i + n) ts h)

  pub longest : (ts : List Token) → IsTokens bs ts → All (λ t. t.kind ≢ End → IsLongest bs t) ts
  longest ts h = longest_from 0 ts h.lexes
