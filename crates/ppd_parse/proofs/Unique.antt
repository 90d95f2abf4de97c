-- A source has one list of tokens or one first fault.
use Rattle.std.proofs.Common.{◌≡◌, ◌≢◌, ◌<◌, ℕ, ◌+◌, ◌^◌, List, ◌∷◌, length, refl, sym, ◌∙◌, ap, subst, arith}
use Rattle.ppd_parse.specs.declared.token.Token.{Token}
use Rattle.ppd_parse.specs.declared.token.TokenKind.{TokenKind}
use Rattle.ppd_parse.specs.declared.token.LexError.{LexError}
use Rattle.ppd_parse.specs.declared.token.LexError.TheVariants as E
use Rattle.ppd_parse.specs.declared.scan.Fault.{Fault}
use Rattle.ppd_parse.specs.Tokens.{place_of, token_at, Lexes, end, gap, token, Faults, here, after_gap, after_token, IsTokens, IsFirstFault, IsRefused, error_of}

same_tokens : (bs : List ℕ) (i n m : ℕ) (k l : TokenKind) (ts us : List Token) → n ≡ m → k ≡ l → ts ≡ us → token_at bs i n k ∷ ts ≡ token_at bs i m l ∷ us
same_tokens bs i n m k l ts us e f g = ap (λ x. token_at bs i x k ∷ ts) e ∙ (ap (λ x. token_at bs i m x ∷ ts) f ∙ ap (λ x. token_at bs i m l ∷ x) g)

module _ (bs : List ℕ) where
  -- from any byte on
  pub lexes_unique : (i : ℕ) (ts us : List Token) → Lexes bs i ts → Lexes bs i us → ts ≡ us
  lexes_unique i _ _ (end e) (end f) = refl
  lexes_unique i _ _ (end e) (gap lt f h) = absurd (omega arith)
  lexes_unique i _ _ (end e) (token lt f h) = absurd (omega arith)
  lexes_unique i _ _ (gap lt f h) (end e) = absurd (omega arith)
  lexes_unique i ts us (gap {n = n} lt f h) (gap {n = m} lt' g k) = let e : m ≡ n = cc in lexes_unique (i + n) ts us h (subst (λ x. Lexes bs (i + x) us) e k)
  lexes_unique i _ _ (gap lt f h) (token lt' g k) = cc
  lexes_unique i _ _ (token lt f h) (end e) = absurd (omega arith)
  lexes_unique i _ _ (token lt f h) (gap lt' g k) = cc
  lexes_unique i _ _ (token {n = n} {kind = kind} {ts = ts} lt f h) (token {n = m} {kind = other} {ts = us} lt' g k) =
      let e : n ≡ m = cc in
      let d : kind ≡ other = cc in
      same_tokens bs i n m kind other ts us e d (lexes_unique (i + n) ts us h (subst (λ x. Lexes bs (i + x) us) (sym e) k))

  pub lexes_or_faults : (i j : ℕ) (ts : List Token) (fault : Fault) → Lexes bs i ts → Faults bs i j fault → ⊥
  lexes_or_faults i j _ fault (end e) (here lt g) = absurd (omega arith)
  lexes_or_faults i j _ fault (end e) (after_gap lt g k) = absurd (omega arith)
  lexes_or_faults i j _ fault (end e) (after_token lt g k) = absurd (omega arith)
  lexes_or_faults i j _ fault (gap lt f h) (here lt' g) = cc
  lexes_or_faults i j ts fault (gap {n = n} lt f h) (after_gap {n = m} lt' g k) = let e : m ≡ n = cc in lexes_or_faults (i + n) j ts fault h (subst (λ x. Faults bs (i + x) j fault) e k)
  lexes_or_faults i j _ fault (gap lt f h) (after_token lt' g k) = cc
  lexes_or_faults i j _ fault (token lt f h) (here lt' g) = cc
  lexes_or_faults i j _ fault (token lt f h) (after_gap lt' g k) = cc
  lexes_or_faults i j _ fault (token {n = n} {ts = ts} lt f h) (after_token {n = m} lt' g k) = let e : m ≡ n = cc in lexes_or_faults (i + n) j ts fault h (subst (λ x. Faults bs (i + x) j fault) e k)

  pub faults_unique : (i j k : ℕ) (f g : Fault) → Faults bs i j f → Faults bs i k g → (j ≡ k) × (f ≡ g)
  faults_unique i _ _ f g (here lt e) (here lt' d) = (refl, cc)
  faults_unique i _ _ f g (here lt e) (after_gap lt' d h) = cc
  faults_unique i _ _ f g (here lt e) (after_token lt' d h) = cc
  faults_unique i _ _ f g (after_gap lt e h) (here lt' d) = cc
  faults_unique i j k f g (after_gap {n = n} lt e h) (after_gap {n = m} lt' d h') = let s : m ≡ n = cc in faults_unique (i + n) j k f g h (subst (λ x. Faults bs (i + x) k g) s h')
  faults_unique i _ _ f g (after_gap lt e h) (after_token lt' d h') = cc
  faults_unique i _ _ f g (after_token lt e h) (here lt' d) = cc
  faults_unique i _ _ f g (after_token lt e h) (after_gap lt' d h') = cc
  faults_unique i j k f g (after_token {n = n} lt e h) (after_token {n = m} lt' d h') = let s : m ≡ n = cc in faults_unique (i + n) j k f g h (subst (λ x. Faults bs (i + x) k g) s h')

  pub tokens_unique : (ts us : List Token) → IsTokens bs ts → IsTokens bs us → ts ≡ us
  tokens_unique ts us h k = lexes_unique 0 ts us h.lexes k.lexes

  first_excludes : (ts : List Token) (e : LexError) → IsTokens bs ts → IsFirstFault bs e → ⊥
  first_excludes ts e h k = lexes_or_faults 0 k.at ts k.fault h.lexes k.faults

  pub tokens_or_fault : (ts : List Token) (e : LexError) → IsTokens bs ts → IsRefused bs e → e ≢ E.Memory → ⊥
  tokens_or_fault ts E.Memory h k m = m refl
  tokens_or_fault ts (E.TooLong p) h k m = let s = h.short in absurd (omega (arith, k.0, s))
  tokens_or_fault ts (E.BadByte p) h k m = first_excludes ts (E.BadByte p) h k
  tokens_or_fault ts (E.BadNumber p) h k m = first_excludes ts (E.BadNumber p) h k
  tokens_or_fault ts (E.OpenComment p) h k m = first_excludes ts (E.OpenComment p) h k
  tokens_or_fault ts (E.LongName p) h k m = first_excludes ts (E.LongName p) h k

  same_first : (d e : LexError) → IsFirstFault bs d → IsFirstFault bs e → d ≡ e
  same_first d e h k =
      let s = faults_unique 0 h.at k.at h.fault k.fault h.faults k.faults in
      h.is ∙ (ap (λ f. error_of f (place_of bs h.at)) s.1 ∙ (ap (λ i. error_of k.fault (place_of bs i)) s.0 ∙ sym k.is))

  -- a refusal other than want of memory: the source is too long, or it has a first fault
  pub data Why (e : LexError) : Type 0 where
    too_long : 2 ^ 18 < length bs → e ≡ E.TooLong (place_of bs 0) → Why e
    first : IsFirstFault bs e → Why e

  pub why : (e : LexError) → IsRefused bs e → e ≢ E.Memory → Why e
  why E.Memory h m = absurd (m refl)
  why (E.TooLong p) h m = too_long h.0 (ap E.TooLong h.1)
  why (E.BadByte p) h m = first h
  why (E.BadNumber p) h m = first h
  why (E.OpenComment p) h m = first h
  why (E.LongName p) h m = first h

  pub refusal_unique : (d e : LexError) → IsRefused bs d → IsRefused bs e → d ≢ E.Memory → e ≢ E.Memory → d ≡ e
  refusal_unique d e h k m n = go (why d h m) (why e k n)
    where
      go : Why d → Why e → d ≡ e
      go (too_long l f) (too_long l' g) = f ∙ sym g
      go (too_long l f) (first g) = let s = g.short in absurd (omega (arith, s))
      go (first f) (too_long l' g) = let s = f.short in absurd (omega (arith, s))
      go (first f) (first g) = same_first d e f g

  -- bytes that are tokens are refused for want of memory alone
  pub read_or_refused : (ts : List Token) (e : LexError) → IsTokens bs ts → IsRefused bs e → e ≡ E.Memory
  read_or_refused ts E.Memory h k = refl
  read_or_refused ts (E.TooLong p) h k = absurd (tokens_or_fault ts (E.TooLong p) h k (λ e. cc))
  read_or_refused ts (E.BadByte p) h k = absurd (tokens_or_fault ts (E.BadByte p) h k (λ e. cc))
  read_or_refused ts (E.BadNumber p) h k = absurd (tokens_or_fault ts (E.BadNumber p) h k (λ e. cc))
  read_or_refused ts (E.OpenComment p) h k = absurd (tokens_or_fault ts (E.OpenComment p) h k (λ e. cc))
  read_or_refused ts (E.LongName p) h k = absurd (tokens_or_fault ts (E.LongName p) h k (λ e. cc))
