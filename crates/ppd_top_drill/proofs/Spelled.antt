-- Texts by the kinds of their tokens, and the tokens of a source from them.
use Rattle.std.specs.Prelude.{drop, map, decimal}
use Rattle.std.proofs.Common.{◌≡◌, ◌<◌, ◌≤◌, ℕ, zero, suc, pos, ◌+◌, ◌^◌, false, List, [], ◌∷◌, ◌++◌, length, Option, Some, None, refl, sym, ap, ◌∙◌, subst, arith, length-drop, append_assoc, inl, inr}
use Rattle.std.proofs.Math.ListN.{drop_of_length-le}
use Rattle.std.proofs.Math.Seq.{drop-append_seam}
use Rattle.std.proofs.lemmas.Bool.{cases_lt}
use Rattle.std.proofs.lemmas.List.{drop-drop}
use Rattle.ppd_parse.specs.declared.token.Token.{Token}
use Rattle.ppd_parse.specs.declared.token.TokenKind.{TokenKind}
use Rattle.ppd_parse.specs.declared.token.TokenKind.TheVariants.{Number, End}
use Rattle.ppd_parse.specs.declared.scan.Piece.{Piece}
use Rattle.ppd_parse.specs.declared.scan.Piece.TheVariants.{Gap, Read, Bad}
use Rattle.ppd_parse.specs.Front.{front, is_name_byte}
use Rattle.ppd_parse.specs.Tokens.{Lexes, gap, token, end, token_at, IsTokens}
use Rattle.ppd_parse.proofs.FormedTokens.{proper_at}
use Rattle.ppd_top_drill.proofs.Numbers.{front_decimal}

-- The text is tokens of these kinds, with white space and comments.
pub data Spells : List ℕ → List TokenKind → Type 0 where
  nothing : Spells [] []
  blank : {text : List ℕ} {ks : List TokenKind} (n : ℕ) → front text ≡ Gap n → Spells (drop n text) ks → Spells text ks
  next : {text : List ℕ} {ks : List TokenKind} (n : ℕ) (kind : TokenKind) → front text ≡ Read n kind → Spells (drop n text) ks
      → Spells text (kind ∷ ks)

-- ---- the tokens of a source

module _ (bytes : List ℕ) where
  left_to : (i : ℕ) → i ≤ length bytes → drop i bytes ≡ [] → i ≡ length bytes
  left_to i le e = let len = length-drop i bytes in let none : length (drop i bytes) ≡ 0 = ap length e in omega (arith, len, none)

  none_left : (i : ℕ) → length bytes ≤ i → front (drop i bytes) ≡ front []
  none_left i le = ap front (drop_of_length-le bytes le)

  before_gap : (i n : ℕ) → front (drop i bytes) ≡ Gap n → i < length bytes
  before_gap i n f = elim (cases_lt i (length bytes)) [ inl lt ↦ lt | inr le ↦ absurd (let e = sym f ∙ none_left i le in cc) ]

  before_token : (i n : ℕ) (kind : TokenKind) → front (drop i bytes) ≡ Read n kind → i < length bytes
  before_token i n kind f = elim (cases_lt i (length bytes)) [ inl lt ↦ lt | inr le ↦ absurd (let e = sym f ∙ none_left i le in cc) ]

  -- from byte i on
  lexes_from : (i : ℕ) (text : List ℕ) (ks : List TokenKind) → drop i bytes ≡ text → i ≤ length bytes → Spells text ks
      → (ts : List Token) × Lexes bytes i ts × (map (λ (t : Token). t.kind) ts ≡ ks ++ End ∷ [])
  lexes_from i _ _ e le nothing = (token_at bytes i 0 End ∷ [], end (left_to i le e), refl)
  lexes_from i text ks e le (blank n f s) =
      let g = ap front e ∙ f in
      let lt = before_gap i n g in
      let most = proper_at bytes i (Gap n) lt g in
      let rest = lexes_from (i + n) (drop n text) ks (sym (drop-drop n i bytes) ∙ ap (drop n) e) (omega (arith, most.1)) s in
      (rest.0, gap lt g rest.1, rest.2)
  lexes_from i text _ e le (next {ks = ks} n kind f s) =
      let g = ap front e ∙ f in
      let lt = before_token i n kind g in
      let most = proper_at bytes i (Read n kind) lt g in
      let rest = lexes_from (i + n) (drop n text) ks (sym (drop-drop n i bytes) ∙ ap (drop n) e) (omega (arith, most.1)) s in
      (token_at bytes i n kind ∷ rest.0, token lt g rest.1, ap (λ x. kind ∷ x) rest.2)

-- a text that is not too long is a source with tokens of its kinds
pub tokens_of_text : (bytes : List ℕ) (ks : List TokenKind) → length bytes ≤ 2 ^ 18 → Spells bytes ks
    → (ts : List Token) × IsTokens bytes ts × (map (λ (t : Token). t.kind) ts ≡ ks ++ End ∷ [])
tokens_of_text bytes ks short s =
    let l = lexes_from bytes 0 bytes ks refl (omega arith) s in
    (l.0, record { short = short; lexes = l.1 }, l.2)

-- ---- pieces of a text

-- the text is these kinds before each rest
abbrev pub Over : List ℕ → List TokenKind → Type 0
Over text ks = (rest : List ℕ) (more : List TokenKind) → Spells rest more → Spells (text ++ rest) (ks ++ more)

pub both_over : (a b : List ℕ) (ks ls : List TokenKind) → Over a ks → Over b ls → Over (a ++ b) (ks ++ ls)
both_over a b ks ls f g rest more s =
    let x = append_assoc a b rest in
    let y = append_assoc ks ls more in
    subst (λ t. Spells t ((ks ++ ls) ++ more)) (sym x) (subst (λ l. Spells (a ++ (b ++ rest)) l) (sym y) (f (b ++ rest) (ls ++ more) (g rest more s)))

-- what some tokens and gaps at the front come to: their kinds, and the text behind them
abbrev Reading : Type 0
Reading = Option (List TokenKind × List ℕ)

abbrev with_kind : TokenKind → Reading → Reading
with_kind kind None = None
with_kind kind (Some r) = Some (kind ∷ r.0, r.1)

abbrev behind : (List ℕ → Reading) → List ℕ → Piece → Reading
behind go text (Gap n) = go (drop n text)
behind go text (Read n kind) = with_kind kind (go (drop n text))
behind go text (Bad fault) = None

abbrev pub read_front : ℕ → List ℕ → Reading
read_front zero text = Some ([], text)
read_front (suc k) text = behind (λ t. read_front k t) text (front text)

spelled : (k : ℕ) (text : List ℕ) (r : List TokenKind × List ℕ) (more : List TokenKind) → read_front k text ≡ Some r → Spells r.1 more → Spells text (r.0 ++ more)
spelled zero text r more e s = let is : ([], text) ≡ r = cc in subst (λ q. Spells q.1 more → Spells text (q.0 ++ more)) is (λ h. h) s
spelled (suc k) text r more e s = by (front text) refl e (λ n q. spelled k (drop n text) q more)
  where
    read : (n : ℕ) (kind : TokenKind) → front text ≡ Read n kind → (o : Reading) → read_front k (drop n text) ≡ o → with_kind kind o ≡ Some r
        → ((q : List TokenKind × List ℕ) → read_front k (drop n text) ≡ Some q → Spells q.1 more → Spells (drop n text) (q.0 ++ more)) → Spells text (r.0 ++ more)
    read n kind f None g h later = cc
    read n kind f (Some q) g h later =
        let is : (kind ∷ q.0, q.1) ≡ r = cc in
        subst (λ z. Spells z.1 more → Spells text (z.0 ++ more)) is (λ w. next n kind f (later q g w)) s

    by : (p : Piece) → front text ≡ p → behind (λ t. read_front k t) text p ≡ Some r
        → ((n : ℕ) (q : List TokenKind × List ℕ) → read_front k (drop n text) ≡ Some q → Spells q.1 more → Spells (drop n text) (q.0 ++ more)) → Spells text (r.0 ++ more)
    by (Gap n) f h later = blank n f (later n r h s)
    by (Read n kind) f h later = read n kind f (read_front k (drop n text)) refl h (λ q. later n q)
    by (Bad fault) f h later = cc

-- a text that computes, by how many tokens and gaps it has
pub over : (k : ℕ) (text : List ℕ) (ks : List TokenKind) → ((rest : List ℕ) → read_front k (text ++ rest) ≡ Some (ks, rest)) → Over text ks
over k text ks h rest more s = spelled k (text ++ rest) (ks, rest) more (h rest) s

-- a number before a byte that goes on with no number
pub number_over : (n b : ℕ) (bs : List ℕ) (ks : List TokenKind) → n < 2 ^ 63 → is_name_byte b ≡ false → Over (b ∷ bs) ks → Over (decimal n ++ b ∷ bs) (Number (pos n) ∷ ks)
number_over n b bs ks lt stop f rest more s =
    let x : (decimal n ++ b ∷ bs) ++ rest ≡ decimal n ++ b ∷ (bs ++ rest) = append_assoc (decimal n) (b ∷ bs) rest in
    subst (λ t. Spells t (Number (pos n) ∷ (ks ++ more))) (sym x)
    (next (length (decimal n)) (Number (pos n)) (front_decimal n b (bs ++ rest) lt stop)
    (subst (λ t. Spells t (ks ++ more)) (sym (drop-append_seam (decimal n) (b ∷ (bs ++ rest)))) (f rest more s)))
