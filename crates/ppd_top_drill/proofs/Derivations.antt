-- Texts of the grammar: how a phrase is made up of kinds of tokens, and the tokens, marks and trees that come of it.
use Rattle.std.specs.Prelude.{map}
use Rattle.std.proofs.Common.{◌≡◌, ◌<◌, ℕ, suc, ◌+◌, true, List, [], ◌∷◌, ◌++◌, length, refl, sym, ap, ◌∙◌, subst, arith, append_assoc}
use Rattle.std.proofs.lemmas.List.{map-append}
use Rattle.ppd_parse.specs.declared.token.Token.{Token}
use Rattle.ppd_parse.specs.declared.token.TokenKind.{TokenKind}
use Rattle.ppd_parse.specs.declared.token.Kind.{Kind}
use Rattle.ppd_parse.specs.declared.symbol.At.{At}
use Rattle.ppd_parse.specs.declared.symbol.Level.{Level}
use Rattle.ppd_parse.specs.declared.symbol.Rule.{Rule}
use Rattle.ppd_parse.specs.Trees.{Shape, leaf, node, forest, Marked, kind_of, is_operator, deeper, inside, tokens_of}
use Rattle.ppd_parse.specs.Language.{Side, Phrase, word, binary, the, ◌·◌, ◌∣◌, many, maybe, opened, measured, made, phrase, Is}
use Rattle.ppd_parse.specs.Language as G
use Rattle.ppd_parse.specs.Limits.{token_at}

-- how kinds of tokens make up a phrase
pub data Derivation : Phrase → Type 0 where
  token : {k : Kind} (kind : TokenKind) → kind_of kind ≡ k → Derivation (word k)
  sign : {l : Level} (kind : TokenKind) → is_operator l (kind_of kind) ≡ true → Derivation (binary l)
  side : {y : Side} → Derivation (phrase y) → Derivation (the y)
  pair : {f g : Phrase} → Derivation f → Derivation g → Derivation (f · g)
  left : {f g : Phrase} → Derivation f → Derivation (f ∣ g)
  right : {f g : Phrase} → Derivation g → Derivation (f ∣ g)
  none : {f : Phrase} → Derivation (many f)
  more : {f : Phrase} → Derivation f → Derivation (many f) → Derivation (many f)
  absent : {f : Phrase} → Derivation (maybe f)
  present : {f : Phrase} → Derivation f → Derivation (maybe f)
  within : {f : Phrase} → Derivation f → Derivation (opened f)
  counted : {f : Phrase} → Derivation f → Derivation (measured f)
  grouped : {r : Rule} {f : Phrase} → Derivation f → Derivation (made r f)

-- the kinds of its tokens
abbrev pub kinds : {f : Phrase} → Derivation f → List TokenKind
kinds (token kind e) = kind ∷ []
kinds (sign kind e) = kind ∷ []
kinds (side d) = kinds d
kinds (pair d e) = kinds d ++ kinds e
kinds (left d) = kinds d
kinds (right d) = kinds d
kinds none = []
kinds (more d e) = kinds d ++ kinds e
kinds absent = []
kinds (present d) = kinds d
kinds (within d) = kinds d
kinds (counted d) = kinds d
kinds (grouped d) = kinds d

-- tokens of these kinds, which stand where those of w do, from number i on
module _ (w : ℕ → Token) where
  abbrev pub at_number : ℕ → TokenKind → Token
  at_number i kind = record { kind = kind; from = (w i).from; to = (w i).to; place = (w i).place }

  abbrev pub laid : ℕ → List TokenKind → List Token
  laid i [] = []
  laid i (k ∷ ks) = at_number i k ∷ laid (i + 1) ks

  -- the marks and the trees of a text whose first token has number i
  abbrev pub marks : {f : Phrase} → ℕ → At → Derivation f → List Marked
  marks i a (token kind e) = record { token = at_number i kind; at = a } ∷ []
  marks i a (sign kind e) = record { token = at_number i kind; at = a } ∷ []
  marks i a (side d) = marks i a d
  marks i a (pair d e) = marks i a d ++ marks (i + length (kinds d)) a e
  marks i a (left d) = marks i a d
  marks i a (right d) = marks i a d
  marks i a none = []
  marks i a (more d e) = marks i a d ++ marks (i + length (kinds d)) a e
  marks i a absent = []
  marks i a (present d) = marks i a d
  marks i a (within d) = marks i (deeper a) d
  marks i a (counted d) = marks i (inside a) d
  marks i a (grouped d) = marks i a d

  abbrev pub trees : {f : Phrase} → ℕ → Derivation f → List Shape
  trees i (token kind e) = leaf (at_number i kind) ∷ []
  trees i (sign kind e) = leaf (at_number i kind) ∷ []
  trees i (side d) = trees i d
  trees i (pair d e) = trees i d ++ trees (i + length (kinds d)) e
  trees i (left d) = trees i d
  trees i (right d) = trees i d
  trees i none = []
  trees i (more d e) = trees i d ++ trees (i + length (kinds d)) e
  trees i absent = []
  trees i (present d) = trees i d
  trees i (within d) = trees i d
  trees i (counted d) = trees i d
  trees {f = made r f} i (grouped d) = node r (forest (trees i d)) ∷ []

  -- it reads as these trees, before each rest
  pub derived : {f : Phrase} (i : ℕ) (a : At) (d : Derivation f) (rest : List Marked) → Is f a (marks i a d ++ rest) (trees i d) rest
  derived i a (token kind e) rest = G.token e refl
  derived i a (sign kind e) rest = G.sign e refl
  derived i a (side d) rest = G.side (derived i a d rest)
  derived {f = f · g} i a (pair d e) rest =
      let j = i + length (kinds d) in
      subst (λ ts. Is (f · g) a ts (trees i d ++ trees j e) rest) (sym (append_assoc (marks i a d) (marks j a e) rest))
      (G.both (derived i a d (marks j a e ++ rest)) (derived j a e rest))
  derived i a (left d) rest = G.left (derived i a d rest)
  derived i a (right d) rest = G.right (derived i a d rest)
  derived i a none rest = G.done
  derived {f = many f} i a (more d e) rest =
      let j = i + length (kinds d) in
      subst (λ ts. Is (many f) a ts (trees i d ++ trees j e) rest) (sym (append_assoc (marks i a d) (marks j a e) rest))
      (G.more (derived i a d (marks j a e ++ rest)) (derived j a e rest))
  derived i a absent rest = G.absent
  derived i a (present d) rest = G.present (derived i a d rest)
  derived i a (within d) rest = G.within (derived i (deeper a) d rest)
  derived i a (counted d) rest = G.counted (derived i (inside a) d rest)
  derived i a (grouped d) rest = G.grouped (derived i a d rest)

  laid_append : (i : ℕ) (ks ls : List TokenKind) → laid i (ks ++ ls) ≡ laid i ks ++ laid (i + length ks) ls
  laid_append i [] ls = let z : i ≡ i + 0 = omega arith in ap (λ j. laid j ls) z
  laid_append i (k ∷ ks) ls =
      let z : i + 1 + length ks ≡ i + suc (length ks) = omega arith in
      ap (λ ts. at_number i k ∷ ts) (laid_append (i + 1) ks ls ∙ ap (λ j. laid (i + 1) ks ++ laid j ls) z)

  laid_pair : {f g : Phrase} (i : ℕ) (a : At) (d : Derivation f) (e : Derivation g) → tokens_of (marks i a d) ≡ laid i (kinds d)
      → tokens_of (marks (i + length (kinds d)) a e) ≡ laid (i + length (kinds d)) (kinds e)
      → tokens_of (marks i a d ++ marks (i + length (kinds d)) a e) ≡ laid i (kinds d ++ kinds e)
  laid_pair i a d e p q =
      let j = i + length (kinds d) in
      map-append (λ (x : Marked). x.token) (marks i a d) (marks j a e)
      ∙ (ap (λ ts. ts ++ tokens_of (marks j a e)) p ∙ (ap (λ ts. laid i (kinds d) ++ ts) q ∙ sym (laid_append i (kinds d) (kinds e))))

  -- its tokens are those of its kinds
  pub tokens_derived : {f : Phrase} (i : ℕ) (a : At) (d : Derivation f) → tokens_of (marks i a d) ≡ laid i (kinds d)
  tokens_derived i a (token kind e) = refl
  tokens_derived i a (sign kind e) = refl
  tokens_derived i a (side d) = tokens_derived i a d
  tokens_derived i a (pair d e) = laid_pair i a d e (tokens_derived i a d) (tokens_derived (i + length (kinds d)) a e)
  tokens_derived i a (left d) = tokens_derived i a d
  tokens_derived i a (right d) = tokens_derived i a d
  tokens_derived i a none = refl
  tokens_derived i a (more d e) = laid_pair i a d e (tokens_derived i a d) (tokens_derived (i + length (kinds d)) a e)
  tokens_derived i a absent = refl
  tokens_derived i a (present d) = tokens_derived i a d
  tokens_derived i a (within d) = tokens_derived i (deeper a) d
  tokens_derived i a (counted d) = tokens_derived i (inside a) d
  tokens_derived i a (grouped d) = tokens_derived i a d

  laid_from : (i : ℕ) (ts : List Token) → ((j : ℕ) → j < length ts → w (i + j) ≡ token_at ts j) → laid i (map (λ (t : Token). t.kind) ts) ≡ ts
  laid_from i [] h = refl
  laid_from i (t ∷ ts) h =
      let z : i + 0 ≡ i = omega arith in
      let first : w i ≡ t = ap w (sym z) ∙ h 0 (omega arith) in
      ap (λ (u : Token). record { kind = t.kind; from = u.from; to = u.to; place = u.place } ∷ laid (i + 1) (map (λ (t : Token). t.kind) ts)) first
      ∙ ap (λ us. t ∷ us) (laid_from (i + 1) ts (λ j lt. let k : i + 1 + j ≡ i + suc j = omega arith in ap w k ∙ h (suc j) (omega (arith, lt))))

-- tokens are those of their kinds where they stand
pub laid_self : (ts : List Token) → laid (λ i. token_at ts i) 0 (map (λ (t : Token). t.kind) ts) ≡ ts
laid_self ts = laid_from (λ i. token_at ts i) 0 ts (λ j lt. let z : 0 + j ≡ j = omega arith in ap (λ k. token_at ts k) z)
