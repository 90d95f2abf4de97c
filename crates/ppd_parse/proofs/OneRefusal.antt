-- Tokens have one refusal at most, want of memory aside.
use Rattle.std.specs.Prelude.{take}
use Rattle.std.proofs.Common.{◌≡◌, ℕ, zero, suc, ◌<◌, ◌≤◌, List, [], ◌∷◌, ◌++◌, length, refl, sym, ◌∙◌, ap, subst, arith, inl, inr}
use Rattle.std.proofs.lemmas.Bool.{cases_lt}
use Rattle.std.proofs.lemmas.List.{append_assoc, length-map, map-append}
use Rattle.ppd_ast.specs.declared.limits.TheConstants.{MOST_OPEN, MOST_SOURCE_OPERATORS}
use Rattle.ppd_ast.specs.declared.program.Place.{Place}
use Rattle.ppd_parse.specs.declared.token.Token.{Token}
use Rattle.ppd_parse.specs.declared.error.SyntaxError.TheVariants as E
use Rattle.ppd_parse.specs.Grammar.{Shape, Marked, tokens_of}
use Rattle.ppd_parse.specs.Language.{IsProgram}
use Rattle.ppd_parse.specs.Laws.{HaveOneRefusal}
use Rattle.ppd_parse.specs.Limits.{count_with, KeepLimits, token_at, IsUnexpected, IsPast}
use Rattle.ppd_parse.proofs.Vocabulary.{count_after, BreaksDepth, BreaksWidth}
use Rattle.ppd_parse.proofs.Excluded.{kept_at}

-- ---- lists

-- the first j tokens, where token i is one of them
ahead : (ts : List Token) (i j : ℕ) → i < j → j ≤ length ts → (more : List Token) × (take j ts ≡ take i ts ++ token_at ts i ∷ more)
ahead [] i j lt le = absurd (omega (arith, lt, le))
ahead (t ∷ ts) i zero lt le = absurd (omega (arith, lt))
ahead (t ∷ ts) zero (suc j) lt le = (take j ts, refl)
ahead (t ∷ ts) (suc i) (suc j) lt le = let r = ahead ts i j (omega (arith, lt)) (omega (arith, le)) in (r.0, ap (λ us. t ∷ us) r.1)

taken_length : (ts : List Token) (i : ℕ) → i ≤ length ts → length (take i ts) ≡ i
taken_length ts zero le = refl
taken_length [] (suc i) le = absurd (omega (arith, le))
taken_length (t ∷ ts) (suc i) le = ap suc (taken_length ts i (omega (arith, le)))

-- a list that begins so, of which more is told
longer : (ms : List Marked) (x : Marked) (os zs ws : List Marked) → ms ++ x ∷ os ≡ zs ++ ws → length ms < length zs → (more : List Marked) × (zs ≡ ms ++ x ∷ more)
longer ms x os [] ws e lt = absurd (omega (arith, lt))
longer [] x os (z ∷ zs) ws e lt = (zs, ap (λ y. y ∷ zs) (sym (head_same e)))
  where
    head_same : {v w : Marked} {vs us : List Marked} → v ∷ vs ≡ w ∷ us → v ≡ w
    head_same k = cc
longer (m ∷ ms) x os (z ∷ zs) ws e lt =
    let r = longer ms x os zs ws (tail_same e) (omega (arith, lt)) in
    (r.0, ap (λ y. y ∷ zs) (sym (head_same e)) ∙ ap (λ us. m ∷ us) r.1)
  where
    head_same : {v w : Marked} {vs us : List Marked} → v ∷ vs ≡ w ∷ us → v ≡ w
    head_same k = cc

    tail_same : {v w : Marked} {vs us : List Marked} → v ∷ vs ≡ w ∷ us → vs ≡ us
    tail_same k = cc

-- two that begin alike up to one place
apart : (ms ns : List Marked) (x y : Marked) (os us : List Marked) → length ms ≡ length ns → ms ++ x ∷ os ≡ ns ++ y ∷ us → (ms ≡ ns) × (x ≡ y)
apart [] [] x y os us e h = (refl, head_same h)
  where
    head_same : {v w : Marked} {vs ws : List Marked} → v ∷ vs ≡ w ∷ ws → v ≡ w
    head_same k = cc
apart [] (n ∷ ns) x y os us e h = cc
apart (m ∷ ms) [] x y os us e h = cc
apart (m ∷ ms) (n ∷ ns) x y os us e h =
    let r = apart ms ns x y os us (omega (arith, e)) (tail_same h) in
    (ap (λ z. z ∷ ms) (head_same h) ∙ ap (λ zs. n ∷ zs) r.0, r.1)
  where
    head_same : {v w : Marked} {vs ws : List Marked} → v ∷ vs ≡ w ∷ ws → v ≡ w
    head_same k = cc

    tail_same : {v w : Marked} {vs ws : List Marked} → v ∷ vs ≡ w ∷ ws → vs ≡ ws
    tail_same k = cc

-- ---- a refusal at token i

module _ (ts : List Token) where
  -- a program begins with the tokens before it, which keep the limits
  record IsPoint (i : ℕ) : Type 0 where
    within : i < length ts
    marked : List Marked
    tokens : tokens_of marked ≡ take i ts
    rest : List Marked
    tree : List Shape
    program : IsProgram (marked ++ rest) tree
    limits : KeepLimits 0 marked

  -- no program goes through it within the limits
  abbrev Bars : ℕ → Type 0
  Bars i = (zs ws : List Marked) (f : List Shape) (more : List Token) → IsProgram (zs ++ ws) f → tokens_of (zs ++ ws) ≡ take i ts ++ token_at ts i ∷ more → i < length zs → KeepLimits 0 zs → ⊥

  marked_length : (zs : List Marked) (i : ℕ) → i ≤ length ts → tokens_of zs ≡ take i ts → length zs ≡ i
  marked_length zs i le e = sym (length-map zs (λ (x : Marked). x.token)) ∙ ap length e ∙ taken_length ts i le

  -- so it bars every later one
  later : (i j : ℕ) → Bars i → IsPoint j → i < j → ⊥
  later i j bars p lt =
      let within : j < length ts = p.within in
      let long : length p.marked ≡ j = marked_length p.marked j (omega (arith, within)) p.tokens in
      let a = ahead ts i j lt (omega (arith, within)) in
      bars p.marked p.rest p.tree (a.0 ++ tokens_of p.rest) p.program
      (map-append (λ (x : Marked). x.token) p.marked p.rest ∙ ap (λ us. us ++ tokens_of p.rest) (p.tokens ∙ a.1) ∙ append_assoc (take i ts) (token_at ts i ∷ a.0) (tokens_of p.rest))
      (omega (arith, lt, long)) p.limits

  unexpected_point : (place : Place) (r : IsUnexpected ts place) → IsPoint r.i
  unexpected_point place r = record { within = r.within; marked = r.marked; tokens = r.tokens; rest = r.rest; tree = r.tree; program = r.program; limits = r.limits }

  unexpected_bars : (place : Place) (r : IsUnexpected ts place) → Bars r.i
  unexpected_bars place r zs ws f more p e lt k = r.none (zs ++ ws) f more p e

  module _ (Breaks : ℕ → Marked → Type 0) (never : (n : ℕ) (x : Marked) → x.at.depth ≤ MOST_OPEN → count_with n x ≤ MOST_SOURCE_OPERATORS → Breaks n x → ⊥) (place : Place) (r : IsPast Breaks ts place) where
    past_point : IsPoint r.i
    past_point = record { within = r.within; marked = r.marked; tokens = r.tokens; rest = r.last ∷ r.rest; tree = r.tree; program = r.program; limits = r.limits }

    past_bars : Bars r.i
    past_bars zs ws f more p e lt k =
        let within : r.i < length ts = r.within in
        let o = r.only (zs ++ ws) f more p e in
        let long : length r.marked ≡ r.i = marked_length r.marked r.i (omega (arith, within)) r.tokens in
        let l = longer r.marked r.last o.0 zs ws (sym o.1) (omega (arith, lt, long)) in
        let kept = kept_at 0 r.marked r.last l.0 (subst (λ us. KeepLimits 0 us) l.1 k) in
        never (count_after 0 r.marked) r.last kept.0 kept.1 r.breaks

    -- the program of its point goes through its token
    past_through : tokens_of (r.marked ++ r.last ∷ r.rest) ≡ take r.i ts ++ token_at ts r.i ∷ tokens_of r.rest
    past_through =
        map-append (λ (x : Marked). x.token) r.marked (r.last ∷ r.rest) ∙ ap (λ us. us ++ r.last.token ∷ tokens_of r.rest) r.tokens ∙ ap (λ t. take r.i ts ++ t ∷ tokens_of r.rest) r.token

  no_depth : (n : ℕ) (x : Marked) → x.at.depth ≤ MOST_OPEN → count_with n x ≤ MOST_SOURCE_OPERATORS → BreaksDepth n x → ⊥
  no_depth n x d c b = omega (arith, d, b)

  no_width : (n : ℕ) (x : Marked) → x.at.depth ≤ MOST_OPEN → count_with n x ≤ MOST_SOURCE_OPERATORS → BreaksWidth n x → ⊥
  no_width n x d c b = omega (arith, c, b.1)

  -- two refusals are at one token
  one_place : (i j : ℕ) → Bars i → IsPoint i → Bars j → IsPoint j → i ≡ j
  one_place i j b p c q = elim (cases_lt i j) [
    | inl lt ↦ absurd (later i j b q lt)
    | inr le ↦ elim (cases_lt j i) [ inl lt ↦ absurd (later j i c p lt) | inr ge ↦ omega (arith, le, ge) ]
  ]

  same_place : (i j : ℕ) (a b : Place) → a ≡ (token_at ts i).place → b ≡ (token_at ts j).place → i ≡ j → a ≡ b
  same_place i j a b e f h = e ∙ ap (λ k. (token_at ts k).place) h ∙ sym f

  -- a token that no program goes through breaks no limit
  unexpected_or_past : (Breaks : ℕ → Marked → Type 0) → ((n : ℕ) (x : Marked) → x.at.depth ≤ MOST_OPEN → count_with n x ≤ MOST_SOURCE_OPERATORS → Breaks n x → ⊥) → (a b : Place) → IsUnexpected ts a → IsPast Breaks ts b → ⊥
  unexpected_or_past Breaks never a b r s =
      let same : r.i ≡ s.i = one_place r.i s.i (unexpected_bars a r) (unexpected_point a r) (past_bars Breaks never b s) (past_point Breaks never b s) in
      r.none (s.marked ++ s.last ∷ s.rest) s.tree (tokens_of s.rest) s.program (past_through Breaks never b s ∙ ap (λ k. take k ts ++ token_at ts k ∷ tokens_of s.rest) (sym same))

  -- nor both limits
  deep_or_wide : (a b : Place) → IsPast BreaksDepth ts a → IsPast BreaksWidth ts b → ⊥
  deep_or_wide a b r s =
      let same : r.i ≡ s.i = one_place r.i s.i (past_bars BreaksDepth no_depth a r) (past_point BreaksDepth no_depth a r) (past_bars BreaksWidth no_width b s) (past_point BreaksWidth no_width b s) in
      let within : r.i < length ts = r.within in
      let within' : s.i < length ts = s.within in
      let o = r.only (s.marked ++ s.last ∷ s.rest) s.tree (tokens_of s.rest) s.program (past_through BreaksWidth no_width b s ∙ ap (λ k. take k ts ++ token_at ts k ∷ tokens_of s.rest) (sym same)) in
      let long : length s.marked ≡ length r.marked = marked_length s.marked s.i (omega (arith, within')) s.tokens ∙ sym same ∙ sym (marked_length r.marked r.i (omega (arith, within)) r.tokens) in
      let both = apart s.marked r.marked s.last r.last s.rest o.0 long o.1 in
      let deep : MOST_OPEN < r.last.at.depth = r.breaks in
      let shallow : s.last.at.depth ≤ MOST_OPEN = s.breaks.0 in
      let depths : s.last.at.depth ≡ r.last.at.depth = ap (λ (x : Marked). x.at.depth) both.1 in
      omega (arith, deep, shallow, depths)

pub one_refusal : HaveOneRefusal
one_refusal ts (E.Unexpected a) (E.Unexpected b) m n r s =
    ap (λ p. E.Unexpected p) (same_place ts r.i s.i a b r.is s.is (one_place ts r.i s.i (unexpected_bars ts a r) (unexpected_point ts a r) (unexpected_bars ts b s) (unexpected_point ts b s)))
one_refusal ts (E.Unexpected a) (E.Deep b) m n r s = absurd (unexpected_or_past ts BreaksDepth (no_depth ts) a b r s)
one_refusal ts (E.Unexpected a) (E.Wide b) m n r s = absurd (unexpected_or_past ts BreaksWidth (no_width ts) a b r s)
one_refusal ts (E.Deep a) (E.Unexpected b) m n r s = absurd (unexpected_or_past ts BreaksDepth (no_depth ts) b a s r)
one_refusal ts (E.Wide a) (E.Unexpected b) m n r s = absurd (unexpected_or_past ts BreaksWidth (no_width ts) b a s r)
one_refusal ts (E.Deep a) (E.Wide b) m n r s = absurd (deep_or_wide ts a b r s)
one_refusal ts (E.Wide a) (E.Deep b) m n r s = absurd (deep_or_wide ts b a s r)
one_refusal ts (E.Deep a) (E.Deep b) m n r s =
    ap (λ p. E.Deep p) (same_place ts r.i s.i a b r.is s.is (one_place ts r.i s.i (past_bars ts BreaksDepth (no_depth ts) a r) (past_point ts BreaksDepth (no_depth ts) a r) (past_bars ts BreaksDepth (no_depth ts) b s) (past_point ts BreaksDepth (no_depth ts) b s)))
one_refusal ts (E.Wide a) (E.Wide b) m n r s =
    ap (λ p. E.Wide p) (same_place ts r.i s.i a b r.is s.is (one_place ts r.i s.i (past_bars ts BreaksWidth (no_width ts) a r) (past_point ts BreaksWidth (no_width ts) a r) (past_bars ts BreaksWidth (no_width ts) b s) (past_point ts BreaksWidth (no_width ts) b s)))
one_refusal ts E.Memory e m n r s = absurd (m refl)
one_refusal ts d E.Memory m n r s = absurd (n refl)
