-- What each move of the parser comes to.
use Rattle.std.proofs.Common.{◌≡◌, ◌≢◌, ℕ, true, false, List, [], ◌∷◌, ◌++◌, length, reverse, Some, None, refl, sym, ◌∙◌, ap, subst, arith}
use Rattle.std.proofs.lemmas.List.{reverse-append, reverse-reverse}
use Rattle.ppd_parse.specs.declared.token.Token.{Token}
use Rattle.ppd_parse.specs.declared.token.Kind.{Kind}
use Rattle.ppd_parse.specs.declared.token.Kind.TheVariants as K
use Rattle.ppd_parse.specs.declared.symbol.Level.{Level}
use Rattle.ppd_parse.specs.declared.symbol.Level.TheVariants as L
use Rattle.ppd_parse.specs.declared.symbol.Rule.{Rule}
use Rattle.ppd_parse.specs.declared.symbol.Symbol.{Symbol}
use Rattle.ppd_parse.specs.declared.symbol.Symbol.TheVariants as S
use Rattle.ppd_parse.specs.declared.symbol.At.{At}
use Rattle.ppd_parse.specs.declared.symbol.Part.{Part}
use Rattle.ppd_parse.specs.declared.symbol.Want.{Want}
use Rattle.ppd_parse.specs.declared.symbol.Want.TheVariants.{Get, Close}
use Rattle.ppd_parse.specs.declared.growth.Step.TheVariants as M
use Rattle.ppd_parse.specs.Grammar.{Shape, leaf, close, Marked, kind_of, is_operator, Production, parts, wants_in, base_in, ReadsAll, exact, operator, wrap, next}
use Rattle.ppd_parse.specs.Choice.{Choice, choose, chosen, refused, expansion, parts_if, pushed}
use Rattle.ppd_parse.specs.Machine.{State, SameAt, IsDead, Shifts, Advanced}
use Rattle.ppd_parse.proofs.Vocabulary.{IsTerminal}
use Rattle.ppd_parse.specs.Stack.{IsGood, HasEndsAlone}
use Rattle.ppd_parse.proofs.Choices.{expansion_chosen}
use Rattle.ppd_parse.proofs.Ranked.{few, ranked, read_exact, read_operator}
use Rattle.ppd_parse.proofs.Sample.{good_exact, good_unfolded}
use Rattle.ppd_parse.proofs.Unfolded.{exact_to, operator_to, wrap_to, unfold_to, unfold_from, unfold_none}

abbrev pub at_state : List Want → List Shape → State
at_state ws s = record { wants = ws; shapes = s }

pub close_moves : (token : Token) (r : Rule) (b : ℕ) (ws : List Want) (s t : List Shape) → t ≡ close r b s → IsGood ws → Advanced token M.Moved (record { wants = Close r b ∷ ws; shapes = s }) (record { wants = ws; shapes = t })
close_moves token r b ws s t e good =
    let same : SameAt (kind_of token.kind) (at_state (Close r b ∷ ws) s) (at_state ws t) = record {
      to = λ x ts f k h. subst (λ u. ReadsAll ws u (x ∷ ts) f []) (sym e) (wrap_to h);
      from = λ x ts f k h. next wrap (subst (λ u. ReadsAll ws u (x ∷ ts) f []) e h);
    } in
    (same, good, omega arith, omega arith)

marked_same : (x : Marked) (t : Token) (a : At) → x.token ≡ t → x.at ≡ a → x ≡ record { token = t; at = a }
marked_same x t a e m =
    ap (λ (u : Token). let r : Marked = record { token = u; at = x.at } in r) e ∙ ap (λ (b : At). let r : Marked = record { token = t; at = b } in r) m

good_end : (k : Kind) (a : At) (b : ℕ) (ws : List Want) → k ≡ K.End → IsGood (Get (S.Exact k) a b ∷ ws) → HasEndsAlone ws
good_end k a b ws e h = subst (λ j. IsGood (Get (S.Exact j) a b ∷ ws)) e h

pub exact_moves : (token : Token) (k : Kind) (a : At) (b : ℕ) (ws : List Want) (s t : List Shape) → k ≡ kind_of token.kind → t ≡ s ++ leaf token ∷ [] → IsGood (Get (S.Exact k) a b ∷ ws) → Advanced token (M.Read a) (record { wants = Get (S.Exact k) a b ∷ ws; shapes = s }) (record { wants = ws; shapes = t })
exact_moves token k a b ws s t e new good =
    let shifts : Shifts (record { token = token; at = a }) (at_state (Get (S.Exact k) a b ∷ ws) s) (at_state ws t) = record {
      to = λ x ts f d h. let o = exact_to h in (marked_same x token a d o.1, subst (λ u. ReadsAll ws u ts f []) (ap (λ z. s ++ leaf z ∷ []) d ∙ sym new) o.2);
      from = λ ts f h. next (exact (sym e) refl) (subst (λ u. ReadsAll ws u ts f []) new h);
    } in
    (shifts, good_exact k a b ws good, λ d. good_end k a b ws (e ∙ d) good, read_exact k a b ws, omega arith)

pub exact_refused : (token : Token) (k : Kind) (a : At) (b : ℕ) (ws : List Want) (s : List Shape) → (k ≡ kind_of token.kind → ⊥) → IsDead (kind_of token.kind) (record { wants = Get (S.Exact k) a b ∷ ws; shapes = s })
exact_refused token k a b ws s other x ts f e h = other (sym (exact_to h).0 ∙ e)

no_operator : (l : Level) (k : Kind) → k ≡ K.End → is_operator l k ≡ true → ⊥
no_operator l k e h = end l (sym (ap (is_operator l) e) ∙ h)
  where
    end : (l : Level) → is_operator l K.End ≡ true → ⊥
    end L.Product h = cc
    end _ h = cc

pub operator_moves : (token : Token) (l : Level) (a : At) (b : ℕ) (ws : List Want) (s t : List Shape) → is_operator l (kind_of token.kind) ≡ true → t ≡ s ++ leaf token ∷ [] → IsGood ws → Advanced token (M.Read a) (record { wants = Get (S.Operator l) a b ∷ ws; shapes = s }) (record { wants = ws; shapes = t })
operator_moves token l a b ws s t e new good =
    let shifts : Shifts (record { token = token; at = a }) (at_state (Get (S.Operator l) a b ∷ ws) s) (at_state ws t) = record {
      to = λ x ts f d h. let o = operator_to h in (marked_same x token a d o.1, subst (λ u. ReadsAll ws u ts f []) (ap (λ z. s ++ leaf z ∷ []) d ∙ sym new) o.2);
      from = λ ts f h. next (operator e refl) (subst (λ u. ReadsAll ws u ts f []) new h);
    } in
    (shifts, good, λ d. absurd (no_operator l (kind_of token.kind) d e), read_operator l a b ws, omega arith)

pub operator_refused : (token : Token) (l : Level) (a : At) (b : ℕ) (ws : List Want) (s : List Shape) → is_operator l (kind_of token.kind) ≡ false → IsDead (kind_of token.kind) (record { wants = Get (S.Operator l) a b ∷ ws; shapes = s })
operator_refused token l a b ws s other x ts f e h =
    let d = sym (operator_to h).0 ∙ (ap (is_operator l) e ∙ other) in
    cc

module _ (token : Token) (y : Symbol) (a : At) (b c : ℕ) (olds : List Want) (s : List Shape) (inner : IsTerminal y → ⊥) (base : c ≡ base_in y b (length s)) where
  unfolded_good : (p : Production y) → IsGood (Get y a b ∷ reverse olds) → IsGood (wants_in a c (parts p) ++ reverse olds)
  unfolded_good p h = good_unfolded p a c b (reverse olds) h

  unfolded : (p : Production y) → choose y (kind_of token.kind) ≡ chosen p → IsGood (Get y a b ∷ reverse olds) → Advanced token M.Moved (record { wants = Get y a b ∷ reverse olds; shapes = s }) (record { wants = wants_in a c (parts p) ++ reverse olds; shapes = s })
  unfolded p e good =
      let same : SameAt (kind_of token.kind) (at_state (Get y a b ∷ reverse olds) s) (at_state (wants_in a c (parts p) ++ reverse olds) s) = record {
        to = λ x ts f k h. subst (λ i. ReadsAll (wants_in a i (parts p) ++ reverse olds) s (x ∷ ts) f []) (sym base) (unfold_to y a b (reverse olds) s x ts f inner p (ap (choose y) k ∙ e) h);
        from = λ x ts f k h. unfold_from y a b (reverse olds) s x ts f p (ap (choose y) k ∙ e) (subst (λ i. ReadsAll (wants_in a i (parts p) ++ reverse olds) s (x ∷ ts) f []) base h);
      } in
      (same, unfolded_good p good, ranked p a c b (reverse olds), omega (arith, few p a c (reverse olds)))

  turned : (ws : List Want) → reverse (olds ++ reverse ws) ≡ ws ++ reverse olds
  turned ws = reverse-append olds (reverse ws) ∙ ap (λ z. z ++ reverse olds) (reverse-reverse ws)

  pub unfold_moves : (ps : List Part) (news : List Want) → expansion y (kind_of token.kind) ≡ Some ps → news ≡ pushed olds a c ps → IsGood (Get y a b ∷ reverse olds) → Advanced token M.Moved (record { wants = Get y a b ∷ reverse olds; shapes = s }) (record { wants = reverse news; shapes = s })
  unfolding pushed
  unfold_moves ps news e new good = go (choose y (kind_of token.kind)) refl (sym (expansion_chosen y (kind_of token.kind)) ∙ e)
    where
      go : (ch : Choice y) → choose y (kind_of token.kind) ≡ ch → parts_if ch ≡ Some ps → Advanced token M.Moved (record { wants = Get y a b ∷ reverse olds; shapes = s }) (record { wants = reverse news; shapes = s })
      go (chosen p) k h =
          let these : parts p ≡ ps = cc in
          let same : news ≡ olds ++ reverse (wants_in a c (parts p)) = new ∙ ap (λ qs. olds ++ reverse (wants_in a c qs)) (sym these) in
          subst (λ (ws : List Want). Advanced token M.Moved (record { wants = Get y a b ∷ reverse olds; shapes = s }) (record { wants = ws; shapes = s })) (sym (ap reverse same ∙ turned (wants_in a c (parts p)))) (unfolded p k good)
      go refused k h = cc

  pub unfold_refused : expansion y (kind_of token.kind) ≡ None → IsDead (kind_of token.kind) (record { wants = Get y a b ∷ reverse olds; shapes = s })
  unfold_refused e = go (choose y (kind_of token.kind)) refl (sym (expansion_chosen y (kind_of token.kind)) ∙ e)
    where
      go : (ch : Choice y) → choose y (kind_of token.kind) ≡ ch → parts_if ch ≡ None → IsDead (kind_of token.kind) (record { wants = Get y a b ∷ reverse olds; shapes = s })
      go (chosen p) k h x ts f d r = cc
      go refused k h x ts f d r = unfold_none y a b (reverse olds) s x ts f inner (ap (choose y) d ∙ k) r

pub inner_symbol : (y : Symbol) → ((k : Kind) → y ≢ S.Exact k) → ((l : Level) → y ≢ S.Operator l) → IsTerminal y → ⊥
inner_symbol (S.Exact k) no_exact no_operator h = no_exact k refl
inner_symbol (S.Operator l) no_exact no_operator h = no_operator l refl
inner_symbol _ no_exact no_operator h = h
