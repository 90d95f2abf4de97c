-- Each move of the parser keeps what completes the program.
use Rattle.std.proofs.Common.{◌≡◌, ℕ, true, List, [], ◌∷◌, ◌++◌, length, sym, ◌∙◌, subst}
use Rattle.ppd_parse.specs.declared.token.Kind.{Kind}
use Rattle.ppd_parse.specs.declared.symbol.Level.{Level}
use Rattle.ppd_parse.specs.declared.symbol.Rule.{Rule}
use Rattle.ppd_parse.specs.declared.symbol.Symbol.{Symbol}
use Rattle.ppd_parse.specs.declared.symbol.Symbol.TheVariants as S
use Rattle.ppd_parse.specs.declared.symbol.At.{At}
use Rattle.ppd_parse.specs.declared.symbol.Want.{Want}
use Rattle.ppd_parse.specs.declared.symbol.Want.TheVariants.{Get, Close}
use Rattle.ppd_parse.specs.Grammar.{Shape, leaf, close, Marked, kind_at, is_operator, Production, parts, MayStand, wants_in, base_in, ReadsAll, exact, operator, wrap, by, nothing, next}
use Rattle.ppd_parse.specs.Choice.{choose, chosen, refused}
use Rattle.ppd_parse.proofs.Vocabulary.{IsTerminal}
use Rattle.ppd_parse.proofs.First.{looked, stands}

pub split : (vs ws : List Want) {s u : List Shape} {ts rest : List Marked} → ReadsAll (vs ++ ws) s ts u rest → (t : List Shape) × (mid : List Marked) × ReadsAll vs s ts t mid × ReadsAll ws t mid u rest
split [] ws {s} {u} {ts} {rest} h = (s, ts, nothing, h)
split (v ∷ vs) ws (next r rs) =
    let e = split vs ws rs in
    (e.0, e.1, next r e.2, e.3)

pub join : {vs ws : List Want} {s t u : List Shape} {ts mid rest : List Marked} → ReadsAll vs s ts t mid → ReadsAll ws t mid u rest → ReadsAll (vs ++ ws) s ts u rest
join nothing h = h
join (next r rs) h = next r (join rs h)

-- one token, and an operator
pub exact_to : {k : Kind} {a : At} {b : ℕ} {ws : List Want} {s f : List Shape} {x : Marked} {ts rest : List Marked} → ReadsAll (Get (S.Exact k) a b ∷ ws) s (x ∷ ts) f rest → (kind_at x ≡ k) × (x.at ≡ a) × ReadsAll ws (s ++ leaf x.token ∷ []) ts f rest
exact_to (next (exact e m) rs) = (e, m, rs)
exact_to (next (by p m r) rs) = elim p [ ]

pub operator_to : {l : Level} {a : At} {b : ℕ} {ws : List Want} {s f : List Shape} {x : Marked} {ts rest : List Marked} → ReadsAll (Get (S.Operator l) a b ∷ ws) s (x ∷ ts) f rest → (is_operator l (kind_at x) ≡ true) × (x.at ≡ a) × ReadsAll ws (s ++ leaf x.token ∷ []) ts f rest
operator_to (next (operator e m) rs) = (e, m, rs)
operator_to (next (by p m r) rs) = elim p [ ]

pub wrap_to : {r : Rule} {b : ℕ} {ws : List Want} {s f : List Shape} {ts rest : List Marked} → ReadsAll (Close r b ∷ ws) s ts f rest → ReadsAll ws (close r b s) ts f rest
wrap_to (next wrap rs) = rs

opened : {y : Symbol} {a : At} {b : ℕ} {ws : List Want} {s f : List Shape} {ts rest : List Marked} → (IsTerminal y → ⊥) → ReadsAll (Get y a b ∷ ws) s ts f rest → (p : Production y) × MayStand p ts × ReadsAll (wants_in a (base_in y b (length s)) (parts p) ++ ws) s ts f rest
opened other (next (exact e m) rs) = absurd (other tt)
opened other (next (operator e m) rs) = absurd (other tt)
opened other (next (by p m r) rs) = (p, m, join r rs)

same_choice : {y : Symbol} {p q : Production y} → chosen p ≡ chosen q → p ≡ q
same_choice e = cc

module _ (y : Symbol) (a : At) (b : ℕ) (ws : List Want) (s : List Shape) (x : Marked) (ts : List Marked) (f : List Shape) where
  looked_in : (p : Production y) → MayStand p (x ∷ ts) → ReadsAll (wants_in a (base_in y b (length s)) (parts p) ++ ws) s (x ∷ ts) f [] → choose y (kind_at x) ≡ chosen p
  looked_in p m h =
      let d = split (wants_in a (base_in y b (length s)) (parts p)) ws h in
      looked y a (base_in y b (length s)) p m d.2

  pub unfold_to : (IsTerminal y → ⊥) → (p : Production y) → choose y (kind_at x) ≡ chosen p → ReadsAll (Get y a b ∷ ws) s (x ∷ ts) f [] → ReadsAll (wants_in a (base_in y b (length s)) (parts p) ++ ws) s (x ∷ ts) f []
  unfold_to other p e h =
      let o = opened other h in
      subst (λ q. ReadsAll (wants_in a (base_in y b (length s)) (parts q) ++ ws) s (x ∷ ts) f []) (same_choice (sym (looked_in o.0 o.1 o.2) ∙ e)) o.2

  pub unfold_none : (IsTerminal y → ⊥) → choose y (kind_at x) ≡ refused → ReadsAll (Get y a b ∷ ws) s (x ∷ ts) f [] → ⊥
  unfold_none other e h =
      let o = opened other h in
      let d = sym (looked_in o.0 o.1 o.2) ∙ e in
      cc

  pub unfold_from : (p : Production y) → choose y (kind_at x) ≡ chosen p → ReadsAll (wants_in a (base_in y b (length s)) (parts p) ++ ws) s (x ∷ ts) f [] → ReadsAll (Get y a b ∷ ws) s (x ∷ ts) f []
  unfold_from p e h =
      let d = split (wants_in a (base_in y b (length s)) (parts p)) ws h in
      next (by p (stands p (kind_at x) e) d.2) d.3
