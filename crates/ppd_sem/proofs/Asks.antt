-- One step of evaluation, from its parts.
use Rattle.std.proofs.Common.{◌≡◌, ℕ, ◌<◌, ℤ, pos, Bool, true, false, List, Option, None, Some, Result, Ok, Err, refl, ap, sym, subst, ◌∙◌, if◌then◌else◌}
use Rattle.std.specs.Prelude.{not as negated, ⊤}
use Rattle.std.specs.Result.{IsErr, IsErrAnd}
use Rattle.std.specs.Ordering.{int_eq}
use Rattle.std.proofs.lemmas.Int.{to_z-of_z}
use Rattle.ppd_ast.specs.declared.program.Expr.{Expr}
use Rattle.ppd_ast.specs.declared.program.Expr.TheVariants.{Const, Local, LocalAt, Shared, SharedAt, Neg, Not, Two, And, Or}
use Rattle.ppd_ast.specs.Table.{AreChildrenBelow}
use Rattle.ppd_ast.specs.Term.{Term, node, term_at}
use Rattle.ppd_sem.specs.declared.asking.Pause.{Pause}
use Rattle.ppd_sem.specs.Ask.{ask, truth}
use Rattle.ppd_sem.specs.Asked.{Asked, and_then, gives, lift}
use Rattle.ppd_sem.specs.Parts.{AreCellsBelow, by_both, by_first, first_of, leaf, second_of}
use Rattle.ppd_sem.specs.Within.{IsWithin}

pub and_then_ok : {A B : Type 0} (r : Asked A) (next : A → List ℤ → Asked B) (x : A) (left : List ℤ) → r ≡ Ok (x, left) → and_then r next ≡ next x left
and_then_ok r next x left e = rw e refl

pub and_then_err : {A B : Type 0} (r : Asked A) (next : A → List ℤ → Asked B) (p : Pause) → r ≡ Err p → and_then r next ≡ Err p
and_then_err r next p e = rw e refl

pub ruleset steps = (to_z-of_z, and_then_ok, and_then_err)

-- ---- an expression by its operands

module _ (ts : List Term) (cells : List ℤ) where
  pub asks_leaf : (e : Expr) (answers : List ℤ) → first_of e ≡ None → ask (node ts e) cells answers ≡ leaf e cells answers
  asks_leaf (Const v) answers is = refl
  asks_leaf (Local c) answers is = refl
  asks_leaf (Shared c) answers is = refl
  asks_leaf e answers is = absurd (cc is)

  -- once the first operand came to x: by the second one, if there is one
  abbrev pub ask_second : Expr → ℤ → List ℤ → Option ℕ → Asked ℤ
  ask_second e x left None = by_first e x cells left
  ask_second e x left (Some b) = and_then (ask (term_at ts b) cells left) (λ y left. lift left (by_both e x y))

  and_second : (a b : ℕ) (x : ℤ) (left : List ℤ) (zero : Bool)
      → (if zero then gives left (pos 0) else and_then (ask (term_at ts b) cells left) (λ y left. gives left (truth (negated (int_eq y (pos 0))))))
      ≡ ask_second (And a b) x left (if zero then None else Some b)
  and_second a b x left true = refl
  and_second a b x left false = refl

  or_second : (a b : ℕ) (x : ℤ) (left : List ℤ) (zero : Bool)
      → (if zero then and_then (ask (term_at ts b) cells left) (λ y left. gives left (truth (negated (int_eq y (pos 0))))) else gives left (pos 1))
      ≡ ask_second (Or a b) x left (if zero then Some b else None)
  or_second a b x left true = refl
  or_second a b x left false = refl

  own : (i a : ℕ) (answers : List ℤ) (r : Asked ℤ) → Some i ≡ Some a → ask (term_at ts a) cells answers ≡ r → ask (term_at ts i) cells answers ≡ r
  own i a answers r is h = let same : i ≡ a = cc is in ap (λ j. ask (term_at ts j) cells answers) same ∙ h

  pub asks_on : (e : Expr) (a : ℕ) (answers left : List ℤ) (x : ℤ) → first_of e ≡ Some a → ask (term_at ts a) cells answers ≡ Ok (x, left)
      → ask (node ts e) cells answers ≡ ask_second e x left (second_of e x)
  asks_on (LocalAt base len i) a answers left x is h = and_then_ok (ask (term_at ts i) cells answers) _ x left (own i a answers _ is h)
  asks_on (SharedAt base len i) a answers left x is h = and_then_ok (ask (term_at ts i) cells answers) _ x left (own i a answers _ is h)
  asks_on (Neg i) a answers left x is h = and_then_ok (ask (term_at ts i) cells answers) _ x left (own i a answers _ is h)
  asks_on (Not i) a answers left x is h = and_then_ok (ask (term_at ts i) cells answers) _ x left (own i a answers _ is h)
  asks_on (Two op i j) a answers left x is h = and_then_ok (ask (term_at ts i) cells answers) _ x left (own i a answers _ is h)
  asks_on (And i j) a answers left x is h =
      and_then_ok (ask (term_at ts i) cells answers) _ x left (own i a answers _ is h) ∙ and_second i j x left (int_eq x (pos 0))
  asks_on (Or i j) a answers left x is h =
      and_then_ok (ask (term_at ts i) cells answers) _ x left (own i a answers _ is h) ∙ or_second i j x left (int_eq x (pos 0))
  asks_on e a answers left x is h = absurd (cc is)

  -- the first operand comes to nothing
  pub asks_stops : (e : Expr) (a : ℕ) (answers : List ℤ) (p : Pause) → first_of e ≡ Some a → ask (term_at ts a) cells answers ≡ Err p
      → ask (node ts e) cells answers ≡ Err p
  asks_stops (LocalAt base len i) a answers p is h = and_then_err (ask (term_at ts i) cells answers) _ p (own i a answers _ is h)
  asks_stops (SharedAt base len i) a answers p is h = and_then_err (ask (term_at ts i) cells answers) _ p (own i a answers _ is h)
  asks_stops (Neg i) a answers p is h = and_then_err (ask (term_at ts i) cells answers) _ p (own i a answers _ is h)
  asks_stops (Not i) a answers p is h = and_then_err (ask (term_at ts i) cells answers) _ p (own i a answers _ is h)
  asks_stops (Two op i j) a answers p is h = and_then_err (ask (term_at ts i) cells answers) _ p (own i a answers _ is h)
  asks_stops (And i j) a answers p is h = and_then_err (ask (term_at ts i) cells answers) _ p (own i a answers _ is h)
  asks_stops (Or i j) a answers p is h = and_then_err (ask (term_at ts i) cells answers) _ p (own i a answers _ is h)
  asks_stops e a answers p is h = absurd (cc is)

  -- the first operand comes to x, and there is no second one
  pub asks_first : (e : Expr) (a : ℕ) (answers left : List ℤ) (x is_x : ℤ) → first_of e ≡ Some a → ask (term_at ts a) cells answers ≡ Ok (x, left) → is_x ≡ x
      → None ≡ second_of e is_x → ask (node ts e) cells answers ≡ by_first e is_x cells left
  asks_first e a answers left x is_x is h same none =
      asks_on e a answers left x is h ∙ ap (λ x. ask_second e x left (second_of e x)) (sym same) ∙ ap (ask_second e is_x left) (sym none)

  asks_more : (e : Expr) (a b : ℕ) (answers left : List ℤ) (x is_x : ℤ) → first_of e ≡ Some a → ask (term_at ts a) cells answers ≡ Ok (x, left) → is_x ≡ x
      → Some b ≡ second_of e is_x → ask (node ts e) cells answers ≡ ask_second e is_x left (Some b)
  asks_more e a b answers left x is_x is h same some =
      asks_on e a answers left x is h ∙ ap (λ x. ask_second e x left (second_of e x)) (sym same) ∙ ap (ask_second e is_x left) (sym some)

  -- both operands come to values
  pub asks_both : (e : Expr) (a b : ℕ) (answers left rest : List ℤ) (x is_x y is_y : ℤ) → first_of e ≡ Some a → ask (term_at ts a) cells answers ≡ Ok (x, left) → is_x ≡ x
      → Some b ≡ second_of e is_x → ask (term_at ts b) cells left ≡ Ok (y, rest) → is_y ≡ y → ask (node ts e) cells answers ≡ lift rest (by_both e is_x is_y)
  asks_both e a b answers left rest x is_x y is_y is h same some then_h same_y =
      asks_more e a b answers left x is_x is h same some ∙ and_then_ok (ask (term_at ts b) cells left) (λ y left. lift left (by_both e is_x y)) y rest then_h
      ∙ ap (λ y. lift rest (by_both e is_x y)) (sym same_y)

  -- the second operand comes to nothing
  pub asks_second_stops : (e : Expr) (a b : ℕ) (answers left : List ℤ) (x is_x : ℤ) (p : Pause) → first_of e ≡ Some a → ask (term_at ts a) cells answers ≡ Ok (x, left) → is_x ≡ x
      → Some b ≡ second_of e is_x → ask (term_at ts b) cells left ≡ Err p → ask (node ts e) cells answers ≡ Err p
  asks_second_stops e a b answers left x is_x p is h same some stops =
      asks_more e a b answers left x is_x is h same some ∙ and_then_err (ask (term_at ts b) cells left) (λ y left. lift left (by_both e is_x y)) p stops

-- ---- what an expression's operands may be

-- the operand that is evaluated first
pub first_below : (at : ℕ) (e : Expr) (a : ℕ) → AreChildrenBelow at e → first_of e ≡ Some a → a < at
first_below at (LocalAt base len i) a h is = subst (λ j. j < at) (cc is) h
first_below at (SharedAt base len i) a h is = subst (λ j. j < at) (cc is) h
first_below at (Neg i) a h is = subst (λ j. j < at) (cc is) h
first_below at (Not i) a h is = subst (λ j. j < at) (cc is) h
first_below at (Two op i j) a h is = subst (λ k. k < at) (cc is) h.0
first_below at (And i j) a h is = subst (λ k. k < at) (cc is) h.0
first_below at (Or i j) a h is = subst (λ k. k < at) (cc is) h.0
first_below at e a h is = absurd (cc is)

pub first_within : (ts : List Term) (n : ℕ) (e : Expr) (a : ℕ) → IsWithin n (node ts e) → first_of e ≡ Some a → IsWithin n (term_at ts a)
first_within ts n (LocalAt base len i) a h is = subst (λ j. IsWithin n (term_at ts j)) (cc is) h.1
first_within ts n (SharedAt base len i) a h is = subst (λ j. IsWithin n (term_at ts j)) (cc is) h.1
first_within ts n (Neg i) a h is = subst (λ j. IsWithin n (term_at ts j)) (cc is) h
first_within ts n (Not i) a h is = subst (λ j. IsWithin n (term_at ts j)) (cc is) h
first_within ts n (Two op i j) a h is = subst (λ k. IsWithin n (term_at ts k)) (cc is) h.0
first_within ts n (And i j) a h is = subst (λ k. IsWithin n (term_at ts k)) (cc is) h.0
first_within ts n (Or i j) a h is = subst (λ k. IsWithin n (term_at ts k)) (cc is) h.0
first_within ts n e a h is = absurd (cc is)

-- the two operands
abbrev Both : (ℕ → Type 0) → Expr → Type 0
Both P (Two op i j) = P j
Both P (And i j) = P j
Both P (Or i j) = P j
Both P e = ⊤

-- the operand that is evaluated once the first came to x
of_second : (P : ℕ → Type 0) (e : Expr) (x : ℤ) (b : ℕ) → Both P e → second_of e x ≡ Some b → P b
of_second P (Two op i j) x b h is = subst P (cc is) h
of_second P (And i j) x b h is = by (int_eq x (pos 0)) is
  where
    by : (zero : Bool) → (if zero then None else Some j) ≡ Some b → P b
    by true e = absurd (cc e)
    by false e = subst P (cc e) h
of_second P (Or i j) x b h is = by (int_eq x (pos 0)) is
  where
    by : (zero : Bool) → (if zero then Some j else None) ≡ Some b → P b
    by true e = subst P (cc e) h
    by false e = absurd (cc e)
of_second P e x b h is = absurd (cc is)

pub second_below : (at : ℕ) (e : Expr) (x : ℤ) (b : ℕ) → AreChildrenBelow at e → second_of e x ≡ Some b → b < at
second_below at e x b h is = of_second (λ j. j < at) e x b (both e h) is
  where
    both : (e : Expr) → AreChildrenBelow at e → Both (λ j. j < at) e
    both (Two op i j) h = h.1
    both (And i j) h = h.1
    both (Or i j) h = h.1
    both e h = tt

pub second_within : (ts : List Term) (n : ℕ) (e : Expr) (x : ℤ) (b : ℕ) → IsWithin n (node ts e) → second_of e x ≡ Some b → IsWithin n (term_at ts b)
second_within ts n e x b h is = of_second (λ j. IsWithin n (term_at ts j)) e x b (both e h) is
  where
    both : (e : Expr) → IsWithin n (node ts e) → Both (λ j. IsWithin n (term_at ts j)) e
    both (Two op i j) h = h.1
    both (And i j) h = h.1
    both (Or i j) h = h.1
    both e h = tt

pub cells_below : (ts : List Term) (n : ℕ) (e : Expr) → IsWithin n (node ts e) → AreCellsBelow n e
cells_below ts n (Local c) h = h
cells_below ts n (LocalAt base len i) h = h.0
cells_below ts n (SharedAt base len i) h = h.0
cells_below ts n e h = tt

-- ---- a result that is handed on

pub is_err : {A E : Type 0} (r : Result A E) (e : E) → IsErr r × IsErrAnd r (λ x. x ≡ e) → r ≡ Err e
is_err (Ok x) e h = absurd (cc h.0)
is_err (Err x) e h = ap Err h.1
