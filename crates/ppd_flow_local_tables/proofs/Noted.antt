-- What calls that note values leave in a row.
use Rattle.std.proofs.Common.{◌≡◌, ℕ, zero, suc, ◌+◌, ◌<◌, Bool, true, false, cond, not, ◌&&◌, ◌||◌, eqb, List, [], ◌∷◌, ◌++◌, length, get_or, take, Option, Some, refl, ap, ap₂, sym, ◌∙◌, arith, true≢false, eqb-true, eq-eqb, subst}
use Rattle.std.specs.Prelude.{ℤ, OnOk, Ok, Err, Result}
use Rattle.std.specs.List.{list_any}
use Rattle.std.proofs.lemmas.List.{take_more}
use Rattle.ppd_ast.specs.declared.program.Program.{Program}
use Rattle.ppd_ast.specs.Lookups.{kind_of}
use Rattle.ppd_sem.specs.Process.{into_of}
use Rattle.ppd_model.specs.Synchronizations.{is_number}
use Rattle.ppd_graph.specs.declared.writer.Writer.{Writer}
use Rattle.ppd_graph.specs.declared.writer.Writer.TheVariants.{Of}
use Rattle.ppd_flow_local_tables.specs.Built.{value_by}
use Rattle.ppd_flow_local_tables.specs.Rows.{AllBefore, noted}
use Rattle.ppd_flow_local_tables.proofs.RowLemmas.{before_more, noted_again, noted_first}
use Rattle.ppd_flow_local_tables.proofs.Steps.{before_if}

-- equality of numbers turned round
pub eqb_turned : (a b : ℕ) → eqb a b ≡ eqb b a
eqb_turned a b = turn (eqb a b) (eqb b a) refl refl
  where
    turn : (s t : Bool) → eqb a b ≡ s → eqb b a ≡ t → eqb a b ≡ eqb b a
    turn true t e d = e ∙ sym (eq-eqb b a (sym (eqb-true a b e)))
    turn false true e d = absurd (true≢false (sym (eq-eqb a b (sym (eqb-true b a d))) ∙ e))
    turn false false e d = e ∙ sym d

-- a test of all and one more
pub any_push : {X : Type 0} (q : X → Bool) (xs : List X) (x : X) → list_any q (xs ++ x ∷ []) ≡ (list_any q xs || q x)
any_push q [] x = one (q x)
  where
    one : (b : Bool) → (b || false) ≡ b
    one true = refl
    one false = refl
any_push q (y ∷ ys) x = ap (λ b. q y || b) (any_push q ys x) ∙ apart (q y) (list_any q ys) (q x)
  where
    apart : (a b c : Bool) → (a || (b || c)) ≡ ((a || b) || c)
    apart true b c = refl
    apart false b c = refl

pub any_next : {X : Type 0} (q : X → Bool) (xs : List X) (i : ℕ) (x : X) → i < length xs → x ≡ get_or xs i x
    → (list_any q (take i xs) || q x) ≡ list_any q (take (i + 1) xs)
any_next q xs i x h is =
    sym (any_push q (take i xs) x) ∙ ap (list_any q) (ap (λ y. take i xs ++ y ∷ []) is ∙ sym (take_more xs i x h))

-- a fact of a call that succeeds gives another
pub on_ok : {X E P Q : Type 0} (r : Result X E) → (P → Q) → OnOk r P → OnOk r Q
on_ok (Ok x) f h = f h
on_ok (Err e) f h = h

-- one of frame 0
pub same_zero : (f : ℕ) (b : Bool) → (eqb 0 f && b) ≡ (eqb f 0 && b)
same_zero f b = ap (λ t. t && b) (eqb_turned 0 f)

module _ {A : Type 0} (n : ℕ) (v : A) (xs : List (ℕ × A)) (h : AllBefore n xs) where
  -- one more row is noted, or the same again
  pub noted_more : (p t : Bool) (now new : List (ℕ × A)) → now ≡ cond p (xs ++ (n, v) ∷ []) xs
      → new ≡ cond t (noted n v now) now
      → new ≡ cond (p || t) (xs ++ (n, v) ∷ []) xs
  noted_more true true now new e d = d ∙ (ap (noted n v) e ∙ noted_again n v v xs)
  noted_more true false now new e d = d ∙ e
  noted_more false true now new e d = d ∙ (ap (noted n v) e ∙ noted_first n v xs h)
  noted_more false false now new e d = d ∙ e

  pub noted_once : (t : Bool) (new : List (ℕ × A)) → new ≡ cond t (noted n v xs) xs
      → new ≡ cond t (xs ++ (n, v) ∷ []) xs
  noted_once true new e = e ∙ noted_first n v xs h
  noted_once false new e = e

  -- a test that is no trap
  pub noted_test : (t trap : Bool) (new : List (ℕ × A)) → trap ≡ false → new ≡ cond t (noted n v xs) xs
      → new ≡ cond (t && not trap) (xs ++ (n, v) ∷ []) xs
  noted_test true true new e d = absurd (true≢false e)
  noted_test true false new e d = d ∙ noted_first n v xs h
  noted_test false trap new e d = d

module _ {A : Type 0} where
  pub before_now : (t : Bool) (n : ℕ) (v : A) (now xs : List (ℕ × A)) → now ≡ cond t (xs ++ (n, v) ∷ []) xs
      → AllBefore n xs → AllBefore (n + 1) now
  before_now t n v now xs e h =
      subst (λ ys. AllBefore (n + 1) ys) (sym e)
      (before_if t (n + 1) n v xs (omega arith) (before_more n (n + 1) xs (omega arith) h))

-- ---- what a call receives

-- to what is received
pub noted_received : {A : Type 0} (o : Option ℕ) (c f k : ℕ) (new more xs : List A) → o ≡ Some c
    → new ≡ cond (eqb 0 f && eqb c k) more xs
    → new ≡ cond (eqb f 0 && is_number o k) more xs
noted_received o c f k new more xs e d =
    d ∙ (ap (λ t. cond t more xs) (same_zero f (eqb c k)) ∙ ap (λ q. cond (eqb f 0 && is_number q k) more xs) (sym e))

-- ---- the value of an interval

pub some_length : (n : ℕ) → eqb n 0 ≡ false → 0 < n
some_length zero e = absurd (true≢false e)
some_length (suc n) e = omega arith

module _ (program : Program) (n m call : ℕ) where
  pub some_value : (values : List ℤ) (f k : ℕ) (new xs : List (ℕ × Writer)) → 0 < length values
      → new ≡ cond (eqb f 0 && is_number (into_of (kind_of program call)) k) (xs ++ (n, Of m) ∷ []) xs
      → new ≡ value_by program n m call values f k xs
  some_value [] f k new xs l e = absurd (omega (arith, l))
  some_value (v ∷ vs) f k new xs l e = e

-- ---- the cells of a loop

pub left_more : (f frame k cell : ℕ) (b : Bool)
    → ((eqb f frame && b) || (eqb frame f && eqb cell k)) ≡ (eqb f frame && (b || eqb k cell))
left_more f frame k cell b =
    ap₂ (λ s t. (eqb f frame && b) || (s && t)) (eqb_turned frame f) (eqb_turned cell k)
    ∙ both (eqb f frame) b (eqb k cell)
  where
    both : (a b c : Bool) → ((a && b) || (a && c)) ≡ (a && (b || c))
    both true b c = refl
    both false b c = refl
