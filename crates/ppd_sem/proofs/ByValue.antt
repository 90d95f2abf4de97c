-- What a statement does by the value of its one expression, and what it does that evaluates nothing.
use Rattle.std.proofs.Common.{◌≡◌, ℕ, ℤ, pos, Bool, true, false, List, Option, Some, None, Result, Ok, Err, IfOk, refl, subst, if◌then◌else◌}
use Rattle.std.specs.Prelude.{⊤}
use Rattle.std.specs.Ordering.{int_eq}
use Rattle.ppd_ast.specs.declared.program.Expr.{Expr}
use Rattle.ppd_ast.specs.declared.program.Kind.{Kind}
use Rattle.ppd_ast.specs.declared.program.Kind.TheVariants as kind
use Rattle.ppd_ast.specs.declared.status.Trap.TheVariants as trap
use Rattle.ppd_ast.specs.Term.{term}
use Rattle.ppd_sem.specs.declared.asking.Pause.{Pause}
use Rattle.ppd_sem.specs.declared.asking.Pause.TheVariants.{Traps}
use Rattle.ppd_sem.specs.declared.effect.Effect.{Effect}
use Rattle.ppd_sem.specs.declared.effect.Effect.TheVariants as effect
use Rattle.ppd_sem.specs.Ask.{ask}
use Rattle.ppd_sem.specs.Asked.{Asked, and_then, gives, outcome}
use Rattle.ppd_sem.specs.Deed.{Deed, branch, turn, leave, pass, ask_deed}
use Rattle.ppd_sem.specs.Described.{valued}
use Rattle.ppd_sem.specs.Effects.{HasRange, deed_if, deed_of}
use Rattle.ppd_sem.specs.Runs.{AreUses}
use Rattle.ppd_sem.specs.Stored.{by_value, without_value}

-- what it does by what its expression comes to
abbrev pub by_asked : Kind → Asked ℤ → Result Effect Pause
by_asked k (Ok p) = by_value k p.0
by_asked k (Err pause) = Err pause

module _ (es : List Expr) (cells answers : List ℤ) where
  -- a statement whose one expression comes to this
  abbrev Does : Kind → Asked Deed → Asked ℤ → Type 0
  Does k deed r = outcome deed ≡ deed_if es k cells answers (by_asked k r)

  tested : (x : ℕ) (first second : List ℕ) (left : List ℤ) (zero : Bool)
      → outcome (gives left (branch (if zero then second else first))) ≡ deed_if es (kind.If x first second) cells answers (Ok (effect.Branch (if zero then false else true)))
  tested x first second left true = refl
  tested x first second left false = refl

  turned : (x : ℕ) (body : List ℕ) (left : List ℤ) (zero : Bool)
      → outcome (gives left (if zero then leave else turn body)) ≡ deed_if es (kind.While x body) cells answers (Ok (if zero then effect.Leave else effect.Turn))
  turned x body left true = refl
  turned x body left false = refl

  asserted : (x : ℕ) (left : List ℤ) (zero : Bool)
      → outcome (if zero then Err (Traps trap.Assert) else gives left pass) ≡ deed_if es (kind.Assert x) cells answers (if zero then Err (Traps trap.Assert) else Ok effect.Pass)
  asserted x left true = refl
  asserted x left false = refl

  by_test : (x : ℕ) (first second : List ℕ) (r : Asked ℤ)
      → Does (kind.If x first second) (and_then r (λ v left. gives left (branch (if int_eq v (pos 0) then second else first)))) r
  by_test x first second (Ok p) = tested x first second p.1 (int_eq p.0 (pos 0))
  by_test x first second (Err pause) = refl

  by_turn : (x : ℕ) (body : List ℕ) (r : Asked ℤ)
      → Does (kind.While x body) (and_then r (λ v left. gives left (if int_eq v (pos 0) then leave else turn body))) r
  by_turn x body (Ok p) = turned x body p.1 (int_eq p.0 (pos 0))
  by_turn x body (Err pause) = refl

  by_assertion : (x : ℕ) (r : Asked ℤ)
      → Does (kind.Assert x) (and_then r (λ v left. if int_eq v (pos 0) then Err (Traps trap.Assert) else gives left pass)) r
  by_assertion x (Ok p) = asserted x p.1 (int_eq p.0 (pos 0))
  by_assertion x (Err pause) = refl

  -- a statement whose deed is this one of its value
  simply : (k : Kind) (deed : ℤ → Deed) (r : Asked ℤ) → ((v : ℤ) → Ok (deed v) ≡ deed_if es k cells answers (by_value k v))
      → Does k (and_then r (λ v left. gives left (deed v))) r
  simply k deed (Ok p) is = is p.0
  simply k deed (Err pause) is = refl

  -- of its own expression
  abbrev Own : Kind → ℕ → Type 0
  Own k e = Does k (ask_deed es k cells answers) (ask (term es e) cells answers)

  pub by_its_value : (k : Kind) (e : ℕ) → valued k ≡ Some e → outcome (ask_deed es k cells answers) ≡ deed_if es k cells answers (by_asked k (ask (term es e) cells answers))
  by_its_value (kind.If x first second) e is = subst (Own (kind.If x first second)) (cc is) (by_test x first second (ask (term es x) cells answers))
  by_its_value (kind.While x body) e is = subst (Own (kind.While x body)) (cc is) (by_turn x body (ask (term es x) cells answers))
  by_its_value (kind.Return None) e is = absurd (cc is)
  by_its_value (kind.Return (Some x)) e is = subst (Own (kind.Return (Some x))) (cc is) (simply (kind.Return (Some x)) _ (ask (term es x) cells answers) (λ v. refl))
  by_its_value (kind.Send c x) e is = subst (Own (kind.Send c x)) (cc is) (simply (kind.Send c x) _ (ask (term es x) cells answers) (λ v. refl))
  by_its_value (kind.Print x) e is = subst (Own (kind.Print x)) (cc is) (simply (kind.Print x) _ (ask (term es x) cells answers) (λ v. refl))
  by_its_value (kind.Assert x) e is = subst (Own (kind.Assert x)) (cc is) (by_assertion x (ask (term es x) cells answers))
  by_its_value k e is = absurd (cc is)

-- neither an assignment nor a call
abbrev pub IsOther : Kind → Type 0
IsOther (kind.Set target value) = ⊥
IsOther (kind.Call f arguments into) = ⊥
IsOther k = ⊤

pub is_other : (k : Kind) → ((t : _) (e : ℕ) → k ≡ kind.Set t e → ⊥) → ((f : ℕ) (arguments : List ℕ) (into : Option ℕ) → k ≡ kind.Call f arguments into → ⊥) → IsOther k
is_other (kind.Set t e) set call = set t e refl
is_other (kind.Call f arguments into) set call = call f arguments into refl
is_other k set call = tt

pub without_its_value : (es : List Expr) (cells answers : List ℤ) (k : Kind) → IsOther k → valued k ≡ None → outcome (ask_deed es k cells answers) ≡ Ok (deed_of es k cells answers (without_value k))
without_its_value es cells answers (kind.Set t e) o is = absurd o
without_its_value es cells answers (kind.Call f arguments into) o is = absurd o
without_its_value es cells answers (kind.Zero base len) o is = refl
without_its_value es cells answers (kind.P s) o is = refl
without_its_value es cells answers (kind.V s) o is = refl
without_its_value es cells answers (kind.Recv c into) o is = refl
without_its_value es cells answers (kind.Return None) o is = refl
without_its_value es cells answers kind.End o is = refl
without_its_value es cells answers k o is = absurd (cc is)

-- the cells that it clears have 16 bits
pub by_value_in_range : (k : Kind) (v : ℤ) → IfOk (by_value k v) HasRange
by_value_in_range (kind.If e first second) v = tt
by_value_in_range (kind.While e body) v = looped (int_eq v (pos 0))
  where
    looped : (zero : Bool) → HasRange (if zero then effect.Leave else effect.Turn)
    looped true = tt
    looped false = tt
by_value_in_range (kind.Assert e) v = asserts (int_eq v (pos 0))
  where
    asserts : (zero : Bool) → IfOk (if zero then Err (Traps trap.Assert) else Ok effect.Pass) HasRange
    asserts true = tt
    asserts false = tt
by_value_in_range k v = tt

pub without_value_in_range : (es : List Expr) (n : ℕ) (k : Kind) → AreUses es n k → HasRange (without_value k)
without_value_in_range es n (kind.Zero base len) h = h
without_value_in_range es n k h = tt
