-- What a statement comes to has 64 bits, where its constants, cells and answers have.
use Rattle.std.proofs.Common.{◌≡◌, ℕ, suc, ℤ, true, false, Bool, List, [], ◌∷◌, Some, None, Err, refl, ap, sym, subst, length, if◌then◌else◌}
use Rattle.std.specs.Prelude.{⊤, pos}
use Rattle.std.specs.Ordering.{int_eq}
use Rattle.ppd_ast.specs.declared.program.Expr.{Expr}
use Rattle.ppd_ast.specs.declared.program.Kind.{Kind}
use Rattle.ppd_ast.specs.declared.program.Kind.TheVariants as kind
use Rattle.ppd_ast.specs.declared.program.Target.TheVariants as target
use Rattle.ppd_ast.specs.declared.status.Trap.TheVariants as trap
use Rattle.ppd_ast.specs.Term.{term}
use Rattle.ppd_sem.specs.declared.asking.Pause.TheVariants.{Traps}
use Rattle.ppd_sem.specs.Ask.{ask, element}
use Rattle.ppd_sem.specs.Asked.{Asked, and_then, gives, lift}
use Rattle.ppd_sem.specs.Deed.{Deed, set_local, set_shared, clear, branch, turn, leave, invoke, back, take, give, send, receive, print, pass, finish, ask_all, ask_deed, ask_stored}
use Rattle.law_logs.specs.Recording.Values.{IsConstantOf64Bits}
use Rattle.law_logs.proofs.Recording.Fit.{All, Fit, SomeFits}
use Rattle.law_logs.proofs.Recording.Values.Asking.{table_fits, AskedFits, then_fits, lift_fits, any_given, either_fits, ask_fits}

-- ---- deeds

-- so many values are those of a call's arguments
abbrev pub DeedFits : (ℕ → Type 0) → Deed → Type 0
DeedFits S (set_local c v) = Fit v
DeedFits S (set_shared c v) = Fit v
DeedFits S (clear base len) = ⊤
DeedFits S (branch ss) = ⊤
DeedFits S (turn ss) = ⊤
DeedFits S leave = ⊤
DeedFits S (invoke f vs into) = All Fit vs × S (length vs)
DeedFits S (back v) = SomeFits Fit v
DeedFits S (take s) = ⊤
DeedFits S (give s) = ⊤
DeedFits S (send c v) = Fit v
DeedFits S (receive c into) = ⊤
DeedFits S (print v) = ⊤
DeedFits S pass = ⊤
DeedFits S finish = ⊤

abbrev pub CallIs : (ℕ → Type 0) → Kind → Type 0
CallIs S (kind.Call f arguments into) = S (length arguments)
CallIs S k = ⊤

module _ (S : ℕ → Type 0) (es : List Expr) (table : All IsConstantOf64Bits es) (cells : List ℤ) (held : All Fit cells) where
  value_fits : (e : ℕ) (answers : List ℤ) → All Fit answers → AskedFits Fit (ask (term es e) cells answers)
  value_fits e answers a = ask_fits (term es e) cells answers (table_fits es e table) held a

  abbrev AreFor : List ℕ → List ℤ → Type 0
  AreFor as' vs = All Fit vs × (length vs ≡ length as')

  all_fit : (as' : List ℕ) (answers : List ℤ) → All Fit answers → AskedFits (AreFor as') (ask_all es as' cells answers)
  all_fit [] answers a = ((tt, refl), a)
  all_fit (e ∷ as') answers a =
      then_fits Fit (AreFor (e ∷ as')) (ask (term es e) cells answers) _ (value_fits e answers a) (λ v left f l.
      then_fits (AreFor as') (AreFor (e ∷ as')) (ask_all es as' cells left) _ (all_fit as' left l) (λ vs left' g l'. (((f, g.0), ap suc g.1), l')))

  one_value : (e : ℕ) (answers : List ℤ) (next : ℤ → List ℤ → Asked Deed) → All Fit answers
      → ((v : ℤ) (left : List ℤ) → Fit v → All Fit left → AskedFits (DeedFits S) (next v left)) → AskedFits (DeedFits S) (and_then (ask (term es e) cells answers) next)
  one_value e answers next a go = then_fits Fit (DeedFits S) (ask (term es e) cells answers) next (value_fits e answers a) go

  stored_fits : (i e base len : ℕ) (store : ℕ → ℤ → Deed) (answers : List ℤ) → ((c : ℕ) (v : ℤ) → Fit v → DeedFits S (store c v)) → All Fit answers
      → AskedFits (DeedFits S) (ask_stored (term es i) (term es e) base len store cells answers)
  stored_fits i e base len store answers fine a =
      one_value i answers _ a (λ at left f l.
      then_fits (λ (n : ℕ). ⊤) (DeedFits S) (lift left (element base len at)) _ (lift_fits (λ (n : ℕ). ⊤) left (element base len at) l (any_given (element base len at))) (λ c left' g l'.
      one_value e left' _ l' (λ v left'' f' l''. (fine c v f', l''))))

  branch_fits : (b : Bool) (x y : Deed) (left : List ℤ) → DeedFits S x → DeedFits S y → All Fit left → AskedFits (DeedFits S) (gives left (if b then x else y))
  branch_fits true x y left h k l = (h, l)
  branch_fits false x y left h k l = (k, l)

  pub deed_fits : (k : Kind) (answers : List ℤ) → CallIs S k → All Fit answers → AskedFits (DeedFits S) (ask_deed es k cells answers)
  deed_fits (kind.Set (target.Local c) e) answers c' a = one_value e answers _ a (λ v left f l. (f, l))
  deed_fits (kind.Set (target.LocalAt base len i) e) answers c' a = stored_fits i e base len set_local answers (λ c v f. f) a
  deed_fits (kind.Set (target.Shared c) e) answers c' a = one_value e answers _ a (λ v left f l. (f, l))
  deed_fits (kind.Set (target.SharedAt base len i) e) answers c' a = stored_fits i e base len set_shared answers (λ c v f. f) a
  deed_fits (kind.Zero base len) answers c' a = (tt, a)
  deed_fits (kind.If e first second) answers c' a = one_value e answers _ a (λ v left f l. (tt, l))
  deed_fits (kind.While e body) answers c' a = one_value e answers _ a (λ v left f l. branch_fits (int_eq v (pos 0)) leave (turn body) left tt tt l)
  deed_fits (kind.Call f arguments into) answers c' a =
      then_fits (AreFor arguments) (DeedFits S) (ask_all es arguments cells answers) _ (all_fit arguments answers a) (λ vs left g l. ((g.0, subst S (sym g.1) c'), l))
  deed_fits (kind.Return None) answers c' a = (tt, a)
  deed_fits (kind.Return (Some e)) answers c' a = one_value e answers _ a (λ v left f l. (f, l))
  deed_fits (kind.P s) answers c' a = (tt, a)
  deed_fits (kind.V s) answers c' a = (tt, a)
  deed_fits (kind.Send c e) answers c' a = one_value e answers _ a (λ v left f l. (f, l))
  deed_fits (kind.Recv c into) answers c' a = (tt, a)
  deed_fits (kind.Print e) answers c' a = one_value e answers _ a (λ v left f l. (tt, l))
  deed_fits (kind.Assert e) answers c' a = one_value e answers _ a (λ v left f l. either_fits (DeedFits S) (int_eq v (pos 0)) (Err (Traps trap.Assert)) (gives left pass) tt (tt, l))
  deed_fits kind.End answers c' a = (tt, a)
