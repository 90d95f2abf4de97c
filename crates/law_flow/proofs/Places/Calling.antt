-- A deed other than a call is of no call.
use Rattle.std.proofs.Common.{◌≡◌, ℕ, ℤ, true, false, List, Option, Some, Ok, Err, refl, subst}
use Rattle.std.proofs.lemmas.Option.{none-some}
use Rattle.std.specs.Prelude.{⊤}
use Rattle.ppd_ast.specs.Numbered.{is_call, is_while}
use Rattle.ppd_ast.specs.declared.program.Expr.{Expr}
use Rattle.ppd_ast.specs.declared.program.Kind.{Kind}
use Rattle.ppd_ast.specs.declared.program.Kind.TheVariants as kind
use Rattle.ppd_sem.specs.Asked.{Asked, and_then, gives}
use Rattle.ppd_sem.specs.Deed.{Deed, invoke, ask_all, ask_deed}
use Rattle.ppd_sem.specs.Process.{chan_of}

abbrev pub IsCallDeed : Deed → Type 0
IsCallDeed (invoke f values into) = ⊤
IsCallDeed d = ⊥

abbrev DoesCall : Asked Deed → Type 0
DoesCall (Ok q) = IsCallDeed q.0
DoesCall (Err pause) = ⊤

calls : (r : Asked (List ℤ)) (f : ℕ) (into : Option ℕ)
    → DoesCall (and_then r (λ vs left. gives left (invoke f vs into)))
calls (Ok q) f into = tt
calls (Err pause) f into = tt

pub no_call : (es : List Expr) (k : Kind) (cells answers : List ℤ) (d : Deed) (left : List ℤ)
    → ask_deed es k cells answers ≡ Ok (d, left) → (IsCallDeed d → ⊥) → is_call k ≡ false
no_call es (kind.Call f arguments into) cells answers d left at other =
    absurd (other (subst DoesCall at (calls (ask_all es arguments cells answers) f into)))
no_call es k cells answers d left at other = refl

pub while_no_call : (k : Kind) → is_while k ≡ true → is_call k ≡ false
while_no_call (kind.While e body) w = refl
while_no_call (kind.Call f arguments into) w = cc
while_no_call k w = refl

pub send_no_call : (k : Kind) (c : ℕ) → chan_of k ≡ Some c → is_call k ≡ false
send_no_call (kind.Call f arguments into) c e = absurd (none-some c e)
send_no_call k c e = refl
