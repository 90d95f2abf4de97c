-- What a deed tells of its statement.
use Rattle.std.proofs.Common.{◌≡◌, ℤ, true, List, Some, refl}
use Rattle.std.specs.Prelude.{⊤}
use Rattle.ppd_ast.specs.Numbered.{is_while}
use Rattle.ppd_ast.specs.declared.program.Expr.{Expr}
use Rattle.ppd_ast.specs.declared.program.Kind.{Kind}
use Rattle.ppd_sem.specs.Asked.{Asked}
use Rattle.ppd_sem.specs.Deed.{Deed, leave, back, send, ask_deed}
use Rattle.ppd_sem.specs.Process.{chan_of}
use Rattle.ppd_sem.specs.Runs.{returns}
use Rattle.ppd_sem.proofs.OfKind.{IsDeedOf, OfAsked, asked_holds, backs, backs_value, leaves, sends}

-- a deed that sends is of a send on its channel, one that leaves is of a loop, and one that returns of a return
abbrev pub DeedOf : Kind → Deed → Type 0
DeedOf k (send c v) = chan_of k ≡ Some c
DeedOf k leave = is_while k ≡ true
DeedOf k (back v) = returns k ≡ true
DeedOf k d = ⊤

abbrev pub AskedOf : Kind → Asked Deed → Type 0
AskedOf k = OfAsked (DeedOf k)

deed_fits : (k : Kind) (d : Deed) → IsDeedOf k d → DeedOf k d
deed_fits k d (sends v) = refl
deed_fits k d leaves = refl
deed_fits k d backs = refl
deed_fits k d (backs_value v) = refl
deed_fits k d is = tt

pub asked_of : (es : List Expr) (k : Kind) (cells answers : List ℤ) → AskedOf k (ask_deed es k cells answers)
asked_of es k cells answers = asked_holds es cells answers (DeedOf k) k (deed_fits k)
