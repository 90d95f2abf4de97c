-- Which deeds a statement of each kind comes to.
use Rattle.std.proofs.Common.{◌≡◌, ℕ, ℤ, List, true, false, refl, inl, inr}
use Rattle.ppd_ast.specs.declared.program.Expr.{Expr}
use Rattle.ppd_ast.specs.declared.program.Kind.{Kind}
use Rattle.ppd_ast.specs.declared.program.Kind.TheVariants.{If, While, Call, Return, End}
use Rattle.ppd_sem.specs.Deed.{Deed, ask_deed}
use Rattle.ppd_sem.specs.Described.{ends_body}
use Rattle.ppd_sem.proofs.OfKind.{IsDeedOf, asked_holds, backs, backs_value, finishes, goes_first, goes_second}
use Rattle.law_steps.specs.Beside.Relation.{IsListOf, IsCallOf}
use Rattle.law_steps.proofs.Vocabulary.Relation.{IsReturn, IsEnd, Suits, Yields}

deed_suits : (k : Kind) (d : Deed) → IsDeedOf k d → Suits k d
deed_suits k d goes_first = inl refl
deed_suits k d goes_second = inr refl
deed_suits k d backs = tt
deed_suits k d (backs_value v) = tt
deed_suits k d finishes = tt
deed_suits k d is = refl

pub suits : (es : List Expr) (k : Kind) (cells answers : List ℤ) → Yields (Suits k) (ask_deed es k cells answers)
suits es k cells answers = asked_holds es cells answers (Suits k) k (deed_suits k)

pub list_goes_on : (k : Kind) (stmts : List ℕ) → IsListOf k stmts → ends_body k ≡ false
list_goes_on (If e first second) stmts h = refl
list_goes_on (While e body) stmts h = refl
list_goes_on k stmts h = absurd h

pub call_goes_on : (k : Kind) (f : ℕ) → IsCallOf k f → ends_body k ≡ false
call_goes_on (Call g arguments into) f h = refl
call_goes_on k f h = absurd h

pub return_ends : (k : Kind) → IsReturn k → ends_body k ≡ true
return_ends (Return e) h = refl
return_ends k h = absurd h

pub end_ends : (k : Kind) → IsEnd k → ends_body k ≡ true
end_ends End h = refl
end_ends k h = absurd h
