-- What the deed of a statement tells of its kind, and a loop that is left of its value.
use Rattle.std.proofs.Common.{◌≡◌, ℕ, ℤ, Bool, true, false, List, Ok, Err, refl, ap, sym, inl, inr, if◌then◌else◌, true≢false}
use Rattle.std.specs.Prelude.{⊤, not, pos}
use Rattle.std.specs.Ordering.{int_eq}
use Rattle.ppd_ast.specs.Numbered.{is_call, is_while}
use Rattle.ppd_ast.specs.declared.program.Expr.{Expr}
use Rattle.ppd_ast.specs.declared.program.Kind.{Kind}
use Rattle.ppd_ast.specs.declared.program.Kind.TheVariants as kind
use Rattle.ppd_ast.specs.Term.{term}
use Rattle.law_steps.specs.Beside.Relation.{IsCallOf, IsListOf}
use Rattle.ppd_sem.specs.Ask.{ask}
use Rattle.ppd_sem.specs.Asked.{Asked, and_then, gives}
use Rattle.ppd_sem.specs.Deed.{Deed, branch, turn, leave, invoke, back, finish, ask_deed}
use Rattle.ppd_sem.specs.Described.{value_at, valued}
use Rattle.ppd_sem.proofs.EventWords.{value_if}
use Rattle.ppd_sem.specs.Runs.{returns}
use Rattle.ppd_sem.proofs.OfKind.{IsDeedOf, OfAsked, asked_holds, backs, backs_value, finishes, goes_first, goes_round, goes_second, invokes, leaves}
use Rattle.ppd_model.specs.FullTrace.{is_passed}
use Rattle.ppd_model.specs.Parents.{is_choice}

-- neither a choice nor a return nor a call
abbrev pub IsSimple : Kind → Type 0
IsSimple k = (is_choice k ≡ false) × (returns k ≡ false) × (is_call k ≡ false)

abbrev pub DeedFits : Kind → Deed → Type 0
DeedFits k (branch stmts) = IsListOf k stmts × (is_choice k ≡ true) × (is_while k ≡ false)
DeedFits k (turn stmts) = IsListOf k stmts × (is_while k ≡ true)
DeedFits k leave = is_while k ≡ true
DeedFits k (invoke f values into) = IsCallOf k f
DeedFits k (back v) = returns k ≡ true
DeedFits k finish = ⊤
DeedFits k d = IsSimple k

abbrev pub AskedFits : Kind → Asked Deed → Type 0
AskedFits k = OfAsked (DeedFits k)

deed_fits : (k : Kind) (d : Deed) → IsDeedOf k d → DeedFits k d
deed_fits k d goes_first = (inl refl, refl, refl)
deed_fits k d goes_second = (inr refl, refl, refl)
deed_fits k d goes_round = (refl, refl)
deed_fits k d leaves = refl
deed_fits k d (invokes values count) = refl
deed_fits k d backs = refl
deed_fits k d (backs_value v) = refl
deed_fits k d finishes = tt
deed_fits k d is = (refl, refl, refl)

pub asked_fits : (es : List Expr) (k : Kind) (cells answers : List ℤ) → AskedFits k (ask_deed es k cells answers)
asked_fits es k cells answers = asked_holds es cells answers (DeedFits k) k (deed_fits k)

-- ---- a loop that is left

goes_on : Asked Deed → Bool
goes_on (Ok (turn body, left)) = true
goes_on x = false

turn_no_leave : (body : List ℕ) (l m : List ℤ) → gives l (turn body) ≡ Ok (leave, m) → ⊥
unfolding goes_on
turn_no_leave body l m e = true≢false (ap goes_on e)

left_asked : (r : Asked ℤ) (body : List ℕ) (left : List ℤ)
    → and_then r (λ v left. gives left (if int_eq v (pos 0) then leave else turn body)) ≡ Ok (leave, left)
    → is_passed (value_if r) ≡ false
left_asked (Err pause) body left e = absurd (cc)
left_asked (Ok q) body left e = by (int_eq q.0 (pos 0)) refl e
  where
    by : (b : Bool) → int_eq q.0 (pos 0) ≡ b → gives q.1 (if b then leave else turn body) ≡ Ok (leave, left)
        → not (int_eq q.0 (pos 0)) ≡ false
    by true z g = ap not z
    by false z g = absurd (turn_no_leave body q.1 left g)

-- its value is 0
pub leave_fails : (es : List Expr) (k : Kind) (cells answers left : List ℤ) → is_while k ≡ true
    → ask_deed es k cells answers ≡ Ok (leave, left)
    → is_passed (value_at es cells answers (valued k)) ≡ false
leave_fails es (kind.While e body) cells answers left is at = left_asked (ask (term es e) cells answers) body left at
leave_fails es k cells answers left is at = absurd (true≢false (sym is))

-- a call is neither a choice nor a return
pub calls_simply : (k : Kind) (f : ℕ) → IsCallOf k f → (is_choice k ≡ false) × (returns k ≡ false)
calls_simply (kind.Call g arguments into) f h = (refl, refl)
calls_simply k f h = absurd h

pub choice_stays : (k : Kind) → is_choice k ≡ true → returns k ≡ false
choice_stays (kind.Return v) h = absurd (true≢false (sym h))
choice_stays k h = refl

pub choice_no_call : (k : Kind) → is_choice k ≡ true → is_call k ≡ false
choice_no_call (kind.Call f arguments into) h = absurd (true≢false (sym h))
choice_no_call k h = refl

pub return_no_call : (k : Kind) → returns k ≡ true → is_call k ≡ false
return_no_call (kind.Call f arguments into) h = absurd (true≢false (sym h))
return_no_call k h = refl

pub return_no_choice : (k : Kind) → returns k ≡ true → is_choice k ≡ false
return_no_choice (kind.Return v) h = refl
return_no_choice k h = absurd (true≢false (sym h))

pub while_choice : (k : Kind) → is_while k ≡ true → is_choice k ≡ true
while_choice (kind.While e body) h = refl
while_choice k h = absurd (true≢false (sym h))
