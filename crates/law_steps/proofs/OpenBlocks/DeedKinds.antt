-- Which statement comes to which deed: a loop's test leaves it or begins a turn, and only an end finishes.
use Rattle.std.proofs.Common.{◌≡◌, ℕ, ℤ, true, false, List, Some, None, Ok, refl, sym, subst, true≢false}
use Rattle.std.proofs.lemmas.Option.{none-some}
use Rattle.std.specs.Prelude.{⊤}
use Rattle.ppd_ast.specs.Numbered.{is_while}
use Rattle.ppd_ast.specs.Valid.{IsEnding}
use Rattle.ppd_ast.specs.declared.plan.BlockKind.TheVariants as block
use Rattle.ppd_ast.specs.declared.plan.Plan.{Plan}
use Rattle.ppd_ast.specs.declared.program.Expr.{Expr}
use Rattle.ppd_ast.specs.declared.program.Kind.{Kind}
use Rattle.ppd_ast.specs.declared.program.Kind.TheVariants as kind
use Rattle.law_steps.proofs.Course.Deeds.{DoesLoop, IsLoopDeed, loop_deed}
use Rattle.ppd_sem.specs.Asked.{Asked}
use Rattle.ppd_sem.specs.Deed.{Deed, finish, ask_deed}
use Rattle.ppd_sem.specs.Process.{chan_of, loop_of}
use Rattle.ppd_sem.specs.Runs.{returns}
use Rattle.ppd_sem.specs.Tables.{block_of}
use Rattle.ppd_sem.proofs.OfKind.{IsDeedOf, OfAsked, asked_holds, finishes}

-- ---- which statement comes to which deed

-- only an end finishes
abbrev pub Finishes : Kind → Deed → Type 0
Finishes k finish = IsEnding k
Finishes k d = ⊤

abbrev pub FinishesIf : Kind → Asked Deed → Type 0
FinishesIf k = OfAsked (Finishes k)

deed_finishes : (k : Kind) (d : Deed) → IsDeedOf k d → Finishes k d
deed_finishes k d finishes = tt
deed_finishes k d is = tt

pub finishing : (es : List Expr) (k : Kind) (cells answers : List ℤ) → FinishesIf k (ask_deed es k cells answers)
finishing es k cells answers = asked_holds es cells answers (Finishes k) k (deed_finishes k)

-- a deed other than a loop's is of no loop
pub no_loop : (es : List Expr) (k : Kind) (cells answers : List ℤ) (d : Deed) (left : List ℤ) → ask_deed es k cells answers ≡ Ok (d, left) → ((body : List ℕ) → IsLoopDeed body d → ⊥) → is_while k ≡ false
no_loop es (kind.While e body) cells answers d left at other = absurd (other body (subst (DoesLoop body) at (loop_deed es e body cells answers)))
no_loop es k cells answers d left at other = refl

pub while_block : (plan : Plan) (s : ℕ) (k : Kind) → is_while k ≡ false → loop_of plan s k ≡ None
while_block plan s (kind.While e body) isnt = absurd (true≢false isnt)
while_block plan s k isnt = refl

pub loop_is : (plan : Plan) (s : ℕ) (k : Kind) → is_while k ≡ true → loop_of plan s k ≡ block_of plan (block.Loop s)
loop_is plan s (kind.While e body) w = refl
loop_is plan s k w = absurd (true≢false (sym w))

pub while_stays : (k : Kind) → is_while k ≡ true → returns k ≡ false
while_stays (kind.While e body) w = refl
while_stays k w = absurd (true≢false (sym w))

-- a loop that is a block is a loop
pub found_while : (plan : Plan) (s : ℕ) (k : Kind) (b : ℕ) → loop_of plan s k ≡ Some b → is_while k ≡ true
found_while plan s (kind.While e body) b e' = refl
found_while plan s k b e = absurd (none-some b e)

pub return_no_loop : (k : Kind) → returns k ≡ true → is_while k ≡ false
return_no_loop (kind.While e body) r = absurd (true≢false (sym r))
return_no_loop k r = refl

pub send_is : (k : Kind) (c : ℕ) → chan_of k ≡ Some c → (is_while k ≡ false) × (returns k ≡ false)
send_is (kind.Send chan e) c h = (refl, refl)
send_is k c h = absurd (none-some c h)
