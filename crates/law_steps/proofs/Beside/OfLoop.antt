-- Only a loop's test leaves a loop or begins a turn.
use Rattle.std.proofs.Common.{[], ℤ, List}
use Rattle.std.specs.Prelude.{⊤}
use Rattle.ppd_ast.specs.declared.program.Kind.{Kind}
use Rattle.ppd_ast.specs.declared.program.Kind.TheVariants as kind
use Rattle.ppd_ast.specs.declared.program.Expr.{Expr}
use Rattle.ppd_sem.specs.Deed.{ask_deed}
use Rattle.ppd_sem.specs.Deed.{Deed, turn, leave}
use Rattle.ppd_sem.proofs.OfKind.{IsDeedOf, asked_holds, leaves}
use Rattle.law_steps.proofs.Vocabulary.Relation.{Yields}
use Rattle.law_steps.specs.Beside.Opens.{IsWhile}

-- a loop's test leaves it or begins a turn, and no other statement does
abbrev pub IsOfLoop : Kind → Deed → Type 0
IsOfLoop (kind.While e body) leave = ⊤
IsOfLoop (kind.While e body) (turn stmts) = ⊤
IsOfLoop (kind.While e body) d = ⊥
IsOfLoop k leave = ⊥
IsOfLoop k (turn stmts) = ⊥
IsOfLoop k d = ⊤

deed_of_loop : (k : Kind) (d : Deed) → IsDeedOf k d → IsOfLoop k d
deed_of_loop k d leaves = tt
deed_of_loop k d is = tt

pub of_loop : (es : List Expr) (k : Kind) (cells answers : List ℤ) → Yields (IsOfLoop k) (ask_deed es k cells answers)
of_loop es k cells answers = asked_holds es cells answers (IsOfLoop k) k (deed_of_loop k)

-- of a loop's statement alone
pub only_loop : (k : Kind) (d : Deed) → IsWhile k → IsOfLoop k d → IsOfLoop (kind.While 0 []) d
only_loop (kind.While e body) leave w h = tt
only_loop (kind.While e body) (turn stmts) w h = tt
only_loop (kind.While e body) d w h = absurd h
only_loop k d w h = absurd w
