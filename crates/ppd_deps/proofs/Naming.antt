-- The variables that statements read and write.
use Rattle.std.proofs.Common.{◌≡◌, ℕ, ◌≤◌, List, [], Bool, Option, Some, None, get_or, refl, sym, ap, ◌∙◌, subst, arith}
use Rattle.std.specs.Prelude.{slice_get}
use Rattle.ppd_ast.specs.declared.program.Body.{Body}
use Rattle.ppd_ast.specs.declared.program.Program.{Program}
use Rattle.ppd_ast.specs.declared.program.Stmt.{Stmt}
use Rattle.ppd_ast.specs.declared.program.Var.{Var}
use Rattle.ppd_ast.specs.Cells.{after}
use Rattle.ppd_ast.specs.Valid.{IsValid}
use Rattle.ppd_ast.proofs.ValidLaws.{valid_body}
use Rattle.ppd_ast.proofs.Vocabulary.{locals_of_body}
use Rattle.ppd_ast.proofs.Vocabulary.{kind_of_stmt}
use Rattle.ppd_sets.specs.Gained.{Gains, HasCells}
use Rattle.ppd_sets.specs.Named.{reads, writes}
use Rattle.ppd_sets.specs.Used.{AreSmall, reads_at, vars_met, writes_at}
use Rattle.ppd_sets.proofs.Gaining.{gains_as, gains_none}
use Rattle.ppd_sets.proofs.Meeting.{vars_same}
use Rattle.ppd_ast.specs.Lookups.{body_numbered}

-- ---- cells

pub reads_past : (a : List ℕ) (w : Bool) (p : Program) (s : ℕ) → slice_get p.stmts s ≡ None → Gains a a (reads_at w p s)
reads_past a w p s at = gains_as [] (reads_at w p s) (sym (ap (λ (o : Option Stmt). reads w p.exprs (kind_of_stmt o)) at)) (gains_none a)

pub writes_past : (a : List ℕ) (w : Bool) (p : Program) (s : ℕ) → slice_get p.stmts s ≡ None → Gains a a (writes_at w p s)
writes_past a w p s at = gains_as [] (writes_at w p s) (sym (ap (λ (o : Option Stmt). writes w (kind_of_stmt o)) at)) (gains_none a)

pub all_gained : (old new cells : List ℕ) → old ≡ [] → Gains old new cells → HasCells new cells
all_gained old new cells e g = let h : Gains [] new cells = subst (λ xs. Gains xs new cells) e g in record { each = h.each }

-- ---- variables

local_small : (p : Program) (b : ℕ) (o : Option Body) → IsValid p → slice_get p.bodies b ≡ o → AreSmall (locals_of_body o)
local_small p b None v at = λ k d h. absurd (omega arith)
local_small p b (Some x) v at = λ k d h.
    let body = valid_body p b x v at in
    let within : after (get_or x.locals k d) ≤ x.cells = body.cells.within k d h in
    let few = body.frame in
    omega (arith, within, few)

pub locals_small : (p : Program) (b : ℕ) → IsValid p → AreSmall (body_numbered p b).locals
locals_small p b v = local_small p b (slice_get p.bodies b) v refl

-- the variables of the right cells
pub met_as : (vars : List Var) (set cells list : List ℕ) → AreSmall vars → HasCells set cells → list ≡ vars_met vars set → list ≡ vars_met vars cells
met_as vars set cells list small same is = is ∙ vars_same set cells vars small same
