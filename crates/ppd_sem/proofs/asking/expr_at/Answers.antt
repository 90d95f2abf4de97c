use Rattle.std.proofs.Common.{pos, refl, subst}
use Rattle.ppd_ast.specs.declared.program.Expr.TheVariants.{Const}
use Rattle.ppd_ast.proofs.Terms.{term_read}
use Rattle.ppd_sem.specs.Within.{IsWithin}
use Rattle.ppd_sem.proofs.asking.expr_at.Goals as goal

pub returns-clause-is : goal.returns-clause-is
returns-clause-is c = term_read c.args.exprs.now c.args.at (Const (pos 0)) _ c.requires.children c.requires.at_in refl

pub returns-clause-within : goal.returns-clause-within
returns-clause-within c = λ n w.
    subst (IsWithin n) (term_read c.args.exprs.now c.args.at (Const (pos 0)) _ c.requires.children c.requires.at_in refl) w
