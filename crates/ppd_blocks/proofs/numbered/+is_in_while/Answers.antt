use Rattle.std.proofs.Common.{true, false, ◌≡◌, ◌∙◌, sym, ap, Option, Some, None, ◌-◌}
use Rattle.std.specs.Prelude.{slice_get, ◌||◌}
use Rattle.ppd_ast.specs.declared.program.Stmt.{Stmt}
use Rattle.ppd_ast.specs.Numbered.{in_while, is_while}
use Rattle.ppd_ast.proofs.Vocabulary.{while_or}
use Rattle.ppd_ast.proofs.Walks.{got_some, got_none}
use Rattle.ppd_ast.proofs.Whiles.{in_while_deep, in_while_top, in_while_some}
use Rattle.ppd_blocks.proofs.numbered.+is_in_while.Goals as goal

pub returns-then-depth-eq0 : goal.returns-then-depth-eq0
returns-then-depth-eq0 t c = sym (in_while_deep c.args.depth c.args.stmts.now c.args.parent c.if-depth-eq0.true)

pub returns-in-None : goal.returns-in-None
returns-in-None t c = sym (ap (in_while c.args.depth c.args.stmts.now) c.in-None.is ∙ in_while_top c.args.depth c.args.stmts.now)

pub returns-in-None-get : goal.returns-in-None-get
returns-in-None-get t c =
    let none : slice_get c.args.stmts.now c.in-Some.number ≡ None = got_none _ _ c.in-None-get.ensures.lookup.3 in
    sym (ap (in_while c.args.depth c.args.stmts.now) c.in-Some.is ∙ in_while_some c.args.depth c.args.stmts.now c.in-Some.number c.if-depth-eq0.false
    ∙ ap (λ (o : Option Stmt). while_or (in_while (c.args.depth - 1) c.args.stmts.now) o) none)

pub returns-then-is_while : goal.returns-then-is_while
returns-then-is_while t c =
    let further = in_while (c.args.depth - 1) c.args.stmts.now in
    let is : slice_get c.args.stmts.now c.in-Some.number ≡ Some c.in-Some-get.stmt.now = got_some _ _ _ c.in-Some-get.ensures.lookup.3.0 c.in-Some-get.ensures.lookup.1 in
    let one : is_while c.in-Some-get.stmt.now.kind ≡ true = sym c.is_while.ensures ∙ c.if-is_while.true in
    c.if-is_while.true ∙ sym (ap (in_while c.args.depth c.args.stmts.now) c.in-Some.is ∙ in_while_some c.args.depth c.args.stmts.now c.in-Some.number c.if-depth-eq0.false
    ∙ ap (λ (o : Option Stmt). while_or further o) is ∙ ap (λ b. b || further c.in-Some-get.stmt.now.parent) one)

pub returns-else-is_while : goal.returns-else-is_while
returns-else-is_while t c =
    let further = in_while (c.args.depth - 1) c.args.stmts.now in
    let is : slice_get c.args.stmts.now c.in-Some.number ≡ Some c.in-Some-get.stmt.now = got_some _ _ _ c.in-Some-get.ensures.lookup.3.0 c.in-Some-get.ensures.lookup.1 in
    let none : is_while c.in-Some-get.stmt.now.kind ≡ false = sym c.is_while.ensures ∙ c.if-is_while.false in
    c.is_in_while.ensures ∙ sym (ap (in_while c.args.depth c.args.stmts.now) c.in-Some.is ∙ in_while_some c.args.depth c.args.stmts.now c.in-Some.number c.if-depth-eq0.false
    ∙ ap (λ (o : Option Stmt). while_or further o) is ∙ ap (λ b. b || further c.in-Some-get.stmt.now.parent) none)
