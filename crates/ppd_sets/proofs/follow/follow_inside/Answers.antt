use Rattle.std.proofs.Common.{◌≡◌, ◌∙◌, ap, sym, true, false}
use Rattle.ppd_ast.specs.Members.{has}
use Rattle.ppd_ast.specs.Lookups.{kind_of}
use Rattle.ppd_ast.proofs.Vocabulary.{kind_of_stmt}
use Rattle.ppd_ast.specs.declared.program.Kind.TheVariants as K
use Rattle.ppd_sets.specs.Flow.{next_in}
use Rattle.ppd_sets.proofs.follow.follow_inside.Goals as goal

pub returns-then-contains : goal.returns-then-contains
returns-then-contains c =
    let stmt = c.args.stmt in
    let is : kind_of c.args.program.now c.args.outer ≡ K.If c.in-If.field-0 c.in-If.yes c.in-If.no =
    ap kind_of_stmt (sym c.in-Some.ensures.value) ∙ c.in-If.is in
    let test : has c.in-If.yes stmt ≡ true =
    ap (λ l. has l stmt) (sym c.as_slice.ensures) ∙ sym c.contains.ensures.value ∙ c.if-contains.true in
    rw is (rw test (c.next_in_list.ensures ∙ ap (λ l. next_in l stmt c.args.after) c.as_slice-then-contains.ensures))

pub returns-else-contains : goal.returns-else-contains
returns-else-contains c =
    let stmt = c.args.stmt in
    let is : kind_of c.args.program.now c.args.outer ≡ K.If c.in-If.field-0 c.in-If.yes c.in-If.no =
    ap kind_of_stmt (sym c.in-Some.ensures.value) ∙ c.in-If.is in
    let test : has c.in-If.yes stmt ≡ false =
    ap (λ l. has l stmt) (sym c.as_slice.ensures) ∙ sym c.contains.ensures.value ∙ c.if-contains.false in
    rw is (rw test (c.next_in_list-else-contains.ensures ∙ ap (λ l. next_in l stmt c.args.after) c.as_slice-else-contains.ensures))
