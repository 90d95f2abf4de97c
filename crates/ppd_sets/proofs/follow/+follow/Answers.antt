use Rattle.std.proofs.Common.{◌∙◌, sym, ap, None}
use Rattle.ppd_ast.specs.Lookups.{kind_of}
use Rattle.ppd_sets.specs.Flow.{follow_within, next_in}
use Rattle.ppd_sets.proofs.Depths.{follow_deep, follow_none, follow_top, follow_some}
use Rattle.ppd_sets.proofs.follow.+follow.Goals as goal

pub returns-then-depth-eq0 : goal.returns-then-depth-eq0
returns-then-depth-eq0 t c = sym (follow_deep c.args.depth c.args.program.now c.args.stmt c.if-depth-eq0.true)

pub returns-in-None : goal.returns-in-None
returns-in-None t c = sym (follow_none c.args.depth c.args.program.now c.args.stmt c.if-depth-eq0.false (sym c.in-None.ensures.value))

pub returns-in-None-parent : goal.returns-in-None-parent
returns-in-None-parent t c =
    c.next_in_list.ensures ∙ ap (λ xs. next_in xs c.args.stmt None) c.top.ensures
    ∙ sym (follow_top c.args.depth c.args.program.now c.args.stmt c.in-Some.found.now c.if-depth-eq0.false (sym c.in-Some.ensures.value) c.in-None-parent.is)

pub returns-in-Some-parent : goal.returns-in-Some-parent
returns-in-Some-parent t c =
    let q = c.in-Some-parent.outer in
    c.follow_inside.ensures ∙ ap (follow_within q (kind_of c.args.program.now q) c.args.stmt) c.follow-after.ensures
    ∙ sym (follow_some c.args.depth c.args.program.now c.args.stmt q c.in-Some.found.now c.if-depth-eq0.false (sym c.in-Some.ensures.value) c.in-Some-parent.is)
