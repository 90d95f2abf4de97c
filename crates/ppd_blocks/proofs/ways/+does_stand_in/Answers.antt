use Rattle.std.proofs.Common.{◌∙◌, sym, ap, ◌-◌}
use Rattle.std.specs.Prelude.{◌||◌, slice_get, option_and_then}
use Rattle.std.proofs.lemmas.Bool.{eq-eqb, ne_eqb}
use Rattle.ppd_blocks.specs.Walk.{stands_at}
use Rattle.ppd_blocks.proofs.Staying.{stands_deep, stands_none, stands_some}
use Rattle.ppd_blocks.proofs.ways.+does_stand_in.Goals as goal

pub returns-then-depth-eq0 : goal.returns-then-depth-eq0
returns-then-depth-eq0 t c = sym (stands_deep c.args.depth c.args.stmts.now c.args.outer c.args.stmt c.if-depth-eq0.true)

pub returns-then-number-outer : goal.returns-then-number-outer
returns-then-number-outer t c =
    sym (ap (stands_at c.args.depth c.args.stmts.now c.args.outer) c.in-Some.is ∙ stands_some c.args.depth c.args.stmts.now c.args.outer c.in-Some.number c.if-depth-eq0.false
    ∙ ap (λ b. b || stands_at (c.args.depth - 1) c.args.stmts.now c.args.outer (option_and_then (λ x. x.parent) (slice_get c.args.stmts.now c.in-Some.number))) (eq-eqb c.in-Some.number c.args.outer c.if-number-outer.true))

pub returns-in-None : goal.returns-in-None
returns-in-None t c = sym (ap (stands_at c.args.depth c.args.stmts.now c.args.outer) c.in-None.is ∙ stands_none c.args.depth c.args.stmts.now c.args.outer)

pub returns-else-number-outer : goal.returns-else-number-outer
returns-else-number-outer t c =
    c.does_stand_in.ensures ∙ ap (stands_at (c.args.depth - 1) c.args.stmts.now c.args.outer) c.parent.ensures
    ∙ sym (ap (stands_at c.args.depth c.args.stmts.now c.args.outer) c.in-Some.is ∙ stands_some c.args.depth c.args.stmts.now c.args.outer c.in-Some.number c.if-depth-eq0.false
    ∙ ap (λ b. b || stands_at (c.args.depth - 1) c.args.stmts.now c.args.outer (option_and_then (λ x. x.parent) (slice_get c.args.stmts.now c.in-Some.number))) (ne_eqb c.in-Some.number c.args.outer c.if-number-outer.false))
