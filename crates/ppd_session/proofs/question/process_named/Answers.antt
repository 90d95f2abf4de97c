use Rattle.std.specs.Str.{bytes_eq}
use Rattle.std.proofs.Common.{◌≡◌, arith, get_or, sym, subst, true, rules}
use Rattle.ppd_ast.specs.declared.program.Body.{Body}
use Rattle.ppd_session.proofs.Positions.{position_here, position_none}
use Rattle.ppd_session.proofs.question.process_named.Goals as goal
use Rattle.std.proofs.lemmas.Grind.{common_steps, elements}

pub returns-then-eq : goal.returns-then-eq
returns-then-eq c =
    let d = c.index-bodies-number.result in
    let bodies = c.process_bodies-bodies.result.now in
    let passes : (λ (b : Body). bytes_eq b.name c.args.name.now) d ≡ true = cc in
    let at : bytes_eq (get_or bodies c.loop-number.number d).name c.args.name.now ≡ true = subst (λ (b : Body). bytes_eq b.name c.args.name.now ≡ true) c.index-bodies-number.is passes in
    rw (← c.process_bodies-bodies.ensures) (sym (position_here (λ (b : Body). bytes_eq b.name c.args.name.now) bodies c.loop-number.number d (omega arith) (λ k lt. c.loop-number.invariant k d lt) at))

pub returns : goal.returns
returns c =
    let bodies = c.process_bodies-bodies.result.now in
    rw (← c.process_bodies-bodies.ensures) (sym (position_none (λ (b : Body). bytes_eq b.name c.args.name.now) bodies (λ k d lt. c.loop-number.invariant k d (omega arith))))

pub as_slice-requires : goal.as_slice-requires
as_slice-requires c = search rules depth 1 fits 30

pub eq-requires : goal.eq-requires
eq-requires c = search rules depth 1 fits 30

pub loop-number-init : goal.loop-number-init
loop-number-init c = search rules depth 1 fits 30

pub loop-number-preserved : goal.loop-number-preserved
loop-number-preserved c = grind (arith, elements) steps 250000

pub loop-number-smaller : goal.loop-number-smaller
loop-number-smaller c = search rules depth 1 fits 30

pub overflow_cast-result : goal.overflow_cast-result
overflow_cast-result c = grind (arith, common_steps) steps 250000

pub process_bodies-bodies-requires : goal.process_bodies-bodies-requires
process_bodies-bodies-requires c = search rules depth 1 fits 30
