use Rattle.std.proofs.Common.{◌≡◌, [], arith, drop, None, Some, Ok, Err, List, ℕ, reverse, sym, subst, refl}
use Rattle.std.proofs.lemmas.List.{drop_all, length-reverse}
use Rattle.std.proofs.lemmas.Result.{err_from_is_err_and}
use Rattle.ppd_flow_local.specs.Searches.{IsFound}
use Rattle.ppd_flow_local.proofs.Joined.{nothing}
use Rattle.ppd_flow_local.proofs.Loops.{ends_loop, fails_loop, found_in, next_loop}
use Rattle.ppd_flow_local.proofs.search.Search.in_loops.Goals as goal

pub returns-in-Some : goal.returns-in-Some
returns-in-Some g c =
    c.loop-place.invariant c.in_loop.new.steps (Ok (Some c.in-Some.origin))
    (ends_loop c.args.self.now c.args.cell (reverse c.args.loops.now) c.loop-place.place c.loop_at.result c.loop-place.steps c.in_loop.new.steps c.loop_at.ensures c.in-Some.origin (rw c.in-Some.is at c.in_ok-in_loop.ensures))

pub returns-in_err-in_loop : goal.returns-in_err-in_loop
returns-in_err-in_loop g c =
    let e = err_from_is_err_and c.from_residual.result c.from_residual.ensures.1 in
    rw (e.1, e.2) (c.loop-place.invariant c.in_loop.new.steps (Err c.in_err-in_loop.field-0.0)
    (fails_loop c.args.self.now c.args.cell (reverse c.args.loops.now) c.loop-place.place c.loop_at.result c.loop-place.steps c.in_loop.new.steps c.loop_at.ensures c.in_err-in_loop.field-0.0 c.in_err-in_loop.ensures))

pub loop-place-preserved : goal.loop-place-preserved
loop-place-preserved g c = λ o r f.
    c.loop-place.invariant o r
    (next_loop c.args.self.now c.args.cell (reverse c.args.loops.now) c.loop-place.place c.loop_at.result c.loop-place.steps c.in_loop.new.steps c.loop_at.ensures o r (rw c.in-None.is at c.in_ok-in_loop.ensures) f)

pub returns : goal.returns
returns g c =
    let none : drop c.loop-place.place (reverse c.args.loops.now) ≡ [] = drop_all c.loop-place.place (reverse c.args.loops.now) (omega (arith, c.loop-place-test.false, length-reverse c.args.loops.now)) in
    c.loop-place.invariant c.loop-place.steps (Ok None)
    (subst (λ (ms : List ℕ). IsFound c.args.self.now (found_in c.args.self.now c.args.cell ms) c.loop-place.steps c.loop-place.steps (Ok None)) (sym none)
    (nothing c.args.self.now None None c.loop-place.steps refl))
