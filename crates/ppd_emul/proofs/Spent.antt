-- Each turn of a replay that goes on takes one step, and none takes a step back.
use Rattle.std.proofs.Common.{◌≡◌, ◌+◌, ◌≤◌, inl, inr, sym, subst, arith}
use Rattle.ppd_ast.specs.declared.plan.Plan.{Plan}
use Rattle.ppd_ast.specs.declared.program.Program.{Program}
use Rattle.ppd_model.specs.ReplayLaws.{IsLast, TakesOneStep}
use Rattle.ppd_model.specs.Replay.{Replayed, Replaying, Turn, done, more, turn}
use Rattle.ppd_model.proofs.Turns.{turns_are_steps}

pub one_more : (program : Program) (plan : Plan) (r next : Replaying) → more next ≡ turn program plan r → next.steps ≡ r.steps + 1
one_more program plan r next e =
    (subst (λ (t : Turn). TakesOneStep r t) (sym e) (turns_are_steps program plan r)).steps

not_less : (r : Replaying) (x : Replayed) → IsLast r x → r.steps ≤ x.steps
not_less r x (inl one) = let counts : x.steps ≡ r.steps + 1 = one.0 in omega arith
not_less r x (inr none) = let counts : x.steps ≡ r.steps = none in omega arith

pub none_back : (program : Program) (plan : Plan) (r : Replaying) (x : Replayed) → done x ≡ turn program plan r → r.steps ≤ x.steps
none_back program plan r x e = not_less r x (subst (λ (t : Turn). TakesOneStep r t) (sym e) (turns_are_steps program plan r))
