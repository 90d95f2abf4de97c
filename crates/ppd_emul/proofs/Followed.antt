-- What the parts of a replay do is what the definition says.
use Rattle.std.proofs.Common.{◌≡◌, ℕ, suc, [], ap, sym, ◌∙◌}
use Rattle.ppd_ast.specs.declared.plan.Plan.{Plan}
use Rattle.ppd_ast.specs.declared.program.Program.{Program}
use Rattle.ppd_model.specs.Replay.{Replaying, Replayed, more, done, go_on, replay_from, turn}
use Rattle.ppd_model.specs.declared.block_trace.EmulError.{EmulError}
use Rattle.ppd_model.specs.declared.block_trace.EmulError.TheVariants.{Diverged, Memory}
use Rattle.ppd_emul_values.specs.Emulated.{IfFailed}

-- ---- turns

pub more_next : (program : Program) (plan : Plan) (n m : ℕ) (r next : Replaying) → n ≡ suc m → more next ≡ turn program plan r
    → replay_from program plan n r ≡ replay_from program plan m next
more_next program plan n m r next e h =
    ap (λ k. replay_from program plan k r) e ∙ ap (λ t. go_on t (replay_from program plan m)) (sym h)

pub done_now : (program : Program) (plan : Plan) (n m : ℕ) (r : Replaying) (x : Replayed) → n ≡ suc m → done x ≡ turn program plan r
    → replay_from program plan n r ≡ x
done_now program plan n m r x e h =
    ap (λ k. replay_from program plan k r) e ∙ ap (λ t. go_on t (replay_from program plan m)) (sym h)

-- what follows for a failure
pub failed_so : (e : EmulError) (P Q : Type 0) → (P → Q) → IfFailed e P → IfFailed e Q
failed_so (Diverged n w f) P Q g h = g h
failed_so Memory P Q g h = tt
