-- A replay ends by a turn of its own, since each turn that goes on is paid for.
use Rattle.std.proofs.Common.{◌≡◌, ℕ, zero, suc, ◌+◌, ◌<◌, ◌≤◌, Bool, true, false, refl, subst, sym, arith, if◌then◌else◌}
use Rattle.ppd_ast.specs.declared.plan.Plan.{Plan}
use Rattle.ppd_ast.specs.declared.program.Program.{Program}
use Rattle.ppd_model.specs.Pieces.{Piece, unit, sync, nested, unfinished, postlog, finish}
use Rattle.ppd_sem.specs.Blocks.{block_kind, block_unit}
use Rattle.ppd_sem.specs.declared.proc.Proc.{Proc}
use Rattle.ppd_model.specs.declared.wanted.Wanted.TheVariants as wanted
use Rattle.ppd_model.specs.Ending.{IsEndedBy, now, later, IsOverBy, ReplaysEndByTurns, TurnsEnd}
use Rattle.ppd_model.specs.Fits.{fits, found_of}
use Rattle.ppd_model.specs.ReplayLaws.{TakesOneStep}
use Rattle.ppd_model.specs.Replay.{Replaying, Turn, more, done, begun_replay, fail, go_on, next_piece, replay_from, turn, unit_taken}
use Rattle.ppd_model.proofs.Turns.{turns_are_steps}

module _ (program : Program) (plan : Plan) where
  Ends : ℕ → Type 0
  Ends turns = (r : Replaying) → r.proc.spent ≤ r.proc.budget → r.proc.budget < r.proc.spent + turns → IsEndedBy program plan r (replay_from program plan turns r)

  one_turn : (turns : ℕ) → Ends turns → (r : Replaying) → r.proc.budget < r.proc.spent + suc turns → (t : Turn) → turn program plan r ≡ t → TakesOneStep r t
      → IsEndedBy program plan r (go_on t (replay_from program plan turns))
  unfolding Ends
  one_turn turns after r few (done x) e one = now e
  one_turn turns after r few (more next) e one =
      let same : next.proc.budget ≡ r.proc.budget = one.budget in
      let spent : r.proc.spent < next.proc.spent = one.paid in
      later e (after next one.within (omega (arith, few, same, spent)))

  ends : (turns : ℕ) → Ends turns
  unfolding Ends
  ends zero r paid few = let none : ⊥ = omega (arith, paid, few) in absurd none
  ends (suc turns) r paid few = one_turn turns (ends turns) r few (turn program plan r) refl (turns_are_steps program plan r)

  -- the first unit is no step
  first_unit : (u : ℕ) (piece : Piece) (r : Replaying) → (unit_taken plan u piece r).proc ≡ r.proc
  first_unit u (unit v values) r = refl
  first_unit u (sync kind object number value) r = refl
  first_unit u (nested k b values) r = refl
  first_unit u (unfinished k b) r = refl
  first_unit u (postlog values) r = refl
  first_unit u (finish how rest) r = refl

  begins : (turns u : ℕ) (r : Replaying) (ok : Bool) → r.proc.spent ≤ r.proc.budget → r.proc.budget < r.proc.spent + turns
      → IsOverBy program plan (if ok then more (unit_taken plan u (next_piece r).1 r) else fail r (wanted.Unit u)) (go_on (if ok then more (unit_taken plan u (next_piece r).1 r) else fail r (wanted.Unit u)) (replay_from program plan turns))
  unfolding Ends
  begins turns u r false paid few = refl
  begins turns u r true paid few =
      let q : Replaying = unit_taken plan u (next_piece r).1 r in
      let same : q.proc ≡ r.proc = first_unit u (next_piece r).1 r in
      ends turns q (subst (λ (s : Proc). s.spent ≤ s.budget) (sym same) paid) (subst (λ (s : Proc). s.budget < s.spent + turns) (sym same) few)

pub turns_end : TurnsEnd
unfolding Ends
turns_end program plan turns r paid few = ends program plan turns r paid few

pub replays_end : ReplaysEndByTurns
replays_end program plan l budget =
    let u : ℕ = block_unit plan (block_kind plan l.block) in
    let r : Replaying = begun_replay program plan l budget in
    begins program plan (budget + 1) u r (fits (wanted.Unit u) (found_of (next_piece r).1)) (omega arith) (omega arith)
