-- Each step of a replay adds at most two items.
use Rattle.std.proofs.Common.{◌≡◌, ℕ, zero, suc, ◌+◌, ◌*◌, ◌≤◌, Bool, true, false, Result, Ok, Err, sym, subst, arith, length, if◌then◌else◌}
use Rattle.ppd_ast.specs.declared.plan.Plan.{Plan}
use Rattle.ppd_ast.specs.declared.program.Program.{Program}
use Rattle.ppd_model.specs.IntervalLogs.{IntervalLog}
use Rattle.ppd_model.specs.Pieces.{Piece, unit, sync, nested, unfinished, postlog, finish}
use Rattle.ppd_sem.specs.Blocks.{block_kind, block_unit}
use Rattle.ppd_model.specs.declared.block_trace.BlockTrace.{BlockTrace}
use Rattle.ppd_model.specs.declared.block_trace.EmulError.{EmulError}
use Rattle.ppd_model.specs.declared.wanted.Wanted.TheVariants as wanted
use Rattle.ppd_model.specs.Fits.{found_of, fits}
use Rattle.ppd_model.specs.ReplayLaws.{TakesOneStep}
use Rattle.ppd_model.specs.Replay.{Replaying, Replayed, Turn, more, done, begun_replay, fail, go_on, next_piece, replay, replay_from, turn, unit_taken}
use Rattle.ppd_model.proofs.Turns.{turns_are_steps}
use Rattle.ppd_emul_values.specs.Emulated.{IfTold}
use Rattle.ppd_emul.specs.Spending.{HasFewItems}
use Rattle.ppd_emul.proofs.Grown.{Few, Grows, turn_grows}

module _ (program : Program) (plan : Plan) where
  -- ---- all turns

  -- by an answer after one step that added at most two items
  few_after : (steps items now more_items after : ℕ) (answer : Result BlockTrace EmulError) → now ≡ steps + 1 → more_items ≤ items + 2 → Few now more_items after answer → Few steps items after answer
  few_after steps items now more_items after (Ok t) one few h =
      let all : length t.items + 2 * now ≤ more_items + 2 * after = h in
      omega arith
  few_after steps items now more_items after (Err e) one few h = tt

  few_by : (r : Replaying) (rest : Replaying → Replayed) → ((next : Replaying) → Few next.steps (length next.items) (rest next).steps (rest next).answer)
      → (t : Turn) → TakesOneStep r t → Grows r t → Few r.steps (length r.items) (go_on t rest).steps (go_on t rest).answer
  few_by r rest few (more next) one grows = few_after r.steps (length r.items) next.steps (length next.items) (rest next).steps (rest next).answer one.steps grows (few next)
  few_by r rest few (done x) one grows = grows

  few_from : (turns : ℕ) (r : Replaying) → Few r.steps (length r.items) (replay_from program plan turns r).steps (replay_from program plan turns r).answer
  few_from zero r = tt
  few_from (suc turns) r = few_by r (replay_from program plan turns) (few_from turns) (turn program plan r) (turns_are_steps program plan r) (turn_grows program plan r)

  -- the first unit adds no item and counts no step
  few_begun : (turns u : ℕ) (piece : Piece) (r : Replaying) → Few r.steps (length r.items) (replay_from program plan turns (unit_taken plan u piece r)).steps (replay_from program plan turns (unit_taken plan u piece r)).answer
  few_begun turns u (unit v values) r = few_from turns (unit_taken plan u (unit v values) r)
  few_begun turns u (sync kind object number value) r = few_from turns r
  few_begun turns u (nested k b values) r = few_from turns r
  few_begun turns u (unfinished k b) r = few_from turns r
  few_begun turns u (postlog values) r = few_from turns r
  few_begun turns u (finish how rest) r = few_from turns r

  begun_by : (turns u : ℕ) (r : Replaying) (ok : Bool) → let t = if ok then more (unit_taken plan u (next_piece r).1 r) else fail r (wanted.Unit u) in
      Few r.steps (length r.items) (go_on t (replay_from program plan turns)).steps (go_on t (replay_from program plan turns)).answer
  begun_by turns u r true = few_begun turns u (next_piece r).1 r
  begun_by turns u r false = tt

  pub few_items : (l : IntervalLog) (budget : ℕ) → Few 0 0 (replay program plan l budget).steps (replay program plan l budget).answer
  few_items l budget =
      let u : ℕ = block_unit plan (block_kind plan l.block) in
      let r : Replaying = begun_replay program plan l budget in
      begun_by (budget + 1) u r (fits (wanted.Unit u) (found_of (next_piece r).1))

-- ---- in a call's clauses

few_told : (x : Replayed) (before after : ℕ) (t : BlockTrace) → Few 0 0 x.steps x.answer → Ok t ≡ x.answer → after ≡ before + x.steps → length t.items + 2 * before ≤ 2 * after
few_told x before after t few e counted =
    let all : length t.items + 2 * 0 ≤ 0 + 2 * x.steps = subst (λ (a : Result BlockTrace EmulError). Few 0 0 x.steps a) (sym e) few in
    omega arith

pub has_few : (program : Program) (plan : Plan) (l : IntervalLog) (budget before after : ℕ) (r : Result BlockTrace EmulError)
    → IfTold r (r ≡ (replay program plan l budget).answer) → IfTold r (after ≡ before + (replay program plan l budget).steps) → HasFewItems before after r
has_few program plan l budget before after (Ok t) told counted = few_told (replay program plan l budget) before after t (few_items program plan l budget) told counted
has_few program plan l budget before after (Err e) told counted = tt
