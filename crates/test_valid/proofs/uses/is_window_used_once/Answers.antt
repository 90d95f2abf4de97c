use Rattle.std.proofs.Common.{◌≡◌, ℕ, ◌+◌, ◌-◌, ◌<◌, get_or, replicate, arith, refl, subst}
use Rattle.std.specs.List.{flat_map}
use Rattle.std.proofs.lemmas.List.{get_or-replicate, length-replicate}
use Rattle.ppd_ast.specs.Tally.{IsOnce}
use Rattle.ppd_ast.specs.Uses.{children, stmt_uses, uses_of}
use Rattle.test_valid.proofs.Tallies.{window_once}
use Rattle.test_valid.proofs.uses.is_window_used_once.Goals as goal
use Rattle.test_valid.proofs.uses.is_window_used_once.Goals.{After-tally_stmts}

once : (c : After-tally_stmts) (j : ℕ) → j < 65536
    → (get_or c.tally_stmts.new.marks j 0 ≡ 1 → IsOnce (uses_of c.args.exprs.now c.args.stmts.now) (c.args.start + j))
    × (IsOnce (uses_of c.args.exprs.now c.args.stmts.now) (c.args.start + j) → get_or c.tally_stmts.new.marks j 0 ≡ 1)
once c j h =
    window_once c.args.start 65536 (replicate 65536 0) c.tally_exprs.new.marks c.tally_stmts.new.marks (flat_map children c.args.exprs.now) (flat_map stmt_uses c.args.stmts.now)
    (λ i b. get_or-replicate 65536 i 0 0 b) (length-replicate {A = ℕ} 65536 0) c.tally_exprs.ensures c.tally_stmts.ensures j h

pub returns-then-marks-place-ne1 : goal.returns-then-marks-place-ne1
returns-then-marks-place-ne1 c = (
  λ e. cc,
  λ h.
      let inside : c.loop-place.place < 65536 = c.loop-place-test.true in
      let one : get_or c.tally_stmts.new.marks c.loop-place.place 0 ≡ 1 = (once (goal.at.returns-then-marks-place-ne1 c).After-tally_stmts c.loop-place.place inside).1 (h (c.args.start + c.loop-place.place) (omega arith) (omega arith) (omega arith)) in
      absurd (c.if-marks-place-ne1.true one),
)

pub returns : goal.returns
returns c = (
  λ e n low high inside.
      let j = n - c.args.start in
      let same : c.args.start + j ≡ n = omega arith in
      let place : j < 65536 = omega arith in
      let mark : get_or c.tally_stmts.new.marks j 0 ≡ 1 = c.loop-place.invariant j (omega arith) (omega arith) in
      subst (λ k. IsOnce (uses_of c.args.exprs.now c.args.stmts.now) k) same ((once (goal.at.returns c).After-tally_stmts j place).0 mark),
  λ h. refl,
)
