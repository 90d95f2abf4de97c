use Rattle.std.proofs.Common.{◌≡◌, ◌≤◌, suc, ap, arith, Option, Some, None, ◌+◌, ◌-◌, length, take, get_or}
use Rattle.std.specs.Prelude.{slice_get}
use Rattle.std.specs.List.{flat_map}
use Rattle.ppd_ast.specs.declared.program.Stmt.{Stmt}
use Rattle.ppd_ast.specs.Order.{preorder, inner}
use Rattle.ppd_ast.proofs.Vocabulary.{inner_of, inner_at}
use Rattle.ppd_ast.proofs.Walks.{got_some, got_none}
use Rattle.ppd_ast.proofs.Countings.{preorder_none}
use Rattle.ppd_ast.proofs.Whiles.{count_more, count_part}
use Rattle.ppd_blocks.proofs.numbered.+missing.Goals as goal
use Rattle.ppd_blocks.proofs.numbered.+missing.Goals.{missing_in-in-None, missing_in-in-Some}

pub missing_in-returns-then-depth-eq0 : goal.missing_in-returns-then-depth-eq0
missing_in-returns-then-depth-eq0 t c =
    let none : length (flat_map (preorder c.args.depth c.args.stmts.now) c.args.list.now) ≡ 0 = ap length (preorder_none c.args.depth c.args.stmts.now c.args.list.now c.if-depth-eq0.true) in
    omega (arith, none)

pub missing_in-returns-then-missing-eq0 : goal.missing_in-returns-then-missing-eq0
missing_in-returns-then-missing-eq0 t c =
    let f = preorder c.args.depth c.args.stmts.now in
    let part : length (flat_map f (take c.loop-number.number-index c.args.list.now)) ≤ length (flat_map f c.args.list.now) = count_part f c.args.list.now c.loop-number.number-index in
    let so_far : c.loop-number.missing ≡ c.args.wanted - length (flat_map f (take c.loop-number.number-index c.args.list.now)) = c.loop-number.invariant in
    omega (arith, part, so_far)

pub missing_in-loop-number-preserved : goal.missing_in-loop-number-preserved
missing_in-loop-number-preserved t c =
    let n = get_or c.args.list.now c.loop-number.number-index 0 in
    let f = preorder (c.args.depth - 1) c.args.stmts.now in
    let before = length (flat_map (preorder c.args.depth c.args.stmts.now) (take c.loop-number.number-index c.args.list.now)) in
    let after = length (flat_map (preorder c.args.depth c.args.stmts.now) (take (c.loop-number.number-index + 1) c.args.list.now)) in
    let so_far : c.loop-number.missing ≡ c.args.wanted - before = c.loop-number.invariant in
    let more : after ≡ before + suc (length (flat_map f (inner_at c.args.stmts.now n))) =
    count_more c.args.stmts.now c.args.depth c.args.list.now c.loop-number.number-index c.if-depth-eq0.false c.loop-number-test.true in
    let goes : c.match-get.missing ≡ c.args.wanted - after = elim c.match-get.branch [
      | missing_in-in-None w ↦
          let none : slice_get c.args.stmts.now n ≡ None = got_none _ _ w.in-None.ensures.lookup.3 in
          let inside : length (flat_map f (inner_at c.args.stmts.now n)) ≡ 0 = ap (λ (o : Option Stmt). length (flat_map f (inner_of o))) none in
          omega (arith, so_far, more, inside, w.missing-is)
      | missing_in-in-Some w ↦
          let is : slice_get c.args.stmts.now n ≡ Some w.in-Some.stmt.now = got_some _ _ _ w.in-Some.ensures.lookup.3.0 w.in-Some.ensures.lookup.1 in
          let inside : length (flat_map f (inner_at c.args.stmts.now n)) ≡ length (flat_map f (inner w.in-Some.stmt.now.kind)) = ap (λ (o : Option Stmt). length (flat_map f (inner_of o))) is in
          omega (arith, so_far, more, inside, w.missing-is, w.missing_inside-missing.ensures)
    ] in
    goes
