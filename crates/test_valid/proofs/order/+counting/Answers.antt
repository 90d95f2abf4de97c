use Rattle.std.proofs.Common.{take, Option, ◌≡◌, ◌∙◌, ap, sym, Some, None, ◌+◌, ◌-◌, get_or, ◌++◌}
use Rattle.std.specs.Prelude.{slice_get}
use Rattle.std.specs.List.{flat_map}
use Rattle.std.proofs.lemmas.Grind.{flat_map-append}
use Rattle.test_valid.specs.Counting.{counted}
use Rattle.ppd_ast.specs.Order.{preorder, inner}
use Rattle.ppd_ast.proofs.Vocabulary.{inner_of, inner_at}
use Rattle.ppd_ast.specs.declared.program.Stmt.{Stmt}
use Rattle.ppd_ast.proofs.Walks.{got_some, got_none}
use Rattle.ppd_ast.specs.declared.program.Kind.{Kind}
use Rattle.ppd_ast.proofs.Countings.{preorder_none}
use Rattle.test_valid.proofs.Countings.{counted_on, counted_broken, counted_whole, counted_some, counted_none}
use Rattle.test_valid.proofs.order.+counting.Goals as goal
use Rattle.test_valid.proofs.order.+counting.Goals.{counted_in-in-None, counted_in-in-Some+in_ok-next-in-Some}

pub counted_in-returns-then-depth-eq0 : goal.counted_in-returns-then-depth-eq0
counted_in-returns-then-depth-eq0 t c = sym (ap (λ l. counted l c.args.from) (preorder_none c.args.depth c.args.stmts.now c.args.list.now c.if-depth-eq0.true))

pub counted_in-returns-then-place-next : goal.counted_in-returns-then-place-next
counted_in-returns-then-place-next t c =
    sym (counted_whole (preorder c.args.depth c.args.stmts.now) c.args.list.now (c.loop-number.number-index + 1) c.args.from (counted_broken c.args.stmts.now c.args.depth c.if-depth-eq0.false c.args.list.now c.loop-number.number-index c.args.from c.loop-number.next c.loop-number-test.true c.loop-number.invariant c.if-place-next.true))

pub counted_in-returns-in_err-next-in-Some : goal.counted_in-returns-in_err-next-in-Some
counted_in-returns-in_err-next-in-Some t c =
    let n = get_or c.args.list.now c.loop-number.number-index 0 in
    let f = preorder (c.args.depth - 1) c.args.stmts.now in
    let is : slice_get c.args.stmts.now n ≡ Some c.in-Some.stmt.now = got_some _ _ _ c.in-Some.ensures.lookup.3.0 c.in-Some.ensures.lookup.1 in
    let was : c.counted_inside.result ≡ None = c.in_err-next-in-Some.was in
    let inside : counted (flat_map f (inner_at c.args.stmts.now n)) (n + 1) ≡ None =
    ap (λ (o : Option Stmt). counted (flat_map f (inner_of o)) (n + 1)) is ∙ sym c.counted_inside.ensures ∙ was in
    let same : n ≡ c.loop-number.next = c.if-place-next.false in
    let more : counted (flat_map (preorder c.args.depth c.args.stmts.now) (take (c.loop-number.number-index + 1) c.args.list.now)) c.args.from ≡ counted (flat_map f (inner_at c.args.stmts.now c.loop-number.next)) (c.loop-number.next + 1) =
    counted_on c.args.stmts.now c.args.depth c.if-depth-eq0.false c.args.list.now c.loop-number.number-index c.args.from c.loop-number.next c.loop-number-test.true c.loop-number.invariant same in
    let none = more ∙ ap (λ m. counted (flat_map f (inner_at c.args.stmts.now m)) (m + 1)) (sym same) ∙ inside in
    c.from_residual.ensures ∙ sym (counted_whole (preorder c.args.depth c.args.stmts.now) c.args.list.now (c.loop-number.number-index + 1) c.args.from none)

pub counted_in-loop-number-preserved : goal.counted_in-loop-number-preserved
counted_in-loop-number-preserved t c =
    let n = get_or c.args.list.now c.loop-number.number-index 0 in
    let f = preorder (c.args.depth - 1) c.args.stmts.now in
    let same : n ≡ c.loop-number.next = c.if-place-next.false in
    let more : counted (flat_map (preorder c.args.depth c.args.stmts.now) (take (c.loop-number.number-index + 1) c.args.list.now)) c.args.from ≡ counted (flat_map f (inner_at c.args.stmts.now c.loop-number.next)) (c.loop-number.next + 1) =
    counted_on c.args.stmts.now c.args.depth c.if-depth-eq0.false c.args.list.now c.loop-number.number-index c.args.from c.loop-number.next c.loop-number-test.true c.loop-number.invariant same in
    let here : counted (flat_map (preorder c.args.depth c.args.stmts.now) (take (c.loop-number.number-index + 1) c.args.list.now)) c.args.from ≡ counted (flat_map f (inner_at c.args.stmts.now n)) (n + 1) =
    more ∙ ap (λ m. counted (flat_map f (inner_at c.args.stmts.now m)) (m + 1)) (sym same) in
    elim c.match-get.branch [
      | counted_in-in-None w ↦
          let none : slice_get c.args.stmts.now n ≡ None = got_none _ _ w.in-None.ensures.lookup.3 in
          here ∙ ap (λ (o : Option Stmt). counted (flat_map f (inner_of o)) (n + 1)) none ∙ ap Some (sym w.next-is)
      | counted_in-in-Some+in_ok-next-in-Some w ↦
          let is : slice_get c.args.stmts.now n ≡ Some w.in-Some.stmt.now = got_some _ _ _ w.in-Some.ensures.lookup.3.0 w.in-Some.ensures.lookup.1 in
          let inside : counted (flat_map f (inner_at c.args.stmts.now n)) (n + 1) ≡ w.counted_inside.result =
          ap (λ (o : Option Stmt). counted (flat_map f (inner_of o)) (n + 1)) is ∙ sym w.counted_inside.ensures in
          let was = w.in_ok-next-in-Some.was in
          let last : w.counted_inside.result ≡ Some c.match-get.next = cc in
          here ∙ inside ∙ last
    ]

pub counted_inside-returns-in_err-next-in-If : goal.counted_inside-returns-in_err-next-in-If
counted_inside-returns-in_err-next-in-If t c =
    let f = preorder c.args.depth c.args.stmts.now in
    let was : c.counted_in.result ≡ None = c.in_err-next-in-If.was in
    let first : counted (flat_map f c.in-If.first) c.args.from ≡ None = cc in
    let both : counted (flat_map f (c.in-If.first ++ c.in-If.second)) c.args.from ≡ None =
    ap (λ l. counted l c.args.from) (flat_map-append f c.in-If.first c.in-If.second) ∙ counted_none (flat_map f c.in-If.first) _ c.args.from first in
    c.from_residual.ensures ∙ sym (ap (λ (k : Kind). counted (flat_map f (inner k)) c.args.from) c.in-If.is ∙ both)

pub counted_inside-returns-in_ok-next-in-If : goal.counted_inside-returns-in_ok-next-in-If
counted_inside-returns-in_ok-next-in-If t c =
    let f = preorder c.args.depth c.args.stmts.now in
    let was : c.counted_in.result ≡ Some c.in_ok-next-in-If.next = c.in_ok-next-in-If.was in
    let first : counted (flat_map f c.in-If.first) c.args.from ≡ Some c.in_ok-next-in-If.next = cc in
    let second : c.counted_in-in-If.result ≡ counted (flat_map f c.in-If.second) c.in_ok-next-in-If.next = cc in
    let both : counted (flat_map f (c.in-If.first ++ c.in-If.second)) c.args.from ≡ counted (flat_map f c.in-If.second) c.in_ok-next-in-If.next =
    ap (λ l. counted l c.args.from) (flat_map-append f c.in-If.first c.in-If.second) ∙ counted_some (flat_map f c.in-If.first) _ c.args.from _ first in
    second ∙ sym (ap (λ (k : Kind). counted (flat_map f (inner k)) c.args.from) c.in-If.is ∙ both)
