use Rattle.std.proofs.Common.{◌≡◌, ◌↔◌, ◌<◌, ℕ, List, length, subst, Bool, IsTrue}
use Rattle.ppd_ast.specs.declared.program.Expr.{Expr}
use Rattle.ppd_ast.specs.declared.program.Stmt.{Stmt}
use Rattle.ppd_ast.specs.declared.program.Body.{Body}
use Rattle.ppd_ast.specs.declared.program.Var.{Var}
use Rattle.ppd_ast.specs.Table.{EachAt, AreChildrenBelow}
use Rattle.ppd_ast.specs.Tally.{IsOnce}
use Rattle.ppd_ast.specs.Cells.{CoverCells}
use Rattle.ppd_ast.specs.Valid.{Follow}
use Rattle.test_valid.proofs.valid.is_valid_program.Goals as goal
use Rattle.ppd_ast.specs.Uses.{uses_of}

-- a test of two slices, at the lists that they are of
along : {X Y : Type 0} (P : List X → List Y → Type 0) (r : Bool) (xs zs : List X) (ys us : List Y) → xs ≡ zs → ys ≡ us → IsTrue r ↔ P xs ys → IsTrue r ↔ P zs us
along P r xs zs ys us e f h = subst (λ l. IsTrue r ↔ P l us) e (subst (λ l. IsTrue r ↔ P xs l) f h)

AllOnce : List Expr → List Stmt → Type 0
AllOnce es ss = (n : ℕ) → n < length es → IsOnce (uses_of es ss) n

pub returns-then-not-are_used_once : goal.returns-then-not-are_used_once
unfolding AllOnce
returns-then-not-are_used_once c =
    let once = along AllOnce c.are_used_once.result _ _ _ _ c.as_slice-exprs.ensures c.as_slice-stmts.ensures c.are_used_once.ensures in
    (λ e. cc, λ v. let yes = once.1 v.once in cc)

pub returns : goal.returns
unfolding AllOnce
returns c =
    let once = along AllOnce c.are_used_once.result _ _ _ _ c.as_slice-exprs.ensures c.as_slice-stmts.ensures c.are_used_once.ensures in
    let ordered = along (λ (es : List Expr) (ss : List Stmt). EachAt AreChildrenBelow es) c.are_ordered.result _ _ _ _ c.as_slice-exprs.ensures c.as_slice-stmts.ensures c.are_ordered.ensures in
    let cover : CoverCells c.args.program.now.shared (length c.args.program.now.starts) =
    subst (λ (n : ℕ). CoverCells c.args.program.now.shared n) c.len.ensures
    (subst (λ (vs : List Var). CoverCells vs c.len.result) c.as_slice.ensures (c.do_cover.ensures.0 c.if-not-do_cover.false)) in
    let follow = along (λ (bs : List Body) (ss : List Stmt). Follow 0 bs (length ss)) c.do_follow.result _ _ _ _ c.as_slice-2.ensures c.as_slice-stmts.ensures c.do_follow.ensures in (
      λ e. record {
        limits = c.is_within_limits.ensures.0 c.if-not-is_within_limits.false;
        children = ordered.0 c.if-not-are_ordered.false;
        once = once.0 c.if-not-are_used_once.false;
        cells = cover;
        ranges = follow.0 c.if-not-do_follow.false;
        bodies = c.are_valid_bodies.ensures.0 c.if-not-are_valid_bodies.false;
        stmts = c.are_valid_stmts.ensures.0 e;
      },
      λ v. c.are_valid_stmts.ensures.1 v.stmts,
    )
