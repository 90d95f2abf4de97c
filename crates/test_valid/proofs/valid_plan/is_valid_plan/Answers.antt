use Rattle.std.proofs.Common.{◌≡◌, ◌↔◌, ℕ, List, map, length, subst, sym, true, IsTrue}
use Rattle.std.specs.List.{All}
use Rattle.ppd_ast.specs.declared.program.Stmt.{Stmt}
use Rattle.ppd_ast.specs.declared.program.Body.{Body}
use Rattle.ppd_ast.specs.declared.plan.Block.{Block}
use Rattle.ppd_ast.specs.declared.plan.Unit.{Unit}
use Rattle.ppd_ast.specs.declared.plan.Policy.{Policy}
use Rattle.ppd_ast.specs.Numbered.{blocks_by, starts_by}
use Rattle.ppd_ast.specs.ValidPlan.{AreCells, IsValidBlock}
use Rattle.test_valid.proofs.valid_plan.is_valid_plan.Goals as goal

-- what holds of lists holds of equal ones
moved : {A : Type 0} {xs ys : List A} {ss ts : List Stmt} {bs cs : List Body} (P : List A → List Stmt → List Body → Type 0)
    → xs ≡ ys → ss ≡ ts → bs ≡ cs → P xs ss bs → P ys ts cs
moved {A} {xs} {ys} {ss} {ts} {bs} {cs} P e f g h = subst (λ zs. P zs ts cs) e (subst (λ us. P xs us cs) f (subst (λ ds. P xs ss ds) g h))

abbrev AreKinds : Policy → List Block → List Stmt → List Body → Type 0
AreKinds policy blocks stmts bodies = map (λ (b : Block). b.kind) blocks ≡ blocks_by stmts policy bodies

abbrev AreStarts : Policy → List Unit → List Stmt → List Body → Type 0
AreStarts policy units stmts bodies = map (λ (u : Unit). u.start) units ≡ starts_by stmts policy bodies

pub returns-then-not-are_numbered : goal.returns-then-not-are_numbered
returns-then-not-are_numbered c = (
  λ e. cc,
  λ v.
      let yes : c.are_numbered.result ≡ true = c.are_numbered.ensures.1 (moved (AreKinds c.args.plan.now.policy) (sym c.as_slice.ensures) (sym c.as_slice-stmts.ensures) (sym c.as_slice-bodies.ensures) v.kinds) in
      cc,
)

pub returns-then-not-are_numbered-2 : goal.returns-then-not-are_numbered-2
returns-then-not-are_numbered-2 c = (
  λ e. cc,
  λ v.
      let yes : c.are_numbered-2.result ≡ true = c.are_numbered-2.ensures.1 (moved (AreStarts c.args.plan.now.policy) (sym c.as_slice-2.ensures) (sym c.as_slice-stmts.ensures) (sym c.as_slice-bodies.ensures) v.starts) in
      cc,
)

pub returns : goal.returns
returns c =
    let kinds = moved (AreKinds c.args.plan.now.policy) c.as_slice.ensures c.as_slice-stmts.ensures c.as_slice-bodies.ensures (c.are_numbered.ensures.0 c.if-not-are_numbered.false) in
    let starts = moved (AreStarts c.args.plan.now.policy) c.as_slice-2.ensures c.as_slice-stmts.ensures c.as_slice-bodies.ensures (c.are_numbered-2.ensures.0 c.if-not-are_numbered-2.false) in
    let blocks : All (IsValidBlock c.args.program.now) c.args.plan.now.blocks =
    subst (λ (xs : List Block). All (IsValidBlock c.args.program.now) xs) c.as_slice-3.ensures (c.are_valid_blocks.ensures.0 c.if-not-are_valid_blocks.false) in
    let cells : IsTrue c.are_valid_units.result ↔ All (λ (u : Unit). AreCells (length c.args.program.now.starts) u.cells) c.args.plan.now.units =
    subst (λ (n : ℕ). IsTrue c.are_valid_units.result ↔ All (λ (u : Unit). AreCells n u.cells) c.args.plan.now.units) c.len.ensures
    (subst (λ (xs : List Unit). IsTrue c.are_valid_units.result ↔ All (λ (u : Unit). AreCells c.len.result u.cells) xs) c.as_slice-4.ensures c.are_valid_units.ensures) in (
      λ e. record {
        policy = c.is_valid_policy.ensures.0 c.if-not-is_valid_policy.false;
        kinds = kinds;
        starts = starts;
        blocks = blocks;
        units = cells.0 e;
      },
      λ v. cells.1 v.units,
    )
