-- A process state that begins at a block is one of the program.
use Rattle.std.proofs.Common.{◌≡◌, ℕ, zero, suc, ◌+◌, ◌<◌, ◌≤◌, ◌^◌, ℤ, Bool, true, false, nat_le, List, [], ◌∷◌, ◌++◌, length, drop, get_or, Option, Some, None, refl, ap, sym, ◌∙◌, subst, arith}
use Rattle.std.specs.Prelude.{IsSomeAnd, slice_get, slice_set, min, unwrap_or}
use Rattle.std.specs.List.{All}
use Rattle.std.proofs.lemmas.Bool.Decides.{nat_tests}
use Rattle.std.proofs.lemmas.List.{append-nil, drop_more, length-set}
use Rattle.std.proofs.lemmas.Option.{slice_get_within}
use Rattle.std.specs.Option.{option_map_or}
use Rattle.ppd_ast.specs.Valid.{IsValid, IsValidBody}
use Rattle.ppd_ast.specs.ValidPlan.{IsValidBlock, IsValidPlan, IsBlockOf, IsLoopBlock}
use Rattle.ppd_ast.specs.declared.plan.Block.{Block}
use Rattle.ppd_ast.specs.declared.plan.BlockKind.{BlockKind}
use Rattle.ppd_ast.specs.declared.plan.BlockKind.TheVariants as block
use Rattle.ppd_ast.specs.declared.plan.Plan.{Plan}
use Rattle.ppd_ast.specs.declared.program.Body.{Body}
use Rattle.ppd_ast.specs.declared.program.Program.{Program}
use Rattle.ppd_ast.specs.declared.program.Stmt.{Stmt}
use Rattle.ppd_ast.specs.Lookups.{body_of, body_numbered, no_body}
use Rattle.ppd_ast.proofs.ValidLaws.{valid_body, some_and}
use Rattle.ppd_ast.specs.declared.limits.TheConstants.{MOST_CALLS}
use Rattle.ppd_sem.specs.declared.proc.Todo.{Todo}
use Rattle.ppd_sem.specs.Blocks.{at_block, block_body, block_kind, block_todo, prelog_cells}
use Rattle.ppd_sem.proofs.TableWords.{kind_in}
use Rattle.ppd_sem.specs.Process.{todos, with_values}
use Rattle.ppd_sem.proofs.NeedWords.{cells_for}
use Rattle.ppd_sem.specs.Runs.{AreOfFunction, AreOver, IsRunning, size_of, stmt_size}
use Rattle.ppd_sem.proofs.Kept.{cells_count, function_over, size_small}
use Rattle.ppd_sem.proofs.Starts.{started_over}
use Rattle.ppd_sem.proofs.Validity.{function_top, get_at, valid-runnable}

-- ---- values

pub length-with_values : (cs : List ℕ) (vs cells : List ℤ) → length (with_values cs vs cells) ≡ length cells
length-with_values (c ∷ cs) (v ∷ vs) cells = length-with_values cs vs (slice_set cells c v) ∙ length-set cells c v
length-with_values [] vs cells = refl
length-with_values (c ∷ cs) [] cells = refl

-- the value with this number is written, and the others are left
pub with_next : (cs : List ℕ) (vs cells : List ℤ) (i : ℕ) (c : ℕ) (v : ℤ) → i < length cs → i < length vs → with_values (drop i cs) (drop i vs) cells ≡ with_values (drop (i + 1) cs) (drop (i + 1) vs) (slice_set cells (get_or cs i c) (get_or vs i v))
with_next cs vs cells i c v h g = rw (drop_more cs i c h, drop_more vs i v g) refl

-- none is left of one of them
pub with_none : (cs : List ℕ) (vs cells : List ℤ) (i : ℕ) → min (length cs) (length vs) ≤ i → with_values (drop i cs) (drop i vs) cells ≡ cells
with_none [] vs cells zero h = refl
with_none (c ∷ cs) [] cells zero h = refl
with_none (c ∷ cs) (v ∷ vs) cells zero h = absurd (omega arith)
with_none [] vs cells (suc i) h = refl
with_none (c ∷ cs) [] cells (suc i) h = nothing (drop i cs)
  where
    nothing : (ds : List ℕ) → with_values ds [] cells ≡ cells
    nothing [] = refl
    nothing (d ∷ ds) = refl
with_none (c ∷ cs) (v ∷ vs) cells (suc i) h = with_none cs vs cells i (omega arith)

-- ---- bodies

-- what is to do in a body runs over its frame
body_over : (p : Program) (f : ℕ) (o : Option Body) → slice_get p.bodies f ≡ o → IsValid p → AreOver p (size_of p f ∷ []) (todos (body_numbered p f).top)
body_over p f None e v = subst (λ (o : Option Body). AreOver p ((unwrap_or o no_body).cells ∷ []) (todos (unwrap_or o no_body).top)) (sym e) tt
body_over p f (Some b) e v = by (nat_le p.functions f) refl
  where
    valid : IsValidBody p f b
    valid = valid_body p f b v e

    by : (t : Bool) → nat_le p.functions f ≡ t → AreOver p (size_of p f ∷ []) (todos (body_numbered p f).top)
    by true t =
        let from : p.functions ≤ f = grind (arith, nat_tests) in
        started_over p f (valid-runnable p v) from (slice_get_within p.bodies f b e)
    by false t =
        let top : AreOfFunction p b.cells b.top = function_top p f b v e (valid.process ∙ t) valid in
        let plain : AreOver p (b.cells ∷ []) (todos b.top ++ []) = function_over p b.cells [] b.top [] top tt in
        let over : AreOver p (b.cells ∷ []) (todos b.top) = subst (λ (l : List Todo). AreOver p (b.cells ∷ []) l) (append-nil (todos b.top)) plain in
        subst (λ (o : Option Body). AreOver p ((unwrap_or o no_body).cells ∷ []) (todos (unwrap_or o no_body).top)) (sym e) over

-- ---- blocks

-- so does what is to do in a block
kind_over : (p : Program) (k : BlockKind) (b : Block) → IsValid p → IsBlockOf p k b → AreOver p (size_of p (block_body p k) ∷ []) (block_todo p k)
kind_over p (block.Function f) b v h = body_over p f (slice_get p.bodies f) refl v
kind_over p (block.Process f) b v h = body_over p f (slice_get p.bodies f) refl v
kind_over p (block.Loop s) b v h =
    let at = some_and (λ (x : Stmt). IsSomeAnd (slice_get p.bodies x.body) (λ y. IsLoopBlock y.cells b)) (slice_get p.stmts s) h in
    let body : body_of p s ≡ at.0.body = ap (λ o. option_map_or (λ (x : Stmt). x.body) o 0) at.1 in (
      record {
        there = slice_get_within p.stmts s at.0 at.1;
        size = ap (stmt_size p) at.1 ∙ sym (ap (size_of p) body);
      },
      tt,
    )

block_over : (p : Program) (plan : Plan) (b : ℕ) (o : Option Block) → slice_get plan.blocks b ≡ o → IsValid p → IsValidPlan p plan → AreOver p (size_of p (block_body p (kind_in o)) ∷ []) (block_todo p (kind_in o))
block_over p plan b None e v h = body_over p 0 (slice_get p.bodies 0) refl v
block_over p plan b (Some x) e v h = kind_over p x.kind x v (get_at (IsValidBlock p) plan.blocks b x h.blocks e)

one_small : (n : ℕ) → n < 2 ^ 16 → All (λ m. m < 2 ^ 16) (n ∷ [])
one_small n small zero d b = small
one_small n small (suc k) d b = absurd (omega arith)

pub at_block_runs : (p : Program) (plan : Plan) (b : ℕ) (values : List ℤ) (depth budget : ℕ) → IsValid p → IsValidPlan p plan → depth ≤ MOST_CALLS → IsRunning p (at_block p plan b values depth budget)
at_block_runs p plan b values depth budget v h most =
    let f : ℕ = block_body p (block_kind plan b) in
    let few : 0 ≤ (body_numbered p f).cells = omega arith in
    let cells : List ℤ = cells_for (slice_get p.bodies f) [] in
    let count : length (with_values (prelog_cells plan b) values cells) ≡ size_of p f = length-with_values (prelog_cells plan b) values cells ∙ cells_count (slice_get p.bodies f) [] few in
    let small : size_of p f < 2 ^ 16 = size_small p f (valid-runnable p v) in
    let over : AreOver p (size_of p f ∷ []) (block_todo p (block_kind plan b)) = block_over p plan b (slice_get plan.blocks b) refl v h in
    record {
      todo = subst (λ (n : ℕ). AreOver p (n ∷ []) (block_todo p (block_kind plan b))) (sym count) over;
      frames = one_small (length (with_values (prelog_cells plan b) values cells)) (omega arith);
      below = most;
      steps = omega arith;
      spent = omega arith;
    }
