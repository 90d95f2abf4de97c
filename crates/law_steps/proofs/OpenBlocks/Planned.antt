-- The blocks of the plan of a policy by their kinds.
use Rattle.std.proofs.Common.{◌≡◌, ℕ, ◌+◌, ◌-◌, List, [], ◌∷◌, true, false, Option, Some, None, refl, sym, ap, ◌∙◌, subst, map, arith}
use Rattle.std.specs.Prelude.{nat_le, ◌||◌, option_map, is_some, slice_get, if◌then◌else◌}
use Rattle.std.specs.List.{flat_map}
use Rattle.std.proofs.lemmas.Bool.{cond-true, cond-false, eqb-true, eq-eqb, or_left, or_right}
use Rattle.std.proofs.lemmas.Option.{slice_get-map}
use Rattle.ppd_ast.specs.declared.plan.Block.{Block}
use Rattle.ppd_ast.specs.declared.plan.BlockKind.{BlockKind}
use Rattle.ppd_ast.specs.declared.plan.BlockKind.TheVariants.{Function, Process, Loop}
use Rattle.ppd_ast.specs.declared.plan.Policy.{Policy}
use Rattle.ppd_ast.specs.declared.program.Body.{Body}
use Rattle.ppd_ast.specs.declared.program.Program.{Program}
use Rattle.ppd_ast.specs.Numbered.{blocks_by, blocks_of, has_call, is_block_body, loops_at, numbers_of}
use Rattle.ppd_ast.proofs.Vocabulary.{body_kind}
use Rattle.law_steps.specs.Blocks.{plan_of, postlog_of, prelog_of}
use Rattle.ppd_blocks.proofs.Vocabulary.{block_of as block_from}
use Rattle.ppd_sem.specs.Blocks.{block_kind, postlog_cells, prelog_cells}
use Rattle.ppd_sem.specs.Tables.{block_of, same_block}
use Rattle.law_steps.proofs.Units.Listed.{IsListed, found, found_passes, listed_each, listed_left}
use Rattle.ppd_sem.proofs.TableWords.{kind_in, postlog_in, prelog_in}

block_itself : (k : BlockKind) → same_block k k ≡ true
block_itself (Function f) = eq-eqb f f refl
block_itself (Process f) = eq-eqb f f refl
block_itself (Loop q) = eq-eqb q q refl

one_block : (k l : BlockKind) → same_block k l ≡ true → k ≡ l
one_block (Function a) (Function b) e = ap (λ n. Function n) (eqb-true a b e)
one_block (Process a) (Process b) e = ap (λ n. Process n) (eqb-true a b e)
one_block (Loop a) (Loop b) e = ap (λ n. Loop n) (eqb-true a b e)
one_block k l e = absurd (cc)

from_kind : (p : Program) (o : Option BlockKind) (k : BlockKind) (b : Block) → option_map (block_from p) o ≡ Some b
    → same_block b.kind k ≡ true → b ≡ block_from p k
from_kind p None k b e is = cc
from_kind p (Some l) k b e is =
    let same : block_from p l ≡ b = cc in
    let one : l ≡ k = one_block l k (ap (λ (c : Block). same_block c.kind k) same ∙ is) in
    sym same ∙ ap (block_from p) one

-- the block with the number of a kind is made from the kind
pub block_there : (p : Program) (policy : Policy) (k : BlockKind) (b : ℕ) → block_of (plan_of p policy) k ≡ Some b
    → slice_get (plan_of p policy).blocks b ≡ Some (block_from p k)
block_there p policy k b e =
    let kinds : List BlockKind = blocks_by p.stmts policy p.bodies in
    let w = found_passes (λ (c : Block). same_block c.kind k) (map (block_from p) kinds) b e in
    w.1 ∙ ap Some (from_kind p (slice_get kinds b) k w.0 (sym (slice_get-map (block_from p) kinds b) ∙ w.1) w.2)

-- a kind of the policy is found
pub kind_found : (p : Program) (policy : Policy) (k : BlockKind) → IsListed (blocks_by p.stmts policy p.bodies) k
    → is_some (block_of (plan_of p policy) k) ≡ true
kind_found p policy k listed =
    let kinds : List BlockKind = blocks_by p.stmts policy p.bodies in
    let at : slice_get (map (block_from p) kinds) listed.0 ≡ Some (block_from p k) =
    slice_get-map (block_from p) kinds listed.0 ∙ ap (option_map (block_from p)) listed.1 in
    let w = found (λ (b : Block). same_block b.kind k) (map (block_from p) kinds) listed.0 (block_from p k) at
    (block_itself k) in
    ap is_some w.2

body_listed : (p : Program) (policy : Policy) (f : ℕ) (b : Body) → slice_get p.bodies f ≡ Some b
    → is_block_body p.stmts policy b ≡ true → IsListed (blocks_by p.stmts policy p.bodies) (body_kind f b)
body_listed p policy f b at is =
    let e : 0 + f ≡ f = omega arith in
    let own : IsListed (if is_block_body p.stmts policy b then body_kind f b ∷ [] else []) (body_kind f b) =
    subst (λ xs. IsListed xs (body_kind f b))
    (sym (cond-true (is_block_body p.stmts policy b) (body_kind f b ∷ []) [] is)) (0, refl) in
    let here : IsListed (blocks_of p.stmts policy f b) (body_kind f b) =
    listed_left (if is_block_body p.stmts policy b then body_kind f b ∷ [] else [])
    (flat_map (loops_at p.stmts policy) (numbers_of p.stmts b)) (body_kind f b) own in
    listed_each (blocks_of p.stmts policy) 0 p.bodies f b (body_kind f b) at
    (subst (λ j. IsListed (blocks_of p.stmts policy j b) (body_kind f b)) (sym e) here)

-- each process is a block
pub process_found : (p : Program) (policy : Policy) (f : ℕ) (b : Body) → slice_get p.bodies f ≡ Some b
    → b.process ≡ true → is_some (block_of (plan_of p policy) (Process f)) ≡ true
process_found p policy f b at is =
    let whole : is_block_body p.stmts policy b ≡ true =
    or_left (b.process || has_call p.stmts b) (nat_le policy.leaf (b.end - b.first))
    (or_left b.process (has_call p.stmts b) is) in
    let kind : body_kind f b ≡ Process f = cond-true b.process (Process f) (Function f) is in
    subst (λ k. is_some (block_of (plan_of p policy) k) ≡ true) kind
    (kind_found p policy (body_kind f b) (body_listed p policy f b at whole))

-- and so is each function with a call
pub calling_found : (p : Program) (policy : Policy) (f : ℕ) (b : Body) → slice_get p.bodies f ≡ Some b
    → b.process ≡ false → has_call p.stmts b ≡ true → is_some (block_of (plan_of p policy) (Function f)) ≡ true
calling_found p policy f b at isnt is =
    let whole : is_block_body p.stmts policy b ≡ true =
    or_left (b.process || has_call p.stmts b) (nat_le policy.leaf (b.end - b.first))
    (or_right b.process (has_call p.stmts b) is) in
    let kind : body_kind f b ≡ Function f = cond-false b.process (Process f) (Function f) isnt in
    subst (λ k. is_some (block_of (plan_of p policy) k) ≡ true) kind
    (kind_found p policy (body_kind f b) (body_listed p policy f b at whole))

-- what the block with the number of a kind is the code of, and its cells
pub kind_is : (p : Program) (policy : Policy) (k : BlockKind) (b : ℕ) → block_of (plan_of p policy) k ≡ Some b
    → block_kind (plan_of p policy) b ≡ k
kind_is p policy k b e = ap kind_in (block_there p policy k b e)

pub prelog_cells_are : (p : Program) (policy : Policy) (k : BlockKind) (b : ℕ)
    → block_of (plan_of p policy) k ≡ Some b → prelog_cells (plan_of p policy) b ≡ prelog_of p k
prelog_cells_are p policy k b e = ap prelog_in (block_there p policy k b e)

pub postlog_cells_are : (p : Program) (policy : Policy) (k : BlockKind) (b : ℕ)
    → block_of (plan_of p policy) k ≡ Some b → postlog_cells (plan_of p policy) b ≡ postlog_of p k
postlog_cells_are p policy k b e = ap postlog_in (block_there p policy k b e)
