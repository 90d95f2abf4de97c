-- What holds of each loop's kind and of each body's holds of the kind of each block.
use Rattle.std.proofs.Common.{◌≡◌, ℕ, suc, ◌+◌, List, [], ◌∷◌, ◌++◌, Bool, true, false, Option, Some, None, refl, sym, ap, ◌∙◌, subst, arith}
use Rattle.std.specs.Prelude.{option_map, slice_get, if◌then◌else◌}
use Rattle.std.specs.List.{AllByRecursion as Each, flat_map, enumerate_from}
use Rattle.std.proofs.lemmas.Option.{slice_get-map}
use Rattle.ppd_ast.specs.declared.plan.Block.{Block}
use Rattle.ppd_ast.specs.declared.plan.BlockKind.{BlockKind}
use Rattle.ppd_ast.specs.declared.plan.BlockKind.TheVariants.{Loop}
use Rattle.ppd_ast.specs.declared.plan.Policy.{Policy}
use Rattle.ppd_ast.specs.declared.program.Body.{Body}
use Rattle.ppd_ast.specs.declared.program.Program.{Program}
use Rattle.ppd_ast.specs.declared.program.Stmt.{Stmt}
use Rattle.ppd_ast.specs.Numbered.{blocks_by, blocks_of, is_block_body, is_block_loop, loops_at, numbers_of}
use Rattle.ppd_ast.proofs.Vocabulary.{body_kind}
use Rattle.ppd_ast.proofs.Vocabulary.{loops_of}
use Rattle.ppd_blocks.specs.Blocks.{plan_of}
use Rattle.ppd_blocks.proofs.Vocabulary.{block_of as block_from}
use Rattle.ppd_sem.specs.Tables.{block_of}
use Rattle.law_steps.proofs.OpenBlocks.Planned.{block_there}
use Rattle.ppd_model.proofs.Changes.{some}
use Rattle.ppd_model.proofs.Parents.{none_some}
use Rattle.ppd_model.proofs.Earlier.{each_append}
use Rattle.ppd_model.proofs.Lists.{every_at}

each_flat : {X : Type 0} (P : X → Type 0) (f : ℕ → List X) → ((n : ℕ) → Each P (f n)) → (ns : List ℕ)
    → Each P (flat_map f ns)
each_flat P f h [] = tt
each_flat P f h (n ∷ ns) = each_append P (f n) (flat_map f ns) (h n) (each_flat P f h ns)

module _ (p : Program) (policy : Policy) (P : BlockKind → Type 0) (loops : (n : ℕ) → P (Loop n))
    (bodies : (j : ℕ) (b : Body) → slice_get p.bodies j ≡ Some b → P (body_kind j b)) where
  of_loop : (n : ℕ) (o : Option Stmt) → Each P (loops_of p.stmts policy n o)
  of_loop n None = tt
  of_loop n (Some s) = by (is_block_loop p.stmts policy s)
    where
      by : (b : Bool) → Each P (if b then Loop n ∷ [] else [])
      by true = (loops n, tt)
      by false = tt

  of_own : (j : ℕ) (b : Body) → slice_get p.bodies j ≡ Some b → (block : Bool)
      → Each P (if block then body_kind j b ∷ [] else [])
  of_own j b at true = (bodies j b at, tt)
  of_own j b at false = tt

  of_body : (j : ℕ) (b : Body) → slice_get p.bodies j ≡ Some b → Each P (blocks_of p.stmts policy j b)
  of_body j b at =
      each_append P (if is_block_body p.stmts policy b then body_kind j b ∷ [] else [])
      (flat_map (loops_at p.stmts policy) (numbers_of p.stmts b)) (of_own j b at (is_block_body p.stmts policy b))
      (each_flat P (loops_at p.stmts policy) (λ n. of_loop n (slice_get p.stmts n)) (numbers_of p.stmts b))

  of_all : (j : ℕ) (bs : List Body)
      → ((k : ℕ) (b : Body) → slice_get bs k ≡ Some b → slice_get p.bodies (j + k) ≡ Some b)
      → Each P (flat_map (λ e. blocks_of p.stmts policy e.0 e.1) (enumerate_from j bs))
  of_all j [] h = tt
  of_all j (b ∷ bs) h =
      let first : j + 0 ≡ j = omega arith in
      each_append P (blocks_of p.stmts policy j b) (flat_map (λ e. blocks_of p.stmts policy e.0 e.1) (enumerate_from (j + 1) bs))
      (of_body j b (subst (λ n. slice_get p.bodies n ≡ Some b) first (h 0 b refl)))
      (of_all (j + 1) bs (λ k c e.
      (let next : j + suc k ≡ (j + 1) + k = omega arith in subst (λ n. slice_get p.bodies n ≡ Some c) next
      (h (suc k) c e))))

  pub kind_holds : (kind : BlockKind) (n : ℕ) → block_of (plan_of p policy) kind ≡ Some n → P kind
  kind_holds kind n e = by (slice_get kinds n) refl
      (sym (slice_get-map (block_from p) kinds n) ∙ block_there p policy kind n e)
    where
      kinds : List BlockKind
      kinds = blocks_by p.stmts policy p.bodies

      every : Each P kinds
      every = of_all 0 p.bodies
          (λ k b at. (let same : 0 + k ≡ k = omega arith in subst (λ i. slice_get p.bodies i ≡ Some b) (sym same) at))

      by : (o : Option BlockKind) → slice_get kinds n ≡ o
          → option_map (block_from p) o ≡ Some (block_from p kind) → P kind
      by None at is = absurd (none_some is)
      by (Some l) at is = subst P (ap (λ (b : Block). b.kind) (some is)) (every_at P kinds n l every at)
