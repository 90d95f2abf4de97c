-- The plan of a policy is valid.
use Rattle.std.proofs.Common.{◌≡◌, ℕ, suc, ◌<◌, List, [], ◌∷◌, length, map, refl, sym, ap, ◌∙◌, subst, arith, get_or}
use Rattle.std.specs.Prelude.{IsSomeAnd, slice_get}
use Rattle.std.specs.List.{All, flat_map, range_with_len}
use Rattle.std.proofs.lemmas.List.Elements.{All-cons, All-map}
use Rattle.ppd_ast.specs.declared.program.Program.{Program}
use Rattle.ppd_ast.specs.declared.plan.Policy.{Policy}
use Rattle.ppd_ast.specs.declared.plan.Plan.{Plan}
use Rattle.ppd_ast.specs.declared.plan.Block.{Block}
use Rattle.ppd_ast.specs.declared.plan.BlockKind.{BlockKind}
use Rattle.ppd_ast.specs.declared.plan.BlockKind.TheVariants.{Function, Process, Loop}
use Rattle.ppd_ast.specs.declared.plan.Start.{Start}
use Rattle.ppd_ast.specs.declared.plan.Unit.{Unit as UnitOf}
use Rattle.ppd_ast.specs.Bare.{bare, bare_block}
use Rattle.ppd_ast.specs.Numbered.{blocks_by}
use Rattle.ppd_ast.specs.Valid.{IsValid}
use Rattle.ppd_ast.specs.ValidPlan.{AreCells, IsValidBlock, IsValidPlan, IsValidPolicy, IsFunctionBlock, IsLoopBlock, IsBlockOf}
use Rattle.ppd_ast.proofs.BareValid.{bare_valid, some_and_is}
use Rattle.ppd_ast.proofs.ValidLaws.{some_and}
use Rattle.ppd_ast.proofs.Members.{below_range}
use Rattle.ppd_blocks.specs.Starts.{unit_of, units_of}
use Rattle.ppd_blocks.proofs.Vocabulary.{all_starts, params_of, block_loops, block_of}
use Rattle.ppd_blocks.proofs.Paths.{range_rises, all_from, cells_are_shared}
use Rattle.ppd_blocks.specs.Blocks.{loop_in, filled, plan_of}
use Rattle.ppd_blocks.proofs.Filling.{loops_of_kinds}
use Rattle.ppd_blocks.proofs.Listing.{starts_are}
use Rattle.ppd_blocks.proofs.Looping.{prelog_cells, postlog_cells}

params_are_cells : (n : ℕ) → AreCells n (range_with_len 0 n)
params_are_cells n = record { rising = range_rises 0 n; below = all_from (λ c. c < n) (range_with_len 0 n) (λ c h. let inside = below_range 0 n c h in omega (arith, inside.1)) }

module _ (p : Program) (policy : Policy) (v : IsValid p) where
  abbrev pub plan_with : List Block → List UnitOf → Plan
  plan_with blocks units = record { policy = policy; blocks = blocks; units = units }

  pub IsPlan : List Block → List UnitOf → Type 0
  IsPlan blocks units = plan_with blocks units ≡ plan_of p policy

  -- a block that is valid without its cells is valid with them
  block_good : (kind : BlockKind) → IsBlockOf p kind (bare_block p.bodies kind) → IsBlockOf p kind (block_of p kind)
  block_good (Function f) h =
      let b = some_and (λ b. IsFunctionBlock b (bare_block p.bodies (Function f))) (slice_get p.bodies f) h in
      some_and_is (λ b. IsFunctionBlock b (block_of p (Function f))) (slice_get p.bodies f) b.0 b.1
      (record { prelog = subst (AreCells b.0.params) (sym (ap params_of b.1)) (params_are_cells b.0.params); postlog = refl; value = b.2.value })
  block_good (Process f) h = record { prelog = refl; postlog = refl; value = refl }
  block_good (Loop q) h =
      let s = some_and (λ s. IsSomeAnd (slice_get p.bodies s.body) (λ b. IsLoopBlock b.cells (bare_block p.bodies (Loop q)))) (slice_get p.stmts q) h in
      let b = some_and (λ b. IsLoopBlock b.cells (bare_block p.bodies (Loop q))) (slice_get p.bodies s.0.body) s.2 in
      some_and_is (λ s. IsSomeAnd (slice_get p.bodies s.body) (λ b. IsLoopBlock b.cells (block_of p (Loop q)))) (slice_get p.stmts q) s.0 s.1
      (some_and_is (λ b. IsLoopBlock b.cells (block_of p (Loop q))) (slice_get p.bodies s.0.body) b.0 b.1
      (record { prelog = prelog_cells p q s.0 b.0 v s.1 b.1; postlog = postlog_cells p q s.0 b.0 v s.1 b.1; value = refl }))

  all_good : (kinds : List BlockKind) → All (IsValidBlock p) (map (bare_block p.bodies) kinds) → All (IsValidBlock p) (map (block_of p) kinds)
  all_good [] all = λ k d h. absurd (omega (arith, h))
  all_good (kind ∷ kinds) all =
      All-cons (IsValidBlock p) (block_of p kind) (map (block_of p) kinds) (block_good kind (all 0 (bare_block p.bodies kind) (omega arith)))
      (all_good kinds (λ k d h. all (suc k) d (omega (arith, h))))

  same_kinds : (kinds : List BlockKind) → map (λ (b : Block). b.kind) (map (block_of p) kinds) ≡ kinds
  same_kinds [] = refl
  same_kinds (k ∷ ks) = ap (λ l. k ∷ l) (same_kinds ks)

  same_starts : (loops : List ℕ) (starts : List Start) → map (λ (u : UnitOf). u.start) (map (unit_of p loops) starts) ≡ starts
  same_starts loops [] = refl
  same_starts loops (s ∷ ss) = ap (λ l. s ∷ l) (same_starts loops ss)

  pub plan_valid : IsValidPolicy policy → IsValidPlan p (plan_of p policy)
  plan_valid h =
      let plain : IsValidPlan p (bare p policy) = bare_valid p policy v h in
      record {
        policy = h;
        kinds = same_kinds (blocks_by p.stmts policy p.bodies);
        starts = same_starts (block_loops p policy) (all_starts p (block_loops p policy)) ∙ starts_are p policy;
        blocks = all_good (blocks_by p.stmts policy p.bodies) plain.blocks;
        units = All-map (λ (u : UnitOf). AreCells (length p.starts) u.cells) (unit_of p (block_loops p policy)) (all_starts p (block_loops p policy)) (λ k d l. cells_are_shared p (block_loops p policy) (get_or (all_starts p (block_loops p policy)) k d) v);
      }

  -- ---- for the code

  pub filled_are : (kinds : List BlockKind) → map (filled p) (map (bare_block p.bodies) kinds) ≡ map (block_of p) kinds
  filled_are [] = refl
  filled_are (k ∷ ks) = ap (λ l. block_of p k ∷ l) (filled_are ks)

  pub same_blocks : (plain : Plan) → plain ≡ bare p policy → plain.blocks ≡ (bare p policy).blocks
  same_blocks plain is = ap (λ (q : Plan). q.blocks) is

  pub plan_is : (plain blocks : List Block) (units : List UnitOf) → plain ≡ (bare p policy).blocks →
      units ≡ units_of p (flat_map (λ (b : Block). loop_in b.kind) plain) → blocks ≡ map (filled p) plain → IsPlan blocks units
  unfolding IsPlan
  plan_is plain blocks units is made filled_in =
      let kinds : List BlockKind = blocks_by p.stmts policy p.bodies in
      let b : blocks ≡ map (block_of p) kinds = filled_in ∙ ap (map (filled p)) is ∙ filled_are kinds in
      let l : flat_map (λ (c : Block). loop_in c.kind) plain ≡ block_loops p policy = ap (flat_map (λ (c : Block). loop_in c.kind)) is ∙ loops_of_kinds p kinds in
      let u : units ≡ units_of p (block_loops p policy) = made ∙ ap (units_of p) l in
      ap (λ bs. plan_with bs units) b ∙ ap (λ us. plan_with (map (block_of p) kinds) us) u

  pub plan_good : (blocks : List Block) (units : List UnitOf) → IsPlan blocks units → IsValidPolicy policy → IsValidPlan p (plan_with blocks units)
  unfolding IsPlan
  plan_good blocks units e h = subst (IsValidPlan p) (sym e) (plan_valid h)

  pub as_plan : (blocks : List Block) (units : List UnitOf) → IsPlan blocks units → plan_with blocks units ≡ plan_of p policy
  unfolding IsPlan
  as_plan blocks units e = e
