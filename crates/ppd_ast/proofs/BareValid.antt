-- The plan without cells is valid.
use Rattle.std.proofs.Common.{◌≡◌, ℕ, suc, ◌+◌, Bool, true, false, List, [], ◌∷◌, length, map, Option, Some, None, refl, sym, ap, subst, arith, IsSomeAnd, if◌then◌else◌}
use Rattle.std.specs.Prelude.{slice_get}
use Rattle.std.specs.List.{All, flat_map, enumerate_from}
use Rattle.std.proofs.lemmas.List.Elements.{All-cons, All-append, All-map}
use Rattle.ppd_ast.specs.declared.program.Stmt.{Stmt}
use Rattle.ppd_ast.specs.declared.program.Body.{Body}
use Rattle.ppd_ast.specs.declared.program.Program.{Program}
use Rattle.ppd_ast.specs.declared.plan.Policy.{Policy}
use Rattle.ppd_ast.specs.declared.plan.Block.{Block}
use Rattle.ppd_ast.specs.declared.plan.BlockKind.{BlockKind}
use Rattle.ppd_ast.specs.declared.plan.BlockKind.TheVariants.{Function, Process, Loop}
use Rattle.ppd_ast.specs.declared.plan.Start.{Start}
use Rattle.ppd_ast.specs.declared.plan.Unit.{Unit as UnitOf}
use Rattle.ppd_ast.specs.Bare.{bare, bare_block, bare_unit}
use Rattle.ppd_ast.proofs.Vocabulary.{gives, loops_of, body_kind}
use Rattle.ppd_ast.specs.Numbered.{is_block_loop, is_block_body, loops_at, blocks_of, blocks_by, starts_by, numbers_of}
use Rattle.ppd_ast.specs.Valid.{IsValid}
use Rattle.ppd_ast.specs.ValidPlan.{AreCells, IsValidBlock, IsValidPlan, IsValidPolicy, IsFunctionBlock, IsLoopBlock}
use Rattle.ppd_ast.proofs.ValidLaws.{stmt_in_body}

-- no cells are rising, and below any number
no_cells : (n : ℕ) → AreCells n []
no_cells n = record { rising = λ k h. absurd (omega (arith, h)); below = λ k d h. absurd (omega (arith, h)) }

all_none : {X : Type 0} (P : X → Type 0) → All P []
all_none P = λ k d h. absurd (omega (arith, h))

all_flat : {X A : Type 0} (P : A → Type 0) (f : X → List A) → ((x : X) → All P (f x)) → (xs : List X) → All P (flat_map f xs)
all_flat P f h [] = all_none P
all_flat P f h (x ∷ xs) = All-append P (f x) (flat_map f xs) (h x) (all_flat P f h xs)

all_if : {A : Type 0} (P : A → Type 0) (a : A) → P a → (b : Bool) → All P (if b then a ∷ [] else [])
all_if P a h true = All-cons P a [] h (all_none P)
all_if P a h false = all_none P

-- what holds for each body, by its number, from number j on
all_bodies : {A : Type 0} (P : A → Type 0) (f : ℕ → Body → List A) (j : ℕ) (bs : List Body) → ((i : ℕ) (b : Body) → slice_get bs i ≡ Some b → All P (f (j + i) b)) → All P (flat_map (λ e. f e.0 e.1) (enumerate_from j bs))
all_bodies P f j [] h = all_none P
all_bodies P f j (b ∷ bs) h =
    let here : j + 0 ≡ j = omega arith in
    All-append P (f j b) (flat_map (λ e. f e.0 e.1) (enumerate_from (j + 1) bs)) (subst (λ n. All P (f n b)) here (h 0 b refl))
    (all_bodies P f (j + 1) bs (λ i c e. let next : j + suc i ≡ j + 1 + i = omega arith in subst (λ n. All P (f n c)) next (h (suc i) c e)))

pub some_and_is : {X : Type 0} (P : X → Type 0) (o : Option X) (x : X) → o ≡ Some x → P x → IsSomeAnd o P
some_and_is P o x e h = subst (λ q. IsSomeAnd q P) (sym e) h

module _ (p : Program) (policy : Policy) (v : IsValid p) where
  abbrev IsGood : BlockKind → Type 0
  IsGood kind = IsValidBlock p (bare_block p.bodies kind)

  body_good : (i : ℕ) (b : Body) → slice_get p.bodies i ≡ Some b → (process : Bool) → IsGood (if process then Process i else Function i)
  body_good i b e true = record { prelog = refl; postlog = refl; value = refl }
  body_good i b e false = some_and_is (λ c. IsFunctionBlock c (bare_block p.bodies (Function i))) (slice_get p.bodies i) b e (record { prelog = no_cells b.params; postlog = refl; value = ap gives e })

  loop_good : (k : ℕ) (s : Stmt) → slice_get p.stmts k ≡ Some s → IsGood (Loop k)
  loop_good k s e =
      let w = stmt_in_body p k s v e in
      some_and_is (λ t. IsSomeAnd (slice_get p.bodies t.body) (λ b. IsLoopBlock b.cells (bare_block p.bodies (Loop k)))) (slice_get p.stmts k) s e
      (some_and_is (λ b. IsLoopBlock b.cells (bare_block p.bodies (Loop k))) (slice_get p.bodies s.body) w.0 w.1
      (record { prelog = no_cells w.0.cells; postlog = no_cells w.0.cells; value = refl }))

  loops_good : (k : ℕ) → All IsGood (loops_at p.stmts policy k)
  loops_good k = by_stmt (slice_get p.stmts k) refl
    where
      by_stmt : (o : Option Stmt) → slice_get p.stmts k ≡ o → All IsGood (loops_of p.stmts policy k o)
      by_stmt None e = all_none IsGood
      by_stmt (Some s) e = all_if IsGood (Loop k) (loop_good k s e) (is_block_loop p.stmts policy s)

  blocks_good : All IsGood (blocks_by p.stmts policy p.bodies)
  blocks_good = all_bodies IsGood (blocks_of p.stmts policy) 0 p.bodies (λ i b e.
      let at : i ≡ 0 + i = omega arith in
      subst (λ n. All IsGood (blocks_of p.stmts policy n b)) at
      (All-append IsGood (if is_block_body p.stmts policy b then body_kind i b ∷ [] else []) (flat_map (loops_at p.stmts policy) (numbers_of p.stmts b))
      (all_if IsGood (body_kind i b) (body_good i b e b.process) (is_block_body p.stmts policy b))
      (all_flat IsGood (loops_at p.stmts policy) loops_good (numbers_of p.stmts b))))

  same_kinds : (ks : List BlockKind) → map (λ (b : Block). b.kind) (map (bare_block p.bodies) ks) ≡ ks
  same_kinds [] = refl
  same_kinds (k ∷ ks) = ap (λ l. k ∷ l) (same_kinds ks)

  same_starts : (ss : List Start) → map (λ (u : UnitOf). u.start) (map bare_unit ss) ≡ ss
  same_starts [] = refl
  same_starts (s ∷ ss) = ap (λ l. s ∷ l) (same_starts ss)

  pub bare_valid : IsValidPolicy policy → IsValidPlan p (bare p policy)
  bare_valid h = record {
    policy = h;
    kinds = same_kinds (blocks_by p.stmts policy p.bodies);
    starts = same_starts (starts_by p.stmts policy p.bodies);
    blocks = All-map (IsValidBlock p) (bare_block p.bodies) (blocks_by p.stmts policy p.bodies) blocks_good;
    units = All-map (λ (u : UnitOf). AreCells (length p.starts) u.cells) bare_unit (starts_by p.stmts policy p.bodies) (λ k d l. no_cells (length p.starts));
  }
