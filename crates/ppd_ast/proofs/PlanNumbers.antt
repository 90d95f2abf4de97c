-- How many blocks and units a valid plan has.
use Rattle.std.proofs.Common.{◌≡◌, ℕ, zero, suc, ◌+◌, ◌-◌, ◌*◌, ◌≤◌, min, Bool, true, false, List, [], ◌∷◌, ◌++◌, length, map, Option, Some, None, refl, ap, ◌∙◌, arith, length-append, if◌then◌else◌}
use Rattle.std.specs.Prelude.{slice_get}
use Rattle.std.specs.List.{flat_map, range_with_len, enumerate_from}
use Rattle.std.proofs.lemmas.List.{length-map}
use Rattle.ppd_ast.specs.declared.program.Stmt.{Stmt}
use Rattle.ppd_ast.specs.declared.program.Body.{Body}
use Rattle.ppd_ast.specs.declared.program.Program.{Program}
use Rattle.ppd_ast.specs.declared.plan.Policy.{Policy}
use Rattle.ppd_ast.specs.declared.plan.Plan.{Plan}
use Rattle.ppd_ast.specs.declared.plan.Block.{Block}
use Rattle.ppd_ast.specs.declared.plan.BlockKind.TheVariants.{Loop}
use Rattle.ppd_ast.specs.declared.plan.Start.TheVariants.{After, Enter, Exit}
use Rattle.ppd_ast.specs.declared.plan.Unit.{Unit as UnitOf}
use Rattle.ppd_ast.specs.Numbered.{is_left, is_block_loop, is_block_body, loops_at, starts_of, starts_at, blocks_of, blocks_by, body_starts, starts_by, numbers_of}
use Rattle.ppd_ast.proofs.Vocabulary.{body_kind}
use Rattle.ppd_ast.proofs.Vocabulary.{loops_of}
use Rattle.ppd_ast.specs.Valid.{IsValid, Follow}
use Rattle.ppd_ast.specs.ValidPlan.{IsValidPlan}

range_long : (a n : ℕ) → length (range_with_len a n) ≡ n
range_long a zero = refl
range_long a (suc n) = ap suc (range_long (a + 1) n)

-- at most c at each
flat_short : {X A : Type 0} (c : ℕ) (f : X → List A) → ((x : X) → length (f x) ≤ c) → (xs : List X) → length (flat_map f xs) ≤ c * length xs
flat_short c f h [] = omega arith
flat_short c f h (x ∷ xs) =
    let here : length (f x) ≤ c = h x in
    let rest : length (flat_map f xs) ≤ c * length xs = flat_short c f h xs in
    let both : length (f x ++ flat_map f xs) ≡ length (f x) + length (flat_map f xs) = length-append (f x) (flat_map f xs) in
    let more : c * suc (length xs) ≡ c + c * length xs = omega arith in
    omega (arith, here, rest, both, more)

-- the statements of a body, at most c at each
in_body : {A : Type 0} (c : ℕ) (f : ℕ → List A) → ((k : ℕ) → length (f k) ≤ c) → (stmts : List Stmt) (b : Body) → length (flat_map f (numbers_of stmts b)) ≤ c * (b.end - b.first)
in_body c f h stmts b =
    let n = min b.end (length stmts) - b.first in
    let short : length (flat_map f (range_with_len b.first n)) ≤ c * length (range_with_len b.first n) = flat_short c f h (range_with_len b.first n) in
    let long : c * length (range_with_len b.first n) ≡ c * n = ap (λ m. c * m) (range_long b.first n) in
    let less : n ≤ b.end - b.first = omega arith in
    let times : c * n ≤ c * (b.end - b.first) = times_less c n (b.end - b.first) less in
    omega (arith, short, long, times)
  where
    times_less : (c n m : ℕ) → n ≤ m → c * n ≤ c * m
    times_less c n m h =
        let e : m ≡ n + (m - n) = omega arith in
        let d : c * (n + (m - n)) ≡ c * n + c * (m - n) = omega arith in
        let g : c * m ≡ c * (n + (m - n)) = ap (λ k. c * k) e in
        omega (arith, d, g)

-- the bodies' ranges follow one another: at most one for each body and c for each statement
each_short : {A : Type 0} (c : ℕ) (f : ℕ → Body → List A) → ((j : ℕ) (b : Body) → length (f j b) ≤ 1 + c * (b.end - b.first))
    → (j n : ℕ) (bs : List Body) (end : ℕ) → Follow n bs end → (n ≤ end) × (length (flat_map (λ e. f e.0 e.1) (enumerate_from j bs)) ≤ length bs + c * (end - n))
each_short c f h j n [] end e = (omega arith, omega arith)
each_short c f h j n (b ∷ bs) end follow =
    let first : b.first ≡ n = follow.0 in
    let up : n ≤ b.end = follow.1 in
    let rest = each_short c f h (j + 1) b.end bs end follow.2 in
    let low : b.end ≤ end = rest.0 in
    let those : length (flat_map (λ e. f e.0 e.1) (enumerate_from (j + 1) bs)) ≤ length bs + c * (end - b.end) = rest.1 in
    let here : length (f j b) ≤ 1 + c * (b.end - b.first) = h j b in
    let same : c * (b.end - b.first) ≡ c * (b.end - n) = ap (λ m. c * (b.end - m)) first in
    let sum : end - n ≡ (b.end - n) + (end - b.end) = omega arith in
    let times : c * (end - n) ≡ c * (b.end - n) + c * (end - b.end) = ap (λ m. c * m) sum ∙ omega arith in
    let both : length (f j b ++ flat_map (λ e. f e.0 e.1) (enumerate_from (j + 1) bs)) ≡ length (f j b) + length (flat_map (λ e. f e.0 e.1) (enumerate_from (j + 1) bs)) = length-append (f j b) (flat_map (λ e. f e.0 e.1) (enumerate_from (j + 1) bs)) in
    (omega (arith, low, up), omega (arith, those, here, same, times, both))

module _ (stmts : List Stmt) (policy : Policy) where
  few_loops : (k : ℕ) → length (loops_at stmts policy k) ≤ 1
  few_loops k = by_stmt (slice_get stmts k)
    where
      by_test : (b : Bool) → length (if b then Loop k ∷ [] else []) ≤ 1
      by_test true = omega arith
      by_test false = omega arith

      by_stmt : (o : Option Stmt) → length (loops_of stmts policy k o) ≤ 1
      by_stmt None = omega arith
      by_stmt (Some s) = by_test (is_block_loop stmts policy s)

  few_starts : (k : ℕ) → length (starts_at stmts policy k) ≤ 2
  few_starts k = by_stmt (slice_get stmts k)
    where
      by_tests : (a b : Bool) → length (if a then After k ∷ [] else if b then Enter k ∷ Exit k ∷ [] else []) ≤ 2
      by_tests true b = omega arith
      by_tests false true = omega arith
      by_tests false false = omega arith

      by_stmt : (o : Option Stmt) → length (starts_of stmts policy k o) ≤ 2
      by_stmt None = omega arith
      by_stmt (Some s) = by_tests (is_left s.kind) (is_block_loop stmts policy s)

  few_blocks : (j : ℕ) (b : Body) → length (blocks_of stmts policy j b) ≤ 1 + 1 * (b.end - b.first)
  few_blocks j b =
      let loops : length (flat_map (loops_at stmts policy) (numbers_of stmts b)) ≤ 1 * (b.end - b.first) = in_body 1 (loops_at stmts policy) few_loops stmts b in
      let own : length (if is_block_body stmts policy b then body_kind j b ∷ [] else []) ≤ 1 = by_test (is_block_body stmts policy b) in
      let both : length (blocks_of stmts policy j b) ≡ length (if is_block_body stmts policy b then body_kind j b ∷ [] else []) + length (flat_map (loops_at stmts policy) (numbers_of stmts b)) =
      length-append (if is_block_body stmts policy b then body_kind j b ∷ [] else []) (flat_map (loops_at stmts policy) (numbers_of stmts b)) in
      omega (arith, loops, own, both)
    where
      by_test : (t : Bool) → length (if t then body_kind j b ∷ [] else []) ≤ 1
      by_test true = omega arith
      by_test false = omega arith

  few_units : (j : ℕ) (b : Body) → length (body_starts stmts policy j b) ≤ 1 + 2 * (b.end - b.first)
  few_units j b =
      let those : length (flat_map (starts_at stmts policy) (numbers_of stmts b)) ≤ 2 * (b.end - b.first) = in_body 2 (starts_at stmts policy) few_starts stmts b in
      omega (arith, those)

-- a valid plan has at most a block for each body and each statement, and a unit for each body and two for each statement
module _ (p : Program) (plan : Plan) (v : IsValid p) (h : IsValidPlan p plan) where
  pub few_plan_blocks : length plan.blocks ≤ length p.bodies + length p.stmts
  few_plan_blocks =
      let w = each_short 1 (blocks_of p.stmts plan.policy) (few_blocks p.stmts plan.policy) 0 0 p.bodies (length p.stmts) v.ranges in
      let short : length (blocks_by p.stmts plan.policy p.bodies) ≤ length p.bodies + 1 * (length p.stmts - 0) = w.1 in
      let same : length (map (λ (b : Block). b.kind) plan.blocks) ≡ length (blocks_by p.stmts plan.policy p.bodies) = ap length h.kinds in
      omega (arith, short, same, length-map plan.blocks (λ (b : Block). b.kind))

  pub few_plan_units : length plan.units ≤ length p.bodies + 2 * length p.stmts
  few_plan_units =
      let w = each_short 2 (body_starts p.stmts plan.policy) (few_units p.stmts plan.policy) 0 0 p.bodies (length p.stmts) v.ranges in
      let short : length (starts_by p.stmts plan.policy p.bodies) ≤ length p.bodies + 2 * (length p.stmts - 0) = w.1 in
      let same : length (map (λ (u : UnitOf). u.start) plan.units) ≡ length (starts_by p.stmts plan.policy p.bodies) = ap length h.starts in
      omega (arith, short, same, length-map plan.units (λ (u : UnitOf). u.start))
