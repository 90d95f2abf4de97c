-- The block loops, and that the units start where the policy says.
use Rattle.std.proofs.Common.{◌≡◌, ℕ, ◌+◌, List, [], ◌∷◌, ◌++◌, Bool, true, false, Option, Some, None, refl, sym, ap, ◌∙◌, subst, inl, inr, true≢false}
use Rattle.std.specs.Prelude.{IsTrue, slice_get, if◌then◌else◌}
use Rattle.std.specs.List.{flat_map, enumerate_from}
use Rattle.std.proofs.lemmas.Bool.{cases_Bool}
use Rattle.std.proofs.lemmas.Grind.{flat_map-append}
use Rattle.ppd_ast.specs.declared.program.Stmt.{Stmt}
use Rattle.ppd_ast.specs.declared.program.Body.{Body}
use Rattle.ppd_ast.specs.declared.program.Program.{Program}
use Rattle.ppd_ast.specs.declared.plan.Policy.{Policy}
use Rattle.ppd_ast.specs.declared.plan.BlockKind.TheVariants.{Function, Process, Loop}
use Rattle.ppd_ast.specs.declared.plan.Start.TheVariants.{Entry, After, Enter, Exit}
use Rattle.ppd_ast.specs.Numbered.{is_left, is_block_loop, is_block_body, loops_at, blocks_of, starts_of, body_starts, starts_by, numbers_of}
use Rattle.ppd_ast.proofs.Vocabulary.{body_kind}
use Rattle.ppd_ast.proofs.Vocabulary.{loops_of}
use Rattle.ppd_ast.specs.Numbered.{starts_at as starts_of_policy}
use Rattle.ppd_ast.specs.Members.{has}
use Rattle.ppd_ast.proofs.Vocabulary.{kind_of_stmt}
use Rattle.ppd_ast.proofs.Members.{has_first, has_cons, has_left, has_right, has_cases}
use Rattle.ppd_blocks.specs.Starts.{unit_starts_at}
use Rattle.ppd_blocks.proofs.Vocabulary.{starts_in, all_starts, block_loops}
use Rattle.ppd_blocks.specs.Blocks.{loop_in}

module _ (p : Program) (policy : Policy) where
  -- statement k is a block loop
  unfoldable pub IsLoop : ℕ → Type 0
  IsLoop k = (s : Stmt) × (slice_get p.stmts k ≡ Some s) × (is_block_loop p.stmts policy s ≡ true)

  -- the loops of the blocks of these numbers of statements, and of these bodies
  loops_in : List ℕ → List ℕ
  loops_in ns = flat_map loop_in (flat_map (loops_at p.stmts policy) ns)

  loops_by : ℕ → List Body → List ℕ
  loops_by j bs = flat_map loop_in (flat_map (λ e. blocks_of p.stmts policy e.0 e.1) (enumerate_from j bs))

  -- ---- each is a block loop

  of_test : (n k : ℕ) (s : Stmt) (b : Bool) → slice_get p.stmts n ≡ Some s → is_block_loop p.stmts policy s ≡ b → IsTrue (has (flat_map loop_in (if b then Loop n ∷ [] else [])) k) → IsLoop k
  unfolding IsLoop
  of_test n k s true at is h = elim (has_cons n k [] h) [
    | inl e ↦ (s, subst (λ m. slice_get p.stmts m ≡ Some s) e at, is)
    | inr f ↦ absurd (true≢false (sym f))
  ]
  of_test n k s false at is h = absurd (true≢false (sym h))

  of_stmt : (n k : ℕ) (o : Option Stmt) → slice_get p.stmts n ≡ o → IsTrue (has (flat_map loop_in (loops_of p.stmts policy n o)) k) → IsLoop k
  of_stmt n k None at h = absurd (true≢false (sym h))
  of_stmt n k (Some s) at h = of_test n k s (is_block_loop p.stmts policy s) at refl h

  of_numbers : (ns : List ℕ) (k : ℕ) → IsTrue (has (loops_in ns) k) → IsLoop k
  unfolding loops_in
  of_numbers [] k h = absurd (true≢false (sym h))
  of_numbers (n ∷ ns) k h =
      elim (has_cases (flat_map loop_in (loops_at p.stmts policy n)) (loops_in ns) k
      (subst (λ xs. IsTrue (has xs k)) (flat_map-append loop_in (loops_at p.stmts policy n) (flat_map (loops_at p.stmts policy) ns)) h)) [
        | inl l ↦ of_stmt n k (slice_get p.stmts n) refl l
        | inr r ↦ of_numbers ns k r
      ]

  no_loop : (j : ℕ) (b : Body) (process block : Bool) → flat_map loop_in (if block then (if process then Process j else Function j) ∷ [] else []) ≡ []
  no_loop j b true true = refl
  no_loop j b false true = refl
  no_loop j b process false = refl

  body_loops : (j : ℕ) (b : Body) → flat_map loop_in (blocks_of p.stmts policy j b) ≡ loops_in (numbers_of p.stmts b)
  unfolding loops_in
  body_loops j b =
      flat_map-append loop_in (if is_block_body p.stmts policy b then body_kind j b ∷ [] else []) (flat_map (loops_at p.stmts policy) (numbers_of p.stmts b))
      ∙ ap (λ l. l ++ flat_map loop_in (flat_map (loops_at p.stmts policy) (numbers_of p.stmts b))) (no_loop j b b.process (is_block_body p.stmts policy b))

  cons_loops : (j : ℕ) (b : Body) (bs : List Body) → loops_by j (b ∷ bs) ≡ loops_in (numbers_of p.stmts b) ++ loops_by (j + 1) bs
  unfolding loops_by
  cons_loops j b bs =
      flat_map-append loop_in (blocks_of p.stmts policy j b) (flat_map (λ e. blocks_of p.stmts policy e.0 e.1) (enumerate_from (j + 1) bs))
      ∙ ap (λ l. l ++ flat_map loop_in (flat_map (λ e. blocks_of p.stmts policy e.0 e.1) (enumerate_from (j + 1) bs))) (body_loops j b)

  no_bodies : (j k : ℕ) → IsTrue (has (loops_by j []) k) → false ≡ true
  unfolding loops_by
  no_bodies j k h = h

  of_bodies : (j : ℕ) (bs : List Body) (k : ℕ) → IsTrue (has (loops_by j bs) k) → IsLoop k
  of_bodies j [] k h = absurd (true≢false (sym (no_bodies j k h)))
  of_bodies j (b ∷ bs) k h =
      elim (has_cases (loops_in (numbers_of p.stmts b)) (loops_by (j + 1) bs) k (subst (λ xs. IsTrue (has xs k)) (cons_loops j b bs) h)) [
        | inl l ↦ of_numbers (numbers_of p.stmts b) k l
        | inr r ↦ of_bodies (j + 1) bs k r
      ]

  -- ---- so the units start where the policy says

  module _ (loops : List ℕ) (sound : (k : ℕ) → IsTrue (has loops k) → IsLoop k) where
    false_by : (k : ℕ) → (IsLoop k → ⊥) → has loops k ≡ false
    false_by k f = elim (cases_Bool (has loops k)) [ inl e ↦ absurd (f (sound k e)) | inr e ↦ e ]

    none_loop : (k : ℕ) → slice_get p.stmts k ≡ None → IsLoop k → ⊥
    unfolding IsLoop
    none_loop k at l = cc (at, l.1)

    other_loop : (k : ℕ) (s : Stmt) → slice_get p.stmts k ≡ Some s → is_block_loop p.stmts policy s ≡ false → IsLoop k → ⊥
    unfolding IsLoop
    other_loop k s at none l =
        let same : Some l.0 ≡ Some s = sym l.1 ∙ at in
        let is : l.0 ≡ s = cc in
        true≢false (sym l.2 ∙ ap (is_block_loop p.stmts policy) is ∙ none)

    starts_at_stmt : (k : ℕ) (o : Option Stmt) → slice_get p.stmts k ≡ o → ((i : ℕ) → IsTrue (has (flat_map loop_in (loops_of p.stmts policy k o)) i) → IsTrue (has loops i)) →
        (if is_left (kind_of_stmt o) then After k ∷ [] else if has loops k then Enter k ∷ Exit k ∷ [] else []) ≡ starts_of p.stmts policy k o
    starts_at_stmt k None at there = ap (λ b. if b then Enter k ∷ Exit k ∷ [] else []) (false_by k (none_loop k at))
    starts_at_stmt k (Some s) at there =
        ap (λ b. if is_left s.kind then After k ∷ [] else if b then Enter k ∷ Exit k ∷ [] else []) (same_test (is_block_loop p.stmts policy s) refl)
      where
        same_test : (b : Bool) → is_block_loop p.stmts policy s ≡ b → has loops k ≡ is_block_loop p.stmts policy s
        same_test true e = there k (subst (λ b. IsTrue (has (flat_map loop_in (if b then Loop k ∷ [] else [])) k)) (sym e) (has_first k [])) ∙ sym e
        same_test false e = false_by k (other_loop k s at e) ∙ sym e

    starts_of_numbers : (ns : List ℕ) → ((i : ℕ) → IsTrue (has (loops_in ns) i) → IsTrue (has loops i)) → flat_map (unit_starts_at p loops) ns ≡ flat_map (starts_of_policy p.stmts policy) ns
    unfolding loops_in
    starts_of_numbers [] there = refl
    starts_of_numbers (n ∷ ns) there =
        let both : flat_map loop_in (flat_map (loops_at p.stmts policy) (n ∷ ns)) ≡ flat_map loop_in (loops_at p.stmts policy n) ++ loops_in ns = flat_map-append loop_in (loops_at p.stmts policy n) (flat_map (loops_at p.stmts policy) ns) in
        ap (λ l. l ++ flat_map (unit_starts_at p loops) ns) (starts_at_stmt n (slice_get p.stmts n) refl (λ i h. there i (subst (λ xs. IsTrue (has xs i)) (sym both) (has_left (flat_map loop_in (loops_at p.stmts policy n)) (loops_in ns) i h))))
        ∙ ap (λ l. starts_of_policy p.stmts policy n ++ l) (starts_of_numbers ns (λ i h. there i (subst (λ xs. IsTrue (has xs i)) (sym both) (has_right (flat_map loop_in (loops_at p.stmts policy n)) (loops_in ns) i h))))

    starts_of_bodies : (j : ℕ) (bs : List Body) → ((i : ℕ) → IsTrue (has (loops_by j bs) i) → IsTrue (has loops i)) → flat_map (λ e. starts_in p loops e.0 e.1) (enumerate_from j bs) ≡ flat_map (λ e. body_starts p.stmts policy e.0 e.1) (enumerate_from j bs)
    starts_of_bodies j [] there = refl
    starts_of_bodies j (b ∷ bs) there =
        let both : loops_by j (b ∷ bs) ≡ loops_in (numbers_of p.stmts b) ++ loops_by (j + 1) bs = cons_loops j b bs in
        ap (λ l. (Entry j ∷ l) ++ flat_map (λ e. starts_in p loops e.0 e.1) (enumerate_from (j + 1) bs)) (starts_of_numbers (numbers_of p.stmts b) (λ i h. there i (subst (λ xs. IsTrue (has xs i)) (sym both) (has_left (loops_in (numbers_of p.stmts b)) (loops_by (j + 1) bs) i h))))
        ∙ ap (λ l. body_starts p.stmts policy j b ++ l) (starts_of_bodies (j + 1) bs (λ i h. there i (subst (λ xs. IsTrue (has xs i)) (sym both) (has_right (loops_in (numbers_of p.stmts b)) (loops_by (j + 1) bs) i h))))

  pub by_policy : (k : ℕ) → IsTrue (has (block_loops p policy) k) → IsLoop k
  unfolding loops_by
  by_policy k h = of_bodies 0 p.bodies k h

  all_there : (k : ℕ) → IsTrue (has (loops_by 0 p.bodies) k) → IsTrue (has (block_loops p policy) k)
  unfolding loops_by
  all_there k h = h

  pub starts_are : all_starts p (block_loops p policy) ≡ starts_by p.stmts policy p.bodies
  starts_are = starts_of_bodies (block_loops p policy) by_policy 0 p.bodies all_there
