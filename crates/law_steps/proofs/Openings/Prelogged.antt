-- At an opening the prelog's values are those of the frame, and what the block uses beside them is zero.
use Rattle.std.proofs.Common.{◌≡◌, ℕ, zero, suc, ◌+◌, ◌-◌, ◌<◌, ◌≤◌, ℤ, pos, List, [], ◌∷◌, ◌++◌, Some, None, refl, ap, sym, subst, ◌∙◌, arith, inl, inr, length, map}
use Rattle.std.specs.Prelude.{IsTrue, replicate, slice_get, get_or}
use Rattle.std.specs.List.{range_with_len}
use Rattle.std.proofs.lemmas.Bool.{cases_lt}
use Rattle.std.proofs.lemmas.List.{get_or_append_left}
use Rattle.ppd_ast.specs.declared.plan.BlockKind.{BlockKind}
use Rattle.ppd_ast.specs.declared.plan.BlockKind.TheVariants as block
use Rattle.ppd_ast.specs.declared.plan.Plan.{Plan}
use Rattle.ppd_sem.specs.Blocks.{block_body, prelog_cells}
use Rattle.ppd_ast.specs.declared.program.Program.{Program}
use Rattle.ppd_ast.specs.Members.{has}
use Rattle.ppd_ast.proofs.Members.{in_bounds_has}
use Rattle.ppd_ast.proofs.Vocabulary.{params_of_body}
use Rattle.ppd_blocks.specs.Blocks.{prelog_of}
use Rattle.ppd_blocks.proofs.Vocabulary.{params_of}
use Rattle.ppd_sem.specs.declared.proc.Frame.{Frame}
use Rattle.ppd_sem.specs.Process.{new_frame}
use Rattle.ppd_sem.proofs.NeedWords.{cells_for}
use Rattle.law_steps.proofs.Vocabulary.Held.{Among}
use Rattle.law_steps.proofs.Openings.Blocks.{IsBodyThere, used_in}
use Rattle.law_steps.proofs.Facts.Loops.{among}
use Rattle.law_steps.proofs.Openings.Opened.{IsMarkedBy}

zero_at : (n c : ℕ) → get_or (replicate n (pos 0)) c (pos 0) ≡ pos 0
zero_at zero c = refl
zero_at (suc n) zero = refl
zero_at (suc n) (suc c) = zero_at n c

zero_past : (xs : List ℤ) (n c : ℕ) → length xs ≤ c → get_or (xs ++ replicate n (pos 0)) c (pos 0) ≡ pos 0
zero_past [] n c le = zero_at n c
zero_past (x ∷ xs) n zero le = absurd (omega arith)
zero_past (x ∷ xs) n (suc c) le = zero_past xs n c (omega arith)

values_from : (f : ℕ → ℤ) (a : ℕ) (xs : List ℤ) → ((k : ℕ) → k < length xs → f (a + k) ≡ get_or xs k (pos 0))
    → map f (range_with_len a (length xs)) ≡ xs
values_from f a [] h = refl
values_from f a (x ∷ xs) h =
    let here : a ≡ a + 0 = omega arith in
    ap (λ v. v ∷ map f (range_with_len (a + 1) (length xs))) (ap f here ∙ h 0 (omega arith))
    ∙ ap (λ vs. x ∷ vs) (values_from f (a + 1) xs
    (λ k lt. (let next : (a + 1) + k ≡ a + suc k = omega arith in ap f next ∙ h (suc k) (omega (arith, lt)))))

first_values : (xs ys : List ℤ) (n : ℕ) → length xs ≡ n → map (λ c. get_or (xs ++ ys) c (pos 0)) (range_with_len 0 n) ≡ xs
first_values xs ys n e =
    ap (λ m. map (λ c. get_or (xs ++ ys) c (pos 0)) (range_with_len 0 m)) (sym e)
    ∙ values_from (λ c. get_or (xs ++ ys) c (pos 0)) 0 xs
    (λ k lt. (let same : 0 + k ≡ k = omega arith in ap (λ c. get_or (xs ++ ys) c (pos 0)) same ∙ get_or_append_left xs ys
    (pos 0) k lt))

-- the cells of the prelog, by the kind of the block
pub prelogged_values : (program : Program) (kind : BlockKind) (frame : Frame) (values : List ℤ) (plan : Plan)
    (number : ℕ) → IsBodyThere program kind → prelog_cells plan number ≡ prelog_of program kind
    → IsMarkedBy program plan kind frame number values
    → values ≡ map (λ c. get_or frame.cells c (pos 0)) (prelog_cells plan number)
prelogged_values program (block.Loop q) frame values plan number there is m = m
prelogged_values program (block.Process f) frame values plan number there is m =
    m.0 ∙ ap (map (λ c. get_or frame.cells c (pos 0))) (sym is)
prelogged_values program (block.Function f) frame values plan number there is m =
    let cells : List ℕ = prelog_cells plan number in
    let body : slice_get program.bodies f ≡ Some there.0 = there.1 in
    let own : frame.cells ≡ values ++ replicate (there.0.cells - length values) (pos 0) =
    m.0 ∙ ap (λ o. cells_for o values) body in
    let count : length values ≡ there.0.params = m.1 ∙ ap params_of_body body in
    let listed : cells ≡ range_with_len 0 there.0.params = is ∙ ap params_of body in
    sym (ap (λ xs. map (λ c. get_or xs c (pos 0)) cells) own
    ∙ ap (map (λ c. get_or (values ++ replicate (there.0.cells - length values) (pos 0)) c (pos 0))) listed
    ∙ first_values values (replicate (there.0.cells - length values) (pos 0)) there.0.params count)

-- what a block uses beside its prelog is zero
pub others_zero : (program : Program) (kind : BlockKind) (frame : Frame) (values : List ℤ) (plan : Plan)
    (number c : ℕ) → IsBodyThere program kind → prelog_cells plan number ≡ prelog_of program kind
    → IsMarkedBy program plan kind frame number values → used_in program kind c
    → (Among (prelog_cells plan number) c → ⊥)
    → get_or frame.cells c (pos 0) ≡ get_or (new_frame program (block_body program kind) [] None).cells c (pos 0)
others_zero program (block.Loop q) frame values plan number c there is m used other =
    absurd (other (among (prelog_cells plan number) c (subst (λ cs. IsTrue (has cs c)) (sym is) used)))
others_zero program (block.Process f) frame values plan number c there is m used other = ap (λ xs. get_or xs c (pos 0)) m.1
others_zero program (block.Function f) frame values plan number c there is m used other =
    let cells : List ℕ = prelog_cells plan number in
    let body : slice_get program.bodies f ≡ Some there.0 = there.1 in
    let own : frame.cells ≡ values ++ replicate (there.0.cells - length values) (pos 0) =
    m.0 ∙ ap (λ o. cells_for o values) body in
    let zeros : (new_frame program f [] None).cells ≡ replicate (there.0.cells - 0) (pos 0) =
    ap (λ o. cells_for o []) body in
    let count : length values ≡ there.0.params = m.1 ∙ ap params_of_body body in
    let listed : cells ≡ range_with_len 0 there.0.params = is ∙ ap params_of body in
    elim (cases_lt c there.0.params) [
      | inl low ↦ absurd (other
          (among cells c (subst (λ cs. IsTrue (has cs c)) (sym listed)
          (in_bounds_has 0 there.0.params c (omega arith) (omega (arith, low))))))
      | inr high ↦ ap (λ xs. get_or xs c (pos 0)) own ∙ zero_past values (there.0.cells - length values) c
          (omega (arith, count, high)) ∙ sym (ap (λ xs. get_or xs c (pos 0)) zeros ∙ zero_at (there.0.cells - 0) c)
    ]
