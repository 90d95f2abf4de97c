-- Variables that each have a cell, and share none, are no more than the cells.
use Rattle.std.proofs.Common.{◌≡◌, ℕ, zero, suc, ◌+◌, ◌<◌, ◌≤◌, true, cond, List, [], ◌∷◌, Option, Some, None, length, refl, sym, ap, ◌∙◌, arith, inl, inr}
use Rattle.std.specs.Prelude.{count_by, nat_le, nat_lt, slice_get, unwrap_or}
use Rattle.std.specs.List.{All}
use Rattle.std.proofs.lemmas.Bool.{and_from, cases_eq, cond-true, le-leb, lt-ltb}
use Rattle.std.proofs.lemmas.List.Sums.{sum_by-append}
use Rattle.ppd_ast.specs.Cells.{CoverCells, after, holds}
use Rattle.ppd_ast.specs.Valid.{IsValid, IsValidBody}
use Rattle.ppd_ast.specs.declared.program.Body.{Body}
use Rattle.ppd_ast.specs.declared.program.Program.{Program}
use Rattle.ppd_ast.specs.declared.program.Var.{Var}
use Rattle.ppd_ast.proofs.ValidLaws.{valid_body}
use Rattle.ppd_ast.proofs.Vocabulary.{locals_of_body}
use Rattle.ppd_ast.specs.Counting.{one_if}
use Rattle.ppd_ast.specs.declared.limits.TheConstants.{MOST_SHARED_CELLS, MOST_LOCAL_CELLS}
use Rattle.law_steps.specs.Sound.{HaveCells, VariablesAreFew}

-- ---- how often the cells below n are held

total : ℕ → List Var → ℕ
total zero vs = 0
total (suc n) vs = total n vs + count_by (holds n) vs

-- by one variable
hits : ℕ → Var → ℕ
hits zero x = 0
hits (suc n) x = hits n x + one_if (holds n x)

count_more : (c : ℕ) (x : Var) (vs : List Var) → count_by (holds c) (x ∷ vs) ≡ one_if (holds c x) + count_by (holds c) vs
count_more c x vs =
    let e : count_by (holds c) (x ∷ vs) ≡ (0 + one_if (holds c x)) + count_by (holds c) vs = sum_by-append (λ y. cond (holds c y) 1 0) (x ∷ []) vs in
    omega arith

total_more : (n : ℕ) (x : Var) (vs : List Var) → total n (x ∷ vs) ≡ hits n x + total n vs
unfolding total hits
total_more zero x vs = refl
total_more (suc n) x vs =
    let e : total n (x ∷ vs) ≡ hits n x + total n vs = total_more n x vs in
    let c : count_by (holds n) (x ∷ vs) ≡ one_if (holds n x) + count_by (holds n) vs = count_more n x vs in
    omega arith

-- each cell is held once
total_is : (n : ℕ) (vs : List Var) → ((c : ℕ) → c < n → count_by (holds c) vs ≡ 1) → total n vs ≡ n
unfolding total
total_is zero vs once = refl
total_is (suc n) vs once =
    let e : total n vs ≡ n = total_is n vs (λ c lt. once c (omega arith)) in
    let one : count_by (holds n) vs ≡ 1 = once n (omega arith) in
    omega arith

hit : (n c : ℕ) (x : Var) → c < n → holds c x ≡ true → 1 ≤ hits n x
unfolding hits
hit zero c x lt h = absurd (omega arith)
hit (suc n) c x lt h = elim (cases_eq c n) [
  | inl same ↦
      let one : one_if (holds n x) ≡ 1 = cond-true (holds n x) 1 0 (ap (λ i. holds i x) (sym same) ∙ h) in
      omega arith
  | inr other ↦ (let more : 1 ≤ hits n x = hit n c x (omega arith) h in omega arith)
]

-- ---- each variable holds one

first_held : (n : ℕ) (x : Var) → after x ≤ n → 0 < unwrap_or x.len 1 → 1 ≤ hits n x
first_held n x within some =
    let end : x.base + unwrap_or x.len 1 ≤ n = within in
    hit n x.base x (omega arith) (and_from (nat_le x.base x.base) (nat_lt x.base (after x)) (le-leb x.base x.base (omega arith)) (lt-ltb x.base (after x) (omega arith)))

long : (n : ℕ) (vs : List Var) → All (λ x. after x ≤ n) vs → HaveCells vs → length vs ≤ total n vs
long n [] within have = omega arith
long n (x ∷ vs) within have =
    let one : 1 ≤ hits n x = first_held n x (within 0 x (omega arith)) (have 0 x (omega arith)) in
    let rest : length vs ≤ total n vs = long n vs (λ k d lt. within (suc k) d (omega arith)) (λ k d lt. have (suc k) d (omega arith)) in
    let e : total n (x ∷ vs) ≡ hits n x + total n vs = total_more n x vs in
    omega arith

few : (n : ℕ) (vs : List Var) → CoverCells vs n → HaveCells vs → length vs ≤ n
few n vs covers have =
    let l : length vs ≤ total n vs = long n vs covers.within have in
    let e : total n vs ≡ n = total_is n vs covers.once in
    omega arith

locals_few : (p : Program) (b : ℕ) (o : Option Body) → IsValid p → slice_get p.bodies b ≡ o → HaveCells (locals_of_body o) → length (locals_of_body o) ≤ MOST_LOCAL_CELLS
locals_few p b None v at have = omega arith
locals_few p b (Some x) v at have =
    let valid : IsValidBody p b x = valid_body p b x v at in
    let l : length x.locals ≤ x.cells = few x.cells x.locals valid.cells have in
    let frame : x.cells ≤ MOST_LOCAL_CELLS = valid.frame in
    omega arith

pub variables_few : VariablesAreFew
variables_few p v = record {
  shared = λ have. (let l : length p.shared ≤ length p.starts = few (length p.starts) p.shared v.cells have in let most : length p.starts ≤ MOST_SHARED_CELLS = v.limits.starts in omega arith);
  local = λ b have. locals_few p b (slice_get p.bodies b) v refl have;
}
