-- What marks say of the numbers that were met.
use Rattle.std.proofs.Common.{◌≡◌, ℕ, ◌+◌, ◌<◌, min, List, [], ◌∷◌, ◌++◌, length, get_or, cond, nat_eq, ap, sym, ◌∙◌, arith}
use Rattle.std.specs.List.{fold, count_by}
use Rattle.std.proofs.lemmas.List.Sums.{sum_by-cons, fold-append}
use Rattle.std.proofs.lemmas.Grind.{common_steps}
use Rattle.std.proofs.lemmas.Bool.Decides.{nat_tests}
use Rattle.ppd_ast.specs.Tally.{IsOnce}
use Rattle.test_valid.specs.Tally.{tally, more}

pub length-tally : (start : ℕ) (marks : List ℕ) (n : ℕ) → length (tally start marks n) ≡ length marks
length-tally start marks n = grind (arith, nat_tests, common_steps)

two_of_more : (m : ℕ) → min 2 (more m) ≡ min 2 (m + 1)
two_of_more m = grind (arith, nat_tests)

-- one number met
step : (start : ℕ) (marks : List ℕ) (n j : ℕ) → j < length marks
    → min 2 (get_or (tally start marks n) j 0) ≡ min 2 (get_or marks j 0 + cond (nat_eq (start + j) n) 1 0)
step start marks n j h = grind (arith, nat_tests, common_steps, two_of_more)

pub tallied : (start : ℕ) (marks us : List ℕ) (j : ℕ) → j < length marks
    → min 2 (get_or (fold (tally start) marks us) j 0) ≡ min 2 (get_or marks j 0 + count_by (nat_eq (start + j)) us)
tallied start marks [] j h = ap (min 2) (omega arith)
tallied start marks (u ∷ us) j h =
    let long : j < length (tally start marks u) = omega (arith, length-tally start marks u) in
    let rest : min 2 (get_or (fold (tally start) (tally start marks u) us) j 0) ≡ min 2 (get_or (tally start marks u) j 0 + count_by (nat_eq (start + j)) us) = tallied start (tally start marks u) us j long in
    let one : min 2 (get_or (tally start marks u) j 0) ≡ min 2 (get_or marks j 0 + cond (nat_eq (start + j) u) 1 0) = step start marks u j h in
    let all : min 2 (get_or (fold (tally start) (tally start marks u) us) j 0) ≡ min 2 (get_or marks j 0 + (cond (nat_eq (start + j) u) 1 0 + count_by (nat_eq (start + j)) us)) = omega (arith, rest, one) in
    all ∙ ap (λ n. min 2 (get_or marks j 0 + n)) (sym (sum_by-cons (λ x. cond (nat_eq (start + j) x) 1 0) u us))

-- marks that began at 0 are 1 just where the number was met once
pub once_iff : (start : ℕ) (marks us : List ℕ) (j : ℕ) → j < length marks → get_or marks j 0 ≡ 0
    → (get_or (fold (tally start) marks us) j 0 ≡ 1 → count_by (nat_eq (start + j)) us ≡ 1) × (count_by (nat_eq (start + j)) us ≡ 1 → get_or (fold (tally start) marks us) j 0 ≡ 1)
once_iff start marks us j h z =
    let t : min 2 (get_or (fold (tally start) marks us) j 0) ≡ min 2 (get_or marks j 0 + count_by (nat_eq (start + j)) us) = tallied start marks us j h in
    (λ e. omega (arith, t, e, z), λ e. omega (arith, t, e, z))

-- the same where the numbers come in two lists, at each of the marks
pub window_once : (start size : ℕ) (marks one both us vs : List ℕ) → ((j : ℕ) → j < size → get_or marks j 0 ≡ 0) → length marks ≡ size
    → one ≡ fold (tally start) marks us → both ≡ fold (tally start) one vs → (j : ℕ) → j < size
    → (get_or both j 0 ≡ 1 → IsOnce (us ++ vs) (start + j)) × (IsOnce (us ++ vs) (start + j) → get_or both j 0 ≡ 1)
window_once start size marks one both us vs clear long first second j h =
    let e : fold (tally start) marks (us ++ vs) ≡ both = fold-append (tally start) marks us vs ∙ ap (λ m. fold (tally start) m vs) (sym first) ∙ sym second in
    let k : j < length marks = omega arith in
    let iff = once_iff start marks (us ++ vs) j k (clear j h) in
    (λ r. iff.0 (ap (λ m. get_or m j 0) e ∙ r), λ o. ap (λ m. get_or m j 0) (sym e) ∙ iff.1 o)
