-- The end of a comment, one byte at a time.
use Rattle.std.proofs.Common.{◌≡◌, ◌<◌, ℕ, ◌+◌, ◌-◌, List, ◌∷◌, length, drop, take, get_or, false, cond, sym, ◌∙◌, ap, arith, drop-cons, add-one, length-drop, nat_eq, Some}
use Rattle.std.specs.Prelude.{codes}
use Rattle.std.specs.List.{starts_with}
use Rattle.std.proofs.Math.Seq.{take-length}
use Rattle.ppd_parse.specs.Front.{close_from}

pub rest_of : (bs : List ℕ) (i : ℕ) → take (length bs - i) (drop i bs) ≡ drop i bs
rest_of bs i = ap (λ n. take n (drop i bs)) (sym (length-drop i bs)) ∙ take-length (drop i bs)

head_on : (n : ℕ) (xs : List ℕ) (b : ℕ) (ys : List ℕ) → xs ≡ b ∷ ys → starts_with nat_eq xs (codes "*/") ≡ false → close_from n xs ≡ close_from (n + 1) ys
head_on n xs b ys e f = ap (close_from n) e ∙ ap (λ t. cond t (Some (n + 2)) (close_from (n + 1) ys)) (sym (ap (λ zs. starts_with nat_eq zs (codes "*/")) e) ∙ f)

pub close_more : (before i : ℕ) (bs : List ℕ) → i < length bs → false ≡ starts_with nat_eq (take (length bs - i) (drop i bs)) (codes "*/") → close_from (before + i) (drop i bs) ≡ close_from (before + (i + 1)) (drop (i + 1) bs)
close_more before i bs h f =
    let one : drop i bs ≡ get_or bs i 0 ∷ drop (i + 1) bs = rw (add-one, drop-cons bs i 0) in
    let sum : (before + i) + 1 ≡ before + (i + 1) = omega arith in
    head_on (before + i) (drop i bs) (get_or bs i 0) (drop (i + 1) bs) one (sym (f ∙ ap (λ zs. starts_with nat_eq zs (codes "*/")) (rest_of bs i))) ∙ ap (λ n. close_from n (drop (i + 1) bs)) sum
