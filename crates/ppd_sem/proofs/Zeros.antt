-- Zeros at cells that follow one another, with one more.
use Rattle.std.proofs.Common.{◌≡◌, ℕ, zero, suc, ◌+◌, ℤ, pos, List, [], ◌∷◌, ◌++◌, ap, ◌∙◌, arith}
use Rattle.std.specs.Prelude.{replicate, slice_set}
use Rattle.std.specs.List.{range_with_len}
use Rattle.ppd_sem.specs.declared.event.Access.{Access}
use Rattle.ppd_sem.specs.declared.event.Spot.TheVariants as spot
use Rattle.ppd_sem.specs.Process.{with_values}
use Rattle.ppd_sem.specs.Reads.{local_accesses}

zeros_set : (base n : ℕ) (cells : List ℤ) → with_values (range_with_len base (suc n)) (replicate (suc n) (pos 0)) cells ≡ slice_set (with_values (range_with_len base n) (replicate n (pos 0)) cells) (base + n) (pos 0)
zeros_set base zero cells = let here : base ≡ base + 0 = omega arith in ap (λ c. slice_set cells c (pos 0)) here
zeros_set base (suc n) cells =
    let next : base + 1 + n ≡ base + suc n = omega arith in
    zeros_set (base + 1) n (slice_set cells base (pos 0))
    ∙ ap (λ c. slice_set (with_values (range_with_len (base + 1) n) (replicate n (pos 0)) (slice_set cells base (pos 0))) c (pos 0)) next

-- written to the cells
pub zeros_written : (base n : ℕ) (cells : List ℤ) → with_values (range_with_len base (n + 1)) (replicate (n + 1) (pos 0)) cells ≡ slice_set (with_values (range_with_len base n) (replicate n (pos 0)) cells) (base + n) (pos 0)
zeros_written base n cells =
    let more : n + 1 ≡ suc n = omega arith in
    ap (λ k. with_values (range_with_len base k) (replicate k (pos 0)) cells) more ∙ zeros_set base n cells

-- as accesses
pub zeros_accessed : (frame base n : ℕ) → local_accesses frame base (replicate (suc n) (pos 0)) ≡ local_accesses frame base (replicate n (pos 0)) ++ local_accesses frame (base + n) (pos 0 ∷ [])
zeros_accessed frame base zero =
    let here : base ≡ base + 0 = omega arith in ap (λ c. local_accesses frame c (pos 0 ∷ [])) here
zeros_accessed frame base (suc n) =
    let next : base + 1 + n ≡ base + suc n = omega arith in
    ap (λ (ws : List Access). record { spot = spot.Local frame base; value = pos 0 } ∷ ws)
    (zeros_accessed frame (base + 1) n
    ∙ ap (λ c. local_accesses frame (base + 1) (replicate n (pos 0)) ++ local_accesses frame c (pos 0 ∷ [])) next)

pub one_more_accessed : (frame base n : ℕ) → local_accesses frame base (replicate (n + 1) (pos 0)) ≡ local_accesses frame base (replicate n (pos 0)) ++ local_accesses frame (base + n) (pos 0 ∷ [])
one_more_accessed frame base n =
    let more : n + 1 ≡ suc n = omega arith in
    ap (λ k. local_accesses frame base (replicate k (pos 0))) more ∙ zeros_accessed frame base n
