-- Powers of ten, one more digit at a time.
use Rattle.std.proofs.Common.{◌≡◌, ℕ, ◌+◌, ◌*◌, ◌^◌, ◌∙◌, ap, arith}
use Rattle.std.proofs.Math.Nat.{pow-succ'}

pub ten-more : (i : ℕ) → 10 ^ (i + 1) ≡ 10 * 10 ^ i
ten-more i = ap (λ j. 10 ^ j) (omega arith) ∙ pow-succ' 10 i
