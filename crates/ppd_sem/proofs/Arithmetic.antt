-- The 64-bit results of the checked operations.
use Rattle.std.proofs.Common.{◌≡◌, ℤ, pos, negsuc, true, w64, arith, FitsSigned}
use Rattle.std.proofs.lemmas.Bool.Decides.{nat_tests}
use Rattle.ppd_sem.specs.Ask.{is_in_64_bits}

pub fits-true : (z : ℤ) → FitsSigned w64 z → is_in_64_bits z ≡ true
fits-true (pos n) h = grind (arith, nat_tests)
fits-true (negsuc n) h = grind (arith, nat_tests)

pub true-fits : (z : ℤ) → is_in_64_bits z ≡ true → FitsSigned w64 z
true-fits (pos n) h = record { sfits = grind (arith, nat_tests) }
true-fits (negsuc n) h = record { sfits = grind (arith, nat_tests) }
