-- The texts of pipelines keep the limits of the grammar, and end once.
use Rattle.std.proofs.Common.{◌≡◌, ◌<◌, ◌+◌, ℕ, zero, suc, true, refl, arith}
use Rattle.ppd_parse.specs.declared.token.Token.{Token}
use Rattle.ppd_parse.specs.Trees.{outside}
use Rattle.ppd_top_drill.proofs.Derivations.{marks}
use Rattle.ppd_top_drill.proofs.Trees.{keep_limits}
use Rattle.ppd_top_drill.proofs.Pipelines.{source_of}

module _ (w : ℕ → Token) (m n : ℕ) where
  abbrev IsLimited : ℕ → Type 0
  IsLimited k = keep_limits 0 (marks w 0 outside (source_of m n k)) ≡ true

  two_channels : IsLimited 2
  two_channels = refl

  three_channels : IsLimited 3
  three_channels = refl

  four_channels : IsLimited 4
  four_channels = refl

  five_channels : IsLimited 5
  five_channels = refl

  six_channels : IsLimited 6
  six_channels = refl

  seven_channels : IsLimited 7
  seven_channels = refl

  pub within_limits : (r : ℕ) → r < 6 → keep_limits 0 (marks w 0 outside (source_of m n (2 + r))) ≡ true
  within_limits zero lt = two_channels
  within_limits (suc zero) lt = three_channels
  within_limits (suc (suc zero)) lt = four_channels
  within_limits (suc (suc (suc zero))) lt = five_channels
  within_limits (suc (suc (suc (suc zero)))) lt = six_channels
  within_limits (suc (suc (suc (suc (suc zero))))) lt = seven_channels
  within_limits (suc (suc (suc (suc (suc (suc r)))))) lt = absurd (omega (arith, lt))
