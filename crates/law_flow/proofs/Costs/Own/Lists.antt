-- Lists of numbers without repetition.
use Rattle.std.proofs.Common.{◌≡◌, ℕ, [], ◌∷◌, inl, inr}
use Rattle.ppd_model.proofs.Tested.{In}
use Rattle.law_flow.specs.Edges.Within.{AreDistinct}
use Rattle.law_flow.proofs.Edges.Sources.Members.{in_cases, no_member}

pub distinct_one : (m : ℕ) → AreDistinct (m ∷ [])
distinct_one m = (tt, tt)

pub in_one : (z m : ℕ) → In z (m ∷ []) → z ≡ m
in_one z m i = elim (in_cases z m [] i) [ inl e ↦ e | inr j ↦ absurd (no_member j) ]
