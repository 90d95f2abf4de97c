use Rattle.std.proofs.Common.{◌≡◌, ℕ, ◌<◌, [], get_or, map}
use Rattle.ppd_rerun_guide.specs.Guides.{left_of}
use Rattle.ppd_rerun_guide.proofs.guide.are_over.Given as goal

abbrev pub invariant-loop-due : goal.invariant-loop-due
invariant-loop-due l = (q : ℕ) → q < l.due-index → get_or (map left_of l.dues) q [] ≡ []
