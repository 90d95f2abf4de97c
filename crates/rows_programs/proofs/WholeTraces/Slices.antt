-- The slices of small runs, by computation.
use Rattle.ppd_model.specs.Setting.{setting_of}
use Rattle.std.proofs.Common.{◌≡◌, refl}
use Rattle.std.specs.Prelude.{ℕ, List, [], ◌∷◌}
use Rattle.ppd_ast.specs.Term.{terms}
use Rattle.ppd_slice_search.specs.declared.reached.Reached.{Reached}
use Rattle.ppd_slice_search.specs.OfRuns.{reach}
use Rattle.rows_programs.proofs.Runs.Recursion as recursion
use Rattle.rows_programs.proofs.Runs.Smallest as smallest

abbrev at : ℕ → ℕ → ℕ → ℕ → Reached
at d p k j = record { process = p; interval = k; item = j; depth = d }

pub smallest_slice : reach (setting_of smallest.program smallest.plan 100000) smallest.the_story 0 0 1 ≡ at 0 0 0 1 ∷ at 1 0 0 0 ∷ []
unfolding terms
smallest_slice = refl

pub recursion_slice : reach (setting_of recursion.program recursion.plan 100000) recursion.the_story 0 0 2 ≡
    at 0 0 0 2
    ∷ at 1 0 1 4
    ∷ at 2 0 0 0
    ∷ at 2 0 2 4
    ∷ at 3 0 1 2
    ∷ at 3 0 3 2
    ∷ at 4 0 1 1
    ∷ at 4 0 2 2
    ∷ at 4 0 3 0
    ∷ at 5 0 2 1
    ∷ []
unfolding terms
recursion_slice = refl
