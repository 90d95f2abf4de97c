-- The answers for every interval of every process.
use Rattle.law_steps.specs.Policies.{setting_by}
use Rattle.ppd_model.specs.Setting.{Setting}
use Rattle.std.proofs.Common.{◌≡◌, ℕ, zero, suc, ◌+◌, ◌<◌, List, [], ◌∷◌, length, Some, arith}
use Rattle.std.proofs.lemmas.Option.{none-some}
use Rattle.std.specs.Prelude.{slice_get}
use Rattle.ppd_model.specs.declared.tracing.Story.{Story}
use Rattle.ppd_model.specs.declared.tracing.Taken.{Taken}
use Rattle.ppd_model.specs.Intervals.{Split}
use Rattle.ppd_model.proofs.IntervalWords.{splits_from}
use Rattle.ppd_model.specs.Story.{story}
use Rattle.law_clean.specs.Laws.{AnswersAreOfRuns}
use Rattle.law_clean.proofs.Answered.{answered_here}

process_there : (setting : Setting) (s : Story) (q : ℕ) (steps : List (List Taken)) (p : ℕ) (x : Split) → slice_get (splits_from setting s q steps) p ≡ Some x → p < length steps
process_there setting s q [] p x e = absurd (none-some x e)
process_there setting s q (t ∷ ts) zero x e = omega arith
process_there setting s q (t ∷ ts) (suc p) x e = let r = process_there setting s (q + 1) ts p x e in omega (arith, r)

pub answers_of_runs : AnswersAreOfRuns
answers_of_runs program policy budget h p k j x i v whole at at_k =
    answered_here program policy budget h p k j x i v whole at at_k
    (process_there (setting_by program policy budget) (story (setting_by program policy budget) h) 0 (story (setting_by program policy budget) h).steps p x at)
