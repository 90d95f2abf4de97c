-- The state of each process after its own steps.
use Rattle.ppd_model.specs.Setting.{Setting}
use Rattle.std.specs.Prelude.{ℕ, ◌+◌, List, [], ◌∷◌, fold}
use Rattle.ppd_ast.specs.declared.plan.Plan.{Plan}
use Rattle.ppd_ast.specs.declared.program.Program.{Program}
use Rattle.ppd_sem.specs.declared.proc.Proc.{Proc}
use Rattle.ppd_sem.specs.Process.{act, started}
use Rattle.ppd_model.specs.Story.{Story, Taken}

-- the state after a step, by its answer
abbrev pub act_on : Program → Plan → Proc → Taken → Proc
act_on program plan s x = act program plan s x.answer

-- process p after these steps
abbrev pub state_of : Setting → ℕ → List Taken → Proc
state_of setting p steps =
    fold (act_on setting.program setting.plan) (started setting.program setting.plan p setting.budget) steps

-- the processes from number p on after their steps
abbrev pub states_from : Setting → ℕ → List (List Taken) → List Proc
states_from setting p [] = []
states_from setting p (steps ∷ rest) =
    state_of setting p steps ∷ states_from setting (p + 1) rest

-- the processes of a story after their steps
abbrev pub states : Setting → Story → List Proc
states setting story = states_from setting 0 story.steps
