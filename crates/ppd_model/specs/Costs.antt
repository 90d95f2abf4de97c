-- What the steps of a process cost: 1 each, and 1 for each value in the entries that they write.
use Rattle.ppd_model.specs.Setting.{Setting}
use Rattle.std.specs.Prelude.{◌≡◌, ◌≢◌, ℕ, ◌+◌, ◌≤◌, List, [], ◌∷◌, drop, length, slice_get, IsSomeAnd, Some, ⊤}
use Rattle.std.specs.List.{All}
use Rattle.ppd_ast.specs.Valid.{IsValid}
use Rattle.ppd_ast.specs.ValidPlan.{IsValidPlan}
use Rattle.ppd_ast.specs.declared.plan.Block.{Block}
use Rattle.ppd_ast.specs.declared.plan.BlockKind.{BlockKind}
use Rattle.ppd_ast.specs.declared.plan.BlockKind.TheVariants as block
use Rattle.ppd_ast.specs.declared.plan.Plan.{Plan}
use Rattle.ppd_ast.specs.declared.program.Program.{Program}
use Rattle.ppd_model.specs.declared.entry.Entry.{Entry}
use Rattle.ppd_model.specs.declared.entry.Entry.TheVariants as entry
use Rattle.ppd_sem.specs.declared.proc.Need.TheVariants.{Budget, Stopped}
use Rattle.ppd_model.specs.Laws.{logged_moment}
use Rattle.ppd_model.specs.Logs.{Logging, entries_of, log_step, loggings}
use Rattle.ppd_model.specs.Story.{Moment, told}

-- ---- the values that are counted

-- the values of a prelog, of a unit or of a postlog; none of a synchronization or of an end
abbrev pub values_of_entry : Entry → ℕ
values_of_entry (entry.Prelog b values) = length values
values_of_entry (entry.Unit u values) = length values
values_of_entry (entry.Postlog b values) = length values
values_of_entry e = 0

-- how many values the prelogs, units and postlogs among these entries have
abbrev pub values_in : List Entry → ℕ
values_in [] = 0
values_in (e ∷ es) = values_of_entry e + values_in es

-- ---- plans whose prelogs are whole

-- a block of a function lists all parameters of the function
abbrev pub IsWholeBlock : Program → Block → BlockKind → Type 0
IsWholeBlock program x (block.Function f) = IsSomeAnd (slice_get program.bodies f) (λ b. length x.prelog ≡ b.params)
IsWholeBlock program x kind = ⊤

-- a prelog of a function has a value for each parameter, whether the plan lists it or not: here the plan lists all
abbrev pub HasWholePrelogs : Program → Plan → Type 0
HasWholePrelogs program plan = All (λ x. IsWholeBlock program x x.kind) plan.blocks

-- ---- one step

-- the step costs 1 and the values that it writes, which the budget allows, and is counted
pub record IsPaid (setting : Setting) (l : Logging) (m : Moment) : Type 0 where
  pub cost : (log_step setting.program setting.plan l m).proc.spent
      ≡ l.proc.spent + (1 + values_in (entries_of setting.program setting.plan l m))
  pub within : l.proc.spent + (1 + values_in (entries_of setting.program setting.plan l m)) ≤ setting.budget
  pub counted : (log_step setting.program setting.plan l m).proc.steps ≡ l.proc.steps + 1

-- the step costs nothing, writes none of these values, and is not counted
pub record IsFree (program : Program) (plan : Plan) (l : Logging) (m : Moment) : Type 0 where
  pub cost : (log_step program plan l m).proc.spent ≡ l.proc.spent
  pub values : values_in (entries_of program plan l m) ≡ 0
  pub counted : (log_step program plan l m).proc.steps ≡ l.proc.steps

-- a step is paid for, but for the stop for the budget, which is free
pub record CostsWhatItWrites (setting : Setting) (l : Logging) (m : Moment) : Type 0 where
  pub paid : m.taken.need ≢ Stopped → m.taken.need ≢ Budget → IsPaid setting l m
  pub free : m.taken.need ≡ Budget → IsFree setting.program setting.plan l m

-- so it is with the next step of each process after each schedule
abbrev pub StepsCostWhatTheyWrite : Type 0
StepsCostWhatTheyWrite =
    (setting : Setting) (h : List ℕ) (p : ℕ) (l : Logging) → IsValid setting.program
    → IsValidPlan setting.program setting.plan → HasWholePrelogs setting.program setting.plan
    → slice_get (loggings setting h) p ≡ Some l
    → CostsWhatItWrites setting l (logged_moment setting.program setting.plan (told setting h).world p)

-- ---- a whole log

-- what a process has spent: its steps, and the values of its log but for the two entries written at the start
pub record HasSpent (l : Logging) : Type 0 where
  pub spent : l.proc.spent ≡ l.proc.steps + values_in (drop 2 l.entries)

-- before the first step nothing is spent
pub record HasSpentNothing (l : Logging) : Type 0 where
  pub spent : l.proc.spent ≡ 0
  pub steps : l.proc.steps ≡ 0

-- whatever the entries written at the start hold, they cost nothing
abbrev pub StartsAreFree : Type 0
StartsAreFree =
    (setting : Setting) (p : ℕ) (l : Logging)
    → slice_get (loggings setting []) p ≡ Some l → HasSpentNothing l

-- so it is with each process after each schedule
abbrev pub LogsArePaid : Type 0
LogsArePaid =
    (setting : Setting) (h : List ℕ) (p : ℕ) (l : Logging) → IsValid setting.program
    → IsValidPlan setting.program setting.plan → HasWholePrelogs setting.program setting.plan
    → slice_get (loggings setting h) p ≡ Some l → HasSpent l
