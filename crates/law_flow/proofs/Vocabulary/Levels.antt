-- Where a process stands in its intervals: those that run, with the innermost first, each with its parts so far.
use Rattle.std.specs.Prelude.{ℕ, List, [], ◌∷◌, ◌++◌, length, Option, Some, None, if◌then◌else◌}
use Rattle.ppd_ast.specs.declared.plan.Plan.{Plan}
use Rattle.ppd_ast.specs.declared.program.Program.{Program}
use Rattle.ppd_sem.specs.declared.proc.Need.{Need}
use Rattle.ppd_sem.specs.Described.{is_event}
use Rattle.ppd_model.specs.Intervals.{Part, own, nested, Split}
use Rattle.ppd_model.specs.Marks.{Mark, opened, closed}
use Rattle.law_flow.specs.Places.Levels.{Level}

-- ---- what a step leaves

-- the level with one more part
abbrev pub put : Part → Level → Level
put q l = record l { parts = l.parts ++ q ∷ [] }

-- the innermost level has event n
abbrev pub with_event : ℕ → List Level → List Level
with_event n [] = []
with_event n (l ∷ ls) = put (own n) l ∷ ls

-- the innermost interval is left, and is a part of the one round it
abbrev pub without_first : List Level → List Level
without_first [] = []
without_first (l ∷ []) = []
without_first (l ∷ o ∷ ls) = put (nested l.interval) o ∷ ls

-- where the step leaves a block
abbrev pub end_level : Option Mark → List Level → List Level
end_level None ls = ls
end_level (Some m) ls = without_first ls

-- where the step enters a block, as interval k
abbrev pub begin_level : Option Mark → ℕ → List Level → List Level
begin_level None k ls = ls
begin_level (Some m) k ls = record { interval = k; block = m.block; parts = [] } ∷ ls

-- where the step is an event, the n-th
abbrev pub own_level : Need → ℕ → List Level → List Level
own_level need n ls = if is_event need then with_event n ls else ls

-- the levels after a step with this need
abbrev pub levels_after : Program → Plan → Need → Split → List Level → List Level
levels_after program plan need x ls =
    begin_level (opened program plan x.trace.proc need) (length x.spans)
    (end_level (closed program plan x.trace.proc need) (own_level need (length x.trace.events) ls))
