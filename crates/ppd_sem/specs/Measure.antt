-- How many steps a process can still take at most.
use Rattle.std.specs.Prelude.{ℕ, ◌+◌, ◌-◌, Option, Some, None}
use Rattle.ppd_ast.specs.declared.status.Status.{Status}
use Rattle.ppd_sem.specs.declared.proc.Proc.{Proc}

abbrev pub measure_by : Option Status → Proc → ℕ
measure_by (Some _) s = 0
measure_by None s = s.budget + 1 - s.spent

-- nothing once a status is there; before, a step costs at least 1 and one more step stops
abbrev pub measure : Proc → ℕ
measure s = measure_by s.status s
