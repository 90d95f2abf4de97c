-- The interval that a step of a process opens or closes, with the values of its prelog or postlog.
use Rattle.ppd_ast.specs.declared.plan.Plan.{Plan}
use Rattle.ppd_ast.specs.declared.program.Program.{Program}
use Rattle.ppd_sem.specs.Blocks.{postlog_cells, prelog_cells}
use Rattle.ppd_sem.specs.Passed.{arguments_at, result_at}
use Rattle.ppd_sem.specs.Process.{top_frame}
use Rattle.ppd_sem.specs.declared.proc.Need.{Need}
use Rattle.ppd_sem.specs.declared.proc.Need.TheVariants.{Back, End, Enter, Invoke, Leave}
use Rattle.ppd_sem.specs.declared.proc.Proc.{Proc}
use Rattle.std.specs.Prelude.{List, None, Option, Some, [], get_or, map, pos, ℕ, ℤ}

-- a block, with the values of a prelog or postlog
pub record Mark : Type 0 where
  pub block : ℕ
  pub values : List ℤ

-- the block of a pair with the values beside it
abbrev pub marked : Option (ℕ × List ℤ) → Option Mark
marked None = None
marked (Some x) = Some (record { block = x.0; values = x.1 })

-- the values of cells of the top frame
abbrev pub values_at : Proc → List ℕ → List ℤ
values_at s cells = map (λ c. get_or (top_frame s.frames).cells c (pos 0)) cells

-- the block that the step enters: of a loop with the local cells that it may read or write, of a
-- function with its parameters
abbrev pub opened : Program → Plan → Proc → Need → Option Mark
opened program plan s (Enter b u) =
    Some (record { block = b; values = values_at s (prelog_cells plan b) })
opened program plan s (Invoke (Some b) u) = Some (record { block = b; values = arguments_at program s })
opened program plan s need = None

-- the block that the step leaves: of a loop with the local cells that it may write, of a function
-- with the value that it returned, if any, and of a process with none
abbrev pub closed : Program → Plan → Proc → Need → Option Mark
closed program plan s (Leave b u) =
    Some (record { block = b; values = values_at s (postlog_cells plan b) })
closed program plan s (Back (Some b) u) = Some (record { block = b; values = result_at program s })
closed program plan s (End b) = Some (record { block = b; values = [] })
closed program plan s need = None
