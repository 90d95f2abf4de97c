-- What a step adds to the log of its process.
use Rattle.std.specs.Prelude.{ℤ, List, []}
use Rattle.std.specs.Option.{option_map_or}
use Rattle.ppd_ast.specs.declared.plan.Plan.{Plan}
use Rattle.ppd_model.specs.declared.tracing.Taken.{Taken}
use Rattle.ppd_model.specs.declared.state.Logging.{Logging}
use Rattle.ppd_model.specs.Story.{Moment, unit_started, values_of_unit}
use Rattle.ppd_world_steps.specs.declared.note.Note.{Note}
use Rattle.ppd_world_steps.specs.declared.note.Note.TheVariants.{Nothing, Reads, Writes, Anew}

-- a step with the values of its unit, the shared cells as they stand after it
abbrev pub moment_with : Plan → List ℤ → Taken → Moment
moment_with plan shared t =
    record { taken = t; unit_values = option_map_or (values_of_unit plan shared) (unit_started t.need) [] }

-- what becomes of the cells that were accessed
abbrev pub noted : Note → Logging → Logging
noted Nothing l = l
noted (Reads cells) l = record l { reads = cells }
noted (Writes cells) l = record l { writes = cells }
noted Anew l = record l { reads = []; writes = [] }
