-- What is written of how a process ended, and of what it printed.
use Rattle.ppd_ast.specs.declared.program.Place.{Place}
use Rattle.ppd_ast.specs.declared.program.Program.{Program}
use Rattle.ppd_ast.specs.declared.status.Status.{Status}
use Rattle.ppd_ast.specs.declared.status.Status.TheVariants as status
use Rattle.ppd_model.specs.declared.closed.ProcEnd.{ProcEnd}
use Rattle.ppd_text.specs.CellNames.{trap_word}
use Rattle.ppd_text.specs.Texts.{place_text}
use Rattle.std.specs.Fmt.{signed_decimal}
use Rattle.std.specs.List.{flat_map}
use Rattle.std.specs.Option.{option_map_or}
use Rattle.std.specs.Prelude.{List, codes, decimal, slice_get, ℕ, ℤ, ◌++◌}

abbrev pub status_text : Status → Place → List ℕ
status_text status.Ended place = codes "ended"
status_text (status.Trap t) place = codes "trap " ++ trap_word t ++ codes " " ++ place_text place
status_text status.Budget place = codes "budget " ++ place_text place
status_text status.Blocked place = codes "blocked " ++ place_text place

abbrev pub print_text : List ℕ → ℤ → List ℕ
print_text name value = codes "print " ++ name ++ codes " " ++ signed_decimal value ++ codes "\n"

-- a process with this name that ended so
abbrev pub end_text : Program → List ℕ → ProcEnd → List ℕ
end_text program name e =
    codes "process " ++ name ++ codes " "
    ++ status_text e.status
    (option_map_or (λ s. s.place) (slice_get program.stmts e.stmt) (record { line = 1; column = 1 }))
    ++ codes " steps " ++ decimal e.steps ++ codes "\n" ++ flat_map (print_text name) e.prints
