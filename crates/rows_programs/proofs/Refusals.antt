-- The log of a stop for the budget, of a program with one process: what is refused once it is damaged.
use Rattle.std.proofs.Common.{◌≡◌, refl}
use Rattle.std.specs.Prelude.{pos, List, [], ◌∷◌, Option, Some, None}
use Rattle.ppd_ast.specs.declared.status.Status.TheVariants as status
use Rattle.ppd_model.specs.declared.entry.Entry.{Entry}
use Rattle.ppd_model.specs.declared.entry.Entry.TheVariants as entry
use Rattle.rows_programs.proofs.Runs.BudgetStop.{plan, program}
use Rattle.ppd_model.specs.declared.bad_log.BadLog.{BadLog}
use Rattle.ppd_model.specs.declared.bad_log.BadLog.TheVariants.{AfterEnd, NoEnd, Unpaired, WrongValues}
use Rattle.ppd_index.specs.Refusals.{first_bad}

abbrev found : List Entry → Option BadLog
found entries = first_bad program plan 0 entries

abbrev body : Entry
body = entry.Prelog 0 []

abbrev unit : Entry
unit = entry.Unit 0 []

abbrev stop : Entry
stop = entry.End status.Budget 5 [] []

whole : found (body ∷ unit ∷ stop ∷ []) ≡ None
whole = refl

without_end : found (body ∷ unit ∷ []) ≡ Some (NoEnd (record { process = 0; entry = 2 }))
without_end = refl

end_twice : found (body ∷ unit ∷ stop ∷ stop ∷ []) ≡ Some (AfterEnd (record { process = 0; entry = 3 }))
end_twice = refl

left_before_the_stop : found (body ∷ unit ∷ entry.Postlog 0 [] ∷ stop ∷ []) ≡ Some (Unpaired (record { process = 0; entry = 3 }))
left_before_the_stop = refl

ended_inside : found (body ∷ unit ∷ entry.End status.Ended 5 [] [] ∷ []) ≡ Some (Unpaired (record { process = 0; entry = 2 }))
ended_inside = refl

one_value_more : found (body ∷ entry.Unit 0 (pos 1 ∷ []) ∷ stop ∷ []) ≡ Some (WrongValues (record { process = 0; entry = 1 }))
one_value_more = refl
