use Rattle.std.proofs.Common.{arith}
use Rattle.std.proofs.lemmas.Grind.{common_steps}
use Rattle.ppd_check_names.proofs.globals.name_next.Goals as goal

pub note_if-requires : goal.note_if-requires
note_if-requires c = omega arith

pub note_if-requires-2 : goal.note_if-requires-2
note_if-requires-2 c = omega arith

pub returns-in_err-twice : goal.returns-in_err-twice
returns-in_err-twice c = grind (arith, common_steps) steps 250000
