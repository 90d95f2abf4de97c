-- Words of the proofs: what a statement leaves that may be missing or that uses a hidden variable, and a name in use.
use Rattle.std.specs.Prelude.{Bool, not, List, [], ◌∷◌, Option, if◌then◌else◌}
use Rattle.std.specs.Option.{option_map_or}
use Rattle.ppd_ast.specs.declared.program.Place.{Place}
use Rattle.ppd_check_names.specs.declared.fault.Cause.TheVariants.{Unknown, WrongKind}
use Rattle.ppd_check_names.specs.declared.fault.Fault.{Fault}
use Rattle.ppd_check_names.specs.declared.frame.Frame.{Frame}
use Rattle.ppd_check_names.specs.declared.meaning.Meaning.{Meaning}
use Rattle.ppd_check_names.specs.declared.meaning.Use.{Use}
use Rattle.ppd_check_names.specs.Faults.{at, if_so}
use Rattle.ppd_check_names.specs.Names.{is_use}
use Rattle.ppd_check_names.specs.Frames.{with_hidden}
use Rattle.ppd_check_names.specs.Syntax.{Simple}
use Rattle.ppd_check_stmts.specs.Statements.{after}

-- what a name means must be used so
abbrev pub wrong_use : Use → Option Meaning → Place → List Fault
wrong_use wanted o place = option_map_or (λ m. if_so (not (is_use wanted m)) place WrongKind) o (at place Unknown ∷ [])

-- one more hidden variable, where it is needed
abbrev pub hidden_if : Bool → Place → Frame → Frame
hidden_if b p f = if b then with_hidden p f else f

-- the frame after a statement that may be missing
abbrev pub after_any : Option Simple → Frame → Frame
after_any o f = option_map_or (λ s. after s f) o f
