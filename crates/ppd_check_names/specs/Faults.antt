-- The rules that a source can break, and which broken rule comes first.
use Rattle.std.specs.Prelude.{ℕ, Bool, true, false, if◌then◌else◌, List, [], ◌∷◌, Option, Some, None}
use Rattle.std.specs.Ordering.{is_lt, nat_cmp, on, then_cmp}
use Rattle.std.specs.declared.cmp.Ordering.{Ordering}
use Rattle.std.specs.Option.{option_map_or}
use Rattle.ppd_ast.specs.declared.program.Place.{Place}
use Rattle.ppd_check_names.specs.declared.fault.Cause.{Cause}
use Rattle.ppd_check_names.specs.declared.fault.Cause.TheVariants.{Twice, Unknown, WrongKind, Arity, ReturnPlace, VoidValue, NoProcess, TooMany, BadSize}
use Rattle.ppd_check_names.specs.declared.fault.Limit.TheVariants.{Statements, Functions, Processes, Semaphores, Channels, Shared, Locals}
use Rattle.ppd_check_names.specs.declared.fault.Fault.{Fault}

abbrev pub at : Place → Cause → Fault
at place cause = record { place = place; cause = cause }

-- the rule is broken there where the test holds
abbrev pub if_so : Bool → Place → Cause → List Fault
if_so true place cause = at place cause ∷ []
if_so false place cause = []

-- a rule's number, times ten, and among the limits their order
abbrev pub rank : Cause → ℕ
rank Twice = 10
rank Unknown = 20
rank WrongKind = 30
rank Arity = 40
rank ReturnPlace = 50
rank VoidValue = 60
rank NoProcess = 70
rank (TooMany Statements) = 80
rank (TooMany Functions) = 81
rank (TooMany Processes) = 82
rank (TooMany Semaphores) = 83
rank (TooMany Channels) = 84
rank (TooMany Shared) = 85
rank (TooMany Locals) = 86
rank BadSize = 90

-- by line, then by column, then by the rule's number
abbrev pub order : Fault → Fault → Ordering
order =
    then_cmp (on (λ f. f.place.line) nat_cmp)
    (then_cmp (on (λ f. f.place.column) nat_cmp) (on (λ f. rank f.cause) nat_cmp))

-- the first of what was found in two parts
abbrev pub first_of_both : Option Fault → Option Fault → Option Fault
first_of_both None b = b
first_of_both (Some f) b = option_map_or (λ g. if is_lt (order g f) then Some g else Some f) b (Some f)

-- the first of some broken rules
abbrev pub first : List Fault → Option Fault
first [] = None
first (f ∷ fs) = first_of_both (Some f) (first fs)
