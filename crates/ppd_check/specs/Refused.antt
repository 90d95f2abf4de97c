-- Why a tree is refused.
use Rattle.std.specs.Prelude.{◌≡◌, Some}
use Rattle.ppd_parse.specs.Grammar.{Shape}
use Rattle.ppd_check.specs.declared.error.CheckError.{CheckError}
use Rattle.ppd_check.specs.declared.error.CheckError.TheVariants as E
use Rattle.ppd_check_names.specs.declared.fault.Cause.TheVariants.{Twice, Unknown, WrongKind, Arity, ReturnPlace, VoidValue, NoProcess, TooMany, BadSize}
use Rattle.ppd_check_names.specs.declared.fault.Fault.{Fault}
use Rattle.ppd_check_names.specs.Faults.{at, first}
use Rattle.ppd_check.specs.Sources.{faults_in}
use Rattle.ppd_check_names.specs.Reading.{source_of}

-- Why a tree is refused: the first rule that it breaks, with its place. Want of memory may come at any.
abbrev pub IsTreeRefused : Shape → CheckError → Type 0
IsTreeRefused t e = go e
  where
    First : Fault → Type 0
    First f = first (faults_in (source_of t)) ≡ Some f

    go : CheckError → Type 0
    go (E.Twice p) = First (at p Twice)
    go (E.Unknown p) = First (at p Unknown)
    go (E.WrongKind p) = First (at p WrongKind)
    go (E.Arity p) = First (at p Arity)
    go (E.ReturnPlace p) = First (at p ReturnPlace)
    go (E.VoidValue p) = First (at p VoidValue)
    go (E.NoProcess p) = First (at p NoProcess)
    go (E.TooMany p limit) = First (at p (TooMany limit))
    go (E.BadSize p) = First (at p BadSize)
    go E.Memory = Unit {0}
