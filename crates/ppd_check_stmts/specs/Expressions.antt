-- What an expression means in the scopes round it, and the rules that it breaks.
use Rattle.ppd_ast.specs.Term as T
use Rattle.ppd_ast.specs.Term.{Term}
use Rattle.ppd_ast.specs.declared.program.Place.{Place}
use Rattle.ppd_check_names.specs.Faults.{at, if_so}
use Rattle.ppd_check_names.specs.Names.{Scope, is_use, meaning}
use Rattle.ppd_check_names.specs.Syntax.{Formula, Name, both, either, element, inverted, negated, number, two, variable}
use Rattle.ppd_check_names.specs.declared.fault.Cause.TheVariants.{Arity, Unknown, VoidValue, WrongKind}
use Rattle.ppd_check_names.specs.declared.fault.Fault.{Fault}
use Rattle.ppd_check_names.specs.declared.meaning.Meaning.{Meaning}
use Rattle.ppd_check_names.specs.declared.meaning.Meaning.TheVariants.{Function as function, Local as local, Shared as shared}
use Rattle.ppd_check_names.specs.declared.meaning.Use.{Use}
use Rattle.ppd_check_names.specs.declared.meaning.Use.TheVariants.{Element, Scalar}
use Rattle.std.specs.List.{flat_map}
use Rattle.std.specs.Option.{option_map_or}
use Rattle.std.specs.Prelude.{Bool, List, None, Option, Some, [], length, nat_eq, not, pos, ℕ, ◌&&◌, ◌++◌, ◌∷◌}

-- The term of a variable, or of its element with an index, and 0 where the name is no scalar. An index is kept also
-- where the name is no array, so that a fault changes no count.
abbrev pub read : Option Meaning → Option Term → Term
read (Some (local c None)) None = T.local c
read (Some (shared c None)) None = T.shared c
read (Some (local base (Some n))) (Some i) = T.local_at base n i
read (Some (shared base (Some n))) (Some i) = T.shared_at base n i
read m None = T.const (pos 0)
read m (Some i) = T.shared_at 0 0 i

-- the term of an expression, whose names are looked up
abbrev pub term_of : List Scope → Formula → Term
term_of s (number n) = T.const n
term_of s (variable x) = read (meaning s x.text) None
term_of s (element x i) = read (meaning s x.text) (Some (term_of s i))
term_of s (negated e) = T.neg (term_of s e)
term_of s (inverted e) = T.not (term_of s e)
term_of s (two op a b) = T.two op (term_of s a) (term_of s b)
term_of s (both a b) = T.and (term_of s a) (term_of s b)
term_of s (either a b) = T.or (term_of s a) (term_of s b)

-- a name must mean something that can be used so
abbrev pub name_faults : Use → List Scope → Name → List Fault
name_faults wanted s x =
    option_map_or (λ m. if_so (not (is_use wanted m)) x.place WrongKind) (meaning s x.text) (at x.place Unknown ∷ [])

-- the rules that an expression breaks
abbrev pub formula_faults : List Scope → Formula → List Fault
formula_faults s (number n) = []
formula_faults s (variable x) = name_faults Scalar s x
formula_faults s (element x i) = name_faults Element s x ++ formula_faults s i
formula_faults s (negated e) = formula_faults s e
formula_faults s (inverted e) = formula_faults s e
formula_faults s (two op a b) = formula_faults s a ++ formula_faults s b
formula_faults s (both a b) = formula_faults s a ++ formula_faults s b
formula_faults s (either a b) = formula_faults s a ++ formula_faults s b

-- a call with so many arguments, whose value is used or not
abbrev pub wrong_call : Option Meaning → Place → ℕ → Bool → List Fault
wrong_call None place n used = at place Unknown ∷ []
wrong_call (Some (function k params gives)) place n used =
    if_so (not (nat_eq n params)) place Arity ++ if_so (used && not gives) place VoidValue
wrong_call (Some m) place n used = at place WrongKind ∷ []

abbrev pub call_faults : List Scope → Bool → Name → List Formula → List Fault
call_faults s used f args =
    wrong_call (meaning s f.text) f.place (length args) used ++ flat_map (formula_faults s) args
