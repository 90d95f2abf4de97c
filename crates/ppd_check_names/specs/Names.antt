-- What a name means where it stands.
use Rattle.std.specs.Prelude.{ℕ, Bool, true, false, if◌then◌else◌, List, [], ◌∷◌, ◌++◌, Option, Some, None, is_some, map, Vec}
use Rattle.std.specs.Option.{option_or}
use Rattle.indexmap.specs.IndexMap.{IndexMap}
use Rattle.ppd_parse.specs.Front.{looked_up}
use Rattle.ppd_check_names.specs.declared.meaning.Use.{Use}
use Rattle.ppd_check_names.specs.declared.meaning.Use.TheVariants.{Scalar, Element, Semaphore, Channel, Function}
pub use Rattle.ppd_check_names.specs.declared.meaning.Meaning.{Meaning}
pub use Rattle.ppd_check_names.specs.declared.meaning.Meaning.TheVariants.{
  Shared as shared,
  Local as local,
  Semaphore as semaphore,
  Channel as channel,
  Function as function,
  Process as process,
}

-- names with what they mean, in the order of their declarations
abbrev pub Scope : Type 0
Scope = List (List ℕ × Meaning)

-- what a name means in scopes of which the innermost comes first: what an inner one says, else what the next one says
abbrev pub meaning : List Scope → List ℕ → Option Meaning
meaning [] x = None
meaning (scope ∷ scopes) x = option_or (looked_up scope x) (meaning scopes x)

-- a name's first declaration in a scope is the one that counts
abbrev pub declare : List ℕ → Meaning → Scope → Scope
declare x m scope = if is_some (looked_up scope x) then scope else scope ++ (x, m) ∷ []

abbrev pub innermost : List Scope → Scope
innermost [] = []
innermost (s ∷ ss) = s

-- the scopes after a change of the innermost one
abbrev pub in_innermost : (Scope → Scope) → List Scope → List Scope
in_innermost f [] = []
in_innermost f (s ∷ ss) = f s ∷ ss

-- whether what a name means can be used so: an element is one of an array
abbrev pub is_use : Use → Meaning → Bool
is_use Scalar (shared base None) = true
is_use Scalar (local base None) = true
is_use Element (shared base (Some n)) = true
is_use Element (local base (Some n)) = true
is_use Semaphore (semaphore k) = true
is_use Channel (channel k) = true
is_use Function (function k params gives) = true
is_use wanted m = false

-- the number of the semaphore, channel or function that a name is used as, and 0 where it means none
abbrev pub number_as : Use → Option Meaning → ℕ
number_as Semaphore (Some (semaphore k)) = k
number_as Channel (Some (channel k)) = k
number_as Function (Some (function k params gives)) = k
number_as wanted m = 0

-- the scope that a map keeps
abbrev pub scope_of : {S A : Type 0} → IndexMap (Vec ℕ A) Meaning S → Scope
scope_of m = map (λ e. (e.0.items, e.1)) m.entries
