-- The names of a program's parts, and lists of names.
use Rattle.std.specs.Prelude.{ℕ, List, [], ◌∷◌, ◌++◌, codes, slice_get}
use Rattle.std.specs.List.{flat_map}
use Rattle.std.specs.Option.{option_map_or}
use Rattle.ppd_ast.specs.declared.program.Program.{Program}
use Rattle.ppd_ast.specs.declared.program.Var.{Var}
use Rattle.ppd_ast.specs.declared.status.SyncKind.{SyncKind}
use Rattle.ppd_ast.specs.declared.status.SyncKind.TheVariants as kind

-- what f gives of number k of a list, and nothing where there is none
abbrev pub at_number : {A B : Type 0} → (A → List B) → List A → (k : ℕ) → List B
at_number f items k = option_map_or f (slice_get items k) []

-- the word of a kind of synchronization, and the name of its object
abbrev pub object_text : Program → SyncKind → ℕ → List ℕ
object_text p kind.P o = codes "P " ++ at_number (λ s. s.name) p.sems o
object_text p kind.V o = codes "V " ++ at_number (λ s. s.name) p.sems o
object_text p kind.Send o = codes "send " ++ at_number (λ c. c.name) p.chans o
object_text p kind.Recv o = codes "recv " ++ at_number (λ c. c.name) p.chans o
object_text p kind.Done o = codes "done " ++ at_number (λ c. c.name) p.chans o

-- the names of these variables, each after a space, or `-` where there are none
abbrev pub names_text : List Var → List ℕ → List ℕ
names_text vars [] = codes " -"
names_text vars (v ∷ vs) = flat_map (λ w. codes " " ++ at_number (λ x. x.name) vars w) (v ∷ vs)
