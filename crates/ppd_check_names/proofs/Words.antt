-- Words of the proofs: the names of what is declared.
use Rattle.std.specs.Prelude.{ℕ, List, ◌∷◌, decimal}
use Rattle.ppd_check_names.specs.Globals.{Head, Object}
use Rattle.ppd_check_names.specs.Syntax.{Name}

-- the name of the hidden variable with this number
abbrev pub hidden_name : ℕ → List ℕ
hidden_name n = 37 ∷ decimal n

abbrev pub head_name : Head → Name
head_name h = h.name

abbrev pub object_name : Object → Name
object_name o = o.name
