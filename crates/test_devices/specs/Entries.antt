-- Bytes by name, as a list of names with their bytes, each name once.
use Rattle.std.specs.Prelude.{ℕ, List, [], ◌∷◌, suc, Option, None, Some, if◌then◌else◌}
use Rattle.std.specs.Str.{bytes_eq}

-- the bytes of that name
abbrev pub find_entry : List (List ℕ × List ℕ) → List ℕ → Option (List ℕ)
find_entry [] name = None
find_entry (e ∷ es) name = if bytes_eq e.0 name then Some e.1 else find_entry es name

-- that name with these bytes in place of its old ones, or as a last entry
abbrev pub put_entry : List (List ℕ × List ℕ) → List ℕ → List ℕ → List (List ℕ × List ℕ)
put_entry [] name bytes = (name, bytes) ∷ []
put_entry (e ∷ es) name bytes =
    if bytes_eq e.0 name then (e.0, bytes) ∷ es else e ∷ put_entry es name bytes

-- where that name stands, or how many entries there are
abbrev pub place_of : List (List ℕ × List ℕ) → List ℕ → ℕ
place_of [] name = 0
place_of (e ∷ es) name = if bytes_eq e.0 name then 0 else suc (place_of es name)
