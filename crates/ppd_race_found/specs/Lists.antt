-- Lists of lists, which grow.
use Rattle.std.specs.Prelude.{◌≡◌, ℕ, ◌<◌, nat_eq, List, [], ◌∷◌, ◌++◌, get_or, length, if◌then◌else◌}
use Rattle.std.specs.List.{sum_by}

-- each list has grown by its part
pub record GrowsBy {A : Type 0} (part : ℕ → List A) (old new : List (List A)) : Type 0 where
  pub long : length new ≡ length old
  pub at : (m : ℕ) → m < length old → get_or new m [] ≡ get_or old m [] ++ part m

-- the item at one place
abbrev pub one_at : {A : Type 0} → ℕ → A → ℕ → List A
one_at place item m = if nat_eq place m then item ∷ [] else []

-- how many items there are
abbrev pub total : {A : Type 0} → List (List A) → ℕ
total lists = sum_by length lists
