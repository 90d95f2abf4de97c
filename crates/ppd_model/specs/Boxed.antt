-- What a list that takes one word holds.
use Rattle.std.specs.Global.{Global}
use Rattle.std.specs.Prelude.{Box, List, [], Option, Some, None}

-- the items behind the word, and none where there is no box
abbrev pub items_in : {T : Type 0} → Option (Box (List T) Global) → List T
items_in None = []
items_in (Some items) = items.value
