-- What a search finds, with the intervals that it replays for it.
use Rattle.std.specs.Option.{option_or}
use Rattle.std.specs.Prelude.{List, Option, [], if◌then◌else◌, is_some, unwrap_or, ◌++◌, ◌∷◌}

-- what was found, and the intervals that are replayed for it, in order
pub record Looked (I A : Type 0) : Type 0 where
  pub found : A
  pub replays : List I

-- this is known, and nothing is replayed for it
abbrev pub known : {I A : Type 0} → A → Looked I A
known x = record { found = x; replays = [] }

-- the same, and this interval is replayed first
abbrev pub after_replay : {I A : Type 0} → I → Looked I A → Looked I A
after_replay k a = record { found = a.found; replays = k ∷ a.replays }

-- these intervals are replayed where nothing was found before them
abbrev pub unless : {I A : Type 0} → Option A → List I → List I
unless o ks = if is_some o then [] else ks

-- the first that finds something: the second is looked for only where the first finds nothing
abbrev pub or_look : {I A : Type 0} → Looked I (Option A) → Looked I (Option A) → Looked I (Option A)
or_look a b = record { found = option_or a.found b.found; replays = a.replays ++ unless a.found b.replays }

-- the same where the second always finds something
abbrev pub look_or : {I A : Type 0} → Looked I (Option A) → Looked I A → Looked I A
look_or a b = record { found = unwrap_or a.found b.found; replays = a.replays ++ unless a.found b.replays }

-- what is made of what was found
abbrev pub look_map : {I A B : Type 0} → (A → B) → Looked I A → Looked I B
look_map f a = record { found = f a.found; replays = a.replays }

-- what is made of both, which are looked for one after the other
abbrev pub look_both : {I A B C : Type 0} → (A → B → C) → Looked I A → Looked I B → Looked I C
look_both f a b = record { found = f a.found b.found; replays = a.replays ++ b.replays }

-- and then what is looked for by what was found
abbrev pub look_then : {I A B : Type 0} → Looked I A → (A → Looked I B) → Looked I B
look_then a next = record { found = (next a.found).found; replays = a.replays ++ (next a.found).replays }
