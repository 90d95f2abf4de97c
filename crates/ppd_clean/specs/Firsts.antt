-- The least internal edge of each process that races touch.
use Rattle.std.specs.Prelude.{ℕ, nat_eq, nat_le, Bool, List, [], ◌∷◌, fold, Option, Some, None, if◌then◌else◌}
use Rattle.std.specs.List.{flat_map, range_with_len}
use Rattle.ppd_model.specs.declared.graph.EdgeId.{EdgeId}
use Rattle.ppd_model.specs.declared.graph.Race.{Race}
use Rattle.ppd_model.specs.HappenedBefore.{edge}

-- the lesser of the least edge so far and this one
abbrev pub lesser : Option ℕ → ℕ → Option ℕ
lesser None i = Some i
lesser (Some m) i = if nat_le m i then Some m else Some i

-- where this one counts
abbrev pub lesser_if : Bool → Option ℕ → ℕ → Option ℕ
lesser_if counts found i = if counts then lesser found i else found

-- after one more race, of whose edges those of process q count
abbrev pub with_race : ℕ → Option ℕ → Race → Option ℕ
with_race q found r = lesser_if (nat_eq r.q q) (lesser_if (nat_eq r.p q) found r.i) r.j

-- the least edge of process q that one of these races has
abbrev pub least_of : List Race → ℕ → Option ℕ
least_of races q = fold (with_race q) None races

abbrev pub edge_if : ℕ → Option ℕ → List EdgeId
edge_if q None = []
edge_if q (Some i) = edge q i ∷ []

-- of each of the first n processes
abbrev pub firsts_of : List Race → ℕ → List EdgeId
firsts_of races n = flat_map (λ q. edge_if q (least_of races q)) (range_with_len 0 n)
