-- The walk back over one internal edge of a process to the last write of a shared cell, with the intervals
-- that are replayed on the way. The items of the interval where it begins are there; no list names it.
use Rattle.std.specs.Prelude.{ℕ, zero, suc, ◌+◌, nat_eq, ℤ, Bool, false, List, [], ◌∷◌, take, length, Option, Some, None, is_some, if◌then◌else◌, get_or}
use Rattle.ppd_sem.specs.declared.event.Access.{Access}
use Rattle.ppd_sem.specs.declared.event.Event.{Event}
use Rattle.ppd_sem.specs.declared.event.Spot.{Spot}
use Rattle.ppd_sem.specs.declared.event.Spot.TheVariants.{Local, Shared}
use Rattle.ppd_model.specs.declared.flow.Item.{Item}
use Rattle.ppd_model.specs.declared.flow.Item.TheVariants as item
use Rattle.ppd_graph.specs.declared.walked.Walked.{Walked}
use Rattle.ppd_graph.specs.declared.walked.Walked.TheVariants.{Stopped, Passed, Found}
use Rattle.ppd_graph.specs.Looked.{Looked, known, look_then, after_replay}
use Rattle.ppd_graph.specs.Seen.{Seen, place_of}

-- ---- one event

-- the spot is shared cell c
abbrev pub is_shared : ℕ → Spot → Bool
is_shared c (Shared d) = nat_eq c d
is_shared c (Local f d) = false

-- the value that is written to the cell first
abbrev pub value_to : ℕ → List Access → Option ℤ
value_to c [] = None
value_to c (a ∷ as') = if is_shared c a.spot then Some a.value else value_to c as'

-- the value that item i of interval k wrote, if it wrote one
abbrev pub found_if : ℕ → ℕ → Option ℤ → Walked
found_if k i None = Passed
found_if k i (Some v) = Found k i v

-- item i of interval k, an event: a synchronization, also the offer of a send and its completion, begins the edge
abbrev pub over_event : ℕ → ℕ → ℕ → Event → Walked
over_event c k i e = if is_some e.number then Stopped else found_if k i (value_to c e.writes)

-- ---- over items

-- what was found, or the rest where the start was reached
abbrev pub or_rest : Walked → Looked ℕ Walked → Looked ℕ Walked
or_rest Passed rest = rest
or_rest w rest = known w

-- on to the rest where the start was reached; what is replayed for the rest is replayed only then
abbrev pub onward : Looked ℕ Walked → Looked ℕ Walked → Looked ℕ Walked
onward first rest = look_then first (λ w. or_rest w rest)

-- these items with their numbers from i on, the last first, and then those
abbrev pub backwards : ℕ → List Item → List (ℕ × Item) → List (ℕ × Item)
backwards i [] before = before
backwards i (x ∷ xs) before = backwards (i + 1) xs ((i, x) ∷ before)

-- the first j items of an interval, the last first
abbrev pub back_from : ℕ → List Item → List (ℕ × Item)
back_from j items = backwards 0 (take j items) []

-- over item i of interval k; `inner` is what comes of a whole interval
abbrev pub at_item : (ℕ → Looked ℕ Walked) → ℕ → ℕ → ℕ → Item → Looked ℕ Walked
at_item inner c k i (item.Own e) = known (over_event c k i e)
at_item inner c k i (item.Nested m b values closed) = inner m

-- over these items of interval k
abbrev pub back_over : (ℕ → Looked ℕ Walked) → ℕ → ℕ → List (ℕ × Item) → Looked ℕ Walked
back_over inner c k [] = known Passed
back_over inner c k ((i, t) ∷ rest) = onward (at_item inner c k i t) (back_over inner c k rest)

-- over a whole interval, which is replayed first; intervals inside it have larger numbers, so that no more than all
-- stand in one another
abbrev pub back : ℕ → Seen → ℕ → ℕ → Looked ℕ Walked
back zero x c m = known Passed
back (suc n) x c m = after_replay m (back_over (back n x c) c m (backwards 0 (get_or x.items m []) []))

-- over interval k from before place j, and on from before its place in each of the intervals round it, which is
-- replayed then
abbrev pub walk_out : (ℕ → Looked ℕ Walked) → Seen → ℕ → ℕ → ℕ → List ℕ → Looked ℕ Walked
walk_out inner x c k j [] = back_over inner c k (back_from j (get_or x.items k []))
walk_out inner x c k j (m ∷ ms) =
    onward (back_over inner c k (back_from j (get_or x.items k [])))
    (after_replay m (walk_out inner x c m (place_of k (get_or x.items m [])) ms))

-- a whole interval of the process
abbrev pub inside : Seen → ℕ → ℕ → Looked ℕ Walked
inside x c m = back (length x.items) x c m

-- the last write of shared cell c in the internal edge of place j of interval k, before that place
abbrev pub walk : Seen → ℕ → ℕ → ℕ → Looked ℕ Walked
walk x c k j = walk_out (inside x c) x c k j (get_or x.rounds k [])
