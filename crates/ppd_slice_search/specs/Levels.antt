-- The search by levels: the items of each depth, none of them among the depths before.
use Rattle.std.specs.Prelude.{ℕ, zero, suc, ◌+◌, nat_eq, nat_lt, Bool, not, ◌&&◌, ◌||◌, List, [], ◌∷◌, ◌++◌, filter, fold, map, if◌then◌else◌}
use Rattle.std.specs.List.{flat_map, list_any}
use Rattle.ppd_slice_search.specs.declared.reached.ItemAt.{ItemAt}
use Rattle.ppd_slice_search.specs.declared.reached.Reached.{Reached}

-- item a is item b
abbrev pub is_item : ItemAt → ItemAt → Bool
is_item a b = nat_eq a.process b.process && (nat_eq a.interval b.interval && nat_eq a.item b.item)

-- item a comes before item b: by process, then interval, then number
abbrev pub is_sooner : ItemAt → ItemAt → Bool
is_sooner a b =
    nat_lt a.process b.process
    || (nat_eq a.process b.process
    && (nat_lt a.interval b.interval || (nat_eq a.interval b.interval && nat_lt a.item b.item)))

-- an item put into a rising list, where it stands once
abbrev pub put_item : ItemAt → List ItemAt → List ItemAt
put_item a [] = a ∷ []
put_item a (b ∷ bs) = if is_item a b then b ∷ bs else if is_sooner a b then a ∷ b ∷ bs else b ∷ put_item a bs

-- these items, rising, each once
abbrev pub sorted : List ItemAt → List ItemAt
sorted as' = fold (λ xs a. put_item a xs) [] as'

abbrev pub is_among : List ItemAt → ItemAt → Bool
is_among xs a = list_any (λ x. is_item a x) xs

-- the items that those of a level lead to, without those that were there before
abbrev pub next_level : (ItemAt → List ItemAt) → List ItemAt → List ItemAt → List ItemAt
next_level next seen level = sorted (filter (λ a. not (is_among seen a)) (flat_map next level))

abbrev pub at_depth : ℕ → ItemAt → Reached
at_depth d a = record { process = a.process; interval = a.interval; item = a.item; depth = d }

-- so many levels at most, from one of depth d on; `seen` are the items of this level and of those before it
abbrev pub levels : (ItemAt → List ItemAt) → ℕ → ℕ → List ItemAt → List ItemAt → List Reached
levels next zero d seen level = []
levels next (suc n) d seen [] = []
levels next (suc n) d seen (a ∷ as') =
    map (at_depth d) (a ∷ as')
    ++ levels next n (d + 1) (seen ++ next_level next seen (a ∷ as')) (next_level next seen (a ∷ as'))

-- what item a leads to within so many levels
abbrev pub reached : (ItemAt → List ItemAt) → ℕ → ItemAt → List Reached
reached next n a = levels next n 0 (a ∷ []) (a ∷ [])
