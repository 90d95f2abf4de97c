-- What is kept while the edges of items are asked, and what is answered.
use Rattle.std.specs.Prelude.{◌≡◌, ℕ, ◌<◌, ◌⊎◌, nat_lt, Bool, true, List, [], ◌∷◌, Option, Some, None, Result, Ok, Err, get_or, length, ⊤}
use Rattle.ppd_model.specs.declared.flow.FlowEdge.{FlowEdge}
use Rattle.ppd_model.specs.declared.flow.Item.{Item}
use Rattle.ppd_model.specs.declared.flow_error.FlowError.{FlowError}
use Rattle.ppd_model.specs.declared.flow_error.FlowError.TheVariants.{Diverged, NoEvent, Sets, Memory}
use Rattle.ppd_flow_past.specs.declared.past.Past.{Past}
use Rattle.ppd_flow_past.specs.Keeping.{AreKeptOf, IsAllKept}
use Rattle.ppd_flow_past.specs.SeenBy.{failed_in, items_in}
use Rattle.ppd_flow_tables.specs.Tabled.{AreKeptTables}
use Rattle.ppd_slice.specs.declared.held.Kept.{Kept}
use Rattle.ppd_slice_search.specs.declared.reached.ItemAt.{ItemAt}
use Rattle.ppd_slice_search.specs.declared.reached.Reached.{Reached}
use Rattle.ppd_slice_search.specs.Reach.{IsIn}
use Rattle.ppd_slice.specs.Slices.{IsNoItem, flow_of, has_process}

-- ---- what is kept

-- of a past, the replays with tables of their items
pub record IsKept (past : Past) (kept : Kept) : Type 0 where
  pub replays : AreKeptOf past kept.replays
  pub tables : AreKeptTables past kept.tables

-- all of these processes
abbrev pub AreAllKept : Past → List (List (List Item)) → List ℕ → Type 0
AreAllKept past kept [] = ⊤
AreAllKept past kept (p ∷ ps) = IsAllKept past kept p × AreAllKept past kept ps

-- all of each process of which all was kept before
abbrev pub AreStillKept : Past → (old new : List (List (List Item))) → Type 0
AreStillKept past old new = (p : ℕ) → IsAllKept past old p → IsAllKept past new p

-- what is kept newly is of these processes
abbrev pub AreKeptFor : List ℕ → (old new : List (List (List Item))) → Type 0
AreKeptFor ps old new = (q : ℕ) → 0 < length (get_or new q []) → (0 < length (get_or old q [])) ⊎ IsIn q ps

-- whatever is kept is of processes that these items are of
abbrev pub AreKeptAmong : List Reached → List (List (List Item)) → Type 0
AreKeptAmong rs kept = (q : ℕ) → 0 < length (get_or kept q []) → has_process rs q ≡ true

-- ---- what is answered

-- the replay of the item's interval does not fail, and this says whether it has the item
abbrev pub IsThere : Past → ItemAt → Bool → Type 0
IsThere past a there =
    (failed_in past a.process a.interval ≡ None)
    × (there ≡ nat_lt a.item (length (items_in past a.process a.interval)))

-- the edges of an item, none where it is not there, or why they are not found
abbrev pub IsAsked : Past → ItemAt → Result (Option (List FlowEdge)) FlowError → Type 0
IsAsked past a (Ok None) = IsNoItem past a
IsAsked past a (Ok (Some es)) = flow_of past a ≡ Ok es
IsAsked past a (Err NoEvent) = ⊥
IsAsked past a (Err (Diverged q n)) = (m : ℕ) × (failed_in past q m ≡ Some n)
IsAsked past a (Err (Sets q n c)) = flow_of past a ≡ Err (Sets q n c)
IsAsked past a (Err Memory) = ⊤
