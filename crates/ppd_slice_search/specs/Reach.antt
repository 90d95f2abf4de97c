-- Which items a slice has: those that lists of items lead to, each with its least depth.
use Rattle.std.specs.Prelude.{◌≡◌, ℕ, suc, ◌<◌, ◌≤◌, ◌⊎◌, List, [], ◌∷◌, AllPairs}
use Rattle.std.specs.List.{flat_map}
use Rattle.ppd_model.specs.declared.flow.FlowEdge.{FlowEdge}
use Rattle.ppd_model.specs.declared.flow.Origin.{Origin}
use Rattle.ppd_model.specs.declared.flow.Origin.TheVariants as origin
use Rattle.ppd_slice_search.specs.declared.reached.ItemAt.{ItemAt}
use Rattle.ppd_slice_search.specs.declared.reached.Reached.{Reached}

-- ---- items and edges

abbrev pub at : ℕ → ℕ → ℕ → ItemAt
at p k j = record { process = p; interval = k; item = j }

-- the item that an origin is, if it is one
abbrev pub place_of : Origin → List ItemAt
place_of (origin.Item p k j) = at p k j ∷ []
place_of o = []

-- the items that these edges come from
abbrev pub places_of : List FlowEdge → List ItemAt
places_of es = flat_map (λ e. place_of e.from) es

-- ---- lists

-- x is an element of the list
abbrev pub IsIn : {A : Type 0} → A → List A → Type 0
IsIn x [] = ⊥
IsIn x (y ∷ ys) = (x ≡ y) ⊎ IsIn x ys

-- ---- paths

-- a list of so many edges leads from item a to item b, where the edges of an item come from `next` of it
pub data Leads (next : ItemAt → List ItemAt) : ℕ → ItemAt → ItemAt → Type 0 where
  stays : {d : ℕ} {a b : ItemAt} → d ≡ 0 → a ≡ b → Leads next d a b
  comes : {d : ℕ} {a b : ItemAt} (n : ℕ) (c : ItemAt) → d ≡ suc n → IsIn c (next a) → Leads next n c b
      → Leads next d a b

-- ---- order

-- the item without its depth
abbrev pub item_of : Reached → ItemAt
item_of r = at r.process r.interval r.item

-- r comes before s: by depth, then by process, then interval, then number
abbrev pub IsBefore : Reached → Reached → Type 0
IsBefore r s =
    (r.depth < s.depth) ⊎ ((r.depth ≡ s.depth) × ((r.process < s.process)
    ⊎ ((r.process ≡ s.process) × ((r.interval < s.interval) ⊎ ((r.interval ≡ s.interval) × (r.item < s.item))))))

-- ---- slices

-- these are all items that item a leads to, each with its least number of edges and before all that stand behind it, so
-- that none stands twice
pub record IsReach (next : ItemAt → List ItemAt) (a : ItemAt) (rs : List Reached) : Type 0 where
  pub rising : AllPairs IsBefore rs
  pub led_to : (r : Reached) → IsIn r rs → Leads next r.depth a (item_of r)
  pub least : (r : Reached) → IsIn r rs → (d : ℕ) → Leads next d a (item_of r) → r.depth ≤ d
  pub all : (d : ℕ) (b : ItemAt) → Leads next d a b → (r : Reached) × IsIn r rs × (item_of r ≡ b)
