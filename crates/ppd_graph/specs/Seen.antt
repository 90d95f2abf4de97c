-- What the replays of a process's intervals give, and where an interval stands among the others.
use Rattle.std.specs.Prelude.{ℕ, ◌-◌, nat_eq, Bool, false, List, [], ◌∷◌, map, get_or, length, position, unwrap_or}
use Rattle.ppd_ast.specs.declared.plan.BlockKind.{BlockKind}
use Rattle.ppd_ast.specs.declared.plan.Plan.{Plan}
use Rattle.ppd_sem.specs.Blocks.{block_kind}
use Rattle.ppd_model.specs.declared.flow.Item.{Item}
use Rattle.ppd_model.specs.declared.flow.Item.TheVariants as item
use Rattle.ppd_model.specs.declared.flow.Origin.{Origin}
use Rattle.ppd_model.specs.declared.flow.Origin.TheVariants as origin
use Rattle.ppd_model.specs.Intervals.{Split, items_of}
use Rattle.ppd_graph.specs.Looked.{Looked, after_replay, known}

-- what is seen of a process: of each of its intervals the items, the block, and the intervals round it
-- with the innermost first
pub record Seen : Type 0 where
  pub items : List (List Item)
  pub blocks : List ℕ
  pub rounds : List (List ℕ)

-- what is there to be seen of a process in its intervals
abbrev pub seen_of : Split → Seen
seen_of x = record {
  items = map (items_of x) x.spans;
  blocks = map (λ i. i.block) x.spans;
  rounds = map (λ i. i.round) x.spans;
}

-- what the block of interval m is the code of
abbrev pub kind_at : Plan → Seen → ℕ → BlockKind
kind_at plan x m = block_kind plan (get_or x.blocks m 0)

-- the first of these intervals, and interval m where there is none
abbrev pub first_or : ℕ → List ℕ → ℕ
first_or m [] = m
first_or m (k ∷ ks) = k

-- the interval directly round interval m, and m itself where there is none
abbrev pub outer_of : Seen → ℕ → ℕ
outer_of x m = first_or m (get_or x.rounds m [])

-- the item is interval m
abbrev pub is_item_of : ℕ → Item → Bool
is_item_of m (item.Own e) = false
is_item_of m (item.Nested k b values closed) = nat_eq m k

-- the place of interval m among these items
abbrev pub place_of : ℕ → List Item → ℕ
place_of m items = unwrap_or (position (is_item_of m) items) 0

-- the place of interval m in the interval directly round it
abbrev pub outer_place : Seen → ℕ → ℕ
outer_place x m = place_of m (get_or x.items (outer_of x m) [])

-- the call that began interval m, one of a function: it stands straight before the interval
abbrev pub call_of : Seen → ℕ → ℕ → Looked ℕ Origin
call_of x p m = after_replay (outer_of x m) (known (origin.Item p (outer_of x m) (outer_place x m - 1)))

-- the last item of interval m
abbrev pub last_item : Seen → ℕ → ℕ → Looked ℕ Origin
last_item x p m = after_replay m (known (origin.Item p m (length (get_or x.items m []) - 1)))
