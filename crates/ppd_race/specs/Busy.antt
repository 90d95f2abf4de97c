-- The edges that access shared cells, and the races of two of them, as they are looked for.
use Rattle.std.specs.Prelude.{◌≡◌, ℕ, ◌+◌, ◌-◌, ◌^◌, ◌<◌, ◌≤◌, Bool, true, false, not, ◌&&◌, ◌||◌, List, [], ◌∷◌, ◌++◌, map, get_or, length, ⊤, if◌then◌else◌}
use Rattle.std.specs.List.{flat_map, range_with_len}
use Rattle.ppd_ast.specs.declared.limits.TheConstants.{MOST_SHARED_CELLS}
use Rattle.ppd_ast.specs.Members.{has, those, RisesFrom, AreBelow}
use Rattle.ppd_model.specs.declared.graph.EdgeId.{EdgeId}
use Rattle.ppd_model.specs.declared.graph.Race.{Race}
use Rattle.ppd_model.specs.declared.graph.RaceKind.TheVariants.{ReadWrite, WriteRead, WriteWrite}
use Rattle.ppd_ast.specs.declared.limits.TheConstants.{MOST_NAMED}
use Rattle.ppd_race_found.specs.EdgeSets.{EdgeSets}
use Rattle.ppd_race_found.specs.SyncGraph.{SyncGraph}
use Rattle.ppd_race_found.specs.Graphs.{is_before_by}
use Rattle.ppd_race_found.specs.LogRecord.{no_sets}
use Rattle.ppd_race_found.specs.declared.busy.Busy.{Busy}
use Rattle.ppd_race_found.specs.Search.{race_of}

-- ---- the races of two edges

-- the race where it is one
abbrev pub race_if : Bool → Race → List Race
race_if b r = if b then r ∷ [] else []

-- the races of two busy edges over a cell
abbrev pub races_at : Busy → Busy → ℕ → List Race
races_at a b cell =
    race_if (has a.reads cell && has b.writes cell) (race_of a.edge b.edge cell ReadWrite)
    ++ (race_if (has a.writes cell && has b.reads cell) (race_of a.edge b.edge cell WriteRead)
    ++ race_if (has a.writes cell && has b.writes cell) (race_of a.edge b.edge cell WriteWrite))

-- their races over the cells of the second
abbrev pub races_all : Busy → Busy → List Race
races_all a b = flat_map (races_at a b) b.cells

-- neither is before the other
abbrev pub can_race : SyncGraph → Busy → Busy → Bool
can_race g a b = not (is_before_by g a.edge b.edge) && not (is_before_by g b.edge a.edge)

-- the races of two busy edges of two processes
abbrev pub races_between : SyncGraph → Busy → Busy → List Race
races_between g a b = if can_race g a b then races_all a b else []

-- ---- the busy edges of a process

-- the processes have 8-bit numbers, and their edges 32-bit ones
pub record AreFew (sets : List (List EdgeSets)) : Type 0 where
  pub processes : length sets ≤ MOST_NAMED
  pub edges : (q : ℕ) → length (get_or sets q []) < 2 ^ 32

abbrev pub is_none : List ℕ → Bool
is_none [] = true
is_none (x ∷ xs) = false

-- an edge with these sets accesses a cell
abbrev pub is_busy : EdgeSets → Bool
is_busy sets = not (is_none sets.reads && is_none sets.writes)

abbrev pub is_busy_in : List EdgeSets → ℕ → Bool
is_busy_in own j = is_busy (get_or own j no_sets)

-- it has this edge's name, the cells of its sets, and all of them as a rising list
pub record IsBusyOf (edge : EdgeId) (sets : EdgeSets) (b : Busy) : Type 0 where
  pub edge_is : b.edge ≡ edge
  pub reads : (c : ℕ) → c < MOST_SHARED_CELLS → has b.reads c ≡ has sets.reads c
  pub writes : (c : ℕ) → c < MOST_SHARED_CELLS → has b.writes c ≡ has sets.writes c
  pub rises : RisesFrom 0 b.cells
  pub below : AreBelow MOST_SHARED_CELLS b.cells
  pub all : (c : ℕ) → has b.cells c ≡ (has b.reads c || has b.writes c)

-- with one more where the test holds
abbrev pub Takes : Bool → List Busy → List Busy → EdgeId → EdgeSets → Type 0
Takes true old new edge sets = (b : Busy) × (new ≡ old ++ b ∷ []) × IsBusyOf edge sets b
Takes false old new edge sets = new ≡ old

-- it is an edge of process q, with these sets of that process's edges
pub record IsBusyIn (q : ℕ) (own : List EdgeSets) (b : Busy) : Type 0 where
  pub process : b.edge.process ≡ q
  pub there : b.edge.edge < length own
  pub busy : IsBusyOf b.edge (get_or own b.edge.edge no_sets) b

abbrev pub EachBusyIn : ℕ → List EdgeSets → List Busy → Type 0
EachBusyIn q own [] = ⊤
EachBusyIn q own (b ∷ bs) = IsBusyIn q own b × EachBusyIn q own bs

-- the numbers of edges
abbrev pub numbers : List Busy → List ℕ
numbers row = map (λ b. b.edge.edge) row

-- these are the busy ones of the first n edges of process q, in order
pub record IsBusyPart (q : ℕ) (own : List EdgeSets) (n : ℕ) (row : List Busy) : Type 0 where
  pub each : EachBusyIn q own row
  pub names : numbers row ≡ those n (is_busy_in own)

-- these are the busy edges of process q, in order
abbrev pub IsBusyRow : ℕ → List EdgeSets → List Busy → Type 0
IsBusyRow q own row = IsBusyPart q own (length own) row

-- the busy edges of each process
pub record AreBusyRows (sets : List (List EdgeSets)) (rows : List (List Busy)) : Type 0 where
  pub processes : length rows ≡ length sets
  pub row : (q : ℕ) → q < length rows → IsBusyRow q (get_or sets q []) (get_or rows q [])

-- ---- as they are found

-- the races of a busy edge with the busy edges of the processes after p
abbrev pub races_with_later : SyncGraph → List (List Busy) → ℕ → Busy → List Race
races_with_later g rows p a =
    flat_map (λ q. flat_map (races_between g a) (get_or rows q [])) (range_with_len (p + 1) (length rows - (p + 1)))

-- the races of process p with the later processes
abbrev pub races_from : SyncGraph → List (List Busy) → ℕ → List Race
races_from g rows p = flat_map (races_with_later g rows p) (get_or rows p [])

-- those of all processes
abbrev pub races_by_rows : SyncGraph → List (List Busy) → List Race
races_by_rows g rows = flat_map (races_from g rows) (range_with_len 0 (length rows))
