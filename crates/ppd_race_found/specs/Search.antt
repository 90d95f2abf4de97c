-- The races of a process's edges with those of later processes, as they are found cell by cell.
use Rattle.std.specs.Prelude.{◌≡◌, ℕ, ◌+◌, ◌*◌, ◌-◌, ◌<◌, ◌≤◌, nat_eq, Bool, true, false, not, ◌&&◌, ◌||◌, List, [], ◌∷◌, ◌++◌, filter, get_or, length, if◌then◌else◌}
use Rattle.std.specs.List.{flat_map, range_with_len, sum_by}
use Rattle.ppd_ast.specs.declared.limits.TheConstants.{MOST_SHARED_CELLS}
use Rattle.ppd_ast.specs.Members.{has, RisesFrom, AreBelow}
use Rattle.ppd_model.specs.declared.graph.EdgeId.{EdgeId}
use Rattle.ppd_model.specs.declared.graph.Race.{Race}
use Rattle.ppd_model.specs.declared.graph.RaceKind.{RaceKind}
use Rattle.ppd_model.specs.declared.graph.RaceKind.TheVariants.{ReadWrite, WriteRead, WriteWrite}
use Rattle.ppd_model.specs.Races.{race}
use Rattle.ppd_graph.specs.declared.sync_graph.SyncGraph.{SyncGraph}
use Rattle.ppd_graph.specs.Graphs.{count_at, edge_count, is_before_by}
use Rattle.ppd_race_found.specs.declared.busy.Accessor.{Accessor}
use Rattle.ppd_race_found.specs.declared.busy.Against.{Against}
use Rattle.ppd_race_found.specs.declared.busy.Busy.{Busy}
use Rattle.ppd_race_found.specs.declared.by_cell.ByCell.{ByCell}
use Rattle.ppd_race_found.specs.declared.apart.Side.{Side}
use Rattle.ppd_race_found.specs.declared.apart.Side.TheVariants.{Before, NotAfter}

-- ---- the edges of a list that are neither before another edge nor after it

-- an accessor stands on this side of edge b
abbrev pub is_on : SyncGraph → Side → EdgeId → EdgeId → Bool
is_on g Before b a = is_before_by g a b
is_on g NotAfter b a = not (is_before_by g b a)

-- neither is before the other
abbrev pub is_apart : SyncGraph → EdgeId → Accessor → Bool
is_apart g b x = not (is_before_by g x.edge b) && not (is_before_by g b x.edge)

-- an edge that passes the test has only such before it
abbrev pub AreParted : (EdgeId → Bool) → List Accessor → Type 0
AreParted test list =
    (i j : ℕ) (d : Accessor) → i ≤ j → j < length list → test (get_or list j d).edge ≡ true
    → test (get_or list i d).edge ≡ true

-- the first n pass the test and the others do not
pub record IsCut (test : EdgeId → Bool) (list : List Accessor) (n : ℕ) : Type 0 where
  pub first : (k : ℕ) (d : Accessor) → k < n → k < length list → test (get_or list k d).edge ≡ true
  pub others : (k : ℕ) (d : Accessor) → n ≤ k → k < length list → test (get_or list k d).edge ≡ false

-- edges of process p, in order
pub record AreInOrder (g : SyncGraph) (p : ℕ) (list : List Accessor) : Type 0 where
  pub process : (k : ℕ) (d : Accessor) → k < length list → (get_or list k d).edge.process ≡ p
  pub there : (k : ℕ) (d : Accessor) → k < length list → (get_or list k d).edge.edge < edge_count g p
  pub rise : (i j : ℕ) (d : Accessor) → i ≤ j → j < length list
      → (get_or list i d).edge.edge ≤ (get_or list j d).edge.edge

-- an edge of another process of the graph
pub record IsElsewhere (g : SyncGraph) (p : ℕ) (b : EdgeId) : Type 0 where
  pub other : b.process ≡ p → ⊥
  pub there : b.process < length g.edges

-- ---- what is found

-- the race of two edges over a cell
abbrev pub race_of : EdgeId → EdgeId → ℕ → RaceKind → Race
race_of a b cell kind = race a.process a.edge b.process b.edge cell kind

-- the race where the edge stands at place m
abbrev pub picked : ℕ → Against → Accessor → List Race
picked m x a = if nat_eq a.place m then race_of a.edge x.edge x.cell x.kind ∷ [] else []

-- the race of the edge at place m
abbrev pub found_against : SyncGraph → List Accessor → Against → ℕ → List Race
found_against g list x m = flat_map (picked m x) (filter (is_apart g x.edge) list)

abbrev pub found_if : Bool → SyncGraph → List Accessor → Against → ℕ → List Race
found_if holds g list x m = if holds then found_against g list x m else []

abbrev pub against : EdgeId → ℕ → RaceKind → Against
against b c kind = record { edge = b; cell = c; kind = kind }

-- those over a cell with edge b
abbrev pub found_over : SyncGraph → ByCell → Busy → ℕ → ℕ → List Race
found_over g t b c m =
    found_if (has b.writes c) g (get_or t.readers.items c []) (against b.edge c ReadWrite) m
    ++ (found_if (has b.reads c) g (get_or t.writers.items c []) (against b.edge c WriteRead) m
    ++ found_if (has b.writes c) g (get_or t.writers.items c []) (against b.edge c WriteWrite) m)

-- those with edge b
abbrev pub found_with : SyncGraph → ByCell → Busy → ℕ → List Race
found_with g t b m = flat_map (λ c. found_over g t b c m) b.cells

-- those with these edges
abbrev pub found_in : SyncGraph → ByCell → List Busy → ℕ → List Race
found_in g t row m = flat_map (λ b. found_with g t b m) row

-- those with the edges of the processes after p
abbrev pub found_after : SyncGraph → ByCell → List (List Busy) → ℕ → ℕ → List Race
found_after g t rows p m =
    flat_map (λ q. found_in g t (get_or rows q []) m) (range_with_len (p + 1) (length rows - (p + 1)))

-- ---- when it is found

-- the more edges of a process, the more are before them
abbrev pub IsRising : SyncGraph → Type 0
IsRising g =
    (p q j k : ℕ) → p < length g.edges → j ≤ k → k < edge_count g q → count_at g.times q j p ≤ count_at g.times q k p

-- the cells of each rise, are below 1,024, and have those that it reads and writes
pub record IsOfCells (a : Busy) : Type 0 where
  pub rises : RisesFrom 0 a.cells
  pub below : AreBelow MOST_SHARED_CELLS a.cells
  pub all : (c : ℕ) → has a.cells c ≡ (has a.reads c || has a.writes c)

abbrev pub AreOfCells : List Busy → Type 0
AreOfCells own = (k : ℕ) (d : Busy) → k < length own → IsOfCells (get_or own k d)

-- there is a list for each cell
pub record IsWhole (t : ByCell) : Type 0 where
  pub readers : length t.readers.items ≡ MOST_SHARED_CELLS
  pub writers : length t.writers.items ≡ MOST_SHARED_CELLS

-- the lists have edges of process p, in order
pub record CanSearch (g : SyncGraph) (p : ℕ) (t : ByCell) : Type 0 where
  pub rising : IsRising g
  pub readers : (c : ℕ) → c < MOST_SHARED_CELLS → AreInOrder g p (get_or t.readers.items c [])
  pub writers : (c : ℕ) → c < MOST_SHARED_CELLS → AreInOrder g p (get_or t.writers.items c [])

abbrev pub AreElsewhere : SyncGraph → ℕ → List Busy → Type 0
AreElsewhere g p row = (k : ℕ) (d : Busy) → k < length row → IsElsewhere g p (get_or row k d).edge

-- ---- what it costs

-- a search for each cell of an edge
abbrev pub edge_cost : Busy → ℕ
edge_cost b = 1 + 385 * length b.cells

-- a look at each
abbrev pub edge_least : Busy → ℕ
edge_least b = 1 + length b.cells

abbrev pub row_cost : List Busy → ℕ
row_cost row = 1 + sum_by edge_cost row
