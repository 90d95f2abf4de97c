-- The races among edges, all and only, in order: of two processes, neither before the other, over a cell that one of
-- them writes. Those of a story, and of a schedule, are the races among its edges.
use Rattle.ppd_model.specs.Setting.{Setting}
use Rattle.ppd_model.specs.Synchronizations.{sync_of}
use Rattle.std.specs.Bool.{beq}
use Rattle.std.specs.Prelude.{ℕ, ◌+◌, ◌-◌, nat_eq, Bool, true, false, ◌&&◌, ◌||◌, not, List, [], ◌∷◌, map, filter, length, get_or, filter_map}
use Rattle.std.specs.List.{list_any, flat_map, range_with_len}
use Rattle.ppd_ast.specs.declared.program.Program.{Program}
use Rattle.ppd_model.specs.declared.graph.EdgeId.{EdgeId}
use Rattle.ppd_model.specs.declared.graph.Race.{Race}
use Rattle.ppd_model.specs.declared.graph.RaceKind.{RaceKind}
use Rattle.ppd_model.specs.declared.graph.RaceKind.TheVariants.{ReadWrite, WriteRead, WriteWrite}
use Rattle.ppd_model.specs.Story.{Story, story}
use Rattle.ppd_model.specs.Record.{accesses, record_of}
use Rattle.ppd_model.specs.HappenedBefore.{edge, is_edge_before}

-- the first process writes in a race of this kind
abbrev pub first_writes : RaceKind → Bool
first_writes ReadWrite = false
first_writes WriteRead = true
first_writes WriteWrite = true

-- the second process writes in a race of this kind
abbrev pub second_writes : RaceKind → Bool
second_writes ReadWrite = true
second_writes WriteRead = false
second_writes WriteWrite = true

-- the kinds of races in their order
abbrev pub kinds : List RaceKind
kinds = ReadWrite ∷ WriteRead ∷ WriteWrite ∷ []

-- a race from its parts
abbrev pub race : ℕ → ℕ → ℕ → ℕ → ℕ → RaceKind → Race
race p i q j cell kind = record { p = p; i = i; q = q; j = j; cell = cell; kind = kind }

-- ---- among edges

-- edges of processes: how many each process has, how many cells there are, whether an edge writes a cell or
-- reads it, and which edge is before which
pub record Edges : Type 0 where
  pub processes : ℕ
  pub cells : ℕ
  pub count : ℕ → ℕ
  pub accesses : EdgeId → ℕ → Bool → Bool
  pub before : EdgeId → EdgeId → Bool

-- both processes have their accesses in these edges, and neither edge is before the other
abbrev pub is_race : Edges → Race → Bool
is_race e r =
    e.accesses (edge r.p r.i) r.cell (first_writes r.kind)
    && e.accesses (edge r.q r.j) r.cell (second_writes r.kind)
    && not (e.before (edge r.p r.i) (edge r.q r.j) || e.before (edge r.q r.j) (edge r.p r.i))

-- what could be a race of two edges
abbrev pub candidates_at : Edges → ℕ → ℕ → ℕ → ℕ → List Race
candidates_at e p i q j = flat_map (λ cell. map (race p i q j cell) kinds) (range_with_len 0 e.cells)

-- everything that could be a race, rising by the first process, its edge, the second process, its
-- edge, the cell and the kind
abbrev pub candidates : Edges → List Race
candidates e =
    flat_map (λ p. flat_map
    (λ i. flat_map (λ q. flat_map (λ j. candidates_at e p i q j) (range_with_len 0 (e.count q)))
    (range_with_len (p + 1) (e.processes - (p + 1)))) (range_with_len 0 (e.count p)))
    (range_with_len 0 e.processes)

-- the races
abbrev pub races_among : Edges → List Race
races_among e = filter (is_race e) (candidates e)

-- ---- of a story

-- process p has an access of this cell in edge i, a write or a read
abbrev pub has_access : Story → ℕ → ℕ → ℕ → Bool → Bool
has_access s p i cell writes =
    list_any (λ a. nat_eq a.edge i && nat_eq a.cell cell && beq a.writes writes) (accesses s p)

-- the edges of a story: each process has one more than it has synchronizations
abbrev pub edges_of_story : Program → Story → Edges
edges_of_story program s = record {
  processes = length s.steps;
  cells = length s.cells;
  count = λ p. length (filter_map sync_of (get_or s.steps p [])) + 1;
  accesses = λ a cell writes. has_access s a.process a.edge cell writes;
  before = is_edge_before program (record_of s);
}

-- the races of a schedule
abbrev pub races : Setting → List ℕ → List Race
races setting h = races_among (edges_of_story setting.program (story setting h))
