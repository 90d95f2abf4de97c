-- The search for where a shared cell was written: in the internal edge of the place, else in the greatest edge
-- before it that writes the cell; and for the pair of a synchronization. Each says which intervals it replays.
use Rattle.std.specs.Prelude.{ℕ, ◌+◌, ℤ, pos, Bool, List, [], ◌∷◌, ◌++◌, filter, fold, get_or, map, Option, Some, None, Result, Ok, Err, if◌then◌else◌}
use Rattle.ppd_ast.specs.declared.program.Program.{Program}
use Rattle.ppd_ast.specs.Members.{has}
use Rattle.ppd_graph.specs.Logs.{Logs}
use Rattle.ppd_graph.specs.declared.paired.Paired.{Paired}
use Rattle.ppd_graph.specs.declared.paired.Paired.TheVariants.{Nothing, Initial, Node}
use Rattle.ppd_graph.specs.declared.sets.EdgeSets.{EdgeSets}
use Rattle.ppd_graph.specs.LogRecord.{edge_sets_in}
use Rattle.ppd_graph.specs.Partners.{pairs_of}
use Rattle.ppd_graph.specs.Times.{pair_at}
use Rattle.ppd_model.specs.declared.flow.Origin.{Origin}
use Rattle.ppd_model.specs.declared.flow.Origin.TheVariants as origin
use Rattle.ppd_model.specs.declared.graph.EdgeId.{EdgeId}
use Rattle.ppd_model.specs.HappenedBefore.{edge, is_edge_before, node}
use Rattle.ppd_model.specs.RecordedSets.{record_in}
use Rattle.ppd_graph.specs.declared.walked.Walked.{Walked}
use Rattle.ppd_graph.specs.declared.walked.Walked.TheVariants.{Found}
use Rattle.ppd_graph.specs.Ends.{edge_at, end_interval, end_item, ending}
use Rattle.ppd_graph.specs.Looked.{Looked, known, look_map, look_then, after_replay}
use Rattle.ppd_graph.specs.Seen.{Seen}
use Rattle.ppd_graph.specs.Walk.{walk}

-- ---- processes

-- what is seen of process p, and nothing past the processes
abbrev pub seen_at : List Seen → ℕ → Seen
seen_at xs p = get_or xs p (record { items = []; blocks = []; rounds = [] })

-- these intervals of process p, each by its process and its number
abbrev pub of_process : ℕ → List ℕ → List (ℕ × ℕ)
of_process p ks = map (λ k. (p, k)) ks

-- what is looked for in process p
abbrev pub in_process : {A : Type 0} → ℕ → Looked ℕ A → Looked (ℕ × ℕ) A
in_process p x = record { found = x.found; replays = of_process p x.replays }

-- ---- the edges that write a cell

-- those of these edges of process p, numbered from i on
abbrev pub writing_in : ℕ → ℕ → ℕ → List EdgeSets → List EdgeId
writing_in c p i [] = []
writing_in c p i (s ∷ ss) =
    if has s.writes c then edge p i ∷ writing_in c p (i + 1) ss else writing_in c p (i + 1) ss

-- those of the processes from number p on
abbrev pub writing_from : ℕ → ℕ → List (List EdgeSets) → List EdgeId
writing_from c p [] = []
writing_from c p (sets ∷ rest) = writing_in c p 0 sets ++ writing_from c (p + 1) rest

-- the edges whose recorded write set has the cell
abbrev pub writing : Logs → ℕ → List EdgeId
writing logs c = writing_from c 0 (edge_sets_in logs)

-- edge a where the greatest one so far is before it
abbrev pub greater : (EdgeId → EdgeId → Bool) → Option EdgeId → EdgeId → Option EdgeId
greater before None a = Some a
greater before (Some b) a = if before b a then Some a else Some b

-- the greatest of these edges, if they have one
abbrev pub greatest : (EdgeId → EdgeId → Bool) → List EdgeId → Option EdgeId
greatest before es = fold (greater before) None es

-- happened-before on internal edges, by the record that the logs tell
abbrev pub is_before_in : Program → Logs → EdgeId → EdgeId → Bool
is_before_in program logs a b = is_edge_before program (record_in logs) a b

-- the greatest of all edges that write the cell
abbrev pub greatest_writing : Program → Logs → ℕ → Option EdgeId
greatest_writing program logs c = greatest (is_before_in program logs) (writing logs c)

-- the greatest of those that are before edge e
abbrev pub greatest_before : Program → Logs → EdgeId → ℕ → Option EdgeId
greatest_before program logs e c =
    greatest (is_before_in program logs) (filter (λ a. is_before_in program logs a e) (writing logs c))

-- ---- the last write in an edge

-- an entry whose recorded write set has the cell, though the walk from there finds no write of it in the edge
pub record Missing : Type 0 where
  pub process : ℕ
  pub entry : ℕ
  pub cell : ℕ

-- the entry that ends the edge is such a one
abbrev pub missing : Logs → ℕ → EdgeId → Missing
missing logs c a =
    record { process = a.process; entry = ending a.edge (get_or logs.lists a.process []); cell = c }

-- the walk for the cell from the end of an edge: the interval in which it ends is replayed first
abbrev pub walk_in : Logs → List Seen → ℕ → EdgeId → Looked ℕ Walked
walk_in logs xs c a =
    let entries = get_or logs.lists a.process [] in
    let x = seen_at xs a.process in
    let k = end_interval entries a.edge in
    after_replay k (walk x c k (end_item entries x a.edge))

-- the value and the place of the write that the walk in edge a found
abbrev pub written_at : Logs → ℕ → EdgeId → Walked → Result (ℤ × Origin) Missing
written_at logs c a (Found k i v) = Ok (v, origin.Item a.process k i)
written_at logs c a w = Err (missing logs c a)

-- the last write of the cell in an edge that writes it
abbrev pub written_in : Logs → List Seen → ℕ → EdgeId → Looked (ℕ × ℕ) (Result (ℤ × Origin) Missing)
written_in logs xs c a = look_map (written_at logs c a) (in_process a.process (walk_in logs xs c a))

-- the last write in this edge, and the start value where there is none
abbrev pub written_or_start : Program → Logs → List Seen → ℕ → Option EdgeId
    → Looked (ℕ × ℕ) (Result (ℤ × Origin) Missing)
written_or_start program logs xs c None = known (Ok (get_or program.starts c (pos 0), origin.Initial))
written_or_start program logs xs c (Some a) = written_in logs xs c a

-- ---- a shared read, and the last value

-- without the value
abbrev pub origin_in : Result (ℤ × Origin) Missing → Result Origin Missing
origin_in (Ok w) = Ok w.1
origin_in (Err m) = Err m

-- what the walk of process p found, and otherwise this
abbrev pub own_or : ℕ → Walked → Looked (ℕ × ℕ) (Result Origin Missing) → Looked (ℕ × ℕ) (Result Origin Missing)
own_or p (Found k i v) otherwise = known (Ok (origin.Item p k i))
own_or p w otherwise = otherwise

-- the internal edge of a place of process p
abbrev pub edge_of_place : Logs → List Seen → ℕ → ℕ → ℕ → EdgeId
edge_of_place logs xs p k j = edge p (edge_at (get_or logs.lists p []) (seen_at xs p) k j)

-- where shared cell c was written that is read at place j of interval k of process p, whose items are there
abbrev pub shared_origin : Program → Logs → List Seen → ℕ → ℕ → ℕ → ℕ → Looked (ℕ × ℕ) (Result Origin Missing)
shared_origin program logs xs p k j c =
    look_then (in_process p (walk (seen_at xs p) c k j)) (λ w. own_or p w
    (look_map origin_in
    (written_or_start program logs xs c (greatest_before program logs (edge_of_place logs xs p k j) c))))

-- the last value of shared cell c, and where it was written
abbrev pub found_last : Program → Logs → List Seen → ℕ → Looked (ℕ × ℕ) (Result (ℤ × Origin) Missing)
found_last program logs xs c = written_or_start program logs xs c (greatest_writing program logs c)

-- ---- pairs

-- what leads to the synchronization at a place of process p, by the numbers in the record: it ends its edge
abbrev pub pair_of : Program → Logs → List Seen → ℕ → ℕ → ℕ → Paired
pair_of program logs xs p k j =
    pair_at (pairs_of program (record_in logs)) (node p (edge_at (get_or logs.lists p []) (seen_at xs p) k j))

-- where a pair is an item: where the edge that it ends does, by the replay of the interval there
abbrev pub pair_place : Logs → List Seen → Paired → Looked (ℕ × ℕ) (Option Origin)
pair_place logs xs Nothing = known None
pair_place logs xs Initial = known (Some origin.Initial)
pair_place logs xs (Node a) =
    let entries = get_or logs.lists a.process [] in
    let k = end_interval entries a.sync in
    after_replay (a.process, k)
    (known (Some (origin.Item a.process k (end_item entries (seen_at xs a.process) a.sync))))

-- the pair of the synchronization at place j of interval k of process p, if it has one
abbrev pub pair_origin : Program → Logs → List Seen → ℕ → ℕ → ℕ → Looked (ℕ × ℕ) (Option Origin)
pair_origin program logs xs p k j = pair_place logs xs (pair_of program logs xs p k j)
