-- Happened before, on the synchronizations of a record and on the internal edges between them.
use Rattle.std.specs.Prelude.{◌≡◌, ℕ, zero, suc, ◌+◌, ◌<◌, nat_eq, nat_lt, Bool, false, ◌&&◌, ◌||◌, List, [], ◌∷◌, map, get_or, slice_get, length, Option, is_some, IsTrue, if◌then◌else◌}
use Rattle.std.specs.List.{enumerate_from, flat_map, range_with_len}
use Rattle.ppd_ast.specs.declared.program.Program.{Program}
use Rattle.ppd_model.specs.declared.graph.NodeId.{NodeId}
use Rattle.ppd_model.specs.declared.graph.EdgeId.{EdgeId}
use Rattle.ppd_model.specs.Synchronizations.{Sync, leads_at}

-- synchronization i of process p
abbrev pub node : ℕ → ℕ → NodeId
node p i = record { process = p; sync = i }

-- internal edge i of process p
abbrev pub edge : ℕ → ℕ → EdgeId
edge p i = record { process = p; edge = i }

-- the synchronization of this name, if it is there
abbrev pub sync_at : List (List Sync) → NodeId → Option Sync
sync_at syncs a = slice_get (get_or syncs a.process []) a.sync

-- b is there and the next of its process, or a leads to it by its number
abbrev pub is_direct : Program → List (List Sync) → NodeId → NodeId → Bool
is_direct program syncs a b =
    (nat_eq a.process b.process && nat_eq (a.sync + 1) b.sync && is_some (sync_at syncs b))
    || leads_at program (sync_at syncs a) (sync_at syncs b)

-- the least transitive relation with the direct steps
pub data Before (program : Program) (syncs : List (List Sync)) : NodeId → NodeId → Type 0 where
  direct : {a b : NodeId} → IsTrue (is_direct program syncs a b) → Before program syncs a b
  through : {a b c : NodeId} → Before program syncs a b → Before program syncs b c → Before program syncs a c

-- edge j is ended by synchronization j and begun by the one before it; of two processes the end of
-- the first edge is before the beginning of the second
pub data EdgeBefore (program : Program) (syncs : List (List Sync)) (a b : EdgeId) : Type 0 where
  earlier : a.process ≡ b.process → a.edge < b.edge → EdgeBefore program syncs a b
  across : (a.process ≡ b.process → ⊥) → (j : ℕ) → b.edge ≡ j + 1
      → Before program syncs (node a.process a.edge) (node b.process j) → EdgeBefore program syncs a b

-- ---- tests of them

-- a relation, with the ways through these nodes
abbrev pub closed_through : {A : Type 0} → (A → A → Bool) → List A → A → A → Bool
closed_through r [] a b = r a b
closed_through r (n ∷ ns) a b = closed_through r ns a b || (closed_through r ns a n && closed_through r ns n b)

-- does a happen before b, through any synchronizations of the record
abbrev pub is_before : Program → List (List Sync) → NodeId → NodeId → Bool
is_before program syncs a b =
    let nodes = flat_map (λ e. map (node e.0) (range_with_len 0 (length e.1))) (enumerate_from 0 syncs) in
    closed_through (is_direct program syncs) nodes a b

-- is edge a before edge b
abbrev pub is_edge_before : Program → List (List Sync) → EdgeId → EdgeId → Bool
is_edge_before program syncs a b =
    if nat_eq a.process b.process then nat_lt a.edge b.edge
    else elim b.edge [ zero ↦ false | suc j ↦ is_before program syncs (node a.process a.edge) (node b.process j) ]
