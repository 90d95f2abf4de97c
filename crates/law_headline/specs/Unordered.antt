-- Conflicting internal edges that the recorded synchronization leaves unordered.
use Rattle.std.specs.Prelude.{◌≡◌, ◌↔◌, ℕ, ◌<◌, Bool, List, slice_get, Some, Contains}
use Rattle.ppd_ast.specs.declared.program.Program.{Program}
use Rattle.ppd_model.specs.declared.graph.EdgeId.{EdgeId}
use Rattle.ppd_model.specs.declared.graph.Race.{Race}
use Rattle.ppd_model.specs.HappenedBefore.{EdgeBefore, edge}
use Rattle.ppd_model.specs.Races.{first_writes, second_writes}
use Rattle.ppd_model.specs.Record.{accesses, record_of}
use Rattle.ppd_model.specs.declared.tracing.Story.{Story}
use Rattle.ppd_model.specs.Synchronizations.{Sync}

-- in its internal edge i process p writes the shared cell, or reads it
abbrev pub HasAccess : Story → (p i cell : ℕ) → (writes : Bool) → Type 0
HasAccess s p i cell writes = Contains (accesses s p) (record { edge = i; cell = cell; writes = writes })

-- by these synchronizations neither edge happened before the other
pub record AreUnordered (program : Program) (syncs : List (List Sync)) (a b : EdgeId) : Type 0 where
  pub not_before : EdgeBefore program syncs a b → ⊥
  pub not_after : EdgeBefore program syncs b a → ⊥

-- edges i of process p and j of process q, of which p has the smaller number, have accesses of one cell, of which by
-- the kind at least one is a write, and are left unordered by the record
pub record IsUnorderedConflict (program : Program) (s : Story) (r : Race) : Type 0 where
  pub two_processes : r.p < r.q
  pub first : HasAccess s r.p r.i r.cell (first_writes r.kind)
  pub second : HasAccess s r.q r.j r.cell (second_writes r.kind)
  pub unordered : AreUnordered program (record_of s) (edge r.p r.i) (edge r.q r.j)

-- the list has all of them and only them, each once
pub record ListsExactly (program : Program) (s : Story) (races : List Race) : Type 0 where
  pub all_and_only : (r : Race) → Contains races r ↔ IsUnorderedConflict program s r
  pub each_once : (a b : ℕ) (r : Race) → slice_get races a ≡ Some r → slice_get races b ≡ Some r → a ≡ b
