-- The record of a schedule, its synchronizations by process, and the accesses to shared cells between them.
use Rattle.ppd_model.specs.Setting.{Setting}
use Rattle.std.specs.Prelude.{ℕ, ◌+◌, Bool, true, false, List, [], ◌∷◌, ◌++◌, map, is_some, if◌then◌else◌, get_or, filter_map}
use Rattle.ppd_sem.specs.declared.proc.Need.{Need}
use Rattle.ppd_sem.specs.declared.proc.Need.TheVariants.{Read, Write}
use Rattle.ppd_model.specs.Story.{Taken, Story, story}
use Rattle.ppd_model.specs.Synchronizations.{Sync, sync_of}

-- the synchronizations of each process in order
abbrev pub record_of : Story → List (List Sync)
record_of s = map (filter_map sync_of) s.steps

-- the record of a schedule
abbrev pub sync_record : Setting → List ℕ → List (List Sync)
sync_record setting h = record_of (story setting h)

-- ---- accesses

-- a read or a write of a shared cell; its edge is how many synchronizations its process did before
pub record SharedAccess : Type 0 where
  pub edge : ℕ
  pub cell : ℕ
  pub writes : Bool

-- the access of a step in this edge, if it is one
abbrev pub access_at : ℕ → Need → List SharedAccess
access_at edge (Read c) = record { edge = edge; cell = c; writes = false } ∷ []
access_at edge (Write c v) = record { edge = edge; cell = c; writes = true } ∷ []
access_at edge need = []

-- a synchronization ends its edge
abbrev pub edge_after : ℕ → Taken → ℕ
edge_after edge x = if is_some (sync_of x) then edge + 1 else edge

-- the accesses of the steps, the first of which is in this edge
abbrev pub accesses_from : ℕ → List Taken → List SharedAccess
accesses_from edge [] = []
accesses_from edge (x ∷ xs) = access_at edge x.need ++ accesses_from (edge_after edge x) xs

-- the accesses of process p, also those of statements that never finished
abbrev pub accesses : Story → ℕ → List SharedAccess
accesses s p = accesses_from 0 (get_or s.steps p [])
