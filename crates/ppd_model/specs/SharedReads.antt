-- Where the value of a shared cell that is read came from, where no race is listed.
use Rattle.ppd_model.specs.Setting.{Setting}
use Rattle.std.specs.Prelude.{◌≡◌, ℕ, ◌<◌, ℤ, Bool, true, false, ◌||◌, ◌⊎◌, IsTrue, List, [], ◌∷◌, ◌++◌, get_or, length, slice_get, Some, None}
use Rattle.ppd_sem.specs.declared.proc.Need.{Need}
use Rattle.ppd_sem.specs.declared.proc.Need.TheVariants.{Read, Write}
use Rattle.ppd_model.specs.World.{World, need}
use Rattle.ppd_model.specs.Schedule.{run}
use Rattle.ppd_model.specs.Story.{next_event, story, told}
use Rattle.ppd_model.specs.Record.{SharedAccess, accesses, sync_record}
use Rattle.ppd_model.specs.Races.{races}
use Rattle.ppd_model.specs.HappenedBefore.{EdgeBefore, edge}
use Rattle.ppd_model.specs.Laws.{IsUnwritten, begins}
use Rattle.ppd_model.specs.Forward.{edge_in}

-- the step reads the cell, or writes it
abbrev pub IsAccess : ℕ → Bool → Need → Type 0
IsAccess c false n = n ≡ Read c
IsAccess c true n = (v : ℤ) × (n ≡ Write c v)

-- what process p needs after the steps of g
abbrev pub need_after : Setting → List ℕ → ℕ → Need
need_after setting g p = need setting.program setting.plan (told setting g).world p

-- ---- conflicting steps go forward

-- two steps of two processes on one cell, one of them a write: the earlier one's edge is before the other's
abbrev pub ConflictsGoForward : Type 0
ConflictsGoForward =
    (setting : Setting) (g : List ℕ) (q : ℕ) (more : List ℕ) (p : ℕ) (rest : List ℕ)
    (w : World)
    → run setting ((g ++ q ∷ more) ++ p ∷ rest) ≡ Some w
    → races setting ((g ++ q ∷ more) ++ p ∷ rest) ≡ []
    → (q ≡ p → ⊥) → (c : ℕ) → c < length setting.program.starts → (first second : Bool) → IsTrue (first || second)
    → IsAccess c first (need_after setting g q)
    → IsAccess c second (need_after setting (g ++ q ∷ more) p)
    → EdgeBefore setting.program (sync_record setting ((g ++ q ∷ more) ++ p ∷ rest))
    (edge q (edge_in setting g q)) (edge p (edge_in setting (g ++ q ∷ more) p))

-- ---- accesses and the steps that they are

-- the step of process p after g is this access of it
abbrev pub StepsAreAccesses : Type 0
StepsAreAccesses =
    (setting : Setting) (g : List ℕ) (p : ℕ) (rest : List ℕ) (c : ℕ) (writes : Bool)
    → IsAccess c writes (need_after setting g p)
    → (m : ℕ) × (slice_get (accesses (story setting (g ++ p ∷ rest)) p) m
    ≡ Some (record { edge = edge_in setting g p; cell = c; writes = writes }))

-- a write of process q in a schedule, by the step at which it is
pub record IsWriteStep (setting : Setting) (h : List ℕ) (q : ℕ)
    (a : SharedAccess) : Type 0 where
  pub before : List ℕ
  pub after : List ℕ
  pub schedule_is : h ≡ before ++ q ∷ after
  pub writes : IsAccess a.cell true (need_after setting before q)
  pub edge_is : a.edge ≡ edge_in setting before q

-- each write is such a step
abbrev pub WritesAreSteps : Type 0
WritesAreSteps =
    (setting : Setting) (h : List ℕ) (q m : ℕ) (a : SharedAccess)
    → slice_get (accesses (story setting h) q) m ≡ Some a → IsTrue a.writes
    → IsWriteStep setting h q a

-- ---- the writer of a read

-- process q writes the cell in this edge
pub record WritesIn (setting : Setting) (h : List ℕ) (c q i : ℕ) : Type 0 where
  pub number : ℕ
  pub access : SharedAccess
  pub there : slice_get (accesses (story setting h) q) number ≡ Some access
  pub cell : access.cell ≡ c
  pub edge_is : access.edge ≡ i
  pub writes : IsTrue access.writes

-- the cell was not written in an edge before edge e of process p, nor before its read after g
pub record IsFromStart (setting : Setting) (g h : List ℕ) (p c : ℕ) : Type 0 where
  pub tag_is : get_or (told setting g).writers c None ≡ None
  pub unwritten : IsUnwritten setting.program setting.plan c (begins setting) g
  pub none : (q i : ℕ) → WritesIn setting h c q i
      → EdgeBefore setting.program (sync_record setting h) (edge q i) (edge p (edge_in setting g p))
      → ⊥

-- the last write of the cell before the read is this one
pub record IsWrittenBy (setting : Setting) (g : List ℕ) (c : ℕ) : Type 0 where
  pub before : List ℕ
  pub process : ℕ
  pub after : List ℕ
  pub schedule_is : g ≡ before ++ process ∷ after
  pub writes : IsAccess c true (need_after setting before process)
  pub tag_is : get_or (told setting g).writers c None
      ≡ Some (next_event (told setting before) process)
  pub unwritten : IsUnwritten setting.program setting.plan c (told setting (before ++ process ∷ [])) after

-- it is in another edge than the read: in the greatest of the edges before the read's in which the cell is
-- written, and the read's own edge has no earlier write of its own process
pub record IsAcross (setting : Setting) (g h : List ℕ) (p c q i : ℕ) : Type 0 where
  pub before : EdgeBefore setting.program (sync_record setting h) (edge q i)
      (edge p (edge_in setting g p))
  pub greatest : (q' i' : ℕ) → WritesIn setting h c q' i'
      → EdgeBefore setting.program (sync_record setting h) (edge q' i') (edge p (edge_in setting g p))
      → ((q' ≡ q) × (i' ≡ i)) ⊎ EdgeBefore setting.program (sync_record setting h) (edge q' i') (edge q i)
  pub none_own : (b more : List ℕ) → g ≡ b ++ p ∷ more → IsAccess c true (need_after setting b p)
      → edge_in setting b p ≡ edge_in setting g p → ⊥

-- a read of process p after g, in the schedule h
abbrev pub IsFound : Setting → (g h : List ℕ) → (p c : ℕ) → Type 0
IsFound setting g h p c =
    IsFromStart setting g h p c
    ⊎ ((x : IsWrittenBy setting g c)
    × (((x.process ≡ p) × (edge_in setting x.before x.process ≡ edge_in setting g p))
    ⊎ IsAcross setting g h p c x.process (edge_in setting x.before x.process)))

-- so it is with each read of a schedule without a race
abbrev pub SharedReadsAreFound : Type 0
SharedReadsAreFound =
    (setting : Setting) (g : List ℕ) (p : ℕ) (rest : List ℕ) (w : World)
    → run setting (g ++ p ∷ rest) ≡ Some w → races setting (g ++ p ∷ rest) ≡ []
    → (c : ℕ) → c < length setting.program.starts → need_after setting g p ≡ Read c
    → IsFound setting g (g ++ p ∷ rest) p c

-- ---- the last write of all

-- every edge that writes the cell is this one, or before it
pub record IsGreatest (setting : Setting) (h : List ℕ) (c q i : ℕ) : Type 0 where
  pub greatest : (q' i' : ℕ) → WritesIn setting h c q' i'
      → ((q' ≡ q) × (i' ≡ i)) ⊎ EdgeBefore setting.program (sync_record setting h) (edge q' i') (edge q i)

-- in a schedule without a race the last write of a cell is in the greatest edge that writes it
abbrev pub LastWritesAreGreatest : Type 0
LastWritesAreGreatest =
    (setting : Setting) (h : List ℕ) (w : World) → run setting h ≡ Some w
    → races setting h ≡ []
    → (c : ℕ) → c < length setting.program.starts → (x : IsWrittenBy setting h c)
    → IsGreatest setting h c x.process (edge_in setting x.before x.process)
