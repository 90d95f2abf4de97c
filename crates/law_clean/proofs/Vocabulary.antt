-- What the proofs speak of: definitions that no contract cites.
use Rattle.ppd_model.specs.Setting.{Setting}
use Rattle.ppd_model.specs.Races.{races_among, edges_of_story}
use Rattle.std.specs.Prelude.{◌≡◌, false, ℕ, ◌⊎◌, ◌<◌, Bool, ◌||◌, List, ◌∷◌, ◌++◌, length, Some, IsTrue}
use Rattle.ppd_ast.specs.declared.program.Program.{Program}
use Rattle.ppd_model.specs.declared.graph.EdgeId.{EdgeId}
use Rattle.ppd_model.specs.declared.tracing.Story.{Story}
use Rattle.ppd_model.specs.HappenedBefore.{EdgeBefore, edge}
use Rattle.ppd_model.specs.Laws.{DoConflict}
use Rattle.ppd_model.specs.Record.{SharedAccess, record_of, sync_record}
use Rattle.ppd_model.specs.Forward.{edge_in}
use Rattle.ppd_model.specs.Schedule.{run}
use Rattle.ppd_model.specs.SharedReads.{IsAccess, need_after}
use Rattle.ppd_model.specs.World.{World}
use Rattle.law_clean.specs.Pasts.{is_raced}
use Rattle.law_clean.specs.Ordered.{IsUnracedIn}

-- no race of the story has this edge
abbrev pub IsUnraced : Program → Story → EdgeId → Type 0
IsUnraced program s e = is_raced (races_among (edges_of_story program s)) e ≡ false

-- conflicting accesses are ordered where no race has the edge of one of them
abbrev pub UnracedMeansOrder : Type 0
UnracedMeansOrder =
    (program : Program) (s : Story) (p q : ℕ) (a b : SharedAccess) → DoConflict s p q a b
    → IsUnraced program s (edge p a.edge) ⊎ IsUnraced program s (edge q b.edge)
    → EdgeBefore program (record_of s) (edge p a.edge) (edge q b.edge)
    ⊎ EdgeBefore program (record_of s) (edge q b.edge) (edge p a.edge)

-- two steps of two processes on one cell, one of them a write: where no race has the edge of one of them, the earlier
-- one's edge is before the other's
abbrev pub UnracedGoForward : Type 0
UnracedGoForward =
    (setting : Setting) (g : List ℕ) (q : ℕ) (more : List ℕ) (p : ℕ) (rest : List ℕ)
    (w : World)
    → run setting ((g ++ q ∷ more) ++ p ∷ rest) ≡ Some w
    → IsUnracedIn setting ((g ++ q ∷ more) ++ p ∷ rest) q (edge_in setting g q)
    ⊎ IsUnracedIn setting ((g ++ q ∷ more) ++ p ∷ rest) p (edge_in setting (g ++ q ∷ more) p)
    → (q ≡ p → ⊥) → (c : ℕ) → c < length setting.program.starts → (first second : Bool) → IsTrue (first || second)
    → IsAccess c first (need_after setting g q)
    → IsAccess c second (need_after setting (g ++ q ∷ more) p)
    → EdgeBefore setting.program (sync_record setting ((g ++ q ∷ more) ++ p ∷ rest))
    (edge q (edge_in setting g q)) (edge p (edge_in setting (g ++ q ∷ more) p))
