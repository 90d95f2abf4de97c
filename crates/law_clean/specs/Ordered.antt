-- What holds in a run with races of the edges that no race has.
use Rattle.law_steps.specs.Policies.{setting_by}
use Rattle.ppd_model.specs.Setting.{Setting}
use Rattle.std.specs.Prelude.{◌≡◌, ℕ, ◌<◌, false, List, ◌∷◌, ◌++◌, length, Some, get_or, []}
use Rattle.ppd_ast.specs.Valid.{IsValid}
use Rattle.ppd_ast.specs.declared.plan.Policy.{Policy}
use Rattle.ppd_ast.specs.declared.program.Program.{Program}
use Rattle.ppd_blocks.specs.Blocks.{plan_of}
use Rattle.ppd_sem.specs.declared.proc.Need.TheVariants.{Read}
use Rattle.ppd_model.specs.Forward.{edge_in}
use Rattle.ppd_model.specs.HappenedBefore.{EdgeBefore, edge}
use Rattle.ppd_model.specs.Races.{races}
use Rattle.ppd_model.specs.Record.{sync_record}
use Rattle.ppd_model.specs.Schedule.{run}
use Rattle.ppd_model.specs.SharedReads.{IsFound, need_after}
use Rattle.ppd_model.specs.Story.{told}
use Rattle.ppd_model.specs.World.{World}
use Rattle.law_steps.specs.InForce.Values.{AreRead, begun_in_force}
use Rattle.law_clean.specs.Pasts.{is_raced}

-- no race of the schedule has this edge
abbrev pub IsUnracedIn : Setting → List ℕ → ℕ → ℕ → Type 0
IsUnracedIn setting h p i = is_raced (races setting h) (edge p i) ≡ false

-- each read of process p in a beginning g of the schedule h is in an edge that no race of h has
abbrev pub AreUnracedReads : Setting → (g h : List ℕ) → ℕ → Type 0
AreUnracedReads setting g h p =
    (b more : List ℕ) (c : ℕ) → g ≡ b ++ p ∷ more → need_after setting b p ≡ Read c
    → IsUnracedIn setting h p (edge_in setting b p)

-- then each of these reads is answered by the value in force
abbrev pub UnracedReadsAreInForce : Type 0
UnracedReadsAreInForce =
    (program : Program) (policy : Policy) (budget : ℕ) (g rest : List ℕ) (w : World) (p : ℕ)
    → IsValid program → run (setting_by program policy budget) (g ++ rest) ≡ Some w
    → AreUnracedReads (setting_by program policy budget) g (g ++ rest) p
    → AreRead (plan_of program policy) (begun_in_force program (plan_of program policy) p)
    (get_or (told (setting_by program policy budget) g).moments p [])

-- no race of h has the edge of process p after g, or an edge before it
abbrev pub IsCleanAt : Setting → (g h : List ℕ) → ℕ → Type 0
IsCleanAt setting g h p =
    IsUnracedIn setting h p (edge_in setting g p)
    × ((q i : ℕ) → EdgeBefore setting.program (sync_record setting h) (edge q i)
    (edge p (edge_in setting g p)) → IsUnracedIn setting h q i)

-- then a shared read there is answered by the greatest write before it
abbrev pub CleanReadsAreFound : Type 0
CleanReadsAreFound =
    (setting : Setting) (g : List ℕ) (p : ℕ) (rest : List ℕ) (w : World)
    → run setting (g ++ p ∷ rest) ≡ Some w
    → IsCleanAt setting g (g ++ p ∷ rest) p
    → (c : ℕ) → c < length setting.program.starts → need_after setting g p ≡ Read c
    → IsFound setting g (g ++ p ∷ rest) p c
