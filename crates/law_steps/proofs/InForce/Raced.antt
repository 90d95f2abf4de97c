-- A read and an earlier write of another process, since which the reader did not synchronize, are a race.
use Rattle.ppd_model.specs.Setting.{Setting}
use Rattle.std.proofs.Common.{◌≡◌, ℕ, ◌<◌, ℤ, List, [], ◌∷◌, ◌++◌, Some, true, false, refl, ap, sym, subst, ◌∙◌, length}
use Rattle.std.proofs.lemmas.List.{append-nil, append_assoc}
use Rattle.ppd_sem.specs.declared.proc.Need.TheVariants.{Read, Write}
use Rattle.ppd_model.specs.Forward.{edge_in}
use Rattle.ppd_model.specs.HappenedBefore.{EdgeBefore, edge}
use Rattle.ppd_model.specs.Races.{races}
use Rattle.ppd_model.specs.Record.{sync_record}
use Rattle.ppd_model.specs.Schedule.{run}
use Rattle.ppd_model.specs.SharedReads.{need_after}
use Rattle.ppd_model.specs.World.{World}
use Rattle.ppd_model.proofs.Forward.{edges_forward}
use Rattle.ppd_model.proofs.SharedReads.{conflicts_forward}

-- the write is after `before`, and the read after `before`, the write and `between`
module _ (setting : Setting) (before between rest : List ℕ) (writer reader c : ℕ) (last : World) where
  abbrev all : List ℕ
  all = (before ++ writer ∷ between) ++ reader ∷ rest

  abbrev read_edge : ℕ
  read_edge = edge_in setting (before ++ writer ∷ between) reader

  -- the edge of the write is before that of the read, which goes on since before the write
  backward : run setting all ≡ Some last → edge_in setting before reader ≡ read_edge
      → EdgeBefore setting.program (sync_record setting all) (edge writer (edge_in setting before writer)) (edge reader read_edge) → ⊥
  backward runs same e =
      let one : all ≡ (before ++ []) ++ (writer ∷ between ++ reader ∷ rest) =
      append_assoc before (writer ∷ between) (reader ∷ rest) ∙ ap (λ g. g ++ (writer ∷ between ++ reader ∷ rest)) (sym (append-nil before)) in
      let writes : edge_in setting before writer ≡ edge_in setting (before ++ []) writer =
      ap (λ g. edge_in setting g writer) (sym (append-nil before)) in
      edges_forward setting before [] (writer ∷ between ++ reader ∷ rest) last
      (subst (λ h. run setting h ≡ Some last) one runs) reader writer
      (subst (λ h. EdgeBefore setting.program (sync_record setting h) (edge writer (edge_in setting (before ++ []) writer)) (edge reader (edge_in setting before reader))) one
      (subst (λ n. EdgeBefore setting.program (sync_record setting all) (edge writer n) (edge reader (edge_in setting before reader))) writes
      (subst (λ n. EdgeBefore setting.program (sync_record setting all) (edge writer (edge_in setting before writer)) (edge reader n)) (sym same) e)))

  pub raced : run setting all ≡ Some last → races setting all ≡ [] → c < length setting.program.starts → (writer ≡ reader → ⊥) → (v : ℤ)
      → need_after setting before writer ≡ Write c v → need_after setting (before ++ writer ∷ between) reader ≡ Read c
      → edge_in setting before reader ≡ read_edge → ⊥
  raced runs none lt other v writes reads same =
      backward runs same (conflicts_forward setting before writer between reader rest last runs none other c lt true false refl (v, writes) reads)
