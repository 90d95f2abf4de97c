-- In a run with races: conflicting steps go forward where no race has the edge of one of them.
use Rattle.ppd_model.specs.Setting.{Setting}
use Rattle.std.proofs.Common.{◌≡◌, ℕ, ◌<◌, ℤ, true, false, List, [], ◌∷◌, ◌++◌, Some, refl, ap, sym, subst, ◌∙◌, arith, length, inl, inr}
use Rattle.std.proofs.lemmas.List.{append-nil, append_assoc}
use Rattle.std.specs.Prelude.{slice_get}
use Rattle.ppd_sem.specs.declared.proc.Need.TheVariants.{Read, Write}
use Rattle.ppd_model.specs.Forward.{edge_in}
use Rattle.ppd_model.specs.HappenedBefore.{EdgeBefore, edge}
use Rattle.ppd_model.specs.Laws.{DoConflict}
use Rattle.ppd_model.specs.Record.{SharedAccess, accesses, sync_record}
use Rattle.ppd_model.specs.Schedule.{run}
use Rattle.ppd_model.specs.SharedReads.{need_after}
use Rattle.ppd_model.specs.Story.{story}
use Rattle.ppd_model.specs.World.{World}
use Rattle.ppd_model.proofs.Forward.{edges_forward}
use Rattle.ppd_model.proofs.Prefixes.{objects_stay}
use Rattle.ppd_model.proofs.SharedReads.{steps_access}
use Rattle.law_clean.specs.Ordered.{IsUnracedIn}
use Rattle.law_clean.proofs.Vocabulary.{UnracedGoForward}
use Rattle.law_clean.proofs.Ordered.{unraced_ordered}

pub unraced_forward : UnracedGoForward
unraced_forward setting g q more p rest w runs clear apart c lt first second some h k =
    let all : List ℕ = (g ++ q ∷ more) ++ p ∷ rest in
    let a : SharedAccess = record { edge = edge_in setting g q; cell = c; writes = first } in
    let b : SharedAccess = record { edge = edge_in setting (g ++ q ∷ more) p; cell = c; writes = second } in
    let x = steps_access setting g q (more ++ p ∷ rest) c first h in
    let y = steps_access setting (g ++ q ∷ more) p rest c second k in
    let size : length (story setting all).cells ≡ length setting.program.starts = (objects_stay setting all).cells in
    let d : DoConflict (story setting all) q p a b = record {
      apart = apart;
      first = (x.0, ap (λ (l : List ℕ). slice_get (accesses (story setting l) q) x.0) (append_assoc g (q ∷ more) (p ∷ rest)) ∙ x.1);
      second = y;
      cell = refl;
      there = omega (arith, size, lt);
      writes = some;
    } in
    elim (unraced_ordered setting.program (story setting all) q p a b d clear) [
      | inl e ↦ e
      | inr e ↦ absurd (edges_forward setting g (q ∷ more) (p ∷ rest) w runs q p e)
    ]

-- a read and an earlier write of another process, since which the reader did not synchronize, are a race
module _ (setting : Setting) (before between rest : List ℕ) (writer reader c : ℕ) (last : World) where
  abbrev all : List ℕ
  all = (before ++ writer ∷ between) ++ reader ∷ rest

  abbrev read_edge : ℕ
  read_edge = edge_in setting (before ++ writer ∷ between) reader

  -- the edge of the write is not before that of the read, which goes on since before the write
  backward : run setting all ≡ Some last → edge_in setting before reader ≡ read_edge
      → EdgeBefore setting.program (sync_record setting all) (edge writer (edge_in setting before writer)) (edge reader read_edge) → ⊥
  backward runs same e =
      let one : all ≡ (before ++ []) ++ (writer ∷ between ++ reader ∷ rest) =
      append_assoc before (writer ∷ between) (reader ∷ rest) ∙ ap (λ g. g ++ (writer ∷ between ++ reader ∷ rest)) (sym (append-nil before)) in
      let writes : edge_in setting before writer ≡ edge_in setting (before ++ []) writer =
      ap (λ g. edge_in setting g writer) (sym (append-nil before)) in
      edges_forward setting before [] (writer ∷ between ++ reader ∷ rest) last
      (subst (λ h. run setting h ≡ Some last) one runs) reader writer
      (subst (λ h. EdgeBefore setting.program (sync_record setting h) (edge writer (edge_in setting (before ++ []) writer)) (edge reader (edge_in setting before reader))) one
      (subst (λ n. EdgeBefore setting.program (sync_record setting all) (edge writer n) (edge reader (edge_in setting before reader))) writes
      (subst (λ n. EdgeBefore setting.program (sync_record setting all) (edge writer (edge_in setting before writer)) (edge reader n)) (sym same) e)))

  pub raced_at : run setting all ≡ Some last → IsUnracedIn setting all reader read_edge → c < length setting.program.starts → (writer ≡ reader → ⊥) → (v : ℤ)
      → need_after setting before writer ≡ Write c v → need_after setting (before ++ writer ∷ between) reader ≡ Read c
      → edge_in setting before reader ≡ read_edge → ⊥
  raced_at runs clear lt other v writes reads same =
      backward runs same (unraced_forward setting before writer between reader rest last runs (inr clear) other c lt true false refl (v, writes) reads)
