-- The parts of the text, one for each process.
use Rattle.std.proofs.Common.{◌≡◌, ℕ, suc, ◌+◌, ◌<◌, List, [], ◌∷◌, ◌++◌, length, map, get_or, refl, ap, ap₂, ◌∙◌, arith}
use Rattle.std.specs.List.{flat_map, range_with_len}
use Rattle.ppd_sem.specs.declared.event.Event.{Event}
use Rattle.ppd_flow_past.specs.declared.past.Past.{Past}
use Rattle.ppd_whole.specs.Told.{told_at, told_process, told_processes}

module _ (past : Past) where
  told_from : (at : ℕ → List Event) (p : ℕ) (rest : List (List Event)) → ((k : ℕ) → k < length rest → at (p + k) ≡ get_or rest k [])
      → flat_map (λ (part : List ℕ). part) (map (λ q. told_process past q (at q)) (range_with_len p (length rest))) ≡ told_processes past p rest
  told_from at p [] h = refl
  told_from at p (es ∷ rest) h =
      let same : p ≡ p + 0 = omega arith in
      let next : (k : ℕ) → (p + 1) + k ≡ p + suc k = λ k. omega arith in
      ap₂ (λ (a : List Event) (b : List ℕ). told_process past p a ++ b) (ap at same ∙ h 0 (omega arith))
      (told_from at (p + 1) rest (λ k lt. ap at (next k) ∙ h (suc k) (omega arith)))

  -- the parts of all processes are the text
  pub told_parts : (all : List (List Event)) (n : ℕ) (parts : List (List ℕ)) → n ≡ length all → parts ≡ map (told_at past all) (range_with_len 0 n)
      → flat_map (λ part. part) parts ≡ told_processes past 0 all
  told_parts all n parts long are =
      ap (flat_map (λ part. part)) are
      ∙ ap (λ m. flat_map (λ (part : List ℕ). part) (map (told_at past all) (range_with_len 0 m))) long
      ∙ told_from (λ q. get_or all q []) 0 all (λ k lt. let e : 0 + k ≡ k = omega arith in ap (λ n. get_or all n []) e)
