-- Lists of steps, their moments, and the edges that they are in.
use Rattle.std.proofs.Common.{◌≡◌, ℕ, ◌+◌, ◌<◌, Bool, true, false, List, [], ◌∷◌, ◌++◌, refl, ap, arith, length, length-append, if◌then◌else◌, zero, suc}
use Rattle.std.specs.Prelude.{fold, is_some, filter_map}
use Rattle.ppd_ast.specs.declared.plan.Plan.{Plan}
use Rattle.ppd_ast.specs.declared.program.Program.{Program}
use Rattle.ppd_ast.specs.Counting.{one_if}
use Rattle.ppd_model.specs.Intervals.{Split, split_step}
use Rattle.ppd_model.specs.Record.{edge_after}
use Rattle.ppd_model.specs.Story.{Moment, steps_of}
use Rattle.ppd_model.specs.Synchronizations.{sync_of}
use Rattle.ppd_model.specs.declared.tracing.Story.{Story}
use Rattle.ppd_model.specs.declared.tracing.Taken.{Taken}
use Rattle.ppd_model.proofs.OneHistory.{bare_moment}
use Rattle.law_flow.proofs.Edges.StepEvents.Marks.{syncs_length}
use Rattle.law_flow.proofs.Edges.StepEvents.Writers.{AreNone}

pub none_both : (xs ys : List Taken) → AreNone (xs ++ ys) → AreNone xs
none_both [] ys h = tt
none_both (x ∷ xs) ys h = (h.0, none_both xs ys h.1)

pub cut_at : (xs : List Taken) (n : ℕ) → n < length xs → (a : List Taken) × (y : Taken) × (b : List Taken) × (xs ≡ a ++ y ∷ b) × (length a ≡ n)
cut_at [] n lt = absurd (omega (arith, lt))
cut_at (x ∷ xs) zero lt = ([], x, xs, refl, refl)
cut_at (x ∷ xs) (suc n) lt = let r = cut_at xs n (omega (arith, lt)) in (x ∷ r.0, r.1, r.2, ap (λ l. x ∷ l) r.3, ap (λ k. suc k) r.4)

-- ---- moments without values of units

abbrev pub bares : List Taken → List Moment
bares [] = []
bares (t ∷ ts) = bare_moment t ∷ bares ts

pub bares_are : (ts : List Taken) → steps_of (bares ts) ≡ ts
bares_are [] = refl
bares_are (t ∷ ts) = ap (λ l. t ∷ l) (bares_are ts)

-- ---- the edges of steps

module _ (program : Program) (plan : Plan) (story' : Story) (p : ℕ) where
  pub edges_long : (z : Split) (ts : List Taken) → length (fold (split_step program plan story' p) z ts).edges ≡ length z.edges + length ts
  edges_long z [] = omega arith
  edges_long z (t ∷ ts) =
      let r : length (fold (split_step program plan story' p) (split_step program plan story' p z t) ts).edges ≡ length (z.edges ++ z.edge ∷ []) + length ts = edges_long (split_step program plan story' p z t) ts in
      let more : length (z.edges ++ z.edge ∷ []) ≡ length z.edges + 1 = length-append z.edges (z.edge ∷ []) in
      omega (arith, r, more)

  pub edge_counts : (z : Split) (ts : List Taken) → (fold (split_step program plan story' p) z ts).edge ≡ z.edge + length (filter_map sync_of ts)
  edge_counts z [] = omega arith
  edge_counts z (t ∷ ts) =
      let r : (fold (split_step program plan story' p) (split_step program plan story' p z t) ts).edge ≡ edge_after z.edge t + length (filter_map sync_of ts) = edge_counts (split_step program plan story' p z t) ts in
      let both = syncs_length t ts in
      by (is_some (sync_of t)) refl r both
    where
      by : (b : Bool) → is_some (sync_of t) ≡ b → (fold (split_step program plan story' p) (split_step program plan story' p z t) ts).edge ≡ edge_after z.edge t + length (filter_map sync_of ts)
          → length (filter_map sync_of (t ∷ ts)) ≡ one_if (is_some (sync_of t)) + length (filter_map sync_of ts)
          → (fold (split_step program plan story' p) (split_step program plan story' p z t) ts).edge ≡ z.edge + length (filter_map sync_of (t ∷ ts))
      by true e r both =
          let one : edge_after z.edge t ≡ z.edge + 1 = ap (λ c. if c then z.edge + 1 else z.edge) e in
          let k : one_if (is_some (sync_of t)) ≡ 1 = ap one_if e in
          omega (arith, r, both, one, k)
      by false e r both =
          let one : edge_after z.edge t ≡ z.edge = ap (λ c. if c then z.edge + 1 else z.edge) e in
          let k : one_if (is_some (sync_of t)) ≡ 0 = ap one_if e in
          omega (arith, r, both, one, k)
