-- What is kept of the needs of processes.
use Rattle.std.specs.Prelude.{slice_get, slice_set}
use Rattle.std.proofs.Common.{◌≡◌, ℕ, zero, suc, List, [], ◌∷◌, Result, Ok, Err, OnOk, OnErr, refl, ap, sym, ◌∙◌}
use Rattle.ppd_ast.specs.declared.plan.Plan.{Plan}
use Rattle.ppd_ast.specs.declared.program.Program.{Program}
use Rattle.ppd_sem.specs.declared.proc.Need.{Need}
use Rattle.ppd_sem.specs.Process.{need_of}
use Rattle.ppd_model.specs.declared.state.Logging.{Logging}
use Rattle.ppd_model.specs.World.{change}
use Rattle.ppd_world.specs.Parts.{need_of_logging, needs_of, or_stopped}

module _ (program : Program) (plan : Plan) where
  need_kept : (ls : List Logging) (p : ℕ) → or_stopped (slice_get (needs_of program plan ls) p) ≡ need_of_logging program plan (slice_get ls p)
  need_kept [] p = refl
  need_kept (l ∷ ls) zero = refl
  need_kept (l ∷ ls) (suc p) = need_kept ls p

  -- the need that is kept at a place is that of the process there
  pub need_is_kept : (ns : List Need) (ls : List Logging) (p : ℕ) → ns ≡ needs_of program plan ls → or_stopped (slice_get ns p) ≡ need_of_logging program plan (slice_get ls p)
  need_is_kept ns ls p e = ap (λ (x : List Need). or_stopped (slice_get x p)) e ∙ need_kept ls p

  set_kept : (f : Logging → Logging) (p : ℕ) (ls : List Logging) (n : Need) → n ≡ need_of_logging program plan (slice_get (change f p ls) p) → slice_set (needs_of program plan ls) p n ≡ needs_of program plan (change f p ls)
  set_kept f p [] n e = refl
  set_kept f zero (l ∷ ls) n e = ap (λ (x : Need). x ∷ needs_of program plan ls) e
  set_kept f (suc p) (l ∷ ls) n e = ap (λ (xs : List Need). need_of program plan l.proc ∷ xs) (set_kept f p ls n e)

  -- a process that changes changes its need alone
  pub kept_after : (f : Logging → Logging) (p : ℕ) (ls ks : List Logging) (ns ms : List Need) (n : Need) → ns ≡ needs_of program plan ls → ks ≡ change f p ls → n ≡ need_of_logging program plan (slice_get ks p) → ms ≡ slice_set ns p n → ms ≡ needs_of program plan ks
  kept_after f p ls ks ns ms n e k_is n_is m_is =
      m_is ∙ ap (λ (x : List Need). slice_set x p n) e
      ∙ set_kept f p ls n (n_is ∙ ap (λ (x : List Logging). need_of_logging program plan (slice_get x p)) k_is)
      ∙ ap (λ (x : List Logging). needs_of program plan x) (sym k_is)

  pub kept_by_step : {E : Type 0} (r : Result (Unit {0}) E) (ls ks : List Logging) (ns ms : List Need) → ns ≡ needs_of program plan ls → OnOk r (ms ≡ needs_of program plan ks) → OnErr r (ms ≡ ns) → OnErr r (ks ≡ ls) → ms ≡ needs_of program plan ks
  kept_by_step (Ok u) ls ks ns ms e ok m_is k_is = ok
  kept_by_step (Err x) ls ks ns ms e ok m_is k_is = m_is ∙ e ∙ ap (λ (x : List Logging). needs_of program plan x) (sym k_is)
