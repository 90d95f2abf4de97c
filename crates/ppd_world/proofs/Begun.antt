-- The processes before their first steps, with their logs.
use Rattle.ppd_model.specs.Setting.{Setting}
use Rattle.std.proofs.Common.{◌≡◌, ℕ, zero, suc, ◌+◌, ◌++◌, ◌∷◌, [], map, refl, ap, arith}
use Rattle.std.specs.List.{range_with_len}
use Rattle.std.proofs.lemmas.List.FromFn.{map-range_with_len_more}
use Rattle.ppd_sem.specs.Process.{started}
use Rattle.ppd_model.specs.Logs.{begun_log}
use Rattle.ppd_model.proofs.LogWords.{logs_from}
use Rattle.ppd_world.specs.Starts.{begun_logs}

pub begun_more : (setting : Setting) (n : ℕ) → begun_logs setting (n + 1) ≡ begun_logs setting n ++ begun_log setting n ∷ []
begun_more setting n = map-range_with_len_more (λ p. begun_log setting p) 0 n n (omega arith)

pub logs_begun : (setting : Setting) (p n : ℕ) → logs_from setting p (map (λ _. []) (map (λ q. started setting.program setting.plan q setting.budget) (range_with_len p n))) ≡ map (λ q. begun_log setting q) (range_with_len p n)
logs_begun setting p zero = refl
logs_begun setting p (suc n) = ap (λ ls. begun_log setting p ∷ ls) (logs_begun setting (p + 1) n)

pub procs_begun : (setting : Setting) (p n : ℕ) → map (λ l. l.proc) (map (λ q. begun_log setting q) (range_with_len p n)) ≡ map (λ q. started setting.program setting.plan q setting.budget) (range_with_len p n)
procs_begun setting p zero = refl
procs_begun setting p (suc n) = ap (λ ss. started setting.program setting.plan p setting.budget ∷ ss) (procs_begun setting (p + 1) n)
