-- The entry that ends an edge, and the log of a process among all logs.
use Rattle.ppd_model.specs.Setting.{Setting}
use Rattle.std.proofs.Common.{◌≡◌, ℕ, zero, suc, ◌+◌, List, [], ◌∷◌, Some, ap, ◌∙◌, arith, map, true≢false, get_or}
use Rattle.std.specs.Prelude.{slice_get}
use Rattle.std.proofs.lemmas.Option.{none-some}
use Rattle.ppd_model.specs.Intervals.{Split, splits}
use Rattle.ppd_model.proofs.IntervalWords.{splits_from}
use Rattle.ppd_model.specs.Logs.{closed_log, closed_logs, log_of}
use Rattle.ppd_model.proofs.LogWords.{logs_from}
use Rattle.ppd_model.specs.Story.{Moment, steps_of, story, told}
use Rattle.ppd_model.specs.declared.tracing.Story.{Story}

-- ---- the log of a process

module _ (setting : Setting) where
  log_from : (s : Story) (k : ℕ) (ms : List (List Moment)) (p : ℕ) (x : Split) → slice_get (splits_from setting s k (map steps_of ms)) p ≡ Some x
      → get_or (map closed_log (logs_from setting k ms)) p [] ≡ closed_log (log_of setting (k + p) (get_or ms p []))
  log_from s k [] p x e = absurd (none-some x e)
  log_from s k (m ∷ ms) zero x e = ap (λ j. closed_log (log_of setting j m)) (let z : k ≡ k + 0 = omega arith in z)
  log_from s k (m ∷ ms) (suc p) x e =
      log_from s (k + 1) ms p x e ∙ ap (λ j. closed_log (log_of setting j (get_or ms p []))) (let z : k + 1 + p ≡ k + suc p = omega arith in z)

  pub entries_are : (h : List ℕ) (p : ℕ) (x : Split) → slice_get (splits setting (story setting h)) p ≡ Some x
      → get_or (closed_logs setting h).lists p [] ≡ closed_log (log_of setting p (get_or (told setting h).moments p []))
  entries_are h p x e =
      log_from (story setting h) 0 (told setting h).moments p x e
      ∙ ap (λ j. closed_log (log_of setting j (get_or (told setting h).moments p []))) (let z : 0 + p ≡ p = omega arith in z)
