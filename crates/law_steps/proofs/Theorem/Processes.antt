-- The processes of a schedule: those of its logs and of its intervals are the same.
use Rattle.ppd_model.specs.Setting.{Setting}
use Rattle.std.proofs.Common.{◌≡◌, ℕ, zero, suc, ◌+◌, ◌<◌, List, [], ◌∷◌, length, map, get_or, Some, None, refl, ap, arith, true≢false}
use Rattle.std.specs.Prelude.{is_some, slice_get}
use Rattle.std.proofs.lemmas.Option.{slice_get_within}
use Rattle.ppd_model.specs.Intervals.{Split, splits}
use Rattle.ppd_model.proofs.IntervalWords.{splits_from}
use Rattle.ppd_model.specs.Logs.{closed_log, closed_logs}
use Rattle.ppd_model.proofs.LogWords.{logs_from}
use Rattle.ppd_model.specs.Story.{Moment, steps_of, story, told}
use Rattle.ppd_model.specs.declared.tracing.Story.{Story}
use Rattle.law_steps.proofs.Coming.LogsComing.{how_many}

module _ (setting : Setting) where
  module _ (s : Story) where
    splits_length : (q : ℕ) (ms : List (List Moment))
        → length (splits_from setting s q (map steps_of ms)) ≡ length ms
    splits_length q [] = refl
    splits_length q (m ∷ ms) = ap suc (splits_length (q + 1) ms)

    no_log : (q : ℕ) (ms : List (List Moment)) (p : ℕ)
        → slice_get (splits_from setting s q (map steps_of ms)) p ≡ None
        → get_or (map closed_log (logs_from setting q ms)) p [] ≡ []
    no_log q [] p e = refl
    no_log q (m ∷ ms) zero e = absurd (true≢false (ap is_some e))
    no_log q (m ∷ ms) (suc p) e = no_log (q + 1) ms p e

  -- a process without intervals has no log
  pub without_log : (h : List ℕ) (p : ℕ)
      → slice_get (splits setting (story setting h)) p ≡ None
      → get_or (closed_logs setting h).lists p [] ≡ []
  without_log h p e = no_log (story setting h) 0 (told setting h).moments p e

  -- one with intervals is there
  pub process_there : (h : List ℕ) (p : ℕ) (x : Split)
      → slice_get (splits setting (story setting h)) p ≡ Some x
      → setting.program.functions + p < length setting.program.bodies
  process_there h p x e =
      let within : p < length (splits setting (story setting h)) =
      slice_get_within (splits setting (story setting h)) p x e in
      let count : length (splits setting (story setting h))
      ≡ length (told setting h).moments =
      splits_length (story setting h) 0 (told setting h).moments in
      omega (arith, within, count, how_many setting h)
