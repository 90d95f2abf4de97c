-- What becomes of a line by the reply to it.
use Rattle.std.specs.Prelude.{true}
use Rattle.std.proofs.Common.{◌≡◌, ◌⊎◌, ℕ, Bool, List, Option, Some, None, inl, inr, sym, subst, ◌∙◌}
use Rattle.ppd_io.specs.Causes.{Rose}
use Rattle.ppd_io.specs.Content.{Appends, AppendsPart}
use Rattle.ppd_codec_runs.specs.Known.{Known}
use Rattle.ppd_codec_runs.specs.Questions.{is_quit}
use Rattle.ppd_codec_runs.specs.Texts.{failure_of, text_of}
use Rattle.ppd_top_output.specs.Finishing.{IsReplied}
use Rattle.ppd_top_commands.specs.Asking.{Becomes}
use Rattle.ppd_top_commands.specs.Asking.Becomes.{answered, quit, unwritten}

module _ (x : Known) (line : List ℕ) (old new : Option (List ℕ)) (before now : ℕ) (text : List ℕ) (last : Bool) where
  ended : (status : ℕ) → failure_of x line ≡ None → text ≡ text_of x line → last ≡ is_quit line
      → ((status ≡ 0) × (last ≡ true) × Appends old new text) ⊎ ((status ≡ 4) × Rose before now × AppendsPart old new text)
      → Becomes x line old new before now (Some status)
  ended status none same quits (inl h) =
      subst (λ (n : ℕ). Becomes x line old new before now (Some n)) (sym h.0)
      (quit (sym quits ∙ h.1) none (subst (Appends old new) same h.2))
  ended status none same quits (inr h) =
      subst (λ (n : ℕ). Becomes x line old new before now (Some n)) (sym h.0)
      (unwritten none h.1 (subst (AppendsPart old new) same h.2))

  pub becomes : (result : Option ℕ) → failure_of x line ≡ None → text ≡ text_of x line → last ≡ is_quit line
      → IsReplied old new before now text last result → Becomes x line old new before now result
  becomes None none same quits h = answered (sym quits ∙ h.0) none (subst (Appends old new) same h.1)
  becomes (Some status) none same quits h = ended status none same quits h
