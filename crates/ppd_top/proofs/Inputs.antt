-- When the input is left as it was.
use Rattle.std.specs.Prelude.{◌⊎◌}
use Rattle.std.specs.Borrow.{Bor}
use Rattle.std.proofs.Common.{◌≡◌, ℕ, List, inl, inr, subst}
use Rattle.ppd_top_requests.specs.declared.options.Options.{Options}
use Rattle.ppd_top.specs.Clauses.{ReadsNothing}
use Rattle.ppd_top_requests.specs.Words.{Asks, Command}
use Rattle.ppd_top_requests.specs.Words.Request.{on_source, on_recording}
use Rattle.ppd_top_requests.specs.Words.Command.{Flow}

pub source_input : (words : List (Bor (List ℕ))) (command : Command) (name : List ℕ) (options : Options) (status : ℕ) → Asks words (on_source command name options) → ReadsNothing words status → (status ≡ 1) ⊎ ((status ≡ 2) ⊎ (command ≡ Flow → ⊥))
source_input words command name options status asks (inl e) = inl e
source_input words command name options status asks (inr (inl e)) = inr (inl e)
source_input words command name options status asks (inr (inr none)) = inr (inr (λ is. none.0 name options (subst (λ d. Asks words (on_source d name options)) is asks)))

pub recording_input : (words : List (Bor (List ℕ))) (name : List ℕ) (status : ℕ) → Asks words (on_recording name) → ((status ≡ 1) ⊎ (status ≡ 2) → ⊥) → ReadsNothing words status → ⊥
recording_input words name status asks early (inl e) = early (inl e)
recording_input words name status asks early (inr (inl e)) = early (inr e)
recording_input words name status asks early (inr (inr none)) = none.1 name asks
