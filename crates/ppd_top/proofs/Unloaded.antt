-- What a call comes to where a load was not done.
use Rattle.std.specs.Prelude.{◌⊎◌}
use Rattle.std.proofs.Common.{◌≡◌, ℕ, List, arith, inl, inr, refl}
use Rattle.ppd_io.specs.declared.shelf.ShelfError.{ShelfError}
use Rattle.ppd_io.specs.declared.shelf.ShelfError.TheVariants as shelf
use Rattle.ppd_top_commands.specs.Commands.{DidNothing}
use Rattle.ppd_top_requests.specs.declared.options.Options.{Options}
use Rattle.ppd_top.specs.Call.{Call, HasFailedLoad, LeftShelf}
use Rattle.ppd_top.specs.Ran.{Comes, IsUnloaded}
use Rattle.ppd_top.specs.Ran.Comes.{no_memory, not_loaded, recording_not_loaded}
use Rattle.ppd_top_requests.specs.Words.{Asks, AsksRecording, Command}
use Rattle.ppd_top_requests.specs.Words.Request.{on_source}

module _ (c : Call) (name : List ℕ) (left : LeftShelf c) (none : DidNothing c.schedule c.before.io c.after.io) where
  pub source_unloaded : (command : Command) (options : Options) (error : ShelfError) → Asks c.words (on_source command name options) → (error ≡ shelf.Failed → HasFailedLoad c name) → IsUnloaded error c.status → Comes c
  source_unloaded command options shelf.Failed asks rose is = not_loaded command name options asks left is (rose refl) none
  source_unloaded command options shelf.Memory asks rose is = no_memory is left none

  pub recording_unloaded : (error : ShelfError) → AsksRecording c.words name → (error ≡ shelf.Failed → HasFailedLoad c name) → IsUnloaded error c.status → Comes c
  recording_unloaded shelf.Failed asks rose is = recording_not_loaded name asks left is (rose refl) none
  recording_unloaded shelf.Memory asks rose is = no_memory is left none

-- neither status 1 nor status 2
pub unloaded_not_early : (error : ShelfError) (status : ℕ) → IsUnloaded error status → (status ≡ 1) ⊎ (status ≡ 2) → ⊥
unloaded_not_early shelf.Failed status is (inl e) = omega arith
unloaded_not_early shelf.Failed status is (inr e) = omega arith
unloaded_not_early shelf.Memory status is (inl e) = omega arith
unloaded_not_early shelf.Memory status is (inr e) = omega arith
