-- What is answered for the bytes of a recording.
use Rattle.std.specs.Prelude.{◌≡◌, ◌≢◌, ℕ, List, Result, IfOk, IfErr}
use Rattle.ppd_ast.specs.Valid.{IsValid}
use Rattle.ppd_ast.specs.ValidPlan.{IsValidPlan}
use Rattle.ppd_codec.specs.declared.bad.BadBytes.{BadBytes}
use Rattle.ppd_codec.specs.declared.bad.BadBytes.TheVariants as bad
use Rattle.ppd_codec.specs.declared.recording.Recording.{Recording}
use Rattle.ppd_codec.specs.Recordings.{AreLawful, IsBad, IsDecoded, IsPastFront}

-- the answer is what the bytes record, or the first test that they fail
pub record IsDecodingOf (bytes : List ℕ) (answer : Result Recording BadBytes) : Type 0 where
  -- the bytes record it
  pub ok : IfOk answer (IsDecoded bytes)
  -- its source, header and logs can be encoded again
  pub again : IfOk answer (λ r. AreLawful r.source r.header r.logs)
  -- the source's program is valid
  pub valid : IfOk answer (λ r. IsValid r.program)
  -- and so is the plan of the policy
  pub plan : IfOk answer (λ r. IsValidPlan r.program r.plan)
  -- an error but want of memory is the first test that fails
  pub err : IfErr answer (λ e. e ≢ bad.Memory → IsBad bytes e)
  -- want of memory comes only past the source's bytes
  pub early : IfErr answer (λ e. e ≡ bad.Memory → IsPastFront bytes)
