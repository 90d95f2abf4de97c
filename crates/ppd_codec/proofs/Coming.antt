-- A field read in code.
use Rattle.std.proofs.Common.{◌≡◌, ℕ, List, Result}
use Rattle.ppd_codec.specs.declared.bad.BadBytes.{BadBytes}
use Rattle.ppd_codec.specs.Reader.{Got, Reader}

-- what a cursor read that stood at the first of the bytes
pub from_start : {A : Type 0} (r : Reader A) (found : Result (Got A) BadBytes) (at : ℕ) (rest bytes : List ℕ) → at ≡ 0 → rest ≡ bytes → r at rest ≡ found → r 0 bytes ≡ found
from_start r found at rest bytes first all e = cc
