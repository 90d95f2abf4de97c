use Rattle.std.proofs.Common.{rules}
use Rattle.ppd_codec.proofs.cursor.Cursor.value.Goals as goal

pub branch-bytes-requires : goal.branch-bytes-requires
branch-bytes-requires g c = search rules depth 1 fits 30

pub from_be_bytes-requires : goal.from_be_bytes-requires
from_be_bytes-requires g c = search rules depth 1 fits 30

pub from_residual-requires : goal.from_residual-requires
from_residual-requires g c = search rules depth 1 fits 30

pub returns-clause-fits : goal.returns-clause-fits
returns-clause-fits g c = search rules depth 1 fits 30

pub returns-in_err-bytes : goal.returns-in_err-bytes
returns-in_err-bytes g c = search rules depth 1 fits 30

pub take-requires : goal.take-requires
take-requires g c = search rules depth 1 fits 30
