use Rattle.std.proofs.Common.{rules}
use Rattle.ppd_io.proofs.bytes.ByteReader.refill.Goals as goal

pub branch-self-inside-requires : goal.branch-self-inside-requires
branch-self-inside-requires g c = search rules depth 1 fits 30

pub deref_mut-requires : goal.deref_mut-requires
deref_mut-requires g c = search rules depth 1 fits 30

pub from_residual-requires : goal.from_residual-requires
from_residual-requires g c = search rules depth 1 fits 30

pub read-requires : goal.read-requires
read-requires g c = search rules depth 1 fits 30

pub returns-clause-cause : goal.returns-clause-cause
returns-clause-cause g c = search rules depth 1 fits 30

pub returns-clause-err : goal.returns-clause-err
returns-clause-err g c = search rules depth 1 fits 30

pub returns-clause-last : goal.returns-clause-last
returns-clause-last g c = search rules depth 1 fits 30

pub returns-in_err-self-inside : goal.returns-in_err-self-inside
returns-in_err-self-inside g c = search rules depth 1 fits 30
