use Rattle.std.proofs.Common.{rules}
use Rattle.ppd_check_names.proofs.fault.Fault.is_before.Goals as goal

pub lt-requires : goal.lt-requires
lt-requires c = search rules depth 1 fits 30
