use Rattle.std.proofs.Common.{rules}
use Rattle.ppd_clean.proofs.cutting.cut_log.Goals as goal

pub copied-requires : goal.copied-requires
copied-requires c = search rules depth 1 fits 30

pub cut_at-requires : goal.cut_at-requires
cut_at-requires c = search rules depth 1 fits 30

pub cut_at-requires-then-is_sync_at : goal.cut_at-requires-then-is_sync_at
cut_at-requires-then-is_sync_at c = search rules depth 1 fits 30

pub ending-end-requires : goal.ending-end-requires
ending-end-requires c = search rules depth 1 fits 30

pub is_sync_at-requires : goal.is_sync_at-requires
is_sync_at-requires c = search rules depth 1 fits 30

pub returns-else-is_sync_at : goal.returns-else-is_sync_at
returns-else-is_sync_at c = search rules depth 1 fits 30

pub returns-in_default : goal.returns-in_default
returns-in_default c = search rules depth 1 fits 30

pub returns-then-is_sync_at : goal.returns-then-is_sync_at
returns-then-is_sync_at c = search rules depth 1 fits 30
