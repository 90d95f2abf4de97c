-- Whether synchronizations are one.
use Rattle.std.specs.Prelude.{nat_eq, Bool, ◌&&◌}
use Rattle.ppd_model.specs.Entries.{same_kind}
use Rattle.ppd_model.specs.Synchronizations.{Sync}

-- the same kind, object and number
abbrev pub same_sync : Sync → Sync → Bool
same_sync a b = same_kind a.kind b.kind && nat_eq a.object b.object && nat_eq a.number b.number
