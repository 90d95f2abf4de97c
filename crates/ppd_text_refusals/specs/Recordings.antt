-- The line that says why a recording is refused.
use Rattle.std.specs.Prelude.{◌++◌, ℕ, List, [], codes, decimal}
use Rattle.std.specs.List.{flat_map}
use Rattle.ppd_ast.specs.declared.limits.TheConstants.{MOST_RECORDING_BYTES}
use Rattle.ppd_ast.specs.declared.program.Program.{Program}
use Rattle.ppd_codec.specs.declared.bad.BadBytes.{BadBytes}
use Rattle.ppd_codec.specs.declared.bad.BadBytes.TheVariants as bytes
use Rattle.ppd_codec.specs.declared.bad.Field.{Field}
use Rattle.ppd_codec.specs.declared.bad.Field.TheVariants as field
use Rattle.ppd_model.specs.declared.bad_sync.BadSync.{BadSync}
use Rattle.ppd_model.specs.declared.bad_sync.BadSync.TheVariants as sync
use Rattle.ppd_model.specs.declared.bad_log.BadLog.{BadLog}
use Rattle.ppd_model.specs.declared.bad_log.BadLog.TheVariants as log
use Rattle.ppd_text.specs.CellNames.{at_entry, process_name}
use Rattle.ppd_text.specs.Names.{object_text}
use Rattle.ppd_text_refusals.specs.Stages.{stage_text}

-- ---- bytes

abbrev pub field_word : Field → List ℕ
field_word field.Budget = codes "budget"
field_word field.Leaf = codes "leaf"
field_word field.Loops = codes "loops"
field_word field.Source = codes "source"
field_word field.Processes = codes "processes"
field_word field.Tag = codes "tag"
field_word field.Kind = codes "kind"
field_word field.Number = codes "number"
field_word field.Value = codes "value"
field_word field.Cells = codes "cells"
field_word field.Status = codes "status"
field_word field.Version = codes "version"

abbrev pub refused_bytes : BadBytes → List ℕ
refused_bytes (bytes.Magic n) = codes "recording refused bytes 1 Magic " ++ decimal n ++ codes "\n"
refused_bytes (bytes.Version n) = codes "recording refused bytes 2 Version " ++ decimal n ++ codes "\n"
refused_bytes (bytes.Short n) = codes "recording refused bytes 3 Short " ++ decimal n ++ codes "\n"
refused_bytes (bytes.Range n f) = codes "recording refused bytes 4 Range " ++ decimal n ++ codes " " ++ field_word f
    ++ codes "\n"
refused_bytes (bytes.Trailing n) = codes "recording refused bytes 5 Trailing " ++ decimal n ++ codes "\n"
refused_bytes (bytes.Source e) = codes "recording refused bytes 6 Source " ++ stage_text e ++ codes "\n"
refused_bytes bytes.TooLong = codes "recording refused bytes 7 TooLong " ++ decimal MOST_RECORDING_BYTES ++ codes "\n"
refused_bytes bytes.Memory = []

-- ---- logs and synchronization

abbrev pub refused_log : Program → BadLog → List ℕ
refused_log program (log.Unpaired at) = at_entry program (codes "recording refused log 1 Unpaired ") at
refused_log program (log.NoEnd at) = at_entry program (codes "recording refused log 2 NoEnd ") at
refused_log program (log.AfterEnd at) = at_entry program (codes "recording refused log 3 AfterEnd ") at
refused_log program (log.WrongValues at) = at_entry program (codes "recording refused log 4 WrongValues ") at
refused_log program log.Memory = []

abbrev pub refused_sync : Program → BadSync → List ℕ
refused_sync program (sync.NumberTwice at) = at_entry program (codes "recording refused sync 1 NumberTwice ") at
refused_sync program (sync.NumberMissing kind object number) =
    codes "recording refused sync 2 NumberMissing " ++ object_text program kind object ++ codes " " ++ decimal number
    ++ codes "\n"
refused_sync program (sync.Cycle nodes) =
    codes "recording refused sync 3 Cycle"
    ++ flat_map (λ n. codes " " ++ process_name program n.process ++ codes " " ++ decimal n.sync) nodes ++ codes "\n"
refused_sync program (sync.NoObject at) = at_entry program (codes "recording refused sync 4 NoObject ") at
refused_sync program sync.Memory = []
