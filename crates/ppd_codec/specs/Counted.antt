-- Lists whose counts fit the fields of their counts.
use Rattle.std.specs.Prelude.{◌<◌, ◌^◌, List, length}
use Rattle.std.specs.List.{All}
use Rattle.ppd_model.specs.declared.entry.Entry.{Entry}
use Rattle.ppd_model.specs.declared.entry.Entry.TheVariants as entry

abbrev pub IsCounted : Entry → Type 0
IsCounted (entry.Prelog b vs) = length vs < 2 ^ 16
IsCounted (entry.Unit u vs) = length vs < 2 ^ 16
IsCounted (entry.Sync k o n v r w) = (length r < 2 ^ 16) × (length w < 2 ^ 16)
IsCounted (entry.Postlog b vs) = length vs < 2 ^ 16
IsCounted (entry.End s n r w) = (length r < 2 ^ 16) × (length w < 2 ^ 16)

pub record IsCountedLog (es : List Entry) : Type 0 where
  pub entries : length es < 2 ^ 32
  pub each : All IsCounted es
