use Rattle.std.proofs.Common.{ap, ◌∙◌}
use Rattle.std.specs.Prelude.{nat_eq}
use Rattle.ppd_race.proofs.BusyRows.{none_len}
use Rattle.ppd_race.proofs.rows.is_empty.Goals as goal

pub returns : goal.returns
returns c = ap (λ n. nat_eq n 0) c.len.ensures ∙ none_len c.args.cells.now
