use Rattle.std.proofs.Common.{◌∙◌, ap}
use Rattle.ppd_flow_local_tables.specs.Kept.{row_of}
use Rattle.ppd_flow_local_tables.specs.Rows.{noted}
use Rattle.ppd_flow_local_tables.proofs.Noted.{on_ok}
use Rattle.ppd_flow_local_tables.proofs.RowLemmas.{noted_in}
use Rattle.ppd_flow_local_tables.proofs.rows.Rows.note.Goals as goal

pub returns : goal.returns
returns g c =
    on_ok c.note-noted.result
    (λ h f k.
    noted_in (λ i j. row_of c.args.self.now i j) c.args.key.0 c.args.key.1 f k c.args.item c.args.value _ _ _
    (c.in_ok-insert.ensures.updates.0 (f, k))
    (h ∙ ap (λ xs. noted c.args.item c.args.value xs) c.take_row-row.ensures.taken)
    (c.take_row-row.ensures.left f k))
    c.note-noted.ensures
