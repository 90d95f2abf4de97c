use Rattle.std.proofs.Common.{◌+◌, ◌&&◌, eqb, length, [], ◌∷◌, ◌++◌, ◌∙◌, sym, arith}
use Rattle.ppd_graph.specs.declared.writer.Writer.TheVariants.{Of}
use Rattle.ppd_flow_local_tables.specs.Kept.{row_of}
use Rattle.ppd_flow_local_tables.proofs.Noted.{noted_once, noted_received, on_ok, some_length, some_value}
use Rattle.ppd_flow_local_tables.proofs.RowLemmas.{before_more}
use Rattle.ppd_flow_local_tables.proofs.build.note_value.Goals as goal

pub note-requires : goal.note-requires
note-requires c = λ f k. before_more c.args.item (c.args.item + 1) _ (omega arith) (c.requires f k)

pub returns-in-Some : goal.returns-in-Some
returns-in-Some c =
    on_ok c.note.result
    (λ h f k.
    let xs = row_of c.args.writes.now f k in
    let v = Of c.args.interval in
    some_value c.args.code.now.program.now c.args.item c.args.interval c.args.call c.args.values.now f k _ xs
    (some_length (length c.args.values.now) (sym c.is_empty.ensures ∙ c.if-is_empty.false))
    (noted_received _ c.in-Some.cell f k _ (xs ++ (c.args.item, v) ∷ []) xs (sym c.receiver.ensures ∙ c.in-Some.is)
    (noted_once c.args.item v xs (c.requires f k) (eqb 0 f && eqb c.in-Some.cell k) _ (h f k))))
    c.note.ensures
