use Rattle.std.proofs.Common.{◌+◌, ◌&&◌, not, cond, eqb, [], ◌∷◌, ◌++◌, ◌∙◌, ap, sym, arith}
use Rattle.std.specs.Prelude.{is_some}
use Rattle.ppd_flow_local_tables.specs.Kept.{row_of}
use Rattle.ppd_flow_local_tables.proofs.Noted.{noted_test, on_ok}
use Rattle.ppd_flow_local_tables.proofs.RowLemmas.{before_more}
use Rattle.ppd_flow_local_tables.proofs.build.note_test.Goals as goal

pub note-requires : goal.note-requires
note-requires c = λ f k. before_more c.args.item (c.args.item + 1) _ (omega arith) (c.requires f k)

pub returns : goal.returns
returns c =
    on_ok c.note.result
    (λ h f k.
    let e = c.args.event.now in
    let xs = row_of c.args.tests.now f k in
    noted_test c.args.item c.is_passed.result xs (c.requires f k) (eqb 0 f && eqb e.stmt k) (is_some e.trap)
    (row_of c.note.new.self f k) (sym c.is_some.ensures ∙ c.if-is_some.false) (h f k)
    ∙ ap (λ v. cond (eqb 0 f && eqb e.stmt k && not (is_some e.trap)) (xs ++ (c.args.item, v) ∷ []) xs)
    c.is_passed.ensures)
    c.note.ensures
