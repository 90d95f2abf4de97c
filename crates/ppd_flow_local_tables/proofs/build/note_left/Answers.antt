use Rattle.std.proofs.Common.{ℕ, ◌&&◌, cond, eqb, [], ◌∷◌, ◌++◌, ◌∙◌, ap, get_or, take}
use Rattle.std.specs.List.{list_any}
use Rattle.std.proofs.lemmas.List.{get_or_default}
use Rattle.ppd_flow_local_tables.specs.Kept.{row_of}
use Rattle.ppd_flow_local_tables.proofs.Noted.{any_next, before_now, left_more, noted_more}
use Rattle.ppd_flow_local_tables.proofs.build.note_left.Goals as goal

pub note-requires : goal.note-requires
note-requires c = λ f k.
    before_now (eqb f c.args.frame && list_any (eqb k) (take c.loop-cell.cell-index c.args.cells.now))
    c.args.item c.args.interval _
    (row_of c.args.loops.now f k) (c.loop-cell.invariant f k) (c.requires f k)

pub loop-cell-preserved : goal.loop-cell-preserved
loop-cell-preserved c = λ f k.
    let xs = row_of c.args.loops.now f k in
    let i = c.loop-cell.cell-index in
    let cell : ℕ = get_or c.args.cells.now i 0 in
    let before = list_any (eqb k) (take i c.args.cells.now) in
    let there = get_or_default c.args.cells.now i 0 cell c.loop-cell-test.true in
    noted_more c.args.item c.args.interval xs (c.requires f k) (eqb f c.args.frame && before)
    (eqb c.args.frame f && eqb cell k)
    (row_of c.loop-cell.loops f k) (row_of c.note.new.self f k) (c.loop-cell.invariant f k) (c.in_ok-note.ensures f k)
    ∙ ap (λ b. cond b (xs ++ (c.args.item, c.args.interval) ∷ []) xs)
    (left_more f c.args.frame k cell before
    ∙ ap (λ b. eqb f c.args.frame && b) (any_next (eqb k) c.args.cells.now i cell c.loop-cell-test.true there))
