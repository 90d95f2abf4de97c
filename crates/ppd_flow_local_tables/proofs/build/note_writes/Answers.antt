use Rattle.std.proofs.Common.{cond, [], ◌∷◌, ◌++◌, ◌∙◌, ap, get_or, pos, take}
use Rattle.std.specs.List.{list_any}
use Rattle.std.proofs.lemmas.List.{get_or_default}
use Rattle.ppd_sem.specs.declared.event.Access.{Access}
use Rattle.ppd_sem.specs.declared.event.Spot.TheVariants.{Local}
use Rattle.ppd_graph.specs.declared.writer.Writer.TheVariants.{At}
use Rattle.ppd_graph.specs.Locals.{is_local}
use Rattle.ppd_flow_local_tables.specs.Kept.{row_of}
use Rattle.ppd_flow_local_tables.proofs.Noted.{any_next, before_now, noted_more}
use Rattle.ppd_flow_local_tables.proofs.build.note_writes.Goals as goal

pub note_write-requires : goal.note_write-requires
note_write-requires c = λ f k.
    before_now (list_any (λ a. is_local f k a.spot) (take c.loop-access.access-index c.args.accesses.now))
    c.args.item (At c.args.item) _
    (row_of c.args.writes.now f k) (c.loop-access.invariant f k) (c.requires f k)

pub loop-access-preserved : goal.loop-access-preserved
loop-access-preserved c = λ f k.
    let xs = row_of c.args.writes.now f k in
    let i = c.loop-access.access-index in
    let none : Access = record { spot = Local 0 0; value = pos 0 } in
    let access = get_or c.args.accesses.now i none in
    let there = get_or_default c.args.accesses.now i none access c.loop-access-test.true in
    noted_more c.args.item (At c.args.item) xs (c.requires f k)
    (list_any (λ a. is_local f k a.spot) (take i c.args.accesses.now)) (is_local f k access.spot)
    (row_of c.loop-access.writes f k) (row_of c.note_write.new.writes f k) (c.loop-access.invariant f k)
    (c.in_ok-note_write.ensures f k)
    ∙ ap (λ b. cond b (xs ++ (c.args.item, At c.args.item) ∷ []) xs)
    (any_next (λ a. is_local f k a.spot) c.args.accesses.now i access c.loop-access-test.true there)
