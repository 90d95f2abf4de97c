use Rattle.std.proofs.Common.{arith, get_or, refl}
use Rattle.ppd_flow_tables.specs.Tables.{is_marked, is_under}
use Rattle.ppd_flow_tables.proofs.EdgePlaces.{mark_more}
use Rattle.ppd_flow_tables.proofs.Marked.{none_passes, up_to_all, up_to_more}
use Rattle.ppd_flow_tables.proofs.marks.list_items.Goals as goal

pub loop-place-preserved : goal.loop-place-preserved
loop-place-preserved c =
    let edges = c.args.edges.now in
    let items = c.args.items.now in
    let place = c.loop-place.place in
    let lt = c.loop-place-test.true in
    let more = c.requires.edges in
    up_to_more (is_marked c.args.mark edges items) _ place c.loop-place.keys c.push_item.new.keys c.loop-place.invariant
    c.in_ok-push_item.ensures
    (λ n. mark_more c.args.mark edges items place n 0 _ c.index-items-place.result c.index-items-place.result lt
    (omega (arith, lt, more)) refl c.index-items-place.is)

pub returns : goal.returns
returns c =
    up_to_all (is_marked c.args.mark c.args.edges.now c.args.items.now) c.loop-place.place c.loop-place.keys
    c.new.result.keys c.loop-place.invariant
    (λ n i le. let over = c.loop-place-test.false in
    none_passes (is_under c.args.mark (get_or c.args.edges.now i 0) n) c.args.items.now i (omega (arith, over, le)))
    c.new.ensures
