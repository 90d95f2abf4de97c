use Rattle.std.proofs.Common.{arith, refl}
use Rattle.ppd_graph.specs.Ends.{ends_edge, syncs_before}
use Rattle.std.specs.Prelude.{◌&&◌, nat_eq}
use Rattle.ppd_flow_tables.specs.Tables.{ends_there}
use Rattle.ppd_flow_tables.proofs.EdgePlaces.{end_more}
use Rattle.ppd_flow_tables.proofs.Marked.{none_passes, up_to_all, up_to_more}
use Rattle.ppd_flow_tables.proofs.counts.ends_of.Goals as goal

pub loop-place-preserved : goal.loop-place-preserved
loop-place-preserved c =
    let entries = c.args.entries.now in
    let place = c.loop-place.place in
    up_to_more (ends_there entries) _ place c.loop-place.keys c.push_if.new.keys c.loop-place.invariant
    c.in_ok-push_if.ensures
    (λ n. end_more entries c.args.counts.now place n 0 _ c.index-entries-place.result c.index-entries-place.result
    c.ends_edge.result c.requires.counts c.loop-place-test.true refl c.index-entries-place.is c.ends_edge.ensures)

pub returns : goal.returns
returns c =
    let entries = c.args.entries.now in
    up_to_all (ends_there entries) c.loop-place.place c.loop-place.keys c.new.result.keys c.loop-place.invariant
    (λ n i le. let over = c.loop-place-test.false in
    none_passes (λ e. ends_edge e && nat_eq n (syncs_before entries i)) entries i (omega (arith, over, le)))
    c.new.ensures
