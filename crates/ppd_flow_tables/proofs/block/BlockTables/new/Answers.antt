use Rattle.std.specs.Prelude.{get_or, []}
use Rattle.std.proofs.Common.{List, subst}
use Rattle.ppd_flow_local_tables.specs.Tables.{IsTableOf}
use Rattle.ppd_flow_tables.specs.Tables.{IsPlaceTable}
use Rattle.ppd_model.specs.declared.flow.Item.{Item}
use Rattle.ppd_flow_tables.proofs.block.BlockTables.new.Goals as goal

pub returns : goal.returns
returns c =
    let past = c.args.past.now in
    let entries = get_or past.logs.now.lists c.args.process [] in
    subst (λ (items : List Item). IsTableOf past.program.now past.plan.now items c.in_ok-locals.locals
    × IsPlaceTable entries c.args.interval items c.in_ok-places.places) c.requires.items
    (c.in_ok-locals.ensures, c.in_ok-places.ensures entries c.requires.edges)
