use Rattle.std.specs.Prelude.{get_or, []}
use Rattle.ppd_flow_local.specs.Searches.{plan_in, program_in, seen}
use Rattle.ppd_flow_local.proofs.Places.{table_at}
use Rattle.ppd_flow_local.proofs.search.Search.leaf_at.Goals as goal

pub returns-in-Some : goal.returns-in-Some
returns-in-Some c =
    let s = c.args.self.now in
    let table = table_at (program_in s) (plan_in s) (get_or (seen s).items c.args.place.now.interval []) c.args.place.now.items.now
    c.in-Some.tables.now.locals c.requires.place.items_are c.in-Some.ensures.0 in
    c.leaf_at.ensures (program_in s) (plan_in s) c.args.place.now.items.now table c.requires.place.within
