use Rattle.std.specs.Prelude.{get_or, []}
use Rattle.ppd_flow_local.specs.Searches.{plan_in, program_in, seen}
use Rattle.ppd_flow_local.proofs.Places.{table_at}
use Rattle.std.proofs.Common.{◌∙◌, List, ap, arith, length}
use Rattle.std.proofs.lemmas.List.{take_all}
use Rattle.ppd_model.specs.declared.flow.Item.{Item}
use Rattle.ppd_graph.specs.Locals.{scan}
use Rattle.ppd_flow_local.proofs.search.Search.last_writer.Goals as goal

pub returns-in-Some : goal.returns-in-Some
returns-in-Some c =
    let s = c.args.self.now in
    let items = c.args.items.now in
    let table = table_at (program_in s) (plan_in s) (get_or (seen s).items c.args.interval []) items c.in-Some.tables.now.locals
    c.requires.items c.in-Some.ensures.0 in
    (c.last_write.ensures (program_in s) (plan_in s) items table (omega arith)).writer
    ∙ ap (λ (xs : List Item). (scan (program_in s) (plan_in s) 0 c.args.cell xs).writer)
    (take_all (length items) items (omega arith))
