use Rattle.std.proofs.Common.{List, ap, refl, reverse, take, ℕ}
use Rattle.std.specs.Prelude.{get_or, []}
use Rattle.ppd_graph.specs.Locals.{scan}
use Rattle.ppd_flow_local.specs.Searches.{plan_in, program_in, seen}
use Rattle.ppd_flow_local.proofs.Places.{table_at}
use Rattle.ppd_flow_local.specs.Scans.{scanned}
use Rattle.ppd_flow_local.proofs.Rounds.{by_last}
use Rattle.ppd_flow_local.proofs.search.Search.local_in.Goals as goal

pub returns-in-Some : goal.returns-in-Some
returns-in-Some g c =
    let s = c.args.self.now in
    let table = table_at (program_in s) (plan_in s) (get_or (seen s).items c.args.place.now.interval []) c.args.place.now.items.now
    c.in-Some.tables.now.locals c.requires.place.items_are c.in-Some.ensures.0 in
    let last = c.last_write-last.ensures (program_in s) (plan_in s) c.args.place.now.items.now table
    c.requires.place.within in
    by_last s c.args.place.now.interval c.args.place.now.item c.args.wanted.frame c.args.wanted.cell
    c.args.place.now.items.now
    (scan (program_in s) (plan_in s) c.args.wanted.frame c.args.wanted.cell
    (take c.args.place.now.item c.args.place.now.items.now)) (reverse c.last_write-last.result.loops.now)
    c.last_write-last.result.writer c.args.steps.now c.written.new.steps c.written.result c.requires.place.items_are
    refl last.loops last.writer c.written.ensures

pub returns : goal.returns
returns g c =
    by_last c.args.self.now c.args.place.now.interval c.args.place.now.item c.args.wanted.frame c.args.wanted.cell
    c.args.place.now.items.now (scanned c.in_ok-state.state) (reverse c.as_slice.result.now) c.in_ok-state.state.writer
    c.args.steps.now c.written-2.new.steps c.written-2.result c.requires.place.items_are c.in_ok-state.ensures
    (ap (λ (ms : List ℕ). reverse ms) c.as_slice.ensures) refl c.written-2.ensures
