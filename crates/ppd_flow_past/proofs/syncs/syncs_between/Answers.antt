use Rattle.std.proofs.Common.{◌≡◌, ◌∙◌, ap, arith, drop, length, take, List}
use Rattle.std.specs.Prelude.{filter_map}
use Rattle.ppd_model.specs.declared.entry.Entry.{Entry}
use Rattle.ppd_model.specs.RecordedSets.{sync_in}
use Rattle.ppd_flow_past.proofs.Edges.Counted.{found_between, found_fewer}
use Rattle.ppd_flow_past.proofs.syncs.syncs_between.Goals as goal

pub returns-then-from-to : goal.returns-then-from-to
returns-then-from-to c =
    let fewer = found_fewer sync_in c.args.entries.now c.args.to c.args.from (omega arith) in omega (arith, fewer)

pub returns : goal.returns
returns c =
    let last : c.last_entries.result.now ≡ drop c.args.from (take c.args.to c.args.entries.now) =
    c.last_entries.ensures ∙ ap (λ (es : List Entry). drop c.args.from es) c.first_entries-early.ensures in
    c.syncs_among.ensures ∙ ap (λ (es : List Entry). length (filter_map sync_in es)) last
    ∙ found_between sync_in c.args.entries.now c.args.from c.args.to (omega arith)
