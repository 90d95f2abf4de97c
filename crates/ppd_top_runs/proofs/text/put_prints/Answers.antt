use Rattle.std.specs.List.{flat_map}
use Rattle.std.proofs.lemmas.Int.{to_z-of_z}
use Rattle.std.proofs.Common.{◌+◌, take, get_or, pos, rules, FitsSigned, w64}
use Rattle.ppd_top_runs.specs.Ends.{print_text}
use Rattle.ppd_top_runs.proofs.ToldRuns.Printed.{prints-taken, appended}
use Rattle.ppd_top_runs.proofs.text.put_prints.Goals as goal

pub loop-value-preserved : goal.loop-value-preserved
loop-value-preserved c =
    let i = c.loop-value.value-index in
    let vs = c.args.values.now in
    let name = c.args.name.now in
    let fits : FitsSigned w64 (get_or vs i (pos 0)) = search rules in
    appended c.args.text.now.items (flat_map (print_text name) (take i vs)) c.loop-value.text.items (print_text name (get_or vs i (pos 0))) (flat_map (print_text name) (take (i + 1) vs)) c.put_print.new.text.items
    c.loop-value.invariant (prints-taken name vs i (pos 0) c.loop-value-test.true) (simp to_z-of_z at c.in_ok-put_print.ensures)
