use Rattle.std.proofs.Common.{◌+◌, take}
use Rattle.ppd_top_runs.specs.Ends.{end_text}
use Rattle.ppd_top_runs.proofs.ToldRuns.Printed.{end_texts-taken, appended}
use Rattle.ppd_top_runs.proofs.ends.put_ends.Goals as goal
use Rattle.ppd_top_runs.proofs.RunWords.{end_texts}

pub loop-index-preserved : goal.loop-index-preserved
loop-index-preserved c =
    let i = c.loop-index.index in
    let program = c.args.program.now in
    let b = c.args.first in
    let es = c.args.ends.now in
    let e = c.index-ends-index.result in
    let name = c.body_name-name.result.now in
    appended c.args.text.now.items (end_texts program b (take i es)) c.loop-index.text.items (end_text program name e) (end_texts program b (take (i + 1) es)) c.put_end.new.text.items
    c.loop-index.invariant (end_texts-taken program b es i e name c.loop-index-test.true c.index-ends-index.is c.body_name-name.ensures) c.in_ok-put_end.ensures
