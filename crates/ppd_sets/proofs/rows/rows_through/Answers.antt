use Rattle.std.specs.Prelude.{true}
use Rattle.ppd_sets.specs.Used.{shared_through, reads_at, writes_at}
use Rattle.ppd_sets.proofs.Calling.{map_more}
use Rattle.ppd_sets.proofs.rows.rows_through.Goals as goal

pub loop-body-preserved : goal.loop-body-preserved
loop-body-preserved c =
    let p = c.args.program.now in
    let k = c.loop-body.body in
    record {
      used = map_more (shared_through p (reads_at true p)) k c.loop-body.rows.used c.push.new.self.used c.in_ok-row.row.used c.loop-body.invariant.used c.in_ok-row.ensures.used c.in_ok-push.ensures.used;
      defined = map_more (shared_through p (writes_at true p)) k c.loop-body.rows.defined c.push.new.self.defined c.in_ok-row.row.defined c.loop-body.invariant.defined c.in_ok-row.ensures.defined c.in_ok-push.ensures.defined;
    }
