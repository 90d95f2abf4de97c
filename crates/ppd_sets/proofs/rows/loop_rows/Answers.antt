use Rattle.std.specs.Prelude.{false}
use Rattle.ppd_sets.specs.Used.{local_in, reads_at, writes_at}
use Rattle.ppd_sets.proofs.Calling.{map_more}
use Rattle.ppd_sets.proofs.rows.loop_rows.Goals as goal

pub loop-stmt-preserved : goal.loop-stmt-preserved
loop-stmt-preserved c =
    let p = c.args.program.now in
    let k = c.loop-stmt.stmt in
    record {
      used = map_more (local_in p (reads_at false p)) k c.loop-stmt.rows.used c.push.new.self.used c.in_ok-row.row.used c.loop-stmt.invariant.used c.in_ok-row.ensures.used c.in_ok-push.ensures.used;
      defined = map_more (local_in p (writes_at false p)) k c.loop-stmt.rows.defined c.push.new.self.defined c.in_ok-row.row.defined c.loop-stmt.invariant.defined c.in_ok-row.ensures.defined c.in_ok-push.ensures.defined;
    }
