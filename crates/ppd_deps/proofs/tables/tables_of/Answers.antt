use Rattle.std.specs.Prelude.{false}
use Rattle.std.proofs.Common.{◌∙◌}
use Rattle.ppd_sets.specs.Used.{reads_at, writes_at}
use Rattle.ppd_sets.specs.Flow.{next_of}
use Rattle.ppd_deps.specs.Named.{shared_reads, own_vars}
use Rattle.ppd_sets.proofs.Calling.{map_more}
use Rattle.ppd_deps.proofs.tables.tables_of.Goals as goal

pub loop-number-preserved : goal.loop-number-preserved
loop-number-preserved c =
    let p = c.args.program.now in
    let k = c.loop-number.number in
    let old = c.loop-number.tables in
    let new = c.push.new.self in
    let row = c.in_ok-row.row in
    record {
      next = map_more (next_of p) k old.next new.next row.next c.loop-number.invariant.next c.in_ok-row.ensures.next c.in_ok-push.ensures.next;
      running = c.in_ok-push.ensures.running ∙ c.loop-number.invariant.running;
      shared = map_more (shared_reads p) k old.shared new.shared row.shared c.loop-number.invariant.shared c.in_ok-row.ensures.shared c.in_ok-push.ensures.shared;
      local = map_more (own_vars p (reads_at false p)) k old.local new.local row.local c.loop-number.invariant.local c.in_ok-row.ensures.local c.in_ok-push.ensures.local;
      written = map_more (own_vars p (writes_at false p)) k old.written new.written row.written c.loop-number.invariant.written c.in_ok-row.ensures.written c.in_ok-push.ensures.written;
    }
