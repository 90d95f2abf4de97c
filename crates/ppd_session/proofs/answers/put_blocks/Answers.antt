use Rattle.std.specs.Prelude.{OnOk}
use Rattle.std.proofs.Common.{◌≡◌, ◌++◌, List, subst}
use Rattle.ppd_session.specs.Known.{Interval}
use Rattle.ppd_session.proofs.Indexed.{intervals_are}
use Rattle.ppd_session.proofs.answers.put_blocks.Goals as goal
use Rattle.ppd_session.proofs.KnownWords.{interval_lines}

pub returns : goal.returns
returns c =
    let past = c.args.past.now in
    let e = intervals_are past.plan.now past.logs.now past.index.now.tables c.in-Some.process c.requires.index_is in
    rw (c.in-Some.is)
    (subst (λ (shown : List Interval). OnOk c.put_intervals.result (c.put_intervals.new.text.items ≡ c.args.text.now.items ++ interval_lines past.program.now past.plan.now 0 shown)) e c.put_intervals.ensures)
