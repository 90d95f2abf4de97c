-- What is held in code, seen as lists.
use Rattle.ppd_rerun_ran.specs.declared.held.Held.{Held}
use Rattle.ppd_rerun_ran.specs.Holding.{Holding}

-- the events, the intervals and the numbers of those that run
abbrev pub seen : Held → Holding
seen x = record { events = x.events; spans = x.spans.items; running = x.running }
