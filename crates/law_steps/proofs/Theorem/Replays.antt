-- The theorem of replays, and what follows for a call that answers as a replay.
use Rattle.law_steps.proofs.Spans.SpansComing.{spans_are_coming}
use Rattle.law_steps.proofs.Theorem.Emulated.{emulations_by}
use Rattle.law_steps.proofs.Theorem.Whole.{replays_by}
use Rattle.law_steps.specs.Theorem.Laws.{EmulationsGiveIntervals, ReplaysGiveIntervals}

pub replays_give_intervals : ReplaysGiveIntervals
replays_give_intervals = replays_by spans_are_coming

pub emulations_give_intervals : EmulationsGiveIntervals
emulations_give_intervals = emulations_by replays_give_intervals
