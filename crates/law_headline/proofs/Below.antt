-- The laws of the crates below on which the headline rests.
use Rattle.std.specs.Prelude.{ℕ, List}
use Rattle.ppd_ast.specs.declared.program.Program.{Program}
use Rattle.ppd_ast.specs.Valid.{IsValid}
use Rattle.ppd_check.specs.Read.{IsRead}
use Rattle.ppd_model.specs.Items.{ItemsAreWhole}
use Rattle.ppd_model.specs.Laws.{IsTestOfEdges, ProcessesFollowTheirSteps}
use Rattle.ppd_model.specs.Prefixes.{ObjectsStay}
use Rattle.ppd_model.specs.RecordedSets.{AccessesAreOfCells}
use Rattle.ppd_session.specs.Laws.{LogsTellRuns, RunsAreAnswered}
use Rattle.law_steps.specs.Agreeing.{AgreeingSchedulesHaveNoRace, AgreeingSchedulesHaveOneStory}
use Rattle.law_flow.specs.Loops.AllOwnParts.{AllOwnPartsAreFound}
use Rattle.law_flow.specs.Costs.Bounds.{EdgesCostLittle, LastCostsLittle}
use Rattle.law_flow.specs.Edges.Assembled.{EdgesAreFound}
use Rattle.law_flow.specs.Edges.SharedEdges.{LastWritesAreFound}
use Rattle.law_steps.specs.Theorem.Laws.{ReplaysGiveIntervals}
use Rattle.law_flow.specs.JoinedLaws.{JoinedAreEvents}

pub record Below : Type 0 where
  pub read_is_valid : (source : List ℕ) (program : Program) → IsRead source program → IsValid program
  pub follow : ProcessesFollowTheirSteps
  pub tests_edges : IsTestOfEdges
  pub objects_stay : ObjectsStay
  pub accesses_there : AccessesAreOfCells
  pub items_whole : ItemsAreWhole
  pub agreeing_stories : AgreeingSchedulesHaveOneStory
  pub agreeing_races : AgreeingSchedulesHaveNoRace
  pub replays_give : ReplaysGiveIntervals
  pub edges_found : EdgesAreFound
  pub own_parts : AllOwnPartsAreFound
  pub edges_cost : EdgesCostLittle
  pub lasts_found : LastWritesAreFound
  pub lasts_cost : LastCostsLittle
  pub joined_events : JoinedAreEvents
  pub logs_tell : LogsTellRuns
  pub runs_answered : RunsAreAnswered
