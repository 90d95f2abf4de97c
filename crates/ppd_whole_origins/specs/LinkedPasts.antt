-- A past with what its events leave and the edges that write each cell.
use Rattle.ppd_flow_shared.specs.Pasts.{IsPast}
use Rattle.ppd_flow_shared.specs.Writing.{AreWritingEdges}
use Rattle.ppd_whole_origins.specs.declared.linked_past.LinkedPast.{LinkedPast}
use Rattle.ppd_whole_origins.specs.Origins.{AreMarked}

-- they are those of the past
pub record IsLinked (x : LinkedPast) : Type 0 where
  pub past : IsPast x.past.now
  pub marks : AreMarked x.past.now x.marks.now
  pub writing : AreWritingEdges x.past.now.graph.now.edges x.writing.now
