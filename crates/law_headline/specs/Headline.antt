-- The headline of the project, each part in its own words, of a run and of what is told of it.
use Rattle.std.specs.Prelude.{◌≡◌, ℕ, List, []}
use Rattle.ppd_check.specs.Read.{IsRead}
use Rattle.ppd_model.specs.Schedule.{IsWhole}
use Rattle.ppd_session.specs.Known.{Known}
use Rattle.law_headline.specs.Answered.{AreEdgesOf, AreValuesOf, MissesNoEdge}
use Rattle.law_headline.specs.Replayed.{AreByReExecuting}
use Rattle.law_headline.specs.Runs.{AgreesWith, Run, story_in, setting_in}
use Rattle.law_headline.specs.Unordered.{ListsExactly}

-- what the headline says of a run and of what is told of it: of its source, program and schedule, of its race report,
-- and, where that is empty, of the values and edges that are told
pub record Headline (r : Run) (x : Known) : Type 0 where
  -- for every accepted program
  pub every_accepted_program : IsRead r.source r.program
  -- and every interleaving that the threads take
  pub every_interleaving : IsWhole (setting_in r) r.schedule
  -- the race report lists exactly the conflicting pairs of internal edges that the recorded synchronization leaves
  -- unordered
  pub race_report_lists_exactly : ListsExactly r.program (story_in r r.schedule) x.races
  -- where it is empty, every value answered is that of the full trace of every agreeing schedule
  pub every_value : x.races ≡ [] → (h : List ℕ) → AgreesWith r h → AreValuesOf r h x
  -- and so is every flowback edge
  pub every_flowback_edge : x.races ≡ [] → (h : List ℕ) → AgreesWith r h → AreEdgesOf r h x
  -- they are answered by re-executing single e-blocks, each from its own log
  pub by_re_executing_single_e_blocks : x.races ≡ [] → AreByReExecuting r x
  -- and no requested edge is missing
  pub no_requested_edge_is_missing : x.races ≡ [] → (h : List ℕ) → AgreesWith r h → MissesNoEdge r h x
