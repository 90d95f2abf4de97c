use Rattle.ppd_flow_past.specs.PastSetting.{past_setting}
use Rattle.std.specs.Result.{result_err}
use Rattle.std.specs.List.{filter_map}
use Rattle.std.specs.Prelude.{slice_get}
use Rattle.std.proofs.Common.{◌≡◌, ◌++◌, [], None}
use Rattle.ppd_session.specs.Keeping.{AreAsked}
use Rattle.ppd_session.specs.LastTables.{AreOfLast}
use Rattle.ppd_session.specs.Known.{last_by}
use Rattle.ppd_session.specs.Sessions.{known_by, last_block}
use Rattle.ppd_session.specs.Texts.{lasts_text}
use Rattle.ppd_session.proofs.lasts.put_cell_lines.Given as goal
use Rattle.ppd_session.proofs.KnownWords.{of_cells}

abbrev pub invariant-loop-cell : goal.invariant-loop-cell
invariant-loop-cell l = record {
  text : l.text.items
      ≡ l.initial.text.items
      ++ lasts_text l.past.program.now 0
      (of_cells (last_by (past_setting l.past) l.past.logs.now) 0 l.cell);
  none : slice_get (filter_map result_err (of_cells (last_by (past_setting l.past) l.past.logs.now) 0 l.cell)) 0
      ≡ None;
  asked : AreAsked (known_by l.past []) (of_cells (last_block l.past) 0 l.cell) l.initial.kept l.kept;
  tables : AreOfLast l.past l.tables;
}
