use Rattle.ppd_flow_past.specs.PastSetting.{past_setting}
use Rattle.std.specs.List.{filter_map}
use Rattle.std.specs.Prelude.{slice_get}
use Rattle.std.specs.Result.{result_err}
use Rattle.std.proofs.Common.{◌≡◌, ◌<◌, ◌++◌, ◌∙◌, [], ap, arith, length, refl, subst, sym}
use Rattle.std.proofs.lemmas.List.{append-nil}
use Rattle.std.proofs.lemmas.Result.{err_from_is_err_and}
use Rattle.ppd_session.specs.Known.{last_by}
use Rattle.ppd_session.specs.Keeping.{AreAsked}
use Rattle.ppd_session.specs.Sessions.{known_by, last_block}
use Rattle.ppd_session.specs.Texts.{lasts_text}
use Rattle.ppd_session.proofs.Keeping.{are_told, next_asked, part_asked}
use Rattle.ppd_session.proofs.LastValues.{next, why}
use Rattle.ppd_session.proofs.lasts.put_cell_lines.Goals as goal
use Rattle.ppd_session.proofs.KnownWords.{of_cells}

pub loop-cell-init : goal.loop-cell-init
loop-cell-init c = record {
  text = sym (append-nil c.args.text.now.items);
  none = refl;
  asked = refl;
  tables = c.requires.tables;
}

pub put_cell_line-requires-clause-kept : goal.put_cell_line-requires-clause-kept
put_cell_line-requires-clause-kept c =
    let past = c.args.past.now in
    are_told (known_by past []) (of_cells (last_block past) 0 c.loop-cell.cell) c.args.kept.now c.loop-cell.kept c.requires.kept
    c.loop-cell.invariant.asked

pub returns-in_err-put_cell_line-clause-error : goal.returns-in_err-put_cell_line-clause-error
returns-in_err-put_cell_line-clause-error c =
    let past = c.args.past.now in
    let lt : c.loop-cell.cell < length past.program.now.starts = omega (arith, c.loop-cell-test.true, c.len-cell-end.ensures) in
    let e = err_from_is_err_and c.from_residual.result c.from_residual.ensures.1 in
    rw (e.1, e.2) (why (last_by (past_setting past) past.logs.now) c.loop-cell.cell
    (length past.program.now.starts) c.in_err-put_cell_line.field-0.0 lt c.loop-cell.invariant.none
    c.in_err-put_cell_line.ensures.error)

pub returns-in_err-put_cell_line-clause-part : goal.returns-in_err-put_cell_line-clause-part
returns-in_err-put_cell_line-clause-part c =
    let past = c.args.past.now in
    let lt : c.loop-cell.cell < length past.program.now.starts = omega (arith, c.loop-cell-test.true, c.len-cell-end.ensures) in
    let e = err_from_is_err_and c.from_residual.result c.from_residual.ensures.1 in
    rw (e.1) (part_asked (known_by past []) (last_block past) c.loop-cell.cell (length past.program.now.starts) c.args.kept.now c.loop-cell.kept
    c.put_cell_line.new.kept lt c.loop-cell.invariant.asked c.in_err-put_cell_line.ensures.part)

pub loop-cell-preserved : goal.loop-cell-preserved
loop-cell-preserved c =
    let past = c.args.past.now in
    let n = next (last_by (past_setting past) past.logs.now) past.program.now c.loop-cell.cell
    c.args.text.now.items c.loop-cell.text.items c.put_cell_line.new.text.items c.loop-cell.invariant.text
    c.loop-cell.invariant.none c.in_ok-put_cell_line.ensures.told in
    record {
      text = n.text;
      none = n.none;
      asked = next_asked (known_by past []) (last_block past) c.loop-cell.cell c.args.kept.now c.loop-cell.kept c.put_cell_line.new.kept
          c.loop-cell.invariant.asked c.in_ok-put_cell_line.ensures.kept;
      tables = c.put_cell_line.ensures.tables;
    }

pub returns-clause-text : goal.returns-clause-text
returns-clause-text c =
    let past = c.args.past.now in
    let all : c.loop-cell.cell ≡ length past.program.now.starts = omega arith in
    c.loop-cell.invariant.text
    ∙ ap (λ n. c.args.text.now.items ++ lasts_text past.program.now 0 (of_cells (last_by (past_setting past) past.logs.now) 0 n)) all

pub returns-clause-told : goal.returns-clause-told
returns-clause-told c =
    let past = c.args.past.now in
    let all : c.loop-cell.cell ≡ length past.program.now.starts = omega arith in
    ap (λ n. slice_get (filter_map result_err (of_cells (last_by (past_setting past) past.logs.now) 0 n)) 0) (sym all)
    ∙ c.loop-cell.invariant.none

pub returns-clause-kept : goal.returns-clause-kept
returns-clause-kept c =
    let past = c.args.past.now in
    let all : c.loop-cell.cell ≡ length past.program.now.starts = omega arith in
    subst (λ n. AreAsked (known_by past []) (of_cells (last_block past) 0 n) c.args.kept.now c.loop-cell.kept) all
    c.loop-cell.invariant.asked

pub returns-in_err-put_cell_line-clause-kept : goal.returns-in_err-put_cell_line-clause-kept
returns-in_err-put_cell_line-clause-kept c =
    let e = err_from_is_err_and c.from_residual.result c.from_residual.ensures.1 in rw (e.1) tt

pub returns-in_err-put_cell_line-clause-text : goal.returns-in_err-put_cell_line-clause-text
returns-in_err-put_cell_line-clause-text c =
    let e = err_from_is_err_and c.from_residual.result c.from_residual.ensures.1 in rw (e.1) tt

pub returns-in_err-put_cell_line-clause-told : goal.returns-in_err-put_cell_line-clause-told
returns-in_err-put_cell_line-clause-told c =
    let e = err_from_is_err_and c.from_residual.result c.from_residual.ensures.1 in rw (e.1) tt
