use Rattle.std.proofs.Common.{◌∙◌, sym, ap, ◌++◌, not}
use Rattle.std.proofs.lemmas.List.{append-nil}
use Rattle.ppd_ast.specs.declared.program.Kind.TheVariants as K
use Rattle.ppd_ast.specs.declared.limits.TheConstants.{MOST_LOCAL_CELLS}
use Rattle.ppd_check_names.specs.declared.fault.Cause.TheVariants.{BadSize}
use Rattle.ppd_check_names.specs.Fitted.{fitted}
use Rattle.ppd_check_stmts.specs.Code as C
use Rattle.ppd_check_names.specs.Faults.{first, first_of_both, if_so}
use Rattle.ppd_check_names.specs.Names.{innermost}
use Rattle.ppd_check_names.specs.Frames.{twice_faults, size_faults}
use Rattle.ppd_check_names.proofs.Found.First.{found_in_both}
use Rattle.ppd_check_stmts.proofs.Table.Writing.{wrote_act}
use Rattle.ppd_check_names.proofs.Found.Outcomes.{both_ok}
use Rattle.ppd_check_stmts.proofs.arrays.write_array.Goals as goal

pub returns-clause-wrote : goal.returns-clause-wrote
returns-clause-wrote g c =
    let u = c.args.out.now.table in
    let twice = twice_faults (innermost c.args.frame.now.scopes) (record { text = c.args.label.text.now; place = c.args.label.place }) in
    let size = size_faults 1 MOST_LOCAL_CELLS (record { value = c.args.size.value; place = c.args.size.place }) in
    both_ok c.put_stmt.result _ _ _ c.put_stmt.ensures.stmts c.put_stmt.ensures.row
    (λ t o. wrote_act c.args.site.body c.args.site.parent c.args.label.place (C.clear c.args.frame.now.cells (fitted 16 c.args.size.value)) (K.Zero c.args.frame.now.cells c.as_short-len.result) (twice ++ size) u c.put_stmt.new.out.table c.args.out.now.row c.put_stmt.new.out.row
    (c.put_stmt.ensures.exprs ∙ sym (append-nil u.exprs))
    (ap (λ n. K.Zero c.args.frame.now.cells n) c.as_short-len.ensures)
    t o
    (c.put_stmt.ensures.found
    ∙ found_in_both u.found c.declare.new.found c.note_unless.new.found twice (if_so (not c.is_within-fits.result) c.args.size.place BadSize) c.in_ok-declare.ensures.faults c.note_unless.ensures
    ∙ ap (λ b. first_of_both u.found (first (twice ++ if_so (not b) c.args.size.place BadSize))) c.is_within-fits.ensures))
