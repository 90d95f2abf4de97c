use Rattle.std.proofs.Common.{◌∙◌, ap, subst, length, true, List, ℕ}
use Rattle.std.specs.List.{flat_map}
use Rattle.ppd_ast.specs.Members.{those}
use Rattle.ppd_sets.specs.Reach.{closure, leads}
use Rattle.ppd_sets.specs.Gained.{HasCells}
use Rattle.ppd_sets.specs.Used.{reads_at}
use Rattle.ppd_blocks.proofs.Reading.{along_is}
use Rattle.ppd_blocks.proofs.cells.cells_from.Goals as goal

pub returns : goal.returns
returns c =
    let p = c.args.program.now in
    let set : List ℕ = c.read_by-set.result in
    along_is p c.args.rows.now c.args.starts.now c.in_ok-stmts.stmts set c.in_ok-cells.cells c.requires.long
    (c.in_ok-stmts.ensures ∙ ap (λ (rs : List (List ℕ)). those (length rs) (leads (closure rs) c.args.starts.now)) c.as_slice.ensures)
    (subst (λ (ns : List ℕ). HasCells set (flat_map (reads_at true p) ns)) c.as_slice-2.ensures c.read_by-set.ensures)
    c.in_ok-cells.ensures.whole
