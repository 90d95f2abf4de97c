use Rattle.std.specs.Prelude.{codes, min, pos}
use Rattle.std.proofs.Common.{◌≤◌, ◌++◌, FitsSigned, ap, arith, get_or, length, rules, w64, ◌∙◌}
use Rattle.std.proofs.lemmas.Int.{to_z-of_z}
use Rattle.std.specs.Fmt.{signed_decimal}
use Rattle.ppd_text.specs.CellNames.{cell_text}
use Rattle.ppd_text.proofs.ItemLines.Lines.{all_pairs, pairs_more}
use Rattle.ppd_text.proofs.items.put_left_cells.Goals as goal

pub loop-n-preserved : goal.loop-n-preserved
loop-n-preserved c =
    let fits : FitsSigned w64 (get_or c.args.values.now c.loop-n.n (pos 0)) = search rules in
    pairs_more (λ x. codes " " ++ cell_text c.args.locals.now x.0 ++ codes "=" ++ signed_decimal x.1) 0 (pos 0) c.args.cells.now c.args.values.now c.loop-n.n
    c.args.text.now.items c.loop-n.text.items c.put_left_cell.new.text.items
    (omega (arith, c.loop-n-test.true, c.min-n-end.ensures)) (omega (arith, c.loop-n-test.true, c.min-n-end.ensures))
    c.loop-n.invariant (simp to_z-of_z at c.in_ok-put_left_cell.ensures)

pub returns : goal.returns
returns c =
    let le : min (length c.args.cells.now) (length c.args.values.now) ≤ c.loop-n.n =
    omega (arith, c.loop-n-test.false, c.min-n-end.ensures) in
    c.loop-n.invariant
    ∙ ap (λ w. c.args.text.now.items ++ w)
    (all_pairs (λ x. codes " " ++ cell_text c.args.locals.now x.0 ++ codes "=" ++ signed_decimal x.1) 0 (pos 0) c.args.cells.now c.args.values.now c.loop-n.n le)
