use Rattle.std.proofs.Common.{◌≡◌, ◌∙◌, ap, length, arith}
use Rattle.std.specs.Prelude.{nat_eq, ◌||◌}
use Rattle.ppd_ast.specs.Members.{has, with_cell}
use Rattle.ppd_sets.specs.CellSets.{held}
use Rattle.ppd_sets.proofs.CellSets.Sets.{has_with}
use Rattle.ppd_sets.proofs.CellSets.Held.{held_with}
use Rattle.ppd_sets.proofs.cell_set.CellSet.insert.Goals as goal

pub returns-clause-list : goal.returns-clause-list
returns-clause-list c =
    let long : length c.self.inside.words ≡ 16 = omega arith in
    held_with c.self.inside.words c.args.cell long c.requires ∙ ap (with_cell c.args.cell) c.self.view_is

pub returns-clause-cells : goal.returns-clause-cells
returns-clause-cells c other =
    let long : length c.self.inside.words ≡ 16 = omega arith in
    ap (λ xs. has xs other) (held_with c.self.inside.words c.args.cell long c.requires) ∙ has_with c.args.cell (held c.self.inside.words) other
    ∙ ap (λ xs. nat_eq c.args.cell other || has xs other) c.self.view_is
