use Rattle.std.proofs.Common.{◌≡◌, ◌∙◌, ap, length, arith}
use Rattle.std.specs.Prelude.{◌||◌}
use Rattle.ppd_ast.specs.Members.{has}
use Rattle.ppd_sets.specs.CellSets.{held}
use Rattle.ppd_sets.proofs.CellSets.Words.{either_has}
use Rattle.ppd_sets.proofs.cell_set.CellSet.insert_all.Goals as goal

pub returns : goal.returns
returns c x =
    let long : length c.self.inside.words ≡ 16 = omega arith in
    let long' : length c.other.inside.words ≡ 16 = omega arith in
    either_has c.self.inside.words c.other.inside.words x long long'
    ∙ ap (λ l. has l x || has (held c.other.inside.words) x) c.self.view_is ∙ ap (λ l. has c.args.self.now x || has l x) c.other.view_is
