use Rattle.std.proofs.Common.{◌∙◌, ◌<◌, ◌++◌, ◌∷◌, [], ap, arith, length, refl}
use Rattle.std.proofs.lemmas.List.{get_or_default}
use Rattle.std.specs.Prelude.{if◌then◌else◌}
use Rattle.ppd_deps.proofs.Added.{first_push}
use Rattle.ppd_deps.proofs.Vocabulary.{shared_edge}
use Rattle.ppd_deps.specs.Rows.{row_at}
use Rattle.ppd_deps.proofs.adding.add_shared_edge.Goals as goal

pub loop-number-preserved : goal.loop-number-preserved
loop-number-preserved c =
    let k = c.loop-number.number in
    let rows = c.loop-number.rows in
    let lt : k < length rows = omega arith in
    let e = shared_edge c.args.stmt c.args.var in
    first_push k c.args.rows.now rows _ c.add_if.new.row _ lt c.loop-number.invariant refl
    (c.in_ok-add_if.ensures ∙ ap (λ r. r ++ (if c.reads_shared-is_wanted.result then e ∷ [] else [])) (get_or_default rows k c.index-rows-number.result [] lt)
    ∙ ap (λ b. row_at rows k ++ (if b then e ∷ [] else [])) c.reads_shared-is_wanted.ensures)
