use Rattle.std.proofs.Common.{◌≡◌, ◌+◌, ◌-◌, ℤ, List, length, arith, ap, ◌∙◌}
use Rattle.std.specs.Prelude.{slice_set}
use Rattle.std.proofs.lemmas.Int.{to_z-of_z}
use Rattle.ppd_sem.proofs.Tops.{written}
use Rattle.ppd_sem.proofs.frames.write_top.Goals as goal
use Rattle.ppd_sem.specs.Process.{on_top}

pub returns-then-count-gt0 : goal.returns-then-count-gt0
returns-then-count-gt0 c =
    let last : (c.len-count.result - 1) + 1 ≡ length c.frames.inside.items.items = omega arith in
    let cells : List ℤ = c.index_mut.result.now.cells in
    let set : c.set.new.self ≡ slice_set cells c.args.cell c.args.value = grind (arith, to_z-of_z) in
    written c.args.cell c.args.value c.frames.inside.items.items (c.len-count.result - 1) c.index_mut.result.now c.set.new.self last c.index_mut.ensures.value set ∙
    ap (λ frames. on_top (λ cells. slice_set cells c.args.cell c.args.value) frames) c.frames.view_is
