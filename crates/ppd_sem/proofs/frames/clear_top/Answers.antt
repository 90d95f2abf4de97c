use Rattle.std.proofs.Common.{◌≡◌, ◌+◌, ◌-◌, length, arith, ap, ◌∙◌}
use Rattle.std.specs.List.{range_with_len}
use Rattle.std.specs.Prelude.{replicate, pos}
use Rattle.ppd_sem.proofs.Tops.{cleared}
use Rattle.ppd_sem.proofs.frames.clear_top.Goals as goal
use Rattle.ppd_sem.specs.Process.{on_top, with_values}

pub returns-then-count-gt0 : goal.returns-then-count-gt0
returns-then-count-gt0 c =
    let last : (c.len-count.result - 1) + 1 ≡ length c.frames.inside.items.items = omega arith in
    cleared c.args.base c.args.len c.frames.inside.items.items (c.len-count.result - 1) c.index_mut.result.now _ last c.index_mut.ensures.value c.clear_cells.ensures ∙
    ap (λ frames. on_top (with_values (range_with_len c.args.base c.args.len) (replicate c.args.len (pos 0))) frames) c.frames.view_is
