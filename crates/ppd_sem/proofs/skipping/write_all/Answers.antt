use Rattle.std.proofs.Common.{◌≡◌, ◌+◌, ◌-◌, length, arith, ap, ◌∙◌}
use Rattle.ppd_sem.proofs.Tops.{all_written}
use Rattle.ppd_sem.proofs.skipping.write_all.Goals as goal
use Rattle.ppd_sem.specs.Process.{on_top, with_values}

pub returns-then-count-gt0 : goal.returns-then-count-gt0
returns-then-count-gt0 c =
    let last : (c.len-count.result - 1) + 1 ≡ length c.frames.inside.items.items = omega arith in
    all_written c.args.numbers.now c.args.values.now c.frames.inside.items.items (c.len-count.result - 1) c.index_mut.result.now _ last c.index_mut.ensures.value c.write_values.ensures ∙
    ap (λ frames. on_top (with_values c.args.numbers.now c.args.values.now) frames) c.frames.view_is
