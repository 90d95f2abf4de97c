use Rattle.std.proofs.Common.{◌≡◌, ◌+◌, ◌∙◌, ap, sym, ℕ, ℤ, pos, List, length, drop, get_or, arith}
use Rattle.std.specs.Prelude.{min, slice_set}
use Rattle.std.proofs.lemmas.Int.{to_z-of_z}
use Rattle.ppd_sem.proofs.Begun.{with_next, with_none}
use Rattle.ppd_sem.proofs.blocks.write_values.Goals as goal
use Rattle.ppd_sem.specs.Process.{with_values}

pub returns : goal.returns
returns c =
    let count : c.min-count.result ≡ min (length c.args.numbers.now) (length c.args.values.now) = c.min-count.ensures in
    sym (with_none c.args.numbers.now c.args.values.now c.loop-index.cells c.loop-index.index (omega arith)) ∙ c.loop-index.invariant

pub loop-index-preserved : goal.loop-index-preserved
loop-index-preserved c =
    let numbers : List ℕ = c.args.numbers.now in
    let values : List ℤ = c.args.values.now in
    let i : ℕ = c.loop-index.index in
    let count : c.min-count.result ≡ min (length numbers) (length values) = c.min-count.ensures in
    let set : c.set.new.self ≡ slice_set c.loop-index.cells (get_or numbers i 0) (get_or values i (pos 0)) = grind (arith, to_z-of_z) in
    ap (λ l. with_values (drop (i + 1) numbers) (drop (i + 1) values) l) set ∙
    sym (with_next numbers values c.loop-index.cells i 0 (pos 0) (omega arith) (omega arith)) ∙
    c.loop-index.invariant
