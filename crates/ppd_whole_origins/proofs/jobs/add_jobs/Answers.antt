use Rattle.std.proofs.Common.{◌∙◌, ◌++◌, ℕ, List, [], ◌∷◌, map, ap, sym, arith}
use Rattle.std.specs.List.{range_with_len}
use Rattle.std.proofs.lemmas.List.{append_assoc}
use Rattle.std.proofs.lemmas.List.FromFn.{map-range_with_len_more}
use Rattle.ppd_whole_origins.proofs.jobs.add_jobs.Goals as goal

pub loop-interval-preserved : goal.loop-interval-preserved
loop-interval-preserved c =
    let k : ℕ = c.loop-interval.interval in
    let f : ℕ → ℕ × ℕ = λ i. (c.args.process, i) in
    c.in_ok-push.ensures.items
    ∙ ap (λ (l : List (ℕ × ℕ)). l ++ f k ∷ []) c.loop-interval.invariant
    ∙ append_assoc c.args.jobs.now.items (map f (range_with_len 0 k)) (f k ∷ [])
    ∙ ap (λ (l : List (ℕ × ℕ)). c.args.jobs.now.items ++ l) (sym (map-range_with_len_more f 0 k k (omega arith)))
