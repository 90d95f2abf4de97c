use Rattle.std.proofs.Common.{◌≡◌, ◌∙◌, ◌+◌, ◌<◌, ◌++◌, ℕ, List, length, map, drop, ap, sym, arith}
use Rattle.std.specs.List.{range_with_len}
use Rattle.std.proofs.lemmas.List.{append_assoc}
use Rattle.ppd_flow_past.specs.declared.past.Past.{Past}
use Rattle.ppd_flow_past.specs.SeenBy.{seen_in}
use Rattle.ppd_flow_shared.specs.SharedCells.{seens_in}
use Rattle.ppd_whole_origins.specs.Intervals.{intervals_from, intervals_of}
use Rattle.ppd_whole_origins.proofs.Intervals.{intervals_drop}
use Rattle.ppd_whole_origins.proofs.jobs.jobs_of.Goals as goal

pub loop-p-preserved : goal.loop-p-preserved
loop-p-preserved c =
    let past : Past = c.args.past.now in
    let p : ℕ = c.loop-p.p in
    let q : ℕ = c.in-Ok.process in
    let jobs : List (ℕ × ℕ) = c.loop-p.jobs.items in
    let after : List (ℕ × ℕ) = intervals_from (p + 1) (drop (p + 1) (seens_in past)) in
    let same : q ≡ p = c.in-Ok.ensures.1 in
    let lt : p < length past.logs.now.lists = omega (arith, c.loop-p-test.true, c.len-p-end.ensures) in
    let many : c.count_of.result ≡ length (seen_in past q).items = c.count_of.ensures in
    let more : c.add_jobs.new.jobs.items ≡ jobs ++ map (λ (k : ℕ). (q, k)) (range_with_len 0 c.count_of.result) = c.in_ok-add_jobs.ensures in
    let own : map (λ (k : ℕ). (q, k)) (range_with_len 0 c.count_of.result) ≡ intervals_of p (seen_in past p) =
    ap (λ (n : ℕ). map (λ (k : ℕ). (q, k)) (range_with_len 0 n)) many ∙ ap (λ (r : ℕ). intervals_of r (seen_in past r)) same in
    ap (λ (l : List (ℕ × ℕ)). l ++ after) (more ∙ ap (λ (l : List (ℕ × ℕ)). jobs ++ l) own)
    ∙ append_assoc jobs (intervals_of p (seen_in past p)) after
    ∙ ap (λ (l : List (ℕ × ℕ)). jobs ++ l) (sym (intervals_drop past c.requires.uncut p lt))
    ∙ c.loop-p.invariant
