use Rattle.std.proofs.Common.{◌≡◌, ◌∙◌, ◌+◌, ◌<◌, ◌++◌, [], ◌∷◌, ℕ, List, length, map, drop, take, ap, ap₂, sym, arith}
use Rattle.std.specs.List.{flat_map}
use Rattle.std.proofs.Math.Seq.{drop-append_seam, take-append_seam}
use Rattle.std.proofs.lemmas.List.{map-append}
use Rattle.ppd_model.specs.declared.flow.Item.{Item}
use Rattle.ppd_flow_past.specs.declared.past.Past.{Past}
use Rattle.ppd_flow_past.specs.SeenBy.{seen_in}
use Rattle.ppd_graph.specs.Seen.{Seen}
use Rattle.ppd_flow.specs.SharedCells.{seens_in}
use Rattle.ppd_whole_origins.proofs.Intervals.{seens_drop, seens_take}
use Rattle.ppd_whole.proofs.processes.rows_by_process.Goals as goal

pub loop-p-preserved : goal.loop-p-preserved
loop-p-preserved c =
    let past : Past = c.args.past.now in
    let p : ℕ = c.loop-p.p in
    let q : ℕ = c.in-Ok.process in
    let same : q ≡ p = c.in-Ok.ensures.1 in
    let lt : p < length past.logs.now.lists = omega (arith, c.loop-p-test.true, c.len-p-end.ensures) in
    let own : List (List Item) = (seen_in past p).items in
    let after : List (List Item) = flat_map (λ (x : Seen). x.items) (drop (p + 1) (seens_in past)) in
    let counted : c.count_of-count.result ≡ length (seen_in past q).items = c.count_of-count.ensures in
    let many : c.count_of-count.result ≡ length own = counted ∙ ap (λ (r : ℕ). length (seen_in past r).items) same in
    let left : c.loop-p.left.now ≡ own ++ after = c.loop-p.invariant.left ∙ ap (λ (l : List Seen). flat_map (λ (x : Seen). x.items) l) (seens_drop past c.requires.uncut p lt) in
    let first : c.first_rows.result.now ≡ own =
    c.first_rows.ensures ∙ ap₂ (λ (n : ℕ) (l : List (List Item)). take n l) many left ∙ take-append_seam own after in
    let last : c.later_rows-left.result.now ≡ after =
    c.later_rows-left.ensures ∙ ap₂ (λ (n : ℕ) (l : List (List Item)). drop n l) many left ∙ drop-append_seam own after in
    let ends = map-append (λ (x : Seen). x.items) (take p (seens_in past)) (seen_in past p ∷ []) in
    record {
      left = last;
      own =
          ap (map _) c.in_ok-push.ensures.items
          ∙ map-append _ c.loop-p.all.items (c.first_rows.result ∷ [])
          ∙ ap₂ (λ (a : List (List (List Item))) (e : List (List Item)). a ++ e ∷ []) c.loop-p.invariant.own first
          ∙ sym (ap (map (λ (x : Seen). x.items)) (seens_take past c.requires.uncut p lt) ∙ ends);
    }
