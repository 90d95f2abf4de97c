-- The steps of a search, added up.
use Rattle.std.proofs.Common.{◌≡◌, ℕ, ◌+◌, ◌*◌, ◌≤◌, List, [], ◌∷◌, ap, ◌∙◌, arith, length, replicate}
use Rattle.std.specs.List.{flat_map, sum_by}
use Rattle.std.proofs.Math.Nat.{add-mul, mul-add}
use Rattle.std.proofs.lemmas.List.Sums.{sum_by-cons}
use Rattle.std.proofs.lemmas.Nat.{mul-le}
use Rattle.ppd_model.specs.declared.graph.Race.{Race}
use Rattle.ppd_race_found.proofs.Rows.{length_replicated, no_items}
use Rattle.ppd_race_found.specs.SyncGraph.{SyncGraph}
use Rattle.ppd_race_found.specs.declared.busy.Busy.{Busy}
use Rattle.ppd_race.specs.ByCell.{listing_cost, own_cost}
use Rattle.ppd_race_found.specs.Lists.{total}
use Rattle.ppd_race.proofs.Over.{total_at_first, total_joined}
use Rattle.ppd_race_found.specs.Search.{edge_cost, row_cost}
use Rattle.ppd_race.specs.Spending.{search_cost, work_of}

listing_within : (own : List Busy) → sum_by listing_cost own + 2 * length own ≤ 3 * sum_by edge_cost own
listing_within [] = omega arith
listing_within (b ∷ own) =
    let rest = listing_within own in
    let one = sum_by-cons listing_cost b own in
    let two = sum_by-cons edge_cost b own in
    omega (arith, rest, one, two)

own_within : (rows : List (List Busy)) → sum_by own_cost rows ≤ 3 * sum_by row_cost rows
own_within [] = omega arith
own_within (row ∷ rows) =
    let rest = own_within rows in
    let here = listing_within row in
    let one = sum_by-cons own_cost row rows in
    let two = sum_by-cons row_cost row rows in
    omega (arith, rest, here, one, two)

pub process_spent : (old : ℕ) (own row : List Busy) (rows : List (List Busy)) (listed begun found now : ℕ) (first last : List (List Race)) (races : List Race) → own ≡ row → first ≡ replicate (length own) (no_items Race) → races ≡ flat_map (λ part. part) last
    → length last ≡ length first → listed ≤ old + 2048 + sum_by listing_cost own → begun ≤ listed + length own → found + total first ≤ begun + total last + sum_by row_cost rows → now ≤ found + length last
    → now ≤ old + 2048 + own_cost row + sum_by row_cost rows + length races
process_spent old own row rows listed begun found now first last races is none all long a b c d =
    let same = ap own_cost is in
    let zero = total_at_first (length own) first none in
    let sum = total_joined last races all in
    let count = ap length none ∙ length_replicated (length own) (no_items Race) in
    omega (arith, same, zero, sum, count, long, a, b, c, d)

pub process_least : (old n : ℕ) (listed begun found now : ℕ) (first last : List (List Race)) (races : List Race) → first ≡ replicate n (no_items Race) → races ≡ flat_map (λ part. part) last
    → old + 2048 ≤ listed → listed ≤ begun → begun + total last ≤ found + total first → found ≤ now → old + 2048 + length races ≤ now
process_least old n listed begun found now first last races none all a b c d =
    let zero = total_at_first n first none in
    let sum = total_joined last races all in
    omega (arith, zero, sum, a, b, c, d)

pub search_spent : (g : SyncGraph) (rows : List (List Busy)) (old before now found : ℕ) → length rows ≡ length g.edges → sum_by row_cost rows ≤ work_of g → before ≤ old + work_of g + length g.edges
    → now ≤ before + length rows * (2049 + sum_by row_cost rows) + sum_by own_cost rows + found → now ≤ old + search_cost g + found
search_spent g rows old before now found long size first second =
    let p = length g.edges in
    let w = work_of g in
    let own = own_within rows in
    let same : length rows * (2049 + sum_by row_cost rows) ≡ p * (2049 + sum_by row_cost rows) = ap (λ n. n * (2049 + sum_by row_cost rows)) long in
    let within : p * (2049 + sum_by row_cost rows) ≤ p * (2049 + w) = mul-le p (2049 + sum_by row_cost rows) p (2049 + w) (omega arith) (omega (arith, size)) in
    let left : p * (2049 + w) ≡ p * 2049 + p * w = mul-add p 2049 w in
    let right : (p + 4) * (w + 2052) ≡ p * (w + 2052) + 4 * (w + 2052) = add-mul p 4 (w + 2052) in
    let more : p * (w + 2052) ≡ p * w + p * 2052 = mul-add p w 2052 in
    omega (arith, own, same, within, left, right, more, first, second, size)
