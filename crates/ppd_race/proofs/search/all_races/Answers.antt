use Rattle.std.proofs.Common.{◌≡◌, ℕ, List, ◌+◌, ◌*◌, ◌≤◌, ◌∙◌, [], ◌++◌, ap, ap₂, arith, length}
use Rattle.std.specs.List.{flat_map, range_with_len, sum_by}
use Rattle.std.proofs.Math.Nat.{add-mul}
use Rattle.std.proofs.lemmas.List.{length-append}
use Rattle.std.proofs.lemmas.List.Sums.{sum_by-take-le, sum_by_more}
use Rattle.std.proofs.lemmas.Nat.{mul-le}
use Rattle.ppd_race.specs.Busy.{races_from}
use Rattle.ppd_race.specs.ByCell.{own_cost}
use Rattle.ppd_race_found.specs.Search.{row_cost}
use Rattle.ppd_race.proofs.Over.{from_zero}
use Rattle.ppd_race.proofs.search.all_races.Goals as goal

found_on : {A : Type 0} (f : ℕ → List A) (p : ℕ) (before part taken after : List A) → after ≡ before ++ taken → taken ≡ part → before ≡ flat_map f (range_with_len 0 p) → part ≡ f p → after ≡ flat_map f (range_with_len 0 (p + 1))
found_on f p before part taken after is same all one = is ∙ ap (λ xs. before ++ xs) same ∙ ap₂ (λ xs ys. xs ++ ys) all one ∙ from_zero f p

pub loop-p-preserved : goal.loop-p-preserved
loop-p-preserved g c =
    let rows = c.args.rows.now in
    let p = c.loop-p.p in
    let each = 2049 + sum_by row_cost rows in
    let more = sum_by_more own_cost rows p [] c.loop-p-test.true in
    let times : (p + 1) * each ≡ p * each + 1 * each = add-mul p 1 each in
    let long = ap length (c.in_ok-append.ensures.ok ∙ ap (λ xs. c.loop-p.races ++ xs) c.into_vec.ensures) ∙ length-append c.loop-p.races c.in_ok-part.part in
    record {
      found = λ rising.
          found_on (races_from c.args.graph.now rows) p c.loop-p.races c.in_ok-part.part c.into_vec.result.items c.append.new.self c.in_ok-append.ensures.ok c.into_vec.ensures (c.loop-p.invariant.found rising) (c.in_ok-part.ensures.races rising);
      least = omega (arith, long, c.tick.ensures, c.in_ok-part.ensures.least, c.loop-p.invariant.least);
      spent = omega (arith, more, times, long, c.tick.ensures, c.in_ok-part.ensures.cost, c.loop-p.invariant.spent);
    }

pub returns-clause-races : goal.returns-clause-races
returns-clause-races g c = λ rising. c.loop-p.invariant.found rising ∙ ap (λ n. flat_map (races_from c.args.graph.now c.args.rows.now) (range_with_len 0 n)) (omega (arith, c.loop-p-test.false, c.loop-p.auto.p-end))

pub returns-clause-cost : goal.returns-clause-cost
returns-clause-cost g c =
    let rows = c.args.rows.now in
    let each = 2049 + sum_by row_cost rows in
    let less = sum_by-take-le own_cost rows c.loop-p.p in
    let times : c.loop-p.p * each ≤ length rows * each = mul-le c.loop-p.p each (length rows) each (omega (arith, c.loop-p-test.false, c.loop-p.auto.p-end)) (omega arith) in
    omega (arith, less, times, c.loop-p.invariant.spent)

pub returns-clause-least : goal.returns-clause-least
returns-clause-least g c = omega (arith, c.loop-p-test.false, c.loop-p.invariant.least)
