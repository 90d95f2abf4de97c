use Rattle.std.proofs.Common.{◌≡◌, ◌-◌, ◌∙◌, ◌∷◌, ap, sym, ℕ, ℤ, pos, List, drop, get_or, reverse, arith}
use Rattle.std.specs.Prelude.{zip}
use Rattle.std.proofs.lemmas.Int.{to_z-of_z}
use Rattle.ppd_emul_values.proofs.Held.{zip_before, zip_past}
use Rattle.ppd_emul_values.proofs.in_force.InForce.start.Goals as goal

pub loop-index-init : goal.loop-index-init
loop-index-init c =
    let all : c.min-count.result ≡ c.min-count.result - 0 = omega arith in
    ap (λ l. reverse l) c.clear.ensures ∙
    sym (zip_past c.args.cells.now c.args.values.now c.min-count.result c.min-count.ensures) ∙
    ap (λ n. drop n (zip c.args.cells.now c.args.values.now)) all

pub loop-index-preserved : goal.loop-index-preserved
loop-index-preserved c =
    let cells : List ℕ = c.args.cells.now in
    let values : List ℤ = c.args.values.now in
    let n : ℕ = c.min-count.result - 1 - c.loop-index.index in
    let pair : ℕ × ℤ = (get_or cells n 0, get_or values n (pos 0)) in
    let put : c.put.new.self ≡ pair ∷ c.loop-index.self = grind (arith, to_z-of_z) in
    put ∙ ap (λ l. pair ∷ l) c.loop-index.invariant ∙
    zip_before cells values c.min-count.result c.loop-index.index 0 (pos 0) c.min-count.ensures c.loop-index-test.true
