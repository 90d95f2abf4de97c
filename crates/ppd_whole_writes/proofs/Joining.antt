-- The events that stand in an interval, one level deep.
use Rattle.std.proofs.Common.{◌≡◌, ℕ, zero, suc, ◌-◌, List, refl, ap, sym, arith}
use Rattle.std.specs.Prelude.{get_or, []}
use Rattle.law_flow.specs.Joined.{events_of_items, joined}
use Rattle.ppd_graph.specs.Seen.{Seen}

pub joined_at : (n : ℕ) (x : Seen) (m : ℕ) → (n ≡ 0 → ⊥) → joined n x m ≡ events_of_items (joined (n - 1) x) (get_or x.items m [])
joined_at zero x m h = absurd (h refl)
joined_at (suc n) x m h =
    let e : suc n - 1 ≡ n = omega arith in
    sym (ap (λ k. events_of_items (joined k x) (get_or x.items m [])) e)
