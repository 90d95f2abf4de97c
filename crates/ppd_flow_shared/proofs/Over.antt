-- The walk over the items of an interval, the last of them first.
use Rattle.std.proofs.Common.{◌≡◌, ℕ, zero, suc, ◌+◌, List, [], ◌∷◌, ◌++◌, Some, refl, ap, ap₂, sym, ◌∙◌, arith, take}
use Rattle.std.specs.Prelude.{slice_get, get_or}
use Rattle.std.proofs.lemmas.List.{append-nil}
use Rattle.std.proofs.lemmas.Option.{none-some, same_Some}
use Rattle.ppd_model.specs.declared.flow.Item.{Item}
use Rattle.ppd_graph.specs.declared.walked.Walked.{Walked}
use Rattle.ppd_graph.specs.declared.walked.Walked.TheVariants.{Stopped, Passed, Found}
use Rattle.ppd_graph.specs.Looked.{Looked, known}
use Rattle.ppd_graph.specs.Seen.{Seen, place_of}
use Rattle.ppd_graph.specs.Walk.{back, back_from, back_over, backwards, inside, onward, or_rest, walk_out}
use Rattle.ppd_flow_shared.specs.Items.{before_inner, out_of}

-- with so many intervals in one another at most
abbrev pub over : Seen → (depth c k : ℕ) → List (ℕ × Item) → Looked ℕ Walked
over x depth c k ts = back_over (back depth x c) c k ts

-- ---- the first items, the last first

last_back : (xs : List Item) (n j : ℕ) (t : Item) (before : List (ℕ × Item)) → slice_get xs j ≡ Some t
    → backwards n (take (suc j) xs) before ≡ (n + j, t) ∷ backwards n (take j xs) before
last_back [] n j t before e = absurd (none-some t e)
last_back (x ∷ xs) n zero t before e =
    let is : x ≡ t = same_Some x t e in
    let at : n ≡ n + 0 = omega arith in
    ap₂ (λ i y. (i, y) ∷ before) at is
last_back (x ∷ xs) n (suc j) t before e =
    let at : (n + 1) + j ≡ n + suc j = omega arith in
    last_back xs (n + 1) j t ((n, x) ∷ before) e
    ∙ ap (λ i. (i, t) ∷ backwards (n + 1) (take j xs) ((n, x) ∷ before)) at

pub one_more : (items : List Item) (i : ℕ) (t : Item) → slice_get items i ≡ Some t
    → back_from (i + 1) items ≡ (i, t) ∷ back_from i items
one_more items i t e =
    let next : i + 1 ≡ suc i = omega arith in
    let at : 0 + i ≡ i = omega arith in
    ap (λ j. back_from j items) next ∙ last_back items 0 i t [] e ∙ ap (λ j. (j, t) ∷ back_from i items) at

-- ---- outward

abbrev looked : Walked → List ℕ → Looked ℕ Walked
looked w ks = record { found = w; replays = ks }

no_rest : (w : Walked) → or_rest w (known Passed) ≡ known w
no_rest Stopped = refl
no_rest Passed = refl
no_rest (Found k i v) = refl

onward_passed : (first : Looked ℕ Walked) → onward first (known Passed) ≡ first
onward_passed first =
    ap (λ (r : Looked ℕ Walked). looked r.found (first.replays ++ r.replays)) (no_rest first.found)
    ∙ ap (looked first.found) (append-nil first.replays)

module _ (x : Seen) (c : ℕ) where
  -- a walk from a place is one over the items before it and then one outward
  pub walk_parts : (k j : ℕ) (ms : List ℕ)
      → walk_out (inside x c) x c k j ms
      ≡ onward (back_over (inside x c) c k (back_from j (get_or x.items k []))) (out_of x c k ms)
  walk_parts k j [] = sym (onward_passed (back_over (inside x c) c k (back_from j (get_or x.items k []))))
  walk_parts k j (m ∷ ms) = refl

  -- outward from an interval: over the one round it, and then outward from that one
  pub out_parts : (k m : ℕ) (ms : List ℕ) → out_of x c k (m ∷ ms) ≡ onward (before_inner x c m k) (out_of x c m ms)
  out_parts k m ms =
      ap (λ (r : Looked ℕ Walked). looked r.found (m ∷ r.replays)) (walk_parts m (place_of k (get_or x.items m [])) ms)
