-- Items that a walk passes, where no table says so.
use Rattle.std.proofs.Common.{◌≡◌, ℕ, zero, suc, ◌≤◌, ◌⊎◌, inl, inr, List, [], ap, ◌∙◌, sym, arith, length, take}
use Rattle.std.proofs.lemmas.List.{take_all}
use Rattle.std.specs.Prelude.{min}
use Rattle.ppd_graph.specs.Walk.{back_over, backwards}
use Rattle.ppd_flow_tables.specs.Stops.{ArePassed}
use Rattle.ppd_model.specs.declared.flow.Item.{Item}

-- the same items come before both places
same_items : (c : ℕ) (items : List Item) (i j : ℕ) → i ≤ length items → i ≤ j → take j items ≡ take i items
    → ArePassed c items i j
same_items c items i j within before e = record {
  within = within;
  before = before;
  walked = λ inner k. ap (λ (ts : List Item). back_over inner c k (backwards 0 ts [])) e;
}

-- no items are passed but those that are not there
pub none_passed : (c : ℕ) (items : List Item) (i j : ℕ) → i ≡ min j (length items) → ArePassed c items i j
none_passed c items i j e = elim (split j (length items)) [
  | inl le ↦
      let is : i ≡ j = omega (arith, e, le) in
      same_items c items i j (omega (arith, is, le)) (omega (arith, is)) (ap (λ n. take n items) (sym is))
  | inr le ↦
      let is : i ≡ length items = omega (arith, e, le) in
      same_items c items i j (omega (arith, is)) (omega (arith, is, le))
      (take_all j items le ∙ sym (take_all i items (omega (arith, is))))
]
  where
    split : (a b : ℕ) → (a ≤ b) ⊎ (b ≤ a)
    split zero b = inl (omega arith)
    split (suc a) zero = inr (omega arith)
    split (suc a) (suc b) = elim (split a b) [ inl x ↦ inl (omega (arith, x)) | inr x ↦ inr (omega (arith, x)) ]
