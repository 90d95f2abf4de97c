use Rattle.std.proofs.Common.{◌∙◌, List, ap, subst, sym, ℕ}
use Rattle.std.specs.Prelude.{nat_eq}
use Rattle.std.specs.List.Sorted.{IsNonDecreasing}
use Rattle.std.proofs.lemmas.List.Sorted.{IsNonDecreasingBy-from_sort, list_any-IsPermutation}
use Rattle.ppd_ast.specs.Members.{has}
use Rattle.ppd_flow_tables.proofs.listing.Listing.new.Goals as goal

pub invariant_of-result : goal.invariant_of-result
invariant_of-result c = record {
  rising = subst IsNonDecreasing (sym c.from_vec.ensures)
      (IsNonDecreasingBy-from_sort (λ x. x) c.sort_unstable.new.self.items c.sort_unstable.ensures.sorted);
}

pub returns : goal.returns
returns c = λ k.
    ap (λ (ks : List ℕ). has ks k) c.from_vec.ensures
    ∙ sym (list_any-IsPermutation (λ y. nat_eq y k) c.into_vec-keys.result.items c.sort_unstable.new.self.items
    c.sort_unstable.ensures.permutation)
    ∙ ap (λ (ks : List ℕ). has ks k) c.into_vec-keys.ensures
