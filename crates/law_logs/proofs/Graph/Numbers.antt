-- The numbers of one kind and object among synchronizations: which are there, and the greatest of them.
use Rattle.std.proofs.Common.{◌≡◌, ℕ, zero, suc, ◌+◌, ◌-◌, ◌<◌, ◌≤◌, max, List, [], ◌∷◌, Option, Some, None, Bool, true, false, not, find, cond, refl, ap, sym, subst, ◌∙◌, arith, inl, inr, true≢false, eq-eqb, eqb-true, ◌&&◌}
use Rattle.std.specs.Prelude.{IsTrue, nat_eq, if◌then◌else◌}
use Rattle.std.specs.List.{cons_option, range_with_len}
use Rattle.std.proofs.lemmas.Bool.{and_from, and_parts, or_cases, or_left, or_right}
use Rattle.ppd_model.specs.Entries.{same_kind}
use Rattle.ppd_ast.specs.declared.status.SyncKind.{SyncKind}
use Rattle.ppd_ast.specs.Members.{has}
use Rattle.ppd_model.specs.Numbers.{sync}
use Rattle.ppd_model.specs.Synchronizations.{Sync}
use Rattle.ppd_graph.specs.Refusals.{absent, numbers_of}
use Rattle.ppd_graph.proofs.Vocabulary.{greatest, number_in}
use Rattle.ppd_model.specs.SameSyncs.{same_sync}
use Rattle.ppd_model.proofs.SameSyncs.{same_is, same_kind_is, same_kind_self, same_self}
use Rattle.law_logs.proofs.Graph.Flat.{stands}

-- ---- a row of numbers that are all there

none_found : (test : ℕ → Bool) (k a : ℕ) → ((n : ℕ) → a ≤ n → n < a + k → test n ≡ true) → find (λ n. not (test n)) (range_with_len a k) ≡ None
none_found test zero a h = refl
none_found test (suc k) a h =
    ap (λ b. cond (not b) (Some a) (find (λ n. not (test n)) (range_with_len (a + 1) k))) (h a (omega arith) (omega arith))
    ∙ none_found test k (a + 1) (λ n le lt. h n (omega (arith, le)) (omega (arith, lt)))

pub none_absent : (first last : ℕ) (there : ℕ → Bool) → ((n : ℕ) → first < n → n ≤ last → there n ≡ true) → absent first last there ≡ None
none_absent first last there h = none_found there (last - first) (first + 1) (λ n le lt. h n (omega (arith, le)) (omega (arith, lt)))

-- ---- those of one kind and object

module _ (kind : SyncKind) (o : ℕ) where
  has_more : (a : Option ℕ) (ns : List ℕ) (n : ℕ) → IsTrue (has ns n) → IsTrue (has (cons_option a ns) n)
  has_more None ns n h = h
  has_more (Some m) ns n h = or_right (nat_eq m n) (has ns n) h

  number_here : (n : ℕ) → number_in kind o (sync kind o n) ≡ Some n
  number_here n = ap (λ b. if b then Some n else None) (and_from (same_kind kind kind) (nat_eq o o) (same_kind_self kind) (eq-eqb o o refl))

  pub number_stands : (n : ℕ) (xs : List Sync) → IsTrue (stands (sync kind o n) xs) → IsTrue (has (numbers_of kind o xs) n)
  number_stands n [] h = absurd (true≢false (sym h))
  number_stands n (x ∷ xs) h = elim (or_cases (same_sync (sync kind o n) x) (stands (sync kind o n) xs) h) [
    | inl here ↦
        let is : number_in kind o x ≡ Some n = ap (number_in kind o) (sym (same_is (sync kind o n) x here)) ∙ number_here n in
        subst (λ a. IsTrue (has (cons_option a (numbers_of kind o xs)) n)) (sym is) (or_left (nat_eq n n) (has (numbers_of kind o xs) n) (eq-eqb n n refl))
    | inr later ↦ has_more (number_in kind o x) (numbers_of kind o xs) n (number_stands n xs later)
  ]

  -- the greatest is no greater than what none of them exceeds
  pub greatest_within : (most least : ℕ) (xs : List Sync) → least ≤ most → ((n : ℕ) → IsTrue (stands (sync kind o n) xs) → n ≤ most) → greatest least (numbers_of kind o xs) ≤ most
  greatest_within most least [] le h = le
  greatest_within most least (x ∷ xs) le h = by (same_kind x.kind kind && nat_eq x.object o) refl (λ n k. greatest_within most n xs k rest)
    where
      rest : (n : ℕ) → IsTrue (stands (sync kind o n) xs) → n ≤ most
      rest n t = h n (or_right (same_sync (sync kind o n) x) (stands (sync kind o n) xs) t)

      by : (b : Bool) → (same_kind x.kind kind && nat_eq x.object o) ≡ b → ((n : ℕ) → n ≤ most → greatest n (numbers_of kind o xs) ≤ most)
          → greatest least (cons_option (if b then Some x.number else None) (numbers_of kind o xs)) ≤ most
      by false e later = later least le
      by true e later =
          let p = and_parts (same_kind x.kind kind) (nat_eq x.object o) e in
          let same : sync kind o x.number ≡ x =
          ap (λ k. sync k o x.number) (sym (same_kind_is x.kind kind p.0)) ∙ ap (λ i. sync x.kind i x.number) (sym (eqb-true x.object o p.1)) in
          let here : x.number ≤ most = h x.number (or_left (same_sync (sync kind o x.number) x) (stands (sync kind o x.number) xs) (subst (λ y. IsTrue (same_sync y x)) (sym same) (same_self x))) in
          later (max least x.number) (omega (arith, le, here))

pub greatest_least : (least : ℕ) (ns : List ℕ) → least ≤ greatest least ns
greatest_least least [] = omega arith
greatest_least least (n ∷ ns) = let r = greatest_least (max least n) ns in omega (arith, r)

-- and no less than each of them
pub greatest_has : (least n : ℕ) (ns : List ℕ) → IsTrue (has ns n) → n ≤ greatest least ns
greatest_has least n [] h = absurd (true≢false (sym h))
greatest_has least n (m ∷ ns) h = elim (or_cases (nat_eq m n) (has ns n) h) [
  | inl here ↦ let e : m ≡ n = eqb-true m n here in let r = greatest_least (max least m) ns in omega (arith, e, r)
  | inr later ↦ greatest_has (max least m) n ns later
]
