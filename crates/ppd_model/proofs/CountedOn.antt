-- The numbers go up by one, each once, after one more synchronization.
use Rattle.std.proofs.Common.{◌≡◌, ℕ, zero, suc, ◌+◌, ◌<◌, ◌≤◌, List, [], ◌∷◌, ◌++◌, Some, refl, ap, ap₂, sym, subst, ◌∙◌, arith, length, get_or, inl, inr, ◌⊎◌}
use Rattle.std.specs.Prelude.{slice_get}
use Rattle.std.proofs.lemmas.Bool.{cases_lt, cases_eq}
use Rattle.std.proofs.lemmas.Option.{none-some}
use Rattle.ppd_ast.specs.declared.status.SyncKind.{SyncKind}
use Rattle.ppd_ast.specs.declared.status.SyncKind.TheVariants.{P, V, Send, Recv, Done}
use Rattle.ppd_model.specs.declared.graph.NodeId.{NodeId}
use Rattle.ppd_model.specs.Synchronizations.{Sync}
use Rattle.ppd_model.specs.HappenedBefore.{node, sync_at}
use Rattle.ppd_model.specs.Numbers.{Counting, IsCounted, sync}
use Rattle.ppd_model.proofs.Changes.{some}

-- process p did synchronization s, which took the next number
pub record IsCountedOn (count count' : Counting) (syncs syncs' : List (List Sync)) (p : ℕ) (s : Sync) : Type 0 where
  pub grows : get_or syncs' p [] ≡ get_or syncs p [] ++ s ∷ []
  pub others : (q : ℕ) → (q ≡ p → ⊥) → get_or syncs' q [] ≡ get_or syncs q []
  pub number : s.number ≡ count s.kind s.object + 1
  pub counted : count' s.kind s.object ≡ count s.kind s.object + 1
  pub unchanged : (kind : SyncKind) (object : ℕ) → (kind ≡ s.kind → object ≡ s.object → ⊥) → count' kind object ≡ count kind object

code : SyncKind → ℕ
code P = 0
code V = 1
code Send = 2
code Recv = 3
code Done = 4

decode : ℕ → SyncKind
decode zero = P
decode (suc zero) = V
decode (suc (suc zero)) = Send
decode (suc (suc (suc zero))) = Recv
decode (suc (suc (suc (suc n)))) = Done

decoded : (k : SyncKind) → k ≡ decode (code k)
unfolding code decode
decoded P = refl
decoded V = refl
decoded Send = refl
decoded Recv = refl
decoded Done = refl

cases_kind : (a b : SyncKind) → (a ≡ b) ⊎ (a ≡ b → ⊥)
cases_kind a b = elim (cases_eq (code a) (code b)) [
  | inl e ↦ inl (decoded a ∙ ap (λ n. decode n) e ∙ sym (decoded b))
  | inr d ↦ inr (λ e. d (ap (λ k. code k) e))
]

cases_key : (a b : SyncKind) (o o' : ℕ) → ((a ≡ b) × (o ≡ o')) ⊎ (a ≡ b → o ≡ o' → ⊥)
cases_key a b o o' = elim (cases_kind a b) [
  | inl e ↦ elim (cases_eq o o') [ inl f ↦ inl (e, f) | inr d ↦ inr (λ e' f. d f) ]
  | inr d ↦ inr (λ e f. d e)
]

pub kept_at : {A : Type 0} (xs ys : List A) (i : ℕ) (x : A) → slice_get xs i ≡ Some x → slice_get (xs ++ ys) i ≡ Some x
kept_at [] ys i x e = absurd (none-some x e)
kept_at (z ∷ xs) ys zero x e = e
kept_at (z ∷ xs) ys (suc i) x e = kept_at xs ys i x e

pub last_at : {A : Type 0} (xs : List A) (y : A) → slice_get (xs ++ y ∷ []) (length xs) ≡ Some y
last_at [] y = refl
last_at (x ∷ xs) y = last_at xs y

pub cases_at : {A : Type 0} (xs : List A) (y : A) (i : ℕ) (x : A) → slice_get (xs ++ y ∷ []) i ≡ Some x → (slice_get xs i ≡ Some x) ⊎ ((i ≡ length xs) × (y ≡ x))
cases_at [] y zero x e = inr (refl, some e)
cases_at [] y (suc i) x e = absurd (none-some x e)
cases_at (z ∷ xs) y zero x e = inl e
cases_at (z ∷ xs) y (suc i) x e = elim (cases_at xs y i x e) [ inl old ↦ inl old | inr new ↦ inr (ap (λ n. suc n) new.0, new.1) ]

module _ (first count count' : Counting) (syncs syncs' : List (List Sync)) (p : ℕ) (s : Sync) (c : IsCounted first count syncs) (n : IsCountedOn count count' syncs syncs' p s) where
  new_node : NodeId
  new_node = node p (length (get_or syncs p []))

  pub still_at : (a : NodeId) (x : Sync) → sync_at syncs a ≡ Some x → sync_at syncs' a ≡ Some x
  still_at a x e = elim (cases_eq a.process p) [
    | inl q ↦
        let there : slice_get (get_or syncs p []) a.sync ≡ Some x = subst (λ r. slice_get (get_or syncs r []) a.sync ≡ Some x) q e in
        let now : slice_get (get_or syncs' p []) a.sync ≡ Some x = subst (λ xs. slice_get xs a.sync ≡ Some x) (sym n.grows) (kept_at (get_or syncs p []) (s ∷ []) a.sync x there) in
        subst (λ r. slice_get (get_or syncs' r []) a.sync ≡ Some x) (sym q) now
    | inr d ↦ subst (λ xs. slice_get xs a.sync ≡ Some x) (sym (n.others a.process d)) e
  ]

  new_at : sync_at syncs' new_node ≡ Some s
  unfolding new_node
  new_at = subst (λ xs. slice_get xs (length (get_or syncs p [])) ≡ Some s) (sym n.grows) (last_at (get_or syncs p []) s)

  node_cases : (a : NodeId) (x : Sync) → sync_at syncs' a ≡ Some x → (sync_at syncs a ≡ Some x) ⊎ ((a ≡ new_node) × (s ≡ x))
  unfolding new_node
  node_cases a x e = elim (cases_eq a.process p) [
    | inl q ↦
        let now : slice_get (get_or syncs' p []) a.sync ≡ Some x = subst (λ r. slice_get (get_or syncs' r []) a.sync ≡ Some x) q e in
        elim (cases_at (get_or syncs p []) s a.sync x (subst (λ xs. slice_get xs a.sync ≡ Some x) n.grows now)) [
          | inl old ↦ inl (subst (λ r. slice_get (get_or syncs r []) a.sync ≡ Some x) (sym q) old)
          | inr new ↦ inr (ap₂ node q new.0, new.1)
        ]
    | inr d ↦ inl (subst (λ xs. slice_get xs a.sync ≡ Some x) (n.others a.process d) e)
  ]

  no_less : (kind : SyncKind) (object : ℕ) → count kind object ≤ count' kind object
  no_less kind object = elim (cases_key kind s.kind object s.object) [
    | inl e ↦ subst (λ k. count k object ≤ count' k object) (sym e.0) (subst (λ o. count s.kind o ≤ count' s.kind o) (sym e.1) (omega (arith, n.counted)))
    | inr d ↦ omega (arith, n.unchanged kind object d)
  ]

  numbers_of_new : (first s.kind s.object < s.number) × (s.number ≤ count' s.kind s.object)
  numbers_of_new = (omega (arith, n.number, c.begun s.kind s.object), omega (arith, n.number, n.counted))

  numbers_after : (a : NodeId) (x : Sync) → sync_at syncs' a ≡ Some x → (first x.kind x.object < x.number) × (x.number ≤ count' x.kind x.object)
  numbers_after a x e = elim (node_cases a x e) [
    | inl old ↦ ((c.numbers a x old).0, omega (arith, (c.numbers a x old).1, no_less x.kind x.object))
    | inr new ↦ subst (λ z. (first z.kind z.object < z.number) × (z.number ≤ count' z.kind z.object)) new.1 numbers_of_new
  ]

  -- an old synchronization has not the new one's number
  not_new : (b : NodeId) → sync_at syncs b ≡ Some s → ⊥
  not_new b e = omega (arith, (c.numbers b s e).1, n.number)

  once_after : (a b : NodeId) (x : Sync) → sync_at syncs' a ≡ Some x → sync_at syncs' b ≡ Some x → a ≡ b
  once_after a b x e f = elim (node_cases a x e) [
    | inl old ↦ elim (node_cases b x f) [
      | inl old' ↦ c.once a b x old old'
      | inr new' ↦ absurd (not_new a (subst (λ z. sync_at syncs a ≡ Some z) (sym new'.1) old))
    ]
    | inr new ↦ elim (node_cases b x f) [
      | inl old' ↦ absurd (not_new b (subst (λ z. sync_at syncs b ≡ Some z) (sym new.1) old'))
      | inr new' ↦ new.0 ∙ sym new'.0
    ]
  ]

  Found : SyncKind → ℕ → ℕ → Type 0
  Found kind object number = (a : NodeId) × (sync_at syncs' a ≡ Some (sync kind object number))

  found_old : (kind : SyncKind) (object number : ℕ) → first kind object < number → number ≤ count kind object → Found kind object number
  unfolding Found
  found_old kind object number h k =
      let old : (a : NodeId) × (sync_at syncs a ≡ Some (sync kind object number)) = c.found kind object number h k in
      (old.0, still_at old.0 (sync kind object number) old.1)

  found_new : (number : ℕ) → number ≡ count s.kind s.object + 1 → Found s.kind s.object number
  unfolding Found
  found_new number e = (new_node, new_at ∙ ap (λ k. Some (sync s.kind s.object k)) (n.number ∙ sym e))

  found_of_key : (number : ℕ) → first s.kind s.object < number → number ≤ count' s.kind s.object → Found s.kind s.object number
  found_of_key number h k = elim (cases_lt (count s.kind s.object) number) [
    | inl above ↦ found_new number (omega (arith, above, k, n.counted))
    | inr old ↦ found_old s.kind s.object number h old
  ]

  found_after : (kind : SyncKind) (object number : ℕ) → first kind object < number → number ≤ count' kind object → Found kind object number
  found_after kind object number h k = elim (cases_key kind s.kind object s.object) [
    | inl e ↦ of_key kind object e.0 e.1 number h k
    | inr d ↦ found_old kind object number h (omega (arith, k, n.unchanged kind object d))
  ]
    where
      of_key : (kind : SyncKind) (object : ℕ) → kind ≡ s.kind → object ≡ s.object → (number : ℕ) → first kind object < number → number ≤ count' kind object → Found kind object number
      of_key kind object e f =
          subst (λ z. (number : ℕ) → first z object < number → number ≤ count' z object → Found z object number) (sym e)
          (subst (λ o. (number : ℕ) → first s.kind o < number → number ≤ count' s.kind o → Found s.kind o number) (sym f) found_of_key)

  pub counted_after : IsCounted first count' syncs'
  unfolding Found
  counted_after = record {
    begun = λ kind object. omega (arith, c.begun kind object, no_less kind object);
    numbers = numbers_after;
    found = found_after;
    once = once_after;
  }
