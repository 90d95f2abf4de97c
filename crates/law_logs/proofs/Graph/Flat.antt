-- All synchronizations of logs in one list, and where each of them stands.
use Rattle.std.proofs.Common.{◌≡◌, ℕ, zero, suc, ◌+◌, List, [], ◌∷◌, ◌++◌, Some, Bool, true, false, refl, ap, ap₂, sym, subst, ◌∙◌, map, get_or, filter_map, inl, inr, true≢false, ◌||◌, arith}
use Rattle.std.specs.Prelude.{IsTrue, slice_get, ⊤}
use Rattle.std.specs.List.{list_any}
use Rattle.std.proofs.lemmas.Bool.{or_cases, or_left, or_right}
use Rattle.std.proofs.lemmas.Option.{none-some}
use Rattle.ppd_model.specs.declared.entry.Entry.{Entry}
use Rattle.ppd_model.specs.declared.entry.Logs.{Logs}
use Rattle.ppd_model.specs.RecordedSets.{record_in, sync_in}
use Rattle.ppd_model.specs.Synchronizations.{Sync}
use Rattle.ppd_model.proofs.Changes.{some}
use Rattle.ppd_graph.specs.Refusals.{placed, placed_from, sync_placed}
use Rattle.ppd_graph.proofs.Vocabulary.{placed_lists}
use Rattle.ppd_model.specs.SameSyncs.{same_sync}
use Rattle.ppd_model.proofs.SameSyncs.{same_is, same_self}
use Rattle.ppd_graph.proofs.Once.{map_both, placed_syncs}

-- the synchronization is one of these
abbrev pub stands : Sync → List Sync → Bool
stands s xs = list_any (same_sync s) xs

-- those of all processes, one process after the other
abbrev pub all_rows : List (List Sync) → List Sync
all_rows [] = []
all_rows (row ∷ rows) = row ++ all_rows rows

-- each of them stands once
abbrev pub EachOnce : List Sync → Type 0
EachOnce [] = ⊤
EachOnce (x ∷ xs) = (stands x xs ≡ false) × EachOnce xs

pub not_so : (b : Bool) → (IsTrue b → ⊥) → b ≡ false
not_so true h = absurd (h refl)
not_so false h = refl

-- ---- the list of logs

lists_syncs : (p : ℕ) (lists : List (List Entry)) → map sync_placed (placed_lists p lists) ≡ all_rows (map (filter_map sync_in) lists)
lists_syncs p [] = refl
lists_syncs p (xs ∷ lists) = map_both sync_placed (placed_from p 0 0 xs) (placed_lists (p + 1) lists) ∙ ap₂ (λ a b. a ++ b) (placed_syncs p 0 0 xs) (lists_syncs (p + 1) lists)

pub flat : (logs : Logs) → map sync_placed (placed logs) ≡ all_rows (record_in logs)
flat logs = lists_syncs 0 logs.lists

-- ---- places

stands_left : (s : Sync) (xs ys : List Sync) → stands s (xs ++ ys) ≡ stands s xs || stands s ys
stands_left s [] ys = refl
stands_left s (x ∷ xs) ys = ap (λ b. same_sync s x || b) (stands_left s xs ys) ∙ assoc (same_sync s x) (stands s xs) (stands s ys)
  where
    assoc : (a b c : Bool) → (a || (b || c)) ≡ ((a || b) || c)
    assoc true b c = refl
    assoc false b c = refl

stands_at : (s : Sync) (xs : List Sync) (i : ℕ) → slice_get xs i ≡ Some s → IsTrue (stands s xs)
stands_at s [] i e = absurd (none-some s e)
stands_at s (x ∷ xs) zero e = or_left (same_sync s x) (stands s xs) (subst (λ y. IsTrue (same_sync s y)) (sym (some e)) (same_self s))
stands_at s (x ∷ xs) (suc i) e = or_right (same_sync s x) (stands s xs) (stands_at s xs i e)

pub stands_rows : (s : Sync) (rows : List (List Sync)) (p i : ℕ) → slice_get (get_or rows p []) i ≡ Some s → IsTrue (stands s (all_rows rows))
stands_rows s [] p i e = absurd (none-some s e)
stands_rows s (row ∷ rows) zero i e = stands_left s row (all_rows rows) ∙ or_left (stands s row) (stands s (all_rows rows)) (stands_at s row i e)
stands_rows s (row ∷ rows) (suc p) i e = stands_left s row (all_rows rows) ∙ or_right (stands s row) (stands s (all_rows rows)) (stands_rows s rows p i e)

found_at : (s : Sync) (xs : List Sync) → IsTrue (stands s xs) → (i : ℕ) × (slice_get xs i ≡ Some s)
found_at s [] h = absurd (true≢false (sym h))
found_at s (x ∷ xs) h = elim (or_cases (same_sync s x) (stands s xs) h) [
  | inl here ↦ (0, ap (λ y. Some y) (sym (same_is s x here)))
  | inr later ↦ let r = found_at s xs later in (suc r.0, r.1)
]

pub found_rows : (s : Sync) (rows : List (List Sync)) → IsTrue (stands s (all_rows rows)) → (p i : ℕ) × (slice_get (get_or rows p []) i ≡ Some s)
found_rows s [] h = absurd (true≢false (sym h))
found_rows s (row ∷ rows) h = elim (or_cases (stands s row) (stands s (all_rows rows)) (sym (stands_left s row (all_rows rows)) ∙ h)) [
  | inl here ↦ let r = found_at s row here in (0, r.0, r.1)
  | inr later ↦ let r = found_rows s rows later in (suc r.0, r.1, r.2)
]

-- ---- each once

once_append : (row rest : List Sync) → ((i j : ℕ) (s : Sync) → slice_get row i ≡ Some s → slice_get row j ≡ Some s → i ≡ j)
    → ((i : ℕ) (s : Sync) → slice_get row i ≡ Some s → IsTrue (stands s rest) → ⊥) → EachOnce rest → EachOnce (row ++ rest)
once_append [] rest one apart r = r
once_append (x ∷ xs) rest one apart r = (
  not_so (stands x (xs ++ rest)) (λ t. elim (or_cases (stands x xs) (stands x rest) (sym (stands_left x xs rest) ∙ t)) [
    | inl own ↦ let f = found_at x xs own in let e : 0 ≡ suc f.0 = one 0 (suc f.0) x refl f.1 in omega (arith, e)
    | inr other ↦ apart 0 x refl other
  ]),
  once_append xs rest (λ i j s e f. let q : suc i ≡ suc j = one (suc i) (suc j) s e f in omega (arith, q)) (λ i s e. apart (suc i) s e) r,
)

-- where each stands at one place of one process
pub once_rows : (rows : List (List Sync)) → ((p i q j : ℕ) (s : Sync) → slice_get (get_or rows p []) i ≡ Some s → slice_get (get_or rows q []) j ≡ Some s → (p ≡ q) × (i ≡ j)) → EachOnce (all_rows rows)
once_rows [] one = tt
once_rows (row ∷ rows) one =
    once_append row (all_rows rows) (λ i j s e f. (one 0 i 0 j s e f).1)
    (λ i s e t. let r = found_rows s rows t in let z : 0 ≡ suc r.0 = (one 0 i (suc r.0) r.1 s e r.2).0 in omega (arith, z))
    (once_rows rows (λ p i q j s e f. let r = one (suc p) i (suc q) j s e f in let z : suc p ≡ suc q = r.0 in (omega (arith, z), r.1)))
