-- Counts of synchronizations in parts of a log.
use Rattle.std.proofs.Common.{◌≡◌, ℕ, ◌+◌, ◌-◌, ◌≤◌, List, ◌∷◌, Option, cond, refl, ap, sym, ◌∙◌, arith, drop, length, length-append, take}
use Rattle.std.specs.Prelude.{count_by, filter_map}
use Rattle.std.proofs.lemmas.List.{take-append-drop, take-take}
use Rattle.std.proofs.lemmas.List.Elements.{filter_map-append}
use Rattle.std.proofs.lemmas.List.Recursion.{is_count_by}
use Rattle.ppd_model.specs.declared.entry.Entry.{Entry}
use Rattle.ppd_model.specs.declared.entry.Entry.TheVariants as entry
use Rattle.ppd_model.specs.RecordedSets.{sync_in}
use Rattle.ppd_graph.proofs.FlowWords.{is_sync}

abbrev found : {A B : Type 0} → (A → Option B) → List A → ℕ
found f xs = length (filter_map f xs)

one_more : (e : Entry) (es : List Entry)
    → found sync_in (e ∷ es) ≡ cond (is_sync e) (1 + found sync_in es) (found sync_in es)
one_more (entry.Prelog b values) es = refl
one_more (entry.Unit u values) es = refl
one_more (entry.Sync kind object number value reads writes) es = omega arith
one_more (entry.Postlog b values) es = refl
one_more (entry.End status rest reads writes) es = refl

pub count_is : (es : List Entry) → count_by is_sync es ≡ length (filter_map sync_in es)
count_is es = sym (is_count_by (λ xs. found sync_in xs) is_sync refl one_more es)

parts : {A B : Type 0} (f : A → Option B) (xs : List A) (a b : ℕ) → a ≤ b
    → found f (take b xs) ≡ found f (take a xs) + found f (drop a (take b xs))
parts f xs a b le =
    ap (found f) (sym (take-append-drop a (take b xs)))
    ∙ ap length (filter_map-append f (take a (take b xs)) (drop a (take b xs)))
    ∙ length-append (filter_map f (take a (take b xs))) (filter_map f (drop a (take b xs)))
    ∙ ap (λ ys. found f ys + found f (drop a (take b xs))) (take-take a b xs le)

pub found_between : {A B : Type 0} (f : A → Option B) (xs : List A) (a b : ℕ) → a ≤ b
    → length (filter_map f (drop a (take b xs)))
    ≡ length (filter_map f (take b xs)) - length (filter_map f (take a xs))
found_between f xs a b le = let both = parts f xs a b le in omega (arith, both)

pub found_fewer : {A B : Type 0} (f : A → Option B) (xs : List A) (a b : ℕ) → a ≤ b
    → length (filter_map f (take a xs)) ≤ length (filter_map f (take b xs))
found_fewer f xs a b le = let both = parts f xs a b le in omega (arith, both)
