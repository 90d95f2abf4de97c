-- The accesses of a process with one more step, and its place in the record.
use Rattle.std.specs.Prelude.{filter_map}
use Rattle.std.proofs.Common.{◌≡◌, ℕ, zero, suc, ◌+◌, List, [], ◌∷◌, ◌++◌, refl, ap, sym, ◌∙◌, arith, length, map, get_or}
use Rattle.std.proofs.lemmas.List.{append-nil, append_assoc}
use Rattle.ppd_model.specs.Story.{Taken}
use Rattle.ppd_model.specs.Synchronizations.{sync_of}
use Rattle.ppd_model.specs.Record.{SharedAccess, access_at, accesses_from, edge_after}
use Rattle.ppd_model.proofs.RaceFree.{edge_shift}

pub accesses-append : (e : ℕ) (xs : List Taken) (y : Taken) → accesses_from e (xs ++ y ∷ []) ≡ accesses_from e xs ++ access_at (e + length (filter_map sync_of xs)) y.need
accesses-append e [] y = append-nil (access_at e y.need) ∙ ap (λ (k : ℕ). access_at k y.need) (omega arith)
accesses-append e (x ∷ xs) y =
    ap (λ (as' : List SharedAccess). access_at e x.need ++ as')
    (accesses-append (edge_after e x) xs y ∙ ap (λ (k : ℕ). accesses_from (edge_after e x) xs ++ access_at k y.need) (sym (edge_shift (sync_of x) e (filter_map sync_of xs))))
    ∙ sym (append_assoc (access_at e x.need) (accesses_from (edge_after e x) xs) (access_at (e + length (filter_map sync_of (x ∷ xs))) y.need))

pub record_at : (steps : List (List Taken)) (p : ℕ) → get_or (map (filter_map sync_of) steps) p [] ≡ filter_map sync_of (get_or steps p [])
record_at [] p = refl
record_at (xs ∷ rest) zero = refl
record_at (xs ∷ rest) (suc p) = record_at rest p
