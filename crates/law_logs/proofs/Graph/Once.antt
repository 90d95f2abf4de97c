-- Where each synchronization stands once and none is there from the start, no number is found twice; where each has
-- its object, none is found without.
use Rattle.std.proofs.Common.{◌≡◌, List, [], ◌∷◌, None, Some, true, false, refl, ap, sym, subst, ◌∙◌, map, true≢false}
use Rattle.std.specs.Prelude.{IsTrue, ⊤, if◌then◌else◌}
use Rattle.std.specs.List.{list_any}
use Rattle.std.proofs.lemmas.Bool.{or_from, or_left, or_parts, or_right}
use Rattle.ppd_ast.specs.declared.program.Program.{Program}
use Rattle.ppd_model.specs.Synchronizations.{Sync}
use Rattle.ppd_graph.specs.Refusals.{has_object, is_from_start, sync_placed, twice_after, without_object}
use Rattle.ppd_model.specs.SameSyncs.{same_sync}
use Rattle.ppd_model.proofs.SameSyncs.{same_is, same_self}
use Rattle.law_logs.proofs.Graph.Flat.{EachOnce, not_so, stands}

-- none of the second list stands in the first
abbrev AreNew : List Sync → List Sync → Type 0
AreNew seen [] = ⊤
AreNew seen (x ∷ xs) = (stands x seen ≡ false) × AreNew seen xs

none_seen : (xs : List Sync) → AreNew [] xs
none_seen [] = tt
none_seen (x ∷ xs) = (refl, none_seen xs)

not_same : (a b : Sync) → same_sync a b ≡ false → same_sync b a ≡ false
not_same a b h = not_so (same_sync b a) (λ t. true≢false (sym (subst (λ x. IsTrue (same_sync x b)) (same_is b a t) (same_self b)) ∙ h))

new_with : (x : Sync) (seen xs : List Sync) → stands x xs ≡ false → AreNew seen xs → AreNew (x ∷ seen) xs
new_with x seen [] h n = tt
new_with x seen (y ∷ ys) h n =
    let r = or_parts (same_sync x y) (stands x ys) h in
    (or_from (same_sync y x) (stands y seen) (not_same x y r.0) n.0, new_with x seen ys r.1 n.1)

none_after : (program : Program) (seen : List Sync) (xs : List _) → AreNew seen (map sync_placed xs) → EachOnce (map sync_placed xs)
    → ((s : Sync) → IsTrue (stands s (map sync_placed xs)) → is_from_start program s ≡ false) → twice_after program seen xs ≡ None
none_after program seen [] new once later = refl
none_after program seen (x ∷ xs) new once later =
    let s : Sync = sync_placed x in
    ap (λ b. if b then Some x.at else twice_after program (sync_placed x ∷ seen) xs)
    (or_from (list_any (same_sync s) seen) (is_from_start program s) new.0 (later s (or_left (same_sync s s) (stands s (map sync_placed xs)) (same_self s))))
    ∙ none_after program (s ∷ seen) xs (new_with s seen (map sync_placed xs) once.0 new.1) once.1 (λ t h. later t (or_right (same_sync t s) (stands t (map sync_placed xs)) h))

pub none_twice : (program : Program) (xs : List _) → EachOnce (map sync_placed xs) → ((s : Sync) → IsTrue (stands s (map sync_placed xs)) → is_from_start program s ≡ false) → twice_after program [] xs ≡ None
none_twice program xs once later = none_after program [] xs (none_seen (map sync_placed xs)) once later

pub none_without : (program : Program) (xs : List _) → ((s : Sync) → IsTrue (stands s (map sync_placed xs)) → has_object program s.kind s.object ≡ true) → without_object program xs ≡ None
none_without program [] there = refl
none_without program (x ∷ xs) there =
    let s : Sync = sync_placed x in
    ap (λ b. if b then without_object program xs else Some x.at) (there s (or_left (same_sync s s) (stands s (map sync_placed xs)) (same_self s)))
    ∙ none_without program xs (λ t h. there t (or_right (same_sync t s) (stands t (map sync_placed xs)) h))
