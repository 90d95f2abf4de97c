-- What is left of the records in code, and the steps of the guided run.
use Rattle.std.specs.Option.{option_map_or}
use Rattle.std.proofs.Common.{◌≡◌, ◌==◌, ℕ, zero, suc, ◌+◌, ◌-◌, ◌<◌, ◌≤◌, Bool, true, false, List, [], ◌∷◌, ◌++◌, Option, Some, None, Result, Ok, Err, OnOk, refl, ap, sym, ◌∙◌, arith, length, map, drop, take, get_or, slice_set, if◌then◌else◌}
use Rattle.std.specs.List.{cons_option, range_with_len}
use Rattle.std.specs.Prelude.{filter_map, is_some, option_map, option_to_list, slice_get, find}
use Rattle.std.proofs.lemmas.Bool.{true≢false}
use Rattle.std.proofs.lemmas.Bool.Decides.{Decides-eqb}
use Rattle.std.proofs.lemmas.List.{drop_all, get_or-map, length-map, take_more}
use Rattle.std.proofs.lemmas.List.Elements.{filter_map-append}
use Rattle.ppd_model.specs.declared.entry.Entry.{Entry}
use Rattle.ppd_model.specs.RecordedSets.{sync_in}
use Rattle.std.proofs.lemmas.Option.{slice_get-map}
use Rattle.ppd_model.specs.Synchronizations.{Sync}
use Rattle.ppd_model.specs.World.{change}
use Rattle.ppd_rerun_guide.proofs.Taking.{drop_one, first_left}
use Rattle.ppd_rerun_guide.specs.declared.synced.Due.{Due}
use Rattle.ppd_rerun_guide.specs.declared.synced.Synced.{Synced}
use Rattle.ppd_rerun_guide.specs.Guides.{left_of, passed, plain, plain_if}

-- ---- lists

-- one element of a mapped list set
pub map_set : {A B : Type 0} (f : A → B) (g : B → B) (xs : List A) (p : ℕ) (d y : A) → p < length xs → f y ≡ g (f (get_or xs p d)) → map f (slice_set xs p y) ≡ change g p (map f xs)
map_set f g [] p d y lt e = absurd (omega arith)
map_set f g (x ∷ xs) zero d y lt e = ap (λ z. z ∷ map f xs) e
map_set f g (x ∷ xs) (suc p) d y lt e = ap (λ zs. f x ∷ zs) (map_set f g xs p d y (omega arith) e)

-- ---- one record

-- the next that is left
pub next_is : (d : Due) → option_map plain (slice_get d.syncs d.taken) ≡ slice_get (left_of d) 0
next_is d = sym (first_left d.taken (map plain d.syncs) ∙ slice_get-map plain d.syncs d.taken)

-- one taken off
pub one_passed : (d : Due) → drop (d.taken + 1) (map plain d.syncs) ≡ drop 1 (left_of d)
one_passed d = let e : d.taken + 1 ≡ suc d.taken = omega arith in ap (λ (n : ℕ). drop n (map plain d.syncs)) e ∙ sym (drop_one d.taken (map plain d.syncs))

-- where none is left
pub none_passed : (d : Due) → length d.syncs ≤ d.taken → left_of d ≡ drop 1 (left_of d)
none_passed d h =
    let none : left_of d ≡ [] = drop_all d.taken (map plain d.syncs) (let l : length (map plain d.syncs) ≡ length d.syncs = length-map d.syncs plain in omega arith) in
    none ∙ ap (λ (xs : List Sync). drop 1 xs) (sym none)

-- ---- the records of all

abbrev next_of : Option Due → Option Sync
next_of None = None
next_of (Some d) = slice_get (left_of d) 0

pub next_at : (dues : List Due) (p : ℕ) → slice_get (get_or (map left_of dues) p []) 0 ≡ next_of (slice_get dues p)
next_at [] p = refl
next_at (d ∷ ds) zero = refl
next_at (d ∷ ds) (suc p) = next_at ds p

-- what is left after a step that is or is no synchronization
pub passed_is : (o : Option Sync) (p : ℕ) (left : List (List Sync)) → passed (is_some o) p left ≡ option_map_or (λ taken. change (drop 1) p left) o left
passed_is None p left = refl
passed_is (Some s) p left = refl

pub some_plain : (o : Option Synced) → is_some (plain_if o) ≡ is_some o
some_plain None = refl
some_plain (Some x) = refl

pub empty_from : {A : Type 0} (xs : List A) → (length xs == 0) ≡ true → xs ≡ []
empty_from [] e = refl
empty_from (x ∷ xs) e = let none : length (x ∷ xs) ≡ 0 = (Decides-eqb (length (x ∷ xs)) 0).0 e in absurd (omega arith)

pub not_empty : {A : Type 0} (xs : List A) → (length xs == 0) ≡ false → xs ≡ [] → ⊥
not_empty xs e f = true≢false (sym (ap (λ ys. length ys == 0) f) ∙ e)

pub left_at : (dues : List Due) (i : ℕ) (d : Due) → i < length dues → d ≡ get_or dues i d → get_or (map left_of dues) i [] ≡ left_of d
left_at dues i d lt e = get_or-map left_of dues i d [] lt ∙ ap left_of (sym e)

-- ---- the lowest

pub first_here : (test : ℕ → Bool) (p n : ℕ) → p < n → test p ≡ true → find test (range_with_len p (n - p)) ≡ Some p
first_here test p n lt e =
    let more : n - p ≡ suc (n - (p + 1)) = omega arith in
    ap (λ (k : ℕ). find test (range_with_len p k)) more ∙ ap (λ (b : Bool). if b then Some p else find test (range_with_len (p + 1) (n - (p + 1)))) e

pub first_on : (test : ℕ → Bool) (p n : ℕ) → p < n → test p ≡ false → find test (range_with_len p (n - p)) ≡ find test (range_with_len (p + 1) (n - (p + 1)))
first_on test p n lt e =
    let more : n - p ≡ suc (n - (p + 1)) = omega arith in
    ap (λ (k : ℕ). find test (range_with_len p k)) more ∙ ap (λ (b : Bool). if b then Some p else find test (range_with_len (p + 1) (n - (p + 1)))) e

-- ---- lists that go on

pub filter_more : (entries : List Entry) (i : ℕ) (e : Entry) (xs ys : List Sync) → i < length entries → e ≡ get_or entries i e
    → ys ≡ xs ++ option_to_list (sync_in e) → xs ≡ filter_map sync_in (take i entries) → ys ≡ filter_map sync_in (take (i + 1) entries)
filter_more entries i e xs ys lt is f g =
    f ∙ ap (λ (zs : List Sync). zs ++ option_to_list (sync_in e)) g ∙ ap (λ (zs : List Sync). filter_map sync_in (take i entries) ++ zs) (one (sync_in e))
    ∙ sym (filter_map-append sync_in (take i entries) (e ∷ []))
    ∙ ap (filter_map sync_in) (sym (take_more entries i e lt ∙ ap (λ (x : Entry). take i entries ++ x ∷ []) (sym is)))
  where
    one : (o : Option Sync) → option_to_list o ≡ cons_option o []
    one None = refl
    one (Some s) = refl

-- what holds where a step came out well
pub ok_then : {E : Type 0} (r : Result (Unit {0}) E) {P Q : Type 0} → (P → Q) → OnOk r P → OnOk r Q
ok_then (Ok u) f p = f p
ok_then (Err e) f p = tt
