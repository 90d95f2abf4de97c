-- Words of the proofs for where the intervals of a log stand, and what each entry makes of that.
use Rattle.ppd_model.proofs.EntryWords.{new_interval, with_end, with_piece, with_postlog}
use Rattle.ppd_model.specs.IntervalLogs.{Extent, Indexing, LoggedInterval, add_piece, begun_indexing, index_step, interval_at, left_interval, left_open}
use Rattle.ppd_model.specs.Pieces.{Piece, finish, nested, sync, unfinished, unit}
use Rattle.ppd_model.specs.declared.entry.Entry.{Entry}
use Rattle.ppd_model.specs.declared.entry.Entry.TheVariants as entry
use Rattle.ppd_model.specs.Extents.{extents}
use Rattle.ppd_model.specs.Intervals.{change_first}
use Rattle.ppd_model.specs.World.{change}
use Rattle.std.proofs.Common.{List, None, Option, Some, [], ap, ap₂, false, length, map, refl, suc, sym, true, zero, ℕ, ℤ, ◌++◌, ◌+◌, ◌∙◌, ◌∷◌, ◌≡◌}
use Rattle.std.proofs.lemmas.List.{length-map, map-append}
use Rattle.std.specs.Prelude.{drop, fold, slice_get}

-- interval k is left by this entry
abbrev pub left_by : ℕ → List ℕ → List Extent → List Extent
left_by j running xs = change_first (λ (x : Extent). record x { last = Some j; closed = true }) running xs

-- the process ended by this entry inside these intervals
abbrev pub ended_by : ℕ → List ℕ → List Extent → List Extent
ended_by j running xs = fold (λ ys k. change (λ (x : Extent). record x { last = Some j }) k ys) xs running

-- where the intervals so far stand, the numbers of those that run, and the number of the next entry
pub record Extending : Type 0 where
  pub intervals : List Extent
  pub running : List ℕ
  pub entry : ℕ

-- before the first entry
abbrev pub begun_extents : Extending
begun_extents = record { intervals = []; running = []; entry = 0 }

-- one more entry
abbrev pub extend : Extending → Entry → Extending
extend x e =
    let after : Extending = elim e [
      | entry.Prelog b values ↦ record x {
        intervals = x.intervals ++ (record {
          block = b;
          parent = slice_get x.running 0;
          prelog = x.entry;
          last = None;
          closed = false;
        }) ∷ [];
        running = length x.intervals ∷ x.running;
      }
      | entry.Unit u values ↦ x
      | entry.Sync kind object number value reads writes ↦ x
      | entry.Postlog b values ↦
          record x { intervals = left_by x.entry x.running x.intervals; running = drop 1 x.running }
      | entry.End status rest reads writes ↦ record x { intervals = ended_by x.entry x.running x.intervals }
    ] in
    record after { entry = x.entry + 1 }

-- the intervals of these entries
abbrev pub extents_by : List Entry → List Extent
extents_by entries = (fold extend begun_extents entries).intervals

-- ---- so it is by the intervals of the log

abbrev places : List LoggedInterval → List Extent
places xs = map (λ (i : LoggedInterval). i.extent) xs

abbrev pub extending_of : Indexing → Extending
extending_of x = record { intervals = places x.intervals; running = x.running; entry = x.entry }

changed_places : (f : LoggedInterval → LoggedInterval) (g : Extent → Extent) → ((i : LoggedInterval) → (f i).extent ≡ g i.extent) → (k : ℕ) (xs : List LoggedInterval) → places (change f k xs) ≡ change g k (places xs)
changed_places f g same k [] = refl
changed_places f g same zero (x ∷ xs) = ap (λ y. y ∷ places xs) (same x)
changed_places f g same (suc k) (x ∷ xs) = ap (λ ys. x.extent ∷ ys) (changed_places f g same k xs)

same_places : (n : ℕ) (p : Piece) (k : ℕ) (xs : List LoggedInterval) → places (change (with_piece n p) k xs) ≡ places xs
same_places n p k [] = refl
same_places n p zero (x ∷ xs) = refl
same_places n p (suc k) (x ∷ xs) = ap (λ ys. x.extent ∷ ys) (same_places n p k xs)

piece_places : (n : ℕ) (p : Piece) (ks : List ℕ) (xs : List LoggedInterval) → places (add_piece n p ks xs) ≡ places xs
piece_places n p [] xs = refl
piece_places n p (k ∷ ks) xs = same_places n p k xs

left_places : (n : ℕ) (values : List ℤ) (ks : List ℕ) (xs : List LoggedInterval) → places (left_interval n values ks xs) ≡ left_by n ks (places xs)
left_places n values [] xs = refl
left_places n values (k ∷ ks) xs =
    let i : LoggedInterval = interval_at xs k in
    piece_places i.extent.prelog (nested k i.extent.block values) ks (change (with_postlog n values) k xs)
    ∙ changed_places (with_postlog n values) (λ (x : Extent). record x { last = Some n; closed = true }) (λ j. refl) k xs

open_places : (n : ℕ) (ks : List ℕ) (xs : List LoggedInterval) → places (left_open n ks xs) ≡ ended_by n ks (places xs)
open_places n [] xs = refl
open_places n (k ∷ ks) xs =
    let i : LoggedInterval = interval_at xs k in
    open_places n ks (add_piece i.extent.prelog (unfinished k i.extent.block) ks (change (with_end n) k xs))
    ∙ ap (λ ys. ended_by n ks ys)
    (piece_places i.extent.prelog (unfinished k i.extent.block) ks (change (with_end n) k xs)
    ∙ changed_places (with_end n) (λ (x : Extent). record x { last = Some n }) (λ j. refl) k xs)

abbrev then_at : List Extent → List ℕ → ℕ → Extending
then_at xs running n = record { intervals = xs; running = running; entry = n + 1 }

extends : (x : Indexing) (e : Entry) → extending_of (index_step x e) ≡ extend (extending_of x) e
extends x (entry.Prelog b values) =
    ap₂ (λ xs n. then_at xs (n ∷ x.running) x.entry)
    (map-append (λ (i : LoggedInterval). i.extent) x.intervals (new_interval x b values ∷ []))
    (sym (length-map x.intervals (λ (i : LoggedInterval). i.extent)))
extends x (entry.Unit u values) = ap (λ xs. then_at xs x.running x.entry) (piece_places x.entry (unit u values) x.running x.intervals)
extends x (entry.Sync kind object number value reads writes) =
    ap (λ xs. then_at xs x.running x.entry) (piece_places x.entry (sync kind object number value) x.running x.intervals)
extends x (entry.Postlog b values) = ap (λ xs. then_at xs (drop 1 x.running) x.entry) (left_places x.entry values x.running x.intervals)
extends x (entry.End status rest reads writes) =
    ap (λ xs. then_at xs x.running x.entry)
    (open_places x.entry x.running (add_piece x.entry (finish status rest) x.running x.intervals)
    ∙ ap (λ xs. ended_by x.entry x.running xs) (piece_places x.entry (finish status rest) x.running x.intervals))

extended : (x : Indexing) (es : List Entry) → extending_of (fold index_step x es) ≡ fold extend (extending_of x) es
extended x [] = refl
extended x (e ∷ es) = extended (index_step x e) es ∙ ap (λ y. fold extend y es) (extends x e)

pub extents_are : (entries : List Entry) → extents entries ≡ extents_by entries
extents_are entries = ap (λ (x : Extending). x.intervals) (extended begun_indexing entries)

-- interval k, from either
pub extent_found : (entries : List Entry) (k : ℕ) (o : Option Extent) → slice_get (extents_by entries) k ≡ o → slice_get (extents entries) k ≡ o
extent_found entries k o e = ap (λ xs. slice_get xs k) (extents_are entries) ∙ e

pub extent_there : (entries : List Entry) (k : ℕ) (o : Option Extent) → slice_get (extents entries) k ≡ o → slice_get (extents_by entries) k ≡ o
extent_there entries k o e = ap (λ xs. slice_get xs k) (sym (extents_are entries)) ∙ e
