-- What is found, process by process.
use Rattle.std.proofs.Common.{◌≡◌, ℕ, zero, suc, ◌+◌, ◌-◌, ◌<◌, ◌≤◌, List, [], ◌++◌, refl, ap, sym, subst, ◌∙◌, arith, length, get_or, replicate}
use Rattle.std.specs.List.{flat_map, range_with_len}
use Rattle.std.proofs.lemmas.List.Concat.{length-flat_map}
use Rattle.std.proofs.lemmas.List.Sums.{sum_by-cons}
use Rattle.std.proofs.lemmas.List.{append_assoc, append-nil}
use Rattle.ppd_race_found.specs.SyncGraph.{SyncGraph}
use Rattle.ppd_race_found.proofs.Rows.{no_items}
use Rattle.ppd_race_found.specs.declared.busy.Busy.{Busy}
use Rattle.ppd_race_found.specs.declared.by_cell.ByCell.{ByCell}
use Rattle.ppd_race.specs.Busy.{AreBusyRows}
use Rattle.ppd_race_found.specs.Search.{AreElsewhere, AreOfCells, IsWhole}
use Rattle.ppd_race.specs.ByCell.{IsByCell}
use Rattle.ppd_race_found.specs.Lists.{GrowsBy, total}
use Rattle.ppd_race.proofs.BusyRows.{each_at}
use Rattle.ppd_race_found.proofs.Grown.{grown_as, grown_then}

pub is_whole : (own : List Busy) (t : ByCell) → IsByCell own t → IsWhole t
is_whole own t lists = record { readers = lists.long_readers; writers = lists.long_writers }

-- ---- process by process

flat_range : {A : Type 0} (f : ℕ → List A) (a n : ℕ) → flat_map f (range_with_len a (suc n)) ≡ flat_map f (range_with_len a n) ++ f (a + n)
flat_range f a zero = let e : a ≡ a + zero = omega arith in append-nil (f a) ∙ ap f e
flat_range f a (suc n) =
    let e : (a + 1) + n ≡ a + suc n = omega arith in
    ap (λ r. f a ++ r) (flat_range f (a + 1) n ∙ ap (λ k. flat_map f (range_with_len (a + 1) n) ++ f k) e) ∙ sym (append_assoc (f a) (flat_map f (range_with_len (a + 1) n)) (f (a + suc n)))

pub none_yet : {A : Type 0} (f : ℕ → List A) (a : ℕ) → flat_map f (range_with_len a (a - a)) ≡ []
none_yet f a = ap (λ n. flat_map f (range_with_len a n)) (let e : a - a ≡ 0 = omega arith in e)

-- one more of the numbers from a on
pub range_on : {A : Type 0} (f : ℕ → List A) (a q : ℕ) → a ≤ q → flat_map f (range_with_len a (q - a)) ++ f q ≡ flat_map f (range_with_len a ((q + 1) - a))
range_on f a q le =
    let more : (q + 1) - a ≡ suc (q - a) = omega (arith, le) in
    let last : a + (q - a) ≡ q = omega (arith, le) in
    ap (λ k. flat_map f (range_with_len a (q - a)) ++ f k) (sym last) ∙ sym (flat_range f a (q - a)) ∙ ap (λ k. flat_map f (range_with_len a k)) (sym more)

pub grown_range : {A : Type 0} (f : ℕ → ℕ → List A) (a q : ℕ) (old now new : List (List A)) → a ≤ q → GrowsBy (λ m. flat_map (λ r. f r m) (range_with_len a (q - a))) old now → GrowsBy (f q) now new
    → GrowsBy (λ m. flat_map (λ r. f r m) (range_with_len a ((q + 1) - a))) old new
grown_range f a q old now new le h k =
    grown_as (λ m. flat_map (λ r. f r m) (range_with_len a (q - a)) ++ f q m) (λ m. flat_map (λ r. f r m) (range_with_len a ((q + 1) - a))) old new (λ m. range_on (λ r. f r m) a q le)
    (grown_then (λ m. flat_map (λ r. f r m) (range_with_len a (q - a))) (f q) old now new h k)

module _ (g : SyncGraph) (rows : List (List Busy)) (are : AreBusyRows g.edges rows) where
  pub row_cells : (q : ℕ) (row : List Busy) → q < length rows → row ≡ get_or rows q [] → AreOfCells row
  row_cells q row lt is = subst AreOfCells (sym is) (λ k d there.
      let x = each_at q (get_or g.edges q []) (get_or rows q []) (are.row q lt).each k d there in
      record { rises = x.busy.rises; below = x.busy.below; all = x.busy.all })

  pub row_elsewhere : (p q : ℕ) (row : List Busy) → p < q → q < length rows → row ≡ get_or rows q [] → AreElsewhere g p row
  row_elsewhere p q row less lt is = subst (AreElsewhere g p) (sym is) (λ k d there.
      let x = each_at q (get_or g.edges q []) (get_or rows q []) (are.row q lt).each k d there in
      let at = x.process in
      let many = are.processes in
      record { other = λ e. absurd (omega (arith, e, at, less)); there = omega (arith, at, lt, many) })

pub from_zero : {A : Type 0} (f : ℕ → List A) (p : ℕ) → flat_map f (range_with_len 0 p) ++ f p ≡ flat_map f (range_with_len 0 (p + 1))
from_zero f p =
    let more : p + 1 ≡ suc p = omega arith in
    let last : 0 + p ≡ p = omega arith in
    ap (λ k. flat_map f (range_with_len 0 p) ++ f k) (sym last) ∙ sym (flat_range f 0 p) ∙ ap (λ k. flat_map f (range_with_len 0 k)) (sym more)

-- ---- what it costs

total_none : (A : Type 0) (n : ℕ) → total (replicate n (no_items A)) ≡ 0
total_none A zero = refl
total_none A (suc n) =
    let rest = total_none A n in
    let one = sum_by-cons length (no_items A) (replicate n (no_items A)) in
    omega (arith, rest, one)

pub total_at_first : {A : Type 0} (n : ℕ) (lists : List (List A)) → lists ≡ replicate n (no_items A) → total lists ≡ 0
total_at_first {A = A} n lists e = ap total e ∙ total_none A n

pub total_joined : {A : Type 0} (lists : List (List A)) (all : List A) → all ≡ flat_map (λ part. part) lists → total lists ≡ length all
total_joined lists all e = sym (ap length e ∙ length-flat_map (λ part. part) lists)
