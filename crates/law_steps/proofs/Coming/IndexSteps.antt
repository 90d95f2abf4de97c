-- What each entry makes of the index, as it matters to one interval.
use Rattle.ppd_model.specs.Changed.{change}
use Rattle.std.proofs.Common.{◌≡◌, ℕ, zero, suc, ◌+◌, ◌<◌, ◌≤◌, List, [], ◌∷◌, ◌++◌, length, Some, None, refl, ◌∙◌, subst, arith}
use Rattle.std.proofs.lemmas.List.{length-append}
use Rattle.std.proofs.lemmas.Option.{none-some}
use Rattle.std.specs.Prelude.{slice_get, ℤ}
use Rattle.ppd_model.specs.IntervalLogs.{LoggedInterval, add_piece, interval_at, left_open}
use Rattle.ppd_model.proofs.EntryWords.{with_end, with_piece, with_postlog}
use Rattle.ppd_model.specs.Pieces.{Piece, nested, unfinished}
use Rattle.law_steps.specs.Coming.Pieces.{Inner}
use Rattle.law_steps.proofs.Coming.Indexes.{At, Grows, IsInside, Past, Rests, change_inner, change_own, change_past, changed_length, falls_on, falls_rest, more, piece_inner, piece_own, piece_past, put_block, put_last, put_last_block, put_there, runs_alike, same, same_end}
use Rattle.ppd_model.proofs.Extents.{Fall}

pub piece_length : (n : ℕ) (p : Piece) (ks : List ℕ) (xs : List LoggedInterval) → length (add_piece n p ks xs) ≡ length xs
piece_length n p [] xs = refl
piece_length n p (k ∷ ks) xs = changed_length (with_piece n p) k xs

pub open_length : (n : ℕ) (ks : List ℕ) (xs : List LoggedInterval) → length (left_open n ks xs) ≡ length xs
open_length n [] xs = refl
open_length n (k ∷ ks) xs =
    let i = interval_at xs k in
    open_length n ks (add_piece i.extent.prelog (unfinished k i.extent.block) ks (change (with_end n) k xs))
    ∙ piece_length i.extent.prelog (unfinished k i.extent.block) ks (change (with_end n) k xs)
    ∙ changed_length (with_end n) k xs

-- ---- a prelog

put_falls : (xs : List LoggedInterval) (ks : List ℕ) (y : LoggedInterval) → Fall (length xs) ks
    → Fall (length (xs ++ y ∷ [])) (length xs ∷ ks)
put_falls xs ks y f = (
  let e : length (xs ++ y ∷ []) ≡ length xs + 1 = length-append xs
      (y ∷ []) in let z : length xs < length (xs ++ y ∷ []) = omega (arith, e) in z,
  f,
)

pub put_own : (xs : List LoggedInterval) (ks : List ℕ) (y : LoggedInterval) (k : ℕ) (i : LoggedInterval) → At xs ks None k i
    → At (xs ++ y ∷ []) (length xs ∷ ks) (Some (record { level = 0; interval = length xs; block = y.extent.block })) k i
put_own xs ks y k i a = record {
  falls = put_falls xs ks y a.falls;
  runs = (refl, put_last_block xs y, a.runs);
  there = put_there xs y k i a.there;
}

pub put_inner : (xs : List LoggedInterval) (ks : List ℕ) (y : LoggedInterval) (m : Inner) (k : ℕ) (i : LoggedInterval)
    → At xs ks (Some m) k i → At (xs ++ y ∷ []) (length xs ∷ ks) (Some (record m { level = m.level + 1 })) k i
put_inner xs ks y m k i a = record {
  falls = put_falls xs ks y a.falls;
  runs = let e : suc m.level ≡ m.level + 1 = omega arith in
      subst (λ l. IsInside (xs ++ y ∷ []) (length xs ∷ ks) l m.interval m.block k) e
      (runs_alike xs (xs ++ y ∷ []) (length xs) ks (Some m) k a.falls (λ j h. put_block xs y j h) a.runs);
  there = put_there xs y k i a.there;
}

pub put_new : (xs : List LoggedInterval) (ks : List ℕ) (y : LoggedInterval) → Fall (length xs) ks
    → At (xs ++ y ∷ []) (length xs ∷ ks) None (length xs) y
put_new xs ks y f = record { falls = put_falls xs ks y f; runs = refl; there = put_last xs y }

pub there_below : (xs : List LoggedInterval) (k : ℕ) (i : LoggedInterval) → slice_get xs k ≡ Some i → k < length xs
there_below [] k i e = absurd (none-some i e)
there_below (x ∷ xs) zero i e = omega arith
there_below (x ∷ xs) (suc k) i e = let z : k < length xs = there_below xs k i e in omega (arith, z)

pub put_past : (xs : List LoggedInterval) (ks : List ℕ) (y : LoggedInterval) (k : ℕ) (i : LoggedInterval) → Past xs ks k i
    → Past (xs ++ y ∷ []) (length xs ∷ ks) k i
put_past xs ks y k i a = record {
  falls = put_falls xs ks y a.falls;
  rests = (λ e. let z : k < length xs = there_below xs k i a.there in omega (arith, z, e), a.rests);
  there = put_there xs y k i a.there;
}

-- ---- a postlog

abbrev pub popped : ℕ → List ℤ → ℕ → List ℕ → List LoggedInterval → List LoggedInterval
popped n values j ks xs =
    add_piece (interval_at xs j).extent.prelog (nested j (interval_at xs j).extent.block values) ks
    (change (with_postlog n values) j xs)

down : (xs : List LoggedInterval) (j : ℕ) (ks : List ℕ) → Fall (length xs) (j ∷ ks) → Fall (length xs) ks
down xs j ks f = falls_on j (length xs) ks f.1 f.0

pub rest_below : (j k : ℕ) (ks : List ℕ) → Fall j ks → j ≡ k → Rests ks k
rest_below j k ks f e = subst (λ l. Rests ks l) e (falls_rest j ks f)

pub pop_own : (n : ℕ) (values : List ℤ) (xs : List LoggedInterval) (j : ℕ) (ks : List ℕ) (k : ℕ) (i : LoggedInterval)
    → At xs (j ∷ ks) None k i → Past (popped n values j ks xs) ks k (with_postlog n values i)
pop_own n values xs j ks k i a =
    let b : At (change (with_postlog n values) j xs) (j ∷ ks) None k (with_postlog n values i) =
    change_own (with_postlog n values) (λ x. refl) xs j ks k i a in
    piece_past (interval_at xs j).extent.prelog (nested j (interval_at xs j).extent.block values)
    (change (with_postlog n values) j xs) ks k (with_postlog n values i)
    (record {
      falls = down (change (with_postlog n values) j xs) j ks b.falls;
      rests = rest_below j k ks a.falls.1 a.runs;
      there = b.there;
    })

pub pop_leaves : (n : ℕ) (values : List ℤ) (xs : List LoggedInterval) (j : ℕ) (ks : List ℕ) (m b k : ℕ) (i : LoggedInterval)
    → At xs (j ∷ ks) (Some (record { level = zero; interval = m; block = b })) k i
    → At (popped n values j ks xs) ks None k (with_piece (interval_at xs j).extent.prelog (nested m b values) i)
pop_leaves n values xs j ks m b k i a =
    let o : At (change (with_postlog n values) j xs) (j ∷ ks)
    (Some (record { level = zero; interval = m; block = b })) k i =
    change_inner (with_postlog n values) (λ x. refl) xs j ks (record { level = zero; interval = m; block = b }) k i a in
    let p : At (change (with_postlog n values) j xs) ks None k i =
    record {
      falls = down (change (with_postlog n values) j xs) j ks o.falls;
      runs = o.runs.2;
      there = o.there;
    } in
    let q : At (popped n values j ks xs) ks None k
    (with_piece (interval_at xs j).extent.prelog (nested j (interval_at xs j).extent.block values) i) =
    piece_own (interval_at xs j).extent.prelog (nested j (interval_at xs j).extent.block values)
    (change (with_postlog n values) j xs) ks k i p in
    subst (λ l. At (popped n values j ks xs) ks None k
    (with_piece (interval_at xs j).extent.prelog (nested l b values) i)) a.runs.0
    (subst (λ l. At (popped n values j ks xs) ks None k
    (with_piece (interval_at xs j).extent.prelog (nested j l values) i)) a.runs.1 q)

pub pop_inner : (n : ℕ) (values : List ℤ) (xs : List LoggedInterval) (j : ℕ) (ks : List ℕ) (level m b k : ℕ) (i : LoggedInterval)
    → At xs (j ∷ ks) (Some (record { level = suc level; interval = m; block = b })) k i
    → At (popped n values j ks xs) ks (Some (record { level = level; interval = m; block = b })) k i
pop_inner n values xs j ks level m b k i a =
    let o : At (change (with_postlog n values) j xs) (j ∷ ks)
    (Some (record { level = suc level; interval = m; block = b })) k i =
    change_inner (with_postlog n values) (λ x. refl) xs j ks (record { level = suc level; interval = m; block = b }) k i a in
    piece_inner (interval_at xs j).extent.prelog (nested j (interval_at xs j).extent.block values)
    (change (with_postlog n values) j xs) ks (record { level = level; interval = m; block = b }) k i
    (record { falls = down (change (with_postlog n values) j xs) j ks o.falls; runs = o.runs; there = o.there })

pub pop_past : (n : ℕ) (values : List ℤ) (xs : List LoggedInterval) (j : ℕ) (ks : List ℕ) (k : ℕ) (i : LoggedInterval)
    → Past xs (j ∷ ks) k i → Past (popped n values j ks xs) ks k i
pop_past n values xs j ks k i a =
    let o : Past (change (with_postlog n values) j xs) (j ∷ ks) k i =
    change_past (with_postlog n values) xs j ks k i a in
    piece_past (interval_at xs j).extent.prelog (nested j (interval_at xs j).extent.block values)
    (change (with_postlog n values) j xs) ks k i
    (record { falls = down (change (with_postlog n values) j xs) j ks o.falls; rests = o.rests.1; there = o.there })

-- ---- an end

pub open_past : (n : ℕ) (xs : List LoggedInterval) (ks : List ℕ) (k : ℕ) (i : LoggedInterval) → Past xs ks k i
    → slice_get (left_open n ks xs) k ≡ Some i
open_past n xs [] k i a = a.there
open_past n xs (j ∷ ks) k i a =
    let x = interval_at xs j in
    let ended = change (with_end n) j xs in
    let e : Past ended (j ∷ ks) k i = change_past (with_end n) xs j ks k i a in
    open_past n (add_piece x.extent.prelog (unfinished j x.extent.block) ks ended) ks k i
    (piece_past x.extent.prelog (unfinished j x.extent.block) ended ks k i
    (record { falls = down ended j ks e.falls; rests = e.rests.1; there = e.there }))

pub open_own : (n : ℕ) (xs : List LoggedInterval) (ks : List ℕ) (k : ℕ) (i : LoggedInterval) → At xs ks None k i
    → slice_get (left_open n ks xs) k ≡ Some (with_end n i)
open_own n xs [] k i a = absurd a.runs
open_own n xs (j ∷ ks) k i a =
    let x = interval_at xs j in
    let ended = change (with_end n) j xs in
    let e : At ended (j ∷ ks) None k (with_end n i) = change_own (with_end n) (λ y. refl) xs j ks k i a in
    open_past n (add_piece x.extent.prelog (unfinished j x.extent.block) ks ended) ks k (with_end n i)
    (piece_past x.extent.prelog (unfinished j x.extent.block) ended ks k (with_end n i)
    (record { falls = down ended j ks e.falls; rests = rest_below j k ks a.falls.1 a.runs; there = e.there }))

pub open_inner : (n : ℕ) (xs : List LoggedInterval) (ks : List ℕ) (level m b k : ℕ) (i : LoggedInterval)
    → At xs ks (Some (record { level = level; interval = m; block = b })) k i
    → Grows i (unfinished m b ∷ []) (slice_get (left_open n ks xs) k)
open_inner n xs [] level m b k i a = absurd a.runs
open_inner n xs (j ∷ ks) zero m b k i a =
    let x = interval_at xs j in
    let ended = change (with_end n) j xs in
    let e : At ended (j ∷ ks) (Some (record { level = zero; interval = m; block = b })) k i =
    change_inner (with_end n) (λ y. refl) xs j ks (record { level = zero; interval = m; block = b }) k i a in
    let q : At (add_piece x.extent.prelog (unfinished j x.extent.block) ks ended) ks None k
    (with_piece x.extent.prelog (unfinished j x.extent.block) i) =
    piece_own x.extent.prelog (unfinished j x.extent.block) ended ks k i
    (record { falls = down ended j ks e.falls; runs = e.runs.2; there = e.there }) in
    subst (λ l. Grows i (unfinished l b ∷ []) (slice_get (left_open n (j ∷ ks) xs) k)) a.runs.0
    (subst (λ l. Grows i (unfinished j l ∷ []) (slice_get (left_open n (j ∷ ks) xs) k)) a.runs.1
    (more x.extent.prelog (unfinished j x.extent.block) i [] (slice_get (left_open n (j ∷ ks) xs) k)
    (same_end n (with_piece x.extent.prelog (unfinished j x.extent.block) i) (slice_get (left_open n (j ∷ ks) xs) k)
    (open_own n (add_piece x.extent.prelog (unfinished j x.extent.block) ks ended) ks k
    (with_piece x.extent.prelog (unfinished j x.extent.block) i) q))))
open_inner n xs (j ∷ ks) (suc level) m b k i a =
    let x = interval_at xs j in
    let ended = change (with_end n) j xs in
    let e : At ended (j ∷ ks) (Some (record { level = suc level; interval = m; block = b })) k i =
    change_inner (with_end n) (λ y. refl) xs j ks (record { level = suc level; interval = m; block = b }) k i a in
    open_inner n (add_piece x.extent.prelog (unfinished j x.extent.block) ks ended) ks level m b k i
    (piece_inner x.extent.prelog (unfinished j x.extent.block) ended ks (record { level = level; interval = m; block = b }) k i
    (record { falls = down ended j ks e.falls; runs = e.runs; there = e.there }))

-- the end of the process, in the innermost and in those round it
pub end_own : (n : ℕ) (p : Piece) (xs : List LoggedInterval) (ks : List ℕ) (k : ℕ) (i : LoggedInterval) → At xs ks None k i
    → Grows i (p ∷ []) (slice_get (left_open n ks (add_piece n p ks xs)) k)
end_own n p xs ks k i a =
    let o = slice_get (left_open n ks (add_piece n p ks xs)) k in
    more n p i [] o (same_end n (with_piece n p i) o
    (open_own n (add_piece n p ks xs) ks k (with_piece n p i) (piece_own n p xs ks k i a)))

pub end_inner : (n : ℕ) (p : Piece) (xs : List LoggedInterval) (ks : List ℕ) (m : Inner) (k : ℕ) (i : LoggedInterval)
    → At xs ks (Some m) k i → Grows i (unfinished m.interval m.block ∷ [])
    (slice_get (left_open n ks (add_piece n p ks xs)) k)
end_inner n p xs ks m k i a =
    open_inner n (add_piece n p ks xs) ks m.level m.interval m.block k i (piece_inner n p xs ks m k i a)

pub end_past : (n : ℕ) (p : Piece) (xs : List LoggedInterval) (ks : List ℕ) (k : ℕ) (i : LoggedInterval) → Past xs ks k i
    → Grows i [] (slice_get (left_open n ks (add_piece n p ks xs)) k)
end_past n p xs ks k i a =
    same i (slice_get (left_open n ks (add_piece n p ks xs)) k)
    (open_past n (add_piece n p ks xs) ks k i (piece_past n p xs ks k i a))

pub none_past : (xs : List LoggedInterval) (k : ℕ) → length xs ≤ k → slice_get xs k ≡ None
none_past [] k h = refl
none_past (x ∷ xs) zero h = let z : ⊥ = omega (arith, h) in absurd z
none_past (x ∷ xs) (suc k) h = none_past xs k (omega (arith, h))
