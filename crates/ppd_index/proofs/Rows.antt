-- What a change of a row is to its interval: where it stands, and its log.
use Rattle.ppd_ast.specs.declared.plan.Plan.{Plan}
use Rattle.ppd_model.proofs.EntryWords.{with_end, with_piece, with_postlog}
use Rattle.ppd_model.specs.IntervalLogs.{Extent, IntervalLog, LoggedInterval, add_piece, blocks_of, functions_in, interval_at, left_interval, left_open, log_by}
use Rattle.ppd_model.specs.Pieces.{Piece, nested, postlog, unfinished}
use Rattle.ppd_model.specs.declared.entry.Entry.{Entry}
use Rattle.ppd_index.proofs.Vocabulary.{innermost_of}
use Rattle.ppd_index.specs.Tables.{add_mark, block_in, block_there, closed_by, depth_at, depth_in, ended_by, extent_of, first_in, left_rows, log_of, open_one, open_rows, piece_at, with_mark}
use Rattle.ppd_index.specs.declared.row.Mark.{Mark}
use Rattle.ppd_index.specs.declared.row.Mark.TheVariants as mark
use Rattle.ppd_index.specs.declared.row.Row.{Row}
use Rattle.ppd_model.proofs.WrittenSpans.{each_both}
use Rattle.ppd_model.specs.Bounds.{AreEach}
use Rattle.ppd_model.specs.World.{change}
use Rattle.std.proofs.Common.{List, Some, [], ap, map, refl, subst, suc, sym, true, zero, ℕ, ℤ, ◌++◌, ◌∙◌, ◌∷◌, ◌≡◌}
use Rattle.std.proofs.lemmas.List.{map-append}
use Rattle.std.specs.Prelude.{slice_get}

-- ---- changes of a list

change_twice : {A : Type 0} (f g : A → A) (k : ℕ) (xs : List A) → change f k (change g k xs) ≡ change (λ x. f (g x)) k xs
change_twice f g k [] = refl
change_twice f g zero (x ∷ xs) = refl
change_twice f g (suc k) (x ∷ xs) = ap (λ ys. x ∷ ys) (change_twice f g k xs)

module _ (plan : Plan) (entries : List Entry) where
  -- the row is that of the interval
  pub record IsRow (r : Row) (i : LoggedInterval) : Type 0 where
    pub extent : extent_of r ≡ i.extent
    pub log : log_of entries r ≡ log_by plan i

  abbrev pub AreRows : List Row → List LoggedInterval → Type 0
  AreRows rows is = AreEach IsRow rows is

  -- ---- what each row has

  pub extents_by_rows : (rows : List Row) (is : List LoggedInterval) → AreRows rows is → map extent_of rows ≡ map (λ (i : LoggedInterval). i.extent) is
  extents_by_rows [] [] h = refl
  extents_by_rows [] (i ∷ is) h = absurd h
  extents_by_rows (r ∷ rs) [] h = absurd h
  extents_by_rows (r ∷ rs) (i ∷ is) h = ap (λ x. x ∷ map extent_of rs) h.0.extent ∙ ap (λ xs. i.extent ∷ xs) (extents_by_rows rs is h.1)

  pub logs_by_rows : (rows : List Row) (is : List LoggedInterval) → AreRows rows is → map (log_of entries) rows ≡ map (log_by plan) is
  logs_by_rows [] [] h = refl
  logs_by_rows [] (i ∷ is) h = absurd h
  logs_by_rows (r ∷ rs) [] h = absurd h
  logs_by_rows (r ∷ rs) (i ∷ is) h = ap (λ x. x ∷ map (log_of entries) rs) h.0.log ∙ ap (λ xs. log_by plan i ∷ xs) (logs_by_rows rs is h.1)

  first_same : (k : ℕ) (rows : List Row) (is : List LoggedInterval) → AreRows rows is → first_in (slice_get rows k) ≡ (interval_at is k).extent.prelog
  first_same k [] [] h = refl
  first_same k [] (i ∷ is) h = absurd h
  first_same k (r ∷ rs) [] h = absurd h
  first_same zero (r ∷ rs) (i ∷ is) h = ap (λ (x : Extent). x.prelog) h.0.extent
  first_same (suc k) (r ∷ rs) (i ∷ is) h = first_same k rs is h.1

  block_same : (k : ℕ) (rows : List Row) (is : List LoggedInterval) → AreRows rows is → block_in (slice_get rows k) ≡ (interval_at is k).extent.block
  block_same k [] [] h = refl
  block_same k [] (i ∷ is) h = absurd h
  block_same k (r ∷ rs) [] h = absurd h
  block_same zero (r ∷ rs) (i ∷ is) h = ap (λ (x : Extent). x.block) h.0.extent
  block_same (suc k) (r ∷ rs) (i ∷ is) h = block_same k rs is h.1

  depth_same_at : (k : ℕ) (rows : List Row) (is : List LoggedInterval) → AreRows rows is → depth_in (slice_get rows k) ≡ functions_in plan (interval_at is k).blocks
  depth_same_at k [] [] h = refl
  depth_same_at k [] (i ∷ is) h = absurd h
  depth_same_at k (r ∷ rs) [] h = absurd h
  depth_same_at zero (r ∷ rs) (i ∷ is) h = ap (λ (x : IntervalLog). x.depth) h.0.log
  depth_same_at (suc k) (r ∷ rs) (i ∷ is) h = depth_same_at k rs is h.1

  pub depth_same : (ks : List ℕ) (rows : List Row) (is : List LoggedInterval) → AreRows rows is → depth_at ks rows ≡ functions_in plan (blocks_of ks is)
  depth_same [] rows is h = refl
  depth_same (k ∷ ks) rows is h = depth_same_at k rows is h

  pub innermost_same : (ks : List ℕ) (rows : List Row) (is : List LoggedInterval) → AreRows rows is → block_there (slice_get ks 0) rows ≡ innermost_of ks is
  innermost_same [] rows is h = refl
  innermost_same (k ∷ ks) rows is h = ap (λ (b : ℕ). Some b) (block_same k rows is h)

  -- ---- pieces

  marked_row : (m : Mark) (n : ℕ) (p : Piece) → piece_at entries m ≡ (n, p) → (r : Row) (i : LoggedInterval) → IsRow r i → IsRow (with_mark m r) (with_piece n p i)
  marked_row m n p e r i h =
      let with_it : IntervalLog → IntervalLog = λ l. record l { pieces = l.pieces ++ (n, p) ∷ [] } in
      let marks : log_of entries (with_mark m r) ≡ with_it (log_of entries r) =
      ap (λ ps. record (log_of entries r) { pieces = ps }) (map-append (piece_at entries) r.marks (m ∷ []) ∙ ap (λ x. map (piece_at entries) r.marks ++ x ∷ []) e) in
      record { extent = h.extent; log = marks ∙ ap with_it h.log }

  pub marked : (m : Mark) (n : ℕ) (p : Piece) (ks : List ℕ) (rows : List Row) (is : List LoggedInterval) → piece_at entries m ≡ (n, p) → AreRows rows is → AreRows (add_mark m ks rows) (add_piece n p ks is)
  marked m n p [] rows is e h = h
  marked m n p (k ∷ ks) rows is e h = each_both IsRow (with_mark m) (with_piece n p) (marked_row m n p e) k rows is h

  -- ---- an interval is left

  closed_row : (n : ℕ) (values : List ℤ) → piece_at entries (mark.Own n) ≡ (n, postlog values) → (r : Row) (i : LoggedInterval) → IsRow r i
      → IsRow (closed_by n (with_mark (mark.Own n) r)) (with_postlog n values i)
  closed_row n values own r i h =
      let marked' : IsRow (with_mark (mark.Own n) r) (with_piece n (postlog values) i) = marked_row (mark.Own n) n (postlog values) own r i h in
      record { extent = ap (λ (x : Extent). record x { last = Some n; closed = true }) h.extent; log = marked'.log }

  pub left_same : (n : ℕ) (values : List ℤ) (ks : List ℕ) (rows : List Row) (is : List LoggedInterval) → ((k b f : ℕ) → piece_at entries (mark.Left k b f n) ≡ (f, nested k b values)) → piece_at entries (mark.Own n) ≡ (n, postlog values)
      → AreRows rows is → AreRows (left_rows n ks rows) (left_interval n values ks is)
  left_same n values [] rows is outer own h = h
  left_same n values (k ∷ ks) rows is outer own h =
      let b = block_in (slice_get rows k) in
      let f = first_in (slice_get rows k) in
      let left : List LoggedInterval = change (with_postlog n values) k is in
      let inside : AreRows (change (closed_by n) k (change (with_mark (mark.Own n)) k rows)) left =
      subst (λ rs. AreRows rs left) (sym (change_twice (closed_by n) (with_mark (mark.Own n)) k rows))
      (each_both IsRow (λ r. closed_by n (with_mark (mark.Own n) r)) (with_postlog n values) (closed_row n values own) k rows is h) in
      subst (λ c. AreRows (left_rows n (k ∷ ks) rows) (add_piece (interval_at is k).extent.prelog (nested k c values) ks left)) (block_same k rows is h)
      (subst (λ g. AreRows (left_rows n (k ∷ ks) rows) (add_piece g (nested k b values) ks left)) (first_same k rows is h)
      (marked (mark.Left k b f n) f (nested k b values) ks (change (closed_by n) k (change (with_mark (mark.Own n)) k rows)) left (outer k b f) inside))

  -- ---- the process comes to its end

  ended_row : (n : ℕ) (r : Row) (i : LoggedInterval) → IsRow r i → IsRow (ended_by n r) (with_end n i)
  ended_row n r i h = record { extent = ap (λ (x : Extent). record x { last = Some n }) h.extent; log = h.log }

  pub open_same : (n : ℕ) (ks : List ℕ) (rows : List Row) (is : List LoggedInterval) → AreRows rows is → AreRows (open_rows n ks rows) (left_open n ks is)
  open_same n [] rows is h = h
  open_same n (k ∷ ks) rows is h =
      let b = block_in (slice_get rows k) in
      let f = first_in (slice_get rows k) in
      let ended : List LoggedInterval = change (with_end n) k is in
      let one : AreRows (open_one n k (slice_get ks 0) rows) (add_piece (interval_at is k).extent.prelog (unfinished k (interval_at is k).extent.block) ks ended) =
      subst (λ c. AreRows (open_one n k (slice_get ks 0) rows) (add_piece (interval_at is k).extent.prelog (unfinished k c) ks ended)) (block_same k rows is h)
      (subst (λ g. AreRows (open_one n k (slice_get ks 0) rows) (add_piece g (unfinished k b) ks ended)) (first_same k rows is h)
      (marked (mark.Open k b f) f (unfinished k b) ks (change (ended_by n) k rows) ended refl
      (each_both IsRow (ended_by n) (with_end n) (ended_row n) k rows is h))) in
      open_same n ks (open_one n k (slice_get ks 0) rows) (add_piece (interval_at is k).extent.prelog (unfinished k (interval_at is k).extent.block) ks ended) one
