-- Where an entry stands in the index: inside the blocks of a stack.
use Rattle.ppd_model.specs.Changed.{change}
use Rattle.ppd_model.proofs.EntryWords.{new_interval, with_piece, with_postlog}
use Rattle.std.proofs.Common.{◌≡◌, ℕ, zero, suc, ◌+◌, ◌<◌, ℤ, false, List, [], ◌∷◌, ◌++◌, length, Some, None, refl, ap, sym, ◌∙◌, subst, arith}
use Rattle.std.proofs.lemmas.Bool.{ne_eqb}
use Rattle.std.proofs.lemmas.List.{length-append}
use Rattle.std.specs.Prelude.{⊤, drop, nat_eq}
use Rattle.ppd_ast.specs.declared.plan.Plan.{Plan}
use Rattle.ppd_ast.specs.declared.status.SyncKind.{SyncKind}
use Rattle.ppd_model.specs.declared.entry.Entry.TheVariants as entry
use Rattle.ppd_model.specs.IntervalLogs.{Indexing, LoggedInterval, add_piece, blocks_of, index_step, interval_at, left_interval}
use Rattle.ppd_model.specs.Pieces.{Piece, nested, sync, unit}
use Rattle.law_steps.specs.OpenBlocks.Stack.{functions_in}
use Rattle.ppd_index.proofs.Vocabulary.{innermost_of}
use Rattle.law_steps.proofs.Coming.Indexes.{changed_length, falls_on}
use Rattle.law_steps.proofs.Coming.IndexSteps.{piece_length}
use Rattle.law_steps.proofs.Coming.Depths.{blocks_at}
use Rattle.ppd_model.proofs.Extents.{Fall}

-- ---- the block of an interval

abbrev pub block_at : List LoggedInterval → ℕ → ℕ
block_at xs k = (interval_at xs k).extent.block

-- two lists of intervals with the same block in number k, and the same round it
record IsSame (xs ys : List LoggedInterval) (k : ℕ) : Type 0 where
  block : block_at ys k ≡ block_at xs k
  blocks : blocks_at ys k ≡ blocks_at xs k

changed_same : (f : LoggedInterval → LoggedInterval) → ((i : LoggedInterval) → (f i).extent.block ≡ i.extent.block) → ((i : LoggedInterval) → (f i).blocks ≡ i.blocks) → (j k : ℕ) (xs : List LoggedInterval) → IsSame xs (change f j xs) k
changed_same f one all j k [] = record { block = refl; blocks = refl }
changed_same f one all zero zero (x ∷ xs) = record { block = one x; blocks = all x }
changed_same f one all zero (suc k) (x ∷ xs) = record { block = refl; blocks = refl }
changed_same f one all (suc j) zero (x ∷ xs) = record { block = refl; blocks = refl }
changed_same f one all (suc j) (suc k) (x ∷ xs) = let s : IsSame xs (change f j xs) k = changed_same f one all j k xs in record { block = s.block; blocks = s.blocks }

piece_same : (n : ℕ) (p : Piece) (ks : List ℕ) (k : ℕ) (xs : List LoggedInterval) → IsSame xs (add_piece n p ks xs) k
piece_same n p [] k xs = record { block = refl; blocks = refl }
piece_same n p (j ∷ ks) k xs = changed_same (with_piece n p) (λ i. refl) (λ i. refl) j k xs

put_same : (xs : List LoggedInterval) (y : LoggedInterval) (k : ℕ) → k < length xs → IsSame xs (xs ++ y ∷ []) k
put_same [] y k h = absurd (omega (arith, h))
put_same (x ∷ xs) y zero h = record { block = refl; blocks = refl }
put_same (x ∷ xs) y (suc k) h = let s : IsSame xs (xs ++ y ∷ []) k = put_same xs y k (omega (arith, h)) in record { block = s.block; blocks = s.blocks }

put_last : (xs : List LoggedInterval) (y : LoggedInterval) → interval_at (xs ++ y ∷ []) (length xs) ≡ y
put_last [] y = refl
put_last (x ∷ xs) y = put_last xs y

-- ---- the intervals that run, and the stack

-- the intervals are of these blocks, each inside those that follow
abbrev pub AreOf : List LoggedInterval → List ℕ → List ℕ → Type 0
AreOf xs [] [] = ⊤
AreOf xs (k ∷ ks) (b ∷ bs) = (block_at xs k ≡ b) × (blocks_at xs k ≡ b ∷ bs) × AreOf xs ks bs
AreOf xs ks bs = ⊥

module _ (plan : Plan) where
  alike : (xs ys : List LoggedInterval) (n : ℕ) (ks bs : List ℕ) → Fall n ks → ((k : ℕ) → k < n → IsSame xs ys k) → AreOf xs ks bs → AreOf ys ks bs
  alike xs ys n [] [] f s h = tt
  alike xs ys n [] (b ∷ bs) f s h = h
  alike xs ys n (k ∷ ks) [] f s h = h
  alike xs ys n (k ∷ ks) (b ∷ bs) f s h = let here : IsSame xs ys k = s k f.0 in (here.block ∙ h.0, here.blocks ∙ h.1, alike xs ys k ks bs f.1 (λ j lt. s j (omega (arith, lt, f.0))) h.2)

  -- a later entry, inside these blocks
  pub record Stands (x : Indexing) (bs : List ℕ) : Type 0 where
    pub later : nat_eq x.entry 0 ≡ false
    pub falls : Fall (length x.intervals) x.running
    pub are : AreOf x.intervals x.running bs

  pub next_later : (n : ℕ) → nat_eq (n + 1) 0 ≡ false
  next_later n = ne_eqb (n + 1) 0 (λ e. omega (arith, e))

  pub innermost_by : (xs : List LoggedInterval) (ks : List ℕ) (b : ℕ) (bs : List ℕ) → AreOf xs ks (b ∷ bs) → innermost_of ks xs ≡ Some b
  innermost_by xs [] b bs h = absurd h
  innermost_by xs (k ∷ ks) b bs h = ap Some h.0

  pub none_by : (xs : List LoggedInterval) (ks : List ℕ) → AreOf xs ks [] → innermost_of ks xs ≡ None
  none_by xs [] h = refl
  none_by xs (k ∷ ks) h = absurd h

  pub depth_by : (xs : List LoggedInterval) (ks bs : List ℕ) → AreOf xs ks bs → functions_in plan (blocks_of ks xs) ≡ functions_in plan bs
  depth_by xs [] [] h = refl
  depth_by xs [] (b ∷ bs) h = absurd h
  depth_by xs (k ∷ ks) [] h = absurd h
  depth_by xs (k ∷ ks) (b ∷ bs) h = ap (functions_in plan) h.1

  blocks_by : (xs : List LoggedInterval) (ks bs : List ℕ) → AreOf xs ks bs → blocks_of ks xs ≡ bs
  blocks_by xs [] [] h = refl
  blocks_by xs [] (b ∷ bs) h = absurd h
  blocks_by xs (k ∷ ks) [] h = absurd h
  blocks_by xs (k ∷ ks) (b ∷ bs) h = h.1

  -- ---- each kind of entry

  pub after_prelog : (x : Indexing) (bs : List ℕ) (b : ℕ) (values : List ℤ) → nat_eq (x.entry + 1) 0 ≡ false → Fall (length x.intervals) x.running → AreOf x.intervals x.running bs → Stands (index_step x (entry.Prelog b values)) (b ∷ bs)
  after_prelog x bs b values later falls are =
      let y : LoggedInterval = new_interval x b values in
      let last : interval_at (x.intervals ++ y ∷ []) (length x.intervals) ≡ y = put_last x.intervals y in
      let longer : length (x.intervals ++ y ∷ []) ≡ length x.intervals + 1 = length-append x.intervals (y ∷ []) in
      record {
        later = later;
        falls = (let z : length x.intervals < length (x.intervals ++ y ∷ []) = omega (arith, longer) in z, falls);
        are = (
          ap (λ (i : LoggedInterval). i.extent.block) last,
          ap (λ (i : LoggedInterval). i.blocks) last ∙ ap (λ cs. b ∷ cs) (blocks_by x.intervals x.running bs are),
          alike x.intervals (x.intervals ++ y ∷ []) (length x.intervals) x.running bs falls (λ k lt. put_same x.intervals y k lt) are,
        );
      }

  with_piece_stands : (x : Indexing) (p : Piece) (bs : List ℕ) → Stands x bs → Stands (record x { intervals = add_piece x.entry p x.running x.intervals; entry = x.entry + 1 }) bs
  with_piece_stands x p bs s = record {
    later = next_later x.entry;
    falls = subst (λ n. Fall n x.running) (sym (piece_length x.entry p x.running x.intervals)) s.falls;
    are = alike x.intervals (add_piece x.entry p x.running x.intervals) (length x.intervals) x.running bs s.falls (λ k lt. piece_same x.entry p x.running k x.intervals) s.are;
  }

  pub after_unit : (x : Indexing) (u : ℕ) (values : List ℤ) (bs : List ℕ) → Stands x bs → Stands (index_step x (entry.Unit u values)) bs
  after_unit x u values bs s = with_piece_stands x (unit u values) bs s

  pub after_sync : (x : Indexing) (k : SyncKind) (o n : ℕ) (v : ℤ) (reads writes : List ℕ) (bs : List ℕ) → Stands x bs → Stands (index_step x (entry.Sync k o n v reads writes)) bs
  after_sync x k o n v reads writes bs s = with_piece_stands x (sync k o n v) bs s

  pub after_postlog : (x : Indexing) (c : ℕ) (values : List ℤ) (b : ℕ) (bs : List ℕ) → Stands x (b ∷ bs) → Stands (index_step x (entry.Postlog c values)) bs
  after_postlog x c values b bs s = by x.running s.falls s.are
    where
      by : (ks : List ℕ) → Fall (length x.intervals) ks → AreOf x.intervals ks (b ∷ bs) → Stands (record x { intervals = left_interval x.entry values ks x.intervals; running = drop 1 ks; entry = x.entry + 1 }) bs
      by [] f h = absurd h
      by (k ∷ ks) f h =
          let i : LoggedInterval = interval_at x.intervals k in
          let own : List LoggedInterval = change (with_postlog x.entry values) k x.intervals in
          let lower : Fall (length x.intervals) ks = falls_on k (length x.intervals) ks f.1 f.0 in
          let first : AreOf own ks bs = alike x.intervals own (length x.intervals) ks bs lower (λ j lt. changed_same (with_postlog x.entry values) (λ y. refl) (λ y. refl) k j x.intervals) h.2 in
          let own_length : length own ≡ length x.intervals = changed_length (with_postlog x.entry values) k x.intervals in
          record {
            later = next_later x.entry;
            falls = subst (λ n. Fall n ks) (sym (piece_length i.extent.prelog (nested k i.extent.block values) ks own ∙ own_length)) lower;
            are = alike own (add_piece i.extent.prelog (nested k i.extent.block values) ks own) (length own) ks bs (subst (λ n. Fall n ks) (sym own_length) lower) (λ j lt. piece_same i.extent.prelog (nested k i.extent.block values) ks j own) first;
          }
