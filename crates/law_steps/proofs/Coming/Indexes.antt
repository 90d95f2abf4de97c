-- What each kind of entry gives to an interval that runs, by the interval just inside it.
use Rattle.ppd_model.specs.Changed.{change}
use Rattle.std.proofs.Common.{◌≡◌, ℕ, zero, suc, ◌+◌, ◌<◌, List, [], ◌∷◌, ◌++◌, length, map, Option, Some, None, refl, ap, sym, ◌∙◌, subst, arith, append_assoc, append-nil}
use Rattle.std.proofs.lemmas.Option.{none-some}
use Rattle.std.specs.Prelude.{⊤, ℤ, slice_get, option_map}
use Rattle.std.proofs.lemmas.List.{map-append}
use Rattle.ppd_model.specs.IntervalLogs.{LoggedInterval, add_piece, interval_at}
use Rattle.ppd_model.proofs.EntryWords.{with_end, with_piece, with_postlog}
use Rattle.ppd_model.specs.Pieces.{Piece, postlog}
use Rattle.law_steps.specs.Coming.Pieces.{Inner}
use Rattle.ppd_model.proofs.Extents.{Fall}

-- ---- one interval changed

-- its block stays
abbrev pub KeepsBlock : (LoggedInterval → LoggedInterval) → Type 0
KeepsBlock f = (i : LoggedInterval) → (f i).extent.block ≡ i.extent.block

changed_same : (f : LoggedInterval → LoggedInterval) (k : ℕ) (xs : List LoggedInterval) (i : LoggedInterval)
    → slice_get xs k ≡ Some i → slice_get (change f k xs) k ≡ Some (f i)
changed_same f k [] i e = absurd (none-some i e)
changed_same f zero (x ∷ xs) i e = ap (option_map f) e
changed_same f (suc k) (x ∷ xs) i e = changed_same f k xs i e

changed_other : (f : LoggedInterval → LoggedInterval) (j k : ℕ) (xs : List LoggedInterval) → (j ≡ k → ⊥)
    → slice_get (change f j xs) k ≡ slice_get xs k
changed_other f j k [] d = refl
changed_other f zero zero (x ∷ xs) d = absurd (d refl)
changed_other f zero (suc k) (x ∷ xs) d = refl
changed_other f (suc j) zero (x ∷ xs) d = refl
changed_other f (suc j) (suc k) (x ∷ xs) d = changed_other f j k xs (λ e. d (ap suc e))

pub changed_length : (f : LoggedInterval → LoggedInterval) (j : ℕ) (xs : List LoggedInterval)
    → length (change f j xs) ≡ length xs
changed_length f j [] = refl
changed_length f zero (x ∷ xs) = refl
changed_length f (suc j) (x ∷ xs) = ap suc (changed_length f j xs)

changed_block : (f : LoggedInterval → LoggedInterval) → KeepsBlock f → (j k : ℕ) (xs : List LoggedInterval)
    → (interval_at (change f j xs) k).extent.block ≡ (interval_at xs k).extent.block
changed_block f keeps j k [] = refl
changed_block f keeps zero zero (x ∷ xs) = keeps x
changed_block f keeps zero (suc k) (x ∷ xs) = refl
changed_block f keeps (suc j) zero (x ∷ xs) = refl
changed_block f keeps (suc j) (suc k) (x ∷ xs) = changed_block f keeps j k xs

pub put_there : (xs : List LoggedInterval) (y : LoggedInterval) (k : ℕ) (i : LoggedInterval) → slice_get xs k ≡ Some i
    → slice_get (xs ++ y ∷ []) k ≡ Some i
put_there [] y k i e = absurd (none-some i e)
put_there (x ∷ xs) y zero i e = e
put_there (x ∷ xs) y (suc k) i e = put_there xs y k i e

pub put_block : (xs : List LoggedInterval) (y : LoggedInterval) (k : ℕ) → k < length xs
    → (interval_at (xs ++ y ∷ []) k).extent.block ≡ (interval_at xs k).extent.block
put_block [] y k h = let z : ⊥ = omega (arith, h) in absurd z
put_block (x ∷ xs) y zero h = refl
put_block (x ∷ xs) y (suc k) h = put_block xs y k (omega (arith, h))

pub put_last : (xs : List LoggedInterval) (y : LoggedInterval) → slice_get (xs ++ y ∷ []) (length xs) ≡ Some y
put_last [] y = refl
put_last (x ∷ xs) y = put_last xs y

pub put_last_block : (xs : List LoggedInterval) (y : LoggedInterval)
    → (interval_at (xs ++ y ∷ []) (length xs)).extent.block ≡ y.extent.block
put_last_block [] y = refl
put_last_block (x ∷ xs) y = put_last_block xs y

-- ---- where an interval runs

-- interval k is the next that runs, and these are those round it
abbrev pub IsNext : List ℕ → ℕ → Type 0
IsNext [] k = ⊥
IsNext (j ∷ ks) k = j ≡ k

abbrev pub IsInside : List LoggedInterval → List ℕ → (level interval block k : ℕ) → Type 0
IsInside xs [] level n b k = ⊥
IsInside xs (j ∷ ks) zero n b k = (j ≡ n) × ((interval_at xs j).extent.block ≡ b) × IsNext ks k
IsInside xs (j ∷ ks) (suc level) n b k = IsInside xs ks level n b k

-- interval k runs, and this interval runs just inside it
abbrev pub Runs : List LoggedInterval → List ℕ → Option Inner → ℕ → Type 0
Runs xs ks None k = IsNext ks k
Runs xs ks (Some i) k = IsInside xs ks i.level i.interval i.block k

-- interval k does not run
abbrev pub Rests : List ℕ → ℕ → Type 0
Rests [] k = ⊤
Rests (j ∷ ks) k = (j ≡ k → ⊥) × Rests ks k

pub falls_on : (m n : ℕ) (ks : List ℕ) → Fall m ks → m < n → Fall n ks
falls_on m n [] f h = tt
falls_on m n (k ∷ ks) f h = (let z : k < n = omega (arith, f.0, h) in z, f.1)

pub next_below : (n : ℕ) (ks : List ℕ) (k : ℕ) → Fall n ks → IsNext ks k → k < n
next_below n [] k f h = absurd h
next_below n (j ∷ ks) k f e = subst (λ m. m < n) e f.0

pub inside_below : (xs : List LoggedInterval) (n : ℕ) (ks : List ℕ) (level m b k : ℕ) → Fall n ks
    → IsInside xs ks level m b k → k < n
inside_below xs n [] level m b k f h = absurd h
inside_below xs n (j ∷ ks) zero m b k f h = let z : k < j = next_below j ks k f.1 h.2 in omega (arith, f.0, z)
inside_below xs n (j ∷ ks) (suc level) m b k f h = let z : k < j =
    inside_below xs j ks level m b k f.1 h in omega (arith, f.0, z)

-- those that do not run stay so
pub falls_rest : (n : ℕ) (ks : List ℕ) → Fall n ks → Rests ks n
falls_rest n ks f = go n n ks f (omega arith)
  where
    go : (m n : ℕ) (ks : List ℕ) → Fall m ks → m < n + 1 → Rests ks n
    go m n [] f h = tt
    go m n (k ∷ ks) f h = (λ e. omega (arith, e, f.0, h), go k n ks f.1 (omega (arith, f.0, h)))

pub inside_alike : (xs ys : List LoggedInterval) (n : ℕ) (ks : List ℕ) (level m b k : ℕ) → Fall n ks
    → ((j : ℕ) → j < n → (interval_at ys j).extent.block ≡ (interval_at xs j).extent.block) → IsInside xs ks level m b k
    → IsInside ys ks level m b k
inside_alike xs ys n [] level m b k f e h = absurd h
inside_alike xs ys n (j ∷ ks) zero m b k f e h = (h.0, e j f.0 ∙ h.1, h.2)
inside_alike xs ys n (j ∷ ks) (suc level) m b k f e h =
    inside_alike xs ys j ks level m b k f.1 (λ l q. e l (omega (arith, q, f.0))) h

pub runs_alike : (xs ys : List LoggedInterval) (n : ℕ) (ks : List ℕ) (i : Option Inner) (k : ℕ) → Fall n ks
    → ((j : ℕ) → j < n → (interval_at ys j).extent.block ≡ (interval_at xs j).extent.block) → Runs xs ks i k
    → Runs ys ks i k
runs_alike xs ys n ks None k f e h = h
runs_alike xs ys n ks (Some i) k f e h = inside_alike xs ys n ks i.level i.interval i.block k f e h

-- the one that runs inside is another
pub head_other : (xs : List LoggedInterval) (n : ℕ) (ks : List ℕ) (i : Inner) (k : ℕ) → Fall n ks → Runs xs ks (Some i) k
    → IsNext ks k → ⊥
head_other xs n [] i k f h e = e
head_other xs n (j ∷ ks) i k f h e = other i.level h
  where
    other : (level : ℕ) → IsInside xs (j ∷ ks) level i.interval i.block k → ⊥
    other zero h = let z : k < j = next_below j ks k f.1 h.2 in omega (arith, z, e)
    other (suc level) h = let z : k < j = inside_below xs j ks level i.interval i.block k f.1 h in omega (arith, z, e)

-- ---- the pieces that it is given

-- the interval with these pieces more
pub record Grows (i : LoggedInterval) (c : List Piece) (o : Option LoggedInterval) : Type 0 where
  pub now : LoggedInterval
  pub there : o ≡ Some now
  pub block : now.extent.block ≡ i.extent.block
  pub values : now.values ≡ i.values
  pub blocks : now.blocks ≡ i.blocks
  pub pieces : map (λ q. q.1) now.pieces ≡ map (λ q. q.1) i.pieces ++ c

pub same : (i : LoggedInterval) (o : Option LoggedInterval) → o ≡ Some i → Grows i [] o
same i o e = record {
  now = i;
  there = e;
  block = refl;
  values = refl;
  blocks = refl;
  pieces = sym (append-nil (map (λ q. q.1) i.pieces));
}

-- where it ends is no part of it
pub same_end : (n : ℕ) (i : LoggedInterval) (o : Option LoggedInterval) → o ≡ Some (with_end n i) → Grows i [] o
same_end n i o e = record {
  now = with_end n i;
  there = e;
  block = refl;
  values = refl;
  blocks = refl;
  pieces = sym (append-nil (map (λ q. q.1) i.pieces));
}

pub more : (n : ℕ) (p : Piece) (i : LoggedInterval) (c : List Piece) (o : Option LoggedInterval) → Grows (with_piece n p i) c o
    → Grows i (p ∷ c) o
more n p i c o g = record {
  now = g.now;
  there = g.there;
  block = g.block;
  values = g.values;
  blocks = g.blocks;
  pieces = g.pieces ∙ ap (λ zs. zs ++ c) (map-append (λ q. q.1) i.pieces ((n, p) ∷ [])) ∙ append_assoc
      (map (λ q. q.1) i.pieces) (p ∷ []) c;
}

pub more_left : (n : ℕ) (values : List ℤ) (i : LoggedInterval) (c : List Piece) (o : Option LoggedInterval)
    → Grows (with_postlog n values i) c o → Grows i (postlog values ∷ c) o
more_left n values i c o g =
    more n (postlog values) i c o (record {
      now = g.now;
      there = g.there;
      block = g.block;
      values = g.values;
      blocks = g.blocks;
      pieces = g.pieces;
    })

-- ---- the state of the index as it matters to interval k

pub record At (xs : List LoggedInterval) (ks : List ℕ) (inner : Option Inner) (k : ℕ) (i : LoggedInterval) : Type 0 where
  pub falls : Fall (length xs) ks
  pub runs : Runs xs ks inner k
  pub there : slice_get xs k ≡ Some i

pub record Past (xs : List LoggedInterval) (ks : List ℕ) (k : ℕ) (i : LoggedInterval) : Type 0 where
  pub falls : Fall (length xs) ks
  pub rests : Rests ks k
  pub there : slice_get xs k ≡ Some i

falls_at : (f : LoggedInterval → LoggedInterval) (j : ℕ) (xs : List LoggedInterval) (ks : List ℕ) → Fall (length xs) ks
    → Fall (length (change f j xs)) ks
falls_at f j xs ks h = subst (λ m. Fall m ks) (sym (changed_length f j xs)) h

-- the innermost is changed, and is the interval
pub change_own : (f : LoggedInterval → LoggedInterval) → KeepsBlock f → (xs : List LoggedInterval) (j : ℕ) (ks : List ℕ)
    (k : ℕ) (i : LoggedInterval) → At xs (j ∷ ks) None k i → At (change f j xs) (j ∷ ks) None k (f i)
change_own f keeps xs j ks k i a = record {
  falls = falls_at f j xs (j ∷ ks) a.falls;
  runs = a.runs;
  there = subst (λ l. slice_get (change f l xs) k ≡ Some (f i)) (sym a.runs) (changed_same f k xs i a.there);
}

-- or runs inside it
pub change_inner : (f : LoggedInterval → LoggedInterval) → KeepsBlock f → (xs : List LoggedInterval) (j : ℕ) (ks : List ℕ)
    (m : Inner) (k : ℕ) (i : LoggedInterval) → At xs (j ∷ ks) (Some m) k i → At (change f j xs) (j ∷ ks) (Some m) k i
change_inner f keeps xs j ks m k i a = record {
  falls = falls_at f j xs (j ∷ ks) a.falls;
  runs = runs_alike xs (change f j xs) (length xs) (j ∷ ks) (Some m) k a.falls (λ l q. changed_block f keeps j l xs) a.runs;
  there = changed_other f j k xs (λ e. head_other xs (length xs) (j ∷ ks) m k a.falls a.runs e) ∙ a.there;
}

-- or runs no more
pub change_past : (f : LoggedInterval → LoggedInterval) (xs : List LoggedInterval) (j : ℕ) (ks : List ℕ) (k : ℕ)
    (i : LoggedInterval) → Past xs (j ∷ ks) k i → Past (change f j xs) (j ∷ ks) k i
change_past f xs j ks k i a = record {
  falls = falls_at f j xs (j ∷ ks) a.falls;
  rests = a.rests;
  there = changed_other f j k xs a.rests.0 ∙ a.there;
}

-- a piece of the innermost
pub piece_own : (n : ℕ) (p : Piece) (xs : List LoggedInterval) (ks : List ℕ) (k : ℕ) (i : LoggedInterval) → At xs ks None k i
    → At (add_piece n p ks xs) ks None k (with_piece n p i)
piece_own n p xs [] k i a = absurd a.runs
piece_own n p xs (j ∷ ks) k i a = change_own (with_piece n p) (λ x. refl) xs j ks k i a

pub piece_inner : (n : ℕ) (p : Piece) (xs : List LoggedInterval) (ks : List ℕ) (m : Inner) (k : ℕ) (i : LoggedInterval)
    → At xs ks (Some m) k i → At (add_piece n p ks xs) ks (Some m) k i
piece_inner n p xs [] m k i a = absurd a.runs
piece_inner n p xs (j ∷ ks) m k i a = change_inner (with_piece n p) (λ x. refl) xs j ks m k i a

pub piece_past : (n : ℕ) (p : Piece) (xs : List LoggedInterval) (ks : List ℕ) (k : ℕ) (i : LoggedInterval) → Past xs ks k i
    → Past (add_piece n p ks xs) ks k i
piece_past n p xs [] k i a = a
piece_past n p xs (j ∷ ks) k i a = change_past (with_piece n p) xs j ks k i a
