-- The blocks of the intervals that run, and of those round each.
use Rattle.ppd_model.specs.Changed.{change}
use Rattle.ppd_model.proofs.EntryWords.{new_interval, with_end, with_piece, with_postlog}
use Rattle.std.proofs.Common.{◌≡◌, ℕ, zero, suc, ◌+◌, ◌<◌, ◌≤◌, List, [], ◌∷◌, ◌++◌, length, refl, ◌∙◌, arith}
use Rattle.std.proofs.lemmas.List.{length-append}
use Rattle.std.specs.Prelude.{⊤, ℤ, drop, fold}
use Rattle.ppd_ast.specs.declared.plan.Plan.{Plan}
use Rattle.ppd_ast.specs.declared.program.Program.{Program}
use Rattle.ppd_model.specs.declared.entry.Entry.{Entry}
use Rattle.ppd_model.specs.declared.entry.Entry.TheVariants as entry
use Rattle.ppd_model.specs.IntervalLogs.{Indexing, LoggedInterval, add_piece, blocks_of, index_step, interval_at, left_interval, left_open}
use Rattle.ppd_model.specs.Pieces.{Piece, nested, sync, finish, unfinished, unit}
use Rattle.ppd_model.specs.declared.state.Logging.{Logging}
use Rattle.ppd_model.specs.Logs.{entries_of, log_step}
use Rattle.ppd_model.specs.Story.{Moment}
use Rattle.ppd_model.proofs.Extents.{Fall}
use Rattle.law_steps.proofs.Coming.IndexSteps.{open_length, piece_length}
use Rattle.law_steps.proofs.Coming.Later.{closing, finals}
use Rattle.law_steps.proofs.Coming.Shapes.{left_length}

abbrev pub blocks_at : List LoggedInterval → ℕ → List ℕ
blocks_at xs k = (interval_at xs k).blocks

-- ---- entries leave the blocks of the intervals that are there, and of those round them

-- a change of an interval that does
abbrev KeepsBlocks : (LoggedInterval → LoggedInterval) → Type 0
KeepsBlocks f = (i : LoggedInterval) → (f i).blocks ≡ i.blocks

changed_blocks : (f : LoggedInterval → LoggedInterval) → KeepsBlocks f → (j k : ℕ) (xs : List LoggedInterval)
    → blocks_at (change f j xs) k ≡ blocks_at xs k
changed_blocks f keeps j k [] = refl
changed_blocks f keeps zero zero (x ∷ xs) = keeps x
changed_blocks f keeps zero (suc k) (x ∷ xs) = refl
changed_blocks f keeps (suc j) zero (x ∷ xs) = refl
changed_blocks f keeps (suc j) (suc k) (x ∷ xs) = changed_blocks f keeps j k xs

pub piece_blocks : (n : ℕ) (p : Piece) (ks : List ℕ) (k : ℕ) (xs : List LoggedInterval)
    → blocks_at (add_piece n p ks xs) k ≡ blocks_at xs k
piece_blocks n p [] k xs = refl
piece_blocks n p (j ∷ ks) k xs = changed_blocks (with_piece n p) (λ i. refl) j k xs

open_blocks : (n : ℕ) (ks : List ℕ) (k : ℕ) (xs : List LoggedInterval)
    → blocks_at (left_open n ks xs) k ≡ blocks_at xs k
open_blocks n [] k xs = refl
open_blocks n (j ∷ ks) k xs =
    let i = interval_at xs j in
    open_blocks n ks k (add_piece i.extent.prelog (unfinished j i.extent.block) ks (change (with_end n) j xs))
    ∙ piece_blocks i.extent.prelog (unfinished j i.extent.block) ks k (change (with_end n) j xs)
    ∙ changed_blocks (with_end n) (λ i. refl) j k xs

pub put_blocks : (xs : List LoggedInterval) (y : LoggedInterval) (k : ℕ) → k < length xs
    → blocks_at (xs ++ y ∷ []) k ≡ blocks_at xs k
put_blocks [] y k h = absurd (omega (arith, h))
put_blocks (x ∷ xs) y zero h = refl
put_blocks (x ∷ xs) y (suc k) h = put_blocks xs y k (omega (arith, h))

pub put_last_blocks : (xs : List LoggedInterval) (y : LoggedInterval) → blocks_at (xs ++ y ∷ []) (length xs) ≡ y.blocks
put_last_blocks [] y = refl
put_last_blocks (x ∷ xs) y = put_last_blocks xs y

pub left_blocks : (e : ℕ) (values : List ℤ) (xs : List LoggedInterval) (ks : List ℕ) (k : ℕ)
    → blocks_at (left_interval e values ks xs) k ≡ blocks_at xs k
left_blocks e values xs [] k = refl
left_blocks e values xs (j ∷ ks) k =
    piece_blocks (interval_at xs j).extent.prelog (nested j (interval_at xs j).extent.block values) ks k
    (change (with_postlog e values) j xs) ∙ changed_blocks (with_postlog e values) (λ i. refl) j k xs

step_blocks : (x : Indexing) (e : Entry) (k : ℕ) → k < length x.intervals
    → blocks_at (index_step x e).intervals k ≡ blocks_at x.intervals k
step_blocks x (entry.Prelog b values) k h = put_blocks x.intervals (new_interval x b values) k h
step_blocks x (entry.Unit u values) k h = piece_blocks x.entry (unit u values) x.running k x.intervals
step_blocks x (entry.Sync kind object number value reads writes) k h =
    piece_blocks x.entry (sync kind object number value) x.running k x.intervals
step_blocks x (entry.Postlog b values) k h = left_blocks x.entry values x.intervals x.running k
step_blocks x (entry.End status rest reads writes) k h =
    open_blocks x.entry x.running k (add_piece x.entry (finish status rest) x.running x.intervals)
    ∙ piece_blocks x.entry (finish status rest) x.running k x.intervals

step_longer : (x : Indexing) (e : Entry) → length x.intervals ≤ length (index_step x e).intervals
step_longer x (entry.Prelog b values) =
    let z : length (x.intervals ++ new_interval x b values ∷ []) ≡ length x.intervals + 1 =
    length-append x.intervals (new_interval x b values ∷ []) in omega (arith, z)
step_longer x (entry.Unit u values) = let z =
    piece_length x.entry (unit u values) x.running x.intervals in omega (arith, z)
step_longer x (entry.Sync kind object number value reads writes) = let z =
    piece_length x.entry (sync kind object number value) x.running x.intervals in omega (arith, z)
step_longer x (entry.Postlog b values) = let z = left_length x.entry values x.intervals x.running in omega (arith, z)
step_longer x (entry.End status rest reads writes) =
    let z = open_length x.entry x.running (add_piece x.entry (finish status rest) x.running x.intervals) in
    let y = piece_length x.entry (finish status rest) x.running x.intervals in omega (arith, z, y)

pub entries_blocks : (es : List Entry) (x : Indexing) (k : ℕ) → k < length x.intervals
    → blocks_at (fold index_step x es).intervals k ≡ blocks_at x.intervals k
entries_blocks [] x k h = refl
entries_blocks (e ∷ es) x k h =
    entries_blocks es (index_step x e) k (omega (arith, h, step_longer x e)) ∙ step_blocks x e k h

entries_longer : (es : List Entry) (x : Indexing) → length x.intervals ≤ length (fold index_step x es).intervals
entries_longer [] x = omega arith
entries_longer (e ∷ es) x = omega (arith, step_longer x e, entries_longer es (index_step x e))

pub final_blocks : (program : Program) (plan : Plan) (ms : List Moment) (l : Logging) (x : Indexing) (k : ℕ)
    → k < length x.intervals → blocks_at (finals program plan l ms x).intervals k ≡ blocks_at x.intervals k
final_blocks program plan [] l x k h = entries_blocks (closing l) x k h
final_blocks program plan (m ∷ ms) l x k h =
    final_blocks program plan ms (log_step program plan l m) (fold index_step x (entries_of program plan l m)) k
    (omega (arith, h, entries_longer (entries_of program plan l m) x))
    ∙ entries_blocks (entries_of program plan l m) x k h

-- ---- the blocks of the intervals that run

-- they are these: of each the block, and those of the intervals round it
abbrev pub AreDeep : List LoggedInterval → List ℕ → List ℕ → Type 0
AreDeep xs [] [] = ⊤
AreDeep xs (j ∷ ks) (b ∷ bs) = (blocks_at xs j ≡ b ∷ bs) × AreDeep xs ks bs
AreDeep xs ks bs = ⊥

pub deep_alike : (xs ys : List LoggedInterval) (n : ℕ) (ks bs : List ℕ) → Fall n ks
    → ((j : ℕ) → j < n → blocks_at ys j ≡ blocks_at xs j) → AreDeep xs ks bs → AreDeep ys ks bs
deep_alike xs ys n [] [] f e h = tt
deep_alike xs ys n [] (b ∷ bs) f e h = h
deep_alike xs ys n (j ∷ ks) [] f e h = h
deep_alike xs ys n (j ∷ ks) (b ∷ bs) f e h =
    (e j f.0 ∙ h.0, deep_alike xs ys j ks bs f.1 (λ l q. e l (omega (arith, q, f.0))) h.1)

pub deep_head : (xs : List LoggedInterval) (ks bs : List ℕ) → AreDeep xs ks bs → blocks_of ks xs ≡ bs
deep_head xs [] [] h = refl
deep_head xs [] (b ∷ bs) h = absurd h
deep_head xs (j ∷ ks) [] h = absurd h
deep_head xs (j ∷ ks) (b ∷ bs) h = h.0

pub deep_rest : (xs : List LoggedInterval) (ks bs : List ℕ) (b : ℕ) → AreDeep xs ks (b ∷ bs) → AreDeep xs (drop 1 ks) bs
deep_rest xs [] bs b h = absurd h
deep_rest xs (j ∷ ks) bs b h = h.1
