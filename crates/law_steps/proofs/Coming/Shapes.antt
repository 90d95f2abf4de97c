-- What a step can be: it opens, closes, ends, stops, or does none of these; and what it makes of the index.
use Rattle.ppd_model.specs.Changed.{change}
use Rattle.std.proofs.Common.{◌≡◌, ℕ, zero, suc, List, [], ◌∷◌, ◌++◌, length, Option, Some, None, refl, sym, ◌∙◌, subst}
use Rattle.std.specs.Prelude.{ℤ, drop, fold}
use Rattle.ppd_ast.specs.declared.plan.Plan.{Plan}
use Rattle.ppd_ast.specs.declared.program.Program.{Program}
use Rattle.ppd_ast.specs.declared.status.Status.{Status}
use Rattle.ppd_model.specs.IntervalLogs.{LoggedInterval, Indexing, add_piece, index_step, interval_at, left_interval}
use Rattle.ppd_model.proofs.EntryWords.{with_piece, with_postlog}
use Rattle.ppd_model.specs.Pieces.{Piece, unit, nested}
use Rattle.ppd_sem.specs.declared.proc.Need.{Need}
use Rattle.ppd_sem.specs.declared.proc.Need.TheVariants.{Read, Write, Plain, Enter, Leave, Invoke, Back, P, V, Send, Offer, Done, Recv, End, Trap, Budget, Stopped}
use Rattle.ppd_sem.specs.declared.proc.Proc.{Proc}
use Rattle.ppd_model.specs.declared.tracing.Taken.{Taken}
use Rattle.ppd_model.specs.Logs.{units, status_of}
use Rattle.ppd_model.specs.Marks.{Mark, opened, closed}
use Rattle.ppd_model.specs.Story.{unit_started}
use Rattle.ppd_model.specs.Synchronizations.{Sync, sync_of}
use Rattle.ppd_model.proofs.Extents.{Fall}
use Rattle.law_steps.specs.Coming.Pieces.{Inner}
use Rattle.law_steps.proofs.Coming.Indexes.{At, Past, changed_length, falls_on, piece_inner, piece_own, piece_past}
use Rattle.law_steps.proofs.Coming.IndexSteps.{piece_length, pop_inner, pop_leaves, pop_own, pop_past}

pub data Shape (sy : Option Sync) (u : Option ℕ) : Option Mark → Option Mark → Option Status → Type 0 where
  opens : (m : Mark) → sy ≡ None → Shape sy u (Some m) None None
  closes : (m : Mark) → sy ≡ None → Shape sy u None (Some m) None
  ends : (m : Mark) (s : Status) → sy ≡ None → u ≡ None → Shape sy u None (Some m) (Some s)
  stops : (s : Status) → sy ≡ None → u ≡ None → Shape sy u None None (Some s)
  passes : Shape sy u None None None

pub shape : (program : Program) (plan : Plan) (s : Proc) (x : Taken) (n : Need) → x.need ≡ n
    → Shape (sync_of (record x { need = n })) (unit_started n) (opened program plan s n) (closed program plan s n)
    (status_of n)
shape program plan s x (Read c) e = passes
shape program plan s x (Write c v) e = passes
shape program plan s x Plain e = passes
shape program plan s x (Enter b u) e = opens _ refl
shape program plan s x (Leave b u) e = closes _ refl
shape program plan s x (Invoke (Some b) u) e = opens _ refl
shape program plan s x (Invoke None u) e = passes
shape program plan s x (Back (Some b) u) e = closes _ refl
shape program plan s x (Back None u) e = passes
shape program plan s x (P k u) e = passes
shape program plan s x (V k u) e = passes
shape program plan s x (Send c v u) e = passes
shape program plan s x (Offer c v) e = passes
shape program plan s x (Done c u) e = passes
shape program plan s x (Recv c u) e = passes
shape program plan s x (End b) e = ends _ _ refl refl
shape program plan s x (Trap t) e = stops _ refl refl
shape program plan s x Budget e = stops _ refl refl
shape program plan s x Stopped e = passes

-- ---- the numbers that run

pub piece_falls : (n : ℕ) (p : Piece) (ks : List ℕ) (xs : List LoggedInterval) (js : List ℕ) → Fall (length xs) js
    → Fall (length (add_piece n p ks xs)) js
piece_falls n p ks xs js f = subst (λ m. Fall m js) (sym (piece_length n p ks xs)) f

-- ---- a postlog

module _ (e : ℕ) (values : List ℤ) (xs : List LoggedInterval) where
  abbrev pub left_by : List ℕ → List LoggedInterval
  left_by ks = left_interval e values ks xs

  pub left_length : (ks : List ℕ) → length (left_by ks) ≡ length xs
  left_length [] = refl
  left_length (j ∷ ks) = piece_length (interval_at xs j).extent.prelog (nested j (interval_at xs j).extent.block values) ks
      (change (with_postlog e values) j xs) ∙ changed_length (with_postlog e values) j xs

  pub left_falls : (ks : List ℕ) → Fall (length xs) ks → Fall (length (left_by ks)) (drop 1 ks)
  left_falls [] f = tt
  left_falls (j ∷ ks) f = subst (λ m. Fall m ks) (sym (left_length (j ∷ ks))) (falls_on j (length xs) ks f.1 f.0)

  pub left_own : (ks : List ℕ) (k : ℕ) (i : LoggedInterval) → At xs ks None k i
      → Past (left_by ks) (drop 1 ks) k (with_postlog e values i)
  left_own [] k i a = absurd a.runs
  left_own (j ∷ ks) k i a = pop_own e values xs j ks k i a

  pub left_past : (ks : List ℕ) (k : ℕ) (i : LoggedInterval) → Past xs ks k i → Past (left_by ks) (drop 1 ks) k i
  left_past [] k i a = a
  left_past (j ∷ ks) k i a = pop_past e values xs j ks k i a

  pub left_inner : (ks : List ℕ) (level m b k : ℕ) (i : LoggedInterval)
      → At xs ks (Some (record { level = suc level; interval = m; block = b })) k i
      → At (left_by ks) (drop 1 ks) (Some (record { level = level; interval = m; block = b })) k i
  left_inner [] level m b k i a = absurd a.runs
  left_inner (j ∷ ks) level m b k i a = pop_inner e values xs j ks level m b k i a

  -- the interval inside is left, and is a piece
  pub record Entered (ks : List ℕ) (m b k : ℕ) (i : LoggedInterval) : Type 0 where
    pub first : ℕ
    pub at : At (left_by ks) (drop 1 ks) None k (with_piece first (nested m b values) i)

  pub left_leaves : (ks : List ℕ) (m b k : ℕ) (i : LoggedInterval)
      → At xs ks (Some (record { level = zero; interval = m; block = b })) k i → Entered ks m b k i
  left_leaves [] m b k i a = absurd a.runs
  left_leaves (j ∷ ks) m b k i a =
      record { first = (interval_at xs j).extent.prelog; at = pop_leaves e values xs j ks m b k i a }

-- ---- the unit that starts

module _ (vals : List ℤ) where
  abbrev pub with_unit : Option ℕ → Indexing → Indexing
  with_unit u x = fold index_step x (units u vals ++ [])

  pub unit_length : (u : Option ℕ) (x : Indexing) → length (with_unit u x).intervals ≡ length x.intervals
  unit_length None x = refl
  unit_length (Some u) x = piece_length x.entry (unit u vals) x.running x.intervals

  pub unit_running : (u : Option ℕ) (x : Indexing) → (with_unit u x).running ≡ x.running
  unit_running None x = refl
  unit_running (Some u) x = refl

  pub unit_falls : (u : Option ℕ) (x : Indexing) → Fall (length x.intervals) x.running
      → Fall (length (with_unit u x).intervals) (with_unit u x).running
  unit_falls None x f = f
  unit_falls (Some u) x f = piece_falls x.entry (unit u vals) x.running x.intervals x.running f

  pub unit_inner : (u : Option ℕ) (x : Indexing) (m : Inner) (k : ℕ) (i : LoggedInterval)
      → At x.intervals x.running (Some m) k i → At (with_unit u x).intervals (with_unit u x).running (Some m) k i
  unit_inner None x m k i a = a
  unit_inner (Some u) x m k i a = piece_inner x.entry (unit u vals) x.intervals x.running m k i a

  pub unit_past : (u : Option ℕ) (x : Indexing) (k : ℕ) (i : LoggedInterval) → Past x.intervals x.running k i
      → Past (with_unit u x).intervals (with_unit u x).running k i
  unit_past None x k i a = a
  unit_past (Some u) x k i a = piece_past x.entry (unit u vals) x.intervals x.running k i a

  abbrev pub unit_in : ℕ → Option ℕ → LoggedInterval → LoggedInterval
  unit_in e None i = i
  unit_in e (Some u) i = with_piece e (unit u vals) i

  pub unit_own : (u : Option ℕ) (x : Indexing) (k : ℕ) (i : LoggedInterval) → At x.intervals x.running None k i
      → At (with_unit u x).intervals (with_unit u x).running None k (unit_in x.entry u i)
  unit_own None x k i a = a
  unit_own (Some u) x k i a = piece_own x.entry (unit u vals) x.intervals x.running k i a
