-- The rows of a process's entries are its intervals, and their logs.
use Rattle.std.proofs.Common.{◌≡◌, ℕ, ◌+◌, List, [], ◌∷◌, ◌++◌, Option, Some, refl, ap, ap₂, sym, subst, ◌∙◌, length, map, arith}
use Rattle.std.specs.Prelude.{fold, slice_get, if◌then◌else◌}
use Rattle.std.proofs.lemmas.List.{append-nil, append_assoc}
use Rattle.ppd_ast.specs.declared.plan.Plan.{Plan}
use Rattle.ppd_model.proofs.EntryWords.{new_interval}
use Rattle.ppd_model.specs.declared.entry.Entry.{Entry}
use Rattle.ppd_model.specs.declared.entry.Entry.TheVariants as entry
use Rattle.ppd_model.specs.IntervalLogs.{Indexing, LoggedInterval, add_piece, begun_indexing, blocks_of, functions_in, index_step, indexed}
use Rattle.ppd_model.specs.Pieces.{Piece, finish, nested, postlog, sync, unit}
use Rattle.ppd_model.specs.Bounds.{AreEach}
use Rattle.ppd_model.proofs.Extents.{one_longer}
use Rattle.ppd_model.proofs.WrittenSpans.{each_end, each_length}
use Rattle.ppd_index.specs.declared.row.Mark.TheVariants as mark
use Rattle.ppd_index.specs.declared.row.Row.{Row}
use Rattle.ppd_index.specs.Indexes.{AreIntervals}
use Rattle.ppd_index.specs.Tables.{Tabled, add_mark, begun_table, log_of, new_row, own_piece, piece_at, piece_there, rows_of, table_step, values_there}
use Rattle.ppd_index.proofs.Rows.{AreRows, IsRow, depth_same, extents_by_rows, left_same, logs_by_rows, marked, open_same}

-- ---- one entry

-- the table is that of these intervals
pub record IsTabled (plan : Plan) (entries : List Entry) (t : Tabled) (x : Indexing) : Type 0 where
  pub rows : AreRows plan entries t.rows x.intervals
  pub running : t.running ≡ x.running
  pub entry : t.entry ≡ x.entry

abbrev numbered : ℕ → Piece → ℕ × Piece
numbered n p = (n, p)

own : (entries : List Entry) (n : ℕ) (e : Entry) (p : Piece) → slice_get entries n ≡ Some e → own_piece e ≡ p → piece_at entries (mark.Own n) ≡ numbered n p
own entries n e p there is = ap (λ (o : Option Entry). numbered n (piece_there o)) there ∙ ap (λ q. numbered n q) is

module _ (plan : Plan) (entries : List Entry) (rows : List Row) (is : List LoggedInterval) (ks : List ℕ) (n : ℕ) (h : AreRows plan entries rows is) where
  abbrev t : Tabled
  t = record { rows = rows; running = ks; entry = n }

  abbrev x : Indexing
  x = record { intervals = is; running = ks; entry = n }

  own_step : (e : Entry) (p : Piece) → slice_get entries n ≡ Some e → own_piece e ≡ p → AreRows plan entries (add_mark (mark.Own n) ks rows) (add_piece n p ks is)
  own_step e p there is' = marked plan entries (mark.Own n) n p ks rows is (own entries n e p there is') h

  step_by : (e : Entry) → slice_get entries n ≡ Some e → IsTabled plan entries (table_step plan t e) (index_step x e)
  step_by (entry.Prelog b values) there =
      let row : Row = new_row plan n b ks rows in
      let deep : row.depth ≡ functions_in plan (b ∷ blocks_of ks is) = let d = depth_same plan entries ks rows is h in omega (arith, d) in
      record {
        rows = each_end (IsRow plan entries) rows is row (new_interval x b values) h (record {
          extent = refl;
          log = ap₂ (λ vs d. record (log_of entries row) { values = vs; depth = d }) (ap values_there there) deep;
        });
        running = ap (λ k. k ∷ ks) (each_length (IsRow plan entries) rows is h);
        entry = refl;
      }
  step_by (entry.Unit u values) there = record { rows = own_step (entry.Unit u values) (unit u values) there refl; running = refl; entry = refl }
  step_by (entry.Sync kind object number value reads writes) there =
      record { rows = own_step (entry.Sync kind object number value reads writes) (sync kind object number value) there refl; running = refl; entry = refl }
  step_by (entry.Postlog b values) there = record {
    rows = left_same plan entries n values ks rows is (λ k c f. ap (λ (o : Option Entry). numbered f (nested k c (values_there o))) there)
        (own entries n (entry.Postlog b values) (postlog values) there refl) h;
    running = refl;
    entry = refl;
  }
  step_by (entry.End status rest reads writes) there = record {
    rows = open_same plan entries n ks (add_mark (mark.Own n) ks rows) (add_piece n (finish status rest) ks is)
        (own_step (entry.End status rest reads writes) (finish status rest) there refl);
    running = refl;
    entry = refl;
  }

pub indexed_step : (plan : Plan) (entries : List Entry) (t : Tabled) (x : Indexing) (e : Entry) → slice_get entries t.entry ≡ Some e → IsTabled plan entries t x → IsTabled plan entries (table_step plan t e) (index_step x e)
indexed_step plan entries t x e there h =
    subst (λ ks. IsTabled plan entries (table_step plan t e) (index_step (record { intervals = x.intervals; running = ks; entry = x.entry }) e)) h.running
    (subst (λ n. IsTabled plan entries (table_step plan t e) (index_step (record { intervals = x.intervals; running = t.running; entry = n }) e)) h.entry
    (step_by plan entries t.rows x.intervals t.running t.entry h.rows e there))

pub begun_tabled : (plan : Plan) (entries : List Entry) → IsTabled plan entries begun_table begun_indexing
begun_tabled plan entries = record { rows = tt; running = refl; entry = refl }

-- ---- all entries

-- the entry after those that are done
here_at : (done rest : List Entry) (e : Entry) → slice_get (done ++ e ∷ rest) (length done) ≡ Some e
here_at [] rest e = refl
here_at (d ∷ done) rest e = here_at done rest e

pub here : (entries done rest : List Entry) (e : Entry) (n : ℕ) → entries ≡ done ++ e ∷ rest → n ≡ length done → slice_get entries n ≡ Some e
here entries done rest e n is at = ap₂ (λ (es : List Entry) (i : ℕ). slice_get es i) is at ∙ here_at done rest e

pub shifted : (entries done rest : List Entry) (e : Entry) → entries ≡ done ++ e ∷ rest → entries ≡ (done ++ e ∷ []) ++ rest
shifted entries done rest e is = is ∙ sym (append_assoc done (e ∷ []) rest)

tabled_fold : (plan : Plan) (entries done rest : List Entry) (t : Tabled) (x : Indexing) → entries ≡ done ++ rest → t.entry ≡ length done → IsTabled plan entries t x → IsTabled plan entries (fold (table_step plan) t rest) (fold index_step x rest)
tabled_fold plan entries done [] t x is at h = h
tabled_fold plan entries done (e ∷ es) t x is at h =
    tabled_fold plan entries (done ++ e ∷ []) es (table_step plan t e) (index_step x e) (shifted entries done es e is) (one_longer done e t.entry at)
    (indexed_step plan entries t x e (here entries done es e t.entry is at) h)

pub are_intervals : (plan : Plan) (entries : List Entry) → AreIntervals plan (rows_of plan entries) entries
are_intervals plan entries =
    let h : AreRows plan entries (rows_of plan entries) (indexed entries) = (tabled_fold plan entries [] entries begun_table begun_indexing refl refl (begun_tabled plan entries)).rows in
    record {
      extents_are = extents_by_rows plan entries (rows_of plan entries) (indexed entries) h;
      logs_are = logs_by_rows plan entries (rows_of plan entries) (indexed entries) h;
    }

pub all_are_intervals : (plan : Plan) (lists : List (List Entry)) → AreEach (AreIntervals plan) (map (rows_of plan) lists) lists
all_are_intervals plan [] = tt
all_are_intervals plan (es ∷ lists) = (are_intervals plan es, all_are_intervals plan lists)

-- after the last list the tables are those of all lists
pub index_whole : (plan : Plan) (lists : List (List Entry)) (tables : List (List Row)) (rest : List (List Entry)) → rest ≡ [] → tables ++ map (rows_of plan) rest ≡ map (rows_of plan) lists → AreEach (AreIntervals plan) tables lists
index_whole plan lists tables rest none so =
    let are : map (rows_of plan) lists ≡ tables = sym so ∙ (ap (λ es. tables ++ map (rows_of plan) es) none ∙ append-nil tables) in
    subst (λ ts. AreEach (AreIntervals plan) ts lists) are (all_are_intervals plan lists)
