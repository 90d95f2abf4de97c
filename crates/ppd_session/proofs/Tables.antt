-- What is told of intervals, of items, of edges and of last values, place by place.
use Rattle.ppd_model.specs.Setting.{Setting}
use Rattle.std.specs.Prelude.{None, Some, option_map, slice_get}
use Rattle.std.proofs.Common.{◌≡◌, ℕ, zero, suc, ◌+◌, ◌<◌, ◌≤◌, List, [], ◌∷◌, Option, Ok, Err, arith, get_or, length, map, refl, ap, sym, ◌∙◌}
use Rattle.std.proofs.lemmas.List.{get_or_past}
use Rattle.std.proofs.lemmas.Option.{get_or_from_slice_get, same_Some, slice_get-map, slice_get_past, slice_get_within}
use Rattle.ppd_model.specs.Replay.{replay}
use Rattle.ppd_model.specs.declared.entry.Entry.{Entry}
use Rattle.ppd_model.specs.IntervalLogs.{LoggedInterval, indexed, log_by}
use Rattle.ppd_model.specs.declared.flow_error.FlowError.TheVariants.{NoEvent}
use Rattle.ppd_model.specs.declared.flow.Item.{Item}
use Rattle.ppd_session.specs.Known.{Flow, Told, of_processes, told_by, told_of_entries}
use Rattle.ppd_session.proofs.KnownWords.{of_cells, of_intervals}
use Rattle.std.specs.Result.{result_unwrap_or}

-- ---- lists

pub no_place : {A : Type 0} (k : ℕ) → ◌≡◌ {A = Option A} (slice_get [] k) None
no_place k = slice_get_past [] k (omega arith)

pub no_element : {A : Type 0} (k : ℕ) (d : A) → get_or [] k d ≡ d
no_element k d = get_or_past [] k d (omega arith)

-- ---- of numbers in a row

module _ {A : Type 0} (f : ℕ → A) where
  pub cells_count : (c n : ℕ) → length (of_cells f c n) ≡ n
  cells_count c zero = refl
  cells_count c (suc n) = ap suc (cells_count (c + 1) n)

  pub cell_at : (c n j : ℕ) → j < n → slice_get (of_cells f c n) j ≡ Some (f (c + j))
  cell_at c zero j lt = absurd (omega (arith, lt))
  cell_at c (suc n) zero lt = let z : c ≡ c + 0 = omega arith in ap (λ i. Some (f i)) z
  cell_at c (suc n) (suc j) lt =
      let z : c + 1 + j ≡ c + suc j = omega arith in cell_at (c + 1) n j (omega (arith, lt)) ∙ ap (λ i. Some (f i)) z

  -- whatever stands there is that
  pub cell_is : (c n j : ℕ) (a : A) → slice_get (of_cells f c n) j ≡ Some a → f (c + j) ≡ a
  cell_is c n j a e =
      let lt = slice_get_within (of_cells f c n) j a e in
      let count = cells_count c n in
      same_Some (f (c + j)) a (sym (cell_at c n j (omega (arith, lt, count))) ∙ e)

  cell_there : (d : A) (c n j : ℕ) → j < n → get_or (of_cells f c n) j d ≡ f (c + j)
  cell_there d c n j lt = get_or_from_slice_get (of_cells f c n) j (f (c + j)) d (cell_at c n j lt)

  cell_past : (d : A) (c n j : ℕ) → n ≤ j → get_or (of_cells f c n) j d ≡ d
  cell_past d c n j le = let count = cells_count c n in get_or_past (of_cells f c n) j d (omega (arith, le, count))

-- ---- the table of edges

abbrev items_if : (ℕ → Flow) → Option Told → List Flow
items_if f None = []
items_if f (Some t) = of_cells f 0 (length (result_unwrap_or t []))

row_is : (f : ℕ → ℕ → Flow) (m k : ℕ) (ts : List Told) → get_or (of_intervals f m ts) k [] ≡ items_if (f (m + k)) (slice_get ts k)
row_is f m k [] = no_element k [] ∙ sym (ap (items_if (f (m + k))) (no_place k))
row_is f m zero (t ∷ ts) = let z : m ≡ m + 0 = omega arith in ap (λ i. items_if (f i) (Some t)) z
row_is f m (suc k) (t ∷ ts) =
    let z : m + 1 + k ≡ m + suc k = omega arith in row_is f (m + 1) k ts ∙ ap (λ i. items_if (f i) (slice_get ts k)) z

table_is : (f : ℕ → ℕ → ℕ → Flow) (q p k : ℕ) (rows : List (List Told))
    → get_or (get_or (of_processes f q rows) p []) k [] ≡ items_if (f (q + p) k) (slice_get (get_or rows p []) k)
table_is f q p k [] =
    ap (λ r. get_or r k []) (no_element p []) ∙ no_element k []
    ∙ sym (ap (λ r. items_if (f (q + p) k) (slice_get r k)) (no_element p []) ∙ ap (items_if (f (q + p) k)) (no_place k))
table_is f q zero k (ts ∷ rows) =
    let y : 0 + k ≡ k = omega arith in
    let z : q ≡ q + 0 = omega arith in
    row_is (f q) 0 k ts ∙ (ap (λ i. items_if (f q i) (slice_get ts k)) y ∙ ap (λ i. items_if (f i k) (slice_get ts k)) z)
table_is f q (suc p) k (ts ∷ rows) =
    let z : q + 1 + p ≡ q + suc p = omega arith in
    table_is f (q + 1) p k rows ∙ ap (λ i. items_if (f i k) (slice_get (get_or rows p []) k)) z

module _ (f : ℕ → ℕ → ℕ → Flow) (rows : List (List Told)) (p k j : ℕ) where
  abbrev flow : Flow
  flow = get_or (get_or (get_or (of_processes f 0 rows) p []) k []) j (Err NoEvent)

  flow_in : (o : Option Told) → slice_get (get_or rows p []) k ≡ o → flow ≡ get_or (items_if (f p k) o) j (Err NoEvent)
  flow_in o e =
      let z : 0 + p ≡ p = omega arith in
      ap (λ r. get_or r j (Err NoEvent)) (table_is f 0 p k rows ∙ (ap (λ i. items_if (f i k) (slice_get (get_or rows p []) k)) z ∙ ap (items_if (f p k)) e))

  -- of an item that is told
  pub flow_inside : (items : List Item) → slice_get (get_or rows p []) k ≡ Some (Ok items) → j < length items → flow ≡ f p k j
  flow_inside items e lt =
      let z : 0 + j ≡ j = omega arith in
      flow_in (Some (Ok items)) e ∙ (cell_there (f p k) (Err NoEvent) 0 (length items) j lt ∙ ap (f p k) z)

  -- and else
  pub flow_past : (items : List Item) → slice_get (get_or rows p []) k ≡ Some (Ok items) → length items ≤ j → flow ≡ Err NoEvent
  flow_past items e le = flow_in (Some (Ok items)) e ∙ cell_past (f p k) (Err NoEvent) 0 (length items) j le

  pub flow_nowhere : slice_get (get_or rows p []) k ≡ None → flow ≡ Err NoEvent
  flow_nowhere e = flow_in None e ∙ no_element j (Err NoEvent)

-- ---- what replays tell

module _ (setting : Setting) where
  abbrev pub told_of : LoggedInterval → Told
  told_of i = told_by (replay setting.program setting.plan (log_by setting.plan i) setting.budget).answer

  -- of a process that is there, and of none
  pub told_entries : (lists : List (List Entry)) (q : ℕ)
      → get_or (map (told_of_entries setting) lists) q [] ≡ told_of_entries setting (get_or lists q [])
  told_entries [] q = refl
  told_entries (es ∷ lists) zero = refl
  told_entries (es ∷ lists) (suc q) = told_entries lists q

  -- of an interval, by its own log
  pub told_logs : (lists : List (List Entry)) (q k : ℕ)
      → slice_get (get_or (map (told_of_entries setting) lists) q []) k ≡ option_map told_of (slice_get (indexed (get_or lists q [])) k)
  told_logs lists q k =
      ap (λ ts. slice_get ts k) (told_entries lists q) ∙ slice_get-map told_of (indexed (get_or lists q [])) k
