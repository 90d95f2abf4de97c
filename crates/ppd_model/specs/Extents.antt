-- Where the intervals of a process stand in its log: a prelog and its postlog, properly nested.
use Rattle.ppd_model.specs.Setting.{Setting}
pub use Rattle.ppd_model.specs.IntervalLogs.{Extent, functions_in}
use Rattle.ppd_model.specs.IntervalLogs.{indexed}
use Rattle.ppd_model.specs.declared.entry.Entry.{Entry}
use Rattle.ppd_model.specs.declared.entry.Entry.TheVariants as entry
use Rattle.ppd_model.specs.Bounds.{AreEach}
use Rattle.ppd_model.specs.Intervals.{Span, Split, splits}
use Rattle.ppd_model.specs.Logs.{Logging, closed_log, loggings}
use Rattle.ppd_model.specs.Story.{story}
use Rattle.std.specs.Prelude.{Bool, List, Some, [], false, is_some, length, map, slice_get, true, ℕ, ℤ, ◌++◌, ◌+◌, ◌∷◌, ◌≡◌}

-- ---- what matches

-- the entry neither enters nor leaves a block
abbrev pub is_within : Entry → Bool
is_within (entry.Prelog b values) = false
is_within (entry.Postlog b values) = false
is_within e = true

-- each prelog of these has its postlog, and each postlog its prelog, properly nested
pub data AreMatched : List Entry → Type 0 where
  none : AreMatched []
  within : {e : Entry} {es : List Entry} → is_within e ≡ true → AreMatched es → AreMatched (e ∷ es)
  pair : {b : ℕ} {vs : List ℤ} {es : List Entry} (c : ℕ) (ws : List ℤ) (inner rest : List Entry)
      → es ≡ inner ++ entry.Postlog c ws ∷ rest → AreMatched inner → AreMatched rest
      → AreMatched (entry.Prelog b vs ∷ es)

-- and some prelogs that have none
pub data AreOpen : List Entry → Type 0 where
  matched : {es : List Entry} → AreMatched es → AreOpen es
  opened : {es : List Entry} (b : ℕ) (vs : List ℤ) (inner rest : List Entry) → es ≡ inner ++ entry.Prelog b vs ∷ rest
      → AreMatched inner → AreOpen rest → AreOpen es

-- entry i is a prelog, and entry j is its postlog: what stands between them matches
pub record IsLeftAt (entries : List Entry) (i j : ℕ) : Type 0 where
  pub before : List Entry
  pub block : ℕ
  pub values : List ℤ
  pub inner : List Entry
  pub left : ℕ
  pub result : List ℤ
  pub after : List Entry
  pub entries_are : entries ≡ before ++ entry.Prelog block values ∷ (inner ++ entry.Postlog left result ∷ after)
  pub first : i ≡ length before
  pub last : j ≡ length before + 1 + length inner
  pub between : AreMatched inner

-- entry i is a prelog that has no postlog
pub record IsNotLeft (entries : List Entry) (i : ℕ) : Type 0 where
  pub before : List Entry
  pub block : ℕ
  pub values : List ℤ
  pub rest : List Entry
  pub entries_are : entries ≡ before ++ entry.Prelog block values ∷ rest
  pub first : i ≡ length before
  pub since : AreOpen rest

-- ---- the intervals of a log

-- where the intervals of a process's entries stand
abbrev pub extents : List Entry → List Extent
extents entries = map (λ i. i.extent) (indexed entries)

-- ---- what they are

-- an interval that is left goes from its prelog to the postlog that matches; the prelog of another has none
pub record IsExtent (entries : List Entry) (x : Extent) : Type 0 where
  pub left : x.closed ≡ true → (j : ℕ) × (x.last ≡ Some j) × IsLeftAt entries x.prelog j
  pub going : x.closed ≡ false → IsNotLeft entries x.prelog

-- so it is with each interval of every list of entries
abbrev pub ExtentsMatch : Type 0
ExtentsMatch = (entries : List Entry) (k : ℕ) (x : Extent) → slice_get (extents entries) k ≡ Some x → IsExtent entries x

-- an interval of a story and one of a log: of one block, directly inside the same interval, and both left or not
pub record IsSameInterval (i : Span) (x : Extent) : Type 0 where
  pub block : i.block ≡ x.block
  pub round : slice_get i.round 0 ≡ x.parent
  pub closed : is_some i.closed ≡ x.closed

-- the intervals of a process's own steps are those of its log, in order
pub record AreOfLog (x : Split) (kept closed : List Entry) : Type 0 where
  pub kept_are : AreEach IsSameInterval x.spans (extents kept)
  pub closed_are : AreEach IsSameInterval x.spans (extents closed)

-- so it is after each schedule
abbrev pub IntervalsAreOfLogs : Type 0
IntervalsAreOfLogs =
    (setting : Setting) (h : List ℕ) (p : ℕ) (x : Split) (l : Logging)
    → slice_get (splits setting (story setting h)) p ≡ Some x
    → slice_get (loggings setting h) p ≡ Some l → AreOfLog x l.entries (closed_log l)
