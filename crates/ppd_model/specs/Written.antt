-- Which step of a process wrote an entry of its log, and so the entries that an interval's steps wrote.
use Rattle.ppd_model.specs.Setting.{Setting}
use Rattle.std.specs.Prelude.{◌≡◌, ℕ, ◌<◌, ◌≤◌, ◌⊎◌, List, [], ◌∷◌, ◌++◌, length, slice_get, Some, None}
use Rattle.ppd_ast.specs.declared.status.Status.{Status}
use Rattle.ppd_model.specs.declared.entry.Entry.{Entry}
use Rattle.ppd_model.specs.declared.entry.Entry.TheVariants as entry
use Rattle.ppd_model.specs.Bounds.{AreEach}
use Rattle.ppd_model.specs.Extents.{Extent, extents}
use Rattle.ppd_model.specs.Intervals.{Span, Split, splits}
use Rattle.ppd_model.specs.Logs.{closed_log, log_of}
use Rattle.ppd_model.specs.Story.{Moment, story, told}

-- step n of process p wrote entry j: with the steps before it the log was shorter, with it the entry is there
pub record WroteEntry (setting : Setting) (p : ℕ) (moments : List Moment) (n j : ℕ) : Type 0 where
  pub before : List Moment
  pub moment : Moment
  pub after : List Moment
  pub moments_are : moments ≡ before ++ moment ∷ after
  pub step : n ≡ length before
  pub new : length (log_of setting p before).entries ≤ j
  pub there : j < length (log_of setting p (before ++ moment ∷ [])).entries

-- entry j is an end of the process
pub record IsEndAt (entries : List Entry) (j : ℕ) : Type 0 where
  pub status : Status
  pub rest : ℕ
  pub reads : List ℕ
  pub writes : List ℕ
  pub at : slice_get entries j ≡ Some (entry.End status rest reads writes)

-- an interval of the story and of the log, where step n wrote entry j as told, and entry j is an end as told:
-- its prelog is of the step that opened it, or entry 0, which is there before the first step; where it is left,
-- its postlog is of the step that left it; where it is not, its last entry is an end
pub record IsOfSteps (IsOf : ℕ → ℕ → Type 0) (IsEnd : ℕ → Type 0) (i : Span) (x : Extent) : Type 0 where
  pub opened : ((i.opened ≡ 0) × (x.prelog ≡ 0)) ⊎ IsOf i.opened x.prelog
  pub closed : (n : ℕ) → i.closed ≡ Some n → (j : ℕ) × (x.last ≡ Some j) × IsOf n j
  pub going : i.closed ≡ None → (j : ℕ) → x.last ≡ Some j → IsEnd j

-- the intervals of a process's log are of its steps; an end is of a step too, or closes the log after all of them
pub record AreOfSteps (setting : Setting) (p : ℕ) (x : Split) (moments : List Moment) : Type 0 where
  pub kept_are : AreEach (IsOfSteps (WroteEntry setting p moments)
      (λ j. IsEndAt (log_of setting p moments).entries j × ((n : ℕ) × WroteEntry setting p moments n j)))
      x.spans (extents (log_of setting p moments).entries)
  pub closed_are : AreEach (IsOfSteps (WroteEntry setting p moments)
      (λ j. IsEndAt (closed_log (log_of setting p moments)) j
      × ((j ≡ length (log_of setting p moments).entries) ⊎ ((n : ℕ) × WroteEntry setting p moments n j))))
      x.spans (extents (closed_log (log_of setting p moments)))

-- so it is after each schedule
abbrev pub IntervalsAreOfSteps : Type 0
IntervalsAreOfSteps =
    (setting : Setting) (h : List ℕ) (p : ℕ) (x : Split) (moments : List Moment)
    → slice_get (splits setting (story setting h)) p ≡ Some x
    → slice_get (told setting h).moments p ≡ Some moments → AreOfSteps setting p x moments
