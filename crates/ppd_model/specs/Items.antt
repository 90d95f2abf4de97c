-- Items are whole: no part of an interval is dropped, and each event is an item of one interval.
use Rattle.ppd_model.specs.Setting.{Setting}
use Rattle.std.specs.Prelude.{◌≡◌, ℕ, ◌<◌, List, length, slice_get, Some}
use Rattle.ppd_ast.specs.Valid.{IsValid}
use Rattle.ppd_model.specs.declared.flow.Origin.TheVariants as origin
use Rattle.ppd_model.specs.Story.{story}
use Rattle.ppd_model.specs.Intervals.{own, Span, Split, items_of, ref, splits}
use Rattle.ppd_model.specs.FlowbackEdges.{part_at}

-- each part of the interval is an item
abbrev pub EachPartIsItem : Split → Span → Type 0
EachPartIsItem x i = length (items_of x i) ≡ length i.parts

-- event n is item j of interval k, and no other item
pub record IsItemOnce (x : Split) (n k j : ℕ) : Type 0 where
  pub there : part_at x k j ≡ Some (own n)
  pub once : (k' j' : ℕ) → part_at x k' j' ≡ Some (own n) → (k' ≡ k) × (j' ≡ j)

-- event n of process p is an item of one interval, and there it is referred to
pub record IsReferred (xs : List Split) (x : Split) (p n : ℕ) : Type 0 where
  pub interval : ℕ
  pub item : ℕ
  pub placed : IsItemOnce x n interval item
  pub ref_is : ref xs (record { process = p; number = n }) ≡ origin.Item p interval item

-- the intervals of process p have whole items, and its events are items of them
pub record HasWholeItems (xs : List Split) (x : Split) (p : ℕ) : Type 0 where
  pub whole : (k : ℕ) (i : Span) → slice_get x.spans k ≡ Some i → EachPartIsItem x i
  pub events : (n : ℕ) → n < length x.trace.events → IsReferred xs x p n

-- so it is with each process after each schedule of a valid program
abbrev pub ItemsAreWhole : Type 0
ItemsAreWhole =
    (setting : Setting) (h : List ℕ) (p : ℕ) (x : Split) → IsValid setting.program
    → slice_get (splits setting (story setting h)) p ≡ Some x
    → HasWholeItems (splits setting (story setting h)) x p
