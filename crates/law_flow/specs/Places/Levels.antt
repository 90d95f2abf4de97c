-- Where a process stands in its intervals: those that run, with the innermost first, each with its parts so far.
use Rattle.std.specs.Prelude.{◌≡◌, ℕ, ◌<◌, true, false, List, [], ◌∷◌, ◌++◌, map, length, slice_get, Some, ⊤, is_some}
use Rattle.ppd_model.specs.declared.trace.TracedEvent.{TracedEvent}
use Rattle.ppd_model.specs.Intervals.{Part, own, nested, Span, Split}

-- an interval that runs: its block, and its parts before the one that runs inside it, if one does
pub record Level : Type 0 where
  pub interval : ℕ
  pub block : ℕ
  pub parts : List Part

-- the numbers of their intervals
abbrev pub numbers : List Level → List ℕ
numbers ls = map (λ l. l.interval) ls

-- ---- what they are

-- each interval among these parts has a number below n
abbrev pub AreBelow : ℕ → List Part → Type 0
AreBelow n [] = ⊤
AreBelow n (own m ∷ ps) = AreBelow n ps
AreBelow n (nested m ∷ ps) = (m < n) × AreBelow n ps

-- the level is of an interval that runs, inside these: its parts, and after them `inner`; all numbers of
-- intervals so far are below n
pub record IsLevel (spans : List Span) (n : ℕ) (inner : List Part) (outside : List ℕ) (l : Level) : Type 0 where
  pub span : Span
  pub there : slice_get spans l.interval ≡ Some span
  pub runs : is_some span.closed ≡ false
  pub block_is : span.block ≡ l.block
  pub round_is : span.round ≡ outside
  pub parts_are : span.parts ≡ l.parts ++ inner
  pub number : l.interval < n
  pub earlier : AreBelow n l.parts

-- each is inside the next, as its last part
abbrev pub AreLevels : List Span → ℕ → List Part → List Level → Type 0
AreLevels spans n inner [] = ⊤
AreLevels spans n inner (l ∷ ls) =
    IsLevel spans n inner (numbers ls) l × AreLevels spans l.interval (nested l.interval ∷ []) ls

-- these are the levels of the intervals that run
pub record StandsIn (x : Split) (ls : List Level) : Type 0 where
  pub running : x.running ≡ numbers ls
  pub levels : AreLevels x.spans (length x.spans) [] ls

-- ---- later times

-- a later state of an interval: it may have more parts, and once it is left it stays as it is
pub record IsLaterSpan (i j : Span) : Type 0 where
  pub block : j.block ≡ i.block
  pub round : j.round ≡ i.round
  pub frame : j.frame ≡ i.frame
  pub control : j.control ≡ i.control
  pub more : List Part
  pub parts : j.parts ≡ i.parts ++ more
  pub stays : is_some i.closed ≡ true → j ≡ i

-- a later state of a process: its events and its intervals so far are there
pub record IsLater (x y : Split) : Type 0 where
  pub events : (n : ℕ) (e : TracedEvent) → slice_get x.trace.events n ≡ Some e → slice_get y.trace.events n ≡ Some e
  pub spans : (k : ℕ) (i : Span) → slice_get x.spans k ≡ Some i
      → (j : Span) × (slice_get y.spans k ≡ Some j) × IsLaterSpan i j
