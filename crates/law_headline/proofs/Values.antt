-- What is told of a run by a schedule without a race are the values of that schedule.
use Rattle.ppd_model.specs.Setting.{Setting}
use Rattle.ppd_model.specs.Races.{races_among, edges_of_story}
use Rattle.std.specs.Prelude.{None, Some, slice_get}
use Rattle.std.proofs.Common.{◌≡◌, ℕ, zero, suc, ◌+◌, ◌<◌, List, [], ◌∷◌, Option, Ok, arith, get_or, length, map, refl, ap, ap₂, ◌∙◌}
use Rattle.ppd_ast.specs.Valid.{IsValid}
use Rattle.ppd_graph.specs.Seen.{Seen, seen_of}
use Rattle.ppd_model.specs.declared.flow.Item.{Item}
use Rattle.ppd_model.specs.declared.tracing.Taken.{Taken}
use Rattle.ppd_model.specs.declared.tracing.Tracing.{Tracing}
use Rattle.ppd_model.proofs.TraceWords.{events_from}
use Rattle.ppd_model.specs.Intervals.{Span, Split, items_of}
use Rattle.ppd_model.proofs.IntervalWords.{items_at as items_at_span, items_in, splits_from}
use Rattle.ppd_model.specs.declared.tracing.Story.{Story}
use Rattle.ppd_model.specs.Story.{story}
use Rattle.ppd_model.specs.Laws.{ProcessesFollowTheirSteps}
use Rattle.ppd_model.proofs.OneHistory.{map-map}
use Rattle.ppd_session.specs.Known.{Known, known_of_run, told_of_split, unless_raced}
use Rattle.ppd_session.specs.Texts.{told_at}
use Rattle.ppd_session.proofs.Tables.{cell_at}
use Rattle.law_flow.specs.Joined.{events_in, events_of_items, joined}
use Rattle.law_flow.specs.JoinedLaws.{JoinedAreEvents, bare}
use Rattle.law_headline.specs.Answered.{AreValuesOf, events_told, items_told, told_if}
use Rattle.law_headline.specs.Runs.{Run, splits_in, story_in, setting_in}
use Rattle.law_headline.proofs.Tables.{told_in, told_in_span, told_row}
use Rattle.ppd_session.proofs.KnownWords.{of_cells, last_told}

-- ---- events

map_same : {A B : Type 0} (f g : A → B) (xs : List A) → ((i : ℕ) (x : A) → slice_get xs i ≡ Some x → f x ≡ g x) → map f xs ≡ map g xs
map_same f g [] h = refl
map_same f g (x ∷ xs) h = ap₂ (λ y ys. y ∷ ys) (h 0 x refl) (map_same f g xs (λ i y e. h (suc i) y e))

-- they are joined by items alone
joined_same : (n : ℕ) (a b : Seen) → a.items ≡ b.items → (m : ℕ) → joined n a m ≡ joined n b m
joined_same zero a b e m = refl
joined_same (suc n) a b e m = λ i. events_of_items (λ k. joined_same n a b e k i) (get_or (e i) m [])

events_same : (a b : Seen) → a.items ≡ b.items → events_in a ≡ events_in b
events_same a b e = ap (λ (is : List (List Item)). joined (length is) a 0) e ∙ joined_same (length b.items) a b e 0

told_events : (y : Split) → events_told (told_of_split y) ≡ events_in (seen_of y)
told_events y =
    ap (λ is. events_in (record { items = is; blocks = []; rounds = [] })) (map-map items_told (λ (i : Span). Ok (items_of y i)) y.spans)
    ∙ events_same (record { items = map (items_of y) y.spans; blocks = []; rounds = [] }) (seen_of y) refl

module _ (follow : ProcessesFollowTheirSteps) (setting : Setting) (h : List ℕ) where
  abbrev told_story : Story
  told_story = story setting h

  -- a process in its intervals has its trace
  pub traced : (k : ℕ) (steps : List (List Taken)) → map (λ (y : Split). bare y.trace.events) (splits_from setting told_story k steps) ≡ map bare (events_from setting told_story k steps)
  traced k [] = refl
  traced k (s ∷ rest) =
      ap₂ (λ y ys. y ∷ ys) (ap (λ (t : Tracing). bare t.events) ((follow setting h).split told_story k s))
      (traced (k + 1) rest)

-- ---- the values

if_there : (y : Split) (k : ℕ) (o : Option Span) → told_in_span y o ≡ told_if (items_at_span y o)
if_there y k None = refl
if_there y k (Some i) = refl

pub told_as : (k : ℕ) (o : Option Split) → told_in k o ≡ told_if (items_in k o)
told_as k None = refl
told_as k (Some y) = if_there y k (slice_get y.spans k)

module _ (r : Run) (valid : IsValid r.program) (h : List ℕ) (free : races_among (edges_of_story r.program (story_in r h)) ≡ []) where
  abbrev known : Known
  known = known_of_run (setting_in r) h

  pub rows_are : known.items ≡ map told_of_split (splits_in r h)
  rows_are = ap (λ rs. unless_raced rs (map told_of_split (splits_in r h))) free

  pub told_here : (p k : ℕ) → told_at known p k ≡ told_in k (slice_get (splits_in r h) p)
  told_here p k = ap (λ rows. slice_get (get_or rows p []) k) rows_are ∙ told_row (splits_in r h) p k

  events_are : ProcessesFollowTheirSteps → JoinedAreEvents → map events_told known.items ≡ map bare (events_from (setting_in r) (story_in r h) 0 (story_in r h).steps)
  events_are follow joined_events =
      ap (λ rows. map events_told rows) rows_are
      ∙ (map-map events_told told_of_split (splits_in r h)
      ∙ (map_same (λ y. events_told (told_of_split y)) (λ (y : Split). bare y.trace.events) (splits_in r h)
      (λ p y e. told_events y ∙ joined_events (setting_in r) h p y valid e)
      ∙ traced follow (setting_in r) h 0 (story_in r h).steps))

  last_is : (c : ℕ) → c < length r.program.starts → slice_get known.lasts c ≡ Some (last_told (setting_in r) (story_in r h) c)
  last_is c lt =
      let z : 0 + c ≡ c = omega arith in
      ap (λ rs. slice_get (unless_raced rs (of_cells (last_told (setting_in r) (story_in r h)) 0 (length r.program.starts))) c) free
      ∙ (cell_at (last_told (setting_in r) (story_in r h)) 0 (length r.program.starts) c lt
      ∙ ap (λ i. Some (last_told (setting_in r) (story_in r h) i)) z)

  pub values_are : ProcessesFollowTheirSteps → JoinedAreEvents → AreValuesOf r h known
  values_are follow joined_events = record {
    events = events_are follow joined_events;
    intervals = λ p k. told_here p k ∙ told_as k (slice_get (splits_in r h) p);
    lasts = last_is;
  }
