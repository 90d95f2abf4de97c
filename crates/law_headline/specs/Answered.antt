-- What is answered of a run, beside what a schedule of it does.
use Rattle.std.specs.Prelude.{◌≡◌, ℕ, ◌<◌, List, [], ◌∷◌, codes, map, get_or, length, slice_get, Option, Some, None, Ok, Err}
use Rattle.ppd_model.specs.Story.{story}
use Rattle.ppd_ast.specs.Digits.{number_in}
use Rattle.ppd_model.specs.declared.flow.FlowEdge.{FlowEdge}
use Rattle.ppd_model.specs.declared.flow.Item.{Item}
use Rattle.ppd_model.specs.declared.flow.Origin.TheVariants as origin
use Rattle.ppd_model.specs.declared.trace.TracedEvent.{TracedEvent}
use Rattle.ppd_model.specs.FlowbackEdges.{edges, edges_of_event, last}
use Rattle.ppd_model.specs.FullTrace.{full_trace}
use Rattle.ppd_model.specs.Intervals.{items, ref}
use Rattle.ppd_sem.specs.declared.event.Event.{Event}
use Rattle.ppd_session.specs.Known.{Known, Told}
use Rattle.ppd_session.specs.Questions.{process_named, words_of}
use Rattle.ppd_session.specs.Texts.{failure_of, flow_at, text_of, told_at}
use Rattle.ppd_text.specs.Edges.{why_text}
use Rattle.law_flow.specs.Joined.{events_in}
use Rattle.law_flow.specs.JoinedLaws.{bare}
use Rattle.law_headline.specs.Runs.{Run, plan_in, splits_in, story_in, setting_in}

-- ---- values

-- the items that are told of an interval, and none where its replay failed
abbrev pub items_told : Told → List Item
items_told (Ok items) = items
items_told (Err n) = []

-- the events that are told of a process, in order: those in its intervals, each interval's at its place
abbrev pub events_told : List Told → List Event
events_told intervals = events_in (record { items = map items_told intervals; blocks = []; rounds = [] })

-- told, where it is there
abbrev pub told_if : Option (List Item) → Option Told
told_if None = None
told_if (Some items) = Some (Ok items)

-- the values answered are those of this schedule: all events that are told, with what each read and wrote, are the
-- events of its full trace; interval by interval; and the last values with the writes that they are from
pub record AreValuesOf (r : Run) (h : List ℕ) (x : Known) : Type 0 where
  pub events : map events_told x.items
      ≡ map bare (full_trace (setting_in r) (story (setting_in r) h)).events
  pub intervals : (p k : ℕ) → told_at x p k ≡ told_if (items (setting_in r) (story_in r h) p k)
  pub lasts : (c : ℕ) → c < length r.program.starts
      → slice_get x.lasts c ≡ Some (Ok (last (setting_in r) (story_in r h) c))

-- ---- flowback edges

-- these are the flowback edges, in order, of item j of interval k of process p in this schedule
abbrev pub HasEdges : Run → (h : List ℕ) → (p k j : ℕ) → List FlowEdge → Type 0
HasEdges r h p k j es = edges (setting_in r) (story_in r h) p k j ≡ Some es

-- the edges that are answered of an item are its edges in this schedule
abbrev pub AreEdgesOf : Run → (h : List ℕ) → Known → Type 0
AreEdgesOf r h x = (p k j : ℕ) (es : List FlowEdge) → flow_at x p k j ≡ Ok es → HasEdges r h p k j es

-- item j of interval k of process p in this schedule
abbrev pub IsItem : Run → (h : List ℕ) → (p k j : ℕ) → Item → Type 0
IsItem r h p k j item =
    (is : List Item) × (items (setting_in r) (story_in r h) p k ≡ Some is)
    × (slice_get is j ≡ Some item)

-- the line asks for the edges of item j of interval k of process p: by `why`, the process's name, and both numbers
pub record AsksEdges (r : Run) (line : List ℕ) (p k j : ℕ) : Type 0 where
  pub name : List ℕ
  pub interval : List ℕ
  pub item : List ℕ
  pub words_are : words_of line ≡ codes "why" ∷ name ∷ interval ∷ item ∷ []
  pub process_is : process_named r.program name ≡ Some p
  pub interval_is : number_in interval ≡ Some k
  pub item_is : number_in item ≡ Some j

-- event n of process p in the full trace of this schedule is an item, at the place at which it is referred to, and the
-- edges answered of it are exactly its own: from the writer of each value that it read, from its pair, and from its
-- control parent
pub record HasItsEdges (r : Run) (h : List ℕ) (x : Known) (p n : ℕ) (e : TracedEvent) : Type 0 where
  pub interval : ℕ
  pub item : ℕ
  pub place : ref (splits_in r h) (record { process = p; number = n }) ≡ origin.Item p interval item
  pub edges : flow_at x p interval item ≡ Ok (edges_of_event r.program (splits_in r h) e)

-- no line is left without an answer; each event of the full trace, and each item, has all its edges; and the answer to
-- a line that asks for those of an item is the item with every one of them
pub record MissesNoEdge (r : Run) (h : List ℕ) (x : Known) : Type 0 where
  pub lines : (line : List ℕ) → failure_of x line ≡ None
  pub events : (p n : ℕ) (e : TracedEvent)
      → slice_get
      (get_or (full_trace (setting_in r) (story (setting_in r) h)).events p []) n
      ≡ Some e
      → HasItsEdges r h x p n e
  pub items : (p k j : ℕ) (es : List FlowEdge) → HasEdges r h p k j es → flow_at x p k j ≡ Ok es
  pub requested : (line : List ℕ) (p k j : ℕ) (item : Item) (es : List FlowEdge)
      → AsksEdges r line p k j → IsItem r h p k j item → HasEdges r h p k j es
      → text_of x line ≡ why_text r.program (plan_in r) j item es
