-- Which activation goes on at a place of an interval, as the items before the place tell it.
use Rattle.law_steps.specs.Policies.{setting_by}
use Rattle.std.specs.Prelude.{◌≡◌, ℕ, List, [], ◌∷◌, ◌++◌, map, slice_get, Option, Some, None, get_or}
use Rattle.std.specs.List.{flat_map}
use Rattle.ppd_ast.specs.Valid.{IsValid}
use Rattle.ppd_ast.specs.declared.plan.BlockKind.{BlockKind}
use Rattle.ppd_ast.specs.declared.plan.BlockKind.TheVariants as block
use Rattle.ppd_ast.specs.declared.plan.Plan.{Plan}
use Rattle.ppd_ast.specs.declared.plan.Policy.{Policy}
use Rattle.ppd_ast.specs.declared.program.Program.{Program}
use Rattle.ppd_blocks.specs.Blocks.{plan_of}
use Rattle.ppd_sem.specs.Blocks.{block_kind}
use Rattle.ppd_sem.specs.Described.{frame_of}
use Rattle.ppd_sem.specs.declared.proc.Frame.{Frame}
use Rattle.ppd_model.specs.declared.flow.Item.{Item}
use Rattle.ppd_model.specs.declared.trace.EventId.{EventId}
use Rattle.ppd_model.specs.declared.trace.TracedEvent.{TracedEvent}
use Rattle.ppd_model.specs.declared.tracing.Taken.{Taken}
use Rattle.ppd_model.specs.declared.tracing.Activation.{Activation}
use Rattle.ppd_model.specs.Intervals.{Part, own, Split, item_of, split_of, splits}
use Rattle.ppd_model.specs.Story.{story}
use Rattle.ppd_graph.specs.declared.leaf_call.LeafCall.{LeafCall}
use Rattle.ppd_graph.specs.Locals.{frame_in, leaf_at}
use Rattle.law_steps.specs.OpenBlocks.Stack.{process_block}
use Rattle.law_flow.specs.Places.Levels.{IsLater, Level, StandsIn}
use Rattle.law_flow.specs.Places.Closing.{closing}

-- the items of a level so far, as they are at a later time
abbrev pub items_so_far : Split → Level → List Item
items_so_far y l = flat_map (item_of y) l.parts

-- the call whose activation has no interval and goes on at the level
abbrev pub leaf_of : Program → Plan → Split → Level → Option LeafCall
leaf_of program plan y l = leaf_at program plan (items_so_far y l)

-- ---- what is open

abbrev pub of_leaf : Option LeafCall → List (Option ℕ)
of_leaf None = []
of_leaf (Some call) = None ∷ []

-- at these levels: None for an activation that goes on without an interval, and the block of each level
abbrev pub open_at : Program → Plan → Split → List Level → List (Option ℕ)
open_at program plan y [] = []
open_at program plan y (l ∷ ls) = of_leaf (leaf_of program plan y l) ++ (Some l.block ∷ open_at program plan y ls)

-- ---- which calls began the activations

-- what began an activation: the statement of the call, and its event
pub record Begun : Type 0 where
  pub stmt : Option ℕ
  pub event : Option EventId

abbrev pub begun_from : List (Option ℕ) → List (Option EventId) → List Begun
begun_from (c ∷ cs) (e ∷ es) = record { stmt = c; event = e } ∷ begun_from cs es
begun_from cs es = []

-- of each activation, the top one first
abbrev pub begun_by : List Frame → List Activation → List Begun
begun_by frames xs = begun_from (map (λ f. f.call) frames) (map (λ x. x.call) xs)

-- statement s, by event i among these parts
pub record IsBegunAt (p : ℕ) (parts : List Part) (i s : ℕ) (c : Begun) : Type 0 where
  pub event : ℕ
  pub stmt_is : c.stmt ≡ Some s
  pub event_is : c.event ≡ Some (record { process = p; number = event })
  pub at : slice_get parts i ≡ Some (own event)

-- the last part of the first level, where no activation without an interval goes on
pub record IsBegunLast (program : Program) (plan : Plan) (p : ℕ) (y : Split) (l : Level) (c : Begun) : Type 0 where
  pub before : List Part
  pub event : ℕ
  pub traced : TracedEvent
  pub parts_are : l.parts ≡ before ++ own event ∷ []
  pub traced_is : slice_get y.trace.events event ≡ Some traced
  pub stmt_is : c.stmt ≡ Some traced.event.stmt
  pub event_is : c.event ≡ Some (record { process = p; number = event })
  pub no_leaf : leaf_of program plan y l ≡ None

abbrev pub IsBegunOutside : Program → Plan → ℕ → Split → List Level → Begun → Type 0
IsBegunOutside program plan p y [] c = ⊥
IsBegunOutside program plan p y (l ∷ ls) c = IsBegunLast program plan p y l c

-- a first activation, of which this holds, and the others
abbrev pub First : (Begun → Type 0) → (List Begun → Type 0) → List Begun → Type 0
First P rest [] = ⊥
First P rest (c ∷ cs) = P c × rest cs

-- nothing began a process
abbrev pub IsProcess : List Begun → Type 0
IsProcess cs = cs ≡ record { stmt = None; event = None } ∷ []

-- the activation of a level of this kind: a loop runs in the one round it, a function was called just before, and
-- a process stands alone
abbrev pub AreBegunIn : (Begun → Type 0) → (List Begun → Type 0) → Type 0 → BlockKind → List Begun → Type 0
AreBegunIn called outside alone (block.Loop q) cs = outside cs
AreBegunIn called outside alone (block.Function f) cs = First called outside cs
AreBegunIn called outside alone (block.Process b) cs = IsProcess cs × alone

-- an activation without an interval, if one goes on, was called by the item that the search tells
abbrev pub AreBegunBy : ℕ → List Part → Option LeafCall → (List Begun → Type 0) → List Begun → Type 0
AreBegunBy p parts None own_ones cs = own_ones cs
AreBegunBy p parts (Some call) own_ones cs = First (IsBegunAt p parts call.item call.stmt) own_ones cs

-- so it is at each of these levels
abbrev pub AreBegun : Program → Plan → ℕ → Split → List Level → List Begun → Type 0
AreBegun program plan p y [] cs = ⊥
AreBegun program plan p y (l ∷ ls) cs =
    AreBegunBy p l.parts (leaf_of program plan y l)
    (AreBegunIn (IsBegunOutside program plan p y ls) (AreBegun program plan p y ls) (ls
    ≡ []) (block_kind plan l.block)) cs

-- ---- what the items tell

-- the frame of the first level's place: 1 in an activation without an interval
abbrev pub frame_at : Program → Plan → Split → List Level → ℕ
frame_at program plan y [] = 0
frame_at program plan y (l ∷ ls) = frame_in (leaf_of program plan y l)

-- the levels of a process in state x, told by its items as they are at a later time y: they are open just as what
-- is to do closes them, the activations that go on were called as told, and the frame of the next step is that of
-- its place
pub record IsTold (program : Program) (plan : Plan) (p : ℕ) (x y : Split) : Type 0 where
  pub levels : List Level
  pub stands : StandsIn x levels
  pub later : IsLater x y
  pub open_is : open_at program plan y levels
      ≡ closing program plan x.trace.proc.todo ++ Some (process_block program plan p) ∷ []
  pub begun : AreBegun program plan p y levels (begun_by x.trace.proc.frames x.trace.activations)
  pub frame_is : frame_of program plan x.trace.proc ≡ frame_at program plan y levels

-- so it is at each moment of a schedule of a valid program at which the process has not stopped
abbrev pub LeafTells : Type 0
LeafTells =
    (program : Program) (policy : Policy) (budget : ℕ) (h : List ℕ) (p : ℕ) (y : Split) (before after : List Taken)
    → IsValid program
    → slice_get (splits (setting_by program policy budget) (story (setting_by program policy budget) h)) p
    ≡ Some y
    → get_or (story (setting_by program policy budget) h).steps p [] ≡ before ++ after
    → (split_of (setting_by program policy budget)
    (story (setting_by program policy budget) h) p before).trace.proc.status ≡ None
    → IsTold program (plan_of program policy) p
    (split_of (setting_by program policy budget) (story (setting_by program policy budget) h) p before) y
