-- What the scans of an interval's items and of the loops among them tell of the tags that local cells have.
use Rattle.std.specs.Prelude.{◌≡◌, ℕ, ◌-◌, ◌<◌, ◌||◌, Bool, true, false, not, List, [], ◌∷◌, slice_get, Option, Some, None, is_some, ⊤}
use Rattle.ppd_ast.specs.declared.plan.BlockKind.{BlockKind}
use Rattle.ppd_ast.specs.declared.plan.BlockKind.TheVariants as block
use Rattle.ppd_ast.specs.declared.plan.Plan.{Plan}
use Rattle.ppd_ast.specs.declared.program.Program.{Program}
use Rattle.ppd_ast.specs.Lookups.{kind_of}
use Rattle.ppd_sem.specs.Blocks.{block_kind, postlog_cells}
use Rattle.ppd_sem.specs.Process.{into_of}
use Rattle.ppd_sem.specs.Tables.{block_of}
use Rattle.ppd_model.specs.FullTrace.{Tag}
use Rattle.std.specs.Option.{option_or}
use Rattle.ppd_model.specs.Intervals.{Span, Split}
use Rattle.ppd_model.specs.NearIntervals.{is_in, is_loop}
use Rattle.ppd_model.specs.Synchronizations.{is_number}
use Rattle.ppd_model.specs.declared.flow.Origin.{Origin}
use Rattle.ppd_graph.specs.declared.leaf_call.LeafCall.{LeafCall}
use Rattle.ppd_graph.specs.Locals.{Scan, frame_in, in_loops, scan, writer_at}
use Rattle.ppd_graph.specs.Seen.{seen_of}
use Rattle.law_flow.specs.Places.Levels.{Level}
use Rattle.law_flow.specs.Places.Leaves.{items_so_far, leaf_of}
use Rattle.law_flow.proofs.Vocabulary.Says.{IsUnwritten, SaysOr, activations, with_own}

-- the origin that a scan of interval k finds: in the loops since the cell's writer, or that writer
abbrev pub of_scan : Program → Plan → ℕ → Split → ℕ → ℕ → Scan → Option Origin
of_scan program plan p y k c s =
    option_or (in_loops program plan (seen_of y) p c s.loops).found (writer_at (seen_of y) p k s.writer).found

-- what is found among a level's items
abbrev pub here : Program → Plan → ℕ → Split → Level → ℕ → ℕ → Option Origin
here program plan p y l frame c =
    of_scan program plan p y l.interval c (scan program plan frame c (items_so_far y l))

-- ---- before a level

-- what a loop's cell had when the loop was entered, by the activation that goes on outside it
abbrev pub IsOutside : Program → Plan → ℕ → Split → Level → List Level → Option LeafCall → ℕ → Tag → Type 0
IsOutside program plan p y o os None c w =
    SaysOr y p (here program plan p y o 0 c) w (IsUnwritten plan p y o.block os (block_kind plan o.block) c w)
IsOutside program plan p y o os (Some call) c w = SaysOr y p (here program plan p y o 1 c) w ⊥

-- the tag that a cell has before the first write in an interval of this kind
abbrev pub IsBefore : Program → Plan → ℕ → Split → ℕ → BlockKind → List Level → ℕ → Tag → Type 0
IsBefore program plan p y b (block.Loop q) [] c w = ⊥
IsBefore program plan p y b (block.Loop q) (o ∷ os) c w =
    IsOutside program plan p y o os (leaf_of program plan y o) c w
IsBefore program plan p y b (block.Function f) outside c w = IsUnwritten plan p y b outside (block.Function f) c w
IsBefore program plan p y b (block.Process f) outside c w = IsUnwritten plan p y b outside (block.Process f) c w

-- the number of the activation in which a level runs
abbrev pub own_number : Program → Plan → Split → Level → List Level → ℕ
own_number program plan y l outside = with_own (block_kind plan l.block) (activations program plan y outside) - 1

-- ---- loops

-- the cell to which the call of statement s returns is in the postlog of block b
abbrev pub Takes : Program → Plan → ℕ → ℕ → Type 0
Takes program plan b s =
    (c : ℕ) → is_number (into_of (kind_of program s)) c ≡ true → is_in c (postlog_cells plan b) ≡ true

-- no loop runs directly in a loop of the same activation
abbrev pub IsApart : Program → Plan → Split → List Level → Type 0
IsApart program plan y [] = ⊤
IsApart program plan y (o ∷ os) = leaf_of program plan y o ≡ None → is_loop (block_kind plan o.block) ≡ false

-- a function that runs directly in a loop returns into the loop's postlog
abbrev pub IsCalledIn : Program → Plan → Split → BlockKind → List Level → Type 0
IsCalledIn program plan y (block.Function f) (o ∷ os) =
    is_loop (block_kind plan o.block) ≡ true
    → Takes program plan o.block (scan program plan 0 0 (items_so_far y o)).call
IsCalledIn program plan y k outside = ⊤

-- the interval has the frame of the activation that goes on outside it
abbrev pub IsFramed : Program → Plan → Split → Span → List Level → Type 0
IsFramed program plan y i [] = ⊤
IsFramed program plan y i (o ∷ os) = i.frame ≡ frame_in (leaf_of program plan y o)

-- a loop's level: no loop is among its items, what it writes is in its postlog
pub record IsLoopTold (program : Program) (plan : Plan) (p : ℕ) (y : Split) (l : Level) (outside : List Level)
    : Type 0 where
  pub no_loops : (c : ℕ) → (scan program plan 0 c (items_so_far y l)).loops ≡ []
  pub kept : (c : ℕ) → is_in c (postlog_cells plan l.block) ≡ false → here program plan p y l 0 c ≡ None
  pub leaf_in : (call : LeafCall) → leaf_of program plan y l ≡ Some call → Takes program plan l.block call.stmt
  pub apart : IsApart program plan y outside
  pub framed : (i : Span) → slice_get y.spans l.interval ≡ Some i → IsFramed program plan y i outside
  pub listed : (q : ℕ) → block_kind plan l.block ≡ block.Loop q → block_of plan (block.Loop q) ≡ Some l.block

-- ---- a level

-- the cells of the activation in which it runs
abbrev pub OwnTold : Program → Plan → ℕ → Split → (ℕ → ℕ) → (ℕ → ℕ → Tag) → Level → List Level → ℕ → Type 0
OwnTold program plan p y sizes tags l outside n =
    (c : ℕ) → c < sizes n → SaysOr y p (here program plan p y l 0 c) (tags n c)
    (IsBefore program plan p y l.block (block_kind plan l.block) outside c (tags n c))

-- the cells of an activation without an interval
abbrev pub LeafTold : Program → Plan → ℕ → Split → (ℕ → ℕ) → (ℕ → ℕ → Tag) → Level → ℕ → Type 0
LeafTold program plan p y sizes tags l n =
    (c : ℕ) → c < sizes n → SaysOr y p (here program plan p y l 1 c) (tags n c) ⊥

-- where a loop runs directly inside, it has the cells of the activation that goes on
pub record IsTold (program : Program) (plan : Plan) (p : ℕ) (y : Split) (sizes : ℕ → ℕ) (tags : ℕ → ℕ → Tag)
    (told : Bool) (l : Level) (outside : List Level) : Type 0 where
  pub own_cells : (told || is_some (leaf_of program plan y l)) ≡ true
      → OwnTold program plan p y sizes tags l outside (own_number program plan y l outside)
  pub leaf_cells : told ≡ true → (call : LeafCall) → leaf_of program plan y l ≡ Some call
      → LeafTold program plan p y sizes tags l
      (with_own (block_kind plan l.block) (activations program plan y outside))
  pub loop : is_loop (block_kind plan l.block) ≡ true → IsLoopTold program plan p y l outside
  pub called : IsCalledIn program plan y (block_kind plan l.block) outside
  pub counted : 0 < with_own (block_kind plan l.block) (activations program plan y outside)

-- so it is at each of these levels
abbrev pub LoopTells : Program → Plan → ℕ → Split → (ℕ → ℕ) → (ℕ → ℕ → Tag) → Bool → List Level → Type 0
LoopTells program plan p y sizes tags told [] = ⊤
LoopTells program plan p y sizes tags told (l ∷ ls) =
    IsTold program plan p y sizes tags told l ls
    × LoopTells program plan p y sizes tags (not (is_loop (block_kind plan l.block))) ls
