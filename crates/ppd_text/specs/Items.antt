-- The line of each item of an interval: what it is, what it read and wrote, and what came of it.
use Rattle.ppd_ast.specs.Lookups.{body_numbered}
use Rattle.ppd_ast.specs.declared.plan.BlockKind.{BlockKind}
use Rattle.ppd_ast.specs.declared.plan.BlockKind.TheVariants.{Loop}
use Rattle.ppd_ast.specs.declared.plan.Plan.{Plan}
use Rattle.ppd_ast.specs.declared.program.Kind.{Kind}
use Rattle.ppd_ast.specs.declared.program.Kind.TheVariants as kind
use Rattle.ppd_ast.specs.declared.program.Program.{Program}
use Rattle.ppd_ast.specs.declared.program.Stmt.{Stmt}
use Rattle.ppd_ast.specs.declared.program.Var.{Var}
use Rattle.ppd_ast.specs.declared.status.SyncKind.TheVariants as sync
use Rattle.ppd_model.specs.declared.flow.Item.{Item}
use Rattle.ppd_model.specs.declared.flow.Item.TheVariants.{Nested, Own}
use Rattle.ppd_sem.specs.declared.event.Access.{Access}
use Rattle.ppd_sem.specs.declared.event.Event.{Event}
use Rattle.ppd_sem.specs.declared.event.Spot.{Spot}
use Rattle.ppd_sem.specs.declared.event.Spot.TheVariants.{Local, Shared}
use Rattle.ppd_text.specs.CellNames.{cell_text, trap_word}
use Rattle.ppd_text.specs.Kinds.{kind_text}
use Rattle.ppd_text.specs.Names.{at_number, object_text}
use Rattle.ppd_text.specs.Plans.{block_locals, block_what}
use Rattle.ppd_text.specs.Texts.{place_text}
use Rattle.std.specs.Fmt.{signed_decimal}
use Rattle.std.specs.List.{flat_map}
use Rattle.std.specs.Option.{option_map_or}
use Rattle.std.specs.Prelude.{List, Option, [], codes, decimal, if◌then◌else◌, is_none, is_some, slice_get, zip, ℕ, ℤ, ◌&&◌, ◌++◌, ◌∷◌}

-- ---- cells with their values

-- a shared cell, or a local one of these variables
abbrev pub spot_text : Program → List Var → Spot → List ℕ
spot_text p locals (Local frame c) = cell_text locals c
spot_text p locals (Shared c) = cell_text p.shared c

-- a read or a write, after its word: the cell with its value
abbrev pub access_text : (word : List ℕ) → Program → List Var → Access → List ℕ
access_text word p locals a = word ++ spot_text p locals a.spot ++ codes "=" ++ signed_decimal a.value

-- ---- events

-- whose locals an event of a statement writes: a call writes the parameters of its function, and any other event
-- locals of the body in which its statement stands
abbrev pub written_locals : Program → ℕ → Kind → List Var
written_locals p b (kind.Call f args into) = (body_numbered p f).locals
written_locals p b k = (body_numbered p b).locals

-- what an event is: its statement's kind, but the completion of an offer, an event of a send that has a number and no
-- value, is `done`
abbrev pub event_kind : Program → Event → Kind → List ℕ
event_kind p e (kind.Send c v) =
    if is_some e.number && is_none e.value then object_text p sync.Done c
    else kind_text p (kind.Send c v)
event_kind p e k = kind_text p k

abbrev pub value_text : Option ℤ → List ℕ
value_text v = option_map_or (λ x. codes " value " ++ signed_decimal x) v []

-- the value of an event, the number of its synchronization, and its trap, where it has them
abbrev pub outcome_text : Event → List ℕ
outcome_text e =
    value_text e.value ++ option_map_or (λ n. codes " number " ++ decimal n) e.number []
    ++ option_map_or (λ t. codes " trap " ++ trap_word t) e.trap []

-- an event of its statement, with its reads in order, then its writes
abbrev pub event_text : Program → Event → Stmt → List ℕ
event_text p e s =
    codes "stmt " ++ decimal e.stmt ++ codes " " ++ place_text s.place ++ codes " " ++ event_kind p e s.kind
    ++ (flat_map (access_text (codes " read ") p (body_numbered p s.body).locals) e.reads
    ++ flat_map (access_text (codes " write ") p (written_locals p s.body s.kind)) e.writes)
    ++ outcome_text e

-- ---- intervals directly inside

-- what a loop left, if its postlog has cells: each local cell with its value
abbrev pub left_text : List Var → (cells : List ℕ) → List ℤ → List ℕ
left_text locals [] values = []
left_text locals (c ∷ cs) values =
    codes " left"
    ++ flat_map (λ x. codes " " ++ cell_text locals x.0 ++ codes "=" ++ signed_decimal x.1) (zip (c ∷ cs) values)

-- what came of a closed interval with this postlog: what a loop left, or what a function returned
abbrev pub closed_text : Program → BlockKind → (cells : List ℕ) → List ℤ → List ℕ
closed_text p (Loop s) cells values = left_text (block_locals p (Loop s)) cells values
closed_text p k cells values = value_text (slice_get values 0)

-- ---- items

-- what stands behind an item's number: an interval may be unfinished
abbrev pub item_text : Program → Plan → Item → List ℕ
item_text p plan (Own e) = at_number (event_text p e) p.stmts e.stmt
item_text p plan (Nested k b values closed) =
    codes "block " ++ decimal k ++ codes " " ++ at_number (λ x. block_what p x.kind) plan.blocks b
    ++ (if closed then at_number (λ x. closed_text p x.kind x.postlog values) plan.blocks b else codes " open")

-- the line of item j
abbrev pub item_line : Program → Plan → (j : ℕ) → Item → List ℕ
item_line p plan j i = codes "item " ++ decimal j ++ codes " " ++ item_text p plan i ++ codes "\n"
