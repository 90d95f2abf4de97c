-- The text with which each command line is answered.
use Rattle.ppd_ast.specs.Lookups.{body_numbered, body_of}
use Rattle.ppd_ast.specs.declared.plan.Plan.{Plan}
use Rattle.ppd_ast.specs.declared.program.Program.{Program}
use Rattle.ppd_deps.specs.Edges.{edges_of}
use Rattle.ppd_deps.specs.declared.edges.StaticEdge.{StaticEdge}
use Rattle.ppd_deps.specs.declared.edges.StaticEdge.TheVariants.{Control, ControlEntry, Data}
use Rattle.ppd_model.specs.declared.entry.At.{At}
use Rattle.ppd_model.specs.declared.flow_error.FlowError.{FlowError}
use Rattle.ppd_model.specs.declared.flow_error.FlowError.TheVariants as flow_error
use Rattle.ppd_model.specs.declared.flow.Item.{Item}
use Rattle.ppd_model.specs.declared.graph.Race.{Race}
use Rattle.ppd_model.specs.declared.graph.RaceKind.{RaceKind}
use Rattle.ppd_model.specs.declared.graph.RaceKind.TheVariants.{ReadWrite, WriteRead, WriteWrite}
use Rattle.ppd_session.specs.Known.{Flow, Interval, Known, Last, Told}
use Rattle.ppd_session.specs.Questions.{question}
use Rattle.ppd_session.specs.declared.question.Question.{Question}
use Rattle.ppd_session.specs.declared.question.Question.TheVariants.{Blocks, Deps, Final, Nothing, Open, Quit, Races, Unknown, Why}
use Rattle.ppd_session.specs.declared.reply.SessionError.{SessionError}
use Rattle.ppd_session.specs.declared.reply.SessionError.TheVariants as session_error
use Rattle.ppd_text.specs.CellNames.{at_entry, cell_text, process_name}
use Rattle.ppd_text.specs.Edges.{last_line, why_text}
use Rattle.ppd_text.specs.Items.{item_line}
use Rattle.ppd_text.specs.Names.{at_number}
use Rattle.ppd_text.specs.Plans.{block_what, lines_of}
use Rattle.ppd_text.specs.Table.{stmt_at}
use Rattle.std.specs.List.{enumerate_from, filter_map, flat_map}
use Rattle.std.specs.Option.{option_map_or, unwrap_or}
use Rattle.std.specs.Prelude.{Err, List, None, Ok, Option, Some, [], codes, decimal, get_or, if◌then◌else◌, length, nat_lt, option_and_then, slice_get, ℕ, ◌++◌, ◌+◌, ◌∷◌}
use Rattle.std.specs.Result.{result_err}

-- ---- races

abbrev pub race_word : RaceKind → List ℕ
race_word ReadWrite = codes "read-write"
race_word WriteRead = codes "write-read"
race_word WriteWrite = codes "write-write"

abbrev pub race_line : Program → Race → List ℕ
race_line p r =
    codes "race " ++ process_name p r.p ++ codes " " ++ decimal r.i ++ codes " " ++ process_name p r.q ++ codes " "
    ++ decimal r.j
    ++ codes " " ++ cell_text p.shared r.cell ++ codes " " ++ race_word r.kind ++ codes "\n"

-- the race list
abbrev pub races_text : Program → List Race → List ℕ
races_text p races = codes "races " ++ decimal (length races) ++ codes "\n" ++ flat_map (race_line p) races

-- ---- intervals

abbrev pub interval_line : Program → Plan → (k : ℕ) → Interval → List ℕ
interval_line p plan k i =
    codes "block " ++ decimal k ++ codes " in " ++ option_map_or decimal i.parent (codes "-") ++ codes " "
    ++ at_number (λ b. block_what p b.kind) plan.blocks i.block ++ codes " "
    ++ (if i.closed then codes "closed" else codes "open") ++ codes "\n"

-- ---- static edges

-- an edge into statement s: by a shared variable, or a local one of the body in which the statement stands
abbrev pub edge_line : Program → (s : ℕ) → StaticEdge → List ℕ
edge_line p s (Data from shared v) = codes "data " ++ decimal from ++ codes " "
    ++ at_number (λ x. x.name) (if shared then p.shared else (body_numbered p (body_of p s)).locals) v ++ codes "\n"
edge_line p s ControlEntry = codes "control entry\n"
edge_line p s (Control from) = codes "control " ++ decimal from ++ codes "\n"

-- a statement's line, then the edges into it
abbrev pub deps_text : Program → (s : ℕ) → List ℕ
deps_text p s = stmt_at p s ++ flat_map (edge_line p s) (edges_of p s)

-- ---- answers

-- the line in place of what depends on the order of shared accesses, where there are races
abbrev pub races_refusal : List Race → Option (List ℕ)
races_refusal [] = None
races_refusal (r ∷ rs) = Some (codes "? races " ++ decimal (length (r ∷ rs)) ++ codes "\n")

abbrev pub no_process : List ℕ
no_process = codes "? process\n"

-- what is told of interval k of process q
abbrev pub told_at : Known → (q k : ℕ) → Option Told
told_at x q k = slice_get (get_or x.items q []) k

abbrev pub no_event : List ℕ
no_event = codes "? event\n"

-- item j with these edges into it
abbrev pub flow_text : Program → Plan → (j : ℕ) → Item → Flow → List ℕ
flow_text p plan j i (Ok edges) = why_text p plan j i edges
flow_text p plan j i (Err flow_error.NoEvent) = no_event
flow_text p plan j i (Err e) = []

-- the edges of item j of interval k of process q
abbrev pub flow_at : Known → (q k j : ℕ) → Flow
flow_at x q k j = get_or (get_or (get_or x.flow q []) k []) j (Err flow_error.NoEvent)

-- all items of an interval, or one of them with its edges, if it is there, where it is told what they are; where the
-- replay fails there is no text
abbrev pub told_text : Known → (q k : ℕ) → Option ℕ → Option Told → List ℕ
told_text x q k item (Some (Ok items)) =
    option_map_or
    (λ j. option_map_or (λ i. flow_text x.program x.plan j i (flow_at x q k j)) (slice_get items j) no_event)
    item (lines_of (item_line x.program x.plan) items)
told_text x q k item told = []

-- all items of an interval, or one of them with its edges, if its process and the interval are there
abbrev pub opened_text : Known → Option ℕ → (k : ℕ) → (item : Option ℕ) → List ℕ
opened_text x process k item =
    unwrap_or (races_refusal x.races)
    (option_map_or
    (λ q. if nat_lt k (length (get_or x.intervals q [])) then told_text x q k item (told_at x q k)
    else codes "? block\n")
    process no_process)

-- the shared cells from number c on, up to one whose last write is not found
abbrev pub lasts_text : Program → (c : ℕ) → List Last → List ℕ
lasts_text p c [] = []
lasts_text p c (Ok x ∷ xs) = last_line p c x ++ lasts_text p (c + 1) xs
lasts_text p c (Err e ∷ xs) = []

-- the answer to a question
abbrev pub answer_text : Known → Question → List ℕ
answer_text x Nothing = []
answer_text x Unknown = codes "? command\n"
answer_text x Quit = []
answer_text x Races = races_text x.program x.races
answer_text x Final = unwrap_or (races_refusal x.races) (lasts_text x.program 0 x.lasts)
answer_text x (Blocks None) = no_process
answer_text x (Blocks (Some q)) =
    flat_map (λ i. interval_line x.program x.plan i.0 i.1) (enumerate_from 0 (get_or x.intervals q []))
answer_text x (Open q k) = opened_text x q k None
answer_text x (Why q k j) = opened_text x q k (Some j)
answer_text x (Deps s) = if nat_lt s (length x.program.stmts) then deps_text x.program s else codes "? statement\n"

-- the answer to a line
abbrev pub text_of : Known → List ℕ → List ℕ
text_of x line = answer_text x (question x.program line)

-- ---- replays that fail

-- the entry of process q at which a replay fails, if it does
abbrev pub failure_in : (q : ℕ) → Option Told → Option At
failure_in q (Some (Err n)) = Some (record { process = q; entry = n })
failure_in q told = None

-- the failure of the replay of interval k of a process that is there
abbrev pub failure_at : Known → Option ℕ → (k : ℕ) → Option At
failure_at x None k = None
failure_at x (Some q) k = failure_in q (told_at x q k)

-- why edges are not found of an item that is there
abbrev pub unfound_flow : Flow → Option FlowError
unfound_flow (Ok edges) = None
unfound_flow (Err flow_error.NoEvent) = None
unfound_flow (Err e) = Some e

-- why there is no text of an interval's items, or of one of them
abbrev pub told_failure : Known → (q k : ℕ) → Option ℕ → Option Told → Option FlowError
told_failure x q k item (Some (Ok items)) =
    option_and_then (λ j. option_and_then (λ i. unfound_flow (flow_at x q k j)) (slice_get items j)) item
told_failure x q k item (Some (Err n)) = Some (flow_error.Diverged q n)
told_failure x q k item None = None

abbrev pub opening_failure : Known → Option ℕ → (k : ℕ) → Option ℕ → Option FlowError
opening_failure x None k j = None
opening_failure x (Some q) k j = told_failure x q k j (told_at x q k)

-- the failure that leaves a question without an answer: of a last value, or of what is asked of an interval
abbrev pub failure : Known → Question → Option FlowError
failure x Final = slice_get (filter_map result_err x.lasts) 0
failure x (Open q k) = opening_failure x q k None
failure x (Why q k j) = opening_failure x q k (Some j)
failure x asked = None

-- the failure that leaves a line without an answer
abbrev pub failure_of : Known → List ℕ → Option FlowError
failure_of x line = failure x (question x.program line)

-- what is written in place of an answer, where a replay fails at an entry of a process, or replays write a cell of its
-- set nowhere
abbrev pub refused_replay : Program → SessionError → List ℕ
refused_replay p (session_error.Diverged at) = at_entry p (codes "recording refused replay 1 Diverged ") at
refused_replay p (session_error.Sets at) = at_entry p (codes "recording refused replay 3 Sets ") at
refused_replay p session_error.Memory = []
