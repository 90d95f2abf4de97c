-- What is known of a past, which blocks are kept of it and which a line asks for, and why a line has no answer.
use Rattle.ppd_ast.specs.declared.program.Program.{Program}
use Rattle.ppd_model.specs.declared.entry.At.{At}
use Rattle.ppd_flow.specs.Answers.{LastEdge}
use Rattle.ppd_flow.specs.SharedCells.{last_edge}
use Rattle.ppd_flow_past.specs.Pasts.{IsPast}
use Rattle.ppd_flow_past.specs.PastSetting.{past_setting}
pub use Rattle.ppd_model.specs.declared.flow_error.FlowError.{FlowError}
use Rattle.ppd_model.specs.declared.flow_error.FlowError.TheVariants as flow_error
use Rattle.ppd_flow_past.specs.declared.past.Past.{Past}
use Rattle.ppd_index.specs.Indexes.{rows_at}
use Rattle.ppd_model.specs.declared.flow.Item.{Item}
use Rattle.ppd_model.specs.declared.graph.Race.{Race}
use Rattle.ppd_race.specs.Races.{edges_of_logs, races_among}
use Rattle.ppd_session.specs.Keeping.{Keeping, none_kept}
use Rattle.ppd_session.specs.Known.{Known, Last, known_with, unless_raced}
use Rattle.ppd_session.specs.Questions.{question}
use Rattle.ppd_session.specs.Texts.{told_at}
use Rattle.ppd_session.specs.declared.place.Place.{Place}
use Rattle.ppd_session.specs.declared.question.Question.{Question}
use Rattle.ppd_session.specs.declared.question.Question.TheVariants.{Final, Open, Why}
use Rattle.ppd_session.specs.declared.reply.SessionError.{SessionError}
use Rattle.ppd_session.specs.declared.reply.SessionError.TheVariants.{Diverged, Memory, Sets}
use Rattle.ppd_text.specs.Edges.{last_line}
use Rattle.std.specs.List.{range_with_len}
use Rattle.std.specs.Prelude.{Contains, Err, List, None, Ok, Option, Some, [], get_or, if◌then◌else◌, length, map, nat_lt, option_map, ℕ, ⊤, ◌++◌, ◌∷◌, ◌≡◌}

-- what is known of a past with these races
abbrev pub known_by : Past → List Race → Known
known_by past races = known_with (past_setting past) past.logs.now races

-- ---- where a session stands

-- what is known, the block with the last write of each shared cell, and what is kept
pub record SessionState : Type 0 where
  pub known : Known
  pub last_blocks : List (Option Place)
  pub kept : Keeping

-- the block in which this edge ends
abbrev pub place_of : LastEdge → Place
place_of l = record { process = l.edge.process; interval = l.interval }

-- if there is an edge, and the index has the interval
abbrev pub block_of : Past → Option LastEdge → Option Place
block_of past None = None
block_of past (Some l) =
    if nat_lt l.interval (length (rows_at past.index.now.tables l.edge.process)) then Some (place_of l) else None

-- the block in which the edge ends that wrote cell c last
abbrev pub last_block : Past → (c : ℕ) → Option Place
last_block past c = block_of past (last_edge past c)

abbrev pub last_blocks : Past → List (Option Place)
last_blocks past = map (last_block past) (range_with_len 0 (length past.program.now.starts))

-- of a past with these races and kept blocks
abbrev pub state_of : Past → List Race → Keeping → SessionState
state_of past races kept =
    record { known = known_by past races; last_blocks = last_blocks past; kept = kept }

-- of a past, with its races, where at most so many blocks may be kept
abbrev pub new_session : Past → (most : ℕ) → SessionState
new_session past most = state_of past (races_among (edges_of_logs past.program.now past.logs.now)) (none_kept most)

-- ---- the blocks that are asked for

-- interval k of a process, if both are there
abbrev pub block_at : Known → Option ℕ → (k : ℕ) → Option Place
block_at x None k = None
block_at x (Some q) k =
    if nat_lt k (length (get_or x.intervals q [])) then Some (record { process = q; interval = k }) else None

-- a question asks for these blocks, in order
abbrev pub blocks_of : SessionState → Question → List (Option Place)
blocks_of s Final = unless_raced s.known.races s.last_blocks
blocks_of s (Open q k) = unless_raced s.known.races (block_at s.known q k ∷ [])
blocks_of s (Why q k j) = unless_raced s.known.races (block_at s.known q k ∷ [])
blocks_of s asked = []

-- so does a line
abbrev pub blocks_of_line : SessionState → List ℕ → List (Option Place)
blocks_of_line s line = blocks_of s (question s.known.program line)

-- ---- what a session answers of

-- each of these is what is told of its interval
abbrev pub AreTold : Known → List (Place × List Item) → Type 0
AreTold x kept =
    (place : Place) (items : List Item) → Contains kept (place, items)
    → told_at x place.process place.interval ≡ Some (Ok items)

-- a past whose parts belong together, of which no log is cut, and kept blocks that are as they are told of it with
-- these races
pub record IsSession (past : Past) (races : List Race) (kept : Keeping) : Type 0 where
  pub together : IsPast past
  pub uncut : past.cut.now ≡ past.logs.now
  pub told : AreTold (known_by past races) kept.blocks

-- ---- lines without an answer

-- why there is no answer, where this is the failure of the replay that the answer needs, if it fails
abbrev pub IsCause : Option At → SessionError → Type 0
IsCause failure (Diverged at) = failure ≡ Some at
IsCause failure (Sets at) = ⊥
IsCause failure Memory = ⊤

-- what is answered where a replay gives no items
abbrev pub error_of : FlowError → SessionError
error_of (flow_error.Diverged p n) = Diverged (record { process = p; entry = n })
error_of flow_error.NoEvent = Memory
error_of (flow_error.Sets p n c) = Sets (record { process = p; entry = n })
error_of flow_error.Memory = Memory

-- why a line has no answer, where this is what is not found
abbrev pub IsWhy : Option FlowError → SessionError → Type 0
IsWhy failure Memory = ⊤
IsWhy failure error = option_map error_of failure ≡ Some error

-- why a last value is not found, if it is not
abbrev pub unfound : Last → Option FlowError
unfound (Ok x) = None
unfound (Err e) = Some e

-- the line of cell c with this last value was written
abbrev pub IsLineOf : Program → (c : ℕ) → Last → (old new : List ℕ) → Type 0
IsLineOf p c (Ok x) old new = new ≡ old ++ last_line p c x
IsLineOf p c (Err e) old new = ⊥
