-- What is written of a run and of the command lines that are asked about it, and with which status that ends.
use Rattle.ppd_ast.specs.declared.limits.TheConstants.{MOST_INPUT_LINES, MOST_LINE_BYTES}
use Rattle.ppd_codec_runs.specs.Known.{Known}
use Rattle.ppd_codec_runs.specs.Questions.{is_quit}
use Rattle.ppd_codec_runs.specs.Sessions.{error_of}
use Rattle.ppd_codec_runs.specs.Texts.{failure_of, refused_replay, text_of}
use Rattle.ppd_io.specs.Causes.{Rose}
use Rattle.ppd_io.specs.Content.{Appends, AppendsPart, Takes}
use Rattle.ppd_io.specs.Lines.{lines_of}
use Rattle.ppd_io.specs.declared.bytes.TheConstants.{CHUNK_BYTES}
pub use Rattle.ppd_top_output.specs.Finishing.{Finished}
use Rattle.std.specs.List.{AllByRecursion, flat_map}
use Rattle.std.specs.Option.{option_map_or}
use Rattle.std.specs.Prelude.{IfSome, List, None, Option, Some, [], codes, if◌then◌else◌, is_some, length, nat_le, nat_lt, option_map, take, ℕ, ◌++◌, ◌+◌, ◌<◌, ◌||◌, ◌∷◌, ◌≡◌, ◌≤◌}
use Rattle.std.specs.Str.Iter.{LacksByte}

-- a status, and all that is written with it
pub record Output : Type 0 where
  pub status : ℕ
  pub text : List ℕ

abbrev pub output : ℕ → List ℕ → Output
output status text = record { status = status; text = text }

-- a text, and then an output
abbrev pub before : List ℕ → Output → Output
before text o = output o.status (text ++ o.text)

-- the answers to lines, after n lines before them: one after another through the first `quit`. A line that is the one
-- too many, or else is too long, ends them, and so does a replay that fails, with its own line
abbrev pub answers_from : Known → ℕ → List (List ℕ) → Output
answers_from x n [] = output 0 []
answers_from x n (l ∷ ls) =
    if nat_le MOST_INPUT_LINES n then output 8 (codes "many lines\n")
    else if nat_lt MOST_LINE_BYTES (length l) then output 7 (codes "long line\n")
    else option_map_or (λ error. output 6 (refused_replay x.program (error_of error))) (failure_of x l)
    (if is_quit l then output 0 (text_of x l) else before (text_of x l) (answers_from x (n + 1) ls))

-- the answers to the lines of all commands
abbrev pub answers : Known → List ℕ → Output
answers x commands = answers_from x 0 (lines_of commands)

-- ---- lines that are read one after another

-- each line with a newline after it
abbrev pub ended : List (List ℕ) → List ℕ
ended lines = flat_map (λ l. l ++ 10 ∷ []) lines

-- of these lines, after n before them, those through the `quit` or the failed replay that ends the answers, if one does
abbrev pub through_quit : Known → ℕ → List (List ℕ) → Option (List (List ℕ))
through_quit x n [] = None
through_quit x n (l ∷ ls) =
    if nat_le MOST_INPUT_LINES n then None
    else if nat_lt MOST_LINE_BYTES (length l) then None
    else if is_quit l || is_some (failure_of x l) then Some (l ∷ [])
    else option_map (λ through. l ∷ through) (through_quit x (n + 1) ls)

-- these lines were not yet taken whole when the last read began: fewer bytes were taken before it than the lines have
-- with their newlines
abbrev pub AreNotYetTaken : (commands : List ℕ) → (lines : List (List ℕ)) → (last : Option (List ℕ)) → Type 0
AreNotYetTaken commands lines last = IfSome last (λ rest. length commands < length (ended lines) + length rest)

-- no read follows the line that so ended the answers: when the last one began, that line was not yet taken whole; and
-- of the bytes behind it fewer than are asked for at once were taken
abbrev pub IsReadNoFurther : Known → (commands : List ℕ) → (left last : Option (List ℕ)) → Type 0
IsReadNoFurther x commands left last =
    IfSome (through_quit x 0 (lines_of commands)) (λ lines. IfSome left
    (λ rest. (length commands < length (ended lines) + CHUNK_BYTES + length rest)
    × AreNotYetTaken commands lines last))

-- the source's bytes, where they are still told
abbrev pub AreCommands : Option (List ℕ) → Option (List ℕ) → List ℕ → Type 0
AreCommands old None commands = Unit {0}
AreCommands None (Some ys) commands = ⊥
AreCommands (Some xs) (Some ys) commands = commands ≡ xs

-- where it is told, it grew by some first bytes of these, perhaps all
abbrev pub AppendsFront : Option (List ℕ) → Option (List ℕ) → List ℕ → Type 0
AppendsFront old new bytes = (k : ℕ) × (k ≤ length bytes) × Appends old new (take k bytes)

-- ---- what comes of asking

-- an input and an output: what is told of the bytes left, of those left when the last read began, and of those written,
-- and their counts of faults
pub record Standing : Type 0 where
  pub left : Option (List ℕ)
  pub last : Option (List ℕ)
  pub reads : ℕ
  pub written : Option (List ℕ)
  pub writes : ℕ

abbrev pub standing : (left last : Option (List ℕ)) → ℕ → Option (List ℕ) → ℕ → Standing
standing left last reads written writes =
    record { left = left; last = last; reads = reads; written = written; writes = writes }

-- the input is as it was: as many bytes are left, as many were left when the last read began, and no read failed
pub record IsUnread (a b : Standing) : Type 0 where
  pub left : b.left ≡ a.left
  pub last : b.last ≡ a.last
  pub reads : b.reads ≡ a.reads

-- a read failed: the answers to the whole lines among the bytes taken, after which some bytes of a line stand, were
-- written, and none of these lines ends the answers: none is `quit`, and they are answered with status 0
pub record IsBroken (x : Known) (head : List ℕ) (a b : Standing) : Type 0 where
  pub rose : Rose a.reads b.reads
  pub taken : List ℕ
  pub lines : List (List ℕ)
  pub rest : List ℕ
  pub takes : Takes a.left b.left taken
  pub is : taken ≡ ended lines ++ rest
  pub plain : AllByRecursion (LacksByte 10) lines
  pub open_end : LacksByte 10 rest
  pub unended : through_quit x 0 lines ≡ None
  pub answered : answers_from x 0 lines ≡ output 0 (flat_map (text_of x) lines)
  pub written : Appends a.written b.written (head ++ flat_map (text_of x) lines)

-- from one standing to another by this status: all was written; a read failed; a write failed, after a proper prefix;
-- or memory ran out, after some prefix
pub data Talks (x : Known) (head : List ℕ) (a b : Standing) : ℕ → Type 0 where
  whole : (commands : List ℕ) → AreCommands a.left b.left commands → IsReadNoFurther x commands b.left b.last
      → Appends a.written b.written (head ++ (answers x commands).text) → Talks x head a b (answers x commands).status
  unread : IsBroken x head a b → Talks x head a b 3
  unwritten : (commands : List ℕ) → AreCommands a.left b.left commands → Rose a.writes b.writes
      → AppendsPart a.written b.written (head ++ (answers x commands).text) → Talks x head a b 4
  unfinished : (commands : List ℕ) → AreCommands a.left b.left commands
      → AppendsFront a.written b.written (head ++ (answers x commands).text) → Talks x head a b 5
