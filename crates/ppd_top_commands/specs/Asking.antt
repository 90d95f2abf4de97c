-- How the lines of an input are read and answered, one after another.
use Rattle.ppd_ast.specs.declared.limits.TheConstants.{MOST_LINE_BYTES}
use Rattle.ppd_ast.specs.declared.program.Program.{Program}
use Rattle.ppd_codec_runs.specs.Known.{Known}
use Rattle.ppd_codec_runs.specs.Questions.{is_quit}
use Rattle.ppd_codec_runs.specs.SessionError.{SessionError}
use Rattle.ppd_codec_runs.specs.SessionError.TheVariants.{Memory}
use Rattle.ppd_codec_runs.specs.Sessions.{FlowError, error_of}
use Rattle.ppd_codec_runs.specs.Texts.{failure_of, refused_replay, text_of}
use Rattle.ppd_io.specs.Causes.{Rose}
use Rattle.ppd_io.specs.Content.{Appends, AppendsPart}
use Rattle.ppd_io.specs.Lines.{Lined, lines_of}
use Rattle.ppd_top_commands.specs.Output.{AreNotYetTaken, Finished, Standing, Talks, ended}
use Rattle.std.specs.List.{AllByRecursion, flat_map}
use Rattle.std.specs.Prelude.{Bool, List, None, Option, Some, [], false, length, true, ℕ, ◌++◌, ◌+◌, ◌∷◌, ◌≡◌, ◌≢◌, ◌≤◌, ◌⊎◌}
use Rattle.std.specs.Str.Iter.{LacksByte}

-- these lines were read of these bytes, and what is left of them: before the end was met, and after it
abbrev pub IsSplit : Bool → (bytes : List ℕ) → (lines : List (List ℕ)) → (rest : List ℕ) → Type 0
IsSplit false bytes lines rest = bytes ≡ ended lines ++ rest
IsSplit true bytes lines rest = (lines_of bytes ≡ lines) × (rest ≡ [])

-- the source gave these lines to a reader, where its bytes are told
abbrev pub IsReadTo : Option (List ℕ) → Option (List ℕ) → Lined → List (List ℕ) → Type 0
IsReadTo old None r lines = Unit {0}
IsReadTo None (Some ys) r lines = ⊥
IsReadTo (Some xs) (Some ys) r lines = IsSplit r.ended xs lines (r.held ++ ys)

-- no line was read, and nothing is held; or the lines that were read were not yet taken whole when the last read began:
-- where the source's bytes are told
abbrev pub IsReadAtNeed : Option (List ℕ) → Option (List ℕ) → (last : Option (List ℕ)) → Lined → List (List ℕ) → Type 0
IsReadAtNeed None new last r lines = Unit {0}
IsReadAtNeed (Some xs) None last r lines = Unit {0}
IsReadAtNeed (Some xs) (Some ys) last r lines = ((lines ≡ []) × (r.held ≡ [])) ⊎ AreNotYetTaken xs lines last

-- none of these lines ends the answers: none is too long or is `quit`, and no replay fails
abbrev pub AreAnswered : Known → List (List ℕ) → Type 0
AreAnswered x [] = Unit {0}
AreAnswered x (l ∷ ls) = (length l ≤ MOST_LINE_BYTES) × (is_quit l ≡ false) × (failure_of x l ≡ None) × AreAnswered x ls

-- n lines were read and answered
pub record IsAsked (x : Known) (n : ℕ) (r : Lined) (a b : Standing) : Type 0 where
  pub lines : List (List ℕ)
  pub count : length lines ≡ n
  pub plain : AllByRecursion (LacksByte 10) lines
  pub answered : AreAnswered x lines
  pub read : IsReadTo a.left b.left r lines
  pub need : IsReadAtNeed a.left b.left b.last r lines
  pub written : Appends a.written b.written (flat_map (text_of x) lines)
  pub reads : a.reads ≤ b.reads
  pub writes : a.writes ≤ b.writes

-- what one more line comes to: it goes on, or ends with a status
abbrev pub Goes : (x : Known) → (n : ℕ) → Lined → Standing → Standing → Option ℕ → Type 0
Goes x n r a b None = IsAsked x (n + 1) r a b
Goes x n r a b (Some status) = Talks x [] a b status

-- why a line has no answer: a replay failed, and its line was written, or memory ran out before
abbrev pub IsFailed : Program → SessionError → Option (List ℕ) → Option (List ℕ) → ℕ → ℕ → ℕ → Type 0
IsFailed program error old new before now status =
    ((status ≡ 5) × (new ≡ old))
    ⊎ ((error ≢ Memory) × Finished old new before now status 6 (refused_replay program error))

-- what becomes of one line: it is answered and was no `quit`, or was one; the write failed; a replay failed; or memory
-- ran out
pub data Becomes (x : Known) (line : List ℕ) (old new : Option (List ℕ)) (before now : ℕ) : Option ℕ → Type 0 where
  answered : is_quit line ≡ false → failure_of x line ≡ None → Appends old new (text_of x line)
      → Becomes x line old new before now None
  quit : is_quit line ≡ true → failure_of x line ≡ None → Appends old new (text_of x line)
      → Becomes x line old new before now (Some 0)
  unwritten : failure_of x line ≡ None → Rose before now → AppendsPart old new (text_of x line)
      → Becomes x line old new before now (Some 4)
  refused : (error : FlowError) (status : ℕ) → failure_of x line ≡ Some error
      → Finished old new before now status 6 (refused_replay x.program (error_of error))
      → Becomes x line old new before now (Some status)
  unfinished : new ≡ old → Becomes x line old new before now (Some 5)
