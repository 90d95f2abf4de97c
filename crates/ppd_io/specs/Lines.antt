-- The lines of bytes, and what a reader of lines takes from a source.
use Rattle.std.specs.Prelude.{◌≡◌, ◌≢◌, ◌==◌, ◌<◌, ◌≤◌, ◌⊎◌, ℕ, List, [], ◌∷◌, ◌++◌, length, Bool, true, false, Option, Some, None, Result, Ok, Err, IfSome, if◌then◌else◌}
use Rattle.std.specs.List.{onto_first}
use Rattle.std.specs.Str.Iter.{LacksByte}
use Rattle.ppd_ast.specs.declared.limits.TheConstants.{MOST_LINE_BYTES}
use Rattle.ppd_io.specs.Content.{Takes}
use Rattle.ppd_io.specs.declared.lines.LineError.{LineError}
use Rattle.ppd_io.specs.declared.lines.LineError.TheVariants.{Failed, LongLine}

-- the lines of bytes, each without its newline, which is byte 10; what follows the last newline is a line
-- where it is not empty
abbrev pub lines_of : List ℕ → List (List ℕ)
lines_of [] = []
lines_of (b ∷ bs) = if b == 10 then [] ∷ lines_of bs else onto_first b (lines_of bs)

-- a byte is a newline
abbrev pub HasNewline : List ℕ → Type 0
HasNewline [] = ⊥
HasNewline (b ∷ bs) = (b ≡ 10) ⊎ HasNewline bs

-- the line that was given last, the bytes that were read and belong to later lines, and whether the end was met,
-- after which nothing is read
pub record Lined : Type 0 where
  pub line : List ℕ
  pub held : List ℕ
  pub ended : Bool

-- what was held, with the bytes that the source gave in between, is all of these
pub record Took (old new : Option (List ℕ)) (held all : List ℕ) : Type 0 where
  pub read : List ℕ
  pub takes : Takes old new read
  pub whole : held ++ read ≡ all

-- no whole line was at hand when the last read began: what was held, with what the source gave before it, has no
-- newline
pub record IsAtNeed (old last : Option (List ℕ)) (held : List ℕ) : Type 0 where
  pub all : List ℕ
  pub took : Took old last held all
  pub plain : LacksByte 10 all

-- nothing is left, where the source tells
abbrev pub IsAtEnd : Option (List ℕ) → Type 0
IsAtEnd left = IfSome left (λ bytes. bytes ≡ [])

-- whether a read of more than nothing gave anything
abbrev pub IsFilled : Bool → Option (List ℕ) → List ℕ → Type 0
IsFilled true new held = held ≢ []
IsFilled false new held = (held ≡ []) × IsAtEnd new

-- the first of the bytes that were held is given, and the others are held
abbrev pub IsOfHeld : {E : Type 0} → List ℕ → List ℕ → Result (Option ℕ) E → Type 0
IsOfHeld old new (Ok (Some b)) = old ≡ b ∷ new
IsOfHeld old new (Ok None) = ⊥
IsOfHeld old new (Err e) = ⊥

-- the end was met, and nothing is held
pub record IsAtLinesEnd (new : Option (List ℕ)) (now : Lined) : Type 0 where
  pub left : IsAtEnd new
  pub held : now.held ≡ []
  pub ended : now.ended ≡ true

-- after the end nothing changes but the line
abbrev pub StaysOver : Lined → Lined → Type 0
StaysOver was now = (now.ended ≡ true) × (now.held ≡ was.held)

-- a line with its newline, or the last line, which is not empty and at whose end nothing is left
abbrev pub EndsLine : Option (List ℕ) → Option (List ℕ) → List ℕ → Lined → Type 0
EndsLine old new held now =
    (Took old new held (now.line ++ 10 ∷ now.held) × (now.ended ≡ false))
    ⊎ (Took old new held now.line × (now.line ≢ []) × IsAtLinesEnd new now)

-- what one call gives before the end was met: the next line of what was held and read; at the end none; a front of
-- more than 4,096 bytes without newline; where a read failed, a front without newline
abbrev pub GivesLine : Option (List ℕ) → Option (List ℕ) → List ℕ → Lined → Result Bool LineError → Type 0
GivesLine old new held now (Ok true) =
    LacksByte 10 now.line × (length now.line ≤ MOST_LINE_BYTES) × EndsLine old new held now
GivesLine old new held now (Ok false) = Took old new held [] × (now.line ≡ []) × IsAtLinesEnd new now
GivesLine old new held now (Err LongLine) =
    LacksByte 10 now.line × (MOST_LINE_BYTES < length now.line) × Took old new held (now.line ++ now.held)
GivesLine old new held now (Err Failed) =
    LacksByte 10 now.line × (length now.line ≤ MOST_LINE_BYTES) × Took old new held now.line × (now.held ≡ [])

-- the bytes that were put into a line, and how that ended: at the end of the source or not, or by an error
abbrev pub Fills : Option (List ℕ) → Option (List ℕ) → (held line rest : List ℕ) → Result Bool LineError → Type 0
Fills old new held line rest (Ok true) =
    LacksByte 10 line × (length line ≤ MOST_LINE_BYTES) × Took old new held line × (rest ≡ []) × IsAtEnd new
Fills old new held line rest (Ok false) =
    LacksByte 10 line × (length line ≤ MOST_LINE_BYTES) × Took old new held (line ++ 10 ∷ rest)
Fills old new held line rest (Err LongLine) =
    LacksByte 10 line × (MOST_LINE_BYTES < length line) × Took old new held (line ++ rest)
Fills old new held line rest (Err Failed) =
    LacksByte 10 line × (length line ≤ MOST_LINE_BYTES) × Took old new held line × (rest ≡ [])

-- the first line is longer than a line may be
abbrev pub IsLong : List (List ℕ) → Type 0
IsLong [] = ⊥
IsLong (l ∷ ls) = MOST_LINE_BYTES < length l

-- the same by the lines of all bytes at hand, the held ones and those left: `bytes` before the call, `rest` after it
abbrev pub IsByLines : Result Bool LineError → List ℕ → List ℕ → List ℕ → Type 0
IsByLines (Ok true) bytes line rest = (lines_of bytes ≡ line ∷ lines_of rest) × (length line ≤ MOST_LINE_BYTES)
IsByLines (Ok false) bytes line rest = bytes ≡ []
IsByLines (Err LongLine) bytes line rest = IsLong (lines_of bytes)
IsByLines (Err Failed) bytes line rest = Unit {0}

-- that, where the source tells its bytes
abbrev pub TellsLine : Option (List ℕ) → Option (List ℕ) → List ℕ → Lined → Result Bool LineError → Type 0
TellsLine old new held now result =
    IfSome old (λ before. IfSome new (λ after. IsByLines result (held ++ before) now.line (now.held ++ after)))
