-- Command lines: their words, and what they ask.
use Rattle.std.specs.Prelude.{ℕ, nat_eq, Bool, ◌||◌, ◌&&◌, not, get_or, List, [], ◌∷◌, filter, drop, length, position, Option, codes, if◌then◌else◌}
use Rattle.std.specs.List.{slice_split}
use Rattle.std.specs.Option.{option_map_or, option_zip}
use Rattle.std.specs.Str.{bytes_eq}
use Rattle.ppd_ast.specs.declared.program.Program.{Program}
use Rattle.ppd_ast.specs.Digits.{number_in}
use Rattle.ppd_session.specs.declared.question.Question.{Question}
use Rattle.ppd_session.specs.declared.question.Question.TheVariants.{Nothing, Unknown, Races, Final, Blocks, Open, Why, Deps, Quit}

-- ---- words

-- a tabulator, the end of a line as some systems write it, or a space
abbrev pub is_blank : ℕ → Bool
is_blank b = nat_eq b 9 || nat_eq b 13 || nat_eq b 32

abbrev pub is_word : List ℕ → Bool
is_word part = not (nat_eq (length part) 0)

-- the words of a line: what is left where it is cut at blanks
abbrev pub words_of : List ℕ → List (List ℕ)
words_of line = filter is_word (slice_split is_blank line)

-- ---- processes by name

-- the process of this name
abbrev pub process_named : Program → List ℕ → Option ℕ
process_named p name = position (λ b. bytes_eq b.name name) (drop p.functions p.bodies)

-- ---- what is asked

-- what these words ask: one word alone, or one with the name of a process or the number of a statement, of an interval
-- or of an item
abbrev pub asked : Program → List (List ℕ) → Question
asked p [] = Nothing
asked p (w ∷ []) =
    if bytes_eq w (codes "races") then Races
    else if bytes_eq w (codes "final") then Final
    else if bytes_eq w (codes "quit") then Quit
    else Unknown
asked p (w ∷ a ∷ []) =
    if bytes_eq w (codes "blocks") then Blocks (process_named p a)
    else if bytes_eq w (codes "deps") then option_map_or Deps (number_in a) Unknown
    else Unknown
asked p (w ∷ a ∷ b ∷ []) =
    if bytes_eq w (codes "open") then option_map_or (Open (process_named p a)) (number_in b) Unknown else Unknown
asked p (w ∷ a ∷ b ∷ c ∷ []) =
    if bytes_eq w (codes "why") then
    option_map_or (λ n. Why (process_named p a) n.0 n.1) (option_zip (number_in b) (number_in c)) Unknown
    else Unknown
asked p (w ∷ a ∷ b ∷ c ∷ d ∷ ws) = Unknown

-- what a line asks
abbrev pub question : Program → List ℕ → Question
question p line = asked p (words_of line)

-- a line ends a session: its only word is `quit`
abbrev pub is_quit : List ℕ → Bool
is_quit line = nat_eq (length (words_of line)) 1 && bytes_eq (get_or (words_of line) 0 []) (codes "quit")
