-- How a word is spelled where options of these long names may stand, and what the words give.
use Rattle.std.specs.Prelude.{◌≡◌, ◌==◌, Bool, false, List, Option, [], ◌∷◌, ◌++◌, if◌then◌else◌, length, drop, nat_eq, ⊤}
use Rattle.std.specs.List.{starts_with}
use Rattle.std.specs.Str.{bytes_eq}
use Rattle.clap.specs.Lexer.{has_byte}
use Rattle.ppd_top_requests.specs.GivenWords.{Kind, Text, Uses, ends, given_from, name, nothing_given, other, sets, waits}

-- more than one byte, of which the first is `-`
abbrev pub is_dashed : Text → Bool
is_dashed [] = false
is_dashed (b ∷ []) = false
is_dashed (b ∷ c ∷ bs) = b == 45

-- `--name` waits for a value, and `--name=` has it; what else begins with `-` is no name, but for `-` alone
abbrev pub by_beginning : List Text → Text → Kind
by_beginning [] w = if is_dashed w then other else name
by_beginning (l ∷ ls) w =
    if bytes_eq w (45 ∷ 45 ∷ l) then waits l
    else if starts_with nat_eq w (45 ∷ 45 ∷ (l ++ 61 ∷ [])) then sets l (drop (length (45 ∷ 45 ∷ (l ++ 61 ∷ []))) w)
    else by_beginning ls w

-- `--` is the end of the options
abbrev pub spelled : List Text → Text → Kind
spelled longs w = if bytes_eq w (45 ∷ 45 ∷ []) then ends else by_beginning longs w

-- what the words give to options of these long names and to these names: each option and each name that was
-- used with its word, in the order of the words; or nothing
abbrev pub words_give : List Text → List Text → List Text → Option Uses
words_give longs names words = given_from (spelled longs) names nothing_given words

-- no long name has a `=`
abbrev pub HaveNoEquals : List Text → Type 0
HaveNoEquals [] = ⊤
HaveNoEquals (l ∷ ls) = (has_byte 61 l ≡ false) × HaveNoEquals ls
