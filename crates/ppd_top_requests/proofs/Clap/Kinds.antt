-- What a word is by the parts into which clap cuts it.
use Rattle.std.specs.Prelude.{Bool, List, [], ◌∷◌, Option, Some, None, if◌then◌else◌}
use Rattle.std.specs.List.{list_any}
use Rattle.std.specs.Str.{bytes_eq}
use Rattle.clap.specs.Lexer.{long_of, short_of}
use Rattle.ppd_top_requests.specs.GivenWords.{Kind, Text, Uses, ends, given_from, name, nothing_given, other, sets, waits}

abbrev pub option_kind : Text → Option Text → Kind
option_kind id None = waits id
option_kind id (Some value) = sets id value

abbrev pub is_among : List Text → Text → Bool
is_among longs id = list_any (λ l. bytes_eq l id) longs

-- what begins with one hyphen, and is not `-` alone, is no name
abbrev pub short_kind : Option Text → Kind
short_kind None = name
short_kind (Some flags) = other

abbrev pub long_kind : List Text → Option (Text × Option Text) → Option Text → Kind
long_kind longs None flags = short_kind flags
long_kind longs (Some p) flags = if is_among longs p.0 then option_kind p.0 p.1 else other

abbrev pub kind_by : List Text → Bool → Option (Text × Option Text) → Option Text → Kind
kind_by longs is_end long flags = if is_end then ends else long_kind longs long flags

abbrev pub clap_spelled : List Text → Text → Kind
clap_spelled longs w = kind_by longs (bytes_eq w (45 ∷ 45 ∷ [])) (long_of w) (short_of w)

abbrev pub clap_gives : List Text → List Text → List Text → Option Uses
clap_gives longs ids words = given_from (clap_spelled longs) ids nothing_given words
