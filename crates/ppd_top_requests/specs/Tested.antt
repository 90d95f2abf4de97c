-- What the words give where each value must pass a test: by a test at the end, or of each value as it comes.
use Rattle.std.specs.Prelude.{Bool, List, [], ◌∷◌, Option, Some, None, if◌then◌else◌, option_and_then}
use Rattle.std.specs.List.{list_all}
use Rattle.ppd_top_requests.specs.GivenWords.{Given, Kind, Text, Uses, after_word, given_from}

abbrev pub are_good : (Text → Text → Bool) → Uses → Bool
are_good good uses = list_all (λ u. good u.0 u.1) uses

-- tested at the end
abbrev pub only_good : (Text → Text → Bool) → Option Uses → Option Uses
only_good good None = None
only_good good (Some u) = if are_good good u then Some u else None

-- tested at each word
abbrev pub if_good : (Text → Text → Bool) → Option Given → Option Given
if_good good None = None
if_good good (Some g) = if are_good good g.uses then Some g else None

abbrev pub tested_from : (Text → Text → Bool) → (Text → Kind) → List Text → Given → List Text → Option Uses
tested_from good spell names g [] = given_from spell names g []
tested_from good spell names g (w ∷ ws) =
    option_and_then (λ h. tested_from good spell names h ws) (if_good good (after_word spell names g w))
