-- The rows of clap's matches for uses, and what clap takes.
use Rattle.std.specs.Prelude.{List, [], ◌∷◌, Option, Some, None, map}
use Rattle.clap.specs.Walk.{Row, Text}
use Rattle.clap.specs.Simple.{App, matches_of}
use Rattle.clap.specs.Faults.{fault_of}
use Rattle.clap.specs.Kinds.{Kinds}
use Rattle.clap.specs.Values.{reading_of}
use Rattle.clap.specs.declared.builder.value_parser.ValueParser.TheVariants as vp
use Rattle.clap.specs.declared.parser.matches.ValueSource.TheVariants.{CommandLine}
use Rattle.ppd_top_requests.specs.GivenWords.{Uses}

-- a row of the matches, for a use
abbrev pub row : Text × Text → Row
row u = record { id = u.0; values = u.1 ∷ []; count = None; source = Some CommandLine; reading = reading_of vp.String }

abbrev pub rows_for : Uses → List Row
rows_for uses = map row uses

abbrev pub unless : Kinds → Option (List Row) → Option (List Row)
unless [] next = next
unless (k ∷ ks) next = None

-- the matches, where clap takes the words
abbrev pub clap_rows : App → List Text → Option (List Row)
clap_rows app words = unless (fault_of app words) (Some (matches_of app words))
