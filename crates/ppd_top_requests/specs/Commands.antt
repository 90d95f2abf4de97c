-- The commands: the word of each, its options and its names.
use Rattle.std.specs.Prelude.{List, [], ◌∷◌, Option, Some, None, if◌then◌else◌, codes, option_and_then, option_map}
use Rattle.std.specs.Str.{bytes_eq}
use Rattle.ppd_top_requests.specs.declared.commands.CommandName.{CommandName}
use Rattle.ppd_top_requests.specs.declared.commands.CommandName.TheVariants.{Flow, Run, Debug, Show, Drill, Slice, Rerun, Clean, Whole}
use Rattle.ppd_top_requests.specs.GivenWords.{Text, Uses}
use Rattle.ppd_top_requests.specs.Spelling.{words_give}

abbrev pub command_of : Text → Option CommandName
command_of w =
    if bytes_eq w (codes "flow") then Some Flow
    else if bytes_eq w (codes "run") then Some Run
    else if bytes_eq w (codes "debug") then Some Debug
    else if bytes_eq w (codes "show") then Some Show
    else if bytes_eq w (codes "drill") then Some Drill
    else if bytes_eq w (codes "slice") then Some Slice
    else if bytes_eq w (codes "rerun") then Some Rerun
    else if bytes_eq w (codes "clean") then Some Clean
    else if bytes_eq w (codes "whole") then Some Whole
    else None

-- the options, by their long names
abbrev pub longs_of : CommandName → List Text
longs_of Flow = codes "budget" ∷ codes "leaf" ∷ codes "loops" ∷ []
longs_of Run = codes "budget" ∷ codes "leaf" ∷ codes "loops" ∷ []
longs_of Debug = []
longs_of Show = codes "leaf" ∷ codes "loops" ∷ []
longs_of Drill = []
longs_of Slice = []
longs_of Rerun = []
longs_of Clean = []
longs_of Whole = codes "workers" ∷ []

-- the names, which of `slice` and `clean` are those of an item of a recording
abbrev pub names_of : CommandName → List Text
names_of Flow = codes "source" ∷ []
names_of Run = codes "source" ∷ codes "recording" ∷ []
names_of Debug = codes "recording" ∷ []
names_of Show = codes "source" ∷ []
names_of Drill = codes "number" ∷ []
names_of Rerun = codes "recording" ∷ []
names_of Whole = codes "recording" ∷ []
names_of _ = codes "recording" ∷ codes "process" ∷ codes "interval" ∷ codes "item" ∷ []

-- what the words after the program's name give: a command, and what the words after it give to its options and
-- its names
abbrev pub command_gives : List Text → Option (CommandName × Uses)
command_gives [] = None
command_gives (w ∷ ws) =
    option_and_then (λ c. option_map (λ uses. (c, uses)) (words_give (longs_of c) (names_of c) ws)) (command_of w)
