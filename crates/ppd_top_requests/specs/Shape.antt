-- The command as clap sees it.
use Rattle.std.specs.Prelude.{List, true, ◌++◌, Some, map}
use Rattle.clap.specs.Walk.{Rule}
use Rattle.clap.specs.Simple.{App, new_app, new_rule, on_top}
use Rattle.clap.specs.declared.builder.action.ArgAction.TheVariants.{Set}
use Rattle.ppd_top_requests.specs.GivenWords.{Text}

-- an option that takes a value
abbrev pub option_rule : Text → Rule
option_rule id = record (new_rule id) { long = Some id; action = Some Set }

-- a name that must be there
abbrev pub name_rule : Text → Rule
name_rule id = record (new_rule id) { action = Some Set; required = true }

-- the words have no program's name, and there is neither a flag for help nor one for the version
abbrev pub bare : App → App
bare = on_top (λ s. record s { no_binary_name = true; disable_help_flag = true; disable_version_flag = true })

-- a command with these options and these names
abbrev pub app_with : Text → List Text → List Text → App
app_with title longs names =
    on_top (λ s. record s { rules = map option_rule longs ++ map name_rule names }) (bare (new_app title))
