-- The words after the program's name: the command that they give, with its options and the name of a source, or its
-- number.
use Rattle.ppd_ast.specs.Digits.{number_in as number_of_word}
use Rattle.ppd_ast.specs.ValidPlan.{IsValidPolicy}
use Rattle.ppd_ast.specs.declared.limits.TheConstants.{DEFAULT_BUDGET, MOST_BUDGET, MOST_DRILL, MOST_POLICY}
use Rattle.ppd_top_requests.specs.declared.words.Command.{Command as GivenCommand}
use Rattle.ppd_top_requests.specs.declared.words.Command.TheVariants as given
use Rattle.ppd_top_requests.specs.declared.words.Request.{Request as GivenRequest}
use Rattle.ppd_top_requests.specs.declared.words.Request.TheVariants as request
use Rattle.ppd_top_requests.specs.declared.words.Request.TheVariants.{Drill, Recording, Source}
use Rattle.ppd_top_requests.specs.Questions.{ItemAsked, Query, query_of}
use Rattle.ppd_top_requests.specs.Questions.Query.{Clean, Rerun, Slice, Whole}
use Rattle.ppd_top_requests.specs.declared.options.Options.{Options}
use Rattle.ppd_top_requests.specs.Commands.{command_gives}
use Rattle.ppd_top_requests.specs.GivenWords.{Text, texts, value_of}
use Rattle.ppd_top_requests.specs.declared.commands.CommandName.{CommandName}
use Rattle.ppd_top_requests.specs.declared.commands.CommandName.TheVariants as word
use Rattle.std.specs.Borrow.{Bor}
use Rattle.std.specs.Prelude.{List, None, Option, Some, [], codes, if◌then◌else◌, nat_le, option_and_then, option_map, ℕ, ⊤, ◌&&◌, ◌∷◌, ◌≡◌, ◌≤◌, ◌⊎◌}

-- ---- the words of options and names

-- a number within these limits by the word of it: where none was given the usual one, if there is one
abbrev pub number_in : (usual : Option ℕ) → (least most : ℕ) → Option Text → Option ℕ
number_in usual least most None = usual
number_in usual least most (Some w) =
    option_and_then (λ n. if nat_le least n && nat_le n most then Some n else None) (number_of_word w)

-- the options, where the number of each is there, with its default where it was not given, by the word of each option
-- and of each name
abbrev pub options_in : (Text → Option Text) → Option Options
options_in v =
    option_and_then (λ b. option_and_then (λ m.
    option_map (λ n. record { budget = b; policy = record { leaf = m; loops = n } })
    (number_in (Some 0) 0 MOST_POLICY (v (codes "loops"))))
    (number_in (Some 0) 0 MOST_POLICY (v (codes "leaf"))))
    (number_in (Some DEFAULT_BUDGET) 1 MOST_BUDGET (v (codes "budget")))

-- a name, which is not empty
abbrev pub name_in : Option Text → Option Text
name_in None = None
name_in (Some []) = None
name_in (Some (c ∷ cs)) = Some (c ∷ cs)

-- ---- what they ask for

-- what is done with a source: its run, and then the lines of the input are answered, or its recording is stored under
-- a name; or its tables are written
pub data Command : Type 0 where
  Flow : Command
  Run : (recording : Text) → Command
  Show : Command

-- a command on the source of this name, with these options, or the lines of the input on the recording of this name, or
-- the run of the source that this number makes, or a query of the recording of this name
pub data Request : Type 0 where
  on_source : Command → (name : Text) → Options → Request
  on_recording : (name : Text) → Request
  on_number : ℕ → Request
  on_query : (name : Text) → Query → Request

abbrev pub command_of : GivenCommand → Command
command_of given.Flow = Flow
command_of (given.Run recording) = Run recording.now
command_of given.Show = Show

abbrev pub request_of : GivenRequest → Request
request_of (Source r) = on_source (command_of r.command) r.name.now r.options
request_of (Recording name) = on_recording name.now
request_of (Drill number) = on_number number
request_of (request.Query name query) = on_query name.now (query_of query)

-- what a command on a source asks for, where all its names and its options are there
abbrev pub asked_by : Option Command → (Text → Option Text) → Option Request
asked_by command v =
    option_and_then (λ c. option_and_then (λ name. option_map (on_source c name) (options_in v))
    (name_in (v (codes "source")))) command

-- an item, where the name of its process and the numbers of its interval and of itself are there, each in 1 to 9 digits
abbrev pub item_in : (Text → Option Text) → Option ItemAsked
item_in v =
    option_and_then (λ p. option_and_then (λ k.
    option_map (λ j. record { process = p; interval = k; item = j }) (number_in None 0 999999999 (v (codes "item"))))
    (number_in None 0 999999999 (v (codes "interval"))))
    (name_in (v (codes "process")))

-- a query of a recording, where it and the name are there
abbrev pub query_by : (Text → Option Text) → Option Query → Option Request
query_by v query = option_and_then (λ q. option_map (λ name. on_query name q) (name_in (v (codes "recording")))) query

-- what each command asks for: `whole` by 1 to 64 workers, and by 8 where the option was not given
abbrev pub asked_by_word : CommandName → (Text → Option Text) → Option Request
asked_by_word word.Flow v = asked_by (Some Flow) v
asked_by_word word.Run v = asked_by (option_map Run (name_in (v (codes "recording")))) v
asked_by_word word.Debug v = option_map on_recording (name_in (v (codes "recording")))
asked_by_word word.Show v = asked_by (Some Show) v
asked_by_word word.Drill v =
    option_map on_number (number_in None 0 MOST_DRILL (v (codes "number")))
asked_by_word word.Slice v = query_by v (option_map Slice (item_in v))
asked_by_word word.Rerun v = query_by v (Some Rerun)
asked_by_word word.Clean v = query_by v (option_map Clean (item_in v))
asked_by_word word.Whole v = query_by v (option_map Whole (number_in (Some 8) 1 64 (v (codes "workers"))))

-- what the words ask for: the command that they give, with numbers within their limits and names that are not empty
abbrev pub asked : List (Bor Text) → Option Request
asked words = option_and_then (λ given. asked_by_word given.0 (λ id. value_of id given.1)) (command_gives (texts words))

-- the words ask for this
abbrev pub Asks : List (Bor (List ℕ)) → Request → Type 0
Asks words request = asked words ≡ Some request

-- the words ask for the recording of this name, for the lines of the input or for a query
abbrev pub AsksRecording : List (Bor (List ℕ)) → (name : List ℕ) → Type 0
AsksRecording words name = Asks words (on_recording name) ⊎ ((query : Query) × Asks words (on_query name query))

-- options with which a source is run: a budget of 1 to 500,000, and a policy within its limits
pub record AreInRange (options : Options) : Type 0 where
  pub least : 1 ≤ options.budget
  pub most : options.budget ≤ MOST_BUDGET
  pub policy : IsValidPolicy options.policy

-- the options and numbers of a request are within their limits
abbrev pub IsInRange : GivenRequest → Type 0
IsInRange (Source r) = AreInRange r.options
IsInRange (Recording name) = ⊤
IsInRange (request.Query name query) = ⊤
IsInRange (Drill number) = number ≤ MOST_DRILL
