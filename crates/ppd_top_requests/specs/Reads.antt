-- What clap's matches say of the words.
use Rattle.std.specs.Prelude.{◌≡◌, List, Some}
use Rattle.clap.specs.Matches.{first_value, found_of}
use Rattle.clap.specs.declared.parser.matches.ArgMatches.{ArgMatches}
use Rattle.ppd_top_requests.specs.GivenWords.{Text, Uses, value_of}
use Rattle.ppd_top_requests.specs.Spelling.{words_give}
use Rattle.ppd_top_requests.specs.Commands.{command_gives}
use Rattle.ppd_top_requests.specs.declared.commands.CommandWords.{CommandWords}

-- the words give something, and the matches hold just that
pub record Reads (longs names words : List Text) (m : ArgMatches) : Type 0 where
  pub uses : Uses
  pub is : words_give longs names words ≡ Some uses
  pub value : (id : Text) → first_value (found_of m) id ≡ value_of id uses

-- the words ask for this command, and the matches hold just what they give to it
pub record ReadsCommand (words : List Text) (c : CommandWords) : Type 0 where
  pub uses : Uses
  pub is : command_gives words ≡ Some (c.command, uses)
  pub value : (id : Text) → first_value (found_of c.matches) id ≡ value_of id uses
