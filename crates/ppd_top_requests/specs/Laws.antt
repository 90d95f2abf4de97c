-- The laws of the words of a command.
use Rattle.std.specs.Prelude.{◌≡◌, ℕ, Bool, List}
use Rattle.std.specs.Borrow.{Bor}
use Rattle.ppd_top_requests.specs.declared.commands.CommandName.TheVariants.{Flow, Show}
use Rattle.ppd_top_requests.specs.GivenWords.{Text, nothing_given, texts}
use Rattle.ppd_top_requests.specs.Spelling.{spelled, words_give}
use Rattle.ppd_top_requests.specs.Commands.{longs_of, names_of}
use Rattle.ppd_top_requests.specs.Tested.{only_good, tested_from}
use Rattle.ppd_top_requests.specs.Numbers.{Choice, asked_of, good, no_numbers, numbers_from, shown_from}

-- a test of each value as it comes is the test of all values at the end
abbrev pub TestsMayComeLast : Type 0
TestsMayComeLast =
    (good : Text → Text → Bool) (longs names words : List Text)
    → tested_from good (spelled longs) names nothing_given words ≡ only_good good (words_give longs names words)

-- three options by name whose numbers are tested as they come, and a name: what the words give to `flow`
abbrev pub FlowTestsNumbersLast : Type 0
FlowTestsNumbersLast =
    (allowed : Choice → ℕ → Bool) (words : List (Bor Text))
    → numbers_from allowed no_numbers words
    ≡ asked_of (only_good (good allowed) (words_give (longs_of Flow) (names_of Flow) (texts words)))

-- the same with a budget that is refused at the end: what the words give to `show`, which knows no budget
abbrev pub ShowTestsNumbersLast : Type 0
ShowTestsNumbersLast =
    (allowed : Choice → ℕ → Bool) (words : List (Bor Text))
    → shown_from allowed no_numbers words
    ≡ asked_of (only_good (good allowed) (words_give (longs_of Show) (names_of Show) (texts words)))
