-- The words of `flow` and of `show` read by hand are what the words give, with the numbers tested at the end.
use Rattle.std.proofs.Common.{◌∙◌, ℕ, Bool, refl, ap, Option}
use Rattle.ppd_top_requests.proofs.Clap.Spelled.{given_alike}
use Rattle.ppd_top_requests.proofs.Numbers.Flow.{flow_is_given}
use Rattle.ppd_top_requests.proofs.Numbers.Show.{show_is_given}
use Rattle.ppd_top_requests.proofs.Numbers.Words.{flow_have_no_equals}
use Rattle.ppd_top_requests.specs.Commands.{longs_of, names_of}
use Rattle.ppd_top_requests.specs.Laws.{FlowTestsNumbersLast, ShowTestsNumbersLast}
use Rattle.ppd_top_requests.specs.Numbers.{Asked, Choice, asked_of, good}
use Rattle.ppd_top_requests.specs.GivenWords.{Uses, texts}
use Rattle.ppd_top_requests.specs.Tested.{only_good}
use Rattle.ppd_top_requests.specs.declared.commands.CommandName.TheVariants.{Flow, Show}

abbrev tested_of : (Choice → ℕ → Bool) → Option Uses → Option Asked
tested_of allowed g = asked_of (only_good (good allowed) g)

pub flow_last : FlowTestsNumbersLast
flow_last allowed ws =
    flow_is_given allowed ws
    ∙ ap (tested_of allowed) (given_alike (longs_of Flow) (names_of Flow) (texts ws) flow_have_no_equals)

pub show_last : ShowTestsNumbersLast
show_last allowed ws =
    show_is_given allowed ws
    ∙ ap (tested_of allowed) (given_alike (longs_of Show) (names_of Show) (texts ws) (refl, (refl, tt)))
