use Rattle.std.proofs.Common.{◌≡◌, ℕ, List, None, MatchOption, subst, sym, ap, ◌∙◌}
use Rattle.std.specs.Prelude.{option_and_then}
use Rattle.ppd_top_requests.specs.declared.commands.CommandName.{CommandName}
use Rattle.ppd_top_requests.specs.GivenWords.{Uses, texts, value_of}
use Rattle.ppd_top_requests.specs.Reads.{ReadsCommand}
use Rattle.ppd_top_requests.specs.Commands.{command_gives}
use Rattle.ppd_top_requests.specs.Words.{asked_by_word}
use Rattle.ppd_top_requests.proofs.words.asked.Goals as goal

pub returns-in-Some-clause-is : goal.returns-in-Some-clause-is
returns-in-Some-clause-is c =
    let words : List (List ℕ) = texts c.args.words.now in
    let r : ReadsCommand words c.in-Some.given =
    subst (λ o. MatchOption o (command_gives words ≡ None) (ReadsCommand words)) c.in-Some.is c.in_ok-read_command.ensures in
    c.request_in.ensures.request ∙ ((λ i. asked_by_word c.in-Some.given.command (λ id. r.value id i)) ∙ sym (ap (option_and_then (λ (given : CommandName × Uses). asked_by_word given.0 (λ id. value_of id given.1))) r.is))
