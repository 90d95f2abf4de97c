use Rattle.std.proofs.Common.{rules, arith}
use Rattle.std.proofs.lemmas.List.{length-map}
use Rattle.ppd_top_requests.specs.GivenWords.{texts}
use Rattle.ppd_top_requests.proofs.Fit.{reads, reads_none}
use Rattle.ppd_top_requests.proofs.read.read_words.Goals as goal

pub returns-in-Ok : goal.returns-in-Ok
returns-in-Ok c =
    reads c.args.title.now (texts c.args.longs.now) (texts c.args.names.now) c.requires c.args.words.now (omega (arith, length-map c.args.names.now (λ s. s.now))) c.texts_law.ensures _ c.in-Ok.matches
    c.in_ok-command.ensures c.in-Ok.ensures.kinds (λ s. (c.in-Ok.ensures.matches s).0)

pub returns-else-eq : goal.returns-else-eq
returns-else-eq c =
    reads_none c.args.title.now (texts c.args.longs.now) (texts c.args.names.now) c.requires c.args.words.now (omega (arith, length-map c.args.names.now (λ s. s.now))) c.texts_law.ensures _ c.in-Err.error
    c.in_ok-command.ensures c.in-Err.ensures.kinds (search rules)
