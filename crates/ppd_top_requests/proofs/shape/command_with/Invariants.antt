use Rattle.std.proofs.Common.{◌≡◌, [], take}
use Rattle.clap.specs.Simple.{app_of}
use Rattle.ppd_top_requests.specs.GivenWords.{texts}
use Rattle.ppd_top_requests.specs.Shape.{app_with}
use Rattle.ppd_top_requests.proofs.shape.command_with.Given as goal

abbrev pub invariant-loop-long : goal.invariant-loop-long
invariant-loop-long l = app_of l.command ≡ app_with l.title (texts (take l.long-index l.longs)) []

abbrev pub invariant-loop-name : goal.invariant-loop-name
invariant-loop-name l = app_of l.command ≡ app_with l.title (texts l.longs) (texts (take l.name-index l.names))
