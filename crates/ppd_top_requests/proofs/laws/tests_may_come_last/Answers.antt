use Rattle.std.proofs.Common.{refl}
use Rattle.ppd_top_requests.specs.Spelling.{spelled}
use Rattle.ppd_top_requests.specs.GivenWords.{nothing_given}
use Rattle.ppd_top_requests.proofs.Late.{tested_is}
use Rattle.ppd_top_requests.proofs.laws.tests_may_come_last.Goals as goal

pub returns : goal.returns
returns c = λ good longs names words. tested_is good (spelled longs) names words nothing_given refl
