use Rattle.ppd_top_requests.proofs.Numbers.Spelled.{flow_last}
use Rattle.ppd_top_requests.proofs.laws.flow_tests_numbers_last.Goals as goal

pub returns : goal.returns
returns c = flow_last
