use Rattle.ppd_top_requests.proofs.Numbers.Spelled.{show_last}
use Rattle.ppd_top_requests.proofs.laws.show_tests_numbers_last.Goals as goal

pub returns : goal.returns
returns c = show_last
