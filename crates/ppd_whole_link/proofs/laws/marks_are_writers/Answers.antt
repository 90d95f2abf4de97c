use Rattle.ppd_whole_link.proofs.Marked.{marks_are}
use Rattle.ppd_whole_link.proofs.laws.marks_are_writers.Goals as goal

pub returns : goal.returns
returns c = marks_are
