use Rattle.std.proofs.Common.{refl}
use Rattle.ppd_top.specs.Queries.IsWritten.{answers}
use Rattle.ppd_top.proofs.reruns.rerun_answer.Goals as goal

pub returns : goal.returns
returns c = answers c.taken.result c.in_ok-text.text.items refl (c.in_ok-verdict.verdict, c.in_ok-verdict.ensures, c.taken.ensures, c.in_ok-text.ensures.text)
