use Rattle.std.proofs.Common.{◌≡◌, ◌++◌, take}
use Rattle.ppd_top_runs.proofs.ends.put_ends.Given as goal
use Rattle.ppd_top_runs.proofs.RunWords.{end_texts}

abbrev pub invariant-loop-index : goal.invariant-loop-index
invariant-loop-index l = l.text.items ≡ l.initial.text.items ++ end_texts l.program l.first (take l.index l.ends)
