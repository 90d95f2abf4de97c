use Rattle.std.proofs.Common.{◌≡◌, ◌≤◌, ◌++◌, drop, length}
use Rattle.ppd_ast.specs.declared.limits.TheConstants.{MOST_NAMED}
use Rattle.ppd_clean.specs.ByOrder.{cut_for, last_wanted}
use Rattle.ppd_clean.proofs.cutting.cut_logs.Given as goal
use Rattle.law_clean.proofs.PastWords.{cut_from}

abbrev pub invariant-loop-number : goal.invariant-loop-number
invariant-loop-number l = record {
  cut : l.lists ++ cut_from (last_wanted l.past l.asked) l.number (drop l.number l.past.logs.now.lists) ≡ (cut_for l.past l.asked).lists;
  few : length l.lists ≤ MOST_NAMED;
  count : length l.lists ≡ l.number;
}
