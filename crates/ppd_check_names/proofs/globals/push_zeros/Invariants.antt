use Rattle.std.proofs.Common.{◌≡◌, ◌++◌, pos, replicate, ◌≤◌, ◌+◌, ◌*◌}
use Rattle.ppd_check_names.proofs.globals.push_zeros.Given as goal

-- as many zeros as turns
abbrev pub invariant-loop-zero : goal.invariant-loop-zero
invariant-loop-zero g l = record {
  zeros : l.starts ≡ l.fn.starts ++ replicate l._zero (pos 0);
  cost : l.steps ≤ l.fn.steps + 2 * l._zero;
}
