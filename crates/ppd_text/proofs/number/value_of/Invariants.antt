use Rattle.std.proofs.Common.{◌≡◌, ◌≤◌, ◌^◌, ◌+◌, ◌*◌, take}
use Rattle.ppd_ast.specs.Digits.{value_from}
use Rattle.ppd_text.proofs.number.value_of.Given as goal

-- a byte is at most 207 above `0`
abbrev pub invariant-loop-digit : goal.invariant-loop-digit
invariant-loop-digit l = (l.value ≡ value_from 0 (take l.digit-index l.digits)) × (l.value + 23 ≤ 23 * 10 ^ l.digit-index)
