use Rattle.std.proofs.Common.{◌≡◌, ◌<◌, ◌^◌, take, true}
use Rattle.std.specs.List.{list_all}
use Rattle.std.specs.Char.{is_ascii_digit}
use Rattle.ppd_ast.specs.Digits.{value_from}
use Rattle.ppd_parse.proofs.text.value_of.Given as goal

abbrev pub invariant-loop-b : goal.invariant-loop-b
invariant-loop-b l = record {
  digits : list_all is_ascii_digit (take l.b-index l.digits) ≡ true;
  value : l.value ≡ value_from 0 (take l.b-index l.digits);
  small : l.value < 2 ^ 63;
}
