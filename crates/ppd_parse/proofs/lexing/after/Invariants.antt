use Rattle.std.proofs.Common.{◌≡◌, ◌≤◌, ◌+◌, drop}
use Rattle.ppd_parse.proofs.Words.{after_bytes}
use Rattle.ppd_parse.proofs.lexing.after.Given as goal

abbrev pub invariant-loop-b : goal.invariant-loop-b
invariant-loop-b l = record {
  place : after_bytes l.place (drop l.b-index l.bytes) ≡ after_bytes l.fn.place l.bytes;
  bound : l.place.line + l.place.column ≤ l.fn.place.line + l.fn.place.column + l.b-index;
  column : 1 ≤ l.place.column;
}
