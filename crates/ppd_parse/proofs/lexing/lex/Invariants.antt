use Rattle.std.proofs.Common.{◌≡◌, ◌≤◌, ◌-◌, ◌++◌, ℕ, List, length}
use Rattle.ppd_parse.specs.declared.scan.Fault.{Fault}
use Rattle.ppd_parse.specs.declared.token.Token.{Token}
use Rattle.ppd_parse.specs.Tokens.{place_of, Lexes, Faults}
use Rattle.ppd_parse.proofs.lexing.lex.Given as goal

abbrev pub invariant-loop-at : goal.invariant-loop-at
invariant-loop-at l = record {
  in_range : l.at ≤ length l.bytes;
  place : l.place ≡ place_of l.bytes l.at;
  tokens : (rest : List Token) → Lexes l.bytes l.at rest → Lexes l.bytes 0 (l.tokens.items ++ rest);
  faults : (j : ℕ) (f : Fault) → Faults l.bytes l.at j f → Faults l.bytes 0 j f;
}

abbrev pub decreases-loop-at : goal.decreases-loop-at
decreases-loop-at l = length l.bytes - l.at
