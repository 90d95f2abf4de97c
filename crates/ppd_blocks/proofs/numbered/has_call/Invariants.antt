use Rattle.std.proofs.Common.{◌≡◌, ◌-◌, false}
use Rattle.std.specs.Prelude.{slice_get}
use Rattle.std.specs.List.{list_any, range_with_len}
use Rattle.ppd_ast.proofs.Vocabulary.{is_call_of}
use Rattle.ppd_blocks.proofs.numbered.has_call.Given as goal

abbrev pub invariant-loop-number : goal.invariant-loop-number
invariant-loop-number l = list_any (λ k. is_call_of (slice_get l.stmts k)) (range_with_len l.body.first (l.number - l.body.first)) ≡ false
