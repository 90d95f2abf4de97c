use Rattle.std.proofs.Common.{ℕ, List, ◌<◌}
use Rattle.std.specs.Borrow.{Bor}
use Rattle.std.specs.List.{slice_index_or}
use Rattle.std.specs.Str.{IsUtf8}
use Rattle.ppd_top_requests.proofs.read.texts_law.Given as goal

abbrev pub invariant-loop-word : goal.invariant-loop-word
invariant-loop-word l = (k : ℕ) (d : Bor (List ℕ)) → k < l.word-index → IsUtf8 (slice_index_or l.words k d).now
