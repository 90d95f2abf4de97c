use Rattle.std.proofs.Common.{◌≡◌, ◌⊎◌, ◌+◌, ◌++◌, length, ◌≤◌, ◌<◌, ◌-◌, vec_len, vec_capacity}
use Rattle.ppd_ast.specs.declared.limits.TheConstants.{MOST_LINE_BYTES}
use Rattle.ppd_io.specs.declared.bytes.TheConstants.{CHUNK_BYTES}
use Rattle.ppd_io.specs.Lines.{IsAtNeed, Took, HasNewline}
use Rattle.std.specs.Str.Iter.{LacksByte}
use Rattle.ppd_io.proofs.lines.fill_line.Given as goal

abbrev pub invariant-loop-bytes : goal.invariant-loop-bytes
invariant-loop-bytes g l = record {
  took : Took (g.I.Source.left l.initial.source) (g.I.Source.left l.source) l.initial.bytes (l.line.items ++ l.bytes);
  plain : LacksByte 10 l.line.items;
  later : g.I.Source.faults l.initial.source ≤ g.I.Source.faults l.source;
  room : MOST_LINE_BYTES < vec_capacity l.line;
  within : vec_len l.line ≤ MOST_LINE_BYTES + 1;
  few : length l.bytes < CHUNK_BYTES;
  quiet : HasNewline l.initial.bytes → (l.source ≡ l.initial.source) × HasNewline l.bytes;
  need : (l.source ≡ l.initial.source) ⊎ IsAtNeed (g.I.Source.left l.initial.source) (g.I.Source.before_last l.source) l.initial.bytes;
}

abbrev pub decreases-loop-bytes : goal.decreases-loop-bytes
decreases-loop-bytes g l = MOST_LINE_BYTES + 1 - vec_len l.line
