use Rattle.std.proofs.Common.{◌≡◌, ◌+◌, ℕ, ℤ, List, length}
use Rattle.ppd_emul_values.specs.Held.{looked_up}
use Rattle.ppd_emul_values.proofs.in_force.make_room.Given as goal

abbrev pub invariant-loop-index : goal.invariant-loop-index
invariant-loop-index l = record {
  room : length l.places ≡ length l.fn.places + l._index;
  same : (held : List (ℕ × ℤ)) (c : ℕ) → looked_up l.places held c ≡ looked_up l.fn.places held c;
}
