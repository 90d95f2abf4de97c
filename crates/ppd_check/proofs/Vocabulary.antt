-- What the proofs speak of: definitions that no contract cites.
use Rattle.std.specs.Prelude.{Bool}
use Rattle.std.specs.Ordering.{is_le, nat_cmp, ordering_then}
use Rattle.ppd_ast.specs.declared.program.Place.{Place}
pub mod Sizes

-- a place stands at another or before it
abbrev pub is_up_to : Place → Place → Bool
is_up_to q p = is_le (ordering_then (nat_cmp p.line q.line) (nat_cmp p.column q.column))
