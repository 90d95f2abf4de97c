use Rattle.std.proofs.Common.{◌≡◌, ℕ, ◌<◌, ◌^◌, ◌&&◌, ◌||◌, drop}
use Rattle.std.specs.Prelude.{is_some, nat_eq}
use Rattle.ppd_ast.specs.Members.{has}
use Rattle.ppd_graph.specs.Walk.{value_to}
use Rattle.ppd_flow_tables.specs.Listed.{key}
use Rattle.ppd_flow_tables.proofs.marks.push_cells.Given as goal

-- with the writes that are left there are all
abbrev pub invariant-loop-access : goal.invariant-loop-access
invariant-loop-access l =
    (n i : ℕ) → i < 2 ^ 32
    → (has l.keys (key n i) || (nat_eq l.place i && is_some (value_to n (drop l.access-index l.writes))))
    ≡ (has l.fn.keys (key n i) || (nat_eq l.place i && is_some (value_to n l.writes)))
