use Rattle.std.specs.Prelude.{false}
use Rattle.ppd_sets.specs.Used.{writes_at}
use Rattle.ppd_deps.specs.Named.{own_vars}
use Rattle.std.proofs.Common.{◌≡◌, take}
use Rattle.std.specs.List.{filter, flat_map}
use Rattle.ppd_ast.specs.Members.{has}
use Rattle.ppd_sets.specs.Flow.{next_of}
use Rattle.ppd_deps.proofs.locals.begins_at.Given as goal

abbrev pub invariant-loop-place : goal.invariant-loop-place
invariant-loop-place l = l.starts ≡ flat_map (next_of l.program) (filter (λ c. has (own_vars l.program (writes_at false l.program) c) l.local.var) (take l.place-index l.places))
