-- The sets of a program.
use Rattle.std.specs.Prelude.{◌≡◌, map, length, true, false}
use Rattle.std.specs.List.{range_with_len}
use Rattle.ppd_ast.specs.declared.program.Program.{Program}
use Rattle.ppd_sets.specs.declared.var_sets.VarSets.{VarSets}
use Rattle.ppd_sets.specs.Used.{shared_through, reads_at, writes_at, local_in}

-- the sets have a row for each body and for each statement
pub record AreSetsOf (p : Program) (s : VarSets) : Type 0 where
  pub used : s.used ≡ map (shared_through p (reads_at true p)) (range_with_len 0 (length p.bodies))
  pub defined : s.defined ≡ map (shared_through p (writes_at true p)) (range_with_len 0 (length p.bodies))
  pub loop_used : s.loop_used ≡ map (local_in p (reads_at false p)) (range_with_len 0 (length p.stmts))
  pub loop_defined : s.loop_defined ≡ map (local_in p (writes_at false p)) (range_with_len 0 (length p.stmts))
