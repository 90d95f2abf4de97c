-- Processes with locals, arrays, loops and calls, computed.
use Rattle.std.proofs.Common.{◌≡◌, refl}
use Rattle.std.specs.Prelude.{pos, negsuc, true, false, List, [], ◌∷◌, None, Some, replicate}
use Rattle.ppd_ast.specs.Term.{terms}
use Rattle.ppd_ast.specs.declared.plan.BlockKind.TheVariants as block
use Rattle.ppd_ast.specs.declared.plan.Plan.{Plan}
use Rattle.ppd_ast.specs.declared.plan.Start.TheVariants as start
use Rattle.ppd_ast.specs.declared.program.Expr.TheVariants as expr
use Rattle.ppd_ast.specs.declared.program.Kind.TheVariants as kind
use Rattle.ppd_ast.specs.declared.program.Op.TheVariants as op
use Rattle.ppd_ast.specs.declared.program.Program.{Program}
use Rattle.ppd_ast.specs.declared.program.Target.TheVariants as target
use Rattle.ppd_ast.specs.declared.status.Status.TheVariants as status
use Rattle.ppd_ast.specs.declared.status.Trap.TheVariants as trap
use Rattle.ppd_sem.specs.declared.proc.Answer.{Answer}
use Rattle.ppd_sem.specs.declared.proc.Answer.TheVariants.{Value, Go}
use Rattle.ppd_sem.specs.declared.proc.Need.{Need}
use Rattle.ppd_sem.specs.declared.proc.Need.TheVariants.{Read, Write, Plain, Enter, Leave, Invoke, Back, End, Trap, Stopped}
use Rattle.ppd_sem.specs.declared.proc.Proc.{Proc}
use Rattle.rows_programs.proofs.Example.{stmt}
use Rattle.ppd_sem.specs.Process.{act, need_of, started}

abbrev pub needs : Program → Plan → Proc → List Answer → List Need
needs program plan s [] = need_of program plan s ∷ []
needs program plan s (a ∷ answers) = need_of program plan s ∷ needs program plan (act program plan s a) answers

abbrev after : Program → Plan → Proc → List Answer → Proc
after program plan s [] = s
after program plan s (a ∷ answers) = after program plan (act program plan s a) answers

-- int f(int a) { return a - 1; }  process p { int i = 2; while (i) { i = f(i); } print(i); }
abbrev calling : Program
calling = record {
  exprs = expr.Local 0 ∷ expr.Const (pos 1) ∷ expr.Two op.Sub 0 1 ∷ expr.Const (pos 2) ∷ expr.Local 0 ∷ expr.Local 0 ∷ expr.Local 0 ∷ [];
  stmts = stmt (kind.Return (Some 2)) ∷ stmt (kind.Set (target.Local 0) 3) ∷ stmt (kind.While 4 (3 ∷ [])) ∷ stmt (kind.Call 0 (5 ∷ []) (Some 0)) ∷ stmt (kind.Print 6) ∷ stmt kind.End ∷ [];
  bodies =
      record { name = 102 ∷ []; process = false; params = 1; value = true; cells = 1; locals = []; top = 0 ∷ []; first = 0; end = 1 } ∷
      record { name = 112 ∷ []; process = true; params = 0; value = false; cells = 1; locals = []; top = 1 ∷ 2 ∷ 4 ∷ 5 ∷ []; first = 1; end = 6 } ∷ [];
  functions = 1;
  shared = [];
  starts = [];
  sems = [];
  chans = [];
}

-- the function, the process and the loop are blocks; the loop's block holds the local i
abbrev blocks : Plan
blocks = record {
  policy = record { leaf = 0; loops = 1 };
  blocks =
      record { kind = block.Function 0; prelog = 0 ∷ []; postlog = []; value = true } ∷
      record { kind = block.Process 1; prelog = []; postlog = []; value = false } ∷
      record { kind = block.Loop 2; prelog = 0 ∷ []; postlog = 0 ∷ []; value = false } ∷ [];
  units =
      record { start = start.Entry 0; cells = [] } ∷
      record { start = start.Entry 1; cells = [] } ∷
      record { start = start.Enter 2; cells = [] } ∷
      record { start = start.Exit 2; cells = [] } ∷
      record { start = start.After 3; cells = [] } ∷ [];
}

pub calling_needs : needs calling blocks (started calling blocks 0 100) (replicate 11 Go) ≡ Plain ∷ Enter 2 2 ∷ Plain ∷ Invoke (Some 0) 0 ∷ Back (Some 0) (Some 4) ∷ Plain ∷ Invoke (Some 0) 0 ∷ Back (Some 0) (Some 4) ∷ Leave 2 3 ∷ Plain ∷ End 1 ∷ Stopped ∷ []
unfolding terms
calling_needs = refl

-- eleven steps, and one value in each prelog and postlog of the calls and of the loop
pub calling_ends : after calling blocks (started calling blocks 0 100) (replicate 11 Go) ≡ record (started calling blocks 0 100) { frames = record { body = 1; cells = pos 0 ∷ []; call = None } ∷ []; todo = []; spent = 17; steps = 11; prints = pos 0 ∷ []; status = Some status.Ended }
unfolding terms
calling_ends = refl

-- void f() { f(); }  process p { f(); }: the call after the 64th is too deep
abbrev deep : Program
deep = record {
  exprs = [];
  stmts = stmt (kind.Call 0 [] None) ∷ stmt (kind.Return None) ∷ stmt (kind.Call 0 [] None) ∷ stmt kind.End ∷ [];
  bodies =
      record { name = 102 ∷ []; process = false; params = 0; value = false; cells = 0; locals = []; top = 0 ∷ 1 ∷ []; first = 0; end = 2 } ∷
      record { name = 112 ∷ []; process = true; params = 0; value = false; cells = 0; locals = []; top = 2 ∷ 3 ∷ []; first = 2; end = 4 } ∷ [];
  functions = 1;
  shared = [];
  starts = [];
  sems = [];
  chans = [];
}

abbrev bare : Plan
bare = record { policy = record { leaf = 0; loops = 0 }; blocks = []; units = [] }

pub deep_call : need_of deep bare (after deep bare (started deep bare 0 1000) (replicate 63 Go)) ≡ Invoke None 0
unfolding terms
deep_call = refl

pub deep_trap : need_of deep bare (after deep bare (started deep bare 0 1000) (replicate 64 Go)) ≡ Trap trap.Depth
unfolding terms
deep_trap = refl

-- with one call open below its first frame one call fewer is free
pub deep_below : need_of deep bare (after deep bare (record (started deep bare 0 1000) { below = 1 }) (replicate 63 Go)) ≡ Trap trap.Depth
unfolding terms
deep_below = refl

-- shared int a[2], x, b[2];  process p { int y; a[x] = b[9 % x]; print(1 || b[y]); }
abbrev indexing : Program
indexing = record {
  exprs =
      expr.Shared 2 ∷ expr.Const (pos 9) ∷ expr.Shared 2 ∷ expr.Two op.Rem 1 2 ∷ expr.SharedAt 3 2 3 ∷
      expr.Const (pos 1) ∷ expr.Local 0 ∷ expr.SharedAt 3 2 6 ∷ expr.Or 5 7 ∷ [];
  stmts = stmt (kind.Set (target.SharedAt 0 2 0) 4) ∷ stmt (kind.Print 8) ∷ stmt kind.End ∷ [];
  bodies = record { name = 112 ∷ []; process = true; params = 0; value = false; cells = 1; locals = []; top = 0 ∷ 1 ∷ 2 ∷ []; first = 0; end = 3 } ∷ [];
  functions = 0;
  shared = [];
  starts = pos 0 ∷ pos 0 ∷ pos 0 ∷ pos 0 ∷ pos 0 ∷ [];
  sems = [];
  chans = [];
}

-- the index is read first, then x again, then the element that 9 % 1 names
pub indexing_needs : needs indexing bare (started indexing bare 0 100) (Value (pos 1) ∷ Value (pos 1) ∷ Value (pos 7) ∷ Go ∷ Go ∷ Go ∷ []) ≡ Read 2 ∷ Read 2 ∷ Read 3 ∷ Write 1 (pos 7) ∷ Plain ∷ End 0 ∷ Stopped ∷ []
unfolding terms
indexing_needs = refl

-- the index is tested before the value is evaluated
pub indexing_trap : needs indexing bare (started indexing bare 0 100) (Value (negsuc 0) ∷ Go ∷ []) ≡ Read 2 ∷ Trap trap.Index ∷ Stopped ∷ []
unfolding terms
indexing_trap = refl

-- a zero divisor
pub indexing_zero : needs indexing bare (started indexing bare 0 100) (Value (pos 0) ∷ Value (pos 0) ∷ Go ∷ []) ≡ Read 2 ∷ Read 2 ∷ Trap trap.Zero ∷ Stopped ∷ []
unfolding terms
indexing_zero = refl
