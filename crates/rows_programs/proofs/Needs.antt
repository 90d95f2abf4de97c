-- What the steps of a process need, one after the other.
use Rattle.std.proofs.Common.{◌≡◌, refl}
use Rattle.std.specs.Prelude.{pos, true, false, List, [], ◌∷◌, None, Some, replicate}
use Rattle.ppd_ast.specs.Term.{terms}
use Rattle.ppd_ast.specs.declared.plan.BlockKind.TheVariants as block
use Rattle.ppd_ast.specs.declared.plan.Plan.{Plan}
use Rattle.ppd_ast.specs.declared.plan.Start.TheVariants as start
use Rattle.ppd_ast.specs.declared.program.Expr.TheVariants as expr
use Rattle.ppd_ast.specs.declared.program.Kind.TheVariants as kind
use Rattle.ppd_ast.specs.declared.program.Op.TheVariants as op
use Rattle.ppd_ast.specs.declared.program.Program.{Program}
use Rattle.ppd_ast.specs.declared.program.Target.TheVariants as target
use Rattle.ppd_ast.specs.declared.status.Trap.TheVariants as trap
use Rattle.ppd_sem.specs.declared.proc.Answer.{Answer}
use Rattle.ppd_sem.specs.declared.proc.Answer.TheVariants.{Value, Go}
use Rattle.ppd_sem.specs.declared.proc.Need.TheVariants as need
use Rattle.ppd_sem.specs.Process.{started}
use Rattle.rows_programs.proofs.LargerProcesses.{needs}
use Rattle.rows_programs.proofs.Runs.BudgetStop as stop
use Rattle.rows_programs.proofs.Runs.LoopNeverEntered as loop
use Rattle.rows_programs.proofs.Runs.Tables.{stmt_in, scalar, body_of, block_of, unit_of}

-- process a { assert(0); }
abbrev failing : Program
failing = record {
  exprs = expr.Const (pos 0) ∷ [];
  stmts = stmt_in 0 1 13 None (kind.Assert 0) ∷ stmt_in 0 1 24 None kind.End ∷ [];
  bodies = body_of 97 true 0 false [] 0 (0 ∷ 1 ∷ []) 0 2 ∷ [];
  functions = 0;
  shared = [];
  starts = [];
  sems = [];
  chans = [];
}

-- one process, which is a block
abbrev alone : Plan
alone = record {
  policy = record { leaf = 0; loops = 0 };
  blocks = block_of (block.Process 0) [] [] false ∷ [];
  units = unit_of (start.Entry 0) [] ∷ [];
}

pub failing_needs : needs failing alone (started failing alone 0 100000) (Go ∷ []) ≡ need.Trap trap.Assert ∷ need.Stopped ∷ []
unfolding terms
failing_needs = refl

-- five steps, and then the stop for the budget
pub endless_needs : needs stop.program stop.plan (started stop.program stop.plan 0 5) (replicate 6 Go) ≡ need.Plain ∷ need.Plain ∷ need.Plain ∷ need.Plain ∷ need.Plain ∷ need.Budget ∷ need.Stopped ∷ []
unfolding terms
endless_needs = refl

-- the entry of a block loop is a step by itself, and its last test leaves it
pub loop_needs : needs loop.program loop.plan (started loop.program loop.plan 0 100000) (replicate 4 Go) ≡ need.Plain ∷ need.Enter 1 1 ∷ need.Leave 1 2 ∷ need.Plain ∷ need.End 0 ∷ []
unfolding terms
loop_needs = refl

-- shared int x; sem s = 1; chan c[1]; int f() { return 1; } process a { int i; x = 1; print(x); P(s); V(s); send(c, 5);
-- i = recv(c); while (i < 1) { i = 1; } i = f(); }
abbrev asking : Program
asking = record {
  exprs =
      expr.Const (pos 1) ∷ expr.Const (pos 0) ∷ expr.Const (pos 1) ∷ expr.Shared 0 ∷ expr.Const (pos 5)
      ∷ expr.Local 0 ∷ expr.Const (pos 1) ∷ expr.Two op.Lt 5 6 ∷ expr.Const (pos 1) ∷ [];
  stmts =
      stmt_in 0 1 1 None (kind.Return (Some 0))
      ∷ stmt_in 1 1 2 None (kind.Set (target.Local 0) 1)
      ∷ stmt_in 1 1 3 None (kind.Set (target.Shared 0) 2)
      ∷ stmt_in 1 1 4 None (kind.Print 3)
      ∷ stmt_in 1 1 5 None (kind.P 0)
      ∷ stmt_in 1 1 6 None (kind.V 0)
      ∷ stmt_in 1 1 7 None (kind.Send 0 4)
      ∷ stmt_in 1 1 8 None (kind.Recv 0 0)
      ∷ stmt_in 1 1 9 None (kind.While 7 (9 ∷ []))
      ∷ stmt_in 1 1 10 (Some 8) (kind.Set (target.Local 0) 8)
      ∷ stmt_in 1 1 11 None (kind.Call 0 [] (Some 0))
      ∷ stmt_in 1 1 12 None kind.End ∷ [];
  bodies =
      body_of 102 false 0 true [] 0 (0 ∷ []) 0 1
      ∷ body_of 97 true 0 false (scalar 105 0 ∷ []) 1 (1 ∷ 2 ∷ 3 ∷ 4 ∷ 5 ∷ 6 ∷ 7 ∷ 8 ∷ 10 ∷ 11 ∷ []) 1 12 ∷ [];
  functions = 1;
  shared = scalar 120 0 ∷ [];
  starts = pos 0 ∷ [];
  sems = record { name = 115 ∷ []; start = 1 } ∷ [];
  chans = record { name = 99 ∷ []; capacity = 1 } ∷ [];
}

-- the function, the process and the loop are blocks
abbrev asked : Plan
asked = record {
  policy = record { leaf = 0; loops = 1 };
  blocks = block_of (block.Function 0) [] [] true ∷ block_of (block.Process 1) [] [] false ∷ block_of (block.Loop 8) [] [] false ∷ [];
  units =
      unit_of (start.Entry 0) [] ∷ unit_of (start.Entry 1) [] ∷ unit_of (start.After 4) [] ∷ unit_of (start.After 5) []
      ∷ unit_of (start.After 6) [] ∷ unit_of (start.After 7) [] ∷ unit_of (start.Enter 8) [] ∷ unit_of (start.Exit 8) []
      ∷ unit_of (start.After 10) [] ∷ [];
}

abbrev answers : List Answer
answers = Go ∷ Go ∷ Value (pos 7) ∷ Go ∷ Go ∷ Go ∷ Go ∷ Value (pos 7) ∷ replicate 5 Go

-- each need that is no trap and no stop for the budget, but for those of a channel of capacity 0
pub asking_needs : needs asking asked (started asking asked 0 100000) answers ≡
    need.Plain ∷ need.Write 0 (pos 1) ∷ need.Read 0 ∷ need.Plain ∷ need.P 0 2 ∷ need.V 0 3 ∷ need.Send 0 (pos 5) 4
    ∷ need.Recv 0 5 ∷ need.Enter 2 6 ∷ need.Leave 2 7 ∷ need.Invoke (Some 0) 0 ∷ need.Back (Some 0) (Some 8) ∷ need.End 1
    ∷ need.Stopped ∷ []
unfolding terms
asking_needs = refl

-- shared int x; chan c[0]; process a { send(c, x + 5); print(1); }
abbrev offering : Program
offering = record {
  exprs = expr.Shared 0 ∷ expr.Const (pos 5) ∷ expr.Two op.Add 0 1 ∷ expr.Const (pos 1) ∷ [];
  stmts = stmt_in 0 1 1 None (kind.Send 0 2) ∷ stmt_in 0 1 2 None (kind.Print 3) ∷ stmt_in 0 1 3 None kind.End ∷ [];
  bodies = body_of 97 true 0 false [] 0 (0 ∷ 1 ∷ 2 ∷ []) 0 3 ∷ [];
  functions = 0;
  shared = scalar 120 0 ∷ [];
  starts = pos 0 ∷ [];
  sems = [];
  chans = record { name = 99 ∷ []; capacity = 0 } ∷ [];
}

abbrev offered : Plan
offered = record {
  policy = record { leaf = 0; loops = 0 };
  blocks = block_of (block.Process 0) [] [] false ∷ [];
  units = unit_of (start.Entry 0) [] ∷ unit_of (start.After 0) [] ∷ [];
}

-- the completion asks for nothing again, and starts the unit after the send
pub offering_needs : needs offering offered (started offering offered 0 100000) (Value (pos 0) ∷ Go ∷ Go ∷ []) ≡
    need.Read 0 ∷ need.Offer 0 (pos 5) ∷ need.Done 0 1 ∷ need.Plain ∷ []
unfolding terms
offering_needs = refl
