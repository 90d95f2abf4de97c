-- What a process printed, apart from the rest of its state.
use Rattle.std.specs.Prelude.{◌≡◌, ℤ, List, [], ◌++◌}
use Rattle.ppd_ast.specs.declared.plan.Plan.{Plan}
use Rattle.ppd_ast.specs.declared.program.Program.{Program}
use Rattle.ppd_sem.specs.declared.proc.Answer.{Answer}
use Rattle.ppd_sem.specs.declared.proc.Proc.{Proc}
use Rattle.ppd_sem.specs.Process.{act, need_of}

-- a process state as if nothing had been printed
abbrev pub unprinted : Proc → Proc
unprinted s = record s { prints = [] }

-- a process state as if these had been printed before
abbrev pub printed_before : List ℤ → Proc → Proc
printed_before ps s = record s { prints = ps ++ s.prints }

-- no need and no step depends on what was printed before
pub record PrintsAreNotRead : Type 0 where
  pub needs : (program : Program) (plan : Plan) (ps : List ℤ) (s : Proc)
      → need_of program plan (printed_before ps s) ≡ need_of program plan s
  pub steps : (program : Program) (plan : Plan) (ps : List ℤ) (s : Proc) (a : Answer)
      → act program plan (printed_before ps s) a ≡ printed_before ps (act program plan s a)
