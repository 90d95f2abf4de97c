-- The whole traces of small runs, by computation: the text of the trace.
use Rattle.ppd_model.specs.Setting.{setting_of}
use Rattle.std.proofs.Common.{◌≡◌, refl}
use Rattle.ppd_model.specs.Story.{story}
use Rattle.std.specs.Prelude.{ℕ, List, ◌++◌, codes}
use Rattle.std.specs.Fmt.{digits}
use Rattle.ppd_ast.specs.Term.{terms}
use Rattle.ppd_ast.specs.declared.plan.Plan.{Plan}
use Rattle.ppd_ast.specs.declared.program.Program.{Program}
use Rattle.ppd_model.specs.FullTrace.{full_trace}
use Rattle.ppd_whole.specs.WholeText.{whole_text}
use Rattle.rows_programs.proofs.Runs.Smallest as smallest
use Rattle.rows_programs.proofs.Runs.CalleeWrite as callee
use Rattle.rows_programs.proofs.Runs.LockOrder as locks

-- the text of a schedule's trace
abbrev text : Program → Plan → List ℕ → List ℕ
text program plan h = whole_text program (full_trace (setting_of program plan 100000) (story (setting_of program plan 100000) h))

pub smallest_text : text smallest.program smallest.plan smallest.schedule ≡
    codes "event a 0 stmt 0 1:27 set write x=2 parent entry\n"
    ++ codes "event a 1 stmt 1 1:34 print read x=2 from a 0 value 5 parent entry\n"
    ++ codes "event a 2 stmt 2 1:48 end parent entry\n"
unfolding terms digits
smallest_text = refl

pub callee_text : text callee.program callee.plan callee.schedule ≡
    codes "event a 0 stmt 2 1:47 set write x=1 parent entry\n"
    ++ codes "event a 1 stmt 3 1:54 call f parent entry\n"
    ++ codes "event a 2 stmt 0 1:26 set write x=4 parent a 1\n"
    ++ codes "event a 3 stmt 1 1:33 return parent a 1\n"
    ++ codes "event a 4 stmt 4 1:59 print read x=4 from a 2 value 4 parent entry\n"
    ++ codes "event a 5 stmt 5 1:69 end parent entry\n"
unfolding terms digits
callee_text = refl

pub locks_text : text locks.program locks.plan locks.first ≡
    codes "event a 0 stmt 0 1:38 P m number 1 paired initial parent entry\n"
    ++ codes "event a 1 stmt 1 1:44 set read x=0 from initial write x=1 parent entry\n"
    ++ codes "event a 2 stmt 2 1:55 V m number 2 parent entry\n"
    ++ codes "event a 3 stmt 3 1:61 end parent entry\n"
    ++ codes "event b 0 stmt 4 1:75 P m number 2 paired a 2 parent entry\n"
    ++ codes "event b 1 stmt 5 1:81 set read x=1 from a 1 write x=2 parent entry\n"
    ++ codes "event b 2 stmt 6 1:92 V m number 3 parent entry\n"
    ++ codes "event b 3 stmt 7 1:98 end parent entry\n"
unfolding terms digits
locks_text = refl
