-- Each step of a process of a valid program opens and closes blocks as it says.
use Rattle.std.proofs.Common.{◌≡◌, ℕ, suc, ◌+◌, List, [], ◌∷◌, ◌++◌, None, refl, ap, sym, ◌∙◌, subst, arith}
use Rattle.std.specs.List.{All}
use Rattle.ppd_ast.specs.Valid.{IsValid}
use Rattle.ppd_ast.specs.declared.plan.Plan.{Plan}
use Rattle.ppd_ast.specs.declared.program.Program.{Program}
use Rattle.law_steps.specs.Course.{IsWay, calls_of}
use Rattle.law_steps.proofs.Course.Beginning.{starts_on_course}
use Rattle.law_steps.proofs.Course.Ending.{never_runs_out}
use Rattle.law_steps.proofs.Course.Leading.{stays_on_course}
use Rattle.ppd_sem.specs.declared.proc.Answer.{Answer}
use Rattle.ppd_sem.specs.declared.proc.Proc.{Proc}
use Rattle.ppd_sem.specs.declared.proc.Todo.{Todo}
use Rattle.ppd_sem.specs.Process.{act, act_by_need, need_of, todos}
use Rattle.ppd_sem.proofs.NeedWords.{act_at, need_of_running}
use Rattle.ppd_sem.specs.Runs.{IsInner, bodies_in}
use Rattle.ppd_sem.proofs.Progress.{need_at_todo}
use Rattle.ppd_model.specs.Logs.{status_of}
use Rattle.ppd_model.specs.Marks.{opened, closed}
use Rattle.law_steps.specs.OpenBlocks.Stack.{IsInOrder, Moves, StepsMoveBlocks, open_blocks, process_block, returning, stack}
use Rattle.law_steps.proofs.OpenBlocks.Depths.{deep}
use Rattle.law_steps.proofs.OpenBlocks.Framed.{act_framed, process_stays, started_framed}
use Rattle.law_steps.proofs.OpenBlocks.Moving.{head_moves}
use Rattle.law_steps.proofs.OpenBlocks.Opened.{new_plain}
use Rattle.ppd_ast.specs.Lookups.{body_numbered}

none_open : (program : Program) (plan : Plan) (n : ℕ) (stmts : List ℕ) → All (IsInner program n) stmts → open_blocks program plan (todos stmts) ≡ []
none_open program plan n [] h = refl
none_open program plan n (i ∷ is) h = new_plain program plan i (todos is) (h 0 i (omega arith)).stays ∙ none_open program plan n is (λ k d lt. h (suc k) d (omega arith))

module _ (program : Program) (plan : Plan) (p : ℕ) (v : IsValid program) where
  abbrev MovesTo : Proc → Proc → Type 0
  MovesTo s after = Moves (opened program plan s (need_of program plan s)) (closed program plan s (need_of program plan s)) (status_of (need_of program plan s)) (stack program plan p s) (stack program plan p after)

  -- with nothing to do nothing is done
  none_moves : (s : Proc) → s.todo ≡ [] → s.status ≡ None → (a : Answer) → MovesTo s (act program plan s a)
  none_moves s is running a =
      subst (λ n. Moves (opened program plan s n) (closed program plan s n) (status_of n) (stack program plan p s) (stack program plan p (act program plan s a))) (sym (need_at_todo program plan s [] running is))
      (ap (λ (x : Proc). stack program plan p x) (sym (ap (λ todo. act_at program plan a todo s) is)))

  moves : (s : Proc) (a : Answer) → IsInOrder program plan p s → s.status ≡ None → MovesTo s (act program plan s a)
  moves s a h running = by s.todo refl
    where
      by : (todo : List Todo) → s.todo ≡ todo → MovesTo s (act program plan s a)
      by [] is = none_moves s is running a
      by (t ∷ ts) is =
          let needs : need_of program plan s ≡ need_of_running program plan (t ∷ ts) s = need_at_todo program plan s (t ∷ ts) running is in
          let now : act program plan s a ≡ act_by_need program plan a t ts (need_of_running program plan (t ∷ ts) s) s = ap (λ todo. act_at program plan a todo s) is ∙ ap (λ n. act_by_need program plan a t ts n s) needs in
          subst (λ todo. Moves (opened program plan s (need_of program plan s)) (closed program plan s (need_of program plan s)) (status_of (need_of program plan s)) (open_blocks program plan todo ++ process_block program plan p ∷ []) (stack program plan p (act program plan s a))) (sym is)
          (subst (λ (x : Proc). Moves (opened program plan s (need_of program plan s)) (closed program plan s (need_of program plan s)) (status_of (need_of program plan s)) (open_blocks program plan (t ∷ ts) ++ process_block program plan p ∷ []) (stack program plan p x)) (sym now)
          (subst (λ n. Moves (opened program plan s n) (closed program plan s n) (status_of n) (open_blocks program plan (t ∷ ts) ++ process_block program plan p ∷ []) (stack program plan p (act_by_need program plan a t ts (need_of_running program plan (t ∷ ts) s) s))) (sym needs)
          (head_moves program plan p v a t ts s is (subst (λ todo. bodies_in s.frames ≡ returning program todo ++ (program.functions + p) ∷ []) is h.frames) (subst (IsWay program plan (calls_of s.frames)) is h.course))))

pub steps_move : StepsMoveBlocks
steps_move = record {
  starts = λ program plan p budget v lt. record {
    frames = started_framed program plan p budget v;
    course = (starts_on_course program plan p budget v).course;
    until_end = never_runs_out.starts program plan p budget v lt;
  };
  alone = λ program plan p budget v. (let inner = process_stays program (program.functions + p) v (omega arith) in
      ap (λ bs. bs ++ process_block program plan p ∷ []) (none_open program plan inner.0 (body_numbered program (program.functions + p)).top inner.1));
  stays = λ program plan p s a v h. record {
    frames = act_framed program plan s a ((program.functions + p) ∷ []) v h.frames;
    course = stays_on_course program plan s a v h.course;
    until_end = never_runs_out.stays program plan s a h.until_end;
  };
  moves = λ program plan p s a v h running. moves program plan p v s a h running;
  depth = λ program policy p s v lt h. deep program policy v p lt s.frames s.todo h.frames;
}
