-- The step that closes the loop in which a process runs brings it beside its replay past the loop.
use Rattle.std.proofs.Common.{◌≡◌, ℕ, ◌+◌, ◌≤◌, List, ◌∷◌, ◌++◌, true, Option, Some, None, refl, ap, ap₂, sym, subst, ◌∙◌, arith, true≢false, ◌⊎◌}
use Rattle.std.specs.Prelude.{is_some}
use Rattle.ppd_ast.specs.declared.plan.BlockKind.TheVariants as block
use Rattle.ppd_ast.specs.declared.plan.Plan.{Plan}
use Rattle.ppd_ast.specs.declared.plan.Start.TheVariants as start
use Rattle.ppd_ast.specs.declared.program.Program.{Program}
use Rattle.ppd_ast.specs.Lookups.{kind_of}
use Rattle.ppd_ast.specs.Counting.{one_if}
use Rattle.ppd_sem.specs.Blocks.{postlog_cells}
use Rattle.ppd_sem.specs.declared.proc.Answer.{Answer}
use Rattle.ppd_sem.specs.declared.proc.Need.{Need}
use Rattle.ppd_sem.specs.declared.proc.Need.TheVariants.{Leave}
use Rattle.ppd_sem.specs.declared.proc.Proc.{Proc}
use Rattle.ppd_sem.specs.declared.proc.Todo.{Todo}
use Rattle.ppd_sem.specs.Described.{ends_body}
use Rattle.ppd_sem.specs.Process.{act, cost, need_of, need_of_head}
use Rattle.ppd_sem.proofs.NeedWords.{act_at}
use Rattle.ppd_sem.specs.Tables.{block_of, unit_of}
use Rattle.ppd_model.specs.Logs.{status_of}
use Rattle.ppd_model.specs.Marks.{Mark, opened, closed, values_at}
use Rattle.ppd_model.specs.Story.{unit_started}
use Rattle.ppd_sem.specs.Blocks.{skipped, unit_past}
use Rattle.law_steps.proofs.Vocabulary.Alone.{HasLeft}
use Rattle.law_steps.proofs.Vocabulary.Relation.{HasEnds, IsBeside, IsBlock, IsReturn}
use Rattle.law_steps.proofs.Vocabulary.Fine.{IsFine, IsLoopBlock}
use Rattle.law_steps.proofs.Vocabulary.Held.{Among, Held}
use Rattle.law_steps.specs.Beside.Opens.{IsCountable, IsCountedStep, IsHome, IsWhile, opens}
use Rattle.law_steps.proofs.Crossing.Advance.{has_head}
use Rattle.law_steps.proofs.Beside.Closing.{IsAlone, alone}
use Rattle.law_steps.proofs.Crossing.Leaves.{IsEnding, leaves, returns, ending, ending_todo}
use Rattle.law_steps.proofs.Beside.Left.{HasLeftLoop, left_loop, loop_left}
use Rattle.law_steps.proofs.Crossing.Loops.{Loop, closed_goes, entry_is, is_loop, no_end, not_over, running_by}
use Rattle.law_steps.proofs.Beside.Opens.{counted_step, opens_append}
use Rattle.law_steps.proofs.Beside.LoopKinds.{return_no_loop}
use Rattle.law_steps.proofs.Beside.Turned.{head_is}
use Rattle.law_steps.proofs.Beside.Entries.{loop_block}
use Rattle.law_steps.proofs.Beside.Needs.{or_mark, paid, payable}

module _ (program : Program) (plan : Plan) where
  or_zero_of : Option ℕ → ℕ
  or_zero_of None = 0
  or_zero_of (Some x) = x

  module _ (counting : IsCountable program plan) (Fine : Proc → Type 0) (fine : IsFine program plan Fine)
      (used inside : ℕ → Type 0) (calls : Type 0) (closer : Todo) (home : ℕ) (depth : ℕ) (ends : HasEnds program)
      (block_so : IsBlock program used inside calls) (outside : List Todo)
      (b u : ℕ) (statements : ℕ → Type 0) (static : IsLoopBlock program plan b statements)
      (closes : (closer.entered ≡ true) ⊎ (ends_body (kind_of program closer.stmt) ≡ true)) where
    abbrev LoopAt : Proc → ℕ → Proc → Type 0
    LoopAt r level x =
        Loop program plan counting Fine fine used inside calls closer home depth ends outside b u statements static r level x

    -- the head is the loop's own, and leaves it
    record IsAtEnd (r x : Proc) (h : LoopAt r 0 x) : Type 0 where
      t : Todo
      ts : List Todo
      todo : h.within.todo ≡ t ∷ ts
      none : opens program plan ts ≡ 0
      head : t.stmt ≡ h.came.head.stmt
      need : need_of program plan x ≡ Leave b (unit_of plan (start.Exit h.came.head.stmt))

    leaving : (x : Proc) (t : Todo) (n : Need) (s : ℕ) → t.stmt ≡ s → IsWhile (kind_of program s)
        → block_of plan (block.Loop s) ≡ Some b → IsEnding program plan x t n
        → n ≡ Leave b (unit_of plan (start.Exit s))
    unfolding or_zero_of
    leaving x t n s same loop here (leaves left c e eo is of) =
        is ∙ ap₂ (λ c s. Leave c (unit_of plan (start.Exit s)))
        (ap or_zero_of (sym eo ∙ ap (λ s. block_of plan (block.Loop s)) same ∙ here)) same
    leaving x t n s same loop here (returns left v c e eo is r) =
        absurd (return_no_loop (kind_of program s) (subst (λ y. IsReturn (kind_of program y)) same r) loop)

    at_end : (r x : Proc) (a : Answer) (m : Mark) (h : LoopAt r 0 x) → Fine x → x.status ≡ None
        → status_of (need_of program plan x) ≡ None → opened program plan x (need_of program plan x) ≡ None
        → closed program plan x (need_of program plan x) ≡ Some m
        → IsWhile (kind_of program h.came.head.stmt) × (is_some (block_of plan (block.Loop h.came.head.stmt)) ≡ true)
        → IsAtEnd r x h
    unfolding or_zero_of
    at_end r x a m h ok running goes none e loop =
        let own : Todo = record h.came.head { entered = true } in
        let p = has_head program plan counting Fine fine
        (Among (postlog_cells plan b)) statements ends static.writing own h.base h.below (h.came.later ++ outside)
        (λ e. loop) (λ e. absurd (true≢false e))
        (λ s i k. no_end program plan counting Fine fine used inside calls closer home depth ends outside b u statements static s i k) h.within.has_called x.frames h.within.todo h.within.frames in
        let t : Todo = p.0 in
        let ts : List Todo = p.1 in
        let is : x.todo ≡ t ∷ (ts ++ (h.came.later ++ outside)) =
        h.within.todo_is ∙ ap (λ ys. ys ++ (h.came.later ++ outside)) p.2 in
        let head : need_of_head program plan t x ≡ need_of program plan x =
        head_is program plan x t (ts ++ (h.came.later ++ outside)) (need_of program plan x) running is refl
        (payable (need_of program plan x) goes) in
        let end : IsEnding program plan x t (need_of program plan x) =
        ending program plan x t (need_of program plan x) head (ap is_some e) goes in
        let home_so : IsHome program plan x t = fine.home x t (ts ++ (h.came.later ++ outside)) ok running is in
        let step : IsCountedStep program plan x (need_of program plan x) (act program plan x a) =
        counted_step program plan counting x a t (ts ++ (h.came.later ++ outside)) is home_so running in
        let after : (act program plan x a).todo ≡ ts ++ (h.came.later ++ outside) =
        ap (λ todo. (act_at program plan a todo x).todo) is ∙ ending_todo program plan x a t
        (ts ++ (h.came.later ++ outside)) (need_of program plan x) end in
        let before : opens program plan x.todo ≡ opens program plan h.within.todo + opens program plan
        (h.came.later ++ outside) = ap (opens program plan) h.within.todo_is
        ∙ opens_append program plan counting h.within.todo (h.came.later ++ outside) in
        let now : opens program plan (act program plan x a).todo ≡ opens program plan ts + opens program plan
        (h.came.later ++ outside) = ap (opens program plan) after ∙ opens_append program plan counting ts
        (h.came.later ++ outside) in
        let free : opens program plan ts ≡ 0 =
        omega (arith, step, before, now, h.counted, ap (λ o. one_if (is_some o)) e, ap (λ o. one_if (is_some o)) none) in
        let held : Held program (Among
        (postlog_cells plan b)) statements own h.base h.below h.within.has_called x.frames
        (t ∷ ts) = subst (λ ys. Held program (Among
        (postlog_cells plan b)) statements own h.base h.below h.within.has_called x.frames ys) p.2 h.within.frames in
        let one : IsAlone program plan (Among (postlog_cells plan b)) statements own h.base h.below
        (omega arith) x.frames t ts =
        alone program plan (Among (postlog_cells plan b)) statements own h.base h.below
        (omega arith) h.within.has_called x.frames t ts held free in
        let stmt : t.stmt ≡ h.came.head.stmt = ap (λ (y : Todo). y.stmt) one.head in
        record {
          t = t;
          ts = ts;
          todo = p.2;
          none = free;
          head = stmt;
          need = leaving x t (need_of program plan x) h.came.head.stmt stmt loop.0
              (loop_block program plan h.came.head b
              (entry_is program plan counting Fine fine used inside calls closer home depth ends outside b u statements static r x 0 h)) end;
        }

    pub loop_leaves : (r x : Proc) (a : Answer) (m : Mark) → LoopAt r 0 x → Fine x
        → opened program plan x (need_of program plan x) ≡ None
        → closed program plan x (need_of program plan x) ≡ Some m
        → HasLeft program plan used inside calls closer home depth outside (λ s r. Fine s) m r x a
    loop_leaves r x a m h ok none e =
        let running : x.status ≡ None =
        running_by program plan x (λ n. is_some (closed program plan x n)) refl (ap is_some e) in
        let goes : status_of (need_of program plan x) ≡ None =
        closed_goes program plan x (need_of program plan x) (ap is_some e)
        (not_over program plan counting Fine fine used inside calls closer home depth ends outside b u statements static r x 0 h ok) in
        let loop =
        is_loop program plan counting Fine fine used inside calls closer home depth ends outside b u statements static r x 0 h in
        let z : IsAtEnd r x h = at_end r x a m h ok running goes none e loop in
        let beside : IsBeside program used inside calls closer home depth outside (act program plan x a)
        (skipped program plan (values_at x (postlog_cells plan b)) r) =
        loop_left program plan used inside calls closer home depth ends block_so outside b u statements closes r x a (unit_of plan (start.Exit h.came.head.stmt)) z.t z.ts h running z.todo z.none z.need in
        let values : m.values ≡ values_at x (postlog_cells plan b) =
        ap (λ o. (or_mark m o).values) (sym e ∙ ap (closed program plan x) z.need) in
        let l : HasLeftLoop program plan x (act program plan x a) b (unit_of plan (start.Exit h.came.head.stmt))
        (z.ts ++ (h.came.later ++ outside)) =
        left_loop program plan x a z.t (z.ts ++ (h.came.later ++ outside)) b
        (unit_of plan (start.Exit h.came.head.stmt)) running
        (h.within.todo_is ∙ ap (λ ys. ys ++ (h.came.later ++ outside)) z.todo) z.need in
        let cheap : x.spent + cost plan (Leave b (unit_of plan (start.Exit h.came.head.stmt))) ≤ x.budget =
        paid program plan x (Leave b (unit_of plan (start.Exit h.came.head.stmt))) z.need refl in
        record {
          beside = subst (λ vs. IsBeside program used inside calls closer home depth outside (act program plan x a)
              (skipped program plan vs r)) (sym values) beside;
          kept = fine.on x a ok;
          unit_is = ap unit_started z.need ∙ ap₂ (λ (ys : List Todo) n. Some (unit_past plan ys n)) (sym h.came.head_is)
              (sym h.came.need_is);
          running = l.status ∙ running;
          paid = omega (arith, l.spent, l.budget, cheap);
        }
