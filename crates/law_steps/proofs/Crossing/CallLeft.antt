-- The return that closes the function in which a process runs brings it beside its replay past the call.
use Rattle.std.proofs.Common.{◌≡◌, ℕ, ◌+◌, ◌≤◌, ℤ, List, ◌∷◌, ◌++◌, true, false, Option, Some, None, refl, ap, ap₂, sym, subst, ◌∙◌, arith, true≢false, ◌⊎◌}
use Rattle.std.specs.Prelude.{⊤, is_some, option_to_list, slice_get}
use Rattle.ppd_ast.specs.declared.plan.Plan.{Plan}
use Rattle.ppd_ast.specs.declared.plan.Start.TheVariants as start
use Rattle.ppd_ast.specs.declared.program.Kind.{Kind}
use Rattle.ppd_ast.specs.declared.program.Kind.TheVariants as kind
use Rattle.ppd_ast.specs.declared.program.Program.{Program}
use Rattle.ppd_ast.specs.Lookups.{kind_of}
use Rattle.ppd_ast.specs.Counting.{one_if}
use Rattle.ppd_sem.specs.declared.proc.Answer.{Answer}
use Rattle.ppd_sem.specs.declared.proc.Frame.{Frame}
use Rattle.ppd_sem.specs.declared.proc.Need.TheVariants.{Back, Invoke}
use Rattle.ppd_sem.specs.declared.proc.Proc.{Proc}
use Rattle.ppd_sem.specs.declared.proc.Todo.{Todo}
use Rattle.ppd_sem.specs.Deed.{leave}
use Rattle.ppd_sem.specs.Described.{ends_body}
use Rattle.ppd_sem.specs.Passed.{result_at, result_by}
use Rattle.ppd_sem.proofs.EventWords.{result_of_head}
use Rattle.ppd_sem.specs.Process.{act, act_by_need, call_unit, cost, need_of, need_of_head, returned, top_frame}
use Rattle.ppd_sem.proofs.NeedWords.{act_at}
use Rattle.ppd_sem.specs.Tables.{unit_of}
use Rattle.ppd_model.specs.Logs.{status_of}
use Rattle.ppd_model.specs.Marks.{Mark, opened, closed}
use Rattle.ppd_model.specs.Story.{unit_started}
use Rattle.ppd_sem.specs.Blocks.{skipped, unit_past}
use Rattle.law_steps.proofs.Vocabulary.Alone.{HasLeft}
use Rattle.law_steps.proofs.Vocabulary.Relation.{HasEnds, IsBeside, IsBlock}
use Rattle.law_steps.proofs.Vocabulary.Calls.{IsCallBlock}
use Rattle.law_steps.proofs.Vocabulary.Fine.{IsFine}
use Rattle.law_steps.proofs.Vocabulary.Held.{Held}
use Rattle.law_steps.specs.Beside.Opens.{IsCountable, IsCountedStep, IsHome, open_at, opens}
use Rattle.law_steps.proofs.Crossing.Advance.{has_head}
use Rattle.law_steps.proofs.Crossing.Calls.{Call, not_over}
use Rattle.law_steps.proofs.Beside.Closing.{IsAlone, alone}
use Rattle.law_steps.proofs.Crossing.Leaves.{HasReturned, IsEnding, ending, ending_todo, leaves, returned_by, returns}
use Rattle.law_steps.proofs.Beside.Left.{rests}
use Rattle.law_steps.proofs.Crossing.Loops.{closed_goes, running_by}
use Rattle.law_steps.proofs.Beside.OfLoop.{IsOfLoop}
use Rattle.law_steps.proofs.Beside.Opens.{counted_step, opens_append}
use Rattle.law_steps.proofs.Beside.Skipped.{call_past, skipped_is}
use Rattle.law_steps.proofs.Beside.Turned.{head_is}
use Rattle.law_steps.proofs.Beside.Needs.{or_mark, paid, payable}

module _ (program : Program) (plan : Plan) where
  value_first : (v : Option ℤ) → v ≡ slice_get (option_to_list v) 0
  value_first None = refl
  value_first (Some x) = refl

  module _ (counting : IsCountable program plan) (Fine : Proc → Type 0) (fine : IsFine program plan Fine)
      (used inside : ℕ → Type 0) (calls : Type 0) (closer : Todo) (home : ℕ) (depth : ℕ) (ends : HasEnds program)
      (block_so : IsBlock program used inside calls) (outside : List Todo)
      (b u : ℕ) (statements : ℕ → Type 0) (static : IsCallBlock program statements)
      (closes : (closer.entered ≡ true) ⊎ (ends_body (kind_of program closer.stmt) ≡ true)) where
    abbrev CallAt : Proc → ℕ → Proc → Type 0
    CallAt r level x =
        Call program plan counting Fine fine used inside calls closer home depth ends outside b u statements static r level x

    -- past the call, by the return that the process comes to
    past_return : (r x : Proc) (a : Answer) (m : Mark) (h : CallAt r 0 x) (t : Todo) (g : Frame) → Fine x
        → x.status ≡ None → closed program plan x (need_of program plan x) ≡ Some m
        → x.todo ≡ t ∷ (h.came.later ++ outside) → x.frames ≡ g ∷ h.came.before.frames → g.call ≡ Some h.came.head.stmt
        → ends_body (kind_of program t.stmt) ≡ true → IsEnding program plan x t (need_of program plan x)
        → HasLeft program plan used inside calls closer home depth outside (λ s r. Fine s) m r x a
    past_return r x a m h t g ok running e is frames call done (leaves left c q eo n of) =
        absurd (true≢false (sym done ∙ goes (kind_of program t.stmt) of))
      where
        goes : (k : Kind) → IsOfLoop k leave → ends_body k ≡ false
        goes (kind.While e body) h = refl
        goes k h = absurd h
    past_return r x a m h t g ok running e is frames call done (returns left v c q eo n ret) =
        let w : Option ℕ = call_unit plan (top_frame x.frames).call in
        let after : act program plan x a ≡ act_by_need program plan a t (h.came.later ++ outside) (Back (Some c) w) x =
        ap (λ todo. act_at program plan a todo x) is
        ∙ ap (λ m. act_by_need program plan a t (h.came.later ++ outside) m x) n in
        let l : HasReturned program plan x (act program plan x a) v (Back (Some c) w) (h.came.later ++ outside) =
        subst (λ (y : Proc). HasReturned program plan x y v (Back (Some c) w) (h.came.later ++ outside)) (sym after)
        (returned_by program plan a x t (h.came.later ++ outside) left v (Some c) w q) in
        let result : result_at program x ≡ option_to_list v =
        ap (λ ts. option_to_list (result_of_head program x (slice_get ts 0))) is
        ∙ ap (λ y. option_to_list (result_by y)) q in
        let values : m.values ≡ option_to_list v =
        ap (λ o. (or_mark m o).values) (sym e ∙ ap (closed program plan x) n) ∙ result in
        let cheap : x.spent + cost plan (Back (Some c) w) ≤ x.budget = paid program plan x (Back (Some c) w) n refl in
        let unit : w ≡ Some (unit_of plan (start.After h.came.head.stmt)) =
        ap (λ fs. call_unit plan (top_frame fs).call) frames ∙ ap (call_unit plan) call in
        let past : IsBeside program used inside calls closer home depth outside (act program plan x a)
        (skipped program plan m.values r) =
        subst (λ y. IsBeside program used inside calls closer home depth outside (act program plan x a) y)
        (sym (skipped_is program plan m.values (Invoke (Some b) u) r h.came.need_is))
        (call_past program used inside calls closer home depth ends block_so outside plan b u v m.values h.came.head h.came.later g h.came.before r (act program plan x a)
        h.came.beside h.came.head_is h.came.goes_on
        (λ y. rests program plan used inside calls closer home depth ends block_so outside b u statements closes h.came.before.frames r.frames h.came.head h.came.later h.came.unentered h.came.goes_on y)
        call (value_first v ∙ ap (λ vs. slice_get vs 0) (sym values))
        (l.frames ∙ ap (returned program v) frames) l.todo l.answers (l.status ∙ running ∙ sym h.came.running)
        (l.budget ∙ h.budget) (l.below ∙ h.whole) (omega (arith, l.spent, h.spent))) in
        record {
          beside = past;
          kept = fine.on x a ok;
          unit_is = ap unit_started n ∙ unit ∙ ap₂ (λ (ys : List Todo) n. Some (unit_past plan ys n))
              (sym h.came.head_is) (sym h.came.need_is);
          running = l.status ∙ running;
          paid = omega (arith, l.spent, l.budget, cheap);
        }

    pub call_leaves : (r x : Proc) (a : Answer) (m : Mark) → (h : CallAt r 0 x) → 1 ≤ open_at program plan h.last
        → Fine x → opened program plan x (need_of program plan x) ≡ None
        → closed program plan x (need_of program plan x) ≡ Some m
        → HasLeft program plan used inside calls closer home depth outside (λ s r. Fine s) m r x a
    call_leaves r x a m h counts ok none e =
        let rest : List Todo = h.came.later ++ outside in
        let running : x.status ≡ None =
        running_by program plan x (λ n. is_some (closed program plan x n)) refl (ap is_some e) in
        let goes : status_of (need_of program plan x) ≡ None =
        closed_goes program plan x (need_of program plan x) (ap is_some e)
        (not_over program plan counting Fine fine used inside calls closer home depth ends outside b u statements static r x 0 h ok) in
        let p = has_head program plan counting Fine fine
        (λ c. ⊤) statements ends static.writing h.last h.base h.came.before.frames rest
        (λ e. absurd (true≢false (sym e ∙ h.last_is)))
        (λ e. h.ends) static.no_end h.within.has_called x.frames h.within.todo h.within.frames in
        let t : Todo = p.0 in
        let ts : List Todo = p.1 in
        let is : x.todo ≡ t ∷ (ts ++ rest) = h.within.todo_is ∙ ap (λ ys. ys ++ rest) p.2 in
        let head : need_of_head program plan t x ≡ need_of program plan x =
        head_is program plan x t (ts ++ rest) (need_of program plan x) running is refl
        (payable (need_of program plan x) goes) in
        let end : IsEnding program plan x t (need_of program plan x) =
        ending program plan x t (need_of program plan x) head (ap is_some e) goes in
        let home_so : IsHome program plan x t = fine.home x t (ts ++ rest) ok running is in
        let step : IsCountedStep program plan x (need_of program plan x) (act program plan x a) =
        counted_step program plan counting x a t (ts ++ rest) is home_so running in
        let after : (act program plan x a).todo ≡ ts ++ rest =
        ap (λ todo. (act_at program plan a todo x).todo) is ∙ ending_todo program plan x a t (ts ++ rest)
        (need_of program plan x) end in
        let before : opens program plan x.todo ≡ opens program plan h.within.todo + opens program plan rest =
        ap (opens program plan) h.within.todo_is ∙ opens_append program plan counting h.within.todo rest in
        let now : opens program plan
        (act program plan x a).todo ≡ opens program plan ts + opens program plan rest =
        ap (opens program plan) after ∙ opens_append program plan counting ts rest in
        let free : opens program plan ts ≡ 0 =
        omega (arith, step, before, now, h.counted, ap (λ o. one_if (is_some o)) e, ap (λ o. one_if (is_some o)) none) in
        let held : Held program (λ c. ⊤) statements h.last h.base h.came.before.frames h.within.has_called x.frames
        (t ∷ ts) =
        subst (λ ys. Held program (λ c. ⊤) statements h.last h.base h.came.before.frames h.within.has_called x.frames ys) p.2 h.within.frames in
        let one : IsAlone program plan (λ c. ⊤) statements h.last h.base h.came.before.frames counts x.frames t ts =
        alone program plan
        (λ c. ⊤) statements h.last h.base h.came.before.frames counts h.within.has_called x.frames t ts held free in
        past_return r x a m h t one.frame ok running e (is ∙ ap (λ ys. t ∷ (ys ++ rest)) one.rest) one.frames
        (one.kept.call ∙ h.call) (ap (λ (y : Todo). ends_body (kind_of program y.stmt)) one.head ∙ h.ends) end
