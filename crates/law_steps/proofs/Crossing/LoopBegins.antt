-- The step that enters a loop begins to run in it, beside the replay that stands at it.
use Rattle.std.proofs.Common.{◌≡◌, ℕ, ◌+◌, ◌≤◌, List, [], ◌∷◌, ◌++◌, true, false, Some, None, refl, ap, sym, subst, ◌∙◌, arith, cond}
use Rattle.std.proofs.lemmas.Bool.{cond-false, le-ltb}
use Rattle.std.specs.Prelude.{nat_lt}
use Rattle.ppd_ast.specs.declared.plan.Plan.{Plan}
use Rattle.ppd_ast.specs.declared.program.Program.{Program}
use Rattle.ppd_ast.specs.Lookups.{kind_of, body_of}
use Rattle.ppd_sem.specs.Blocks.{postlog_cells}
use Rattle.ppd_sem.specs.declared.proc.Answer.{Answer}
use Rattle.ppd_sem.specs.declared.proc.Frame.{Frame}
use Rattle.ppd_sem.specs.declared.proc.Need.TheVariants.{Enter, Budget}
use Rattle.ppd_sem.specs.declared.proc.Proc.{Proc}
use Rattle.ppd_sem.specs.declared.proc.Todo.{Todo}
use Rattle.ppd_sem.specs.Process.{act, act_by_need, cost, entry_of, head_deed, need_of, need_of_head, offer_of}
use Rattle.ppd_sem.proofs.NeedWords.{act_at, need_by_entry, need_by_offer}
use Rattle.ppd_sem.proofs.Progress.{need_at_todo}
use Rattle.law_steps.proofs.Vocabulary.Across.{IsInLoop}
use Rattle.law_steps.proofs.Vocabulary.Relation.{IsBeside, Stacked, at_base, called}
use Rattle.law_steps.proofs.Vocabulary.Fine.{IsLoopBlock}
use Rattle.law_steps.proofs.Vocabulary.Held.{Among, Held, IsIn, own}
use Rattle.law_steps.specs.Beside.Opens.{IsWhile, ends_block}
use Rattle.law_steps.proofs.Beside.Kept.{head}
use Rattle.law_steps.proofs.Crossing.Loops.{entered_by}
use Rattle.law_steps.proofs.Beside.Entries.{entry_loops, loop_block}
use Rattle.law_steps.proofs.Beside.LoopKinds.{while_ends_none, while_goes}
use Rattle.law_steps.proofs.Beside.Turned.{asks_is, head_is, unoffered}
use Rattle.law_steps.proofs.Beside.Needs.{paid}

module _ (program : Program) (plan : Plan) (used inside : ℕ → Type 0) (calls : Type 0) (closer : Todo) (home : ℕ)
    (depth : ℕ) (outside : List Todo) (b u : ℕ) (statements : ℕ → Type 0)
    (static : IsLoopBlock program plan b statements) where
  top_is : (fs gs : List Frame) (todo : List Todo) → Stacked program used inside calls closer home fs gs todo
      → (f : Frame) × (below : List Frame) × (fs ≡ f ∷ below)
  top_is fs gs todo (at_base f g fs' gs' todo' same body first within) = (f, fs', refl)
  top_is fs gs todo (called f fs' gs' todo' k has below) = (f, fs', refl)

  -- what stands in the loop that was entered
  abbrev begun : (s y : Proc) (t : Todo) (ts : List Todo) (f : Frame) (below : List Frame) → s.frames ≡ f ∷ below
      → statements t.stmt → y.todo ≡ record t { entered = true } ∷ (ts ++ outside) → y.frames ≡ s.frames
      → IsIn program (Among (postlog_cells plan b)) statements (record t { entered = true }) f below (ts ++ outside) y
  begun s y t ts f below top in_it todo frames = record {
    has_called = false;
    todo = record t { entered = true } ∷ [];
    todo_is = todo;
    frames = subst (λ fs. Held program (Among (postlog_cells plan b)) statements
        (record t { entered = true }) f below false fs (record t { entered = true } ∷ [])) (sym (frames ∙ top))
        (own f (record t { entered = true } ∷ [])
        (record { body = refl; call = refl; lengths = refl; values = λ c no_write. refl }) ((in_it, tt), refl));
  }

  pub loop_begins : (s r : Proc) (a : Answer) → IsBeside program used inside calls closer home depth outside s r
      → s.status ≡ None → need_of program plan s ≡ Enter b u
      → (need_of program plan r ≡ Enter b u)
      × IsInLoop program plan used inside calls closer home depth outside b u statements r 0
      (act program plan s a)
  loop_begins s r a beside running need =
      let h = head program plan used inside calls closer home depth outside s r beside in
      let t : Todo = h.0 in
      let ts : List Todo = h.1 in
      let is : s.todo ≡ t ∷ (ts ++ outside) = beside.todo ∙ ap (λ ys. ys ++ outside) h.2 in
      let same : need_of_head program plan t s ≡ Enter b u =
      head_is program plan s t (ts ++ outside) (Enter b u) running is need refl in
      let asks : need_by_entry program plan t.stmt s (entry_of program plan t)
      (head_deed program t s) ≡ Enter b u = asks_is program plan s t (Enter b u) same refl in
      let none_taken : offer_of program t ≡ None =
      unoffered program plan t.stmt (offer_of program t)
      (need_by_entry program plan t.stmt s (entry_of program plan t) (head_deed program t s))
      (Enter b u) same refl in
      let entry : entry_of program plan t ≡ Some b =
      entered_by program plan t.stmt s (entry_of program plan t) (head_deed program t s) b u asks in
      let loop : (t.entered ≡ false) × IsWhile (kind_of program t.stmt) = entry_loops program plan t b entry in
      let theirs : need_of_head program plan t r ≡ Enter b u =
      ap (λ o. need_by_offer plan t.stmt o
      (need_by_entry program plan t.stmt r (entry_of program plan t) (head_deed program t r))) none_taken
      ∙ ap (λ o. need_by_entry program plan t.stmt r o (head_deed program t r)) entry
      ∙ sym (ap (λ o. need_by_entry program plan t.stmt s o (head_deed program t s)) entry) ∙ asks in
      let within_purse : s.spent + cost plan (Enter b u) ≤ s.budget = paid program plan s (Enter b u) need refl in
      let cheap : nat_lt r.budget (r.spent + cost plan (Enter b u)) ≡ false =
      le-ltb r.budget (r.spent + cost plan (Enter b u))
      (omega (arith, beside.spent, beside.budget, within_purse)) in
      let replays : need_of program plan r ≡ Enter b u =
      need_at_todo program plan r (t ∷ ts) (sym beside.status ∙ running) h.2
      ∙ ap (λ n. cond (nat_lt r.budget (r.spent + cost plan n)) Budget n) theirs ∙ cond-false
      (nat_lt r.budget (r.spent + cost plan (Enter b u))) Budget (Enter b u) cheap in
      let after : act program plan s a ≡ act_by_need program plan a t (ts ++ outside) (Enter b u) s =
      ap (λ todo. act_at program plan a todo s) is
      ∙ ap (λ n. act_by_need program plan a t (ts ++ outside) n s) need in
      let top = top_is s.frames r.frames r.todo beside.frames in
      let in_it : statements t.stmt = static.loop t.stmt loop.1 (loop_block program plan t b entry) in
      let none : ends_block plan (body_of program t.stmt) (kind_of program t.stmt) ≡ 0 =
      while_ends_none plan (body_of program t.stmt) (kind_of program t.stmt) loop.1 in (
        replays,
        record {
          came = record {
            before = s;
            beside = beside;
            need_is = replays;
            head = t;
            later = ts;
            head_is = h.2;
            goes_on = while_goes (kind_of program t.stmt) loop.1;
            unentered = loop.0;
            running = running;
          };
          base = top.0;
          below = top.1;
          top = top.2;
          within = begun s (act program plan s a) t ts top.0 top.1 top.2 in_it (ap (λ (y : Proc). y.todo) after)
              (ap (λ (y : Proc). y.frames) after);
          counted = omega (arith, none);
          whole = ap (λ (y : Proc). y.below) after ∙ beside.whole;
          budget = ap (λ (y : Proc). y.budget) after;
          spent = omega (arith, ap (λ (y : Proc). y.spent) after);
        },
      )
