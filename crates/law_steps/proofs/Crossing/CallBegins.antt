-- The step that calls a block begins to run in it, beside the replay that stands at it.
use Rattle.std.proofs.Common.{◌≡◌, ℕ, ◌+◌, ◌≤◌, ℤ, List, ◌∷◌, ◌++◌, Bool, true, false, Option, Some, None, Ok, Err, refl, ap, sym, subst, ◌∙◌, arith, true≢false, length, zero, suc}
use Rattle.std.proofs.lemmas.Bool.{le-ltb}
use Rattle.std.specs.Prelude.{is_some, nat_lt, if◌then◌else◌}
use Rattle.ppd_ast.specs.declared.plan.BlockKind.TheVariants as block
use Rattle.ppd_ast.specs.declared.plan.Plan.{Plan}
use Rattle.ppd_ast.specs.declared.plan.Start.TheVariants as start
use Rattle.ppd_ast.specs.declared.program.Program.{Program}
use Rattle.ppd_ast.specs.declared.status.Trap.TheVariants as trap
use Rattle.ppd_ast.specs.Lookups.{kind_of, body_numbered}
use Rattle.ppd_ast.specs.Counting.{one_if}
use Rattle.ppd_ast.specs.declared.limits.TheConstants.{MOST_CALLS}
use Rattle.ppd_sem.specs.declared.asking.Pause.TheVariants.{Wants, Traps}
use Rattle.ppd_sem.specs.declared.proc.Answer.{Answer}
use Rattle.ppd_sem.specs.declared.proc.Need.{Need}
use Rattle.ppd_sem.specs.declared.proc.Need.TheVariants.{Invoke, Trap}
use Rattle.ppd_sem.specs.declared.proc.Proc.{Proc}
use Rattle.ppd_sem.specs.declared.proc.Todo.{Todo}
use Rattle.ppd_sem.specs.Asked.{Asked}
use Rattle.ppd_sem.specs.Deed.{Deed, invoke, leave, send}
use Rattle.ppd_sem.specs.Process.{act, act_by_asked, act_by_need, charged, cost, entry_of, head_deed, need_of, need_of_asked, need_of_deed, need_of_head, need_of_leaving, need_of_send, new_frame, todos, top_frame}
use Rattle.ppd_sem.proofs.NeedWords.{act_at, need_by_entry}
use Rattle.ppd_sem.specs.Tables.{block_of, capacity_of, unit_of}
use Rattle.ppd_model.specs.Marks.{closed}
use Rattle.ppd_model.specs.Replay.{is_budget}
use Rattle.law_steps.proofs.Vocabulary.Alone.{IsKept}
use Rattle.law_steps.specs.Beside.Relation.{IsCallOf}
use Rattle.law_steps.proofs.Vocabulary.Relation.{HasEnds, IsBeside, IsBlock, Suits, Yields}
use Rattle.law_steps.proofs.Vocabulary.Calls.{IsCallBody, IsInCall}
use Rattle.law_steps.proofs.Vocabulary.Held.{own}
use Rattle.law_steps.specs.Beside.Opens.{IsCountable, IsHome}
use Rattle.law_steps.proofs.Beside.Deeds.{call_goes_on, suits}
use Rattle.law_steps.proofs.Beside.Framed.{framed}
use Rattle.law_steps.proofs.Beside.Needs.{is_enter, paid}
use Rattle.law_steps.proofs.Beside.Steps.{HasStep, step_beside}
use Rattle.law_steps.proofs.Beside.Turned.{asks_is, head_is}
use Rattle.law_steps.proofs.Beside.LoopKinds.{call_no_loop}

module _ (program : Program) (plan : Plan) where
  block_or : Need → Option ℕ
  block_or (Invoke o u) = o
  block_or n = None

  -- the head calls a block
  pub record IsCalling (s : Proc) (t : Todo) (b : ℕ) : Type 0 where
    pub f : ℕ
    pub values : List ℤ
    pub into : Option ℕ
    pub left : List ℤ
    pub deed : head_deed program t s ≡ Ok (invoke f values into, left)
    pub call : IsCallOf (kind_of program t.stmt) f
    pub block_is : block_of plan (block.Function f) ≡ Some b

  deed_calls : (s : Proc) (t : Todo) (b : ℕ) (d : Deed) (left : List ℤ) → head_deed program t s ≡ Ok (d, left)
      → Suits (kind_of program t.stmt) d → block_or (need_of_deed program plan t.stmt s d) ≡ Some b → IsCalling s t b
  unfolding block_or
  deed_calls s t b (invoke f values into) left e su n = by (nat_lt MOST_CALLS (s.below + length s.frames)) n
    where
      by : (x : Bool) → block_or
          (if x then Trap trap.Depth else Invoke (block_of plan (block.Function f)) (unit_of plan (start.Entry f)))
          ≡ Some b → IsCalling s t b
      by true h = absurd (true≢false (ap is_some (sym h)))
      by false h = record { f = f; values = values; into = into; left = left; deed = e; call = su; block_is = h }
  deed_calls s t b leave left e su n = by (block_of plan (block.Loop t.stmt)) n
    where
      by : (o : Option ℕ) → block_or (need_of_leaving plan t.stmt o) ≡ Some b → IsCalling s t b
      by None h = absurd (true≢false (ap is_some (sym h)))
      by (Some c) h = absurd (true≢false (ap is_some (sym h)))
  deed_calls s t b (send c v) left e su n = by (capacity_of program c) n
    where
      by : (m : ℕ) → block_or (need_of_send plan t.stmt m c v) ≡ Some b → IsCalling s t b
      by zero h = absurd (true≢false (ap is_some (sym h)))
      by (suc m) h = absurd (true≢false (ap is_some (sym h)))
  deed_calls s t b d left e su n = absurd (true≢false (ap is_some (sym n)))

  asked_calls : (s : Proc) (t : Todo) (b : ℕ) (q : Asked Deed) → head_deed program t s ≡ q
      → block_or (need_of_asked program plan t.stmt s q) ≡ Some b → IsCalling s t b
  unfolding block_or
  asked_calls s t b (Ok p) e n =
      deed_calls s t b p.0 p.1 e
      (subst (Yields (Suits (kind_of program t.stmt))) e
      (suits program.exprs (kind_of program t.stmt) (top_frame s.frames).cells s.answers)) n
  asked_calls s t b (Err (Wants c)) e n = absurd (true≢false (ap is_some (sym n)))
  asked_calls s t b (Err (Traps c)) e n = absurd (true≢false (ap is_some (sym n)))

  entry_calls : (s : Proc) (t : Todo) (b : ℕ) (o : Option ℕ)
      → block_or (need_by_entry program plan t.stmt s o (head_deed program t s)) ≡ Some b → IsCalling s t b
  unfolding block_or
  entry_calls s t b (Some c) n = absurd (true≢false (ap is_some (sym n)))
  entry_calls s t b None n = asked_calls s t b (head_deed program t s) refl n

  calm : (s : Proc) (t : Todo) (f : ℕ) (e : Bool) → t.entered ≡ e → IsHome program plan s t
      → IsCallOf (kind_of program t.stmt) f → t.entered ≡ false
  calm s t f true e home c = absurd (call_no_loop (kind_of program t.stmt) f c (home.loops e))
  calm s t f false e home c = e

  module _ (counting : IsCountable program plan) (used inside : ℕ → Type 0) (calls : Type 0) (closer : Todo)
      (home : ℕ) (depth : ℕ) (ends : HasEnds program) (block_so : IsBlock program used inside calls)
      (outside : List Todo) (Kept : Proc → Proc → Type 0)
      (kept : IsKept program plan used inside calls closer home depth outside Kept)
      (b u : ℕ) (statements : ℕ → Type 0)
      (static : (f : ℕ) → block_of plan (block.Function f) ≡ Some b → IsCallBody program plan statements f) where
    pub call_begins : (s r : Proc) (a : Answer) → IsBeside program used inside calls closer home depth outside s r
        → Kept s r → ((t : Todo) (ts : List Todo) → s.todo ≡ t ∷ ts → IsHome program plan s t) → s.status ≡ None
        → need_of program plan s ≡ Invoke (Some b) u
        → (need_of program plan r ≡ Invoke (Some b) u)
        × IsInCall program plan used inside calls closer home depth outside b u statements r 0
        (act program plan s a)
    unfolding block_or
    call_begins s r a beside ok homes running need =
        let h = kept.head s r beside ok running in
        let t : Todo = h.0 in
        let ts : List Todo = h.1 in
        let is : s.todo ≡ t ∷ (ts ++ outside) = beside.todo ∙ ap (λ ys. ys ++ outside) h.2 in
        let head : need_of_head program plan t s ≡ Invoke (Some b) u =
        head_is program plan s t (ts ++ outside) (Invoke (Some b) u) running is need refl in
        let c : IsCalling s t b =
        entry_calls s t b (entry_of program plan t)
        (ap block_or (asks_is program plan s t (Invoke (Some b) u) head refl)) in
        let body : IsCallBody program plan statements c.f = static c.f c.block_is in
        let within_purse : s.spent + cost plan (Invoke (Some b) u) ≤ s.budget =
        paid program plan s (Invoke (Some b) u) need refl in
        let step : HasStep program used inside calls closer home depth ends block_so outside plan a s r =
        step_beside program used inside calls closer home depth ends block_so outside plan a s r t ts beside
        (record {
          todo = h.2;
          running = running;
          affordable = ap (λ n. nat_lt s.budget (s.spent + cost plan n)) head ∙ le-ltb s.budget
              (s.spent + cost plan (Invoke (Some b) u)) within_purse;
          no_entry = ap is_enter head;
          stays = kept.stays s r t ts beside ok running h.2 (ap is_budget need) (ap (closed program plan s) need)
              (framed program used inside calls closer home depth ends block_so outside s r t ts h.2 beside).stacked;
        }) in
        let todo : List Todo = todos (body_numbered program c.f).top in
        let after : act program plan s a ≡ charged plan (Invoke (Some b) u)
        (act_by_asked program a t (ts ++ outside) (Ok (invoke c.f c.values c.into, c.left)) s) =
        ap (λ todo. act_at program plan a todo s) is
        ∙ ap (λ n. act_by_need program plan a t (ts ++ outside) n s) need
        ∙ ap (λ q. charged plan (Invoke (Some b) u) (act_by_asked program a t (ts ++ outside) q s)) c.deed in
        let begun : IsInCall program plan used inside calls closer home depth outside b u statements r 0
        (charged plan (Invoke (Some b) u)
        (act_by_asked program a t (ts ++ outside) (Ok (invoke c.f c.values c.into, c.left)) s)) = record {
          came = record {
            before = s;
            beside = beside;
            need_is = step.need ∙ need;
            head = t;
            later = ts;
            head_is = h.2;
            goes_on = call_goes_on (kind_of program t.stmt) c.f c.call;
            unentered = calm s t c.f t.entered refl (homes t (ts ++ outside) is) c.call;
            running = running;
          };
          base = new_frame program c.f c.values (Some t.stmt);
          call = refl;
          block_is = c.block_is;
          last = body.last;
          ends = body.ends;
          last_is = body.last_is;
          counts = body.counts;
          within = record {
            has_called = false;
            todo = todo;
            todo_is = refl;
            frames = own
                (new_frame program c.f c.values (Some t.stmt)) todo
                (record { body = refl; call = refl; lengths = refl; values = λ d none. refl }) body.own;
          };
          over = record { more = 0; frames = omega arith; past = ends.whole t.stmt c.f c.call (ts ++ outside) };
          counted = omega (arith, counting.bodies t.stmt c.f c.call, ap (λ o. one_if (is_some o)) c.block_is);
          whole = beside.whole;
          budget = refl;
          spent = omega arith;
        } in (
          step.need
              ∙ need,
          subst (λ (y : Proc). IsInCall program plan used inside calls closer home depth outside b u statements r 0 y) (sym after) begun,
        )
