-- One step of the process and of its replay.
use Rattle.std.proofs.Common.{◌≡◌, ℕ, zero, suc, ◌+◌, ◌<◌, ◌≤◌, List, [], ◌∷◌, ◌++◌, Option, None, false, Ok, refl, ap, sym, subst, ◌∙◌, arith, true≢false}
use Rattle.std.proofs.lemmas.Bool.{le-ltb}
use Rattle.std.specs.Prelude.{is_some, nat_lt}
use Rattle.ppd_ast.specs.declared.plan.Plan.{Plan}
use Rattle.ppd_ast.specs.declared.program.Program.{Program}
use Rattle.ppd_sem.specs.declared.event.Event.{Event}
use Rattle.ppd_sem.specs.declared.proc.Answer.{Answer}
use Rattle.ppd_sem.specs.declared.proc.Answer.TheVariants.{Go}
use Rattle.ppd_sem.specs.declared.proc.Need.{Need}
use Rattle.ppd_sem.specs.declared.proc.Need.TheVariants.{Enter}
use Rattle.ppd_sem.specs.declared.proc.Proc.{Proc}
use Rattle.ppd_sem.specs.declared.proc.Todo.{Todo}
use Rattle.ppd_sem.specs.Described.{described, evaluates, trap_of}
use Rattle.ppd_sem.specs.Process.{act, cost, need_of, need_of_head}
use Rattle.ppd_sem.proofs.Paid.{need-paid}
use Rattle.ppd_sem.proofs.Progress.{act-within}
use Rattle.ppd_model.specs.declared.flow.Item.{Item}
use Rattle.ppd_model.specs.declared.flow.Item.TheVariants as item
use Rattle.ppd_model.specs.declared.trace.EventId.{EventId}
use Rattle.ppd_model.specs.FullTrace.{event_of}
use Rattle.ppd_model.specs.Marks.{opened, closed}
use Rattle.ppd_model.specs.Replay.{Replaying, done, counted, finished, is_budget, with_event}
use Rattle.law_steps.proofs.Vocabulary.Relation.{HasEnds, IsBeside, IsBlock}
use Rattle.law_steps.proofs.Vocabulary.Alone.{IsInside, IsKept}
use Rattle.law_steps.proofs.Beside.Framed.{framed}
use Rattle.law_steps.proofs.Beside.Needs.{is_enter}
use Rattle.law_steps.proofs.Beside.Steps.{HasStep, step_beside}
use Rattle.law_steps.proofs.Beside.Turned.{head_is, still_running}
use Rattle.law_steps.proofs.Alone.Events.{described_same}
use Rattle.law_steps.proofs.Alone.Turns.{event_at_head, is_stopped, with_event_is}

module _ (program : Program) (plan : Plan) (used inside : ℕ → Type 0) (calls : Type 0) (closer : Todo) (home : ℕ)
    (depth : ℕ) (ends : HasEnds program) (block : IsBlock program used inside calls) (outside : List Todo)
    (Kept : Proc → Proc → Type 0) (kept : IsKept program plan used inside calls closer home depth outside Kept) where
  abbrev Beside : Proc → Proc → Type 0
  Beside s r = IsBeside program used inside calls closer home depth outside s r

  pub enough : (s r : Proc) (fuel : ℕ) → Beside s r → s.spent ≤ s.budget → r.budget < r.spent + fuel → (n : ℕ)
      × (fuel ≡ suc n)
  enough s r zero b paid h = absurd (omega (arith, b.spent, b.budget, paid, h))
  enough s r (suc n) b paid h = (n, refl)

  -- ---- one step of both

  pub record HasMoved (s r : Proc) (a : Answer) (n : Need) : Type 0 where
    pub t : Todo
    pub ts : List Todo
    pub todo : r.todo ≡ t ∷ ts
    pub need : need_of program plan r ≡ n
    pub beside : Beside (act program plan s a) (act program plan r a)
    pub kept_so : Kept (act program plan s a) (act program plan r a)
    pub running : (act program plan s a).status ≡ None
    pub paid : (act program plan s a).spent ≤ (act program plan s a).budget
    pub event : trap_of n ≡ None → described program plan s t a ≡ described program plan r t a

  pub moves : (s r : Proc) (a : Answer) (n : Need) → Beside s r → Kept s r → s.status ≡ None → s.spent ≤ s.budget
      → need_of program plan s ≡ n → IsInside program plan s n → is_budget n ≡ false → is_stopped n ≡ false
      → HasMoved s r a n
  moves s r a n b k running paid e within payable stopped =
      let h = kept.head s r b k running in
      let t : Todo = h.0 in
      let ts : List Todo = h.1 in
      let own : s.todo ≡ t ∷ (ts ++ outside) = b.todo ∙ ap (λ ys. ys ++ outside) h.2 in
      let same : need_of_head program plan t s ≡ n = head_is program plan s t (ts ++ outside) n running own e payable in
      let cheap : s.spent + cost plan n ≤ s.budget =
      need-paid program plan s n e (λ x. true≢false (sym (ap is_stopped x) ∙ stopped))
      (λ x. true≢false (sym (ap is_budget x) ∙ payable)) in
      let within' : IsInside program plan s (need_of program plan s) = subst (IsInside program plan s) (sym e) within in
      let has : HasStep program used inside calls closer home depth ends block outside plan a s r =
      step_beside program used inside calls closer home depth ends block outside plan a s r t ts b (record {
        todo = h.2;
        running = running;
        affordable = ap (λ x. nat_lt s.budget (s.spent + cost plan x)) same ∙ le-ltb s.budget
            (s.spent + cost plan n) cheap;
        no_entry = ap is_enter same ∙ unopened n within.opens;
        stays = kept.stays s r t ts b k running h.2 (ap is_budget e ∙ payable) within'.closes
            (framed program used inside calls closer home depth ends block outside s r t ts h.2 b).stacked;
      }) in
      record {
        t = t;
        ts = ts;
        todo = h.2;
        need = has.need ∙ e;
        beside = has.after;
        kept_so = kept.keeps s r a b k within';
        running = still_running program plan s a n e within.goes_on payable running;
        paid = (act-within program plan s a paid).spent;
        event = λ trap. described_same program plan used inside calls closer home depth ends block outside s r t ts a b h.2 (kept.frame s r b k) (ap trap_of (sym has.need)) (ap evaluates (sym has.need));
      }
    where
      unopened : (x : Need) → opened program plan s x ≡ None → is_enter x ≡ false
      unopened (Enter b u) o = absurd (true≢false (ap is_some o))
      unopened x o = refl

  pub item_is : (s r : Proc) (a : Answer) (n : Need) (w : Option EventId) (k : Option ℕ) (b : Beside s r)
      (h : HasMoved s r a n) → trap_of n ≡ None
      → item.Own (event_of program plan s (record { need = n; answer = a; writer = w; number = k }) s.todo)
      ≡ event_at_head program plan r h.t a k
  item_is s r a n w k b h trap =
      ap (λ todo. item.Own (event_of program plan s
      (record { need = n; answer = a; writer = w; number = k }) todo)) (b.todo ∙ ap (λ ys. ys ++ outside) h.todo)
      ∙ ap (λ (e : Event). item.Own (record e { number = k })) (h.event trap)

  -- the need of the replay where the process's step does not close the interval, and its event
  pub record HasNeed (s r : Proc) (n : Need) : Type 0 where
    pub t : Todo
    pub ts : List Todo
    pub todo : r.todo ≡ t ∷ ts
    pub need : need_of program plan r ≡ n
    pub event : (a : Answer) → described program plan s t a ≡ described program plan r t a

  pub needs : (s r : Proc) (n : Need) → Beside s r → Kept s r → s.status ≡ None → need_of program plan s ≡ n
      → closed program plan s n ≡ None → is_budget n ≡ false → is_stopped n ≡ false → is_enter n ≡ false
      → HasNeed s r n
  needs s r n b k running e unclosed payable stopped entering =
      let h = kept.head s r b k running in
      let t : Todo = h.0 in
      let ts : List Todo = h.1 in
      let own : s.todo ≡ t ∷ (ts ++ outside) = b.todo ∙ ap (λ ys. ys ++ outside) h.2 in
      let same : need_of_head program plan t s ≡ n = head_is program plan s t (ts ++ outside) n running own e payable in
      let cheap : s.spent + cost plan n ≤ s.budget =
      need-paid program plan s n e (λ x. true≢false (sym (ap is_stopped x) ∙ stopped))
      (λ x. true≢false (sym (ap is_budget x) ∙ payable)) in
      let has : HasStep program used inside calls closer home depth ends block outside plan Go s r =
      step_beside program used inside calls closer home depth ends block outside plan Go s r t ts b (record {
        todo = h.2;
        running = running;
        affordable = ap (λ x. nat_lt s.budget (s.spent + cost plan x)) same ∙ le-ltb s.budget
            (s.spent + cost plan n) cheap;
        no_entry = ap is_enter same ∙ entering;
        stays = kept.stays s r t ts b k running h.2 (ap is_budget e ∙ payable)
            (ap (closed program plan s) e ∙ unclosed)
            (framed program used inside calls closer home depth ends block outside s r t ts h.2 b).stacked;
      }) in
      record {
        t = t;
        ts = ts;
        todo = h.2;
        need = has.need ∙ e;
        event = λ a. described_same program plan used inside calls closer home depth ends block outside s r t ts a b h.2 (kept.frame s r b k) (ap trap_of (sym has.need)) (ap evaluates (sym has.need));
      }

  -- the event of the last turn
  pub last_event : (s : Proc) (r : Replaying) (t : Todo) (ts : List Todo) (n : Need) (w : Option EventId)
      → Beside s r.proc → r.proc.todo ≡ t ∷ ts → described program plan s t Go ≡ described program plan r.proc t Go
      → finished (counted (with_event program plan Go None r))
      ≡ done (record {
        steps = r.steps + 1;
        answer = Ok (record {
          items = r.items ++ item.Own
              (event_of program plan s (record { need = n; answer = Go; writer = w; number = None }) s.todo) ∷ [];
        });
      })
  last_event s r t ts n w b todo e =
      ap (λ q. finished (counted q)) (with_event_is program plan r t ts Go None todo)
      ∙ ap (λ (x : Item). done (record { steps = r.steps + 1; answer = Ok (record { items = r.items ++ x ∷ [] }) }))
      (sym (ap (λ ys. item.Own (event_of program plan s
      (record { need = n; answer = Go; writer = w; number = None }) ys))
      (b.todo ∙ ap (λ ys. ys ++ outside) todo) ∙ ap (λ (x : Event). item.Own (record x { number = None })) e))
