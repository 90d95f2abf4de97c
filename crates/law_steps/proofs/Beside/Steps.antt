-- A step of the process and the same step of its replay keep them beside each other.
use Rattle.std.proofs.Common.{◌≡◌, ℕ, ◌+◌, List, [], ◌∷◌, ◌++◌, true, false, Some, None, Ok, Err, refl, ap, sym, subst, ◌∙◌, arith, Option}
use Rattle.std.specs.Prelude.{nat_lt}
use Rattle.std.proofs.lemmas.Bool.{cond-false, ltb-false, le-ltb, true≢false}
use Rattle.ppd_ast.specs.declared.program.Program.{Program}
use Rattle.ppd_ast.specs.declared.plan.Plan.{Plan}
use Rattle.ppd_sem.specs.declared.proc.Answer.{Answer}
use Rattle.ppd_sem.specs.declared.proc.Todo.{Todo}
use Rattle.ppd_sem.specs.declared.proc.Proc.{Proc}
use Rattle.ppd_sem.specs.Deed.{Deed}
use Rattle.ppd_sem.specs.Asked.{Asked}
use Rattle.ppd_sem.specs.declared.asking.Pause.TheVariants.{Wants, Traps}
use Rattle.ppd_ast.specs.declared.status.Status.TheVariants as status
use Rattle.ppd_ast.specs.Lookups.{kind_of}
use Rattle.ppd_ast.specs.declared.status.Status.{Status}
use Rattle.ppd_sem.specs.declared.proc.Need.{Need}
use Rattle.ppd_sem.specs.declared.proc.Need.TheVariants.{Enter, Offer, Done, Trap, Budget, Stopped}
use Rattle.ppd_sem.specs.Process.{act, act_by_need, act_by_asked, charged, cost, within_budget, need_of, need_of_head, offer_of, head_deed, value_of, top_frame}
use Rattle.ppd_sem.proofs.NeedWords.{act_at, need_by_status, need_of_running}
use Rattle.law_steps.proofs.Vocabulary.Relation.{HasEnds, IsBlock, IsBeside, Suits, Stays, StaysAt, Yields}
use Rattle.law_steps.proofs.Beside.Deeds.{suits}
use Rattle.law_steps.proofs.Beside.Frames.{marked_stacked}
use Rattle.law_steps.proofs.Beside.Framed.{Framed, past, framed}
use Rattle.law_steps.proofs.Beside.DeedSteps.{deed_beside}
use Rattle.law_steps.proofs.Beside.StaysBy.{StaysBy, head_stays}
use Rattle.law_steps.proofs.Beside.Needs.{is_enter}
use Rattle.law_steps.proofs.Beside.HeadNeeds.{deed_is, head_need}

module _ (program : Program) (used inside : ℕ → Type 0) (calls : Type 0) (closer : Todo) (home : ℕ) (depth : ℕ)
    (ends : HasEnds program) (block : IsBlock program used inside calls) (outside : List Todo) where
  -- ---- the step

  -- a status that both come to
  ended_beside : (o : Option Status) (s r : Proc)
      → IsBeside program used inside calls closer home depth outside s r
      → IsBeside program used inside calls closer home depth outside (record s { status = o }) (record r { status = o })
  ended_beside o s r b =
      record {
        todo = b.todo;
        frames = b.frames;
        whole = b.whole;
        below = b.below;
        count = b.count;
        answers = b.answers;
        status = refl;
        budget = b.budget;
        spent = b.spent;
      }

  asked_beside : (a : Answer) (t : Todo) (ts : List Todo) (q : Asked Deed) (s r : Proc)
      → s.todo ≡ t ∷ (ts ++ outside) → r.todo ≡ t ∷ ts
      → IsBeside program used inside calls closer home depth outside s r
      → (h : Framed program used inside calls closer home depth ends block outside s.frames r.frames (t ∷ ts))
      → Yields (Suits (kind_of program t.stmt)) q → Yields (λ d. Stays d h.stacked) q
      → IsBeside program used inside calls closer home depth outside (act_by_asked program a t (ts ++ outside) q s)
      (act_by_asked program a t ts q r)
  asked_beside a t ts (Ok p) s r es er b h e k =
      deed_beside program used inside calls closer home depth ends block outside a t ts p.0
      (record s { answers = [] }) (record r { answers = [] })
      (record {
        todo = b.todo;
        frames = b.frames;
        whole = b.whole;
        below = b.below;
        count = b.count;
        answers = refl;
        status = b.status;
        budget = b.budget;
        spent = b.spent;
      }) h e k
  asked_beside a t ts (Err (Wants cell)) s r es er b h e k =
      record {
        todo = b.todo;
        frames = b.frames;
        whole = b.whole;
        below = b.below;
        count = b.count;
        answers = ap (λ as'. as' ++ value_of a ∷ []) b.answers;
        status = b.status;
        budget = b.budget;
        spent = b.spent;
      }
  asked_beside a t ts (Err (Traps x)) s r es er b h e k = ended_beside (Some (status.Trap x)) s r b

  charged_beside : (plan : Plan) (n : Need) (s r : Proc)
      → IsBeside program used inside calls closer home depth outside s r
      → IsBeside program used inside calls closer home depth outside (charged plan n s) (charged plan n r)
  charged_beside plan n s r b =
      record {
        todo = b.todo;
        frames = b.frames;
        whole = b.whole;
        below = b.below;
        count = b.count;
        answers = b.answers;
        status = b.status;
        budget = b.budget;
        spent = omega (arith, b.spent);
      }

  need_beside : (plan : Plan) (a : Answer) (t : Todo) (ts : List Todo) (n : Need) (s r : Proc)
      → s.todo ≡ t ∷ (ts ++ outside) → r.todo ≡ t ∷ ts
      → IsBeside program used inside calls closer home depth outside s r
      → (h : Framed program used inside calls closer home depth ends block outside s.frames r.frames (t ∷ ts))
      → StaysBy program used inside calls closer home t s.frames r.frames (t ∷ ts) n
      (head_deed program t s) h.stacked → is_enter n ≡ false
      → IsBeside program used inside calls closer home depth outside
      (act_by_need program plan a t (ts ++ outside) n s) (act_by_need program plan a t ts n r)
  need_beside plan a t ts Stopped s r es er b h k entering = b
  need_beside plan a t ts Budget s r es er b h k entering = ended_beside (Some status.Budget) s r b
  need_beside plan a t ts (Enter u v) s r es er b h k entering = absurd (true≢false entering)
  need_beside plan a t ts (Trap x) s r es er b h k entering =
      charged_beside plan (Trap x) (record s { status = Some (status.Trap x) })
      (record r { status = Some (status.Trap x) }) (ended_beside (Some (status.Trap x)) s r b)
  need_beside plan a t ts (Offer c v) s r es er b h k entering =
      charged_beside plan (Offer c v)
      (record s { todo = record t { offered = true } ∷ (ts ++ outside); answers = [] })
      (record r { todo = record t { offered = true } ∷ ts; answers = [] })
      (record {
        todo = refl;
        frames = marked_stacked program used inside calls closer home t s.frames r.frames ts h.stacked k;
        whole = b.whole;
        below = b.below;
        count = b.count;
        answers = refl;
        status = b.status;
        budget = b.budget;
        spent = b.spent;
      })
  need_beside plan a t ts (Done c u) s r es er b h k entering =
      charged_beside plan (Done c u) (record s { todo = ts ++ outside; answers = [] })
      (record r { todo = ts; answers = [] })
      (record {
        todo = refl;
        frames =
            (past program used inside calls closer home depth ends block outside t s.frames r.frames ts k.0 h k.1).stacked;
        whole = b.whole;
        below = b.below;
        count = b.count;
        answers = refl;
        status = b.status;
        budget = b.budget;
        spent = b.spent;
      })
  need_beside plan a t ts n s r es er b h k entering =
      charged_beside plan n (act_by_asked program a t (ts ++ outside) (head_deed program t s) s)
      (act_by_asked program a t ts (head_deed program t r) r)
      (subst (λ q. IsBeside program used inside calls closer home depth outside
      (act_by_asked program a t (ts ++ outside) (head_deed program t s) s) (act_by_asked program a t ts q r))
      (deed_is program used inside calls closer home depth ends block outside s r t ts b h)
      (asked_beside a t ts (head_deed program t s) s r es er b h
      (suits program.exprs (kind_of program t.stmt) (top_frame s.frames).cells s.answers) k))

  -- ---- the whole step

  need_is : (plan : Plan) (s : Proc) (t : Todo) (ts : List Todo) → s.status ≡ None → s.todo ≡ t ∷ ts
      → need_of program plan s ≡ within_budget plan s (need_of_head program plan t s)
  need_is plan s t ts running e =
      ap (λ o. need_by_status program plan o s) running ∙ ap (λ ys. need_of_running program plan ys s) e

  affords : (plan : Plan) (s : Proc) (n : Need) → nat_lt s.budget (s.spent + cost plan n) ≡ false
      → within_budget plan s n ≡ n
  affords plan s n e = cond-false (nat_lt s.budget (s.spent + cost plan n)) Budget n e

  -- what a step that stays in the interval keeps: the need is the same, and the two are beside each other after it
  pub record HasStep (plan : Plan) (a : Answer) (s r : Proc) : Type 0 where
    pub need : need_of program plan r ≡ need_of program plan s
    pub after : IsBeside program used inside calls closer home depth outside (act program plan s a)
        (act program plan r a)

  pub record IsWithinStep (plan : Plan) (s r : Proc) (t : Todo) (ts : List Todo)
      (b : IsBeside program used inside calls closer home depth outside s r) : Type 0 where
    pub todo : r.todo ≡ t ∷ ts
    pub running : s.status ≡ None
    pub affordable : nat_lt s.budget (s.spent + cost plan (need_of_head program plan t s)) ≡ false
    pub no_entry : is_enter (need_of_head program plan t s) ≡ false
    pub stays : StaysAt (offer_of program t) (head_deed program t s)
        (framed program used inside calls closer home depth ends block outside s r t ts todo b).stacked

  act_is : (plan : Plan) (a : Answer) (s : Proc) (t : Todo) (ts : List Todo) (n : Need) → s.todo ≡ t ∷ ts
      → need_of program plan s ≡ n → act program plan s a ≡ act_by_need program plan a t ts n s
  act_is plan a s t ts n e h = ap (λ ys. act_at program plan a ys s) e ∙ ap (λ m. act_by_need program plan a t ts m s) h

  pub step_beside : (plan : Plan) (a : Answer) (s r : Proc) (t : Todo) (ts : List Todo)
      (b : IsBeside program used inside calls closer home depth outside s r) → IsWithinStep plan s r t ts b
      → HasStep plan a s r
  step_beside plan a s r t ts b w =
      let h : Framed program used inside calls closer home depth ends block outside s.frames r.frames (t ∷ ts) =
      framed program used inside calls closer home depth ends block outside s r t ts w.todo b in
      let n : Need = need_of_head program plan t s in
      let es : s.todo ≡ t ∷ (ts ++ outside) = b.todo ∙ ap (λ ys. ys ++ outside) w.todo in
      let same : n ≡ need_of_head program plan t r =
      head_need program used inside calls closer home depth ends block outside plan s r t ts b h w.stays in
      let cheaper : nat_lt r.budget (r.spent + cost plan n) ≡ false =
      le-ltb r.budget (r.spent + cost plan n)
      (omega (arith, b.spent, b.budget, ltb-false s.budget (s.spent + cost plan n) w.affordable)) in
      let needs : need_of program plan s ≡ n =
      need_is plan s t (ts ++ outside) w.running es ∙ affords plan s n w.affordable in
      let replays : need_of program plan r ≡ n =
      need_is plan r t ts (sym b.status ∙ w.running) w.todo ∙ ap (λ m. within_budget plan r m) (sym same)
      ∙ affords plan r n cheaper in
      record {
        need = replays ∙ sym needs;
        after = subst (λ x. IsBeside program used inside calls closer home depth outside (act program plan s a) x)
            (sym (act_is plan a r t ts n w.todo replays))
            (subst (λ x. IsBeside program used inside calls closer home depth outside x
            (act_by_need program plan a t ts n r)) (sym (act_is plan a s t (ts ++ outside) n es needs))
            (need_beside plan a t ts n s r es w.todo b h
            (head_stays program used inside calls closer home plan t s s.frames r.frames
            (t ∷ ts) h.stacked w.stays) w.no_entry));
      }
