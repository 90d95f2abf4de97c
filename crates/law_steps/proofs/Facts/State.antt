-- What holds of every state of a run of a valid program.
use Rattle.std.proofs.Common.{◌≡◌, ℕ, ◌+◌, ◌<◌, List, [], ◌∷◌, Some, refl, ap, sym, subst, ◌∙◌, arith, length}
use Rattle.std.specs.Prelude.{slice_get}
use Rattle.std.specs.List.{AllByRecursion as Each}
use Rattle.std.specs.Option.{option_map_or}
use Rattle.ppd_ast.specs.declared.plan.Plan.{Plan}
use Rattle.ppd_ast.specs.declared.plan.Policy.{Policy}
use Rattle.ppd_ast.specs.declared.program.Program.{Program}
use Rattle.ppd_ast.specs.Valid.{IsValid}
use Rattle.ppd_ast.proofs.ValidLaws.{slice_get_there}
use Rattle.ppd_ast.specs.Lookups.{kind_of, body_of}
use Rattle.ppd_ast.proofs.Vocabulary.{kind_of_stmt}
use Rattle.ppd_blocks.specs.Blocks.{plan_of}
use Rattle.law_steps.specs.Course.{GoesUntilEnd}
use Rattle.law_steps.proofs.Course.Ending.{never_runs_out}
use Rattle.ppd_sem.specs.declared.proc.Answer.{Answer}
use Rattle.ppd_sem.specs.declared.proc.Frame.{Frame}
use Rattle.ppd_sem.specs.declared.proc.Need.{Need}
use Rattle.ppd_sem.specs.declared.proc.Need.TheVariants.{Enter, Offer, Done, Trap, Budget, Stopped}
use Rattle.ppd_sem.specs.declared.proc.Proc.{Proc}
use Rattle.ppd_sem.specs.declared.proc.Todo.{Todo}
use Rattle.ppd_sem.specs.Process.{act, act_by_need, entry_of, head_deed, need_of, started, top_frame}
use Rattle.ppd_sem.proofs.NeedWords.{act_at}
use Rattle.ppd_sem.specs.Offers.{OffersAtHead}
use Rattle.ppd_sem.specs.Runs.{IsRunning, bodies_in}
use Rattle.ppd_sem.proofs.Kept.{act-runs}
use Rattle.ppd_sem.proofs.Marked.{at_head}
use Rattle.ppd_sem.proofs.Offering.{offers_completed}
use Rattle.ppd_sem.proofs.Progress.{asked_purse}
use Rattle.ppd_sem.proofs.Running.{head_over}
use Rattle.ppd_sem.proofs.Starts.{started_runs}
use Rattle.ppd_sem.proofs.Validity.{valid-runnable}
use Rattle.ppd_model.proofs.Homes.{AreHome, IsHome as IsHomeAll, act-home, started-home}
use Rattle.law_steps.proofs.Vocabulary.Relation.{IsEnd}
use Rattle.law_steps.specs.Beside.Opens.{IsHome}
use Rattle.law_steps.proofs.Facts.Called.{AreCalled, act_called, head_home, started_called}
use Rattle.law_steps.specs.OpenBlocks.Stack.{block_frames}
use Rattle.law_steps.proofs.Facts.Counted.{call_counted, end_alone, end_process}
use Rattle.law_steps.proofs.Facts.Entered.{IsEntered, IsReady, IsReadyAll, act_ready, started_ready}
use Rattle.law_steps.proofs.Facts.Bodies.{HasCall, IsOf}
use Rattle.law_steps.proofs.Facts.Sized.{AreSized, act_sized, started_sized}
use Rattle.ppd_ast.specs.declared.program.Stmt.{Stmt}

pub record IsState (program : Program) (plan : Plan) (s : Proc) : Type 0 where
  pub home : IsHomeAll program s
  pub ready : IsReadyAll program plan s
  pub offers : OffersAtHead program s.todo
  pub sized : AreSized program s.frames
  pub called : AreCalled program s.frames
  pub whole : s.below ≡ 0
  pub until_end : GoesUntilEnd program s
  pub runs : IsRunning program s

-- ---- a step, and the start

below_need : (program : Program) (plan : Plan) (a : Answer) (t : Todo) (ts : List Todo) (n : Need) (s : Proc)
    → (act_by_need program plan a t ts n s).below ≡ s.below
below_need program plan a t ts (Enter b u) s = refl
below_need program plan a t ts (Offer c x) s = refl
below_need program plan a t ts (Done c u) s = refl
below_need program plan a t ts (Trap x) s = refl
below_need program plan a t ts Budget s = refl
below_need program plan a t ts Stopped s = refl
below_need program plan a t ts n s = (asked_purse program a t ts (head_deed program t s) s).below

below_at : (program : Program) (plan : Plan) (a : Answer) (todo : List Todo) (s : Proc)
    → (act_at program plan a todo s).below ≡ s.below
below_at program plan a [] s = refl
below_at program plan a (t ∷ ts) s = below_need program plan a t ts (need_of program plan s) s

module _ (program : Program) (plan : Plan) (v : IsValid program) where
  pub act_state : (s : Proc) (a : Answer) → IsState program plan s → IsState program plan (act program plan s a)
  act_state s a h = record {
    home = act-home program plan s a v h.home;
    ready = act_ready program plan s a h.ready;
    offers = offers_completed.stays program plan s a h.offers;
    sized = act_sized program plan s a v h.sized;
    called = act_called program plan s a h.home h.called;
    whole = below_at program plan a s.todo s ∙ h.whole;
    until_end = never_runs_out.stays program plan s a h.until_end;
    runs = act-runs program plan s a (valid-runnable program v) h.runs;
  }

  pub started_state : (p budget : ℕ) → program.functions + p < length program.bodies
      → IsState program plan (started program plan p budget)
  started_state p budget lt = record {
    home = started-home program plan p budget v;
    ready = started_ready program plan p budget;
    offers = at_head program (started program plan p budget).todo (offers_completed.starts program plan p budget);
    sized = started_sized program plan p budget lt;
    called = started_called program plan p budget;
    whole = refl;
    until_end = never_runs_out.starts program plan p budget v lt;
    runs = started_runs program (program.functions + p) budget (valid-runnable program v) (omega arith) lt;
  }

  -- ---- what it says of the head

  module _ (s : Proc) (h : IsState program plan s) (t : Todo) (ts : List Todo) (is : s.todo ≡ t ∷ ts) where
    pub head_is_home : IsHome program plan s t
    head_is_home =
        let top = head_home program s.frames t ts (subst (λ ys. AreHome program (bodies_in s.frames) ys) is h.home) in
        let entered : IsEntered program plan t = (subst (Each (IsEntered program plan)) is h.ready.0).0 in
        record { body = top.3 ∙ sym (ap (λ fs. (top_frame fs).body) top.2); loops = entered.loops; blocks = entered.blocks }

    -- no answers while a loop is yet to be entered
    pub unanswered : (b : ℕ) → entry_of program plan t ≡ Some b → s.answers ≡ []
    unanswered b e = subst (λ ys. IsReady program plan ys s.answers) is h.ready.1 b e

    -- the head is there
    pub head_there : t.stmt < length program.stmts
    head_there = (head_over program s t h.runs (ap (λ ys. slice_get ys 0) is)).there

    -- an end at the head is in the lowest frame
    pub end_lowest : IsEnd (kind_of program t.stmt) → (f : Frame) (fs : List Frame) → s.frames ≡ f ∷ fs → fs ≡ []
    end_lowest e f fs top =
        let x = slice_get_there program.stmts t.stmt head_there in
        let body : body_of program t.stmt ≡ f.body = head_is_home.body ∙ ap (λ fs. (top_frame fs).body) top in
        end_alone program t.stmt x.0 f fs v x.1 (subst IsEnd (ap kind_of_stmt x.1) e) (sym (ap (λ o. option_map_or (λ (x : Stmt). x.body) o 0) x.1) ∙ body)
        (subst (AreCalled program) top h.called)

-- none of the statements of a function is an end
pub no_end_in_function : (program : Program) → IsValid program → (f : ℕ) → f < program.functions → (i : ℕ)
    → IsOf program f i → IsEnd (kind_of program i) → ⊥
no_end_in_function program v f lt i h is =
    end_process program i h.stmt v h.there (subst IsEnd (ap kind_of_stmt h.there) is)
    (subst (λ n. n < program.functions) (sym h.body) lt)

-- ---- the count of frames where an interval has a call

-- the interval's own frame is the top one, in the body of its statements, one of which is a call
pub opening_counted : (program : Program) (policy : Policy) (s : Proc) (home : ℕ) (inside : ℕ → Type 0)
    → IsValid program → IsState program (plan_of program policy) s → (f : Frame) (fs : List Frame)
    → s.frames ≡ f ∷ fs → f.body ≡ home
    → ((i : ℕ) → inside i → body_of program i ≡ home) → HasCall program inside
    → length s.frames ≡ 1 + block_frames (plan_of program policy) s.frames
opening_counted program policy s home inside v h f fs top is of_home c =
    ap length top ∙ call_counted program policy v f fs c.stmt c.function
    (subst (AreCalled program) top h.called) c.calls (of_home c.stmt c.stands ∙ sym is)
    ∙ ap (λ ys. 1 + block_frames (plan_of program policy) ys) (sym top)
