-- The step that closes the loop in which a process runs brings it beside its replay past the loop.
use Rattle.std.proofs.Common.{◌≡◌, ℕ, ◌+◌, ℤ, List, [], Bool, true, false, Option, Some, None, Ok, Err, refl, ap, sym, subst, ◌∙◌, true≢false, length, zero, suc}
use Rattle.std.specs.Prelude.{is_some, nat_lt, if◌then◌else◌}
use Rattle.ppd_ast.specs.declared.plan.BlockKind.TheVariants as block
use Rattle.ppd_ast.specs.declared.plan.Plan.{Plan}
use Rattle.ppd_ast.specs.declared.plan.Start.TheVariants as start
use Rattle.ppd_ast.specs.declared.program.Program.{Program}
use Rattle.ppd_ast.specs.declared.status.Trap.TheVariants as trap
use Rattle.ppd_ast.specs.Lookups.{kind_of}
use Rattle.ppd_ast.specs.declared.limits.TheConstants.{MOST_CALLS}
use Rattle.ppd_sem.specs.declared.asking.Pause.TheVariants.{Wants, Traps}
use Rattle.ppd_sem.specs.declared.proc.Answer.{Answer}
use Rattle.ppd_sem.specs.declared.proc.Need.{Need}
use Rattle.ppd_sem.specs.declared.proc.Need.TheVariants.{Leave, Invoke, Back, Done, Trap}
use Rattle.ppd_sem.specs.declared.proc.Proc.{Proc}
use Rattle.ppd_sem.specs.declared.proc.Todo.{Todo}
use Rattle.ppd_sem.specs.Asked.{Asked}
use Rattle.ppd_sem.specs.Deed.{Deed, leave, invoke, back, send, finish}
use Rattle.ppd_sem.specs.Process.{act_by_asked, act_by_need, call_unit, charged, cost, entry_of, head_deed, need_of_asked, need_of_deed, need_of_head, need_of_leaving, need_of_send, returned, top_frame}
use Rattle.ppd_sem.proofs.NeedWords.{need_by_entry}
use Rattle.ppd_sem.specs.Tables.{block_of, capacity_of, unit_of}
use Rattle.law_steps.proofs.Vocabulary.Relation.{IsReturn, Suits, Yields}
use Rattle.law_steps.proofs.Beside.Deeds.{suits}
use Rattle.ppd_model.specs.Logs.{status_of}
use Rattle.ppd_model.specs.Marks.{closed}
use Rattle.law_steps.proofs.Beside.Turned.{asks_is}
use Rattle.law_steps.proofs.Beside.Needs.{is_done}
use Rattle.law_steps.proofs.Beside.OfLoop.{IsOfLoop, of_loop}

module _ (program : Program) (plan : Plan) where
  -- the head leaves a loop, or returns
  pub data IsEnding (x : Proc) (t : Todo) (n : Need) : Type 0 where
    leaves : (left : List ℤ) (c : ℕ) → head_deed program t x ≡ Ok (leave, left)
        → block_of plan (block.Loop t.stmt) ≡ Some c → n ≡ Leave c (unit_of plan (start.Exit t.stmt))
        → IsOfLoop (kind_of program t.stmt) leave → IsEnding x t n
    returns : (left : List ℤ) (v : Option ℤ) (c : ℕ) → head_deed program t x ≡ Ok (back v, left)
        → block_of plan (block.Function (top_frame x.frames).body) ≡ Some c
        → n ≡ Back (Some c) (call_unit plan (top_frame x.frames).call) → IsReturn (kind_of program t.stmt) → IsEnding x t n

  leaving_by : (x : Proc) (t : Todo) (left : List ℤ) (o : Option ℕ) → head_deed program t x ≡ Ok (leave, left)
      → block_of plan (block.Loop t.stmt) ≡ o
      → is_some (closed program plan x (need_of_leaving plan t.stmt o)) ≡ true
      → IsOfLoop (kind_of program t.stmt) leave → IsEnding x t (need_of_leaving plan t.stmt o)
  leaving_by x t left None e eo h of = absurd (true≢false (sym h))
  leaving_by x t left (Some c) e eo h of = leaves left c e eo refl of

  returning_by : (x : Proc) (t : Todo) (left : List ℤ) (v : Option ℤ) (o w : Option ℕ)
      → call_unit plan (top_frame x.frames).call ≡ w → head_deed program t x ≡ Ok (back v, left)
      → block_of plan (block.Function (top_frame x.frames).body) ≡ o → is_some (closed program plan x (Back o w)) ≡ true
      → IsReturn (kind_of program t.stmt) → IsEnding x t (Back o w)
  returning_by x t left v None w ew e eo h r = absurd (true≢false (sym h))
  returning_by x t left v (Some c) w ew e eo h r = returns left v c e eo (ap (λ y. Back (Some c) y) (sym ew)) r

  calls_none : (x : Proc) (b : Bool) (o : Option ℕ) (u : ℕ)
      → is_some (closed program plan x (if b then Trap trap.Depth else Invoke o u)) ≡ false
  calls_none x true o u = refl
  calls_none x false None u = refl
  calls_none x false (Some c) u = refl

  sends_none : (x : Proc) (t n c : ℕ) (v : ℤ) → is_some (closed program plan x (need_of_send plan t n c v)) ≡ false
  sends_none x t zero c v = refl
  sends_none x t (suc n) c v = refl

  deed_ending : (x : Proc) (t : Todo) (d : Deed) (left : List ℤ) → head_deed program t x ≡ Ok (d, left)
      → Suits (kind_of program t.stmt) d → IsOfLoop (kind_of program t.stmt) d
      → is_some (closed program plan x (need_of_deed program plan t.stmt x d)) ≡ true
      → status_of (need_of_deed program plan t.stmt x d) ≡ None → IsEnding x t (need_of_deed program plan t.stmt x d)
  deed_ending x t leave left e su of h goes = leaving_by x t left (block_of plan (block.Loop t.stmt)) e refl h of
  deed_ending x t (back v) left e su of h goes =
      returning_by x t left v (block_of plan (block.Function (top_frame x.frames).body))
      (call_unit plan (top_frame x.frames).call) refl e refl h su
  deed_ending x t finish left e su of h goes = absurd (true≢false (ap is_some goes))
  deed_ending x t (invoke f vs into) left e su of h goes =
      absurd (true≢false (sym h ∙ calls_none x (nat_lt MOST_CALLS (x.below + length x.frames))
      (block_of plan (block.Function f)) (unit_of plan (start.Entry f))))
  deed_ending x t (send c v) left e su of h goes =
      absurd (true≢false (sym h ∙ sends_none x t.stmt (capacity_of program c) c v))
  deed_ending x t d left e su of h goes = absurd (true≢false (sym h))

  asked_ending : (x : Proc) (t : Todo) (q : Asked Deed) → head_deed program t x ≡ q
      → is_some (closed program plan x (need_of_asked program plan t.stmt x q)) ≡ true
      → status_of (need_of_asked program plan t.stmt x q) ≡ None
      → IsEnding x t (need_of_asked program plan t.stmt x q)
  asked_ending x t (Ok p) e h goes =
      deed_ending x t p.0 p.1 e
      (subst (Yields (Suits (kind_of program t.stmt))) e
      (suits program.exprs (kind_of program t.stmt) (top_frame x.frames).cells x.answers))
      (subst (Yields (IsOfLoop (kind_of program t.stmt))) e
      (of_loop program.exprs (kind_of program t.stmt) (top_frame x.frames).cells x.answers)) h goes
  asked_ending x t (Err (Wants c)) e h goes = absurd (true≢false (sym h))
  asked_ending x t (Err (Traps y)) e h goes = absurd (true≢false (sym h))

  entry_ending : (x : Proc) (t : Todo) (o : Option ℕ)
      → is_some (closed program plan x (need_by_entry program plan t.stmt x o (head_deed program t x))) ≡ true
      → status_of (need_by_entry program plan t.stmt x o (head_deed program t x)) ≡ None
      → IsEnding x t (need_by_entry program plan t.stmt x o (head_deed program t x))
  entry_ending x t (Some c) h goes = absurd (true≢false (sym h))
  entry_ending x t None h goes = asked_ending x t (head_deed program t x) refl h goes

  closing_undone : (x : Proc) (n : Need) → is_some (closed program plan x n) ≡ true → is_done n ≡ false
  closing_undone x (Done c u) h = absurd (true≢false (sym h))
  closing_undone x n h = refl

  -- a step that closes a block leaves a loop, or returns
  pub ending : (x : Proc) (t : Todo) (n : Need) → need_of_head program plan t x ≡ n
      → is_some (closed program plan x n) ≡ true → status_of n ≡ None → IsEnding x t n
  ending x t n e h goes =
      let asks : need_by_entry program plan t.stmt x (entry_of program plan t) (head_deed program t x) ≡ n =
      asks_is program plan x t n e (closing_undone x n h) in
      subst (λ m. IsEnding x t m) asks
      (entry_ending x t (entry_of program plan t) (ap (λ m. is_some (closed program plan x m)) asks ∙ h)
      (ap status_of asks ∙ goes))

  -- it takes the head off
  pub ending_todo : (x : Proc) (a : Answer) (t : Todo) (ts : List Todo) (n : Need) → IsEnding x t n
      → (act_by_need program plan a t ts n x).todo ≡ ts
  ending_todo x a t ts n (leaves left c e eo is of) =
      subst (λ m. (act_by_need program plan a t ts m x).todo ≡ ts) (sym is)
      (ap (λ q. (act_by_asked program a t ts q x).todo) e)
  ending_todo x a t ts n (returns left v c e eo is r) =
      subst (λ m. (act_by_need program plan a t ts m x).todo ≡ ts) (sym is)
      (ap (λ q. (act_by_asked program a t ts q x).todo) e)

  -- a return hands its value to the frame below
  pub record HasReturned (x after : Proc) (v : Option ℤ) (n : Need) (ts : List Todo) : Type 0 where
    pub todo : after.todo ≡ ts
    pub frames : after.frames ≡ returned program v x.frames
    pub answers : after.answers ≡ []
    pub status : after.status ≡ x.status
    pub budget : after.budget ≡ x.budget
    pub below : after.below ≡ x.below
    pub spent : after.spent ≡ x.spent + cost plan n

  pub returned_by : (a : Answer) (x : Proc) (t : Todo) (ts : List Todo) (left : List ℤ) (v : Option ℤ)
      (o w : Option ℕ) → head_deed program t x ≡ Ok (back v, left)
      → HasReturned x (act_by_need program plan a t ts (Back o w) x) v (Back o w) ts
  returned_by a x t ts left v o w e =
      subst (λ (z : Proc). HasReturned x z v (Back o w) ts)
      (sym (ap (λ y. charged plan (Back o w) (act_by_asked program a t ts y x)) e))
      (record { todo = refl; frames = refl; answers = refl; status = refl; budget = refl; below = refl; spent = refl })
