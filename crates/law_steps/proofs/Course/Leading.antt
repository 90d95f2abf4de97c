-- Each step keeps a process on course, and leads it where its need says.
use Rattle.std.proofs.Common.{◌≡◌, ℕ, zero, suc, ◌+◌, ℤ, Bool, true, false, nat_lt, List, [], ◌∷◌, length, Option, Some, None, Ok, Err, refl, sym, subst, ap, ◌∙◌, if◌then◌else◌}
use Rattle.std.specs.Prelude.{slice_set, replicate, pos}
use Rattle.std.specs.List.{range_with_len}
use Rattle.ppd_ast.specs.declared.plan.BlockKind.TheVariants as block
use Rattle.ppd_ast.specs.declared.plan.Plan.{Plan}
use Rattle.ppd_ast.specs.declared.plan.Start.{Start}
use Rattle.ppd_ast.specs.declared.plan.Start.TheVariants as start
use Rattle.ppd_ast.specs.declared.program.Kind.{Kind}
use Rattle.ppd_ast.specs.declared.program.Kind.TheVariants as K
use Rattle.ppd_ast.specs.declared.program.Program.{Program}
use Rattle.ppd_ast.specs.declared.status.Status.{Status}
use Rattle.ppd_ast.specs.declared.status.Status.TheVariants as status
use Rattle.ppd_ast.specs.declared.status.Trap.TheVariants as trap
use Rattle.ppd_ast.specs.Valid.{IsValid}
use Rattle.ppd_ast.specs.Lookups.{kind_of}
use Rattle.ppd_ast.specs.declared.limits.TheConstants.{MOST_CALLS}
use Rattle.ppd_sem.specs.declared.asking.Pause.TheVariants.{Wants, Traps}
use Rattle.ppd_sem.specs.declared.proc.Answer.{Answer}
use Rattle.ppd_sem.specs.declared.proc.Frame.{Frame}
use Rattle.ppd_sem.specs.declared.proc.Need.{Need}
use Rattle.ppd_sem.specs.declared.proc.Need.TheVariants.{Read, Write, Plain, Enter, Leave, Invoke, Back, P, V, Send, Offer, Done, Recv, End, Trap, Budget, Stopped}
use Rattle.ppd_sem.specs.declared.proc.Proc.{Proc}
use Rattle.ppd_sem.specs.declared.proc.Todo.{Todo}
use Rattle.ppd_sem.specs.Asked.{Asked}
use Rattle.ppd_sem.specs.Deed.{Deed, set_local, set_shared, clear, branch, turn, leave, invoke, back, take, give, send, receive, print, pass, finish}
use Rattle.ppd_sem.proofs.Offers.{offer_there, send_stays}
use Rattle.ppd_sem.specs.Process.{chan_of, need_of_send, offer_of, act, act_by_asked, act_by_need, call_unit, charged, cost, entry_of, head_deed, loop_of, need_of, need_of_asked, need_of_deed, need_of_head, need_of_leaving, returned, value_of, within_budget, on_top, top_frame, with_values}
use Rattle.ppd_sem.proofs.NeedWords.{act_at, need_by_entry, need_by_offer}
use Rattle.ppd_sem.specs.Runs.{returns}
use Rattle.ppd_sem.specs.Tables.{capacity_of, block_of, unit_of}
use Rattle.ppd_sem.proofs.Progress.{act-stopped, need_at_status, need_at_todo}
use Rattle.ppd_sem.specs.Passed.{next_stmt_of}
use Rattle.law_steps.specs.Course.{IsBehind, IsOnCourse, IsWay, LeadsTo, ReturnsBehind, StartsBehind, behind, calls_left, calls_of}
use Rattle.law_steps.specs.Steps.{StaysOnCourse, StepsLead}
use Rattle.law_steps.proofs.Course.Deeds.{DeedFits, Fits, IsInvoke, IsLeaving, deed_fits}
use Rattle.law_steps.proofs.Course.Frames.{calls_clear, calls_returned, calls_write, top_call_is}
use Rattle.law_steps.proofs.Course.Steps.{call_begins, call_way, called, choice_on, choice_way, leave_on, local_on, turn_on, turn_way}
use Rattle.ppd_model.proofs.Changes.{some}
use Rattle.ppd_model.proofs.Parents.{none_some}

-- the step of this need, where the head statement asks for this
abbrev acts : Program → Plan → Answer → Todo → List Todo → Asked Deed → Need → Proc → Proc
acts p plan a t ts asked Stopped s = s
acts p plan a t ts asked Budget s = record s { status = Some status.Budget }
acts p plan a t ts asked (Enter b u) s = charged plan (Enter b u) (record s { todo = record t { entered = true } ∷ ts })
acts p plan a t ts asked (Offer c v) s = charged plan (Offer c v) (record s { todo = record t { offered = true } ∷ ts; answers = [] })
acts p plan a t ts asked (Done c u) s = charged plan (Done c u) (record s { todo = ts; answers = [] })
acts p plan a t ts asked (Trap x) s = charged plan (Trap x) (record s { status = Some (status.Trap x) })
acts p plan a t ts asked need s = charged plan need (act_by_asked p a t ts asked s)

acts_is : (p : Program) (plan : Plan) (a : Answer) (t : Todo) (ts : List Todo) (n : Need) (s : Proc) → acts p plan a t ts (head_deed p t s) n s ≡ act_by_need p plan a t ts n s
acts_is p plan a t ts (Read c) s = refl
acts_is p plan a t ts (Write c v) s = refl
acts_is p plan a t ts Plain s = refl
acts_is p plan a t ts (Enter b u) s = refl
acts_is p plan a t ts (Leave b u) s = refl
acts_is p plan a t ts (Invoke b u) s = refl
acts_is p plan a t ts (Back b u) s = refl
acts_is p plan a t ts (P x u) s = refl
acts_is p plan a t ts (V x u) s = refl
acts_is p plan a t ts (Send c v u) s = refl
acts_is p plan a t ts (Offer c v) s = refl
acts_is p plan a t ts (Done c u) s = refl
acts_is p plan a t ts (Recv c u) s = refl
acts_is p plan a t ts (End b) s = refl
acts_is p plan a t ts (Trap x) s = refl
acts_is p plan a t ts Budget s = refl
acts_is p plan a t ts Stopped s = refl

-- a step with this need, from a process whose head is statement h, keeps the course and leads where it says
pub record Led (p : Program) (plan : Plan) (n : Need) (h : ℕ) (s after : Proc) : Type 0 where
  pub course : IsOnCourse p plan after
  pub leads : LeadsTo p plan n h (top_frame s.frames).call s after

module _ (p : Program) (plan : Plan) (v : IsValid p) (a : Answer) (t : Todo) (ts : List Todo) (s : Proc) (is_todo : s.todo ≡ t ∷ ts) (way : IsWay p plan (calls_of s.frames) (t ∷ ts)) where
  abbrev k : Kind
  k = kind_of p t.stmt

  behind_it : returns k ≡ false → IsBehind p plan (Some t.stmt) ts
  behind_it e = subst (λ r. IsBehind p plan (behind r t.stmt (calls_of s.frames)) ts) e way.0

  rest_way : returns k ≡ false → IsWay p plan (calls_of s.frames) ts
  rest_way e = subst (λ r. IsWay p plan (calls_left r (calls_of s.frames)) ts) e way.1

  on_course : (s2 : Proc) → s2.todo ≡ t ∷ ts → s2.frames ≡ s.frames → IsOnCourse p plan s2
  on_course s2 todo frames =
      subst (λ calls. IsWay p plan calls s2.todo) (sym (ap calls_of frames)) (subst (λ l. IsWay p plan (calls_of s.frames) l) (sym todo) way)

  -- other cells, but the same calls
  with_calls : (frames : List Frame) (todo : List Todo) → calls_of frames ≡ calls_of s.frames → IsWay p plan (calls_of s.frames) todo → IsWay p plan (calls_of frames) todo
  with_calls frames todo e h = subst (λ calls. IsWay p plan calls todo) (sym e) h

  starts : (st : Start) → returns k ≡ false → StartsBehind p plan t.stmt st (unit_of plan st) ts
  starts st e = record { goes = behind_it e; unit_is = refl }

  -- ---- a return

  is_back : returns k ≡ true → IsBehind p plan (top_frame s.frames).call ts
  is_back e =
      subst (λ c. IsBehind p plan c ts) (top_call_is s.frames) (subst (λ r. IsBehind p plan (behind r t.stmt (calls_of s.frames)) ts) e way.0)

  goes_back : (c : Option ℕ) → IsBehind p plan c ts → ReturnsBehind p plan c (call_unit plan c) ts
  goes_back None h = none_left ts h.follows
    where
      none_left : (l : List Todo) → next_stmt_of l ≡ None → l ≡ []
      none_left [] e = refl
      none_left (u ∷ us) e = absurd (none_some (sym e))
  goes_back (Some c) h = record { goes = h; unit_is = refl }

  back_way : (value : Option ℤ) → returns k ≡ true → IsWay p plan (calls_of (returned p value s.frames)) ts
  back_way value e =
      subst (λ calls. IsWay p plan calls ts) (sym (calls_returned p value s.frames)) (subst (λ r. IsWay p plan (calls_left r (calls_of s.frames)) ts) e way.1)

  -- ---- a loop that ends, a call

  leaving : (u : Option ℕ) → entry_of p plan t ≡ None → IsLeaving k → block_of plan (block.Loop t.stmt) ≡ u → (asked_answers : List ℤ)
      → Led p plan (need_of_leaving plan t.stmt u) t.stmt s (acts p plan a t ts (Ok (leave, asked_answers)) (need_of_leaving plan t.stmt u) s)
  leaving None none l is left =
      let stays : returns k ≡ false = ap returns l.kind_is in
      record { course = rest_way stays; leads = leave_on p plan v t ts l.test l.body l.kind_is none is (behind_it stays) }
  leaving (Some b) none l is left =
      let stays : returns k ≡ false = ap returns l.kind_is in
      record { course = rest_way stays; leads = starts (start.Exit t.stmt) stays }

  abbrev call_need : ℕ → Bool → Need
  call_need f deep = if deep then Trap trap.Depth else Invoke (block_of plan (block.Function f)) (unit_of plan (start.Entry f))

  invoking : (f : ℕ) (values : List ℤ) (into : Option ℕ) (deep : Bool) → IsInvoke k f → (left : List ℤ)
      → Led p plan (call_need f deep) t.stmt s (acts p plan a t ts (Ok (invoke f values into, left)) (call_need f deep) s)
  invoking f values into true i left = record { course = on_course (acts p plan a t ts (Ok (invoke f values into, left)) (Trap trap.Depth) s) is_todo refl; leads = refl }
  invoking f values into false i left =
      let stays : returns k ≡ false = ap returns i.kind_is in
      let c = called p plan v t ts f i in
      record {
        course = call_way p plan v t ts f _ c.1.top (calls_of s.frames) (behind_it stays) (rest_way stays);
        leads = record { function = f; goes = call_begins p plan v t ts f _ c.1.top; unit_is = refl };
      }

  sending : (chan : ℕ) (x : ℤ) (n : ℕ) → returns k ≡ false → (left : List ℤ)
      → Led p plan (need_of_send plan t.stmt n chan x) t.stmt s (acts p plan a t ts (Ok (send chan x, left)) (need_of_send plan t.stmt n chan x) s)
  sending chan x zero e left = record { course = way; leads = record { head = t; rest = ts; before_is = is_todo; after_is = refl; stmt_is = refl } }
  sending chan x (suc n) e left = record { course = rest_way e; leads = starts (start.After t.stmt) e }

  -- ---- each deed

  by_deed : (d : Deed) (left : List ℤ) → entry_of p plan t ≡ None → DeedFits k d → Led p plan (need_of_deed p plan t.stmt s d) t.stmt s (acts p plan a t ts (Ok (d, left)) (need_of_deed p plan t.stmt s d) s)
  by_deed (set_local c x) left none l =
      record { course = with_calls (on_top (λ cells. slice_set cells c x) s.frames) ts (calls_write c x s.frames) (rest_way l.stays); leads = local_on p plan v t ts l (behind_it l.stays) }
  by_deed (set_shared c x) left none l = record { course = rest_way l.stays; leads = local_on p plan v t ts l (behind_it l.stays) }
  by_deed (clear base len) left none l =
      record { course = with_calls (on_top (with_values (range_with_len base len) (replicate len (pos 0))) s.frames) ts (calls_clear base len s.frames) (rest_way l.stays); leads = local_on p plan v t ts l (behind_it l.stays) }
  by_deed (branch stmts) left none b =
      let stays : returns k ≡ false = ap returns b.kind_is in
      record { course = choice_way p plan v t ts (calls_of s.frames) stmts b (behind_it stays) (rest_way stays); leads = choice_on p plan v t ts stmts b (behind_it stays) }
  by_deed (turn stmts) left none l =
      record { course = turn_way p plan v t ts l.test stmts l.kind_is none (calls_of s.frames) way; leads = turn_on p plan v t ts l.test stmts l.kind_is none }
  by_deed leave left none l = leaving (block_of plan (block.Loop t.stmt)) none l refl left
  by_deed (invoke f values into) left none i = invoking f values into (nat_lt MOST_CALLS (s.below + length s.frames)) i left
  by_deed (back value) left none e = record { course = back_way value e; leads = goes_back (top_frame s.frames).call (is_back e) }
  by_deed (take sem) left none e = record { course = rest_way e; leads = starts (start.After t.stmt) e }
  by_deed (give sem) left none e = record { course = rest_way e; leads = starts (start.After t.stmt) e }
  by_deed (send chan x) left none e = sending chan x (capacity_of p chan) e left
  by_deed (receive chan into) left none e =
      record { course = with_calls (on_top (λ cells. slice_set cells into (value_of a)) s.frames) ts (calls_write into (value_of a) s.frames) (rest_way e); leads = starts (start.After t.stmt) e }
  by_deed (print x) left none l = record { course = rest_way l.stays; leads = local_on p plan v t ts l (behind_it l.stays) }
  by_deed pass left none l = record { course = rest_way l.stays; leads = local_on p plan v t ts l (behind_it l.stays) }
  by_deed finish left none e = record { course = rest_way e; leads = refl }

  by_asked : (asked : Asked Deed) → entry_of p plan t ≡ None → Fits k asked → Led p plan (need_of_asked p plan t.stmt s asked) t.stmt s (acts p plan a t ts asked (need_of_asked p plan t.stmt s asked) s)
  by_asked (Ok q) none fits = by_deed q.0 q.1 none fits
  by_asked (Err (Wants c)) none fits = record { course = on_course (acts p plan a t ts (Err (Wants c)) (Read c) s) is_todo refl; leads = refl }
  by_asked (Err (Traps x)) none fits = record { course = on_course (acts p plan a t ts (Err (Traps x)) (Trap x) s) is_todo refl; leads = refl }

  -- ---- the entry of a block loop

  entered_not : (b : ℕ) → entry_of p plan t ≡ Some b → t.entered ≡ false
  entered_not b is = by t.entered refl
    where
      by : (m : Bool) → t.entered ≡ m → m ≡ false
      by true m = absurd (none_some (sym (ap (λ (x : Bool). if x then None else loop_of plan t.stmt (kind_of p t.stmt)) m) ∙ is))
      by false m = refl

  loop_block : (b : ℕ) → entry_of p plan t ≡ Some b → block_of plan (block.Loop t.stmt) ≡ Some b
  loop_block b is = of_kind (kind_of p t.stmt) (sym (ap (λ (x : Bool). if x then None else loop_of plan t.stmt (kind_of p t.stmt)) (entered_not b is)) ∙ is)
    where
      of_kind : (kind : Kind) → loop_of plan t.stmt kind ≡ Some b → block_of plan (block.Loop t.stmt) ≡ Some b
      of_kind (K.While e body) h = h
      of_kind kind h = absurd (none_some h)

  by_entry : (o : Option ℕ) (asked : Asked Deed) → entry_of p plan t ≡ o → Fits k asked → Led p plan (need_by_entry p plan t.stmt s o asked) t.stmt s (acts p plan a t ts asked (need_by_entry p plan t.stmt s o asked) s)
  by_entry None asked is fits = by_asked asked is fits
  by_entry (Some b) asked is fits =
      record {
        course = way;
        leads = record { head = t; rest = ts; before_is = is_todo; after_is = refl; stmt_is = refl; unmarked = entered_not b is; block_is = loop_block b is; unit_is = refl };
      }

  by_offer : (o : Option ℕ) (n : Need) (asked : Asked Deed) → ((c : ℕ) → o ≡ Some c → returns k ≡ false) → Led p plan n t.stmt s (acts p plan a t ts asked n s)
      → Led p plan (need_by_offer plan t.stmt o n) t.stmt s (acts p plan a t ts asked (need_by_offer plan t.stmt o n) s)
  by_offer None n asked h led = led
  by_offer (Some c) n asked h led = record { course = rest_way (h c refl); leads = starts (start.After t.stmt) (h c refl) }

  offer_stays : (c : ℕ) → offer_of p t ≡ Some c → returns k ≡ false
  offer_stays c is = send_stays (kind_of p t.stmt) c (offer_there t.offered (chan_of (kind_of p t.stmt)) c is)

  by_purse : (poor : Bool) (n : Need) (asked : Asked Deed) → Led p plan n t.stmt s (acts p plan a t ts asked n s) → Led p plan (if poor then Budget else n) t.stmt s (acts p plan a t ts asked (if poor then Budget else n) s)
  by_purse true n asked led = record { course = on_course (acts p plan a t ts asked Budget s) is_todo refl; leads = refl }
  by_purse false n asked led = led

  led_head : Led p plan (within_budget plan s (need_of_head p plan t s)) t.stmt s (act_by_need p plan a t ts (within_budget plan s (need_of_head p plan t s)) s)
  led_head =
      let asked : Asked Deed = head_deed p t s in
      let n : Need = need_of_head p plan t s in
      let fits : Fits k asked = deed_fits p.exprs (top_frame s.frames).cells s.answers (kind_of p t.stmt) in
      subst (λ (after : Proc). Led p plan (within_budget plan s n) t.stmt s after) (acts_is p plan a t ts (within_budget plan s n) s)
      (by_purse (nat_lt s.budget (s.spent + cost plan n)) n asked
      (by_offer (offer_of p t) (need_by_entry p plan t.stmt s (entry_of p plan t) asked) asked offer_stays (by_entry (entry_of p plan t) asked refl fits)))

-- ---- each step

led_at : (p : Program) (plan : Plan) (s : Proc) (a : Answer) (h : ℕ) (o : Option Status) (todo : List Todo) → IsValid p → IsOnCourse p plan s → s.status ≡ o → s.todo ≡ todo → next_stmt_of todo ≡ Some h
    → Led p plan (need_of p plan s) h s (act p plan s a)
led_at p plan s a h (Some x) todo v course is todo_is head =
    let stopped : need_of p plan s ≡ Stopped = need_at_status p plan s (Some x) is in
    let same : act p plan s a ≡ s = act-stopped p plan s a stopped in
    record {
      course = subst (λ (after : Proc). IsOnCourse p plan after) (sym same) course;
      leads = subst (λ (n : Need). LeadsTo p plan n h (top_frame s.frames).call s (act p plan s a)) (sym stopped) same;
    }
led_at p plan s a h None [] v course is todo_is head = absurd (none_some head)
led_at p plan s a h None (t ∷ ts) v course is todo_is head =
    let need : need_of p plan s ≡ within_budget plan s (need_of_head p plan t s) = need_at_todo p plan s (t ∷ ts) is todo_is in
    let way : IsWay p plan (calls_of s.frames) (t ∷ ts) = subst (λ l. IsWay p plan (calls_of s.frames) l) todo_is course in
    let led = led_head p plan v a t ts s todo_is way in
    let moved : act p plan s a ≡ act_by_need p plan a t ts (need_of p plan s) s = ap (λ l. act_at p plan a l s) todo_is in
    let led_need : Led p plan (need_of p plan s) t.stmt s (act_by_need p plan a t ts (need_of p plan s) s) =
    subst (λ (n : Need). Led p plan n t.stmt s (act_by_need p plan a t ts n s)) (sym need) led in
    subst (λ i. Led p plan (need_of p plan s) i s (act p plan s a)) (some head) (subst (λ (after : Proc). Led p plan (need_of p plan s) t.stmt s after) (sym moved) led_need)

stays_at : (p : Program) (plan : Plan) (s : Proc) (a : Answer) (todo : List Todo) → IsValid p → IsOnCourse p plan s → s.todo ≡ todo → IsOnCourse p plan (act p plan s a)
stays_at p plan s a [] v course is = subst (λ (after : Proc). IsOnCourse p plan after) (sym (ap (λ l. act_at p plan a l s) is)) course
stays_at p plan s a (t ∷ ts) v course is = (led_at p plan s a t.stmt s.status (t ∷ ts) v course refl is refl).course

pub stays_on_course : StaysOnCourse
stays_on_course p plan s a v course = stays_at p plan s a s.todo v course refl

pub steps_lead : StepsLead
steps_lead p plan s a h v course head = (led_at p plan s a h s.status s.todo v course refl refl head).leads
