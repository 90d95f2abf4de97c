-- One step of a process that goes on: what is then to do, the activations that are then there, and what it needed.
use Rattle.std.proofs.Common.{◌≡◌, ℕ, zero, suc, ◌+◌, ℤ, Bool, true, false, nat_lt, List, ◌∷◌, length, Option, Some, None, Ok, Err, refl, ap, sym, subst, ◌∙◌, if◌then◌else◌}
use Rattle.std.specs.Prelude.{drop}
use Rattle.std.proofs.lemmas.Option.{none-some}
use Rattle.ppd_ast.specs.Numbered.{is_while}
use Rattle.ppd_ast.specs.Valid.{IsValid}
use Rattle.ppd_ast.specs.declared.plan.BlockKind.TheVariants as block
use Rattle.ppd_ast.specs.declared.plan.Plan.{Plan}
use Rattle.ppd_ast.specs.declared.plan.Start.TheVariants as start
use Rattle.ppd_ast.specs.declared.program.Program.{Program}
use Rattle.ppd_ast.specs.declared.status.Trap.TheVariants.{Depth}
use Rattle.ppd_ast.specs.Lookups.{kind_of, body_of, body_numbered}
use Rattle.ppd_ast.specs.declared.limits.TheConstants.{MOST_CALLS}
use Rattle.law_steps.specs.Beside.Relation.{IsCallOf}
use Rattle.ppd_sem.specs.declared.asking.Pause.TheVariants.{Wants, Traps}
use Rattle.ppd_sem.specs.declared.proc.Answer.{Answer}
use Rattle.ppd_sem.specs.declared.proc.Need.{Need}
use Rattle.ppd_sem.specs.declared.proc.Need.TheVariants as need
use Rattle.ppd_sem.specs.declared.proc.Proc.{Proc}
use Rattle.ppd_sem.specs.declared.proc.Todo.{Todo}
use Rattle.ppd_sem.specs.Asked.{Asked}
use Rattle.ppd_sem.specs.Deed.{Deed, set_local, set_shared, clear, branch, turn, leave, invoke, back, take, give, send, receive, print, pass, finish}
use Rattle.ppd_sem.specs.Described.{evaluates, value_at, valued}
use Rattle.ppd_sem.specs.Process.{act_by_asked, act_by_need, call_unit, chan_of, cost, entry_of, head_deed, loop_of, need_of_asked, need_of_deed, need_of_head, need_of_leaving, need_of_send, offer_of, top_frame}
use Rattle.ppd_sem.proofs.NeedWords.{need_by_entry, need_by_offer, need_of_running}
use Rattle.ppd_sem.specs.Tables.{block_of, capacity_of, unit_of}
use Rattle.ppd_sem.proofs.TableWords.{or_zero}
use Rattle.ppd_sem.proofs.Offers.{offer_there}
use Rattle.ppd_model.specs.declared.tracing.Activation.{Activation}
use Rattle.ppd_model.specs.FullTrace.{Tag, is_passed, tagged_after, tagged_by}
use Rattle.ppd_model.proofs.TraceWords.{tagged_at}
use Rattle.ppd_model.proofs.Homes.{head_of, AreTop as AreTopOf, AskedOf as AskedHome, DeedOf as DeedHome}
use Rattle.ppd_model.proofs.Moves.{leads, drop_views}
use Rattle.ppd_model.proofs.TestSteps.{View, all_tagged_views, into_views, tagged_views, views}
use Rattle.law_flow.proofs.Control.KindDeeds.{DeedFits, IsSimple, asked_fits, leave_fails, AskedFits}
use Rattle.law_flow.proofs.Control.Steps.{value_in, Step, listed_inside, called_top, loop_while, chan_simple, either_false, send_views, reads, enters, offers, passes, stops, leaves, chooses, turns, calls, backs}
use Rattle.law_steps.proofs.OpenBlocks.DeedKinds.{loop_is}

module _ (program : Program) (plan : Plan) (valid : IsValid program) (a : Answer) (t : Todo) (ts : List Todo)
    (s : Proc) (is : s.todo ≡ t ∷ ts) (me : Tag) (old : List View) (acts : List Activation) where
  -- the views after a step of this need
  abbrev pub now_by : Need → List View
  now_by (need.Read c) = old
  now_by (need.Enter b u) = old
  now_by need.Budget = old
  now_by need.Stopped = old
  now_by n = views (tagged_after program s me n acts)

  abbrev To : Need → List Todo → List View → Type 0
  To n todo now = Step program plan s t ts me old (views acts) n todo now

  -- where the process goes on after it
  abbrev pub Tells : Need → Type 0
  Tells n = (act_by_need program plan a t ts n s).status ≡ None
      → To n (act_by_need program plan a t ts n s).todo (now_by n)

  -- the state and the views that an answered statement leaves
  abbrev after : Need → Asked Deed → Type 0
  after n x = (act_by_asked program a t ts x s).status ≡ None
      → To n (act_by_asked program a t ts x s).todo (views (tagged_by program s me x acts))

  -- an event whose head is answered
  moved : (n : Need) (x : Asked Deed) → head_deed program t s ≡ x → after n x
      → (act_by_asked program a t ts (head_deed program t s) s).status ≡ None
      → To n (act_by_asked program a t ts (head_deed program t s) s).todo (views (tagged_at program s me s.todo acts))
  moved n x at h =
      subst (λ todo. (act_by_asked program a t ts (head_deed program t s) s).status ≡ None
      → To n (act_by_asked program a t ts (head_deed program t s) s).todo
      (views (tagged_at program s me todo acts))) (sym is)
      (subst (λ y. after n y) (sym at) h)

  module _ (no_entry : entry_of program plan t ≡ None) where
    not_entered : (o : Option ℕ) → loop_of plan t.stmt (kind_of program t.stmt) ≡ o → t.entered ≡ false → o ≡ None
    not_entered o at e = sym at ∙ sym (ap (λ x. if x then None else loop_of plan t.stmt (kind_of program t.stmt)) e)
        ∙ no_entry

    was_entered : (b : ℕ) → loop_of plan t.stmt (kind_of program t.stmt) ≡ Some b → t.entered ≡ true
    was_entered b at = by t.entered refl
      where
        by : (x : Bool) → t.entered ≡ x → t.entered ≡ true
        by true e = e
        by false e = absurd (none-some b (sym (not_entered (Some b) at e)))

    fails : (n : Need) (left : List ℤ) → is_while (kind_of program t.stmt) ≡ true
        → head_deed program t s ≡ Ok (leave, left) → is_passed (value_in program s t n) ≡ false
    fails n left w at = either_false (evaluates n)
        (value_at program.exprs (top_frame s.frames).cells s.answers (valued (kind_of program t.stmt)))
        (leave_fails program.exprs (kind_of program t.stmt) (top_frame s.frames).cells s.answers left w at)

    leaving : (o : Option ℕ) (left : List ℤ) → head_deed program t s ≡ Ok (leave, left)
        → block_of plan (block.Loop t.stmt) ≡ o → is_while (kind_of program t.stmt) ≡ true
        → Tells (need_of_leaving plan t.stmt o)
    leaving None left at e w = moved need.Plain (Ok (leave, left)) at
        (λ runs. stops (refl, refl, refl, refl) w e (fails need.Plain left w at) refl refl)
    leaving (Some b) left at e w =
        moved (need.Leave b (unit_of plan (start.Exit t.stmt))) (Ok (leave, left)) at
        (λ runs. leaves b (unit_of plan (start.Exit t.stmt)) refl
        (was_entered b (loop_is plan t.stmt (kind_of program t.stmt) w ∙ e)) w e
        (fails (need.Leave b (unit_of plan (start.Exit t.stmt))) left w at) refl refl)

    calling : (x : Bool) (f : ℕ) (values : List ℤ) (into : Option ℕ) (left : List ℤ)
        → head_deed program t s ≡ Ok (invoke f values into, left) → IsCallOf (kind_of program t.stmt) f
        → AreTopOf program f (body_numbered program f).top
        → Tells (if x then need.Trap Depth else need.Invoke (block_of plan (block.Function f))
        (unit_of plan (start.Entry f)))
    calling true f values into left at h top = λ runs. absurd (cc)
    calling false f values into left at h top =
        moved (need.Invoke (block_of plan (block.Function f)) (unit_of plan (start.Entry f)))
        (Ok (invoke f values into, left)) at
        (λ runs. calls f (unit_of plan (start.Entry f)) refl h
        (called_top program t.stmt (kind_of program t.stmt) f (leads program t.stmt valid) h) top refl refl)

    sending : (n c : ℕ) (value : ℤ) (left : List ℤ) → head_deed program t s ≡ Ok (send c value, left)
        → IsSimple (kind_of program t.stmt) → Tells (need_of_send plan t.stmt n c value)
    sending zero c value left at h = λ runs. offers (refl, refl, refl, refl) h refl
        (ap (λ todo. views (tagged_at program s me todo acts)) is ∙ ap (λ x. views (tagged_by program s me x acts)) at)
    sending (suc n) c value left at h = moved (need.Send c value (unit_of plan (start.After t.stmt)))
        (Ok (send c value, left)) at (λ runs. passes (refl, refl, refl, refl) h refl refl)

    by_deed : (d : Deed) (left : List ℤ) → head_deed program t s ≡ Ok (d, left) → DeedFits (kind_of program t.stmt) d
        → DeedHome program (body_of program t.stmt) (kind_of program t.stmt) d
        → Tells (need_of_deed program plan t.stmt s d)
    by_deed (set_local c v) left at h g = moved need.Plain (Ok (set_local c v, left)) at
        (λ runs. passes (refl, refl, refl, refl) h refl (tagged_views c me acts))
    by_deed (set_shared c v) left at h g = moved (need.Write c v) (Ok (set_shared c v, left)) at
        (λ runs. passes (refl, refl, refl, refl) h refl refl)
    by_deed (clear base len) left at h g = moved need.Plain (Ok (clear base len, left)) at
        (λ runs. passes (refl, refl, refl, refl) h refl (all_tagged_views base len me acts))
    by_deed (branch stmts) left at h g =
        moved need.Plain (Ok (branch stmts, left)) at
        (λ runs. chooses stmts (refl, refl, refl, refl) h.1 h.2
        (listed_inside program t.stmt (kind_of program t.stmt) stmts (leads program t.stmt valid) h.0, g.1) refl
        refl)
    by_deed (turn stmts) left at h g =
        moved need.Plain (Ok (turn stmts, left)) at
        (λ runs. turns stmts (refl, refl, refl, refl) h.1
        (λ e. sym (loop_is plan t.stmt (kind_of program t.stmt) h.1)
        ∙ not_entered (loop_of plan t.stmt (kind_of program t.stmt)) refl e)
        (listed_inside program t.stmt (kind_of program t.stmt) stmts (leads program t.stmt valid) h.0, g.1) refl refl)
    by_deed leave left at h g = leaving (block_of plan (block.Loop t.stmt)) left at refl h
    by_deed (invoke f values into) left at h g = calling
        (nat_lt MOST_CALLS (s.below + length s.frames)) f values into left at h g.1.0
    by_deed (back value) left at h g =
        moved (need.Back (block_of plan (block.Function (top_frame s.frames).body)) (call_unit plan (top_frame s.frames).call))
        (Ok (back value, left)) at
        (λ runs. backs (call_unit plan (top_frame s.frames).call) refl h refl
        (into_views _ value me (drop 1 acts) ∙ drop_views acts))
    by_deed (take x) left at h g = moved (need.P x (unit_of plan (start.After t.stmt))) (Ok (take x, left)) at
        (λ runs. passes (refl, refl, refl, refl) h refl refl)
    by_deed (give x) left at h g = moved (need.V x (unit_of plan (start.After t.stmt))) (Ok (give x, left)) at
        (λ runs. passes (refl, refl, refl, refl) h refl refl)
    by_deed (send c value) left at h g = sending (capacity_of program c) c value left at h
    by_deed (receive c into) left at h g = moved (need.Recv c (unit_of plan (start.After t.stmt)))
        (Ok (receive c into, left)) at (λ runs. passes (refl, refl, refl, refl) h refl (tagged_views into me acts))
    by_deed (print x) left at h g = moved need.Plain (Ok (print x, left)) at
        (λ runs. passes (refl, refl, refl, refl) h refl refl)
    by_deed pass left at h g = moved need.Plain (Ok (pass, left)) at
        (λ runs. passes (refl, refl, refl, refl) h refl refl)
    by_deed finish left at h g = moved (need.End (or_zero (block_of plan (block.Process (top_frame s.frames).body))))
        (Ok (finish, left)) at (λ runs. absurd (cc))

    by_asked : (x : Asked Deed) → head_deed program t s ≡ x → AskedFits (kind_of program t.stmt) x
        → AskedHome program (body_of program t.stmt) (kind_of program t.stmt) x
        → Tells (need_of_asked program plan t.stmt s x)
    by_asked (Ok q) at h g = by_deed q.0 q.1 at h g
    by_asked (Err (Wants c)) at h g = λ runs. reads (refl, refl, refl)
        (ap (λ x. (act_by_asked program a t ts x s).todo) at ∙ is) refl
    by_asked (Err (Traps x)) at h g = λ runs. absurd (cc)

  by_entry : (o : Option ℕ) → entry_of program plan t ≡ o
      → Tells (need_by_entry program plan t.stmt s o (head_deed program t s))
  by_entry (Some b) e = λ runs. entering t.entered refl
    where
      entering : (x : Bool) → t.entered ≡ x
          → To (need.Enter b (unit_of plan (start.Enter t.stmt))) (record t { entered = true } ∷ ts) old
      entering true f = absurd (none-some b
          (sym (ap (λ x. if x then None else loop_of plan t.stmt (kind_of program t.stmt)) f) ∙ e))
      entering false f =
          let w = loop_while plan t.stmt (kind_of program t.stmt) b
          (sym (ap (λ x. if x then None else loop_of plan t.stmt (kind_of program t.stmt)) f) ∙ e) in
          enters b (unit_of plan (start.Enter t.stmt)) refl f w.1 w.0 refl refl
  by_entry None e = by_asked e (head_deed program t s) refl
      (asked_fits program.exprs (kind_of program t.stmt) (top_frame s.frames).cells s.answers) (head_of program t s valid)

  by_offer : (o : Option ℕ) → offer_of program t ≡ o
      → Tells (need_by_offer plan t.stmt o
      (need_by_entry program plan t.stmt s (entry_of program plan t) (head_deed program t s)))
  by_offer (Some c) e = λ runs. passes (refl, refl, refl, refl)
      (chan_simple (kind_of program t.stmt) c (offer_there t.offered (chan_of (kind_of program t.stmt)) c e)) refl
      (same_views c e)
    where
      same_views : (c : ℕ) → offer_of program t ≡ Some c → views (tagged_at program s me s.todo acts) ≡ views acts
      same_views c e =
          ap (λ todo. views (tagged_at program s me todo acts)) is
          ∙ send_views program s me acts program.exprs (kind_of program t.stmt) (top_frame s.frames).cells s.answers c
          (offer_there t.offered (chan_of (kind_of program t.stmt)) c e)
  by_offer None e = by_entry (entry_of program plan t) refl

  by_budget : (x : Bool) → Tells (if x then need.Budget else need_of_head program plan t s)
  by_budget true = λ runs. absurd (cc)
  by_budget false = by_offer (offer_of program t) refl

  pub step_running : Tells (need_of_running program plan (t ∷ ts) s)
  step_running = by_budget (nat_lt s.budget (s.spent + cost plan (need_of_head program plan t s)))
