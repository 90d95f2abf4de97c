-- An event writes a shared cell exactly where its step needs that write.
use Rattle.std.proofs.Common.{◌≡◌, ℕ, zero, suc, ◌+◌, ℤ, Bool, true, false, nat_lt, List, [], ◌∷◌, ◌++◌, length, Option, Some, None, Ok, Err, refl, ap, sym, subst, ◌∙◌, true≢false, if◌then◌else◌}
use Rattle.std.specs.Prelude.{nat_eq, replicate, pos}
use Rattle.std.proofs.lemmas.Option.{none-some}
use Rattle.ppd_ast.specs.declared.plan.BlockKind.TheVariants as block
use Rattle.ppd_ast.specs.declared.plan.Plan.{Plan}
use Rattle.ppd_ast.specs.declared.plan.Start.TheVariants as start
use Rattle.ppd_ast.specs.declared.program.Kind.{Kind}
use Rattle.ppd_ast.specs.declared.program.Kind.TheVariants as kind
use Rattle.ppd_ast.specs.declared.program.Program.{Program}
use Rattle.ppd_ast.specs.declared.status.Status.{Status}
use Rattle.ppd_ast.specs.declared.status.Trap.TheVariants as trap
use Rattle.ppd_ast.specs.Term.{term}
use Rattle.ppd_ast.specs.Lookups.{kind_of}
use Rattle.ppd_ast.specs.declared.limits.TheConstants.{MOST_CALLS}
use Rattle.ppd_sem.specs.declared.asking.Pause.TheVariants.{Wants, Traps}
use Rattle.ppd_sem.specs.declared.proc.Answer.{Answer}
use Rattle.ppd_sem.specs.declared.proc.Need.{Need}
use Rattle.ppd_sem.specs.declared.proc.Need.TheVariants as need
use Rattle.ppd_sem.specs.declared.proc.Proc.{Proc}
use Rattle.ppd_sem.specs.declared.proc.Todo.{Todo}
use Rattle.ppd_sem.specs.Ask.{ask}
use Rattle.ppd_sem.specs.Asked.{Asked, and_then, gives}
use Rattle.ppd_sem.specs.Deed.{Deed, set_local, set_shared, clear, leave, invoke, send, receive, ask_deed}
use Rattle.ppd_sem.specs.Described.{frame_of, trap_of, writes_by, is_event}
use Rattle.ppd_sem.proofs.EventWords.{writes_of_asked}
use Rattle.ppd_sem.specs.Tables.{block_of, capacity_of, unit_of}
use Rattle.ppd_sem.specs.Process.{chan_of, cost, entry_of, head_deed, need_of, need_of_deed, need_of_head, need_of_leaving, need_of_send, offer_of, top_frame}
use Rattle.ppd_sem.proofs.NeedWords.{need_by_entry, need_by_offer, need_by_status, need_of_running}
use Rattle.ppd_model.specs.declared.tracing.Taken.{Taken}
use Rattle.ppd_model.specs.FullTrace.{event_of}
use Rattle.ppd_graph.specs.Walk.{value_to}
use Rattle.ppd_sem.specs.Reads.{local_accesses}

-- the value that a step of this need writes to the cell
abbrev pub write_to : ℕ → Need → Option ℤ
write_to c (need.Write d v) = if nat_eq c d then Some v else None
write_to c n = None

parameters_local : (c frame d : ℕ) (vs : List ℤ) → value_to c (local_accesses frame d vs) ≡ None
parameters_local c frame d [] = refl
parameters_local c frame d (v ∷ vs) = parameters_local c frame (d + 1) vs

module _ (c frame : ℕ) (a : Answer) where
  -- the event's writes of the cell are the step's
  abbrev Fits : Need → Asked Deed → Type 0
  Fits n asked = is_event n ≡ true → value_to c (writes_by (trap_of n) frame a asked) ≡ write_to c n

  leaving : (plan : Plan) (t : ℕ) (o : Option ℕ) (left : List ℤ) → Fits (need_of_leaving plan t o) (Ok (leave, left))
  leaving plan t None left e = refl
  leaving plan t (Some b) left e = refl

  calling : (p : Program) (plan : Plan) (t f : ℕ) (s : Proc) (values : List ℤ) (into : Option ℕ) (left : List ℤ) → Fits (need_of_deed p plan t s (invoke f values into)) (Ok (invoke f values into, left))
  calling p plan t f s values into left = by (nat_lt MOST_CALLS (s.below + length s.frames))
    where
      by : (b : Bool) → Fits (if b then need.Trap trap.Depth else need.Invoke (block_of plan (block.Function f)) (unit_of plan (start.Entry f))) (Ok (invoke f values into, left))
      by true e = refl
      by false e = parameters_local c (frame + 1) 0 values

  sending : (plan : Plan) (t n d : ℕ) (x : ℤ) (left : List ℤ) → Fits (need_of_send plan t n d x) (Ok (send d x, left))
  sending plan t zero d x left e = refl
  sending plan t (suc n) d x left e = refl

  deed_fits : (p : Program) (plan : Plan) (t : ℕ) (s : Proc) (d : Deed) (left : List ℤ) → Fits (need_of_deed p plan t s d) (Ok (d, left))
  deed_fits p plan t s (set_local d x) left e = refl
  deed_fits p plan t s (set_shared d x) left e = refl
  deed_fits p plan t s (clear base len) left e = parameters_local c frame base (replicate len (pos 0))
  deed_fits p plan t s leave left e = leaving plan t (block_of plan (block.Loop t)) left e
  deed_fits p plan t s (invoke f values into) left e = calling p plan t f s values into left e
  deed_fits p plan t s (send chan x) left e = sending plan t (capacity_of p chan) chan x left e
  deed_fits p plan t s (receive chan into) left e = refl
  deed_fits p plan t s d left e = refl

  asked_fits : (p : Program) (plan : Plan) (t : ℕ) (s : Proc) (o : Option ℕ) (asked : Asked Deed) → Fits (need_by_entry p plan t s o asked) asked
  asked_fits p plan t s (Some b) asked e = absurd (true≢false (sym e))
  asked_fits p plan t s None (Ok q) e = deed_fits p plan t s q.0 q.1 e
  asked_fits p plan t s None (Err (Wants d)) e = refl
  asked_fits p plan t s None (Err (Traps x)) e = refl

  sent : (r : Asked ℤ) (d : ℕ) → value_to c (writes_of_asked frame a (and_then r (λ v left. gives left (send d v)))) ≡ None
  sent (Ok q) d = refl
  sent (Err pause) d = refl

  -- a completion is of a send
  by_kind : (p : Program) (s : Proc) (k : Kind) (d : ℕ) → chan_of k ≡ Some d → value_to c (writes_of_asked frame a (ask_deed p.exprs k (top_frame s.frames).cells s.answers)) ≡ None
  by_kind p s (kind.Send d' e) d is = sent (ask (term p.exprs e) (top_frame s.frames).cells s.answers) d'
  by_kind p s k d is = absurd (none-some d is)

  offer_fits : (p : Program) (plan : Plan) (t : Todo) (s : Proc) (o : Option ℕ) → offer_of p t ≡ o → (n : Need) → Fits n (head_deed p t s) → Fits (need_by_offer plan t.stmt o n) (head_deed p t s)
  offer_fits p plan t s None is n h e = h e
  offer_fits p plan t s (Some d) is n h e = by t.offered is
    where
      by : (b : Bool) → (if b then chan_of (kind_of p t.stmt) else None) ≡ Some d → value_to c (writes_of_asked frame a (head_deed p t s)) ≡ None
      by true f = by_kind p s (kind_of p t.stmt) d f
      by false f = absurd (none-some d f)

  budget_fits : (b : Bool) (n : Need) (asked : Asked Deed) → Fits n asked → Fits (if b then need.Budget else n) asked
  budget_fits true n asked h e = absurd (true≢false (sym e))
  budget_fits false n asked h e = h e

  status_fits : (p : Program) (plan : Plan) (s : Proc) (o : Option Status) (t : Todo) (ts : List Todo) → s.todo ≡ t ∷ ts → Fits (need_by_status p plan o s) (head_deed p t s)
  status_fits p plan s (Some x) t ts is = λ e. absurd (true≢false (sym e))
  status_fits p plan s None t ts is =
      subst (λ todo. Fits (need_of_running p plan todo s) (head_deed p t s)) (sym is)
      (budget_fits (nat_lt s.budget (s.spent + cost plan (need_of_head p plan t s))) (need_of_head p plan t s) (head_deed p t s)
      (offer_fits p plan t s (offer_of p t) refl (need_by_entry p plan t.stmt s (entry_of p plan t) (head_deed p t s)) (asked_fits p plan t.stmt s (entry_of p plan t) (head_deed p t s))))

pub event_writes : (program : Program) (plan : Plan) (c : ℕ) (s : Proc) (x : Taken) (t : Todo) (ts : List Todo) → s.todo ≡ t ∷ ts → is_event (need_of program plan s) ≡ true
    → value_to c (event_of program plan s x s.todo).writes ≡ write_to c (need_of program plan s)
event_writes program plan c s x t ts is e =
    ap (λ todo. value_to c (event_of program plan s x todo).writes) is
    ∙ status_fits c (frame_of program plan s) x.answer program plan s s.status t ts is e
