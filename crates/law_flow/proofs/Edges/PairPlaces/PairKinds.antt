-- A `P` is the synchronization of a `P`, and of no other statement.
use Rattle.std.proofs.Common.{◌≡◌, ℕ, zero, suc, ℤ, Bool, true, false, nat_lt, List, ◌∷◌, length, ◌+◌, Option, Some, None, Ok, Err, refl, sym, subst, ◌∙◌, true≢false, if◌then◌else◌}
use Rattle.std.proofs.lemmas.Option.{none-some}
use Rattle.ppd_ast.specs.declared.plan.BlockKind.TheVariants as block
use Rattle.ppd_ast.specs.declared.plan.Plan.{Plan}
use Rattle.ppd_ast.specs.declared.plan.Start.TheVariants as start
use Rattle.ppd_ast.specs.declared.program.Expr.{Expr}
use Rattle.ppd_ast.specs.declared.program.Kind.{Kind}
use Rattle.ppd_ast.specs.declared.program.Kind.TheVariants as kind
use Rattle.ppd_ast.specs.declared.program.Program.{Program}
use Rattle.ppd_ast.specs.declared.status.Status.{Status}
use Rattle.ppd_ast.specs.declared.status.Trap.TheVariants as trap
use Rattle.ppd_ast.specs.Lookups.{kind_of}
use Rattle.ppd_ast.specs.declared.limits.TheConstants.{MOST_CALLS}
use Rattle.ppd_sem.specs.declared.asking.Pause.TheVariants.{Wants, Traps}
use Rattle.ppd_sem.specs.declared.proc.Need.{Need}
use Rattle.ppd_sem.specs.declared.proc.Need.TheVariants as need
use Rattle.ppd_sem.specs.declared.proc.Proc.{Proc}
use Rattle.ppd_sem.specs.declared.proc.Todo.{Todo}
use Rattle.ppd_sem.specs.Asked.{Asked}
use Rattle.ppd_sem.specs.Deed.{Deed, set_shared, leave, invoke, take, send, ask_deed}
use Rattle.ppd_sem.specs.Process.{chan_of, cost, entry_of, head_deed, need_of, need_of_deed, need_of_head, need_of_leaving, need_of_send, offer_of, top_frame}
use Rattle.ppd_sem.proofs.NeedWords.{need_by_entry, need_by_offer, need_by_status, need_of_running}
use Rattle.ppd_sem.specs.Tables.{block_of, capacity_of, unit_of}
use Rattle.ppd_sem.specs.Described.{is_event}
use Rattle.ppd_sem.proofs.OfKind.{IsDeedOf, OfAsked, asked_holds, finishes}
use Rattle.ppd_sem.specs.declared.asking.Pause.{Pause}

-- a statement by its kind
abbrev pub is_take : Kind → Bool
is_take (kind.P s) = true
is_take k = false

-- a need by its kind
abbrev pub takes : Need → Bool
takes (need.P s u) = true
takes n = false

abbrev taking : Deed → Bool
taking (take s) = true
taking d = false

-- a statement of another kind does not take
abbrev Others : Kind → Asked Deed → Type 0
Others k (Ok q) = taking q.0 ≡ is_take k
Others k (Err pause) = is_take k ≡ false

kind_takes : (k : Kind) (d : Deed) → IsDeedOf k d → taking d ≡ is_take k
kind_takes k d finishes = refl
kind_takes k d is = refl

-- a take asks for nothing
never_waits : (es : List Expr) (k : Kind) (cells answers : List ℤ) (pause : Pause)
    → ask_deed es k cells answers ≡ Err pause → is_take k ≡ false
never_waits es (kind.P x) cells answers pause e = absurd (cc)
never_waits es k cells answers pause e = refl

others : (es : List Expr) (k : Kind) (cells answers : List ℤ) → Others k (ask_deed es k cells answers)
others es k cells answers =
    by (ask_deed es k cells answers) refl (asked_holds es cells answers (λ (d : Deed). taking d ≡ is_take k) k (kind_takes k))
  where
    by : (asked : Asked Deed) → ask_deed es k cells answers ≡ asked → OfAsked (λ (d : Deed). taking d ≡ is_take k) asked
        → Others k asked
    by (Ok q) e h = h
    by (Err pause) e h = never_waits es k cells answers pause e

-- ---- needs

-- the step of an event takes exactly where its statement does
abbrev Fits : Kind → Need → Type 0
Fits k n = is_event n ≡ true → takes n ≡ is_take k

leaving : (plan : Plan) (t : ℕ) (o : Option ℕ) → takes (need_of_leaving plan t o) ≡ false
leaving plan t None = refl
leaving plan t (Some b) = refl

calling : (p : Program) (plan : Plan) (t f : ℕ) (s : Proc) (values : List ℤ) (into : Option ℕ) → takes (need_of_deed p plan t s (invoke f values into)) ≡ false
calling p plan t f s values into = by (nat_lt MOST_CALLS (s.below + length s.frames))
  where
    by : (b : Bool) → takes (if b then need.Trap trap.Depth else need.Invoke (block_of plan (block.Function f)) (unit_of plan (start.Entry f))) ≡ false
    by true = refl
    by false = refl

sending : (plan : Plan) (t n c : ℕ) (x : ℤ) → takes (need_of_send plan t n c x) ≡ false
sending plan t zero c x = refl
sending plan t (suc n) c x = refl

deed_takes : (p : Program) (plan : Plan) (t : ℕ) (s : Proc) (d : Deed) → takes (need_of_deed p plan t s d) ≡ taking d
deed_takes p plan t s (set_shared c x) = refl
deed_takes p plan t s leave = leaving plan t (block_of plan (block.Loop t))
deed_takes p plan t s (invoke f values into) = calling p plan t f s values into
deed_takes p plan t s (send chan x) = sending plan t (capacity_of p chan) chan x
deed_takes p plan t s (take x) = refl
deed_takes p plan t s d = refl

asked_fits : (p : Program) (plan : Plan) (t : ℕ) (s : Proc) (k : Kind) (o : Option ℕ) (asked : Asked Deed) → Others k asked → Fits k (need_by_entry p plan t s o asked)
asked_fits p plan t s k (Some b) asked h e = absurd (true≢false (sym e))
asked_fits p plan t s k None (Ok q) h e = deed_takes p plan t s q.0 ∙ h
asked_fits p plan t s k None (Err (Wants c)) h e = absurd (true≢false (sym e))
asked_fits p plan t s k None (Err (Traps x)) h e = sym h

-- only a send has an offer
offer_fits : (p : Program) (plan : Plan) (t : Todo) (o : Option ℕ) → offer_of p t ≡ o → (m : Need) → Fits (kind_of p t.stmt) m → Fits (kind_of p t.stmt) (need_by_offer plan t.stmt o m)
offer_fits p plan t None is m h e = h e
offer_fits p plan t (Some c) is m h e = by t.offered (kind_of p t.stmt) is
  where
    by : (b : Bool) (k : Kind) → (if b then chan_of k else None) ≡ Some c → false ≡ is_take k
    by false k f = absurd (none-some c f)
    by true (kind.P x) f = absurd (none-some c f)
    by true k f = refl

budget_fits : (k : Kind) (b : Bool) (m : Need) → Fits k m → Fits k (if b then need.Budget else m)
budget_fits k true m h e = absurd (true≢false (sym e))
budget_fits k false m h e = h e

status_fits : (p : Program) (plan : Plan) (s : Proc) (o : Option Status) (t : Todo) (ts : List Todo) → s.todo ≡ t ∷ ts → Fits (kind_of p t.stmt) (need_by_status p plan o s)
status_fits p plan s (Some x) t ts is = λ e. absurd (true≢false (sym e))
status_fits p plan s None t ts is =
    subst (λ todo. Fits (kind_of p t.stmt) (need_of_running p plan todo s)) (sym is)
    (budget_fits (kind_of p t.stmt) (nat_lt s.budget (s.spent + cost plan (need_of_head p plan t s))) (need_of_head p plan t s)
    (offer_fits p plan t (offer_of p t) refl (need_by_entry p plan t.stmt s (entry_of p plan t) (head_deed p t s))
    (asked_fits p plan t.stmt s (kind_of p t.stmt) (entry_of p plan t) (head_deed p t s) (others p.exprs (kind_of p t.stmt) (top_frame s.frames).cells s.answers))))

pub takes_is : (p : Program) (plan : Plan) (s : Proc) (t : Todo) (ts : List Todo) → s.todo ≡ t ∷ ts → is_event (need_of p plan s) ≡ true → takes (need_of p plan s) ≡ is_take (kind_of p t.stmt)
takes_is p plan s t ts is e = status_fits p plan s s.status t ts is e
