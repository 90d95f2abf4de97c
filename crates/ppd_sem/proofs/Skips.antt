-- A process state past a block that was not run is one of the program.
use Rattle.std.proofs.Common.{◌≡◌, ◌≢◌, ℕ, ◌+◌, ◌≤◌, ℤ, Bool, true, false, nat_lt, List, [], ◌∷◌, drop, Option, Some, None, Ok, Err, refl, ap, sym, subst, if◌then◌else◌}
use Rattle.std.specs.Prelude.{slice_get}
use Rattle.ppd_ast.specs.declared.plan.Plan.{Plan}
use Rattle.ppd_ast.specs.declared.program.Kind.{Kind}
use Rattle.ppd_ast.specs.declared.program.Kind.TheVariants as kind
use Rattle.ppd_ast.specs.declared.program.Program.{Program}
use Rattle.ppd_ast.specs.declared.status.Status.{Status}
use Rattle.ppd_ast.specs.Term.{term}
use Rattle.ppd_ast.specs.Lookups.{kind_of}
use Rattle.ppd_sem.specs.declared.asking.Pause.TheVariants.{Wants, Traps}
use Rattle.ppd_sem.specs.declared.proc.Frame.{Frame}
use Rattle.ppd_sem.specs.declared.proc.Need.{Need}
use Rattle.ppd_sem.specs.declared.proc.Need.TheVariants as need
use Rattle.ppd_sem.specs.declared.proc.Proc.{Proc}
use Rattle.ppd_sem.specs.declared.proc.Todo.{Todo}
use Rattle.ppd_sem.specs.Ask.{ask}
use Rattle.ppd_sem.specs.Asked.{Asked, and_then, gives}
use Rattle.ppd_sem.specs.Blocks.{frames_past, head_stmt, postlog_cells, skipped}
use Rattle.ppd_sem.specs.Deed.{Deed, back, ask_deed}
use Rattle.ppd_sem.specs.Entries.{Begins}
use Rattle.ppd_sem.specs.Process.{chan_of, cost, into_of, loop_of, need_of, need_of_asked, need_of_head, within_budget, on_top, top_frame, with_values}
use Rattle.ppd_sem.proofs.NeedWords.{need_by_entry, need_by_offer}
use Rattle.ppd_sem.specs.Runs.{AreOver, IsRunning, returns, sizes}
use Rattle.ppd_sem.proofs.Begun.{length-with_values}
use Rattle.ppd_sem.proofs.Kept.{Shape, paid_runs, sized, sizes-receive, stays}
use Rattle.ppd_sem.proofs.Paid.{need-paid}
use Rattle.ppd_sem.proofs.Progress.{need_at_status, need_at_todo}

-- ---- the head begins a block only where it returns nothing

-- the head's need, by the kind of its statement
abbrev by_kind : Program → Plan → Todo → Proc → Kind → Need
by_kind p plan t s k = need_by_offer plan t.stmt (if t.offered then chan_of k else None) (need_by_entry p plan t.stmt s (if t.entered then None else loop_of plan t.stmt k) (ask_deed p.exprs k (top_frame s.frames).cells s.answers))

none_begins : (p : Program) (plan : Plan) (t : ℕ) (s : Proc) (o e : Bool) (asked : Asked Deed) → (Begins (need_of_asked p plan t s asked) → ⊥) → Begins (need_by_offer plan t (if o then None else None) (need_by_entry p plan t s (if e then None else None) asked)) → ⊥
none_begins p plan t s true true asked h g = h g
none_begins p plan t s true false asked h g = h g
none_begins p plan t s false true asked h g = h g
none_begins p plan t s false false asked h g = h g

returned_begins : (p : Program) (plan : Plan) (t : ℕ) (s : Proc) (r : Asked ℤ) → Begins (need_of_asked p plan t s (and_then r (λ v left. gives left (back (Some v))))) → ⊥
returned_begins p plan t s (Ok q) h = h
returned_begins p plan t s (Err (Wants c)) h = h
returned_begins p plan t s (Err (Traps x)) h = h

stays_by : (p : Program) (plan : Plan) (t : Todo) (s : Proc) (k : Kind) → Begins (by_kind p plan t s k) → returns k ≡ false
stays_by p plan t s (kind.Return None) h = absurd (none_begins p plan t.stmt s t.offered t.entered (ask_deed p.exprs (kind.Return None) (top_frame s.frames).cells s.answers) (λ g. g) h)
stays_by p plan t s (kind.Return (Some e)) h =
    absurd (none_begins p plan t.stmt s t.offered t.entered (ask_deed p.exprs (kind.Return (Some e)) (top_frame s.frames).cells s.answers)
    (returned_begins p plan t.stmt s (ask (term p.exprs e) (top_frame s.frames).cells s.answers)) h)
stays_by p plan t s (kind.Set x e) h = refl
stays_by p plan t s (kind.Zero base len) h = refl
stays_by p plan t s (kind.If e first second) h = refl
stays_by p plan t s (kind.While e body) h = refl
stays_by p plan t s (kind.Call f arguments into) h = refl
stays_by p plan t s (kind.P x) h = refl
stays_by p plan t s (kind.V x) h = refl
stays_by p plan t s (kind.Send c e) h = refl
stays_by p plan t s (kind.Recv c into) h = refl
stays_by p plan t s (kind.Print e) h = refl
stays_by p plan t s (kind.Assert e) h = refl
stays_by p plan t s kind.End h = refl

-- a need to begin is that of the head, which can be paid for
afforded : (poor : Bool) (n : Need) → Begins (if poor then need.Budget else n) → Begins n
afforded true n h = absurd h
afforded false n h = h

pub begins_stays : (p : Program) (plan : Plan) (t : Todo) (ts : List Todo) (s : Proc) → s.status ≡ None → s.todo ≡ t ∷ ts → Begins (need_of p plan s) → returns (kind_of p t.stmt) ≡ false
begins_stays p plan t ts s r d h =
    let head : Begins (within_budget plan s (need_of_head p plan t s)) = subst Begins (need_at_todo p plan s (t ∷ ts) r d) h in
    stays_by p plan t s (kind_of p t.stmt) (afforded (nat_lt s.budget (s.spent + cost plan (need_of_head p plan t s))) (need_of_head p plan t s) head)

-- ---- frames

sizes-write_all : (cs : List ℕ) (vs : List ℤ) (frames : List Frame) → sizes (on_top (with_values cs vs) frames) ≡ sizes frames
sizes-write_all cs vs [] = refl
sizes-write_all cs vs (f ∷ fs) = ap (λ (n : ℕ). n ∷ sizes fs) (length-with_values cs vs f.cells)

-- ---- past a block

-- what is left to do runs over frames of the same sizes
past : (p : Program) (frames : List Frame) (ns : List ℕ) (t : Todo) (ts : List Todo) → sizes frames ≡ ns → returns (kind_of p t.stmt) ≡ false → Shape p ns (t ∷ ts) → Shape p (sizes frames) ts
past p frames [] t ts e r h = absurd h.todo
past p frames (n ∷ ns) t ts e r h = sized p (n ∷ ns) (sizes frames) ts e (stays p n ns t ts r h)

past_frames : (p : Program) (plan : Plan) (values : List ℤ) (n : Need) (s : Proc) → Begins n → sizes (frames_past p plan values n s) ≡ sizes s.frames
past_frames p plan values (need.Enter b u) s h = sizes-write_all (postlog_cells plan b) values s.frames
past_frames p plan values (need.Invoke b u) s h = sizes-receive (into_of (kind_of p (head_stmt s.todo))) (slice_get values 0) s.frames
past_frames p plan values n s h = absurd h

begins_runs : (n : Need) → Begins n → n ≢ need.Stopped
begins_runs (need.Enter b u) h e = cc
begins_runs (need.Invoke b u) h e = cc
begins_runs n h e = h

begins_paid : (n : Need) → Begins n → n ≢ need.Budget
begins_paid (need.Enter b u) h e = cc
begins_paid (need.Invoke b u) h e = cc
begins_paid n h e = h

-- a step that begins a block can be paid for
pub begins_afforded : (p : Program) (plan : Plan) (s : Proc) → Begins (need_of p plan s) → s.spent + cost plan (need_of p plan s) ≤ s.budget
begins_afforded p plan s h = need-paid p plan s (need_of p plan s) refl (begins_runs (need_of p plan s) h) (begins_paid (need_of p plan s) h)

pub skipped_runs : (p : Program) (plan : Plan) (values : List ℤ) (s : Proc) → IsRunning p s → Begins (need_of p plan s) → IsRunning p (skipped p plan values s)
skipped_runs p plan values s run h = by s.status s.todo refl refl
  where
    n : Need
    n = need_of p plan s

    by : (o : Option Status) (ts : List Todo) → s.status ≡ o → s.todo ≡ ts → IsRunning p (skipped p plan values s)
    by (Some x) ts r d = absurd (subst Begins (need_at_status p plan s (Some x) r) h)
    by None [] r d = absurd (subst Begins (need_at_todo p plan s [] r d) h)
    by None (t ∷ ts) r d =
        let still : returns (kind_of p t.stmt) ≡ false = begins_stays p plan t ts s r d h in
        let same : sizes (frames_past p plan values n s) ≡ sizes s.frames = past_frames p plan values n s h in
        let whole : Shape p (sizes s.frames) (t ∷ ts) = record { todo = subst (λ (l : List Todo). AreOver p (sizes s.frames) l) d run.todo; sizes = run.frames } in
        let shape : Shape p (sizes (frames_past p plan values n s)) ts = past p (frames_past p plan values n s) (sizes s.frames) t ts same still whole in
        let todo : drop 1 s.todo ≡ ts = ap (drop 1) d in
        let over : Shape p (sizes (frames_past p plan values n s)) (drop 1 s.todo) = subst (λ (l : List Todo). Shape p (sizes (frames_past p plan values n s)) l) (sym todo) shape in
        paid_runs p plan n s (record s { frames = frames_past p plan values n s; todo = drop 1 s.todo; answers = [] }) run record { budget = refl; spent = refl; steps = refl; below = refl } over (begins_afforded p plan s h)
