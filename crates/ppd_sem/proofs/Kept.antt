-- A step leaves a process state of the program.
use Rattle.std.proofs.Common.{◌≡◌, ℕ, zero, suc, ◌+◌, ◌-◌, ◌<◌, ◌≤◌, ◌^◌, ℤ, pos, Bool, true, false, nat_lt, List, [], ◌∷◌, ◌++◌, length, Option, Some, None, Result, Ok, Err, refl, ap, sym, ◌∙◌, subst, arith, if◌then◌else◌}
use Rattle.std.specs.Prelude.{OnOk, OnErr, replicate, slice_get, slice_set, unwrap_or}
use Rattle.std.specs.List.{All, range_with_len}
use Rattle.std.proofs.lemmas.Bool.Decides.{nat_tests}
use Rattle.std.proofs.lemmas.List.{length-set, length-append, length-replicate}
use Rattle.ppd_ast.specs.Table.{EachAt}
use Rattle.ppd_ast.specs.declared.plan.Plan.{Plan}
use Rattle.ppd_ast.specs.declared.program.Body.{Body}
use Rattle.ppd_ast.specs.declared.program.Kind.{Kind}
use Rattle.ppd_ast.specs.declared.program.Program.{Program}
use Rattle.ppd_ast.specs.declared.status.Status.{Status}
use Rattle.ppd_ast.specs.declared.status.Status.TheVariants as status
use Rattle.ppd_ast.specs.Lookups.{kind_of, body_numbered, no_body}
use Rattle.ppd_ast.proofs.Vocabulary.{kind_of_stmt}
use Rattle.ppd_ast.specs.declared.limits.TheConstants.{MOST_CALLS}
use Rattle.ppd_sem.specs.declared.asking.Pause.TheVariants.{Wants, Traps}
use Rattle.ppd_sem.specs.declared.proc.Answer.{Answer}
use Rattle.ppd_sem.specs.declared.proc.Frame.{Frame}
use Rattle.ppd_sem.specs.declared.proc.Need.{Need}
use Rattle.ppd_sem.specs.declared.proc.Need.TheVariants.{Read, Write, Plain, Enter, Leave, Invoke, Back, P, V, Send, Offer, Done, Recv, End, Trap, Budget, Stopped}
use Rattle.ppd_sem.specs.declared.proc.Proc.{Proc}
use Rattle.ppd_sem.specs.declared.proc.Todo.{Todo}
use Rattle.ppd_sem.specs.Asked.{Asked}
use Rattle.ppd_sem.specs.Deed.{Deed, set_local, set_shared, clear, branch, turn, leave, invoke, back, take, give, send, receive, print, pass, finish, ask_deed}
use Rattle.ppd_sem.specs.Process.{act, act_by_asked, act_by_deed, act_by_need, charged, cost, head_deed, into_of, need_of, need_of_head, receive_at, returned, todos, within_budget, on_top, top_frame, into_at, with_values}
use Rattle.ppd_sem.proofs.NeedWords.{act_at, cells_for}
use Rattle.ppd_sem.specs.Runs.{AreOfFunction, AreOver, IsCallable, IsInner, RunsOver, IsRunnable, IsRunnableStmt, IsRunning, LeadsOn, left_by, returns, size_of, sizes, stmt_size}
use Rattle.ppd_sem.proofs.Offers.{CompletesSend, head_completes, send_stays}
use Rattle.ppd_sem.proofs.Progress.{SamePurse, asked_purse, need_at_status, need_at_todo, stays_at}
use Rattle.ppd_sem.proofs.OfKind.{IsDeedOf, OfAsked, asked_holds, goes_first, goes_second, invokes, goes_round}

-- ---- what a statement's deed is

abbrev DeedFits : Program → ℕ → Kind → Deed → Type 0
DeedFits p n k (branch stmts) = (returns k ≡ false) × All (IsInner p n) stmts
DeedFits p n k (turn stmts) = (returns k ≡ false) × All (IsInner p n) stmts
DeedFits p n k (invoke f values into) = (returns k ≡ false) × IsCallable p f (length values)
DeedFits p n k (back value) = returns k ≡ true
DeedFits p n k d = returns k ≡ false

deed_fits : (p : Program) (n : ℕ) (k : Kind) (d : Deed) → IsDeedOf k d → LeadsOn p n k → DeedFits p n k d
deed_fits p n k d goes_first h = (refl, h.0)
deed_fits p n k d goes_second h = (refl, h.1)
deed_fits p n k d goes_round h = (refl, h)
deed_fits p n k d (invokes {f = f} values count) h = (refl, subst (λ (m : ℕ). IsCallable p f m) (sym count) h)
deed_fits p n k d is h = refl

-- ---- the program's tables

-- the element with this number, and what holds of it
abbrev pub There : {X : Type 0} → (ℕ → X → Type 0) → List X → ℕ → Type 0
There {X} Q xs i = (x : X) × (slice_get xs i ≡ Some x) × Q i x

pub there_at : {X : Type 0} (Q : ℕ → X → Type 0) (xs : List X) (i : ℕ) → EachAt Q xs → i < length xs → There Q xs i
there_at Q [] i h lt = absurd (omega arith)
there_at Q (x ∷ xs) zero h lt = (x, refl, h 0 x (omega arith))
there_at Q (x ∷ xs) (suc i) h lt = there_at (λ j. Q (suc j)) xs i (λ k d b. h (suc k) d (omega arith)) (omega arith)

pub leads_at : (p : Program) (n s : ℕ) → IsRunnable p → RunsOver p n s → LeadsOn p n (kind_of p s)
leads_at p n s h over =
    let found : There (λ _ x. IsRunnableStmt p x) p.stmts s = there_at (λ _ x. IsRunnableStmt p x) p.stmts s h.stmts over.there in
    let size : size_of p found.0.body ≡ n = sym (ap (stmt_size p) found.1) ∙ over.size in
    let kind : found.0.kind ≡ kind_of p s = sym (ap kind_of_stmt found.1) in
    subst (λ (m : ℕ). LeadsOn p m (kind_of p s)) size (subst (λ (k : Kind). LeadsOn p (size_of p found.0.body) k) kind found.2.leads)

body_small : (bodies : List Body) (i : ℕ) → EachAt (λ _ b. b.cells < 2 ^ 16) bodies → (unwrap_or (slice_get bodies i) no_body).cells < 2 ^ 16
body_small [] i h = omega arith
body_small (b ∷ bs) zero h = h 0 b (omega arith)
body_small (b ∷ bs) (suc i) h = body_small bs i (λ k d lt. h (suc k) d (omega arith))

pub size_small : (p : Program) (f : ℕ) → IsRunnable p → size_of p f < 2 ^ 16
size_small p f h = body_small p.bodies f (λ k d lt. (h.bodies k d lt).cells)

-- ---- frames and what is to do over them

pub record Shape (p : Program) (ns : List ℕ) (ts : List Todo) : Type 0 where
  pub todo : AreOver p ns ts
  pub sizes : All (λ n. n < 2 ^ 16) ns

pub sized : (p : Program) (ms ns : List ℕ) (ts : List Todo) → ns ≡ ms → Shape p ms ts → Shape p ns ts
sized p ms ns ts e h = subst (λ (l : List ℕ). Shape p l ts) (sym e) h

sizes-write : (c : ℕ) (v : ℤ) (frames : List Frame) → sizes (on_top (λ cells. slice_set cells c v) frames) ≡ sizes frames
sizes-write c v [] = refl
sizes-write c v (f ∷ fs) = ap (λ n. n ∷ sizes fs) (length-set f.cells c v)

pub length-clear : (base len : ℕ) (cells : List ℤ) → length (with_values (range_with_len base len) (replicate len (pos 0)) cells) ≡ length cells
length-clear base zero cells = refl
length-clear base (suc n) cells = length-clear (base + 1) n (slice_set cells base (pos 0)) ∙ length-set cells base (pos 0)

sizes-clear : (base len : ℕ) (frames : List Frame) → sizes (on_top (with_values (range_with_len base len) (replicate len (pos 0))) frames) ≡ sizes frames
sizes-clear base len [] = refl
sizes-clear base len (f ∷ fs) = ap (λ n. n ∷ sizes fs) (length-clear base len f.cells)

pub sizes-receive : (into : Option ℕ) (value : Option ℤ) (frames : List Frame) → sizes (receive_at into value frames) ≡ sizes frames
sizes-receive None value frames = refl
sizes-receive (Some c) None frames = refl
sizes-receive (Some c) (Some v) frames = sizes-write c v frames

sizes-returned : (p : Program) (call : Option ℕ) (value : Option ℤ) (frames : List Frame) → sizes (receive_at (into_at p call) value frames) ≡ sizes frames
sizes-returned p None value frames = refl
sizes-returned p (Some c) value frames = sizes-receive (into_of (kind_of p c)) value frames

pub cells_count : (o : Option Body) (values : List ℤ) → length values ≤ (unwrap_or o no_body).cells → length (cells_for o values) ≡ (unwrap_or o no_body).cells
cells_count None values h = omega arith
cells_count (Some b) values h =
    let n : ℕ = b.cells - length values in
    omega (arith, length-append values (replicate n (pos 0)), length-replicate n (pos 0))

pub inner_over : (p : Program) (n : ℕ) (ns : List ℕ) (ss : List ℕ) (ts : List Todo) → All (IsInner p n) ss → AreOver p (n ∷ ns) ts → AreOver p (n ∷ ns) (todos ss ++ ts)
inner_over p n ns [] ts h over = over
inner_over p n ns (s ∷ ss) ts h over =
    let inner : IsInner p n s = h 0 s (omega arith) in
    let rest : AreOver p (n ∷ ns) (todos ss ++ ts) = inner_over p n ns ss ts (λ k d b. h (suc k) d (omega arith)) over in
    (inner.over, subst (λ (b : Bool). AreOver p (left_by b n ns) (todos ss ++ ts)) (sym inner.stays) rest)

pub function_over : (p : Program) (n : ℕ) (ns : List ℕ) (ss : List ℕ) (ts : List Todo) → AreOfFunction p n ss → AreOver p ns ts → AreOver p (n ∷ ns) (todos ss ++ ts)
function_over p n ns [] ts h over = absurd h
function_over p n ns (s ∷ []) ts h over = (h.0, subst (λ (b : Bool). AreOver p (left_by b n ns) ts) (sym h.1) over)
function_over p n ns (s ∷ t ∷ ss) ts h over =
    let rest : AreOver p (n ∷ ns) (todos (t ∷ ss) ++ ts) = function_over p n ns (t ∷ ss) ts h.1 over in
    (h.0.over, subst (λ (b : Bool). AreOver p (left_by b n ns) (todos (t ∷ ss) ++ ts)) (sym h.0.stays) rest)

-- the head statement runs over the top frame of n cells, which stays unless it returns
left : (p : Program) (n : ℕ) (ns : List ℕ) (t : Todo) (ts : List Todo) (b : Bool) → returns (kind_of p t.stmt) ≡ b → Shape p (n ∷ ns) (t ∷ ts) → AreOver p (left_by b n ns) ts
left p n ns t ts b e h = subst (λ (x : Bool). AreOver p (left_by x n ns) ts) e h.todo.1

pub stays : (p : Program) (n : ℕ) (ns : List ℕ) (t : Todo) (ts : List Todo) → returns (kind_of p t.stmt) ≡ false → Shape p (n ∷ ns) (t ∷ ts) → Shape p (n ∷ ns) ts
stays p n ns t ts e h = record { todo = left p n ns t ts false e h; sizes = h.sizes }

deed_shape : (p : Program) (a : Answer) (t : Todo) (ts : List Todo) (d : Deed) (s : Proc) (f : Frame) (fs : List Frame) → IsRunnable p → s.frames ≡ f ∷ fs → DeedFits p (length f.cells) (kind_of p t.stmt) d → Shape p (sizes s.frames) (t ∷ ts)
    → Shape p (sizes (act_by_deed p a t ts d s).frames) (act_by_deed p a t ts d s).todo
deed_shape p a t ts d s f fs run e h shape = by d h
  where
    whole : Shape p (sizes (f ∷ fs)) (t ∷ ts)
    whole = sized p (sizes s.frames) (sizes (f ∷ fs)) (t ∷ ts) (sym (ap sizes e)) shape

    same : returns (kind_of p t.stmt) ≡ false → Shape p (sizes s.frames) ts
    same still = sized p (sizes (f ∷ fs)) (sizes s.frames) ts (ap sizes e) (stays p (length f.cells) (sizes fs) t ts still whole)

    by : (d : Deed) → DeedFits p (length f.cells) (kind_of p t.stmt) d → Shape p (sizes (act_by_deed p a t ts d s).frames) (act_by_deed p a t ts d s).todo
    by (set_local c v) h = sized p (sizes s.frames) (sizes (on_top (λ cells. slice_set cells c v) s.frames)) ts (sizes-write c v s.frames) (same h)
    by (set_shared c v) h = same h
    by (clear base len) h = sized p (sizes s.frames) (sizes (on_top (with_values (range_with_len base len) (replicate len (pos 0))) s.frames)) ts (sizes-clear base len s.frames) (same h)
    by (branch stmts) h =
        let after : Shape p (sizes (f ∷ fs)) ts = stays p (length f.cells) (sizes fs) t ts h.0 whole in
        let over : AreOver p (sizes (f ∷ fs)) (todos stmts ++ ts) = inner_over p (length f.cells) (sizes fs) stmts ts h.1 after.todo in
        sized p (sizes (f ∷ fs)) (sizes s.frames) (todos stmts ++ ts) (ap sizes e) record { todo = over; sizes = whole.sizes }
    by (turn stmts) h =
        let over : AreOver p (sizes (f ∷ fs)) (todos stmts ++ t ∷ ts) = inner_over p (length f.cells) (sizes fs) stmts (t ∷ ts) h.1 whole.todo in
        sized p (sizes (f ∷ fs)) (sizes s.frames) (todos stmts ++ t ∷ ts) (ap sizes e) record { todo = over; sizes = whole.sizes }
    by leave h = same h
    by (invoke g values into) h =
        let after : Shape p (sizes s.frames) ts = same h.0 in
        let count : length (cells_for (slice_get p.bodies g) values) ≡ size_of p g = cells_count (slice_get p.bodies g) values h.1.arguments in
        let stmts : List ℕ = (body_numbered p g).top in
        let over : AreOver p (size_of p g ∷ sizes s.frames) (todos stmts ++ ts) = function_over p (size_of p g) (sizes s.frames) stmts ts h.1.top after.todo in
        let small : All (λ n. n < 2 ^ 16) (size_of p g ∷ sizes s.frames) = small_cons (size_of p g) (sizes s.frames) (size_small p g run) after.sizes in
        sized p (size_of p g ∷ sizes s.frames) (length (cells_for (slice_get p.bodies g) values) ∷ sizes s.frames) (todos stmts ++ ts) (ap (λ n. n ∷ sizes s.frames) count) record { todo = over; sizes = small }
      where
        small_cons : (n : ℕ) (ns : List ℕ) → n < 2 ^ 16 → All (λ n. n < 2 ^ 16) ns → All (λ n. n < 2 ^ 16) (n ∷ ns)
        small_cons n ns lt h zero d b = lt
        small_cons n ns lt h (suc k) d b = h k d (omega arith)
    by (back value) h =
        let over : AreOver p (sizes fs) ts = left p (length f.cells) (sizes fs) t ts true h whole in
        let small : All (λ n. n < 2 ^ 16) (sizes fs) = λ k d b. whole.sizes (suc k) d (omega arith) in
        let is : sizes (returned p value s.frames) ≡ sizes fs = ap (λ l. sizes (returned p value l)) e ∙ sizes-returned p f.call value fs in
        sized p (sizes fs) (sizes (returned p value s.frames)) ts is record { todo = over; sizes = small }
    by (take sem) h = same h
    by (give sem) h = same h
    by (send chan v) h = same h
    by (receive chan c) h = sized p (sizes s.frames) (sizes (on_top (λ cells. slice_set cells c _) s.frames)) ts (sizes-write c _ s.frames) (same h)
    by (print v) h = same h
    by pass h = same h
    by finish h = same h

-- ---- the step

asked_shape : (p : Program) (a : Answer) (t : Todo) (ts : List Todo) (asked : Asked Deed) (s : Proc) (f : Frame) (fs : List Frame) → IsRunnable p → s.frames ≡ f ∷ fs → s.todo ≡ t ∷ ts → OfAsked (DeedFits p (length f.cells) (kind_of p t.stmt)) asked → Shape p (sizes s.frames) (t ∷ ts)
    → Shape p (sizes (act_by_asked p a t ts asked s).frames) (act_by_asked p a t ts asked s).todo
asked_shape p a t ts (Ok q) s f fs run e d h shape = deed_shape p a t ts q.0 (record s { answers = [] }) f fs run e h shape
asked_shape p a t ts (Err (Wants c)) s f fs run e d h shape = subst (λ (l : List Todo). Shape p (sizes s.frames) l) (sym d) shape
asked_shape p a t ts (Err (Traps x)) s f fs run e d h shape = subst (λ (l : List Todo). Shape p (sizes s.frames) l) (sym d) shape

head_shape : (p : Program) (a : Answer) (t : Todo) (ts : List Todo) (s : Proc) (frames : List Frame) → IsRunnable p → s.frames ≡ frames → s.todo ≡ t ∷ ts → Shape p (sizes frames) (t ∷ ts)
    → Shape p (sizes (act_by_asked p a t ts (head_deed p t s) s).frames) (act_by_asked p a t ts (head_deed p t s) s).todo
head_shape p a t ts s [] run e d shape = absurd shape.todo
head_shape p a t ts s (f ∷ fs) run e d shape =
    let k : Kind = kind_of p t.stmt in
    let leads : LeadsOn p (length f.cells) k = leads_at p (length f.cells) t.stmt run shape.todo.0 in
    let fit : OfAsked (DeedFits p (length f.cells) k) (ask_deed p.exprs k (top_frame s.frames).cells s.answers) =
    asked_holds p.exprs (top_frame s.frames).cells s.answers (DeedFits p (length f.cells) k) k
    (λ d is. deed_fits p (length f.cells) k d is leads) in
    asked_shape p a t ts (head_deed p t s) s f fs run e d fit (sized p (sizes (f ∷ fs)) (sizes s.frames) (t ∷ ts) (ap sizes e) shape)

pub paid_runs : (p : Program) (plan : Plan) (n : Need) (s t : Proc) → IsRunning p s → SamePurse s t → Shape p (sizes t.frames) t.todo → s.spent + cost plan n ≤ s.budget → IsRunning p (charged plan n t)
paid_runs p plan n s t run same shape paid =
    let budget : t.budget ≡ s.budget = same.budget in
    let spent : t.spent ≡ s.spent = same.spent in
    let steps : t.steps ≡ s.steps = same.steps in
    let below : t.below ≡ s.below = same.below in
    let before : s.steps ≤ s.spent = run.steps in
    let most : s.below ≤ MOST_CALLS = run.below in
    record { todo = shape.todo; frames = shape.sizes; below = omega arith; steps = omega arith; spent = omega arith }

asked_runs : (p : Program) (plan : Plan) (a : Answer) (t : Todo) (ts : List Todo) (n : Need) (s : Proc) → IsRunnable p → IsRunning p s → s.todo ≡ t ∷ ts → s.spent + cost plan n ≤ s.budget → IsRunning p (charged plan n (act_by_asked p a t ts (head_deed p t s) s))
asked_runs p plan a t ts n s prog run d paid =
    let whole : Shape p (sizes s.frames) (t ∷ ts) = record { todo = subst (λ (l : List Todo). AreOver p (sizes s.frames) l) d run.todo; sizes = run.frames } in
    paid_runs p plan n s (act_by_asked p a t ts (head_deed p t s) s) run (asked_purse p a t ts (head_deed p t s) s) (head_shape p a t ts s s.frames prog refl d whole) paid

need_runs : (p : Program) (plan : Plan) (a : Answer) (t : Todo) (ts : List Todo) (n : Need) (s : Proc) → CompletesSend p t.stmt n → IsRunnable p → IsRunning p s → s.todo ≡ t ∷ ts → s.spent + cost plan n ≤ s.budget → IsRunning p (act_by_need p plan a t ts n s)
need_runs p plan a t ts (Read c) s is prog run d h = asked_runs p plan a t ts (Read c) s prog run d h
need_runs p plan a t ts (Write c v) s is prog run d h = asked_runs p plan a t ts (Write c v) s prog run d h
need_runs p plan a t ts Plain s is prog run d h = asked_runs p plan a t ts Plain s prog run d h
need_runs p plan a t ts (Enter b u) s is prog run d h =
    let over : AreOver p (sizes s.frames) (t ∷ ts) = subst (λ (l : List Todo). AreOver p (sizes s.frames) l) d run.todo in
    let entered : Shape p (sizes s.frames) (record t { entered = true } ∷ ts) = record { todo = entered_over (sizes s.frames) over; sizes = run.frames } in
    paid_runs p plan (Enter b u) s (record s { todo = record t { entered = true } ∷ ts }) run record { budget = refl; spent = refl; steps = refl; below = refl } entered h
  where
    entered_over : (ns : List ℕ) → AreOver p ns (t ∷ ts) → AreOver p ns (record t { entered = true } ∷ ts)
    entered_over [] h = h
    entered_over (n ∷ ns) h = h
need_runs p plan a t ts (Leave b u) s is prog run d h = asked_runs p plan a t ts (Leave b u) s prog run d h
need_runs p plan a t ts (Invoke b u) s is prog run d h = asked_runs p plan a t ts (Invoke b u) s prog run d h
need_runs p plan a t ts (Back b u) s is prog run d h = asked_runs p plan a t ts (Back b u) s prog run d h
need_runs p plan a t ts (P x u) s is prog run d h = asked_runs p plan a t ts (P x u) s prog run d h
need_runs p plan a t ts (V x u) s is prog run d h = asked_runs p plan a t ts (V x u) s prog run d h
need_runs p plan a t ts (Send c v u) s is prog run d h = asked_runs p plan a t ts (Send c v u) s prog run d h
need_runs p plan a t ts (Offer c v) s is prog run d h =
    let over : AreOver p (sizes s.frames) (t ∷ ts) = subst (λ (l : List Todo). AreOver p (sizes s.frames) l) d run.todo in
    let offered : Shape p (sizes s.frames) (record t { offered = true } ∷ ts) = record { todo = offered_over (sizes s.frames) over; sizes = run.frames } in
    paid_runs p plan (Offer c v) s (record s { todo = record t { offered = true } ∷ ts; answers = [] }) run record { budget = refl; spent = refl; steps = refl; below = refl } offered h
  where
    offered_over : (ns : List ℕ) → AreOver p ns (t ∷ ts) → AreOver p ns (record t { offered = true } ∷ ts)
    offered_over [] h = h
    offered_over (n ∷ ns) h = h
need_runs p plan a t ts (Done c u) s is prog run d h =
    let over : AreOver p (sizes s.frames) (t ∷ ts) = subst (λ (l : List Todo). AreOver p (sizes s.frames) l) d run.todo in
    let after : Shape p (sizes s.frames) ts = record { todo = past_over (sizes s.frames) (send_stays (kind_of p t.stmt) c is) over; sizes = run.frames } in
    paid_runs p plan (Done c u) s (record s { todo = ts; answers = [] }) run record { budget = refl; spent = refl; steps = refl; below = refl } after h
  where
    past_over : (ns : List ℕ) → returns (kind_of p t.stmt) ≡ false → AreOver p ns (t ∷ ts) → AreOver p ns ts
    past_over [] e h = absurd h
    past_over (n ∷ ns) e h = subst (λ (x : Bool). AreOver p (left_by x n ns) ts) e h.1
need_runs p plan a t ts (Recv c u) s is prog run d h = asked_runs p plan a t ts (Recv c u) s prog run d h
need_runs p plan a t ts (End b) s is prog run d h = asked_runs p plan a t ts (End b) s prog run d h
need_runs p plan a t ts (Trap x) s is prog run d h =
    paid_runs p plan (Trap x) s (record s { status = Some (status.Trap x) }) run record { budget = refl; spent = refl; steps = refl; below = refl } record { todo = run.todo; sizes = run.frames } h
need_runs p plan a t ts Budget s is prog run d h = record { todo = run.todo; frames = run.frames; below = run.below; steps = run.steps; spent = run.spent }
need_runs p plan a t ts Stopped s is prog run d h = run

by_budget : (p : Program) (plan : Plan) (a : Answer) (t : Todo) (ts : List Todo) (n : Need) (s : Proc) (poor : Bool) → nat_lt s.budget (s.spent + cost plan n) ≡ poor → CompletesSend p t.stmt n → IsRunnable p → IsRunning p s → s.todo ≡ t ∷ ts → IsRunning p (act_by_need p plan a t ts (if poor then Budget else n) s)
by_budget p plan a t ts n s true test is prog run d = record { todo = run.todo; frames = run.frames; below = run.below; steps = run.steps; spent = run.spent }
by_budget p plan a t ts n s false test is prog run d =
    let paid : s.spent + cost plan n ≤ s.budget = grind (arith, nat_tests) in
    need_runs p plan a t ts n s is prog run d paid

runs_at : (p : Program) (plan : Plan) (a : Answer) (s : Proc) (o : Option Status) (ts : List Todo) → s.status ≡ o → s.todo ≡ ts → IsRunnable p → IsRunning p s → IsRunning p (act_at p plan a ts s)
runs_at p plan a s (Some x) ts r d prog run = subst (λ (t : Proc). IsRunning p t) (sym (stays_at p plan a s ts (need_at_status p plan s (Some x) r))) run
runs_at p plan a s None [] r d prog run = run
runs_at p plan a s None (t ∷ ts) r d prog run =
    let head : Need = need_of_head p plan t s in
    let is : need_of p plan s ≡ within_budget plan s head = need_at_todo p plan s (t ∷ ts) r d in
    let runs : IsRunning p (act_by_need p plan a t ts (within_budget plan s head) s) = by_budget p plan a t ts head s (nat_lt s.budget (s.spent + cost plan head)) refl (head_completes p plan t s) prog run d in
    subst (λ (x : Need). IsRunning p (act_by_need p plan a t ts x s)) (sym is) runs

-- each step leaves a process state of the program
pub act-runs : (program : Program) (plan : Plan) (s : Proc) (a : Answer) → IsRunnable program → IsRunning program s → IsRunning program (act program plan s a)
act-runs program plan s a prog run = runs_at program plan a s s.status s.todo refl refl prog run

-- whether it is refused or not
pub kept_by : {A E : Type 0} (program : Program) (r : Result A E) (old now after : Proc) → OnOk r (now ≡ after) → OnErr r (now ≡ old) → IsRunning program old → IsRunning program after → IsRunning program now
kept_by program (Ok x) old now after ok err h g = subst (λ (s : Proc). IsRunning program s) (sym ok) g
kept_by program (Err x) old now after ok err h g = subst (λ (s : Proc). IsRunning program s) (sym err) h
