-- Each step of a process of a valid program is taken inside some interval.
use Rattle.std.proofs.Common.{◌≡◌, ℕ, zero, suc, ◌+◌, ◌<◌, ◌≤◌, ℤ, Bool, true, false, nat_lt, List, [], ◌∷◌, ◌++◌, length, Option, Some, None, Ok, Err, refl, ap, sym, subst, ◌∙◌, arith, if◌then◌else◌, true≢false}
use Rattle.std.specs.Prelude.{◌-◌, drop, nat_le, slice_get}
use Rattle.std.proofs.lemmas.Bool.Decides.{nat_tests}
use Rattle.std.proofs.lemmas.Option.{none-some, slice_get_within}
use Rattle.std.specs.Option.{option_map_or}
use Rattle.ppd_ast.specs.Numbered.{is_while}
use Rattle.ppd_ast.specs.Valid.{EndsBody, IsValid, IsValidBody, IsValidKind, IsValidStmt}
use Rattle.ppd_ast.specs.declared.plan.BlockKind.TheVariants as block
use Rattle.ppd_ast.specs.declared.plan.Plan.{Plan}
use Rattle.ppd_ast.specs.declared.plan.Start.TheVariants as start
use Rattle.ppd_ast.specs.declared.program.Body.{Body}
use Rattle.ppd_ast.specs.declared.program.Kind.{Kind}
use Rattle.ppd_ast.specs.declared.program.Kind.TheVariants as kind
use Rattle.ppd_ast.specs.declared.program.Program.{Program}
use Rattle.ppd_ast.specs.declared.program.Stmt.{Stmt}
use Rattle.ppd_ast.specs.declared.status.Status.{Status}
use Rattle.ppd_ast.specs.declared.status.Status.TheVariants as status
use Rattle.ppd_ast.specs.declared.status.Trap.TheVariants.{Depth}
use Rattle.ppd_ast.specs.Lookups.{kind_of, body_of, body_numbered}
use Rattle.ppd_ast.proofs.Vocabulary.{kind_of_stmt}
use Rattle.ppd_ast.proofs.ValidLaws.{some_and}
use Rattle.ppd_ast.specs.Counting.{one_if}
use Rattle.ppd_ast.specs.declared.limits.TheConstants.{MOST_CALLS}
use Rattle.ppd_sem.specs.declared.asking.Pause.TheVariants.{Wants, Traps}
use Rattle.ppd_sem.specs.declared.proc.Answer.{Answer}
use Rattle.ppd_sem.specs.declared.proc.Frame.{Frame}
use Rattle.ppd_sem.specs.declared.proc.Need.{Need}
use Rattle.ppd_sem.specs.declared.proc.Need.TheVariants as need
use Rattle.ppd_sem.specs.declared.proc.Proc.{Proc}
use Rattle.ppd_sem.specs.declared.proc.Todo.{Todo}
use Rattle.ppd_sem.specs.Asked.{Asked}
use Rattle.ppd_sem.specs.Deed.{Deed, set_local, set_shared, clear, branch, turn, leave, invoke, back, take, give, send, receive, print, pass, finish}
use Rattle.ppd_sem.specs.Process.{act, act_by_asked, act_by_deed, act_by_need, call_unit, cost, entry_of, head_deed, loop_of, need_of, need_of_asked, need_of_deed, need_of_head, need_of_leaving, need_of_send, offer_of, started, todos, value_of, top_frame}
use Rattle.ppd_sem.proofs.NeedWords.{act_at, need_by_entry, need_by_offer, need_of_running}
use Rattle.ppd_sem.specs.Runs.{returns, bodies_in}
use Rattle.ppd_sem.specs.Tables.{block_of, capacity_of, unit_of}
use Rattle.ppd_sem.proofs.TableWords.{or_zero}
use Rattle.ppd_sem.proofs.Kept.{There, there_at}
use Rattle.ppd_sem.proofs.Progress.{act-stopped, need_at_status, need_at_todo}
use Rattle.ppd_model.proofs.Changes.{some}
use Rattle.ppd_model.proofs.Deeds.{AskedOf, DeedOf, asked_of}
use Rattle.ppd_model.proofs.Homes.{AreHome, IsHome, act-home, bodies-clear, bodies-returned, bodies-write, started-home}

-- ---- intervals by what is to do

-- how many block loops are entered
abbrev pub entered : List Todo → ℕ
entered [] = 0
entered (t ∷ ts) = one_if t.entered + entered ts

abbrev pub one_if_some : Option ℕ → ℕ
one_if_some None = 0
one_if_some (Some b) = 1

-- how many of the bodies, but for the last, are blocks
abbrev pub blocks : Plan → List ℕ → ℕ
blocks plan [] = 0
blocks plan (f ∷ []) = 0
blocks plan (f ∷ g ∷ fs) = one_if_some (block_of plan (block.Function f)) + blocks plan (g ∷ fs)

-- the last of them
abbrev pub base : List ℕ → Option ℕ
base [] = None
base (f ∷ []) = Some f
base (f ∷ g ∷ fs) = base (g ∷ fs)

-- how many intervals a step begins, and how many it ends
abbrev pub begins_by : Need → ℕ
begins_by (need.Enter b u) = 1
begins_by (need.Invoke o u) = one_if_some o
begins_by n = 0

abbrev pub ends_by : Need → ℕ
ends_by (need.Leave b u) = 1
ends_by (need.Back o u) = one_if_some o
ends_by (need.End b) = 1
ends_by n = 0

-- of so many running intervals, after a step
abbrev pub running_after : Need → ℕ → ℕ
running_after n r = begins_by n + (r - ends_by n)

entered-todos : (ss : List ℕ) (ts : List Todo) → entered (todos ss ++ ts) ≡ entered ts
entered-todos [] ts = refl
entered-todos (s ∷ ss) ts = let rest : entered (todos ss ++ ts) ≡ entered ts = entered-todos ss ts in omega (arith, rest)

blocks-push : (plan : Plan) (f : ℕ) (fs : List ℕ) → blocks plan (f ∷ fs) ≤ one_if_some (block_of plan (block.Function f)) + blocks plan fs
blocks-push plan f [] = omega arith
blocks-push plan f (g ∷ fs) = omega arith

base-push : (f : ℕ) (fs : List ℕ) (b : ℕ) → base fs ≡ Some b → base (f ∷ fs) ≡ Some b
base-push f [] b e = absurd (none-some b e)
base-push f (g ∷ fs) b e = e

-- the first of them
abbrev pub first_or : List ℕ → ℕ
first_or [] = 0
first_or (f ∷ fs) = f

top_body_is : (fs : List Frame) → (top_frame fs).body ≡ first_or (bodies_in fs)
top_body_is [] = refl
top_body_is (f ∷ fs) = refl

-- ---- a return is of a function

of_function : (program : Program) (s : ℕ) (o : Option Stmt) → IsValid program → slice_get program.stmts s ≡ o → returns (kind_of_stmt o) ≡ true → option_map_or (λ (x : Stmt). x.body) o 0 < program.functions
of_function program s None v e r = absurd (true≢false (sym r))
of_function program s (Some x) v e r =
    let stmt : There (IsValidStmt program) program.stmts s = there_at (IsValidStmt program) program.stmts s v.stmts (slice_get_within program.stmts s x e) in
    let one : stmt.0 ≡ x = cc (stmt.1) in
    let valid : IsValidStmt program s x = subst (IsValidStmt program s) one stmt.2 in
    let at = some_and (λ (b : Body). IsValidKind program b s x.kind) (slice_get program.bodies x.body) valid.kind in
    let body : There (IsValidBody program) program.bodies x.body = there_at (IsValidBody program) program.bodies x.body v.bodies (slice_get_within program.bodies x.body at.0 at.1) in
    let same : body.0 ≡ at.0 = cc (body.1) in
    let is : at.0.process ≡ nat_le program.functions x.body = subst (λ (b : Body). b.process ≡ nat_le program.functions x.body) same body.2.process in
    let plain : at.0.process ≡ false = by x.kind r at.0 at.2.ending in
    let below : nat_le program.functions x.body ≡ false = sym is ∙ plain in
    grind (arith, nat_tests)
  where
    by : (k : Kind) → returns k ≡ true → (b : Body) → EndsBody b s k → b.process ≡ false
    by (kind.Return value) r b h = h.0
    by k r b h = absurd (true≢false (sym r))

-- ---- one step

module _ (program : Program) (plan : Plan) (v : IsValid program) (a : Answer) (t : Todo) (ts : List Todo) (s : Proc) (b : ℕ) (r : ℕ)
    (is : s.todo ≡ t ∷ ts) (bottom : base (bodies_in s.frames) ≡ Some b) (process : program.functions ≤ b) (home : IsHome program s)
    (enough : 1 + entered (t ∷ ts) + blocks plan (bodies_in s.frames) ≤ r) where
  -- after a step of this need: the running intervals are enough for these, and the bottom stays
  abbrev Stays : Need → Proc → Type 0
  Stays n p = (p.status ≡ None → 1 + entered p.todo + blocks plan (bodies_in p.frames) ≤ running_after n r) × (base (bodies_in p.frames) ≡ Some b)

  abbrev Tells : Need → Type 0
  Tells n = Stays n (act_by_need program plan a t ts n s)

  -- the state that a deed leaves
  abbrev after : Deed → Proc
  after d = act_by_deed program a t ts d (record s { answers = [] })

  -- the step begins and ends no interval, and no loop is entered
  plain : (n : Need) (p : Proc) → begins_by n ≡ 0 → ends_by n ≡ 0 → entered p.todo ≤ entered (t ∷ ts) → bodies_in p.frames ≡ bodies_in s.frames → Stays n p
  plain n p begins ends few frames =
      let same : blocks plan (bodies_in p.frames) ≡ blocks plan (bodies_in s.frames) = ap (blocks plan) frames in
      ((λ runs. omega (arith, begins, ends, few, same, enough)), ap base frames ∙ bottom)

  moved : (n : Need) (d : Deed) (left : List ℤ) → head_deed program t s ≡ Ok (d, left) → Stays n (after d) → Stays n (act_by_asked program a t ts (head_deed program t s) s)
  moved n d left at h = subst (λ x. Stays n (act_by_asked program a t ts x s)) (sym at) h

  -- the step ends the process
  ended : (n : Need) (p : Proc) (x : Status) → p.status ≡ Some x → bodies_in p.frames ≡ bodies_in s.frames → Stays n p
  ended n p x e frames = ((λ runs. absurd (none-some x (sym runs ∙ e))), ap base frames ∙ bottom)

  fewer : entered ts ≤ entered (t ∷ ts)
  fewer = omega arith

  loop_is : (k : Kind) → is_while k ≡ true → loop_of plan t.stmt k ≡ block_of plan (block.Loop t.stmt)
  loop_is (kind.While e body) w = refl
  loop_is k w = absurd (true≢false (sym w))

  -- a loop that is left was entered
  was_entered : (c : ℕ) → block_of plan (block.Loop t.stmt) ≡ Some c → is_while (kind_of program t.stmt) ≡ true → entry_of program plan t ≡ None → t.entered ≡ true
  was_entered c is_block w no_entry = by t.entered refl
    where
      by : (x : Bool) → t.entered ≡ x → t.entered ≡ true
      by true e = e
      by false e =
          let some_entry : entry_of program plan t ≡ Some c = ap (λ x. if x then None else loop_of plan t.stmt (kind_of program t.stmt)) e ∙ loop_is (kind_of program t.stmt) w ∙ is_block in
          absurd (none-some c (sym no_entry ∙ some_entry))

  back_fits : (bs : List ℕ) → base bs ≡ Some b → AreHome program bs (t ∷ ts) → returns (kind_of program t.stmt) ≡ true
      → (base (drop 1 bs) ≡ Some b) × (one_if_some (block_of plan (block.Function (first_or bs))) + blocks plan (drop 1 bs) ≤ blocks plan bs)
  back_fits [] e at_home ret = absurd (none-some b e)
  back_fits (f ∷ []) e at_home ret =
      let below : body_of program t.stmt < program.functions = of_function program t.stmt (slice_get program.stmts t.stmt) v refl ret in
      let same : f ≡ b = some e in
      let here : body_of program t.stmt ≡ f = at_home.0 in
      absurd (omega (arith, below, same, here, process))
  back_fits (f ∷ g ∷ fs) e at_home ret = (e, omega arith)

  module _ (no_entry : entry_of program plan t ≡ None) where
    leaving : (o : Option ℕ) (left : List ℤ) → head_deed program t s ≡ Ok (leave, left) → block_of plan (block.Loop t.stmt) ≡ o → is_while (kind_of program t.stmt) ≡ true → Tells (need_of_leaving plan t.stmt o)
    leaving None left at e w = moved need.Plain leave left at (plain need.Plain (after leave) refl refl fewer refl)
    leaving (Some c) left at e w =
        let one : one_if t.entered ≡ 1 = ap one_if (was_entered c e w no_entry) in
        moved (need.Leave c (unit_of plan (start.Exit t.stmt))) leave left at ((λ runs. omega (arith, one, enough)), bottom)

    calling : (x : Bool) (f : ℕ) (values : List ℤ) (into : Option ℕ) (left : List ℤ) → head_deed program t s ≡ Ok (invoke f values into, left)
        → Tells (if x then need.Trap Depth else need.Invoke (block_of plan (block.Function f)) (unit_of plan (start.Entry f)))
    calling true f values into left at = ended (need.Trap Depth) (act_by_need program plan a t ts (need.Trap Depth) s) (status.Trap Depth) refl refl
    calling false f values into left at =
        let push : blocks plan (f ∷ bodies_in s.frames) ≤ one_if_some (block_of plan (block.Function f)) + blocks plan (bodies_in s.frames) = blocks-push plan f (bodies_in s.frames) in
        let more : entered (todos (body_numbered program f).top ++ ts) ≡ entered ts = entered-todos (body_numbered program f).top ts in
        moved (need.Invoke (block_of plan (block.Function f)) (unit_of plan (start.Entry f))) (invoke f values into) left at
        ((λ runs. omega (arith, push, more, enough)), base-push f (bodies_in s.frames) b bottom)

    returning : (value : Option ℤ) (left : List ℤ) → head_deed program t s ≡ Ok (back value, left) → returns (kind_of program t.stmt) ≡ true
        → Tells (need.Back (block_of plan (block.Function (top_frame s.frames).body)) (call_unit plan (top_frame s.frames).call))
    returning value left at ret =
        let fits = back_fits (bodies_in s.frames) bottom (subst (λ (todo : List Todo). AreHome program (bodies_in s.frames) todo) is home) ret in
        let popped : bodies_in (after (back value)).frames ≡ drop 1 (bodies_in s.frames) = bodies-returned program value s.frames in
        let count : blocks plan (bodies_in (after (back value)).frames) ≡ blocks plan (drop 1 (bodies_in s.frames)) = ap (blocks plan) popped in
        let top : one_if_some (block_of plan (block.Function (top_frame s.frames).body)) ≡ one_if_some (block_of plan (block.Function (first_or (bodies_in s.frames)))) =
        ap (λ k. one_if_some (block_of plan (block.Function k))) (top_body_is s.frames) in
        let few : one_if_some (block_of plan (block.Function (first_or (bodies_in s.frames)))) + blocks plan (drop 1 (bodies_in s.frames)) ≤ blocks plan (bodies_in s.frames) = fits.1 in
        moved (need.Back (block_of plan (block.Function (top_frame s.frames).body)) (call_unit plan (top_frame s.frames).call)) (back value) left at
        ((λ runs. omega (arith, count, top, few, enough)), ap base popped ∙ fits.0)

    sending : (n c : ℕ) (value : ℤ) (left : List ℤ) → head_deed program t s ≡ Ok (send c value, left) → Tells (need_of_send plan t.stmt n c value)
    sending zero c value left at = plain (need.Offer c value) (act_by_need program plan a t ts (need.Offer c value) s) refl refl (omega arith) refl
    sending (suc n) c value left at = moved (need.Send c value (unit_of plan (start.After t.stmt))) (send c value) left at (plain (need.Send c value (unit_of plan (start.After t.stmt))) (after (send c value)) refl refl fewer refl)

    by_deed : (d : Deed) (left : List ℤ) → head_deed program t s ≡ Ok (d, left) → DeedOf (kind_of program t.stmt) d → Tells (need_of_deed program plan t.stmt s d)
    by_deed (set_local c x) left at h = moved need.Plain (set_local c x) left at (plain need.Plain (after (set_local c x)) refl refl fewer (bodies-write c x s.frames))
    by_deed (set_shared c x) left at h = moved (need.Write c x) (set_shared c x) left at (plain (need.Write c x) (after (set_shared c x)) refl refl fewer refl)
    by_deed (clear base' len) left at h = moved need.Plain (clear base' len) left at (plain need.Plain (after (clear base' len)) refl refl fewer (bodies-clear base' len s.frames))
    by_deed (branch stmts) left at h =
        let same : entered (todos stmts ++ ts) ≡ entered ts = entered-todos stmts ts in
        moved need.Plain (branch stmts) left at (plain need.Plain (after (branch stmts)) refl refl (omega (arith, same)) refl)
    by_deed (turn stmts) left at h =
        let same : entered (todos stmts ++ t ∷ ts) ≡ entered (t ∷ ts) = entered-todos stmts (t ∷ ts) in
        moved need.Plain (turn stmts) left at (plain need.Plain (after (turn stmts)) refl refl (omega (arith, same)) refl)
    by_deed leave left at h = leaving (block_of plan (block.Loop t.stmt)) left at refl h
    by_deed (invoke f values into) left at h = calling (nat_lt MOST_CALLS (s.below + length s.frames)) f values into left at
    by_deed (back value) left at h = returning value left at h
    by_deed (take x) left at h = moved (need.P x (unit_of plan (start.After t.stmt))) (take x) left at (plain (need.P x (unit_of plan (start.After t.stmt))) (after (take x)) refl refl fewer refl)
    by_deed (give x) left at h = moved (need.V x (unit_of plan (start.After t.stmt))) (give x) left at (plain (need.V x (unit_of plan (start.After t.stmt))) (after (give x)) refl refl fewer refl)
    by_deed (send c value) left at h = sending (capacity_of program c) c value left at
    by_deed (receive c into) left at h =
        moved (need.Recv c (unit_of plan (start.After t.stmt))) (receive c into) left at
        (plain (need.Recv c (unit_of plan (start.After t.stmt))) (after (receive c into)) refl refl fewer (bodies-write into (value_of a) s.frames))
    by_deed (print x) left at h = moved need.Plain (print x) left at (plain need.Plain (after (print x)) refl refl fewer refl)
    by_deed pass left at h = moved need.Plain pass left at (plain need.Plain (after pass) refl refl fewer refl)
    by_deed finish left at h =
        moved (need.End (or_zero (block_of plan (block.Process (top_frame s.frames).body)))) finish left at
        (ended (need.End (or_zero (block_of plan (block.Process (top_frame s.frames).body)))) (after finish) status.Ended refl refl)

    by_asked : (x : Asked Deed) → head_deed program t s ≡ x → AskedOf (kind_of program t.stmt) x → Tells (need_of_asked program plan t.stmt s x)
    by_asked (Ok q) at h = by_deed q.0 q.1 at h
    by_asked (Err (Wants c)) at h =
        let same : entered s.todo ≡ entered (t ∷ ts) = ap entered is in
        subst (λ x. Stays (need.Read c) (act_by_asked program a t ts x s)) (sym at)
        (plain (need.Read c) (act_by_asked program a t ts (Err (Wants c)) s) refl refl (omega (arith, same)) refl)
    by_asked (Err (Traps x)) at h = ended (need.Trap x) (act_by_need program plan a t ts (need.Trap x) s) (status.Trap x) refl refl

  by_entry : (o : Option ℕ) → entry_of program plan t ≡ o → Tells (need_by_entry program plan t.stmt s o (head_deed program t s))
  by_entry (Some c) e = ((λ runs. omega (arith, enough)), bottom)
  by_entry None e = by_asked e (head_deed program t s) refl (asked_of program.exprs (kind_of program t.stmt) (top_frame s.frames).cells s.answers)

  by_offer : (o : Option ℕ) → Tells (need_by_offer plan t.stmt o (need_by_entry program plan t.stmt s (entry_of program plan t) (head_deed program t s)))
  by_offer (Some c) = plain (need.Done c (unit_of plan (start.After t.stmt))) (act_by_need program plan a t ts (need.Done c (unit_of plan (start.After t.stmt))) s) refl refl fewer refl
  by_offer None = by_entry (entry_of program plan t) refl

  by_budget : (x : Bool) → Tells (if x then need.Budget else need_of_head program plan t s)
  by_budget true = ended need.Budget (act_by_need program plan a t ts need.Budget s) status.Budget refl refl
  by_budget false = by_offer (offer_of program t)

  stays : Tells (need_of_running program plan (t ∷ ts) s)
  stays = by_budget (nat_lt s.budget (s.spent + cost plan (need_of_head program plan t s)))

-- ---- the states of a process

-- the running intervals of process p are enough for what it has to do
pub record IsInside (program : Program) (plan : Plan) (p : ℕ) (s : Proc) (r : ℕ) : Type 0 where
  pub home : IsHome program s
  pub bottom : base (bodies_in s.frames) ≡ Some (program.functions + p)
  pub enough : s.status ≡ None → 1 + entered s.todo + blocks plan (bodies_in s.frames) ≤ r

nothing_after : (n : Need) (r : ℕ) → n ≡ need.Stopped → running_after n r ≡ r
nothing_after n r e = ap (λ m. running_after m r) e ∙ omega arith

pub inside_step : (program : Program) (plan : Plan) (p : ℕ) (a : Answer) (s : Proc) (r : ℕ) → IsValid program → IsInside program plan p s r → IsInside program plan p (act program plan s a) (running_after (need_of program plan s) r)
inside_step program plan p a s r v h = by s.status refl s.todo refl
  where
    stopped : need_of program plan s ≡ need.Stopped → IsInside program plan p (act program plan s a) (running_after (need_of program plan s) r)
    stopped e =
        subst (λ (q : Proc). IsInside program plan p q (running_after (need_of program plan s) r)) (sym (act-stopped program plan s a e))
        (subst (λ k. IsInside program plan p s k) (sym (nothing_after (need_of program plan s) r e)) h)

    by : (o : Option Status) → s.status ≡ o → (todo : List Todo) → s.todo ≡ todo → IsInside program plan p (act program plan s a) (running_after (need_of program plan s) r)
    by (Some x) e todo is = stopped (need_at_status program plan s (Some x) e)
    by None e [] is = stopped (need_at_todo program plan s [] e is)
    by None e (t ∷ ts) is =
        let needs : need_of program plan s ≡ need_of_running program plan (t ∷ ts) s = need_at_todo program plan s (t ∷ ts) e is in
        let now : act program plan s a ≡ act_by_need program plan a t ts (need_of program plan s) s = ap (λ todo. act_at program plan a todo s) is in
        let both = stays program plan v a t ts s (program.functions + p) r is h.bottom (omega arith) h.home (subst (λ todo. 1 + entered todo + blocks plan (bodies_in s.frames) ≤ r) is (h.enough e)) in
        record {
          home = act-home program plan s a v h.home;
          bottom = ap (λ (q : Proc). base (bodies_in q.frames)) (now ∙ ap (λ n. act_by_need program plan a t ts n s) needs) ∙ both.1;
          enough = λ runs.
              subst (λ (q : Proc). 1 + entered q.todo + blocks plan (bodies_in q.frames) ≤ running_after (need_of program plan s) r) (sym (now ∙ ap (λ n. act_by_need program plan a t ts n s) needs))
              (subst (λ n. 1 + entered (act_by_need program plan a t ts (need_of_running program plan (t ∷ ts) s) s).todo + blocks plan (bodies_in (act_by_need program plan a t ts (need_of_running program plan (t ∷ ts) s) s).frames) ≤ running_after n r) (sym needs)
              (both.0 (ap (λ (q : Proc). q.status) (sym (now ∙ ap (λ n. act_by_need program plan a t ts n s) needs)) ∙ runs)));
        }

entered-new : (ss : List ℕ) → entered (todos ss) ≡ 0
entered-new [] = refl
entered-new (s ∷ ss) = let rest : entered (todos ss) ≡ 0 = entered-new ss in omega (arith, rest)

pub inside_begun : (program : Program) (plan : Plan) (p budget : ℕ) → IsValid program → IsInside program plan p (started program plan p budget) 1
inside_begun program plan p budget v = record {
  home = started-home program plan p budget v;
  bottom = refl;
  enough = λ runs. let none : entered (todos (body_numbered program (program.functions + p)).top) ≡ 0 = entered-new (body_numbered program (program.functions + p)).top in omega (arith, none);
}
