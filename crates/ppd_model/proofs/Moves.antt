-- One step of a process of a valid program: what is then to do, and the activations that are then there.
use Rattle.std.proofs.Common.{◌≡◌, ℕ, suc, ◌<◌, ℤ, true, false, List, [], ◌∷◌, ◌++◌, Option, Some, None, Ok, Err, refl, ap, sym, subst, ◌∙◌, length, inl, inr, arith}
use Rattle.std.specs.Prelude.{⊤, drop, slice_get, IsSomeAnd, option_and_then, unwrap_or}
use Rattle.std.specs.List.{All}
use Rattle.std.proofs.lemmas.Bool.{cases_Bool}
use Rattle.std.proofs.lemmas.Option.{slice_get_within}
use Rattle.ppd_ast.specs.declared.plan.Plan.{Plan}
use Rattle.ppd_ast.specs.declared.program.Body.{Body}
use Rattle.ppd_ast.specs.declared.program.Kind.{Kind}
use Rattle.ppd_ast.specs.declared.program.Kind.TheVariants as kind
use Rattle.ppd_ast.specs.declared.program.Program.{Program}
use Rattle.ppd_ast.specs.declared.program.Stmt.{Stmt}
use Rattle.ppd_ast.specs.Order.{StandIn, inner}
use Rattle.ppd_ast.specs.Valid.{IsValid, IsValidBody, IsValidStmt}
use Rattle.ppd_ast.proofs.Standing.{All-append_parts}
use Rattle.ppd_ast.specs.Lookups.{kind_of, body_numbered, no_body}
use Rattle.ppd_ast.proofs.Vocabulary.{kind_of_stmt}
use Rattle.ppd_sem.specs.declared.asking.Pause.TheVariants.{Wants, Traps}
use Rattle.ppd_sem.specs.declared.proc.Answer.{Answer}
use Rattle.ppd_sem.specs.declared.proc.Need.{Need}
use Rattle.ppd_sem.specs.declared.proc.Need.TheVariants.{Read, Enter, Offer, Done, Trap, Budget, Stopped}
use Rattle.ppd_sem.specs.declared.proc.Proc.{Proc}
use Rattle.ppd_sem.specs.declared.proc.Todo.{Todo}
use Rattle.ppd_sem.specs.Asked.{Asked}
use Rattle.ppd_sem.specs.Deed.{Deed, set_local, set_shared, clear, branch, turn, leave, invoke, back, take, give, send, receive, print, pass, finish}
use Rattle.ppd_sem.specs.Process.{act, act_by_asked, act_by_deed, act_by_need, head_deed, need_of, todos, top_frame}
use Rattle.ppd_sem.proofs.NeedWords.{act_at}
use Rattle.ppd_sem.specs.Runs.{AreOfFunction, IsInner, LeadsOn, returns, size_of, stmt_size}
use Rattle.ppd_sem.proofs.Kept.{There, leads_at, there_at}
use Rattle.ppd_sem.proofs.Validity.{valid-runnable}
use Rattle.ppd_model.specs.FullTrace.{Activation, Tag, Tracing, event_of, me_in, tagged_after, tagged_by, trace_step, with_test}
use Rattle.ppd_model.proofs.TraceWords.{tagged_at}
use Rattle.ppd_model.specs.Parents.{is_choice}
use Rattle.ppd_model.specs.Story.{Story, Taken}
use Rattle.ppd_model.proofs.LocalSteps.{IsSend, Fits, FitsHead, fits}
use Rattle.ppd_sem.proofs.Offers.{CompletesSend, completes, send_stays}
use Rattle.ppd_sem.specs.Described.{is_event}
use Rattle.ppd_sem.proofs.OfKind.{IsDeedOf, OfAsked, asked_holds, goes_first, goes_second, goes_round, invokes}
use Rattle.ppd_model.proofs.TestSteps.{View, all_tagged_views, event_acts, into_views, other_acts, tagged_views, views}

-- ---- where the statements of a valid program stand

-- statement i stands directly in statement s, and returns from no body
pub record IsInnerOf (program : Program) (s i : ℕ) : Type 0 where
  pub parent : option_and_then (λ x. x.parent) (slice_get program.stmts i) ≡ Some s
  pub stays : returns (kind_of program i) ≡ false

abbrev pub AllInner : Program → ℕ → List ℕ → Type 0
AllInner program s [] = ⊤
AllInner program s (i ∷ is) = IsInnerOf program s i × AllInner program s is

-- statements that stand in no other: the last one returns, and no other
abbrev pub AreTop : Program → List ℕ → Type 0
AreTop program [] = ⊥
AreTop program (i ∷ []) = (option_and_then (λ x. x.parent) (slice_get program.stmts i) ≡ None) × (returns (kind_of program i) ≡ true)
AreTop program (i ∷ j ∷ is) = ((option_and_then (λ x. x.parent) (slice_get program.stmts i) ≡ None) × (returns (kind_of program i) ≡ false)) × AreTop program (j ∷ is)

-- where a statement leads
abbrev pub Leads : Program → ℕ → Kind → Type 0
Leads program s (kind.If e first second) = AllInner program s first × AllInner program s second
Leads program s (kind.While e body) = AllInner program s body
Leads program s (kind.Call f arguments into) = AreTop program (body_numbered program f).top
Leads program s k = ⊤

pub parent_is : (o : Option Stmt) (parent : Option ℕ) (body : ℕ) → IsSomeAnd o (λ s. (s.parent ≡ parent) × (s.body ≡ body)) → option_and_then (λ (x : Stmt). x.parent) o ≡ parent
parent_is None parent body h = absurd h
parent_is (Some x) parent body h = h.0

all_inner : (program : Program) (n s body : ℕ) (stmts : List ℕ) → All (IsInner program n) stmts → StandIn program.stmts (Some s) body stmts → AllInner program s stmts
all_inner program n s body [] over stands = tt
all_inner program n s body (i ∷ is) over stands = (
  record { parent = parent_is (slice_get program.stmts i) (Some s) body (stands 0 i (omega arith)); stays = (over 0 i (omega arith)).stays },
  all_inner program n s body is (λ k d lt. over (suc k) d (omega arith)) (λ k d lt. stands (suc k) d (omega arith)),
)

are_top : (program : Program) (n body : ℕ) (stmts : List ℕ) → AreOfFunction program n stmts → StandIn program.stmts None body stmts → AreTop program stmts
are_top program n body [] over stands = over
are_top program n body (i ∷ []) over stands = (parent_is (slice_get program.stmts i) None body (stands 0 i (omega arith)), over.1)
are_top program n body (i ∷ j ∷ is) over stands = (
  (parent_is (slice_get program.stmts i) None body (stands 0 i (omega arith)), over.0.stays),
  are_top program n body (j ∷ is) over.1 (λ k d lt. stands (suc k) d (omega arith)),
)

pub body_top : (program : Program) (f : ℕ) (b : Body) → IsValid program → slice_get program.bodies f ≡ Some b → StandIn program.stmts None f b.top
body_top program f b v e =
    let body : There (IsValidBody program) program.bodies f = there_at (IsValidBody program) program.bodies f v.bodies (slice_get_within program.bodies f b e) in
    let one : body.0 ≡ b = cc (body.1) in
    subst (λ (x : Body). StandIn program.stmts None f x.top) one body.2.top

of_body : (program : Program) (f n : ℕ) (o : Option Body) → IsValid program → slice_get program.bodies f ≡ o → AreOfFunction program n (unwrap_or o no_body).top → AreTop program (unwrap_or o no_body).top
of_body program f n None v e over = over
of_body program f n (Some b) v e over = are_top program n f b.top over (body_top program f b v e)

of_kind : (program : Program) (n s body : ℕ) (k : Kind) → IsValid program → LeadsOn program n k → StandIn program.stmts (Some s) body (inner k) → Leads program s k
of_kind program n s body (kind.If e first second) v on stands =
    let both : StandIn program.stmts (Some s) body first × StandIn program.stmts (Some s) body second =
    All-append_parts (λ i. IsSomeAnd (slice_get program.stmts i) (λ x. (x.parent ≡ Some s) × (x.body ≡ body))) first second stands in
    (all_inner program n s body first on.0 both.0, all_inner program n s body second on.1 both.1)
of_kind program n s body (kind.While e stmts) v on stands = all_inner program n s body stmts on stands
of_kind program n s body (kind.Call f arguments into) v on stands = of_body program f (size_of program f) (slice_get program.bodies f) v refl on.top
of_kind program n s body k v on stands = tt

leads_of : (program : Program) (s : ℕ) (o : Option Stmt) → IsValid program → slice_get program.stmts s ≡ o → Leads program s (kind_of_stmt o)
leads_of program s None v e = tt
leads_of program s (Some x) v e =
    let lt : s < length program.stmts = slice_get_within program.stmts s x e in
    let stmt : There (IsValidStmt program) program.stmts s = there_at (IsValidStmt program) program.stmts s v.stmts lt in
    let one : stmt.0 ≡ x = cc (stmt.1) in
    let valid : IsValidStmt program s x = subst (IsValidStmt program s) one stmt.2 in
    let n : ℕ = stmt_size program (slice_get program.stmts s) in
    let on : LeadsOn program n (kind_of program s) = leads_at program n s (valid-runnable program v) (record { there = lt; size = refl }) in
    of_kind program n s x.body x.kind v (subst (λ k. LeadsOn program n k) (ap kind_of_stmt e) on) valid.inside

pub leads : (program : Program) (s : ℕ) → IsValid program → Leads program s (kind_of program s)
leads program s v = leads_of program s (slice_get program.stmts s) v refl

-- ---- what a statement's deed is

abbrev DeedOf : Program → ℕ → Kind → Deed → Type 0
DeedOf program s k (branch stmts) = (returns k ≡ false) × ((is_choice k ≡ true) × AllInner program s stmts)
DeedOf program s k (turn stmts) = (returns k ≡ false) × ((is_choice k ≡ true) × AllInner program s stmts)
DeedOf program s k (invoke f values into) = (returns k ≡ false) × AreTop program (body_numbered program f).top
DeedOf program s k (back value) = returns k ≡ true
DeedOf program s k d = returns k ≡ false

abbrev AskedOf : Program → ℕ → Kind → Asked Deed → Type 0
AskedOf program s k = OfAsked (DeedOf program s k)

deed_fits : (program : Program) (s : ℕ) (k : Kind) (d : Deed) → IsDeedOf k d → Leads program s k → DeedOf program s k d
deed_fits program s k d goes_first h = (refl, (refl, h.0))
deed_fits program s k d goes_second h = (refl, (refl, h.1))
deed_fits program s k d goes_round h = (refl, (refl, h))
deed_fits program s k d (invokes values count) h = (refl, h)
deed_fits program s k d is h = refl

head_of : (program : Program) (t : Todo) (s : Proc) → IsValid program
    → AskedOf program t.stmt (kind_of program t.stmt) (head_deed program t s)
head_of program t s v =
    asked_holds program.exprs (top_frame s.frames).cells s.answers (DeedOf program t.stmt (kind_of program t.stmt))
    (kind_of program t.stmt)
    (λ d is. deed_fits program t.stmt (kind_of program t.stmt) d is (leads program t.stmt v))

-- ---- the step

-- what is to do and the views of the activations after a step of head t, where `tested` are the views
-- after the test of its event
pub data Move (program : Program) (t : Todo) (ts : List Todo) (old tested : List View) (todo : List Todo) (now : List View) : Type 0 where
  stays : (u : Todo) → u.stmt ≡ t.stmt → todo ≡ u ∷ ts → now ≡ old → Move program t ts old tested todo now
  traps : (u : Todo) → u.stmt ≡ t.stmt → todo ≡ u ∷ ts → now ≡ tested → Move program t ts old tested todo now
  passes : returns (kind_of program t.stmt) ≡ false → todo ≡ ts → now ≡ tested → Move program t ts old tested todo now
  chooses : (stmts : List ℕ) → returns (kind_of program t.stmt) ≡ false → is_choice (kind_of program t.stmt) ≡ true → AllInner program t.stmt stmts → todo ≡ todos stmts ++ ts → now ≡ tested → Move program t ts old tested todo now
  turns : (stmts : List ℕ) → returns (kind_of program t.stmt) ≡ false → is_choice (kind_of program t.stmt) ≡ true → AllInner program t.stmt stmts → todo ≡ todos stmts ++ t ∷ ts → now ≡ tested → Move program t ts old tested todo now
  calls : (top : List ℕ) (me : Tag) → returns (kind_of program t.stmt) ≡ false → AreTop program top → todo ≡ todos top ++ ts → now ≡ (me, []) ∷ tested → Move program t ts old tested todo now
  backs : returns (kind_of program t.stmt) ≡ true → todo ≡ ts → now ≡ drop 1 tested → Move program t ts old tested todo now

pub drop_views : (xs : List Activation) → views (drop 1 xs) ≡ drop 1 (views xs)
drop_views [] = refl
drop_views (x ∷ xs) = refl

module _ (program : Program) (plan : Plan) (a : Answer) (t : Todo) (ts : List Todo) (s : Proc) (me : Tag) (old : List View) (acts : List Activation) (is : s.todo ≡ t ∷ ts) where
  abbrev Moves : List Todo → List View → Type 0
  Moves todo now = Move program t ts old (views acts) todo now

  by_deed : (d : Deed) (left : List ℤ) → DeedOf program t.stmt (kind_of program t.stmt) d → Moves (act_by_deed program a t ts d (record s { answers = [] })).todo (views (tagged_by program s me (Ok (d, left)) acts))
  by_deed (set_local c v) left h = passes h refl (tagged_views c me acts)
  by_deed (set_shared c v) left h = passes h refl refl
  by_deed (clear base len) left h = passes h refl (all_tagged_views base len me acts)
  by_deed (branch stmts) left h = chooses stmts h.0 h.1.0 h.1.1 refl refl
  by_deed (turn stmts) left h = turns stmts h.0 h.1.0 h.1.1 refl refl
  by_deed leave left h = passes h refl refl
  by_deed (invoke f values into) left h = calls (body_numbered program f).top me h.0 h.1 refl refl
  by_deed (back value) left h = backs h refl (into_views _ value me (drop 1 acts) ∙ drop_views acts)
  by_deed (take x) left h = passes h refl refl
  by_deed (give x) left h = passes h refl refl
  by_deed (send x v) left h = passes h refl refl
  by_deed (receive chan into) left h = passes h refl (tagged_views into me acts)
  by_deed (print v) left h = passes h refl refl
  by_deed pass left h = passes h refl refl
  by_deed finish left h = passes h refl refl

  by_asked : (asked : Asked Deed) → AskedOf program t.stmt (kind_of program t.stmt) asked → Moves (act_by_asked program a t ts asked s).todo (views (tagged_by program s me asked acts))
  by_asked (Ok q) h = by_deed q.0 q.1 h
  by_asked (Err (Wants c)) h = traps t refl is refl
  by_asked (Err (Traps x)) h = traps t refl is refl

  waits : (c : ℕ) (asked : Asked Deed) → Fits (Read c) asked → Moves (act_by_asked program a t ts asked s).todo old
  waits c (Ok q) h = absurd h
  waits c (Err (Wants x)) h = stays t refl is refl
  waits c (Err (Traps x)) h = stays t refl is refl

  -- the views after a step of this need
  abbrev now_by : Need → List View
  now_by (Read c) = old
  now_by (Enter b u) = old
  now_by Budget = old
  now_by Stopped = old
  now_by n = views (tagged_after program s me n acts)

  event_now : (n : Need) → is_event n ≡ true → now_by n ≡ views (tagged_after program s me n acts)
  event_now (Read c) e = absurd (cc)
  event_now (Enter b u) e = absurd (cc)
  event_now Budget e = absurd (cc)
  event_now Stopped e = absurd (cc)
  event_now n e = refl

  other_now : (n : Need) → is_event n ≡ false → now_by n ≡ old
  other_now (Read c) e = refl
  other_now (Enter b u) e = refl
  other_now Budget e = refl
  other_now Stopped e = refl
  other_now n e = absurd (cc)

  finishes : AskedOf program t.stmt (kind_of program t.stmt) (head_deed program t s) → Moves (act_by_asked program a t ts (head_deed program t s) s).todo (views (tagged_at program s me s.todo acts))
  finishes h =
      subst (λ todo. Moves (act_by_asked program a t ts (head_deed program t s) s).todo (views (tagged_at program s me todo acts))) (sym is) (by_asked (head_deed program t s) h)

  send_views : (asked : Asked Deed) → IsSend asked → views (tagged_by program s me asked acts) ≡ views acts
  send_views (Ok (send c v, left)) h = refl
  send_views (Ok q) h = absurd h
  send_views (Err p) h = refl

  sends : IsSend (head_deed program t s) → views (tagged_at program s me s.todo acts) ≡ views acts
  sends h = ap (λ todo. views (tagged_at program s me todo acts)) is ∙ send_views (head_deed program t s) h

  by_need : (n : Need) → CompletesSend program t.stmt n → Fits n (head_deed program t s) → AskedOf program t.stmt (kind_of program t.stmt) (head_deed program t s) → Moves (act_by_need program plan a t ts n s).todo (now_by n)
  by_need (Read c) o f h = waits c (head_deed program t s) f
  by_need (Enter b u) o f h = stays (record t { entered = true }) refl refl refl
  by_need Budget o f h = stays t refl is refl
  by_need Stopped o f h = stays t refl is refl
  by_need (Trap x) o f h = traps t refl is refl
  by_need (Offer c v) o f h = traps (record t { offered = true }) refl refl (sends f)
  by_need (Done c u) o f h = passes (send_stays (kind_of program t.stmt) c o) refl (sends f)
  by_need n o f h = finishes h

pub step_moves : (program : Program) (plan : Plan) (story : Story) (p : ℕ) (u : Tracing) (x : Taken) (t : Todo) (ts : List Todo) → IsValid program → x.need ≡ need_of program plan u.proc → u.proc.todo ≡ t ∷ ts
    → Move program t ts (views u.activations) (views (with_test program (me_in p u) (event_of program plan u.proc x u.proc.todo) u.activations)) (trace_step program plan story p u x).proc.todo (views (trace_step program plan story p u x).activations)
step_moves program plan story p u x t ts v own is =
    let s : Proc = u.proc in
    let me : Tag = Some (me_in p u) in
    let acts : List Activation = with_test program (me_in p u) (event_of program plan s x s.todo) u.activations in
    let fit : FitsHead program s (need_of program plan s) (t ∷ ts) = subst (λ todo. FitsHead program s (need_of program plan s) todo) is (fits program plan s) in
    let asked : AskedOf program t.stmt (kind_of program t.stmt) (head_deed program t s) = head_of program t s v in
    let move : Move program t ts (views u.activations) (views acts) (act_by_need program plan x.answer t ts (need_of program plan s) s).todo (now_by program plan x.answer t ts s me (views u.activations) acts is (need_of program plan s)) =
    by_need program plan x.answer t ts s me (views u.activations) acts is (need_of program plan s) (completes program plan s t ts is) fit asked in
    let todo_is : (act_by_need program plan x.answer t ts (need_of program plan s) s).todo ≡ (act program plan s x.answer).todo = ap (λ todo. (act_at program plan x.answer todo s).todo) (sym is) in
    subst (λ todo. Move program t ts (views u.activations) (views acts) todo (views (trace_step program plan story p u x).activations)) todo_is
    (subst (λ now. Move program t ts (views u.activations) (views acts) (act_by_need program plan x.answer t ts (need_of program plan s) s).todo now)
    (ap (λ n. now_by program plan x.answer t ts s me (views u.activations) acts is n) (sym own) ∙ now_is) move)
  where
    now_is : now_by program plan x.answer t ts u.proc (Some (me_in p u)) (views u.activations) (with_test program (me_in p u) (event_of program plan u.proc x u.proc.todo) u.activations) is x.need ≡ views (trace_step program plan story p u x).activations
    now_is = elim (cases_Bool (is_event x.need)) [
      | inl e ↦
          event_now program plan x.answer t ts u.proc (Some (me_in p u)) (views u.activations) (with_test program (me_in p u) (event_of program plan u.proc x u.proc.todo) u.activations) is x.need e
          ∙ ap views (sym (event_acts program plan story p x x.need u e))
      | inr e ↦
          other_now program plan x.answer t ts u.proc (Some (me_in p u)) (views u.activations) (with_test program (me_in p u) (event_of program plan u.proc x u.proc.todo) u.activations) is x.need e
          ∙ ap views (sym (other_acts program plan story p x x.need u e))
    ]

-- ---- a step that is no event

-- the head is still the same statement, and the activations are as they were
abbrev Idle : Tracing → List View → Todo → List Todo → List Todo → Type 0
Idle u now t ts todo = (v : Todo) × (todo ≡ v ∷ ts) × (v.stmt ≡ t.stmt) × (now ≡ views u.activations)

idle_asked : (program : Program) (a : Answer) (t : Todo) (ts : List Todo) (s : Proc) (c : ℕ) (asked : Asked Deed) → s.todo ≡ t ∷ ts → Fits (Read c) asked → (v : Todo) × ((act_by_asked program a t ts asked s).todo ≡ v ∷ ts) × (v.stmt ≡ t.stmt)
idle_asked program a t ts s c (Ok q) is h = absurd h
idle_asked program a t ts s c (Err (Wants x)) is h = (t, is, refl)
idle_asked program a t ts s c (Err (Traps x)) is h = (t, is, refl)

idle_need : (program : Program) (plan : Plan) (a : Answer) (t : Todo) (ts : List Todo) (s : Proc) (n : Need) → s.todo ≡ t ∷ ts → is_event n ≡ false → Fits n (head_deed program t s)
    → (v : Todo) × ((act_by_need program plan a t ts n s).todo ≡ v ∷ ts) × (v.stmt ≡ t.stmt)
idle_need program plan a t ts s (Read c) is e f = idle_asked program a t ts s c (head_deed program t s) is f
idle_need program plan a t ts s (Enter b u) is e f = (record t { entered = true }, refl, refl)
idle_need program plan a t ts s Budget is e f = (t, is, refl)
idle_need program plan a t ts s Stopped is e f = (t, is, refl)
idle_need program plan a t ts s n is e f = absurd (cc)

pub idles : (program : Program) (plan : Plan) (story : Story) (p : ℕ) (u : Tracing) (x : Taken) (t : Todo) (ts : List Todo) → x.need ≡ need_of program plan u.proc → u.proc.todo ≡ t ∷ ts → is_event x.need ≡ false
    → Idle u (views (trace_step program plan story p u x).activations) t ts (trace_step program plan story p u x).proc.todo
idles program plan story p u x t ts own is e =
    let fit : FitsHead program u.proc (need_of program plan u.proc) (t ∷ ts) = subst (λ todo. FitsHead program u.proc (need_of program plan u.proc) todo) is (fits program plan u.proc) in
    let idle = idle_need program plan x.answer t ts u.proc (need_of program plan u.proc) is (ap is_event (sym own) ∙ e) fit in
    let todo_is : (act program plan u.proc x.answer).todo ≡ (act_by_need program plan x.answer t ts (need_of program plan u.proc) u.proc).todo = ap (λ todo. (act_at program plan x.answer todo u.proc).todo) is in
    (idle.0, todo_is ∙ idle.1, idle.2, ap views (other_acts program plan story p x x.need u e))
