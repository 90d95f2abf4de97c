-- The statements still to do are of the bodies of the frames that are there, and what the deed of one tells.
use Rattle.std.proofs.Common.{◌≡◌, ℕ, suc, ◌+◌, ◌≤◌, ℤ, Bool, true, false, List, [], ◌∷◌, ◌++◌, Option, Some, None, Ok, Err, refl, ap, sym, subst, ◌∙◌, length, arith}
use Rattle.std.specs.Prelude.{⊤, drop, is_some, slice_get, IsSome, IsSomeAnd, IsTrue, slice_set, unwrap_or, replicate, pos}
use Rattle.std.specs.List.{All, range_with_len}
use Rattle.std.proofs.lemmas.Option.{slice_get_within}
use Rattle.std.specs.Option.{option_map_or}
use Rattle.ppd_ast.specs.declared.plan.Plan.{Plan}
use Rattle.ppd_ast.specs.declared.program.Body.{Body}
use Rattle.ppd_ast.specs.declared.program.Kind.{Kind}
use Rattle.ppd_ast.specs.declared.program.Kind.TheVariants as kind
use Rattle.ppd_ast.specs.declared.program.Program.{Program}
use Rattle.ppd_ast.specs.declared.program.Stmt.{Stmt}
use Rattle.ppd_ast.proofs.Vocabulary.{gives as gives_value}
use Rattle.ppd_ast.specs.Order.{StandIn, inner}
use Rattle.ppd_ast.specs.Valid.{CallsRightly, EndsBody, IsValid, IsValidKind, IsValidStmt}
use Rattle.ppd_ast.proofs.Standing.{All-append_parts}
use Rattle.ppd_ast.specs.Lookups.{kind_of, body_of, body_numbered, no_body}
use Rattle.ppd_ast.proofs.Vocabulary.{kind_of_stmt, params_of_body}
use Rattle.ppd_ast.proofs.ValidLaws.{some_and}
use Rattle.ppd_sem.specs.declared.asking.Pause.TheVariants.{Wants, Traps}
use Rattle.ppd_sem.specs.declared.proc.Answer.{Answer}
use Rattle.ppd_sem.specs.declared.proc.Frame.{Frame}
use Rattle.ppd_sem.specs.declared.proc.Need.{Need}
use Rattle.ppd_sem.specs.declared.proc.Need.TheVariants.{Enter, Offer, Done, Trap, Budget, Stopped}
use Rattle.ppd_sem.specs.declared.proc.Proc.{Proc}
use Rattle.ppd_sem.specs.declared.proc.Todo.{Todo}
use Rattle.ppd_sem.specs.Asked.{Asked}
use Rattle.ppd_sem.specs.Deed.{Deed, set_local, set_shared, clear, branch, turn, leave, invoke, back, take, give, send, receive, print, pass, finish}
use Rattle.ppd_sem.specs.Process.{act, act_by_asked, act_by_deed, act_by_need, head_deed, into_of, need_of, receive_at, returned, started, todos, on_top, top_frame, into_at, with_values}
use Rattle.ppd_sem.proofs.NeedWords.{act_at}
use Rattle.ppd_sem.proofs.Offers.{CompletesSend, completes, send_stays}
use Rattle.ppd_sem.specs.Runs.{AreOfFunction, IsInner, IsRunnableBody, LeadsOn, left_by, returns, size_of, stmt_size, bodies_in}
use Rattle.ppd_sem.proofs.Kept.{There, leads_at, there_at}
use Rattle.ppd_sem.proofs.Validity.{valid-runnable}
use Rattle.ppd_sem.proofs.OfKind.{IsDeedOf, OfAsked, asked_holds, backs, backs_value, goes_first, goes_second, invokes, goes_round}
use Rattle.ppd_model.proofs.Moves.{body_top}

-- ---- where the statements of a valid program stand

-- a statement of this body, which does not return
pub record IsBeside (program : Program) (body i : ℕ) : Type 0 where
  pub of_body : body_of program i ≡ body
  pub stays : returns (kind_of program i) ≡ false

abbrev pub AllBeside : Program → ℕ → List ℕ → Type 0
AllBeside program body [] = ⊤
AllBeside program body (i ∷ is) = IsBeside program body i × AllBeside program body is

-- a function's outermost statements: the last one returns, and no other
abbrev pub AreTop : Program → ℕ → List ℕ → Type 0
AreTop program body [] = ⊥
AreTop program body (i ∷ []) = (body_of program i ≡ body) × (returns (kind_of program i) ≡ true)
AreTop program body (i ∷ j ∷ is) = IsBeside program body i × AreTop program body (j ∷ is)

-- where a statement of this body leads, and how many values it passes on
abbrev pub Leads : Program → ℕ → Kind → Type 0
Leads program body (kind.If e first second) = AllBeside program body first × AllBeside program body second
Leads program body (kind.While e stmts) = AllBeside program body stmts
Leads program body (kind.Call f arguments into) = AreTop program f (body_numbered program f).top × (length arguments ≡ params_of_body (slice_get program.bodies f))
Leads program body (kind.Return v) = is_some v ≡ gives_value (slice_get program.bodies body)
Leads program body k = ⊤

body_is : (o : Option Stmt) (parent : Option ℕ) (body : ℕ) → IsSomeAnd o (λ s. (s.parent ≡ parent) × (s.body ≡ body)) → option_map_or (λ (x : Stmt). x.body) o 0 ≡ body
body_is None parent body h = absurd h
body_is (Some x) parent body h = h.1

all_beside : (program : Program) (n body : ℕ) (parent : Option ℕ) (stmts : List ℕ) → All (IsInner program n) stmts → StandIn program.stmts parent body stmts → AllBeside program body stmts
all_beside program n body parent [] over stands = tt
all_beside program n body parent (i ∷ is) over stands = (
  record { of_body = body_is (slice_get program.stmts i) parent body (stands 0 i (omega arith)); stays = (over 0 i (omega arith)).stays },
  all_beside program n body parent is (λ k d lt. over (suc k) d (omega arith)) (λ k d lt. stands (suc k) d (omega arith)),
)

are_top : (program : Program) (n body : ℕ) (stmts : List ℕ) → AreOfFunction program n stmts → StandIn program.stmts None body stmts → AreTop program body stmts
are_top program n body [] over stands = over
are_top program n body (i ∷ []) over stands = (body_is (slice_get program.stmts i) None body (stands 0 i (omega arith)), over.1)
are_top program n body (i ∷ j ∷ is) over stands = (
  record { of_body = body_is (slice_get program.stmts i) None body (stands 0 i (omega arith)); stays = over.0.stays },
  are_top program n body (j ∷ is) over.1 (λ k d lt. stands (suc k) d (omega arith)),
)

top_if : (program : Program) (f n : ℕ) (o : Option Body) → IsValid program → slice_get program.bodies f ≡ o → AreOfFunction program n (unwrap_or o no_body).top → AreTop program f (unwrap_or o no_body).top
top_if program f n None v e over = over
top_if program f n (Some b) v e over = are_top program n f b.top over (body_top program f b v e)

count_if : (o : Option Body) (n : ℕ) (into : Option ℕ) → IsSomeAnd o (λ g. (n ≡ g.params) × (IsSome into → IsTrue g.value)) → n ≡ params_of_body o
count_if None n into h = absurd h
count_if (Some b) n into h = h.0

of_kind : (program : Program) (n s body : ℕ) (b : Body) (k : Kind) → IsValid program → slice_get program.bodies body ≡ Some b → LeadsOn program n k → StandIn program.stmts (Some s) body (inner k) → CallsRightly program k → EndsBody b s k → Leads program body k
of_kind program n s body b (kind.If e first second) v is on stands calls ends =
    let both : StandIn program.stmts (Some s) body first × StandIn program.stmts (Some s) body second =
    All-append_parts (λ i. IsSomeAnd (slice_get program.stmts i) (λ x. (x.parent ≡ Some s) × (x.body ≡ body))) first second stands in
    (all_beside program n body (Some s) first on.0 both.0, all_beside program n body (Some s) second on.1 both.1)
of_kind program n s body b (kind.While e stmts) v is on stands calls ends = all_beside program n body (Some s) stmts on stands
of_kind program n s body b (kind.Call f arguments into) v is on stands calls ends =
    (top_if program f (size_of program f) (slice_get program.bodies f) v refl on.top, count_if (slice_get program.bodies f) (length arguments) into calls.1)
of_kind program n s body b (kind.Return value) v is on stands calls ends = ends.1 ∙ sym (ap gives_value is)
of_kind program n s body b k v is on stands calls ends = tt

leads_of : (program : Program) (s : ℕ) (o : Option Stmt) → IsValid program → slice_get program.stmts s ≡ o → Leads program (option_map_or (λ (x : Stmt). x.body) o 0) (kind_of_stmt o)
leads_of program s None v e = tt
leads_of program s (Some x) v e =
    let lt = slice_get_within program.stmts s x e in
    let stmt : There (IsValidStmt program) program.stmts s = there_at (IsValidStmt program) program.stmts s v.stmts lt in
    let one : stmt.0 ≡ x = cc (stmt.1) in
    let valid : IsValidStmt program s x = subst (IsValidStmt program s) one stmt.2 in
    let n : ℕ = stmt_size program (slice_get program.stmts s) in
    let on : LeadsOn program n (kind_of program s) = leads_at program n s (valid-runnable program v) (record { there = lt; size = refl }) in
    let at = some_and (λ (b : Body). IsValidKind program b s x.kind) (slice_get program.bodies x.body) valid.kind in
    of_kind program n s x.body at.0 x.kind v at.1 (subst (λ k. LeadsOn program n k) (ap kind_of_stmt e) on) valid.inside at.2.call at.2.ending

leads : (program : Program) (s : ℕ) → IsValid program → Leads program (body_of program s) (kind_of program s)
leads program s v = leads_of program s (slice_get program.stmts s) v refl

-- ---- what a statement's deed is

-- a deed of a statement of this body: it keeps to the body but for a call and a return; a call passes a value for
-- each parameter, and a return one where the body gives one
abbrev pub DeedOf : Program → ℕ → Kind → Deed → Type 0
DeedOf program body k (branch stmts) = (returns k ≡ false) × AllBeside program body stmts
DeedOf program body k (turn stmts) = (returns k ≡ false) × AllBeside program body stmts
DeedOf program body k (invoke f values into) = (returns k ≡ false) × (AreTop program f (body_numbered program f).top × (length values ≡ params_of_body (slice_get program.bodies f)))
DeedOf program body k (back value) = (returns k ≡ true) × (is_some value ≡ gives_value (slice_get program.bodies body))
DeedOf program body k d = returns k ≡ false

abbrev pub AskedOf : Program → ℕ → Kind → Asked Deed → Type 0
AskedOf program body k = OfAsked (DeedOf program body k)

deed_fits : (program : Program) (body : ℕ) (k : Kind) (d : Deed) → IsDeedOf k d → Leads program body k → DeedOf program body k d
deed_fits program body k d goes_first h = (refl, h.0)
deed_fits program body k d goes_second h = (refl, h.1)
deed_fits program body k d goes_round h = (refl, h)
deed_fits program body k d (invokes values count) h = (refl, (h.0, count ∙ h.1))
deed_fits program body k d backs h = (refl, h)
deed_fits program body k d (backs_value v) h = (refl, h)
deed_fits program body k d is h = refl

-- what the deed of a statement of a valid program is
pub head_of : (program : Program) (t : Todo) (s : Proc) → IsValid program → AskedOf program (body_of program t.stmt) (kind_of program t.stmt) (head_deed program t s)
head_of program t s v =
    let body : ℕ = body_of program t.stmt in
    let k : Kind = kind_of program t.stmt in
    asked_holds program.exprs (top_frame s.frames).cells s.answers (DeedOf program body k) k
    (λ d is. deed_fits program body k d is (leads program t.stmt v))

-- ---- frames and what is to do over them

-- each statement still to do is of the body of the frame that will then be the top one
abbrev pub AreHome : Program → List ℕ → List Todo → Type 0
AreHome program bs [] = ⊤
AreHome program [] (t ∷ ts) = ⊥
AreHome program (b ∷ bs) (t ∷ ts) = (body_of program t.stmt ≡ b) × AreHome program (left_by (returns (kind_of program t.stmt)) b bs) ts

beside_home : (program : Program) (b : ℕ) (bs : List ℕ) (stmts : List ℕ) (ts : List Todo) → AllBeside program b stmts → AreHome program (b ∷ bs) ts → AreHome program (b ∷ bs) (todos stmts ++ ts)
beside_home program b bs [] ts h home = home
beside_home program b bs (i ∷ is) ts h home =
    (h.0.of_body, subst (λ (x : Bool). AreHome program (left_by x b bs) (todos is ++ ts)) (sym h.0.stays) (beside_home program b bs is ts h.1 home))

top_home : (program : Program) (b : ℕ) (bs : List ℕ) (stmts : List ℕ) (ts : List Todo) → AreTop program b stmts → AreHome program bs ts → AreHome program (b ∷ bs) (todos stmts ++ ts)
top_home program b bs [] ts h home = absurd h
top_home program b bs (i ∷ []) ts h home = (h.0, subst (λ (x : Bool). AreHome program (left_by x b bs) ts) (sym h.1) home)
top_home program b bs (i ∷ j ∷ is) ts h home =
    (h.0.of_body, subst (λ (x : Bool). AreHome program (left_by x b bs) (todos (j ∷ is) ++ ts)) (sym h.0.stays) (top_home program b bs (j ∷ is) ts h.1 home))

pub bodies-write : (c : ℕ) (v : ℤ) (frames : List Frame) → bodies_in (on_top (λ cells. slice_set cells c v) frames) ≡ bodies_in frames
bodies-write c v [] = refl
bodies-write c v (f ∷ fs) = refl

pub bodies-clear : (base len : ℕ) (frames : List Frame) → bodies_in (on_top (with_values (range_with_len base len) (replicate len (pos 0))) frames) ≡ bodies_in frames
bodies-clear base len [] = refl
bodies-clear base len (f ∷ fs) = refl

bodies-receive : (into : Option ℕ) (value : Option ℤ) (frames : List Frame) → bodies_in (receive_at into value frames) ≡ bodies_in frames
bodies-receive None value frames = refl
bodies-receive (Some c) None frames = refl
bodies-receive (Some c) (Some v) frames = bodies-write c v frames

bodies-from : (program : Program) (call : Option ℕ) (value : Option ℤ) (frames : List Frame) → bodies_in (receive_at (into_at program call) value frames) ≡ bodies_in frames
bodies-from program None value frames = refl
bodies-from program (Some c) value frames = bodies-receive (into_of (kind_of program c)) value frames

pub bodies-returned : (program : Program) (value : Option ℤ) (frames : List Frame) → bodies_in (returned program value frames) ≡ drop 1 (bodies_in frames)
bodies-returned program value [] = refl
bodies-returned program value (f ∷ fs) = bodies-from program f.call value fs

-- a process whose statements to do are all at home
abbrev pub IsHome : Program → Proc → Type 0
IsHome program s = AreHome program (bodies_in s.frames) s.todo

module _ (program : Program) (a : Answer) (t : Todo) (ts : List Todo) (b : ℕ) (bs : List ℕ) (home : AreHome program (b ∷ bs) (t ∷ ts)) where
  rest : (x : Bool) → returns (kind_of program t.stmt) ≡ x → AreHome program (left_by x b bs) ts
  rest x e = subst (λ (y : Bool). AreHome program (left_by y b bs) ts) e home.1

  put : (ns ms : List ℕ) (todo : List Todo) → ns ≡ ms → AreHome program ms todo → AreHome program ns todo
  put ns ms todo e h = subst (λ (l : List ℕ). AreHome program l todo) (sym e) h

  by_deed : (d : Deed) (s : Proc) → bodies_in s.frames ≡ b ∷ bs → DeedOf program b (kind_of program t.stmt) d → IsHome program (act_by_deed program a t ts d s)
  by_deed (set_local c v) s e h = put (bodies_in (on_top (λ cells. slice_set cells c v) s.frames)) (b ∷ bs) ts (bodies-write c v s.frames ∙ e) (rest false h)
  by_deed (set_shared c v) s e h = put (bodies_in s.frames) (b ∷ bs) ts e (rest false h)
  by_deed (clear base len) s e h = put (bodies_in (on_top (with_values (range_with_len base len) (replicate len (pos 0))) s.frames)) (b ∷ bs) ts (bodies-clear base len s.frames ∙ e) (rest false h)
  by_deed (branch stmts) s e h = put (bodies_in s.frames) (b ∷ bs) (todos stmts ++ ts) e (beside_home program b bs stmts ts h.1 (rest false h.0))
  by_deed (turn stmts) s e h = put (bodies_in s.frames) (b ∷ bs) (todos stmts ++ t ∷ ts) e (beside_home program b bs stmts (t ∷ ts) h.1 home)
  by_deed leave s e h = put (bodies_in s.frames) (b ∷ bs) ts e (rest false h)
  by_deed (invoke f values into) s e h =
      put (f ∷ bodies_in s.frames) (f ∷ b ∷ bs) (todos (body_numbered program f).top ++ ts) (ap (λ l. f ∷ l) e)
      (top_home program f (b ∷ bs) (body_numbered program f).top ts h.1.0 (rest false h.0))
  by_deed (back value) s e h = put (bodies_in (returned program value s.frames)) bs ts (bodies-returned program value s.frames ∙ ap (λ l. drop 1 l) e) (rest true h.0)
  by_deed (take x) s e h = put (bodies_in s.frames) (b ∷ bs) ts e (rest false h)
  by_deed (give x) s e h = put (bodies_in s.frames) (b ∷ bs) ts e (rest false h)
  by_deed (send x v) s e h = put (bodies_in s.frames) (b ∷ bs) ts e (rest false h)
  by_deed (receive chan into) s e h = put (bodies_in (on_top (λ cells. slice_set cells into _) s.frames)) (b ∷ bs) ts (bodies-write into _ s.frames ∙ e) (rest false h)
  by_deed (print v) s e h = put (bodies_in s.frames) (b ∷ bs) ts e (rest false h)
  by_deed pass s e h = put (bodies_in s.frames) (b ∷ bs) ts e (rest false h)
  by_deed finish s e h = put (bodies_in s.frames) (b ∷ bs) ts e (rest false h)

  unchanged : (s : Proc) (todo : List Todo) → bodies_in s.frames ≡ b ∷ bs → todo ≡ t ∷ ts → AreHome program (bodies_in s.frames) todo
  unchanged s todo e is = put (bodies_in s.frames) (b ∷ bs) todo e (subst (λ (l : List Todo). AreHome program (b ∷ bs) l) (sym is) home)

  by_asked : (asked : Asked Deed) (s : Proc) → bodies_in s.frames ≡ b ∷ bs → s.todo ≡ t ∷ ts → AskedOf program b (kind_of program t.stmt) asked → IsHome program (act_by_asked program a t ts asked s)
  by_asked (Ok q) s e is h = by_deed q.0 (record s { answers = [] }) e h
  by_asked (Err (Wants c)) s e is h = unchanged s s.todo e is
  by_asked (Err (Traps x)) s e is h = unchanged s s.todo e is

  by_need : (plan : Plan) (n : Need) (s : Proc) → bodies_in s.frames ≡ b ∷ bs → s.todo ≡ t ∷ ts → CompletesSend program t.stmt n → AskedOf program b (kind_of program t.stmt) (head_deed program t s) → IsHome program (act_by_need program plan a t ts n s)
  by_need plan (Enter x u) s e is o h = put (bodies_in s.frames) (b ∷ bs) (record t { entered = true } ∷ ts) e home
  by_need plan (Trap x) s e is o h = unchanged s s.todo e is
  by_need plan Budget s e is o h = unchanged s s.todo e is
  by_need plan Stopped s e is o h = unchanged s s.todo e is
  by_need plan (Offer c v) s e is o h = put (bodies_in s.frames) (b ∷ bs) (record t { offered = true } ∷ ts) e home
  by_need plan (Done c u) s e is o h = put (bodies_in s.frames) (b ∷ bs) ts e (rest false (send_stays (kind_of program t.stmt) c o))
  by_need plan n s e is o h = by_asked (head_deed program t s) s e is h

by_bodies : (program : Program) (plan : Plan) (a : Answer) (t : Todo) (ts : List Todo) (s : Proc) (bs : List ℕ) → IsValid program → bodies_in s.frames ≡ bs → s.todo ≡ t ∷ ts → AreHome program bs (t ∷ ts) → IsHome program (act_by_need program plan a t ts (need_of program plan s) s)
by_bodies program plan a t ts s [] v e is home = absurd home
by_bodies program plan a t ts s (b ∷ bs) v e is home =
    by_need program a t ts b bs home plan (need_of program plan s) s e is (completes program plan s t ts is) (subst (λ (x : ℕ). AskedOf program x (kind_of program t.stmt) (head_deed program t s)) home.0 (head_of program t s v))

by_todo : (program : Program) (plan : Plan) (a : Answer) (s : Proc) (todo : List Todo) → IsValid program → s.todo ≡ todo → IsHome program s → IsHome program (act_at program plan a todo s)
by_todo program plan a s [] v is home = home
by_todo program plan a s (t ∷ ts) v is home =
    by_bodies program plan a t ts s (bodies_in s.frames) v refl is (subst (λ (l : List Todo). AreHome program (bodies_in s.frames) l) is home)

-- a step leaves all at home
pub act-home : (program : Program) (plan : Plan) (s : Proc) (a : Answer) → IsValid program → IsHome program s → IsHome program (act program plan s a)
act-home program plan s a v home = by_todo program plan a s s.todo v refl home

-- ---- the start

started_all : (program : Program) (b : ℕ) (stmts : List ℕ) → AllBeside program b stmts → AreHome program (b ∷ []) (todos stmts)
started_all program b [] h = tt
started_all program b (i ∷ is) h = (h.0.of_body, subst (λ (x : Bool). AreHome program (left_by x b []) (todos is)) (sym h.0.stays) (started_all program b is h.1))

start_of : (program : Program) (f : ℕ) (o : Option Body) → IsValid program → program.functions ≤ f → slice_get program.bodies f ≡ o → AreHome program (f ∷ []) (todos (unwrap_or o no_body).top)
start_of program f None v le e = tt
start_of program f (Some b) v le e =
    let body : There (IsRunnableBody program) program.bodies f = there_at (IsRunnableBody program) program.bodies f (valid-runnable program v).bodies (slice_get_within program.bodies f b e) in
    let one : body.0 ≡ b = cc (body.1) in
    let over : All (IsInner program b.cells) b.top = subst (λ (x : Body). All (IsInner program x.cells) x.top) one (body.2.top le) in
    started_all program f b.top (all_beside program b.cells f None b.top over (body_top program f b v e))

pub started-home : (program : Program) (plan : Plan) (p budget : ℕ) → IsValid program → IsHome program (started program plan p budget)
started-home program plan p budget v = start_of program (program.functions + p) (slice_get program.bodies (program.functions + p)) v (omega arith) refl
