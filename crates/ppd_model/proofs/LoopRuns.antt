-- In a valid program, from a true test of a loop to its next test its activation has events of statements inside alone.
use Rattle.std.proofs.Common.{◌≡◌, ℕ, zero, suc, ◌+◌, ℤ, Bool, true, false, List, [], ◌∷◌, ◌++◌, Option, Some, None, Ok, Err, refl, ap, sym, subst, ◌∙◌, length, inl, inr, arith, if◌then◌else◌}
use Rattle.std.specs.Prelude.{nat_eq, ◌&&◌, not, drop, fold, slice_get, option_and_then, pos}
use Rattle.std.proofs.lemmas.Bool.{and_from, and_parts, both_ways, cases_Bool, eq-eqb, eqb-true}
use Rattle.std.specs.Ordering.{int_eq}
use Rattle.ppd_ast.specs.declared.plan.Plan.{Plan}
use Rattle.ppd_ast.specs.declared.program.Kind.{Kind}
use Rattle.ppd_ast.specs.declared.program.Kind.TheVariants as kind
use Rattle.ppd_ast.specs.declared.program.Program.{Program}
use Rattle.ppd_ast.specs.Term.{term}
use Rattle.ppd_ast.specs.Valid.{IsValid}
use Rattle.ppd_ast.specs.Lookups.{kind_of}
use Rattle.ppd_ast.specs.Numbered.{is_while}
use Rattle.ppd_sem.specs.declared.proc.Answer.{Answer}
use Rattle.ppd_sem.specs.declared.proc.Need.{Need}
use Rattle.ppd_sem.specs.declared.proc.Need.TheVariants.{Read, Enter, Offer, Done, Trap, Budget, Stopped}
use Rattle.ppd_sem.specs.declared.proc.Proc.{Proc}
use Rattle.ppd_sem.specs.declared.proc.Todo.{Todo}
use Rattle.ppd_sem.specs.Ask.{ask}
use Rattle.ppd_sem.specs.Asked.{Asked, and_then, gives}
use Rattle.ppd_sem.specs.Deed.{ask_deed, leave, turn}
use Rattle.ppd_sem.specs.Described.{evaluates, value_at, valued, is_event}
use Rattle.ppd_sem.proofs.EventWords.{value_if}
use Rattle.ppd_sem.specs.Process.{act, act_by_asked, act_by_need, head_deed, need_of, started, todos, top_frame}
use Rattle.ppd_sem.proofs.NeedWords.{act_at}
use Rattle.ppd_sem.specs.Runs.{returns}
use Rattle.ppd_model.specs.FullTrace.{Tracing, begun_tracing, event_of, is_passed, me_in, trace_step, with_test}
use Rattle.ppd_model.specs.LocalTags.{AreOwn, HasTags}
use Rattle.ppd_model.specs.Parents.{IsInside, IsUntested, LoopRunsStayInside, StaysInside, deeper, directly, is_choice, is_test, is_test_at}
use Rattle.ppd_model.specs.Story.{Story, Taken, story}
use Rattle.ppd_model.proofs.CallSteps.{tested_length}
use Rattle.ppd_model.proofs.LocalSteps.{Fits, FitsHead, fits, tags_its_writes}
use Rattle.ppd_model.proofs.LocalTags.{has_all, has_begun, own_steps_told}
use Rattle.ppd_model.proofs.Moves.{AllInner, AreTop, Leads, Move, backs, calls, chooses, idles, leads, passes, stays, step_moves, traps, turns}
use Rattle.ppd_model.proofs.Parents.{own_from, own_to}
use Rattle.ppd_model.proofs.TestSteps.{View, acts_length, views, views_length}

-- ---- what is to do inside a loop

-- the activations above that of the loop, after a statement, which may return
abbrev depth_after : Bool → ℕ → ℕ
depth_after true n = n
depth_after false n = suc n

-- statements to do, with so many activations above that of loop s: in its activation they stand inside it
abbrev AllIn : Program → ℕ → ℕ → List Todo → Type 0
AllIn program s n [] = n ≡ 0
AllIn program s zero (y ∷ ys) = (IsInside program s y.stmt × (returns (kind_of program y.stmt) ≡ false)) × AllIn program s zero ys
AllIn program s (suc n) (y ∷ ys) = AllIn program s (depth_after (returns (kind_of program y.stmt)) n) ys

-- the run of loop s of activation k goes on, where so many activations are there
record InLoop (program : Program) (k s count : ℕ) (todo : List Todo) : Type 0 where
  above : ℕ
  inside : List Todo
  loop : Todo
  rest : List Todo
  todo_is : todo ≡ inside ++ loop ∷ rest
  loop_is : loop.stmt ≡ s
  count_is : count ≡ k + 1 + above
  all_in : AllIn program s above inside

inner_in : (program : Program) (s r : ℕ) (stmts : List ℕ) (ys : List Todo) → ((i : ℕ) → option_and_then (λ x. x.parent) (slice_get program.stmts i) ≡ Some r → IsInside program s i) → AllInner program r stmts → AllIn program s zero ys → AllIn program s zero (todos stmts ++ ys)
inner_in program s r [] ys f inner h = h
inner_in program s r (i ∷ is) ys f inner h = ((f i inner.0.parent, inner.0.stays), inner_in program s r is ys f inner.1 h)

inner_up : (program : Program) (s r n : ℕ) (stmts : List ℕ) (ys : List Todo) → AllInner program r stmts → AllIn program s (suc n) ys → AllIn program s (suc n) (todos stmts ++ ys)
inner_up program s r n [] ys inner h = h
inner_up program s r n (i ∷ is) ys inner h =
    subst (λ b. AllIn program s (depth_after b n) (todos is ++ ys)) (sym inner.0.stays) (inner_up program s r n is ys inner.1 h)

top_in : (program : Program) (s n : ℕ) (stmts : List ℕ) (ys : List Todo) → AreTop program stmts → AllIn program s n ys → AllIn program s (suc n) (todos stmts ++ ys)
top_in program s n [] ys top h = absurd top
top_in program s n (i ∷ []) ys top h = subst (λ b. AllIn program s (depth_after b n) ys) (sym top.1) h
top_in program s n (i ∷ j ∷ is) ys top h =
    subst (λ b. AllIn program s (depth_after b n) (todos (j ∷ is) ++ ys)) (sym top.0.1) (top_in program s n (j ∷ is) ys top.1 h)

append_assoc : {A : Type 0} (xs ys zs : List A) → xs ++ (ys ++ zs) ≡ (xs ++ ys) ++ zs
append_assoc [] ys zs = refl
append_assoc (x ∷ xs) ys zs = ap (λ ws. x ∷ ws) (append_assoc xs ys zs)

-- ---- one step of a statement before the loop's next test

module _ (program : Program) (k s : ℕ) (y : Todo) (ys : List Todo) (loop : Todo) (rest : List Todo) (loop_is : loop.stmt ≡ s) (old tested : List View) (same : length tested ≡ length old) where
  abbrev ts : List Todo
  ts = ys ++ loop ∷ rest

  build : (n : ℕ) (xs todo : List Todo) (now : List View) → todo ≡ xs ++ loop ∷ rest → length now ≡ k + 1 + n → AllIn program s n xs → InLoop program k s (length now) todo
  build n xs todo now e count h = record { above = n; inside = xs; loop = loop; rest = rest; todo_is = e; loop_is = loop_is; count_is = count; all_in = h }

  -- in the loop's activation
  at_loop : (todo : List Todo) (now : List View) → length old ≡ k + 1 → AllIn program s zero (y ∷ ys) → Move program y ts old tested todo now → InLoop program k s (length now) todo
  at_loop todo now c h (stays u e t v) =
      build 0 (u ∷ ys) todo now t (ap length v ∙ c ∙ (let z : k + 1 ≡ k + 1 + 0 = omega arith in z))
      (subst (λ i. (IsInside program s i × (returns (kind_of program i) ≡ false)) × AllIn program s zero ys) (sym e) h)
  at_loop todo now c h (traps u e t v) =
      build 0 (u ∷ ys) todo now t (ap length v ∙ same ∙ c ∙ (let z : k + 1 ≡ k + 1 + 0 = omega arith in z))
      (subst (λ i. (IsInside program s i × (returns (kind_of program i) ≡ false)) × AllIn program s zero ys) (sym e) h)
  at_loop todo now c h (passes r t v) = build 0 ys todo now t (ap length v ∙ same ∙ c ∙ (let z : k + 1 ≡ k + 1 + 0 = omega arith in z)) h.1
  at_loop todo now c h (chooses stmts r choice inner t v) =
      build 0 (todos stmts ++ ys) todo now (t ∙ append_assoc (todos stmts) ys (loop ∷ rest)) (ap length v ∙ same ∙ c ∙ (let z : k + 1 ≡ k + 1 + 0 = omega arith in z))
      (inner_in program s y.stmt stmts ys (λ i e. deeper y.stmt e h.0.0) inner h.1)
  at_loop todo now c h (turns stmts r choice inner t v) =
      build 0 (todos stmts ++ y ∷ ys) todo now (t ∙ append_assoc (todos stmts) (y ∷ ys) (loop ∷ rest)) (ap length v ∙ same ∙ c ∙ (let z : k + 1 ≡ k + 1 + 0 = omega arith in z))
      (inner_in program s y.stmt stmts (y ∷ ys) (λ i e. deeper y.stmt e h.0.0) inner h)
  at_loop todo now c h (calls top me r are_top t v) =
      build 1 (todos top ++ ys) todo now (t ∙ append_assoc (todos top) ys (loop ∷ rest)) (ap length v ∙ ap suc (same ∙ c) ∙ (let z : suc (k + 1) ≡ k + 1 + 1 = omega arith in z))
      (top_in program s 0 top ys are_top h.1)
  at_loop todo now c h (backs r t v) = absurd (both_ways (returns (kind_of program y.stmt)) h.0.1 r)

  by_return : (n : ℕ) (b : Bool) → returns (kind_of program y.stmt) ≡ b → AllIn program s (suc n) (y ∷ ys) → AllIn program s (depth_after b n) ys
  by_return n b e h = subst (λ c. AllIn program s (depth_after c n) ys) e h

  dropped : (n : ℕ) (vs : List View) → length vs ≡ k + 1 + suc n → length (drop 1 vs) ≡ k + 1 + n
  dropped n [] e = absurd (omega arith)
  dropped n (v ∷ vs) e = omega arith

  -- in an activation above it
  above_loop : (n : ℕ) (todo : List Todo) (now : List View) → length old ≡ k + 1 + suc n → AllIn program s (suc n) (y ∷ ys) → Move program y ts old tested todo now → InLoop program k s (length now) todo
  above_loop n todo now c h (stays u e t v) =
      build (suc n) (u ∷ ys) todo now t (ap length v ∙ c) (subst (λ i. AllIn program s (depth_after (returns (kind_of program i)) n) ys) (sym e) h)
  above_loop n todo now c h (traps u e t v) =
      build (suc n) (u ∷ ys) todo now t (ap length v ∙ same ∙ c) (subst (λ i. AllIn program s (depth_after (returns (kind_of program i)) n) ys) (sym e) h)
  above_loop n todo now c h (passes r t v) = build (suc n) ys todo now t (ap length v ∙ same ∙ c) (by_return n false r h)
  above_loop n todo now c h (chooses stmts r choice inner t v) =
      build (suc n) (todos stmts ++ ys) todo now (t ∙ append_assoc (todos stmts) ys (loop ∷ rest)) (ap length v ∙ same ∙ c)
      (inner_up program s y.stmt n stmts ys inner (by_return n false r h))
  above_loop n todo now c h (turns stmts r choice inner t v) =
      build (suc n) (todos stmts ++ y ∷ ys) todo now (t ∙ append_assoc (todos stmts) (y ∷ ys) (loop ∷ rest)) (ap length v ∙ same ∙ c)
      (inner_up program s y.stmt n stmts (y ∷ ys) inner h)
  above_loop n todo now c h (calls top me r are_top t v) =
      build (suc (suc n)) (todos top ++ ys) todo now (t ∙ append_assoc (todos top) ys (loop ∷ rest)) (ap length v ∙ ap suc (same ∙ c) ∙ (let z : suc (k + 1 + suc n) ≡ k + 1 + suc (suc n) = omega arith in z))
      (top_in program s (suc n) top ys are_top (by_return n false r h))
  above_loop n todo now c h (backs r t v) =
      build n ys todo now t (ap length v ∙ dropped n tested (same ∙ c)) (by_return n true r h)

  by_depth : (n : ℕ) (todo : List Todo) (now : List View) → length old ≡ k + 1 + n → AllIn program s n (y ∷ ys) → Move program y ts old tested todo now → InLoop program k s (length now) todo
  by_depth zero todo now c h move = at_loop todo now (omega arith) h move
  by_depth (suc n) todo now c h move = above_loop n todo now c h move

-- ---- the steps of a run of the loop

module _ (program : Program) (plan : Plan) (story : Story) (p k s : ℕ) (valid : IsValid program) (loops : is_while (kind_of program s) ≡ true) where
  abbrev next : Tracing → Taken → Tracing
  next t x = trace_step program plan story p t x

  abbrev Runs : Tracing → Type 0
  Runs u = InLoop program k s (length (views u.activations)) u.proc.todo

  is_loop : (b : Kind) → is_while b ≡ true → is_choice b ≡ true
  is_loop (kind.While e body) h = refl
  is_loop b h = absurd (cc)

  -- at its own head the loop would be tested by an event
  no_event : (u : Tracing) (x : Taken) (loop : Todo) (rest : List Todo) → u.proc.todo ≡ loop ∷ rest → loop.stmt ≡ s → k + 1 ≡ length u.proc.frames → is_test program k s u.proc x ≡ false → is_event x.need ≡ false
  no_event u x loop rest todo_is loop_is top isnt = elim (cases_Bool (is_event x.need)) [
    | inr none ↦ none
    | inl is ↦
        let head : is_test_at program s (loop ∷ rest) ≡ true =
        and_from (nat_eq loop.stmt s) (is_choice (kind_of program loop.stmt)) (eq-eqb loop.stmt s loop_is) (is_loop (kind_of program loop.stmt) (ap (λ i. is_while (kind_of program i)) loop_is ∙ loops)) in
        let here : (nat_eq (k + 1) (length u.proc.frames) && is_test_at program s u.proc.todo) ≡ true =
        and_from (nat_eq (k + 1) (length u.proc.frames)) (is_test_at program s u.proc.todo) (eq-eqb (k + 1) (length u.proc.frames) top) (ap (λ todo. is_test_at program s todo) todo_is ∙ head) in
        absurd (both_ways (is_test program k s u.proc x) isnt (and_from (is_event x.need) (nat_eq (k + 1) (length u.proc.frames) && is_test_at program s u.proc.todo) is here))
  ]

  -- the next step of the loop itself is no event, and leaves it
  by_loop : (u : Tracing) (x : Taken) (loop : Todo) (rest : List Todo) → x.need ≡ need_of program plan u.proc → u.proc.todo ≡ loop ∷ rest → loop.stmt ≡ s → length (views u.activations) ≡ k + 1 → is_event x.need ≡ false → Runs (next u x)
  by_loop u x loop rest own todo_is loop_is count none =
      let idle = idles program plan story p u x loop rest own todo_is none in
      record { above = 0; inside = []; loop = idle.0; rest = rest; todo_is = idle.1; loop_is = idle.2 ∙ loop_is; count_is = ap length idle.3 ∙ count ∙ (let z : k + 1 ≡ k + 1 + 0 = omega arith in z); all_in = refl }

  by_inside : (u : Tracing) (x : Taken) (n : ℕ) (xs : List Todo) (loop : Todo) (rest : List Todo) → HasTags u → x.need ≡ need_of program plan u.proc → u.proc.todo ≡ xs ++ loop ∷ rest → loop.stmt ≡ s
      → length (views u.activations) ≡ k + 1 + n → AllIn program s n xs → is_test program k s u.proc x ≡ false → Runs (next u x)
  by_inside u x n [] loop rest has own todo_is loop_is count h isnt =
      let c : length (views u.activations) ≡ k + 1 = omega arith in
      by_loop u x loop rest own todo_is loop_is c (no_event u x loop rest todo_is loop_is (sym (sym (views_length u.activations ∙ acts_length u has) ∙ c)) isnt)
  by_inside u x n (y ∷ ys) loop rest has own todo_is loop_is count h isnt =
      by_depth program k s y ys loop rest loop_is (views u.activations) (views (with_test program (me_in p u) (event_of program plan u.proc x u.proc.todo) u.activations))
      (tested_length program (me_in p u) (event_of program plan u.proc x u.proc.todo) u.activations) n (next u x).proc.todo (views (next u x).activations) count h
      (step_moves program plan story p u x y (ys ++ loop ∷ rest) valid own todo_is)

  one_step : (u : Tracing) (x : Taken) → HasTags u → x.need ≡ need_of program plan u.proc → is_test program k s u.proc x ≡ false → Runs u → Runs (next u x)
  one_step u x has own isnt r = by_inside u x r.above r.inside r.loop r.rest has own r.todo_is r.loop_is r.count_is r.all_in isnt

  -- an event in the loop's activation is of a statement inside
  inside_of : (u : Tracing) (x : Taken) (n : ℕ) (xs : List Todo) (loop : Todo) (rest : List Todo) → u.proc.todo ≡ xs ++ loop ∷ rest → loop.stmt ≡ s → n ≡ 0 → AllIn program s n xs → k + 1 ≡ length u.proc.frames
      → is_test program k s u.proc x ≡ false → is_event x.need ≡ true → IsInside program s (event_of program plan u.proc x u.proc.todo).stmt
  inside_of u x n [] loop rest todo_is loop_is none h top isnt is = absurd (both_ways (is_event x.need) (no_event u x loop rest todo_is loop_is top isnt) is)
  inside_of u x zero (y ∷ ys) loop rest todo_is loop_is none h top isnt is =
      subst (λ i. IsInside program s i) (sym (ap (λ todo. (event_of program plan u.proc x todo).stmt) todo_is)) h.0.0
  inside_of u x (suc n) (y ∷ ys) loop rest todo_is loop_is none h top isnt is = absurd (omega arith)

  at_step : (u : Tracing) (x : Taken) → HasTags u → is_test program k s u.proc x ≡ false → Runs u → is_event x.need ≡ true → k + 1 ≡ length u.proc.frames → IsInside program s (event_of program plan u.proc x u.proc.todo).stmt
  at_step u x has isnt r is top =
      let n : length (views u.activations) ≡ length u.proc.frames = views_length u.activations ∙ acts_length u has in
      let count : length (views u.activations) ≡ k + 1 + r.above = r.count_is in
      inside_of u x r.above r.inside r.loop r.rest r.todo_is r.loop_is (omega arith) r.all_in top isnt is

  stays_inside : (u : Tracing) (xs : List Taken) → HasTags u → AreOwn program plan u.proc xs → IsUntested program plan k s u.proc xs → Runs u → StaysInside program plan k s u.proc xs
  stays_inside u [] has own h r = tt
  stays_inside u (x ∷ xs) has own h r = (
    λ is top. at_step u x has h.1.0 r is top,
    stays_inside (next u x) xs (tags_its_writes program plan story p u x has own.0).has_tags own.1 h.1.1 (one_step u x has own.0 h.1.0 r),
  )

-- ---- the test that begins it

-- the asked deed of a loop whose value is true
turned : (r : Asked ℤ) (body : List ℕ) → is_passed (value_if r) ≡ true → (left : List ℤ) × (and_then r (λ v left. gives left (if int_eq v (pos 0) then leave else turn body)) ≡ gives left (turn body))
turned (Err pause) body e = absurd (cc)
turned (Ok q) body e = (q.1, by (int_eq q.0 (pos 0)) refl)
  where
    by : (b : Bool) → int_eq q.0 (pos 0) ≡ b → gives q.1 (if int_eq q.0 (pos 0) then leave else turn body) ≡ gives q.1 (turn body)
    by true z = absurd (both_ways (not (int_eq q.0 (pos 0))) (ap not z) e)
    by false z = ap (λ b. gives q.1 (if b then leave else turn body)) z

-- what is there and not 0 was evaluated
passed_value : (b : Bool) (v : Option ℤ) → is_passed (if b then v else None) ≡ true → is_passed v ≡ true
passed_value true v e = e
passed_value false v e = absurd (cc)

turns_by : (program : Program) (plan : Plan) (a : Answer) (t : Todo) (ts : List Todo) (s : Proc) (body : List ℕ) (left : List ℤ) (n : Need) → head_deed program t s ≡ Ok (turn body, left) → is_event n ≡ true → Fits n (head_deed program t s)
    → ((act_by_need program plan a t ts n s).todo ≡ todos body ++ t ∷ ts) × ((act_by_need program plan a t ts n s).frames ≡ s.frames)
turns_by program plan a t ts s body left (Read c) asked e f = absurd (cc)
turns_by program plan a t ts s body left (Enter b u) asked e f = absurd (cc)
turns_by program plan a t ts s body left Budget asked e f = absurd (cc)
turns_by program plan a t ts s body left Stopped asked e f = absurd (cc)
turns_by program plan a t ts s body left (Trap x) asked e f = absurd (subst (λ r. Fits (Trap x) r) asked f)
turns_by program plan a t ts s body left (Offer c v) asked e f = absurd (subst (λ r. Fits (Offer c v) r) asked f)
turns_by program plan a t ts s body left (Done c u) asked e f = absurd (subst (λ r. Fits (Done c u) r) asked f)
turns_by program plan a t ts s body left n asked e f = (ap (λ r. (act_by_asked program a t ts r s).todo) asked, ap (λ r. (act_by_asked program a t ts r s).frames) asked)

-- the body of a loop
record Loop (program : Program) (s : ℕ) (k : Kind) : Type 0 where
  value : ℕ
  body : List ℕ
  kind_is : k ≡ kind.While value body
  inner : AllInner program s body

loop_of : (program : Program) (s : ℕ) (k : Kind) → is_while k ≡ true → Leads program s k → Loop program s k
loop_of program s (kind.While e body) w h = record { value = e; body = body; kind_is = refl; inner = h }
loop_of program s k w h = absurd (cc)

module _ (program : Program) (plan : Plan) (story : Story) (p k s : ℕ) (valid : IsValid program) (loops : is_while (kind_of program s) ≡ true) where
  abbrev u_next : Tracing → Taken → Tracing
  u_next t x = trace_step program plan story p t x

  abbrev RunsAt : Tracing → Type 0
  RunsAt u = InLoop program k s (length (views u.activations)) u.proc.todo

  -- the head is the loop
  begins : (u : Tracing) (x : Taken) (t : Todo) (ts : List Todo) → x.need ≡ need_of program plan u.proc → u.proc.todo ≡ t ∷ ts → t.stmt ≡ s → is_event x.need ≡ true → HasTags u → k + 1 ≡ length u.proc.frames
      → is_passed (event_of program plan u.proc x u.proc.todo).value ≡ true → RunsAt (u_next u x)
  begins u x t ts own todo_is loop_is event has top passed =
      let loop : Loop program s (kind_of program s) = loop_of program s (kind_of program s) loops (leads program s valid) in
      let kind_is : kind_of program t.stmt ≡ kind.While loop.value loop.body = ap (λ i. kind_of program i) loop_is ∙ loop.kind_is in
      let value : is_passed (value_if (ask (term program.exprs loop.value) (top_frame u.proc.frames).cells u.proc.answers)) ≡ true =
      sym (ap (λ w. is_passed (value_at program.exprs (top_frame u.proc.frames).cells u.proc.answers (valued w))) kind_is)
      ∙ passed_value (evaluates (need_of program plan u.proc)) (value_at program.exprs (top_frame u.proc.frames).cells u.proc.answers (valued (kind_of program t.stmt)))
      (sym (ap (λ todo. is_passed (event_of program plan u.proc x todo).value) todo_is) ∙ passed) in
      let turn_is = turned (ask (term program.exprs loop.value) (top_frame u.proc.frames).cells u.proc.answers) loop.body value in
      let asked : head_deed program t u.proc ≡ Ok (turn loop.body, turn_is.0) = ap (λ w. ask_deed program.exprs w (top_frame u.proc.frames).cells u.proc.answers) kind_is ∙ turn_is.1 in
      let fit : FitsHead program u.proc (need_of program plan u.proc) (t ∷ ts) = subst (λ todo. FitsHead program u.proc (need_of program plan u.proc) todo) todo_is (fits program plan u.proc) in
      let both = turns_by program plan x.answer t ts u.proc loop.body turn_is.0 (need_of program plan u.proc) asked (ap is_event (sym own) ∙ event) fit in
      let after : (u_next u x).proc.todo ≡ todos loop.body ++ t ∷ ts = ap (λ todo. (act_at program plan x.answer todo u.proc).todo) todo_is ∙ both.0 in
      let frames : (u_next u x).proc.frames ≡ u.proc.frames = ap (λ todo. (act_at program plan x.answer todo u.proc).frames) todo_is ∙ both.1 in
      let has_tags : HasTags (u_next u x) = (tags_its_writes program plan story p u x has own).has_tags in
      let count : length (views (u_next u x).activations) ≡ k + 1 = views_length (u_next u x).activations ∙ acts_length (u_next u x) has_tags ∙ ap length frames ∙ sym top in
      record {
        above = 0;
        inside = todos loop.body;
        loop = t;
        rest = ts;
        todo_is = after;
        loop_is = loop_is;
        count_is = count ∙ (let z : k + 1 ≡ k + 1 + 0 = omega arith in z);
        all_in = body_in loop.body loop.inner;
      }
    where
      body_in : (stmts : List ℕ) → AllInner program s stmts → AllIn program s zero (todos stmts)
      body_in [] inner = refl
      body_in (i ∷ is) inner = ((directly inner.0.parent, inner.0.stays), body_in is inner.1)

  headed : (todo : List Todo) → is_test_at program s todo ≡ true → (t : Todo) × (ts : List Todo) × (todo ≡ t ∷ ts) × (t.stmt ≡ s)
  headed [] e = absurd (cc)
  headed (t ∷ ts) e = (t, ts, refl, eqb-true t.stmt s (and_parts (nat_eq t.stmt s) (is_choice (kind_of program t.stmt)) e).0)

  by_test : (u : Tracing) (x : Taken) (xs : List Taken) → HasTags u → AreOwn program plan u.proc (x ∷ xs) → is_test program k s u.proc x ≡ true → is_passed (event_of program plan u.proc x u.proc.todo).value ≡ true
      → IsUntested program plan k s (act program plan u.proc x.answer) xs → StaysInside program plan k s (act program plan u.proc x.answer) xs
  by_test u x xs has own is passed steady =
      let both : (is_event x.need ≡ true) × ((nat_eq (k + 1) (length u.proc.frames) && is_test_at program s u.proc.todo) ≡ true) = and_parts (is_event x.need) (nat_eq (k + 1) (length u.proc.frames) && is_test_at program s u.proc.todo) is in
      let inner : (nat_eq (k + 1) (length u.proc.frames) ≡ true) × (is_test_at program s u.proc.todo ≡ true) = and_parts (nat_eq (k + 1) (length u.proc.frames)) (is_test_at program s u.proc.todo) both.1 in
      let head = headed u.proc.todo inner.1 in
      let runs : RunsAt (u_next u x) = begins u x head.0 head.1 own.0 head.2 head.3 both.0 has (eqb-true (k + 1) (length u.proc.frames) inner.0) passed in
      stays_inside program plan story p k s valid loops (u_next u x) xs (tags_its_writes program plan story p u x has own.0).has_tags own.1 steady runs

pub runs_inside : LoopRunsStayInside
runs_inside setting h p before after k s event valid steps loops l =
    let st : Story = story setting h in
    let t : Tracing = begun_tracing (started setting.program setting.plan p setting.budget) in
    let u : Tracing = fold (trace_step setting.program setting.plan st p) t l.before in
    let mine : AreOwn setting.program setting.plan t.proc (before ++ after) = subst (λ xs. AreOwn setting.program setting.plan t.proc xs) steps (own_steps_told setting h p) in
    let split : AreOwn setting.program setting.plan t.proc (l.before ++ l.taken ∷ l.after) = subst (λ xs. AreOwn setting.program setting.plan t.proc xs) l.steps_are (own_to setting.program setting.plan st p t.proc before after mine) in
    let has : HasTags u = has_all setting.program setting.plan st p t l.before (has_begun (started setting.program setting.plan p setting.budget).frames) (own_to setting.program setting.plan st p t.proc l.before (l.taken ∷ l.after) split) in
    by_test setting.program setting.plan st p k s valid loops u l.taken l.after has (own_from setting.program setting.plan st p t l.before (l.taken ∷ l.after) split) l.tests (sym l.passed_is) l.steady
