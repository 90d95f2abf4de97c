-- A process of a valid program never runs out of statements.
use Rattle.std.proofs.Common.{◌≡◌, ◌≢◌, ℕ, zero, suc, ℤ, ◌+◌, ◌-◌, ◌<◌, ◌≤◌, Bool, true, false, nat_le, nat_lt, List, [], ◌∷◌, ◌++◌, length, Option, Some, None, Ok, Err, refl, sym, subst, ap, ◌∙◌, arith, inl, inr, ◌⊎◌, true≢false, if◌then◌else◌}
use Rattle.std.specs.Prelude.{IsSomeAnd, IsTrue, slice_get, unwrap_or}
use Rattle.std.proofs.lemmas.Bool.Decides.{nat_tests}
use Rattle.ppd_ast.specs.declared.plan.BlockKind.TheVariants as block
use Rattle.ppd_ast.specs.declared.plan.Plan.{Plan}
use Rattle.ppd_ast.specs.declared.plan.Start.TheVariants as start
use Rattle.ppd_ast.specs.declared.program.Body.{Body}
use Rattle.ppd_ast.specs.declared.program.Kind.{Kind}
use Rattle.ppd_ast.specs.declared.program.Kind.TheVariants as K
use Rattle.ppd_ast.specs.declared.program.Program.{Program}
use Rattle.ppd_ast.specs.declared.program.Stmt.{Stmt}
use Rattle.ppd_ast.specs.declared.status.Status.{Status}
use Rattle.ppd_ast.specs.declared.status.Status.TheVariants as status
use Rattle.ppd_ast.specs.declared.status.Trap.TheVariants as trap
use Rattle.ppd_ast.specs.Valid.{EndsBody, IsEnding, IsValid, IsValidBody, last_of}
use Rattle.ppd_ast.proofs.ValidLaws.{slice_get_there, some_and, stmt_in_body, valid_body}
use Rattle.ppd_ast.specs.Members.{has}
use Rattle.ppd_ast.specs.Lookups.{kind_of, body_numbered, no_body}
use Rattle.ppd_ast.proofs.Vocabulary.{kind_of_stmt}
use Rattle.ppd_ast.proofs.Members.{has_first, has_later}
use Rattle.ppd_ast.specs.declared.limits.TheConstants.{MOST_CALLS}
use Rattle.ppd_sem.specs.declared.asking.Pause.TheVariants.{Wants, Traps}
use Rattle.ppd_sem.specs.declared.proc.Answer.{Answer}
use Rattle.ppd_sem.specs.declared.proc.Need.{Need}
use Rattle.ppd_sem.specs.declared.proc.Need.TheVariants.{Read, Write, Plain, Enter, Leave, Invoke, Back, P, V, Send, Offer, Done, Recv, End, Trap, Budget, Stopped}
use Rattle.ppd_sem.specs.declared.proc.Proc.{Proc}
use Rattle.ppd_sem.specs.declared.proc.Todo.{Todo}
use Rattle.ppd_sem.specs.Asked.{Asked, gives}
use Rattle.ppd_sem.specs.Deed.{Deed, set_local, set_shared, clear, branch, turn, leave, invoke, back, take, give, send, receive, print, pass, finish, ask_deed}
use Rattle.ppd_sem.proofs.Offers.{CompletesSend, completes}
use Rattle.ppd_sem.specs.Process.{chan_of, need_of_send, offer_of, act, act_by_asked, act_by_deed, act_by_need, cost, entry_of, head_deed, need_of, need_of_deed, need_of_head, need_of_leaving, todos, top_frame}
use Rattle.ppd_sem.proofs.NeedWords.{act_at, need_by_entry, need_by_offer, need_of_running}
use Rattle.ppd_sem.specs.Tables.{capacity_of, block_of, unit_of}
use Rattle.ppd_sem.proofs.Progress.{act-stopped, need_at_status, need_at_todo}
use Rattle.law_steps.specs.Course.{EndsWithEnd, GoesUntilEnd}
use Rattle.law_steps.specs.Steps.{NeverRunsOut}
use Rattle.law_steps.proofs.Course.Rising.{top_stands}
use Rattle.ppd_model.proofs.Changes.{some}
use Rattle.ppd_model.proofs.Parents.{none_some}

-- ---- what is to do

module _ (p : Program) where
  more_with : (t : Todo) (ts : List Todo) → EndsWithEnd p ts → EndsWithEnd p (t ∷ ts)
  more_with t [] h = absurd h
  more_with t (u ∷ us) h = h

  more_behind : (xs : List ℕ) (ts : List Todo) → EndsWithEnd p ts → EndsWithEnd p (todos xs ++ ts)
  more_behind [] ts h = h
  more_behind (x ∷ xs) ts h = more_with (record { stmt = x; entered = false; offered = false }) (todos xs ++ ts) (more_behind xs ts h)

  marked_more : (t : Todo) (ts : List Todo) → EndsWithEnd p (t ∷ ts) → EndsWithEnd p (record t { entered = true } ∷ ts)
  marked_more t [] h = h
  marked_more t (u ∷ us) h = h

  offered_more : (t : Todo) (ts : List Todo) → EndsWithEnd p (t ∷ ts) → EndsWithEnd p (record t { offered = true } ∷ ts)
  offered_more t [] h = h
  offered_more t (u ∷ us) h = h

  -- the head is the `End`, or it is still to come
  last_or : (t : Todo) (ts : List Todo) → EndsWithEnd p (t ∷ ts) → (kind_of p t.stmt ≡ K.End) ⊎ EndsWithEnd p ts
  last_or t [] h = inl h
  last_or t (u ∷ us) h = inr h

  -- ---- a step

  stopped : (s : Proc) (x : Status) → s.status ≡ Some x → GoesUntilEnd p s
  stopped s x is none = absurd (none_some (sym none ∙ is))

  deed_more : (a : Answer) (t : Todo) (ts : List Todo) (d : Deed) (s : Proc) → EndsWithEnd p ts → EndsWithEnd p (act_by_deed p a t ts d s).todo
  deed_more a t ts (set_local c v) s h = h
  deed_more a t ts (set_shared c v) s h = h
  deed_more a t ts (clear base len) s h = h
  deed_more a t ts (branch stmts) s h = more_behind stmts ts h
  deed_more a t ts (turn stmts) s h = more_behind stmts (t ∷ ts) (more_with t ts h)
  deed_more a t ts leave s h = h
  deed_more a t ts (invoke f values into) s h = more_behind (body_numbered p f).top ts h
  deed_more a t ts (back value) s h = h
  deed_more a t ts (take sem) s h = h
  deed_more a t ts (give sem) s h = h
  deed_more a t ts (send chan value) s h = h
  deed_more a t ts (receive chan into) s h = h
  deed_more a t ts (print v) s h = h
  deed_more a t ts pass s h = h
  deed_more a t ts finish s h = h

  asked_more : (a : Answer) (t : Todo) (ts : List Todo) (asked : Asked Deed) (s : Proc) → s.todo ≡ t ∷ ts → EndsWithEnd p (t ∷ ts) → EndsWithEnd p ts → GoesUntilEnd p (act_by_asked p a t ts asked s)
  asked_more a t ts (Ok q) s is whole h none = deed_more a t ts q.0 (record s { answers = [] }) h
  asked_more a t ts (Err (Wants c)) s is whole h none = subst (EndsWithEnd p) (sym is) whole
  asked_more a t ts (Err (Traps x)) s is whole h none = absurd (none_some (sym none))

  ends_now : (t : Todo) (s : Proc) → kind_of p t.stmt ≡ K.End → head_deed p t s ≡ gives s.answers finish
  ends_now t s is = ap (λ (k : Kind). ask_deed p.exprs k (top_frame s.frames).cells s.answers) is

  head_more : (a : Answer) (t : Todo) (ts : List Todo) (s : Proc) → s.todo ≡ t ∷ ts → EndsWithEnd p (t ∷ ts) → GoesUntilEnd p (act_by_asked p a t ts (head_deed p t s) s)
  head_more a t ts s is h =
      elim (last_or t ts h) [
        | inl last ↦
            subst (λ (asked : Asked Deed). GoesUntilEnd p (act_by_asked p a t ts asked s)) (sym (ends_now t s last))
            (stopped (act_by_asked p a t ts (gives s.answers finish) s) status.Ended refl)
        | inr more ↦ asked_more a t ts (head_deed p t s) s is h more
      ]

  need_more : (plan : Plan) (a : Answer) (t : Todo) (ts : List Todo) (n : Need) (s : Proc) → CompletesSend p t.stmt n → s.todo ≡ t ∷ ts → EndsWithEnd p (t ∷ ts) → GoesUntilEnd p (act_by_need p plan a t ts n s)
  need_more plan a t ts (Read c) s o is h = head_more a t ts s is h
  need_more plan a t ts (Write c v) s o is h = head_more a t ts s is h
  need_more plan a t ts Plain s o is h = head_more a t ts s is h
  need_more plan a t ts (Enter b u) s o is h = λ none. marked_more t ts h
  need_more plan a t ts (Leave b u) s o is h = head_more a t ts s is h
  need_more plan a t ts (Invoke b u) s o is h = head_more a t ts s is h
  need_more plan a t ts (Back b u) s o is h = head_more a t ts s is h
  need_more plan a t ts (P x u) s o is h = head_more a t ts s is h
  need_more plan a t ts (V x u) s o is h = head_more a t ts s is h
  need_more plan a t ts (Send c v u) s o is h = head_more a t ts s is h
  need_more plan a t ts (Offer c v) s o is h = λ none. offered_more t ts h
  need_more plan a t ts (Done c u) s o is h =
      elim (last_or t ts h) [
        | inl last ↦ λ none. absurd (none_some (sym (ap chan_of last) ∙ o))
        | inr more ↦ λ none. more
      ]
  need_more plan a t ts (Recv c u) s o is h = head_more a t ts s is h
  need_more plan a t ts (End b) s o is h = head_more a t ts s is h
  need_more plan a t ts (Trap x) s o is h = λ none. absurd (none_some (sym none))
  need_more plan a t ts Budget s o is h = λ none. absurd (none_some (sym none))
  need_more plan a t ts Stopped s o is h = λ none. subst (EndsWithEnd p) (sym is) h

  todo_more : (plan : Plan) (a : Answer) (s : Proc) (todo : List Todo) → s.todo ≡ todo → EndsWithEnd p todo → GoesUntilEnd p (act p plan s a)
  todo_more plan a s [] is h = absurd h
  todo_more plan a s (t ∷ ts) is h = subst (λ (after : Proc). GoesUntilEnd p after) (sym (ap (λ l. act_at p plan a l s) is)) (need_more plan a t ts (need_of p plan s) s (completes p plan s t ts is) is h)

  step_more : (plan : Plan) (a : Answer) (s : Proc) (o : Option Status) → s.status ≡ o → GoesUntilEnd p s → GoesUntilEnd p (act p plan s a)
  step_more plan a s None is h = todo_more plan a s s.todo refl (h is)
  step_more plan a s (Some x) is h = subst (λ (after : Proc). GoesUntilEnd p after) (sym (act-stopped p plan s a (need_at_status p plan s (Some x) is))) h

  -- ---- the need

  leaves_some : (plan : Plan) (t : ℕ) (o : Option ℕ) → need_of_leaving plan t o ≢ Stopped
  leaves_some plan t None e = cc
  leaves_some plan t (Some b) e = cc

  calls_some : (u : ℕ) (o : Option ℕ) (deep : Bool) → (if deep then Trap trap.Depth else Invoke o u) ≢ Stopped
  calls_some u o true e = cc
  calls_some u o false e = cc

  sends_some : (plan : Plan) (t n c : ℕ) (v : ℤ) → need_of_send plan t n c v ≢ Stopped
  sends_some plan t zero c v e = cc
  sends_some plan t (suc n) c v e = cc

  -- what a statement needs is never Stopped
  pub deed_needs : (plan : Plan) (t : ℕ) (s : Proc) (d : Deed) → need_of_deed p plan t s d ≢ Stopped
  deed_needs plan t s (set_local c v) e = cc
  deed_needs plan t s (set_shared c v) e = cc
  deed_needs plan t s (clear base len) e = cc
  deed_needs plan t s (branch stmts) e = cc
  deed_needs plan t s (turn stmts) e = cc
  deed_needs plan t s leave e = leaves_some plan t (block_of plan (block.Loop t)) e
  deed_needs plan t s (invoke f values into) e =
      calls_some (unit_of plan (start.Entry f)) (block_of plan (block.Function f)) (nat_lt MOST_CALLS (s.below + length s.frames)) e
  deed_needs plan t s (back value) e = cc
  deed_needs plan t s (take sem) e = cc
  deed_needs plan t s (give sem) e = cc
  deed_needs plan t s (send chan value) e = sends_some plan t (capacity_of p chan) chan value e
  deed_needs plan t s (receive chan into) e = cc
  deed_needs plan t s (print v) e = cc
  deed_needs plan t s pass e = cc
  deed_needs plan t s finish e = cc

  pub entry_needs : (plan : Plan) (t : ℕ) (s : Proc) (o : Option ℕ) (asked : Asked Deed) → need_by_entry p plan t s o asked ≢ Stopped
  entry_needs plan t s (Some b) asked e = cc
  entry_needs plan t s None (Ok q) e = deed_needs plan t s q.0 e
  entry_needs plan t s None (Err (Wants c)) e = cc
  entry_needs plan t s None (Err (Traps x)) e = cc

  pub offer_needs : (plan : Plan) (t : ℕ) (o : Option ℕ) (n : Need) → n ≢ Stopped → need_by_offer plan t o n ≢ Stopped
  offer_needs plan t (Some c) n h e = cc
  offer_needs plan t None n h e = h e

  paid_needs : (poor : Bool) (n : Need) → n ≢ Stopped → (if poor then Budget else n) ≢ Stopped
  paid_needs true n h e = cc
  paid_needs false n h e = h e

  pub head_needs : (plan : Plan) (t : Todo) (s : Proc) → need_of_head p plan t s ≢ Stopped
  head_needs plan t s =
      offer_needs plan t.stmt (offer_of p t) (need_by_entry p plan t.stmt s (entry_of p plan t) (head_deed p t s)) (entry_needs plan t.stmt s (entry_of p plan t) (head_deed p t s))

  pub todo_needs : (plan : Plan) (s : Proc) (todo : List Todo) → EndsWithEnd p todo → need_of_running p plan todo s ≢ Stopped
  todo_needs plan s [] h e = absurd h
  todo_needs plan s (t ∷ ts) h e = paid_needs (nat_lt s.budget (s.spent + cost plan (need_of_head p plan t s))) (need_of_head p plan t s) (head_needs plan t s) e

-- ---- the start

list_ends : (p : Program) (xs : List ℕ) (k : ℕ) → last_of xs ≡ Some k → kind_of p k ≡ K.End → EndsWithEnd p (todos xs)
list_ends p [] k last is = absurd (none_some last)
list_ends p (x ∷ []) k last is = subst (λ i. kind_of p i ≡ K.End) (sym (some last)) is
list_ends p (x ∷ y ∷ xs) k last is =
    let shorter : length (x ∷ y ∷ xs) - 1 ≡ suc (length (y ∷ xs) - 1) = omega arith in
    list_ends p (y ∷ xs) k (sym (ap (λ i. slice_get (x ∷ y ∷ xs) i) shorter) ∙ last) is

-- a statement that ends a process's body is an `End`
ends_process : (b : Body) (k : ℕ) (kind : Kind) → b.process ≡ true → IsEnding kind → EndsBody b k kind → kind ≡ K.End
ends_process b k (K.Return v) process ending h = absurd (true≢false (sym process ∙ h.0))
ends_process b k K.End process ending h = refl
ends_process b k (K.Set t e) process ending h = absurd ending
ends_process b k (K.Zero base len) process ending h = absurd ending
ends_process b k (K.If e first second) process ending h = absurd ending
ends_process b k (K.While e body) process ending h = absurd ending
ends_process b k (K.Call f args into) process ending h = absurd ending
ends_process b k (K.P s) process ending h = absurd ending
ends_process b k (K.V s) process ending h = absurd ending
ends_process b k (K.Send c e) process ending h = absurd ending
ends_process b k (K.Recv c into) process ending h = absurd ending
ends_process b k (K.Print e) process ending h = absurd ending
ends_process b k (K.Assert e) process ending h = absurd ending

pub slice_has : (xs : List ℕ) (i k : ℕ) → slice_get xs i ≡ Some k → IsTrue (has xs k)
slice_has [] i k e = absurd (none_some e)
slice_has (x ∷ xs) zero k e = subst (λ y. IsTrue (has (x ∷ xs) y)) (some e) (has_first x xs)
slice_has (x ∷ xs) (suc i) k e = has_later x k xs (slice_has xs i k e)

body_ends : (p : Program) (j : ℕ) (b : Body) → IsValid p → p.functions ≤ j → slice_get p.bodies j ≡ Some b → EndsWithEnd p (todos b.top)
body_ends p j b v le at =
    let valid : IsValidBody p j b = valid_body p j b v at in
    let late : nat_le p.functions j ≡ true = grind (arith, nat_tests) in
    let last = some_and (λ i. IsSomeAnd (slice_get p.stmts i) (λ (s : Stmt). IsEnding s.kind)) (last_of b.top) valid.ending in
    let x = some_and (λ (s : Stmt). IsEnding s.kind) (slice_get p.stmts last.0) last.2 in
    let y = top_stands p j last.0 b v at (slice_has b.top (length b.top - 1) last.0 last.1) in
    let same : y.0 ≡ x.0 = some (sym y.1 ∙ x.1) in
    let own = stmt_in_body p last.0 x.0 v x.1 in
    let mine : own.0 ≡ b = some (sym own.1 ∙ ap (slice_get p.bodies) (sym (ap (λ (s : Stmt). s.body) same) ∙ y.3) ∙ at) in
    let ends : EndsBody b last.0 x.0.kind = subst (λ (body : Body). EndsBody body last.0 x.0.kind) mine own.2.ending in
    list_ends p b.top last.0 last.1 (ap kind_of_stmt x.1 ∙ ends_process b last.0 x.0.kind (valid.process ∙ late) x.2 ends)

start_ends : (p : Program) (j : ℕ) (o : Option Body) → IsValid p → p.functions ≤ j → j < length p.bodies → slice_get p.bodies j ≡ o → EndsWithEnd p (todos (unwrap_or o no_body).top)
start_ends p j None v le lt at = let there = slice_get_there p.bodies j lt in absurd (none_some (sym at ∙ there.1))
start_ends p j (Some b) v le lt at = body_ends p j b v le at

pub never_runs_out : NeverRunsOut
never_runs_out = record {
  starts = λ p plan process budget v lt none. start_ends p (p.functions + process) (slice_get p.bodies (p.functions + process)) v (omega arith) lt refl;
  stays = λ p plan s a h. step_more p plan a s s.status refl h;
  needs = λ p plan s h none e. todo_needs p plan s s.todo (h none) (sym (need_at_todo p plan s s.todo none refl) ∙ e);
}
