-- Where each deed leads a process that is on course.
use Rattle.law_steps.proofs.Course.Chains.{IsChain, body_chain, first_chain, second_chain, top_chain}
use Rattle.law_steps.proofs.Course.Deeds.{IsBranch, IsInvoke, IsLocal}
use Rattle.law_steps.proofs.Course.Outward.{as_parent_behind}
use Rattle.law_steps.proofs.Course.Rising.{child_stands, inner_kind, parent_below}
use Rattle.law_steps.proofs.Course.Standing.{in_itself, in_parent, not_in_later}
use Rattle.law_steps.proofs.Course.Successors.{has_rising_left, has_rising_right}
use Rattle.law_steps.proofs.Course.Ways.{function_way, head_todos, list_way}
use Rattle.law_steps.specs.Course.{BeginsList, GoesOn, IsBehind, IsMarkedBehind, IsWay}
use Rattle.ppd_ast.proofs.Members.{all_has, has_first, has_left, has_right}
use Rattle.ppd_ast.proofs.ValidLaws.{slice_get_below}
use Rattle.ppd_ast.proofs.Vocabulary.{kind_of_stmt}
use Rattle.ppd_ast.specs.Lookups.{body_numbered, kind_of, no_body}
use Rattle.ppd_ast.specs.Members.{has}
use Rattle.ppd_ast.specs.Numbered.{is_left, is_while}
use Rattle.ppd_ast.specs.Order.{inner}
use Rattle.ppd_ast.specs.Valid.{IsValid}
use Rattle.ppd_ast.specs.declared.plan.BlockKind.TheVariants as block
use Rattle.ppd_ast.specs.declared.plan.Plan.{Plan}
use Rattle.ppd_ast.specs.declared.program.Body.{Body}
use Rattle.ppd_ast.specs.declared.program.Kind.{Kind}
use Rattle.ppd_ast.specs.declared.program.Kind.TheVariants as K
use Rattle.ppd_ast.specs.declared.program.Program.{Program}
use Rattle.ppd_ast.specs.declared.program.Stmt.{Stmt}
use Rattle.ppd_blocks.specs.Walk.{stands_in}
use Rattle.ppd_sets.specs.Flow.{follow, next_of, successors}
use Rattle.ppd_sets.specs.Lists.{rising}
use Rattle.ppd_model.proofs.Changes.{some}
use Rattle.ppd_model.proofs.Parents.{none_some}
use Rattle.ppd_sem.proofs.Kept.{there_at}
use Rattle.ppd_sem.proofs.Validity.{valid-runnable}
use Rattle.ppd_sem.specs.Passed.{next_stmt_of}
use Rattle.ppd_sem.specs.Process.{entry_of, loop_of, todos}
use Rattle.ppd_sem.specs.Runs.{AreOfFunction, IsCallable, IsInner, IsRunnable, IsRunnableStmt, LeadsOn, returns, size_of}
use Rattle.ppd_sem.specs.Tables.{block_of}
use Rattle.ppd_sem.specs.declared.proc.Todo.{Todo}
use Rattle.std.proofs.Common.{Bool, List, None, Option, Some, [], ap, false, if◌then◌else◌, inl, inr, length, refl, subst, sym, true, true≢false, ℕ, ◌++◌, ◌∙◌, ◌∷◌, ◌≡◌, ◌⊎◌}
use Rattle.std.specs.List.{All}
use Rattle.std.specs.Option.{option_or}
use Rattle.std.specs.Prelude.{IsTrue, option_to_list, slice_get, unwrap_or}

-- ---- what a valid program's tables say of a statement

some_leads : (p : Program) (s : ℕ) (o : Option Stmt) → IsRunnable p → slice_get p.stmts s ≡ o → (n : ℕ) × LeadsOn p n (kind_of_stmt o)
some_leads p s None run at = (0, tt)
some_leads p s (Some x) run at =
    let found = there_at (λ _ x. IsRunnableStmt p x) p.stmts s run.stmts (slice_get_below p.stmts s x at) in
    let same : found.0 ≡ x = some (sym found.1 ∙ at) in
    (size_of p x.body, subst (λ (y : Stmt). LeadsOn p (size_of p y.body) y.kind) same found.2.leads)

leads : (p : Program) (s : ℕ) → IsValid p → (n : ℕ) × LeadsOn p n (kind_of p s)
leads p s v =
    some_leads p s (slice_get p.stmts s) (valid-runnable p v) refl

pub none_returns : (p : Program) (n : ℕ) (xs : List ℕ) → All (IsInner p n) xs → (x : ℕ) → IsTrue (has xs x) → returns (kind_of p x) ≡ false
none_returns p n xs all x h = (all_has (IsInner p n) xs x all h).stays

module _ (p : Program) (plan : Plan) (v : IsValid p) (t : Todo) (ts : List Todo) where
  abbrev k : Kind
  k = kind_of p t.stmt

  -- what stands in the statement
  child : (kind : Kind) (x : ℕ) → k ≡ kind → IsTrue (has (inner kind) x) → (y : Stmt) × (slice_get p.stmts x ≡ Some y) × (y.parent ≡ Some t.stmt)
  child kind x is h = child_stands p t.stmt x v (subst (λ xs. IsTrue (has xs x)) (sym (inner_kind p t.stmt ∙ ap inner is)) h)

  not_round : (kind : Kind) (x : ℕ) → k ≡ kind → IsTrue (has (inner kind) x) → stands_in p t.stmt x ≡ false
  not_round kind x is h = let y = child kind x is h in not_in_later p t.stmt x v (parent_below p x t.stmt y.0 v y.1 y.2)

  marks_of : (x : ℕ) (u : Todo) (us rest : List Todo) → rest ≡ u ∷ us → IsMarkedBehind p plan (Some x) rest → (b : ℕ) → block_of plan (block.Loop u.stmt) ≡ Some b → u.entered ≡ stands_in p x u.stmt
  marks_of x u us rest e h = subst (λ r. IsMarkedBehind p plan (Some x) r) e h

  -- ---- a statement that goes on with what follows it

  pub local_on : IsLocal k → IsBehind p plan (Some t.stmt) ts → GoesOn p plan t.stmt ts
  local_on l h u us e =
      let f : follow p t.stmt ≡ Some u.stmt = sym h.follows ∙ ap next_stmt_of e in
      record {
        next = subst (λ xs. IsTrue (has xs u.stmt)) (sym (l.goes t.stmt (follow p t.stmt) ∙ ap option_to_list f)) (has_first u.stmt []);
        same_unit = l.same_unit;
        marks = marks_of t.stmt u us ts e h.marks;
        inside = λ b w is. absurd (true≢false (sym w ∙ l.no_loop));
      }

  -- ---- a choice

  module _ (e : ℕ) (first second : List ℕ) (is_if : k ≡ K.If e first second) where
    part : (stmts : List ℕ) → (stmts ≡ first) ⊎ (stmts ≡ second) → (x : ℕ) → IsTrue (has stmts x) → IsTrue (has (first ++ second) x)
    part stmts c x h = elim c [
      | inl one ↦ has_left first second x (subst (λ xs. IsTrue (has xs x)) one h)
      | inr two ↦ has_right first second x (subst (λ xs. IsTrue (has xs x)) two h)
    ]

    choice_chain : (stmts : List ℕ) → (stmts ≡ first) ⊎ (stmts ≡ second) → IsChain p (follow p t.stmt) stmts
    choice_chain stmts c = elim c [
      | inl one ↦ subst (IsChain p (follow p t.stmt)) (sym one) (first_chain p t.stmt v e first second is_if)
      | inr two ↦ subst (IsChain p (follow p t.stmt)) (sym two) (second_chain p t.stmt v e first second is_if)
    ]

    choice_stays : (stmts : List ℕ) → (stmts ≡ first) ⊎ (stmts ≡ second) → (x : ℕ) → IsTrue (has stmts x) → returns (kind_of p x) ≡ false
    choice_stays stmts c x h =
        let l = leads p t.stmt v in
        let both : LeadsOn p l.0 (K.If e first second) = subst (λ (kind : Kind). LeadsOn p l.0 kind) is_if l.1 in
        elim c [
          | inl one ↦ none_returns p l.0 first both.0 x (subst (λ xs. IsTrue (has xs x)) one h)
          | inr two ↦ none_returns p l.0 second both.1 x (subst (λ xs. IsTrue (has xs x)) two h)
        ]

    -- behind the last of a branch the marks are those behind the choice
    choice_marks : (x : ℕ) → IsTrue (has (first ++ second) x) → (rest : List Todo) → IsBehind p plan (Some t.stmt) rest → IsMarkedBehind p plan (Some x) rest
    choice_marks x i [] h = tt
    choice_marks x i (u ∷ us) h =
        let y = child (K.If e first second) x is_if i in
        λ b is. h.marks b is ∙ sym (as_parent_behind p x t.stmt u.stmt y.0 v y.1 y.2 (sym h.follows))

    choice_next : (stmts : List ℕ) (u : ℕ) → (stmts ≡ first) ⊎ (stmts ≡ second) → option_or (slice_get stmts 0) (follow p t.stmt) ≡ Some u → IsTrue (has (next_of p t.stmt) u)
    choice_next stmts u c f =
        let after : Option ℕ = follow p t.stmt in
        subst (λ (kind : Kind). IsTrue (has (successors t.stmt kind after) u)) (sym is_if) (elim c [
          | inl one ↦ has_rising_left (option_or (slice_get first 0) after) (option_or (slice_get second 0) after) u (ap (λ xs. option_or (slice_get xs 0) after) (sym one) ∙ f)
          | inr two ↦ has_rising_right (option_or (slice_get first 0) after) (option_or (slice_get second 0) after) u (ap (λ xs. option_or (slice_get xs 0) after) (sym two) ∙ f)
        ])

    choice_begins : (stmts : List ℕ) → (stmts ≡ first) ⊎ (stmts ≡ second) → IsBehind p plan (Some t.stmt) ts → (u : Todo) (us : List Todo) → todos stmts ++ ts ≡ u ∷ us
        → (b : ℕ) → block_of plan (block.Loop u.stmt) ≡ Some b → u.entered ≡ stands_in p t.stmt u.stmt
    choice_begins [] c h u us same = marks_of t.stmt u us ts same h.marks
    choice_begins (x ∷ xs) c h u us same =
        let one : (record { stmt = x; entered = false; offered = false }) ≡ u = some (ap (λ l. slice_get l 0) same) in
        let no : stands_in p t.stmt x ≡ false = not_round (K.If e first second) x is_if (part (x ∷ xs) c x (has_first x xs)) in
        λ b is. subst (λ (z : Todo). z.entered ≡ stands_in p t.stmt z.stmt) one (sym no)

  pub choice_way : (calls : List (Option ℕ)) (stmts : List ℕ) → IsBranch k stmts → IsBehind p plan (Some t.stmt) ts → IsWay p plan calls ts → IsWay p plan calls (todos stmts ++ ts)
  choice_way calls stmts b h way =
      list_way p plan calls stmts ts (follow p t.stmt) (choice_chain b.test b.first b.second b.kind_is stmts b.choice)
      (choice_stays b.test b.first b.second b.kind_is stmts b.choice) h.follows
      (λ x i. choice_marks b.test b.first b.second b.kind_is x (part b.test b.first b.second b.kind_is stmts b.choice x i) ts h) way

  pub choice_on : (stmts : List ℕ) → IsBranch k stmts → IsBehind p plan (Some t.stmt) ts → GoesOn p plan t.stmt (todos stmts ++ ts)
  choice_on stmts b h u us same =
      let f : option_or (slice_get stmts 0) (follow p t.stmt) ≡ Some u.stmt = ap (option_or (slice_get stmts 0)) (sym h.follows) ∙ sym (head_todos stmts ts) ∙ ap next_stmt_of same in
      record {
        next = choice_next b.test b.first b.second b.kind_is stmts u.stmt b.choice f;
        same_unit = ap is_left b.kind_is;
        marks = choice_begins b.test b.first b.second b.kind_is stmts b.choice h u us same;
        inside = λ i w is. absurd (true≢false (sym w ∙ ap is_while b.kind_is));
      }

  -- ---- a loop

  module _ (e : ℕ) (body : List ℕ) (is_while_of : k ≡ K.While e body) (no_entry : entry_of p plan t ≡ None) where
    loop_no_entry : (if t.entered then None else block_of plan (block.Loop t.stmt)) ≡ None
    loop_no_entry = sym (ap (λ kind. if t.entered then None else loop_of plan t.stmt kind) is_while_of) ∙ no_entry

    -- a block loop that need not be entered is
    is_entered : (b : ℕ) → block_of plan (block.Loop t.stmt) ≡ Some b → t.entered ≡ true
    is_entered b is = by t.entered refl
      where
        by : (m : Bool) → t.entered ≡ m → m ≡ true
        by true m = refl
        by false m = absurd (none_some (sym (sym (ap (λ (x : Bool). if x then None else block_of plan (block.Loop t.stmt)) m) ∙ loop_no_entry) ∙ is))

    turn_marks : (x : ℕ) → IsTrue (has body x) → IsMarkedBehind p plan (Some x) (t ∷ ts)
    turn_marks x i b is = let y = child (K.While e body) x is_while_of i in is_entered b is ∙ sym (in_parent p x t.stmt y.0 y.1 y.2)

    pub turn_way : (calls : List (Option ℕ)) → IsWay p plan calls (t ∷ ts) → IsWay p plan calls (todos body ++ t ∷ ts)
    turn_way calls way =
        let l = leads p t.stmt v in
        let inside : LeadsOn p l.0 (K.While e body) = subst (λ (kind : Kind). LeadsOn p l.0 kind) is_while_of l.1 in
        list_way p plan calls body (t ∷ ts) (Some t.stmt) (body_chain p t.stmt v e body is_while_of) (none_returns p l.0 body inside) refl turn_marks way

    loop_next : (u : ℕ) → IsTrue (has (rising (option_or (slice_get body 0) (Some t.stmt)) (follow p t.stmt)) u) → IsTrue (has (next_of p t.stmt) u)
    loop_next u h = subst (λ (kind : Kind). IsTrue (has (successors t.stmt kind (follow p t.stmt)) u)) (sym is_while_of) h

    turn_begins : (stmts : List ℕ) → body ≡ stmts → (u : Todo) (us : List Todo) → todos stmts ++ t ∷ ts ≡ u ∷ us
        → ((b : ℕ) → block_of plan (block.Loop u.stmt) ≡ Some b → u.entered ≡ stands_in p t.stmt u.stmt) × (stands_in p u.stmt t.stmt ≡ true)
    turn_begins [] c u us same =
        let one : t ≡ u = some (ap (λ l. slice_get l 0) same) in
        subst (λ (z : Todo). ((b : ℕ) → block_of plan (block.Loop z.stmt) ≡ Some b → z.entered ≡ stands_in p t.stmt z.stmt) × (stands_in p z.stmt t.stmt ≡ true)) one
        (λ b is. is_entered b is ∙ sym (in_itself p t.stmt), in_itself p t.stmt)
    turn_begins (x ∷ xs) c u us same =
        let one : (record { stmt = x; entered = false; offered = false }) ≡ u = some (ap (λ l. slice_get l 0) same) in
        let i : IsTrue (has body x) = subst (λ l. IsTrue (has l x)) (sym c) (has_first x xs) in
        let y = child (K.While e body) x is_while_of i in
        let no : stands_in p t.stmt x ≡ false = not_round (K.While e body) x is_while_of i in
        subst (λ (z : Todo). ((b : ℕ) → block_of plan (block.Loop z.stmt) ≡ Some b → z.entered ≡ stands_in p t.stmt z.stmt) × (stands_in p z.stmt t.stmt ≡ true)) one
        (λ b is. sym no, in_parent p x t.stmt y.0 y.1 y.2)

    pub turn_on : GoesOn p plan t.stmt (todos body ++ t ∷ ts)
    turn_on u us same =
        let f : option_or (slice_get body 0) (Some t.stmt) ≡ Some u.stmt = sym (head_todos body (t ∷ ts)) ∙ ap next_stmt_of same in
        let begins = turn_begins body refl u us same in
        record {
          next = loop_next u.stmt (has_rising_left (option_or (slice_get body 0) (Some t.stmt)) (follow p t.stmt) u.stmt f);
          same_unit = ap is_left is_while_of;
          marks = begins.0;
          inside = λ b w is. begins.1;
        }

    -- the loop ends, and is no block
    pub leave_on : block_of plan (block.Loop t.stmt) ≡ None → IsBehind p plan (Some t.stmt) ts → GoesOn p plan t.stmt ts
    leave_on none h u us same =
        let f : follow p t.stmt ≡ Some u.stmt = sym h.follows ∙ ap next_stmt_of same in
        record {
          next = loop_next u.stmt (has_rising_right (option_or (slice_get body 0) (Some t.stmt)) (follow p t.stmt) u.stmt f);
          same_unit = ap is_left is_while_of;
          marks = marks_of t.stmt u us ts same h.marks;
          inside = λ b w is. absurd (none_some (sym none ∙ is));
        }

  -- ---- a call

  pub called : (f : ℕ) → IsInvoke k f → (m : ℕ) × IsCallable p f m
  called f i =
      let l = leads p t.stmt v in
      (length i.arguments, subst (λ (kind : Kind). LeadsOn p l.0 kind) i.kind_is l.1)

  module _ (f : ℕ) (n : ℕ) (ends : AreOfFunction p n (body_numbered p f).top) where
    pub call_way : (calls : List (Option ℕ)) → IsBehind p plan (Some t.stmt) ts → IsWay p plan calls ts → IsWay p plan (Some t.stmt ∷ calls) (todos (body_numbered p f).top ++ ts)
    call_way calls h way = by (slice_get p.bodies f) refl ends
      where
        by : (o : Option Body) → slice_get p.bodies f ≡ o → AreOfFunction p n (unwrap_or o no_body).top → IsWay p plan (Some t.stmt ∷ calls) (todos (unwrap_or o no_body).top ++ ts)
        by None at ends = absurd ends
        by (Some b) at ends = function_way p plan (Some t.stmt) calls n b.top ts (top_chain p f b v at) ends h way

    pub call_begins : BeginsList (body_numbered p f).top (todos (body_numbered p f).top ++ ts)
    call_begins = by (slice_get p.bodies f) ends
      where
        list : (xs : List ℕ) → AreOfFunction p n xs → BeginsList xs (todos xs ++ ts)
        list [] ends = absurd ends
        list (x ∷ xs) ends = record { first = refl; unmarked = λ u us same. let one : (record { stmt = x; entered = false; offered = false }) ≡ u = some (ap (λ l. slice_get l 0) same) in sym (ap (λ (z : Todo). z.entered) one) }

        by : (o : Option Body) → AreOfFunction p n (unwrap_or o no_body).top → BeginsList (unwrap_or o no_body).top (todos (unwrap_or o no_body).top ++ ts)
        by None ends = absurd ends
        by (Some b) ends = list b.top ends
