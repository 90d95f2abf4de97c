-- A call is made in an activation that has an interval.
use Rattle.std.proofs.Common.{◌≡◌, ℕ, ◌+◌, ◌<◌, Bool, true, false, List, [], ◌∷◌, ◌++◌, Option, Some, None, refl, ap, sym, subst, ◌∙◌, inl, inr, ◌⊎◌, if◌then◌else◌, true≢false}
use Rattle.std.specs.Prelude.{is_some}
use Rattle.std.proofs.lemmas.Option.{none-some}
use Rattle.ppd_ast.specs.Valid.{IsValid}
use Rattle.ppd_ast.specs.declared.plan.BlockKind.TheVariants as block
use Rattle.ppd_ast.specs.declared.plan.Plan.{Plan}
use Rattle.ppd_ast.specs.declared.plan.Policy.{Policy}
use Rattle.ppd_ast.specs.declared.program.Program.{Program}
use Rattle.ppd_ast.specs.Lookups.{kind_of, body_of}
use Rattle.law_steps.specs.Beside.Relation.{IsCallOf}
use Rattle.ppd_blocks.specs.Blocks.{plan_of}
use Rattle.law_steps.proofs.Course.Deeds.{Fits, IsInvoke, deed_fits}
use Rattle.law_steps.proofs.Facts.Called.{AreCalled}
use Rattle.law_steps.proofs.Facts.Counted.{calling_block}
use Rattle.law_steps.proofs.Facts.Placed.{callee}
use Rattle.law_steps.proofs.Facts.State.{IsState, head_is_home}
use Rattle.law_steps.specs.OpenBlocks.Stack.{IsInOrder, returning}
use Rattle.law_steps.proofs.OpenBlocks.Framed.{head_returns, head_stays}
use Rattle.ppd_sem.specs.Process.{loop_of, top_frame}
use Rattle.ppd_sem.specs.Runs.{returns, bodies_in}
use Rattle.ppd_sem.specs.Tables.{block_of}
use Rattle.ppd_sem.specs.declared.proc.Frame.{Frame}
use Rattle.ppd_sem.specs.declared.proc.Proc.{Proc}
use Rattle.ppd_sem.specs.declared.proc.Todo.{Todo}
use Rattle.ppd_graph.specs.declared.leaf_call.LeafCall.{LeafCall}
use Rattle.law_flow.specs.Places.Closing.{closing, if_there, of_loop, of_return}
use Rattle.law_flow.specs.Places.Leaves.{of_leaf}
use Rattle.law_flow.proofs.Places.Moves.{IsCalling}
use Rattle.law_flow.proofs.Places.Opened.{no_return_mark, return_mark}
use Rattle.law_flow.proofs.Places.Opening.{first_is}

-- the next return to come leaves a function that is no block
pub record IsInLeaf (program : Program) (plan : Plan) (todo : List Todo) : Type 0 where
  pub function : ℕ
  pub others : List ℕ
  pub returns_to : returning program todo ≡ function ∷ others
  pub no_block : block_of plan (block.Function function) ≡ None

module _ (program : Program) (plan : Plan) where
  loop_cases : (t : Todo) → (of_loop program plan t ≡ []) ⊎ ((b : ℕ) × (of_loop program plan t ≡ Some b ∷ []))
  loop_cases t = by t.entered refl
    where
      by_loop : (o : Option ℕ) → (if_there o ≡ []) ⊎ ((b : ℕ) × (if_there o ≡ Some b ∷ []))
      by_loop None = inl refl
      by_loop (Some b) = inr (b, refl)

      by : (b : Bool) → t.entered ≡ b
          → (of_loop program plan t ≡ []) ⊎ ((b : ℕ) × (of_loop program plan t ≡ Some b ∷ []))
      by false e = inl (ap (λ b. if b then if_there (loop_of plan t.stmt (kind_of program t.stmt)) else []) e)
      by true e = elim (by_loop (loop_of plan t.stmt (kind_of program t.stmt))) [
        | inl none ↦ inl (ap (λ b. if b then if_there (loop_of plan t.stmt (kind_of program t.stmt)) else []) e ∙ none)
        | inr some ↦ inr (
          some.0,
          ap (λ b. if b then if_there (loop_of plan t.stmt (kind_of program t.stmt)) else [])
              e ∙ some.1,
        )
      ]

  -- where that is closed first, it is the next return
  pub in_leaf : (todo : List Todo) (xs : List (Option ℕ)) → closing program plan todo ≡ None ∷ xs
      → IsInLeaf program plan todo
  in_leaf [] xs e = absurd (cc)
  in_leaf (t ∷ ts) xs e = elim (loop_cases t) [
    | inl none ↦ by (returns (kind_of program t.stmt)) refl
        (sym (ap (λ ys. (ys ++ of_return program plan t) ++ closing program plan ts) none) ∙ e) (in_leaf ts xs)
    | inr some ↦ absurd (none-some some.0
        (sym (first_is (Some some.0) None (of_return program plan t ++ closing program plan ts) xs
        (sym (ap (λ ys. (ys ++ of_return program plan t) ++ closing program plan ts) some.1) ∙ e))))
  ]
    where
      by : (b : Bool) → returns (kind_of program t.stmt) ≡ b
          → of_return program plan t ++ closing program plan ts ≡ None ∷ xs
          → (closing program plan ts ≡ None ∷ xs → IsInLeaf program plan ts) → IsInLeaf program plan (t ∷ ts)
      by true goes at rest = record {
        function = body_of program t.stmt;
        others = returning program ts;
        returns_to = head_returns program t ts goes;
        no_block = first_is (block_of plan (block.Function (body_of program t.stmt))) None
            (closing program plan ts) xs
            (sym (ap (λ ys. ys ++ closing program plan ts) (return_mark program plan t goes)) ∙ at);
      }
      by false stays at rest =
          let g : IsInLeaf program plan ts =
          rest (sym (ap (λ ys. ys ++ closing program plan ts) (no_return_mark program plan t stays)) ∙ at) in
          record {
            function = g.function;
            others = g.others;
            returns_to = head_stays program t ts stays
                ∙ g.returns_to;
            no_block = g.no_block;
          }

pub is_call_of : (program : Program) (plan : Plan) (s : Proc) (t : Todo) (o : Option ℕ)
    → (c : IsCalling program plan t s o) → IsCallOf (kind_of program t.stmt) c.function
is_call_of program plan s t o c =
    let fit : IsInvoke (kind_of program t.stmt) c.function =
    subst (Fits (kind_of program t.stmt)) c.deed (deed_fits program.exprs (top_frame s.frames).cells s.answers
    (kind_of program t.stmt)) in
    subst (λ k. IsCallOf k c.function) (sym fit.kind_is) refl

-- the body of a top frame that is not the lowest is a function
pub top_function : (program : Program) (frames : List Frame) (g : ℕ) (gs : List ℕ) (b : ℕ) → IsValid program
    → AreCalled program frames → bodies_in frames ≡ g ∷ (gs ++ b ∷ []) → ((top_frame frames).body ≡ g) × (g < program.functions)
top_function program [] g gs b v called e = absurd (cc)
top_function program (f ∷ []) g gs b v called e = absurd (short gs (ap (λ xs. drop_one xs) e))
  where
    drop_one : List ℕ → List ℕ
    drop_one [] = []
    drop_one (x ∷ xs) = xs

    short : (gs : List ℕ) → [] ≡ gs ++ b ∷ [] → ⊥
    short [] h = cc
    short (x ∷ xs) h = cc
top_function program (f ∷ f' ∷ fs) g gs b v called e =
    let own : f.body ≡ g = first_is f.body g (bodies_in (f' ∷ fs)) (gs ++ b ∷ []) e in
    (own, subst (λ n. n < program.functions) own (callee program called.0.stmt f.body v called.0.calls).function)

-- so no activation without an interval goes on at a call
pub call_no_leaf : (program : Program) (policy : Policy) (p : ℕ) (s : Proc) (t : Todo) (ts : List Todo)
    (o : Option ℕ) (lf : Option LeafCall) (c b : ℕ) (xs : List (Option ℕ))
    → IsValid program → IsState program (plan_of program policy) s → IsInOrder program (plan_of program policy) p s
    → s.todo ≡ t ∷ ts → IsCalling program (plan_of program policy) t s o
    → of_leaf lf ++ (Some c ∷ xs) ≡ closing program (plan_of program policy) s.todo ++ Some b ∷ [] → lf ≡ None
call_no_leaf program policy p s t ts o None c b xs v state order is call e = refl
call_no_leaf program policy p s t ts o (Some lf) c b xs v state order is call e =
    by (closing program (plan_of program policy) s.todo) refl e
  where
    by : (zs : List (Option ℕ)) → closing program (plan_of program policy) s.todo ≡ zs
        → None ∷ (Some c ∷ xs) ≡ zs ++ Some b ∷ [] → Some lf ≡ None
    by [] at h = absurd (none-some b (first_is None (Some b) (Some c ∷ xs) [] h))
    by (z ∷ zs) at h =
        let none : z ≡ None = sym (first_is None z (Some c ∷ xs) (zs ++ Some b ∷ []) h) in
        let leaf : IsInLeaf program (plan_of program policy) s.todo =
        in_leaf program (plan_of program policy) s.todo zs (at ∙ ap (λ y. y ∷ zs) none) in
        let top = top_function program s.frames leaf.function leaf.others (program.functions + p) v state.called
        (order.frames ∙ ap (λ ys. ys ++ (program.functions + p) ∷ []) leaf.returns_to) in
        let home : body_of program t.stmt ≡ leaf.function =
        (head_is_home program (plan_of program policy) v s state t ts is).body ∙ top.0 in
        let is_block : is_some
        (block_of (plan_of program policy) (block.Function (body_of program t.stmt))) ≡ true =
        calling_block program policy t.stmt call.function v (is_call_of program (plan_of program policy) s t o call)
        (subst (λ n. n < program.functions) (sym home) top.1) in
        absurd (true≢false (sym is_block
        ∙ ap (λ n. is_some (block_of (plan_of program policy) (block.Function n))) home ∙ ap is_some leaf.no_block))
