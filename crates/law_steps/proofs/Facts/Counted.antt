-- How many frames there are, by the blocks that they are of: a function with a call is a block.
use Rattle.std.proofs.Common.{◌≡◌, ℕ, zero, suc, ◌+◌, ◌-◌, ◌<◌, ◌≤◌, true, false, List, [], ◌∷◌, length, min, Option, Some, None, refl, ap, sym, subst, ◌∙◌, arith, inl, inr, true≢false}
use Rattle.std.specs.Prelude.{IsTrue, IsSomeAnd, is_some, slice_get, if◌then◌else◌}
use Rattle.std.specs.List.{flat_map, range_with_len}
use Rattle.std.proofs.lemmas.Bool.{cond-true}
use Rattle.std.proofs.lemmas.Option.{slice_get_within}
use Rattle.std.specs.Option.{option_map_or}
use Rattle.ppd_ast.specs.declared.plan.BlockKind.TheVariants as block
use Rattle.ppd_ast.specs.declared.plan.Plan.{Plan}
use Rattle.ppd_ast.specs.declared.plan.Policy.{Policy}
use Rattle.ppd_ast.specs.declared.program.Body.{Body}
use Rattle.ppd_ast.specs.declared.program.Kind.{Kind}
use Rattle.ppd_ast.specs.declared.program.Kind.TheVariants as kind
use Rattle.ppd_ast.specs.declared.program.Program.{Program}
use Rattle.ppd_ast.specs.declared.program.Stmt.{Stmt}
use Rattle.ppd_ast.specs.Numbered.{has_call, is_call, numbers_of}
use Rattle.ppd_ast.proofs.Vocabulary.{is_call_of}
use Rattle.ppd_ast.specs.Order.{inner, preorder}
use Rattle.ppd_ast.proofs.Vocabulary.{inner_at, inner_of}
use Rattle.ppd_ast.specs.Valid.{EndsBody, IsValid}
use Rattle.ppd_ast.proofs.ValidLaws.{some_and, stmt_in_body, valid_body, valid_stmt}
use Rattle.ppd_ast.specs.Members.{has}
use Rattle.ppd_ast.specs.Lookups.{kind_of, body_of}
use Rattle.ppd_ast.proofs.Vocabulary.{kind_of_stmt}
use Rattle.ppd_ast.proofs.Members.{has_cons, any_from, in_bounds_has, below_range, flat_gives, flat_from, all_has}
use Rattle.ppd_ast.specs.declared.limits.TheConstants.{MOST_NESTING}
use Rattle.ppd_blocks.specs.Blocks.{plan_of}
use Rattle.law_steps.proofs.Course.Rising.{Place, place_of, top_stands}
use Rattle.ppd_sem.specs.declared.proc.Frame.{Frame}
use Rattle.ppd_sem.specs.Tables.{block_of}
use Rattle.law_steps.specs.Beside.Relation.{IsCallOf}
use Rattle.law_steps.proofs.Vocabulary.Relation.{IsEnd}
use Rattle.law_steps.specs.OpenBlocks.Stack.{block_frames}
use Rattle.law_steps.proofs.Facts.Called.{AreCalled}
use Rattle.law_steps.proofs.Facts.BlockOpens.{is_function_body}
use Rattle.law_steps.proofs.Facts.Placed.{callee}
use Rattle.law_steps.proofs.OpenBlocks.Planned.{calling_found}
use Rattle.ppd_model.proofs.Changes.{some}

-- ---- the body of a statement, by the order of its body's statements

-- statements inside one are of its body
pub inside_body : (d : ℕ) (p : Program) (t s number : ℕ) → IsValid p → body_of p t ≡ number
    → IsTrue (has (preorder d p.stmts t) s) → body_of p s ≡ number
unfolding preorder
inside_body zero p t s number v is h = absurd (true≢false (sym h))
inside_body (suc d) p t s number v is h = elim (has_cons t s (flat_map (preorder d p.stmts) (inner_at p.stmts t)) h) [
  | inl e ↦ ap (λ i. body_of p i) (sym e) ∙ is
  | inr e ↦
      let c = flat_gives (preorder d p.stmts) (inner_at p.stmts t) s e in
      inside_body d p c.0 s number v (child_body p t c.0 (slice_get p.stmts t) v refl c.1 ∙ is) c.2
]
  where
    child_body : (p : Program) (t c : ℕ) (o : Option Stmt) → IsValid p → slice_get p.stmts t ≡ o
        → IsTrue (has (inner_of o) c) → body_of p c ≡ body_of p t
    child_body p t c None v at k = absurd (true≢false (sym k))
    child_body p t c (Some x) v at k =
        let stands = all_has (λ i. IsSomeAnd (slice_get p.stmts i) (λ s. (s.parent ≡ Some t) × (s.body ≡ x.body)))
        (inner x.kind) c (valid_stmt p t x v at).inside k in
        let y = some_and (λ (s : Stmt). (s.parent ≡ Some t) × (s.body ≡ x.body)) (slice_get p.stmts c) stands in
        ap (λ o. option_map_or (λ (x : Stmt). x.body) o 0) y.1 ∙ y.2.1 ∙ sym (ap (λ o. option_map_or (λ (x : Stmt). x.body) o 0) at)

-- a statement is among the numbers of its body
numbered : (p : Program) (s : ℕ) (x : Stmt) (b : Body) → IsValid p → slice_get p.stmts s ≡ Some x
    → slice_get p.bodies x.body ≡ Some b → IsTrue (has (numbers_of p.stmts b) s)
numbered p s x b v at body =
    let place : Place p s = place_of p s x v at in
    let top = top_stands p place.number place.outer place.body v place.body_is place.is_top in
    let outer : body_of p place.outer ≡ place.number = ap (λ o. option_map_or (λ (x : Stmt). x.body) o 0) top.1 ∙ top.3 in
    let number : x.body ≡ place.number =
    sym (ap (λ o. option_map_or (λ (x : Stmt). x.body) o 0) at) ∙ inside_body MOST_NESTING p place.outer s place.number v outer place.inside in
    let same : b ≡ place.body = some (sym body ∙ ap (λ j. slice_get p.bodies j) number ∙ place.body_is) in
    let listed : IsTrue (has (flat_map (preorder MOST_NESTING p.stmts) place.body.top) s) =
    flat_from (preorder MOST_NESTING p.stmts) place.body.top place.outer s place.is_top place.inside in
    let range : IsTrue (has (range_with_len place.body.first (place.body.end - place.body.first)) s) =
    subst (λ xs. IsTrue (has xs s)) (valid_body p place.number place.body v place.body_is).order listed in
    let within = below_range place.body.first (place.body.end - place.body.first) s range in
    let there : s < length p.stmts = slice_get_within p.stmts s x at in
    let n : ℕ = min place.body.end (length p.stmts) - place.body.first in
    let low : place.body.first ≤ s = within.0 in
    let high : s < place.body.first + (place.body.end - place.body.first) = within.1 in
    let up : s < place.body.first + n = omega arith in
    subst (λ (c : Body). IsTrue (has (numbers_of p.stmts c) s)) (sym same) (in_bounds_has place.body.first n s low up)

call_is : (k : Kind) (g : ℕ) → IsCallOf k g → is_call k ≡ true
call_is (kind.Call f arguments into) g h = refl
call_is k g h = absurd h

call_there : (p : Program) (s g : ℕ) (o : Option Stmt) → slice_get p.stmts s ≡ o → IsCallOf (kind_of_stmt o) g
    → (x : Stmt) × (slice_get p.stmts s ≡ Some x) × IsCallOf x.kind g
call_there p s g None at h = absurd h
call_there p s g (Some x) at h = (x, at, h)

-- a function with a call is a block
pub calling_block : (p : Program) (policy : Policy) (s g : ℕ) → IsValid p → IsCallOf (kind_of p s) g
    → body_of p s < p.functions
    → is_some (block_of (plan_of p policy) (block.Function (body_of p s))) ≡ true
calling_block p policy s g v h lt =
    let c = call_there p s g (slice_get p.stmts s) refl h in
    let own = stmt_in_body p s c.0 v c.1 in
    let below : c.0.body < p.functions = subst (λ o. option_map_or (λ (x : Stmt). x.body) o 0 < p.functions) c.1 lt in
    let has_one : has_call p.stmts own.0 ≡ true =
    any_from (λ k. is_call_of (slice_get p.stmts k)) (numbers_of p.stmts own.0) s
    (numbered p s c.0 own.0 v c.1 own.1) (ap is_call_of c.1 ∙ call_is c.0.kind g c.2) in
    subst (λ o. is_some (block_of (plan_of p policy) (block.Function (option_map_or (λ (x : Stmt). x.body) o 0))) ≡ true) (sym c.1)
    (calling_found p policy c.0.body own.0 own.1 (is_function_body p c.0.body own.0 v own.1 below) has_one)

-- ---- frames

-- a body that is a block, if it is a function
abbrev pub IsBlockIfFunction : Program → Plan → ℕ → Type 0
IsBlockIfFunction program plan body = body < program.functions → is_some (block_of plan (block.Function body)) ≡ true

module _ (p : Program) (policy : Policy) (v : IsValid p) where
  -- where the top frame is of a block, all but the lowest are
  pub frames_counted : (f : Frame) (fs : List Frame) → AreCalled p (f ∷ fs)
      → IsBlockIfFunction p (plan_of p policy) f.body → length (f ∷ fs) ≡ 1 + block_frames (plan_of p policy) (f ∷ fs)
  frames_counted f [] h top = refl
  frames_counted f (g ∷ gs) h top =
      let function : f.body < p.functions = (callee p h.0.stmt f.body v h.0.calls).function in
      let one : ◌≡◌ {A = ℕ} (if is_some (block_of (plan_of p policy) (block.Function f.body)) then 1 else 0) 1 =
      cond-true (is_some (block_of (plan_of p policy) (block.Function f.body))) 1 0 (top function) in
      let below : IsBlockIfFunction p (plan_of p policy) g.body = λ lt.
      subst (λ n. is_some (block_of (plan_of p policy) (block.Function n)) ≡ true) h.0.home
      (calling_block p policy h.0.stmt f.body v h.0.calls (subst (λ n. n < p.functions) (sym h.0.home) lt)) in
      omega (arith, one, frames_counted g gs h.1 below)

  -- a statement with a call in the top frame's body: so it is where the statements of an interval have a call
  pub call_counted : (f : Frame) (fs : List Frame) (s g : ℕ) → AreCalled p (f ∷ fs) → IsCallOf (kind_of p s) g
      → body_of p s ≡ f.body → length (f ∷ fs) ≡ 1 + block_frames (plan_of p policy) (f ∷ fs)
  call_counted f fs s g h calls home =
      frames_counted f fs h (λ lt. subst (λ n. is_some (block_of (plan_of p policy) (block.Function n))
      ≡ true) home (calling_block p policy s g v calls (subst (λ n. n < p.functions) (sym home) lt)))

-- ---- an end is in the lowest frame

pub end_process : (p : Program) (i : ℕ) (x : Stmt) → IsValid p → slice_get p.stmts i ≡ Some x → IsEnd x.kind
    → x.body < p.functions → ⊥
end_process p i x v at h lt =
    let own = stmt_in_body p i x v at in
    by own.0 x.kind h (is_function_body p x.body own.0 v own.1 lt) own.2.ending
  where
    by : (b : Body) (k : Kind) → IsEnd k → b.process ≡ false → EndsBody b i k → ⊥
    by b kind.End h f e = true≢false (sym e.0 ∙ f)
    by b k h f e = h

-- the head is an `End` that is there only in the lowest frame
pub end_alone : (p : Program) (i : ℕ) (x : Stmt) (f : Frame) (fs : List Frame) → IsValid p
    → slice_get p.stmts i ≡ Some x → IsEnd x.kind → x.body ≡ f.body → AreCalled p (f ∷ fs) → fs ≡ []
end_alone p i x f [] v at h home called = refl
end_alone p i x f (g ∷ gs) v at h home called =
    absurd (end_process p i x v at h
    (subst (λ n. n < p.functions) (sym home) (callee p called.0.stmt f.body v called.0.calls).function))
