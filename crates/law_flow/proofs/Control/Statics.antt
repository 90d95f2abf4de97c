-- Of a valid program and the plan of a policy: block loops do not stand in one another, what is called without an
-- interval calls nothing, and what blocks are the code of.
use Rattle.std.proofs.Common.{◌-◌, ◌≡◌, ℕ, zero, suc, ◌≤◌, Bool, true, false, ◌⊎◌, List, Option, Some, None, refl, ap, sym, ◌∙◌, arith, inl, inr, true≢false}
use Rattle.std.specs.Prelude.{◌&&◌, is_some, nat_eq, nat_lt, nat_le, not, slice_get, option_and_then}
use Rattle.std.proofs.lemmas.Bool.{and_parts, both_ways, cases_Bool, cases_eq, eqb-true, or_cases, or_left, or_right}
use Rattle.std.proofs.lemmas.Option.{none-some}
use Rattle.ppd_ast.specs.declared.limits.TheConstants.{MOST_NESTING}
use Rattle.ppd_ast.specs.declared.plan.BlockKind.TheVariants as block
use Rattle.ppd_ast.specs.declared.plan.Policy.{Policy}
use Rattle.ppd_ast.specs.declared.program.Program.{Program}
use Rattle.ppd_ast.specs.declared.program.Stmt.{Stmt}
use Rattle.ppd_ast.specs.Numbered.{in_while, is_while}
use Rattle.ppd_ast.proofs.Vocabulary.{inside_count, while_or}
use Rattle.ppd_ast.specs.Valid.{IsValid}
use Rattle.ppd_ast.specs.Lookups.{kind_of}
use Rattle.ppd_blocks.specs.Blocks.{plan_of}
use Rattle.ppd_blocks.proofs.Listing.{IsLoop, by_policy}
use Rattle.law_steps.proofs.Course.Standing.{as_parent, in_itself}
use Rattle.law_steps.proofs.Facts.Within.{IsOut, child_within, within_cases}
use Rattle.law_steps.proofs.Units.Numbers.{block_loop, loop_is_while}
use Rattle.ppd_sem.specs.Tables.{block_of}
use Rattle.ppd_blocks.specs.Walk.{stands_at, stands_in}
use Rattle.ppd_blocks.proofs.Staying.{stands_none}
use Rattle.ppd_model.proofs.Changes.{some}

-- ---- where statements stand

-- a statement with a parent is there
pub stmt_with_parent : (o : Option Stmt) (t : ℕ) → option_and_then (λ (x : Stmt). x.parent) o ≡ Some t → (y : Stmt) × (o ≡ Some y)
    × (y.parent ≡ Some t)
stmt_with_parent None t e = absurd (none-some t e)
stmt_with_parent (Some y) t e = (y, refl, e)

module _ (program : Program) (v : IsValid program) (c t q : ℕ)
    (is : option_and_then (λ x. x.parent) (slice_get program.stmts c) ≡ Some t) where
  -- what stands in a statement stands where that does, and nowhere else
  pub child_stands_in : stands_in program t q ≡ true → stands_in program c q ≡ true
  child_stands_in h = let y = stmt_with_parent
      (slice_get program.stmts c) t is in child_within program q t c y.0 v y.1 y.2 h

  pub child_cases : stands_in program c q ≡ true → (c ≡ q) ⊎ (stands_in program t q ≡ true)
  child_cases h = elim (cases_eq c q) [
    | inl e ↦ inl e
    | inr other ↦ (let y = stmt_with_parent (slice_get program.stmts c) t is in inr
        (sym (as_parent program c t q y.0 v y.1 y.2 other) ∙ h))
  ]

-- ---- no block loop stands in another

while_there : (further : Option ℕ → Bool) (o : Option Stmt) (x : Stmt) → o ≡ Some x → is_while x.kind ≡ true
    → while_or further o ≡ true
while_there further o x e w = ap (while_or further) e ∙ or_left (is_while x.kind) (further x.parent) w

stands_while : (d e : ℕ) (stmts : List Stmt) (q : ℕ) (x : Stmt) → slice_get stmts q ≡ Some x → is_while x.kind ≡ true
    → d ≤ e
    → (o : Option ℕ) → stands_at d stmts q o ≡ true → in_while e stmts o ≡ true
unfolding stands_at in_while
stands_while zero e stmts q x at w le o h = absurd (true≢false (sym h))
stands_while (suc d) zero stmts q x at w le o h = absurd (omega (arith, le))
stands_while (suc d) (suc e) stmts q x at w le None h = absurd (true≢false (sym h))
stands_while (suc d) (suc e) stmts q x at w le (Some n) h =
    elim (or_cases (nat_eq n q) (stands_at d stmts q (option_and_then (λ x. x.parent) (slice_get stmts n))) h) [
      | inl same ↦ while_there (in_while e stmts) (slice_get stmts n) x
          (ap (slice_get stmts) (eqb-true n q same) ∙ at) w
      | inr outer ↦ by (slice_get stmts n) outer (λ o g. stands_while d e stmts q x at w (omega (arith, le)) o g)
    ]
  where
    by : (s : Option Stmt) → stands_at d stmts q (option_and_then (λ (x : Stmt). x.parent) s) ≡ true
        → ((o : Option ℕ) → stands_at d stmts q o ≡ true → in_while e stmts o ≡ true)
        → while_or (in_while e stmts) s ≡ true
    by None g further = absurd (true≢false (sym g ∙ stands_none d stmts q))
    by (Some s) g further = or_right (is_while s.kind) (in_while e stmts s.parent) (further s.parent g)

-- a block loop is a `while`, and stands in none
pub record BlockLoop (program : Program) (l : ℕ) : Type 0 where
  pub stmt : Stmt
  pub there : slice_get program.stmts l ≡ Some stmt
  pub loops : is_while stmt.kind ≡ true
  pub outermost : in_while MOST_NESTING program.stmts stmt.parent ≡ false

not_true : (b : Bool) → not b ≡ true → b ≡ false
not_true true e = absurd (true≢false (sym e))
not_true false e = refl

module _ (program : Program) (policy : Policy) where
  -- block l of the plan is loop l's
  abbrev pub IsBlockLoop : ℕ → Type 0
  IsBlockLoop l = is_some (block_of (plan_of program policy) (block.Loop l)) ≡ true

  number_of : (o : Option ℕ) → is_some o ≡ true → (b : ℕ) × (o ≡ Some b)
  number_of None e = absurd (true≢false (sym e))
  number_of (Some b) e = (b, refl)

  block_loop_is : (l : ℕ) → IsBlockLoop l → BlockLoop program l
  unfolding IsLoop
  block_loop_is l is =
      let b = number_of (block_of (plan_of program policy) (block.Loop l)) is in
      let w : IsLoop program policy l = by_policy program policy l (block_loop program policy l b.0 b.1) in
      let x : Stmt = w.0 in
      let three = and_parts (is_while x.kind && nat_lt 0 policy.loops && not
      (in_while MOST_NESTING program.stmts x.parent))
      (nat_le policy.loops (inside_count program.stmts x.kind)) w.2 in
      let two = and_parts (is_while x.kind && nat_lt 0 policy.loops)
      (not (in_while MOST_NESTING program.stmts x.parent)) three.0 in
      let one = and_parts (is_while x.kind) (nat_lt 0 policy.loops) two.0 in
      record {
        stmt = x;
        there = w.1;
        loops = one.0;
        outermost = not_true
            (in_while MOST_NESTING program.stmts x.parent) two.1;
      }

  pub block_loop_while : (l : ℕ) → IsBlockLoop l → is_while (kind_of program l) ≡ true
  block_loop_while l is =
      let b = number_of (block_of (plan_of program policy) (block.Loop l)) is in
      loop_is_while program policy l (block_loop program policy l b.0 b.1)

  pub loops_apart : (w l : ℕ) → IsBlockLoop w → IsBlockLoop l → stands_in program w l ≡ true → w ≡ l
  loops_apart w l is_w is_l h = elim (within_cases program l w h) [
    | inl e ↦ e
    | inr out ↦ absurd (nested out)
  ]
    where
      nested : IsOut program (MOST_NESTING - 1) l w → ⊥
      nested o =
          let inner : BlockLoop program w = block_loop_is w is_w in
          let outer : BlockLoop program l = block_loop_is l is_l in
          let same : o.stmt ≡ inner.stmt = some (sym o.there ∙ inner.there) in
          let parent : inner.stmt.parent ≡ Some o.outer = ap (λ (s : Stmt). s.parent) (sym same) ∙ o.parent in
          let round : in_while MOST_NESTING program.stmts (Some o.outer) ≡ true =
          stands_while (MOST_NESTING - 1) MOST_NESTING program.stmts l outer.stmt outer.there outer.loops (omega arith) (Some o.outer) o.on in
          both_ways (in_while MOST_NESTING program.stmts inner.stmt.parent) inner.outermost
          (ap (in_while MOST_NESTING program.stmts) parent ∙ round)

  -- it is no block loop and stands in none
  abbrev pub Free : ℕ → Type 0
  Free s = (l : ℕ) → IsBlockLoop l → stands_in program s l ≡ false

  -- the one block loop in which it stands, if any, is itself
  abbrev pub Calm : ℕ → Type 0
  Calm s = (l : ℕ) → IsBlockLoop l → stands_in program s l ≡ true → s ≡ l

  free_calm : (s : ℕ) → Calm s → block_of (plan_of program policy) (block.Loop s) ≡ None → Free s
  free_calm s calm none l is = elim (cases_Bool (stands_in program s l)) [
    | inr no' ↦ no'
    | inl inside ↦
        let e : s ≡ l = calm l is inside in
        absurd (true≢false (sym is ∙ ap (λ i. is_some (block_of (plan_of program policy) (block.Loop i))) (sym e)
        ∙ ap is_some none))
  ]

  pub calm_free : (s : ℕ) → Calm s → block_of (plan_of program policy) (block.Loop s) ≡ None → Free s
  calm_free = free_calm

  -- what stands directly in a free statement is calm
  pub child_calm : (c t : ℕ) → IsValid program → option_and_then (λ x. x.parent) (slice_get program.stmts c) ≡ Some t → Free t → Calm c
  child_calm c t v is free l loop h = elim (child_cases program v c t l is h) [
    | inl e ↦ e
    | inr outer ↦ absurd (both_ways (stands_in program t l) (free l loop) outer)
  ]

  -- and so is what stands in none
  pub top_calm : (c : ℕ) → option_and_then (λ x. x.parent) (slice_get program.stmts c) ≡ None → Calm c
  top_calm c none l loop h = elim (within_cases program l c h) [
    | inl e ↦ e
    | inr out ↦ absurd (none-some out.outer (sym none ∙ ap (option_and_then (λ (x : Stmt). x.parent)) out.there ∙ out.parent))
  ]

  pub in_own_loop : (l : ℕ) → stands_in program l l ≡ true
  in_own_loop l = in_itself program l
