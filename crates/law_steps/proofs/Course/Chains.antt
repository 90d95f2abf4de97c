-- In a valid program each statement of a list is followed by the next one, and the last by what follows the list.
use Rattle.law_steps.proofs.Course.Rising.{child_stands, inner_kind, inner_rises, rises_above, rises_before, rises_behind, top_rises, top_stands}
use Rattle.law_steps.proofs.Course.Standing.{not_in_later}
use Rattle.ppd_ast.proofs.Members.{has_first, has_later, has_left, has_right}
use Rattle.ppd_ast.proofs.Vocabulary.{inner_at}
use Rattle.ppd_ast.specs.Lookups.{body_numbered, kind_of, no_body}
use Rattle.ppd_ast.specs.Members.{RisesFrom, has}
use Rattle.ppd_ast.specs.Order.{inner}
use Rattle.ppd_ast.specs.Valid.{IsValid}
use Rattle.ppd_ast.specs.declared.program.Body.{Body}
use Rattle.ppd_ast.specs.declared.program.Kind.{Kind}
use Rattle.ppd_ast.specs.declared.program.Kind.TheVariants as K
use Rattle.ppd_ast.specs.declared.program.Program.{Program}
use Rattle.ppd_blocks.specs.Walk.{stands_in}
use Rattle.ppd_sets.proofs.Following.{follows_its_list}
use Rattle.ppd_sets.specs.Flow.{follow, follow_under, follow_within, next_in}
use Rattle.std.proofs.Common.{List, None, Option, Some, [], ap, arith, false, refl, subst, sym, ℕ, ◌++◌, ◌+◌, ◌<◌, ◌||◌, ◌∙◌, ◌∷◌, ◌≡◌, ◌≤◌}
use Rattle.std.proofs.lemmas.Bool.{cond-false, cond-true, eq-eqb, ne_eqb}
use Rattle.std.specs.Option.{option_or}
use Rattle.std.specs.Prelude.{IsTrue, nat_eq, slice_get, unwrap_or, ⊤}

-- the next one is another statement, in which this one does not stand
abbrev pub IsApart : Program → ℕ → List ℕ → Type 0
IsApart p x [] = ⊤
IsApart p x (y ∷ ys) = stands_in p x y ≡ false

-- each statement is followed by the next one, and the last by `after`
abbrev pub IsChain : Program → (after : Option ℕ) → List ℕ → Type 0
IsChain p after [] = ⊤
IsChain p after (x ∷ xs) = (follow p x ≡ option_or (slice_get xs 0) after) × IsApart p x xs × IsChain p after xs

next_first : (x : ℕ) (xs : List ℕ) (after : Option ℕ) → next_in (x ∷ xs) x after ≡ option_or (slice_get xs 0) after
next_first x xs after = cond-true (nat_eq x x) (option_or (slice_get xs 0) after) (next_in xs x after) (eq-eqb x x refl)

next_later : (x y : ℕ) (xs : List ℕ) (after : Option ℕ) → x < y → next_in (x ∷ xs) y after ≡ next_in xs y after
next_later x y xs after lt = cond-false (nat_eq x y) (option_or (slice_get xs 0) after) (next_in xs y after) (ne_eqb x y (λ e. omega arith))

apart : (p : Program) (x : ℕ) (xs : List ℕ) → IsValid p → RisesFrom (x + 1) xs → IsApart p x xs
apart p x [] v rises = tt
apart p x (y ∷ ys) v rises = not_in_later p x y v (let l : x + 1 ≤ y = rises.0 in omega arith)

chained : (p : Program) (after : Option ℕ) (n : ℕ) (xs : List ℕ) → IsValid p → RisesFrom n xs → ((x : ℕ) → IsTrue (has xs x) → follow p x ≡ next_in xs x after) → IsChain p after xs
chained p after n [] v rises follows = tt
chained p after n (x ∷ xs) v rises follows = (
  follows x (has_first x xs) ∙ next_first x xs after,
  apart p x xs v rises.1,
  chained p after (x + 1) xs v rises.1
      (λ y h. follows y (has_later x y xs h) ∙ next_later x y xs after (let l : x + 1 ≤ y = rises_above (x + 1) xs y rises.1 h in omega arith)),
)

-- ---- the lists in a statement

inner_follow : (p : Program) (t x : ℕ) → IsValid p → IsTrue (has (inner_at p.stmts t) x) → follow p x ≡ follow_within t (kind_of p t) x (follow p t)
inner_follow p t x v h =
    let y = child_stands p t x v h in
    follows_its_list p x y.0 v y.1 ∙ ap (follow_under p (follow p) y.0.body x) y.2

not_before : (n : ℕ) (xs ys : List ℕ) (y : ℕ) → RisesFrom n (xs ++ ys) → IsTrue (has ys y) → has xs y ≡ false
not_before n [] ys y rises h = refl
not_before n (x ∷ xs) ys y rises h =
    let above : x + 1 ≤ y = rises_above (x + 1) ys y (rises_behind (x + 1) xs ys rises.1) h in
    ap (λ b. b || has xs y) (ne_eqb x y (λ e. omega arith)) ∙ not_before (x + 1) xs ys y rises.1 h

module _ (p : Program) (t : ℕ) (v : IsValid p) where
  stands_of : (k : Kind) (x : ℕ) → kind_of p t ≡ k → IsTrue (has (inner k) x) → IsTrue (has (inner_at p.stmts t) x)
  stands_of k x is h = subst (λ xs. IsTrue (has xs x)) (sym (inner_kind p t ∙ ap inner is)) h

  rises_of : (k : Kind) → kind_of p t ≡ k → RisesFrom (t + 1) (inner k)
  rises_of k is = subst (RisesFrom (t + 1)) (inner_kind p t ∙ ap inner is) (inner_rises p t v)

  within_of : (k : Kind) (x : ℕ) → kind_of p t ≡ k → IsTrue (has (inner k) x) → follow p x ≡ follow_within t k x (follow p t)
  within_of k x is h = inner_follow p t x v (stands_of k x is h) ∙ ap (λ k. follow_within t k x (follow p t)) is

  pub first_chain : (e : ℕ) (first second : List ℕ) → kind_of p t ≡ K.If e first second → IsChain p (follow p t) first
  first_chain e first second is =
      chained p (follow p t) (t + 1) first v (rises_before (t + 1) first second (rises_of (K.If e first second) is))
      (λ x h. within_of (K.If e first second) x is (has_left first second x h) ∙ ap (λ (xs : List ℕ). next_in xs x (follow p t)) (cond-true (has first x) first second h))

  pub second_chain : (e : ℕ) (first second : List ℕ) → kind_of p t ≡ K.If e first second → IsChain p (follow p t) second
  second_chain e first second is =
      let rises : RisesFrom (t + 1) (first ++ second) = rises_of (K.If e first second) is in
      chained p (follow p t) (t + 1) second v (rises_behind (t + 1) first second rises)
      (λ x h. within_of (K.If e first second) x is (has_right first second x h)
      ∙ ap (λ (xs : List ℕ). next_in xs x (follow p t)) (cond-false (has first x) first second (not_before (t + 1) first second x rises h)))

  pub body_chain : (e : ℕ) (body : List ℕ) → kind_of p t ≡ K.While e body → IsChain p (Some t) body
  body_chain e body is = chained p (Some t) (t + 1) body v (rises_of (K.While e body) is) (λ x h. within_of (K.While e body) x is h)

-- ---- the outermost list of a body

pub top_chain : (p : Program) (j : ℕ) (b : Body) → IsValid p → slice_get p.bodies j ≡ Some b → IsChain p None b.top
top_chain p j b v at =
    chained p None b.first b.top v (top_rises p j b v at)
    (λ x h.
    let y = top_stands p j x b v at h in
    follows_its_list p x y.0 v y.1 ∙ ap (follow_under p (follow p) y.0.body x) y.2
    ∙ ap (λ i. next_in (body_numbered p i).top x None) y.3 ∙ ap (λ (o : Option Body). next_in (unwrap_or o no_body).top x None) at)
