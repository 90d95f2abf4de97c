-- In a valid program the numbers of each list rise, and what stands in a statement has a larger number.
use Rattle.std.proofs.Common.{◌≡◌, ◌≢◌, ℕ, zero, suc, ◌+◌, ◌-◌, ◌<◌, ◌≤◌, List, [], ◌∷◌, ◌++◌, Option, Some, None, refl, sym, subst, ap, ◌∙◌, arith, inl, inr, length, true≢false}
use Rattle.std.specs.Prelude.{IsTrue, IsSomeAnd, slice_get}
use Rattle.std.specs.List.{flat_map, range_with_len}
use Rattle.std.proofs.lemmas.Bool.{cases_eq}
use Rattle.ppd_ast.specs.declared.program.Body.{Body}
use Rattle.ppd_ast.specs.declared.program.Program.{Program}
use Rattle.ppd_ast.specs.declared.program.Stmt.{Stmt}
use Rattle.ppd_ast.specs.Order.{inner, preorder}
use Rattle.ppd_ast.proofs.Vocabulary.{inner_at, inner_of}
use Rattle.ppd_ast.specs.Valid.{IsValid, IsValidBody}
use Rattle.ppd_ast.proofs.ValidLaws.{slice_get_below, some_and, valid_body, valid_stmt}
use Rattle.ppd_ast.specs.Members.{has, RisesFrom}
use Rattle.ppd_ast.specs.Lookups.{kind_of}
use Rattle.ppd_ast.proofs.Vocabulary.{kind_of_stmt}
use Rattle.ppd_ast.proofs.Members.{has_first, has_cons, in_bounds_has, flat_gives, all_has}
use Rattle.ppd_ast.specs.declared.limits.TheConstants.{MOST_NESTING}
use Rattle.ppd_sets.proofs.Following.{in_some}

-- ---- lists that rise

range_rises : (a n : ℕ) → RisesFrom a (range_with_len a n)
range_rises a zero = tt
range_rises a (suc n) = (omega arith, range_rises (a + 1) n)

pub lower : (m n : ℕ) (xs : List ℕ) → m ≤ n → RisesFrom n xs → RisesFrom m xs
lower m n [] le h = tt
lower m n (x ∷ xs) le h = (let l : n ≤ x = h.0 in omega arith, h.1)

pub rises_behind : (n : ℕ) (xs ys : List ℕ) → RisesFrom n (xs ++ ys) → RisesFrom n ys
rises_behind n [] ys h = h
rises_behind n (x ∷ xs) ys h = lower n (x + 1) ys (let l : n ≤ x = h.0 in omega arith) (rises_behind (x + 1) xs ys h.1)

pub rises_before : (n : ℕ) (xs ys : List ℕ) → RisesFrom n (xs ++ ys) → RisesFrom n xs
rises_before n [] ys h = tt
rises_before n (x ∷ xs) ys h = (h.0, rises_before (x + 1) xs ys h.1)

pub rises_above : (n : ℕ) (xs : List ℕ) (y : ℕ) → RisesFrom n xs → IsTrue (has xs y) → n ≤ y
rises_above n [] y h k = absurd (true≢false (sym k))
rises_above n (x ∷ xs) y h k =
    elim (has_cons x y xs k) [
      | inl e ↦ (let l : n ≤ x = h.0 in omega arith)
      | inr t ↦ (let l : n ≤ x = h.0 in let m : x + 1 ≤ y = rises_above (x + 1) xs y h.1 t in omega arith)
    ]

-- each of these lists begins with its number
heads_rise : (f rest : ℕ → List ℕ) → ((i : ℕ) → f i ≡ i ∷ rest i) → (n : ℕ) (xs : List ℕ) → RisesFrom n (flat_map f xs) → RisesFrom n xs
heads_rise f rest heads n [] h = tt
heads_rise f rest heads n (x ∷ xs) h =
    let g : RisesFrom n (x ∷ (rest x ++ flat_map f xs)) = subst (λ l. RisesFrom n (l ++ flat_map f xs)) (heads x) h in
    (g.0, heads_rise f rest heads (x + 1) xs (rises_behind (x + 1) (rest x) (flat_map f xs) g.1))

member_rises : (f : ℕ → List ℕ) (n : ℕ) (xs : List ℕ) (x : ℕ) → RisesFrom n (flat_map f xs) → IsTrue (has xs x) → RisesFrom n (f x)
member_rises f n [] x h k = absurd (true≢false (sym k))
member_rises f n (y ∷ xs) x h k =
    elim (has_cons y x xs k) [
      | inl e ↦ subst (λ z. RisesFrom n (f z)) e (rises_before n (f y) (flat_map f xs) h)
      | inr t ↦ member_rises f n xs x (rises_behind n (f y) (flat_map f xs) h) t
    ]

-- ---- what stands in a statement

pub inner_kind : (p : Program) (t : ℕ) → inner_at p.stmts t ≡ inner (kind_of p t)
inner_kind p t = by (slice_get p.stmts t)
  where
    by : (o : Option Stmt) → inner_of o ≡ inner (kind_of_stmt o)
    by None = refl
    by (Some s) = refl

-- it is there, and has the statement as its parent
pub child_stands : (p : Program) (t c : ℕ) → IsValid p → IsTrue (has (inner_at p.stmts t) c) → (y : Stmt) × (slice_get p.stmts c ≡ Some y) × (y.parent ≡ Some t)
child_stands p t c v h = by (slice_get p.stmts t) refl h
  where
    by : (o : Option Stmt) → slice_get p.stmts t ≡ o → IsTrue (has (inner_of o) c) → (y : Stmt) × (slice_get p.stmts c ≡ Some y) × (y.parent ≡ Some t)
    by None at h = absurd (true≢false (sym h))
    by (Some x) at h =
        let stands = all_has (λ i. IsSomeAnd (slice_get p.stmts i) (λ s. (s.parent ≡ Some t) × (s.body ≡ x.body))) (inner x.kind) c (valid_stmt p t x v at).inside h in
        let y = some_and (λ (s : Stmt). (s.parent ≡ Some t) × (s.body ≡ x.body)) (slice_get p.stmts c) stands in
        (y.0, y.1, y.2.0)

pub parent_same : (p : Program) (c s t : ℕ) (x y : Stmt) → slice_get p.stmts c ≡ Some x → x.parent ≡ Some s → slice_get p.stmts c ≡ Some y → y.parent ≡ Some t → s ≡ t
parent_same p c s t x y at is at' is' =
    let same : Some x ≡ Some y = sym at ∙ at' in
    let one : x ≡ y = cc in
    let both : Some s ≡ Some t = sym is ∙ ap (λ (z : Stmt). z.parent) one ∙ is' in
    cc

heads_of : (d : ℕ) (p : Program) (n : ℕ) (xs : List ℕ) (c x : ℕ) → RisesFrom n (flat_map (preorder d p.stmts) xs) → IsTrue (has (preorder d p.stmts x) c) → RisesFrom n xs
unfolding preorder
heads_of zero p n xs c x h k = absurd (true≢false (sym k))
heads_of (suc d) p n xs c x h k = heads_rise (preorder (suc d) p.stmts) (λ i. flat_map (preorder d p.stmts) (inner_at p.stmts i)) (λ i. refl) n xs h

-- a statement with a parent stands in its parent's lists, which rise from behind the parent
abbrev pub StandsIn : Program → (c s : ℕ) → Type 0
StandsIn p c s = RisesFrom (s + 1) (inner_at p.stmts s) × IsTrue (has (inner_at p.stmts s) c)

module _ (p : Program) (v : IsValid p) (c s : ℕ) (x : Stmt) (at : slice_get p.stmts c ≡ Some x) (is : x.parent ≡ Some s) where
  stands_there : (t : ℕ) → IsTrue (has (inner_at p.stmts t) c) → RisesFrom (t + 1) (inner_at p.stmts t) → StandsIn p c s
  stands_there t h rises =
      let y = child_stands p t c v h in
      let same : t ≡ s = parent_same p c t s y.0 x y.1 y.2 at is in
      subst (λ i. StandsIn p c i) same (rises, h)

  inside_rises : (d n t : ℕ) → RisesFrom n (preorder d p.stmts t) → IsTrue (has (preorder d p.stmts t) c) → c ≢ t → StandsIn p c s
  unfolding preorder
  inside_rises zero n t rises h other = absurd (true≢false (sym h))
  inside_rises (suc d) n t rises h other =
      elim (has_cons t c (flat_map (preorder d p.stmts) (inner_at p.stmts t)) h) [
        | inl same ↦ absurd (other (sym same))
        | inr later ↦
            let g = flat_gives (preorder d p.stmts) (inner_at p.stmts t) c later in
            let more : RisesFrom (t + 1) (flat_map (preorder d p.stmts) (inner_at p.stmts t)) = rises.1 in
            elim (cases_eq c g.0) [
              | inl here ↦ stands_there t (subst (λ i. IsTrue (has (inner_at p.stmts t) i)) (sym here) g.1) (heads_of d p (t + 1) (inner_at p.stmts t) c g.0 more g.2)
              | inr deeper ↦ inside_rises d (t + 1) g.0 (member_rises (preorder d p.stmts) (t + 1) (inner_at p.stmts t) g.0 more g.1) g.2 deeper
            ]
      ]

-- ---- the whole program

-- the body and the outermost statement of a statement
pub record Place (p : Program) (c : ℕ) : Type 0 where
  pub number : ℕ
  pub body : Body
  pub body_is : slice_get p.bodies number ≡ Some body
  pub outer : ℕ
  pub is_top : IsTrue (has body.top outer)
  pub inside : IsTrue (has (preorder MOST_NESTING p.stmts outer) c)

pub place_of : (p : Program) (c : ℕ) (x : Stmt) → IsValid p → slice_get p.stmts c ≡ Some x → Place p c
place_of p c x v at =
    let place = in_some p.bodies 0 (length p.stmts) c v.ranges (omega arith) (slice_get_below p.stmts c x at) in
    let b : Body = place.1 in
    let valid : IsValidBody p place.0 b = valid_body p place.0 b v place.2 in
    let low : b.first ≤ c = place.3 in
    let high : c < b.end = place.4 in
    let number : IsTrue (has (range_with_len b.first (b.end - b.first)) c) = in_bounds_has b.first (b.end - b.first) c low (omega arith) in
    let listed : IsTrue (has (flat_map (preorder MOST_NESTING p.stmts) b.top) c) = subst (λ xs. IsTrue (has xs c)) (sym valid.order) number in
    let t = flat_gives (preorder MOST_NESTING p.stmts) b.top c listed in
    record { number = place.0; body = b; body_is = place.2; outer = t.0; is_top = t.1; inside = t.2 }

-- an outermost statement is there, and has no parent
pub top_stands : (p : Program) (j c : ℕ) (b : Body) → IsValid p → slice_get p.bodies j ≡ Some b → IsTrue (has b.top c) → (y : Stmt) × (slice_get p.stmts c ≡ Some y) × (y.parent ≡ None) × (y.body ≡ j)
top_stands p j c b v at h =
    let stands = all_has (λ i. IsSomeAnd (slice_get p.stmts i) (λ s. (s.parent ≡ None) × (s.body ≡ j))) b.top c (valid_body p j b v at).top h in
    let y = some_and (λ (s : Stmt). (s.parent ≡ None) × (s.body ≡ j)) (slice_get p.stmts c) stands in
    (y.0, y.1, y.2.0, y.2.1)

all_rise : (p : Program) (j : ℕ) (b : Body) → IsValid p → slice_get p.bodies j ≡ Some b → RisesFrom b.first (flat_map (preorder MOST_NESTING p.stmts) b.top)
all_rise p j b v at = subst (RisesFrom b.first) (sym (valid_body p j b v at).order) (range_rises b.first (b.end - b.first))

pub top_rises : (p : Program) (j : ℕ) (b : Body) → IsValid p → slice_get p.bodies j ≡ Some b → RisesFrom b.first b.top
unfolding preorder
top_rises p j b v at = heads_rise (preorder MOST_NESTING p.stmts) (λ i. flat_map (preorder (MOST_NESTING - 1) p.stmts) (inner_at p.stmts i)) (λ i. refl) b.first b.top (all_rise p j b v at)

pub stands_in_parent : (p : Program) (c s : ℕ) (x : Stmt) → IsValid p → slice_get p.stmts c ≡ Some x → x.parent ≡ Some s → StandsIn p c s
stands_in_parent p c s x v at is =
    let place : Place p c = place_of p c x v at in
    let top = top_stands p place.number place.outer place.body v place.body_is place.is_top in
    inside_rises p v c s x at is MOST_NESTING place.body.first place.outer
    (member_rises (preorder MOST_NESTING p.stmts) place.body.first place.body.top place.outer (all_rise p place.number place.body v place.body_is) place.is_top)
    place.inside
    (λ same. absurd (none_is_some (sym top.2 ∙ parent_at top.0 (sym top.1 ∙ ap (slice_get p.stmts) (sym same) ∙ at))))
  where
    parent_at : (y : Stmt) → Some y ≡ Some x → y.parent ≡ Some s
    parent_at y e = let one : y ≡ x = cc in ap (λ (z : Stmt). z.parent) one ∙ is

    none_is_some : None ≡ Some s → ⊥
    none_is_some e = absurd (cc)

-- the lists in a statement rise from behind it
pub inner_rises : (p : Program) (s : ℕ) → IsValid p → RisesFrom (s + 1) (inner_at p.stmts s)
inner_rises p s v = by (inner_at p.stmts s) refl
  where
    by : (xs : List ℕ) → inner_at p.stmts s ≡ xs → RisesFrom (s + 1) (inner_at p.stmts s)
    by [] e = subst (RisesFrom (s + 1)) (sym e) tt
    by (c ∷ cs) e =
        let y = child_stands p s c v (subst (λ xs. IsTrue (has xs c)) (sym e) (has_first c cs)) in
        (stands_in_parent p c s y.0 v y.1 y.2).0

-- a parent has a smaller number
pub parent_below : (p : Program) (c s : ℕ) (x : Stmt) → IsValid p → slice_get p.stmts c ≡ Some x → x.parent ≡ Some s → s < c
parent_below p c s x v at is =
    let stands : StandsIn p c s = stands_in_parent p c s x v at is in
    let above : s + 1 ≤ c = rises_above (s + 1) (inner_at p.stmts s) c stands.0 stands.1 in
    omega arith
