-- In a valid program statements stand in so few others that what follows them is always found.
use Rattle.std.proofs.Common.{◌≡◌, ℕ, zero, suc, ◌+◌, ◌-◌, ◌<◌, ◌≤◌, List, [], ◌∷◌, Option, Some, None, refl, sym, subst, ap, ◌∙◌, arith, inl, inr, length, true≢false}
use Rattle.std.specs.Prelude.{IsTrue, IsSomeAnd, slice_get, ⊤}
use Rattle.std.specs.List.{flat_map, range_with_len}
use Rattle.std.proofs.lemmas.Bool.{cases_lt}
use Rattle.ppd_ast.specs.declared.program.Stmt.{Stmt}
use Rattle.ppd_ast.specs.declared.program.Body.{Body}
use Rattle.ppd_ast.specs.declared.program.Program.{Program}
use Rattle.ppd_ast.specs.Order.{preorder, inner}
use Rattle.ppd_ast.proofs.Vocabulary.{inner_of, inner_at}
use Rattle.ppd_ast.specs.Valid.{IsValid, IsValidBody, Follow}
use Rattle.ppd_ast.proofs.ValidLaws.{slice_get_below, valid_stmt, valid_body, some_and}
use Rattle.ppd_ast.specs.Members.{has}
use Rattle.ppd_ast.specs.Lookups.{kind_of}
use Rattle.ppd_ast.proofs.Members.{has_cons, in_bounds_has, flat_gives, all_has}
use Rattle.ppd_ast.specs.declared.limits.TheConstants.{MOST_NESTING}
use Rattle.ppd_sets.specs.Flow.{follow_at, follow_under, follow_within}
use Rattle.ppd_sets.proofs.FlowWords.{follow_of}
use Rattle.ppd_sets.specs.FlowLaws.{FollowsItsList}

-- ---- in so few others

HoldsAbove : (ℕ → Type 0) → Option ℕ → Type 0
HoldsAbove inner None = ⊤
HoldsAbove inner (Some q) = inner q

HoldsOf : (ℕ → Type 0) → Option Stmt → Type 0
unfolding HoldsAbove
HoldsOf inner None = ⊤
HoldsOf inner (Some x) = HoldsAbove inner x.parent

-- statement s stands in at most so many lists
Within : ℕ → Program → ℕ → Type 0
Within zero p s = ⊥
Within (suc d) p s = HoldsOf (Within d p) (slice_get p.stmts s)

under_same : (p : Program) (f g : ℕ → Option ℕ) (body s : ℕ) (parent : Option ℕ) (P : ℕ → Type 0) → HoldsAbove P parent → ((q : ℕ) → P q → f q ≡ g q) → follow_under p f body s parent ≡ follow_under p g body s parent
unfolding HoldsAbove
under_same p f g body s None P h e = refl
under_same p f g body s (Some q) P h e = ap (follow_within q (kind_of p q) s) (e q h)

of_same : (p : Program) (f g : ℕ → Option ℕ) (s : ℕ) (o : Option Stmt) (P : ℕ → Type 0) → HoldsOf P o → ((q : ℕ) → P q → f q ≡ g q) → follow_of p f s o ≡ follow_of p g s o
unfolding HoldsOf
of_same p f g s None P h e = refl
of_same p f g s (Some x) P h e = under_same p f g x.body s x.parent P h e

deeper_same : (d : ℕ) (p : Program) (s : ℕ) → Within d p s → follow_at d p s ≡ follow_at (suc d) p s
unfolding Within follow_at
deeper_same zero p s h = absurd h
deeper_same (suc d) p s h = of_same p (follow_at d p) (follow_at (suc d) p) s (slice_get p.stmts s) (Within d p) h (λ q k. deeper_same d p q k)

above_grows : (P Q : ℕ → Type 0) (parent : Option ℕ) → ((q : ℕ) → P q → Q q) → HoldsAbove P parent → HoldsAbove Q parent
unfolding HoldsAbove
above_grows P Q None f h = tt
above_grows P Q (Some q) f h = f q h

of_grows : (P Q : ℕ → Type 0) (o : Option Stmt) → ((q : ℕ) → P q → Q q) → HoldsOf P o → HoldsOf Q o
unfolding HoldsOf
of_grows P Q None f h = tt
of_grows P Q (Some x) f h = above_grows P Q x.parent f h

one_deeper : (d : ℕ) (p : Program) (s : ℕ) → Within d p s → Within (suc d) p s
unfolding Within
one_deeper zero p s h = absurd h
one_deeper (suc d) p s h = of_grows (Within d p) (Within (suc d) p) (slice_get p.stmts s) (λ q k. one_deeper d p q k) h

so_much_deeper : (n d : ℕ) (p : Program) (s : ℕ) → Within d p s → Within (n + d) p s
so_much_deeper zero d p s h = let e : d ≡ zero + d = omega arith in subst (λ m. Within m p s) e h
so_much_deeper (suc n) d p s h = let e : suc (n + d) ≡ suc n + d = omega arith in subst (λ m. Within m p s) e (one_deeper (n + d) p s (so_much_deeper n d p s h))

within_more : (d m : ℕ) (p : Program) (s : ℕ) → d ≤ m → Within d p s → Within m p s
within_more d m p s l h = let e : (m - d) + d ≡ m = omega arith in subst (λ n. Within n p s) e (so_much_deeper (m - d) d p s h)

-- ---- those of a valid program

parent_within : (d : ℕ) (p : Program) (c t : ℕ) (x : Stmt) → slice_get p.stmts c ≡ Some x → x.parent ≡ Some t → Within d p t → Within (suc d) p c
unfolding Within HoldsOf HoldsAbove
parent_within d p c t x at is h =
    subst (HoldsOf (Within d p)) (sym at) (subst (HoldsAbove (Within d p)) (sym is) h)

top_within : (p : Program) (c : ℕ) (x : Stmt) → slice_get p.stmts c ≡ Some x → x.parent ≡ None → Within 1 p c
unfolding Within HoldsOf HoldsAbove
top_within p c x at is = subst (HoldsOf (Within 0 p)) (sym at) (subst (HoldsAbove (Within 0 p)) (sym is) tt)

child_within : (e : ℕ) (p : Program) (t c : ℕ) (o : Option Stmt) → IsValid p → slice_get p.stmts t ≡ o → IsTrue (has (inner_of o) c) → Within e p t → Within (suc e) p c
child_within e p t c None v at h w = absurd (true≢false (sym h))
child_within e p t c (Some y) v at h w =
    let stands = all_has (λ i. IsSomeAnd (slice_get p.stmts i) (λ s. (s.parent ≡ Some t) × (s.body ≡ y.body))) (inner y.kind) c (valid_stmt p t y v at).inside h in
    let x = some_and (λ (s : Stmt). (s.parent ≡ Some t) × (s.body ≡ y.body)) (slice_get p.stmts c) stands in
    parent_within e p c t x.0 x.1 x.2.0 w

inside_within : (d e m : ℕ) (p : Program) (t s : ℕ) → IsValid p → e + d ≤ suc m → Within e p t → IsTrue (has (preorder d p.stmts t) s) → Within m p s
unfolding preorder
inside_within zero e m p t s v l w h = absurd (true≢false (sym h))
inside_within (suc d) e m p t s v l w h =
    elim (has_cons t s (flat_map (preorder d p.stmts) (inner_at p.stmts t)) h) [
      | inl same ↦ subst (Within m p) same (within_more e m p t (omega arith) w)
      | inr later ↦
          let c = flat_gives (preorder d p.stmts) (inner_at p.stmts t) s later in
          inside_within d (suc e) m p c.0 s v (omega arith) (child_within e p t c.0 (slice_get p.stmts t) v refl c.1 w) c.2
    ]

-- each statement is of some body's range
pub in_some : (bs : List Body) (n end s : ℕ) → Follow n bs end → n ≤ s → s < end → (k : ℕ) × (b : Body) × (slice_get bs k ≡ Some b) × (b.first ≤ s) × (s < b.end)
in_some [] n end s f l h = absurd (let e : n ≡ end = f in omega arith)
in_some (b ∷ bs) n end s f l h = elim (cases_lt s b.end) [
  | inl below ↦ (zero, b, refl, (let e : b.first ≡ n = f.0 in omega arith), below)
  | inr past ↦ (let more = in_some bs b.end end s f.2 past h in (suc more.0, more.1, more.2, more.3, more.4))
]

valid_within : (p : Program) (s : ℕ) (x : Stmt) → IsValid p → slice_get p.stmts s ≡ Some x → Within MOST_NESTING p s
valid_within p s x v at =
    let place = in_some p.bodies 0 (length p.stmts) s v.ranges (omega arith) (slice_get_below p.stmts s x at) in
    let b : Body = place.1 in
    let valid : IsValidBody p place.0 b = valid_body p place.0 b v place.2 in
    let low : b.first ≤ s = place.3 in
    let high : s < b.end = place.4 in
    let number : IsTrue (has (range_with_len b.first (b.end - b.first)) s) = in_bounds_has b.first (b.end - b.first) s low (omega arith) in
    let listed : IsTrue (has (flat_map (preorder MOST_NESTING p.stmts) b.top) s) = subst (λ xs. IsTrue (has xs s)) (sym valid.order) number in
    let t = flat_gives (preorder MOST_NESTING p.stmts) b.top s listed in
    let stands = all_has (λ i. IsSomeAnd (slice_get p.stmts i) (λ s. (s.parent ≡ None) × (s.body ≡ place.0))) b.top t.0 valid.top t.1 in
    let y = some_and (λ (s : Stmt). (s.parent ≡ None) × (s.body ≡ place.0)) (slice_get p.stmts t.0) stands in
    inside_within MOST_NESTING 1 MOST_NESTING p t.0 s v (omega arith) (top_within p t.0 y.0 y.1 y.2.0) t.2

above_valid : (p : Program) (d s : ℕ) (o : Option Stmt) (x : Stmt) → o ≡ Some x → HoldsOf (Within d p) o → HoldsAbove (Within d p) x.parent
unfolding HoldsOf
above_valid p d s None x e h = cc
above_valid p d s (Some y) x e h = let same : y ≡ x = cc in subst (λ (z : Stmt). HoldsAbove (Within d p) z.parent) same h

open_follow : (p : Program) (s : ℕ) (x : Stmt) → slice_get p.stmts s ≡ Some x → follow_at MOST_NESTING p s ≡ follow_under p (follow_at (MOST_NESTING - 1) p) x.body s x.parent
unfolding follow_at
open_follow p s x at = ap (follow_of p (follow_at (MOST_NESTING - 1) p) s) at

open_within : (p : Program) (s : ℕ) → Within MOST_NESTING p s → HoldsOf (Within (MOST_NESTING - 1) p) (slice_get p.stmts s)
unfolding Within
open_within p s h = h

pub follows_its_list : FollowsItsList
follows_its_list p s x v at =
    let within : Within MOST_NESTING p s = valid_within p s x v at in
    open_follow p s x at
    ∙ under_same p (follow_at (MOST_NESTING - 1) p) (follow_at MOST_NESTING p) x.body s x.parent (Within (MOST_NESTING - 1) p) (above_valid p (MOST_NESTING - 1) s (slice_get p.stmts s) x at (open_within p s within)) (λ q k. deeper_same (MOST_NESTING - 1) p q k)
