-- The rows of successors, and that they rise.
use Rattle.std.specs.Option.{option_or}
use Rattle.std.proofs.Common.{◌≡◌, ℕ, zero, suc, ◌+◌, ◌-◌, ◌<◌, ◌≤◌, List, [], ◌∷◌, ◌++◌, true, false, Option, Some, None, refl, sym, subst, ap, ◌∙◌, arith, inl, inr, length, map}
use Rattle.std.specs.Prelude.{nat_eq, nat_lt, slice_get, IsSomeAnd, if◌then◌else◌, option_to_list, get_or}
use Rattle.std.specs.List.{range_with_len}
use Rattle.std.proofs.lemmas.Bool.{cases_Bool, cases_lt, ltb-true, ltb-false, eqb-false, cond-true, cond-false}
use Rattle.ppd_ast.specs.declared.program.Kind.{Kind}
use Rattle.ppd_ast.specs.declared.program.Kind.TheVariants as K
use Rattle.ppd_ast.specs.declared.program.Stmt.{Stmt}
use Rattle.ppd_ast.specs.declared.program.Body.{Body}
use Rattle.ppd_ast.specs.declared.program.Program.{Program}
use Rattle.ppd_sets.specs.declared.graph.Cfg.{Cfg}
use Rattle.ppd_sets.specs.Cfgs.{HasStmt, row_of, IsFlowGraph, IsGraphOf}
use Rattle.ppd_ast.proofs.Walks.{got_none}
use Rattle.ppd_ast.proofs.Ranges.{range_more}
use Rattle.ppd_ast.specs.Members.{RisesFrom}
use Rattle.ppd_ast.specs.Lookups.{kind_of}
use Rattle.ppd_ast.proofs.Vocabulary.{kind_of_stmt}
use Rattle.ppd_sets.specs.Lists.{rising}
use Rattle.ppd_sets.proofs.FlowWords.{rising_pair}
use Rattle.ppd_sets.specs.Flow.{follow, successors, next_of, flow_rows}

pub row_at : (f : ℕ → List ℕ) (a n k : ℕ) → k < n → get_or (map f (range_with_len a n)) k [] ≡ f (a + k)
row_at f a zero k h = absurd (omega arith)
row_at f a (suc n) zero h = let e : a ≡ a + zero = omega arith in ap f e
row_at f a (suc n) (suc k) h = let e : (a + 1) + k ≡ a + suc k = omega arith in row_at f (a + 1) n k (omega arith) ∙ ap f e

row_past : (f : ℕ → List ℕ) (a n k : ℕ) → n ≤ k → get_or (map f (range_with_len a n)) k [] ≡ []
row_past f a zero k h = refl
row_past f a (suc n) zero h = absurd (omega arith)
row_past f a (suc n) (suc k) h = row_past f (a + 1) n k (omega arith)

pub length_rows : (f : ℕ → List ℕ) (a n : ℕ) → length (map f (range_with_len a n)) ≡ n
length_rows f a zero = refl
length_rows f a (suc n) = ap suc (length_rows f (a + 1) n)

-- a statement past the last has no successors
none_past : (p : Program) (s : ℕ) → length p.stmts ≤ s → next_of p s ≡ []
none_past p s h = ap (λ (o : Option Stmt). successors s (kind_of_stmt o) (follow p s)) (got_none p.stmts s h)

pub rows_are : (p : Program) (s : ℕ) → get_or (flow_rows p) s [] ≡ next_of p s
rows_are p s = elim (cases_lt s (length p.stmts)) [
  | inl below ↦ (let e : 0 + s ≡ s = omega arith in row_at (next_of p) 0 (length p.stmts) s below ∙ ap (next_of p) e)
  | inr past ↦ row_past (next_of p) 0 (length p.stmts) s past ∙ sym (none_past p s past)
]

-- ---- they rise

one_rises : (o : Option ℕ) → RisesFrom 0 (option_to_list o)
one_rises None = tt
one_rises (Some x) = (omega arith, tt)

pair_rises : (x y : ℕ) → RisesFrom 0 (rising_pair x y)
pair_rises x y = elim (cases_Bool (nat_lt x y)) [
  | inl less ↦ subst (RisesFrom 0) (sym (cond-true (nat_lt x y) (x ∷ y ∷ []) (if nat_eq x y then x ∷ [] else y ∷ x ∷ []) less)) (let l = ltb-true x y less in (omega arith, (omega (arith, l), tt)))
  | inr more ↦ subst (RisesFrom 0) (sym (cond-false (nat_lt x y) (x ∷ y ∷ []) (if nat_eq x y then x ∷ [] else y ∷ x ∷ []) more))
      (elim (cases_Bool (nat_eq x y)) [
        | inl same ↦ subst (RisesFrom 0) (sym (cond-true (nat_eq x y) (x ∷ []) (y ∷ x ∷ []) same)) (omega arith, tt)
        | inr other ↦ subst (RisesFrom 0) (sym (cond-false (nat_eq x y) (x ∷ []) (y ∷ x ∷ []) other))
            (let l = ltb-false x y more in let n = eqb-false x y other in (omega arith, (apart x y l n, tt)))
      ])
] where
  apart : (x y : ℕ) → y ≤ x → (x ≡ y → ⊥) → y + 1 ≤ x
  apart x y h n = elim (cases_lt y x) [ inl less ↦ omega arith | inr at_most ↦ absurd (n (omega arith)) ]

rising_rises : (a b : Option ℕ) → RisesFrom 0 (rising a b)
rising_rises None b = one_rises b
rising_rises (Some x) None = (omega arith, tt)
rising_rises (Some x) (Some y) = pair_rises x y

successors_rise : (s : ℕ) (k : Kind) (after : Option ℕ) → RisesFrom 0 (successors s k after)
successors_rise s (K.If e first second) after = rising_rises (option_or (slice_get first 0) after) (option_or (slice_get second 0) after)
successors_rise s (K.While e body) after = rising_rises (option_or (slice_get body 0) (Some s)) after
successors_rise s (K.Return e) after = tt
successors_rise s K.End after = tt
successors_rise s k after = one_rises after

pub next_rises : (p : Program) (s : ℕ) → RisesFrom 0 (next_of p s)
next_rises p s = successors_rise s (kind_of p s) (follow p s)

-- ---- for the code

pub map_push : (f : ℕ → List ℕ) (xs : List ℕ) (x : ℕ) → map f (xs ++ x ∷ []) ≡ map f xs ++ f x ∷ []
map_push f [] x = refl
map_push f (y ∷ xs) x = ap (λ zs. f y ∷ zs) (map_push f xs x)

-- one more row
pub rows_more : (p : Program) (a k : ℕ) (rows new : List (List ℕ)) (one : List ℕ) → a ≤ k → rows ≡ map (next_of p) (range_with_len a (k - a)) → one ≡ next_of p k → new ≡ rows ++ one ∷ [] → new ≡ map (next_of p) (range_with_len a (k + 1 - a))
rows_more p a k rows new one h before one_is now =
    now ∙ ap (λ r. r ++ one ∷ []) before ∙ ap (λ r. map (next_of p) (range_with_len a (k - a)) ++ r ∷ []) one_is
    ∙ sym (ap (map (next_of p)) (range_more a k h) ∙ map_push (next_of p) (range_with_len a (k - a)) k)

-- rows for each statement of a body are its graph
pub graph_is : (p : Program) (bodies : List Body) (b : ℕ) (body : Body) (g : Cfg) → slice_get bodies b ≡ Some body → bodies ≡ p.bodies → g.first ≡ body.first →
    g.rows ≡ map (next_of p) (range_with_len body.first (body.end - body.first)) → IsGraphOf p b g
graph_is p bodies b body g at same first rows =
    let long : length g.rows ≡ body.end - body.first = ap length rows ∙ length_rows (next_of p) body.first (body.end - body.first) in
    let next : (s : ℕ) → HasStmt g s → row_of g s ≡ next_of p s = λ s h.
    let k : s - g.first < body.end - body.first = (let below = h.1 in let above = h.0 in omega (arith, below, above)) in
    let e : body.first + (s - g.first) ≡ s = (let above = h.0 in omega (arith, above)) in
    ap (λ rs. get_or rs (s - g.first) []) rows ∙ row_at (next_of p) body.first (body.end - body.first) (s - g.first) k ∙ ap (next_of p) e in
    let graph : IsFlowGraph p body g = record {
      first = first;
      count = long;
      next = next;
      rising = λ s h. subst (RisesFrom 0) (sym (next s h)) (next_rises p s);
    } in
    subst (λ (o : Option Body). IsSomeAnd o (λ x. IsFlowGraph p x g)) (sym (ap (λ (bs : List Body). slice_get bs b) (sym same) ∙ at)) graph
