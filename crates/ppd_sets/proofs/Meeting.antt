-- Variables of which a cell is in a set.
use Rattle.ppd_ast.proofs.Members.{any_from, any_gives, below_range, filter_same_in}
use Rattle.ppd_ast.proofs.Those.{both, those_no, those_yes}
use Rattle.ppd_ast.proofs.ValidLaws.{slice_get_below}
use Rattle.ppd_ast.proofs.Walks.{got_some}
use Rattle.ppd_ast.specs.Cells.{after, holds}
use Rattle.ppd_ast.specs.Lookups.{kind_of}
use Rattle.ppd_ast.specs.Members.{has, those}
use Rattle.ppd_ast.specs.Numbered.{is_while}
use Rattle.ppd_ast.specs.Order.{preorder}
use Rattle.ppd_ast.specs.Valid.{IsValid}
use Rattle.ppd_ast.specs.declared.limits.TheConstants.{MOST_NESTING, MOST_SHARED_CELLS}
use Rattle.ppd_ast.specs.declared.program.Program.{Program}
use Rattle.ppd_ast.specs.declared.program.Var.{Var}
use Rattle.ppd_sets.proofs.Vocabulary.{body_reads, body_writes}
use Rattle.ppd_sets.specs.Gained.{HasCells}
use Rattle.ppd_sets.specs.Used.{AreSmall, called_from, is_met, local_in, reads_at, shared_through, sorted, vars_met, writes_at}
use Rattle.std.proofs.Common.{Bool, List, None, Option, Some, [], ap, arith, false, get_or, inl, inr, length, min, refl, subst, sym, true, true≢false, ℕ, ◌++◌, ◌+◌, ◌-◌, ◌<◌, ◌^◌, ◌∙◌, ◌∷◌, ◌≡◌, ◌≤◌}
use Rattle.std.proofs.lemmas.Bool.{and_from, and_parts, cases_order, cond-true, false_from_ne_true, le-leb, leb-true, lt-ltb, ltb-true}
use Rattle.std.proofs.lemmas.Option.{slice_get-get_or}
use Rattle.std.specs.List.{flat_map, list_any, range_with_len}
use Rattle.std.specs.Prelude.{IsTrue, nat_le, nat_lt, slice_get, unwrap_or}

-- what a variable's cells are
held_is : (c : ℕ) (x : Var) → IsTrue (holds c x) → (x.base ≤ c) × (c < after x)
held_is c x h = let parts = and_parts (nat_le x.base c) (nat_lt c (after x)) h in (leb-true x.base c parts.0, ltb-true c (after x) parts.1)

held_from : (c : ℕ) (x : Var) → x.base ≤ c → c < after x → IsTrue (holds c x)
held_from c x l h = and_from (nat_le x.base c) (nat_lt c (after x)) (le-leb x.base c l) (lt-ltb c (after x) h)

-- ---- for the code

-- a cell of the variable was found in the set
pub met_here : (set : List ℕ) (x : Var) (place : ℕ) → place < unwrap_or x.len 1 → IsTrue (has set (x.base + place)) → IsTrue (list_any (λ c. holds c x) set)
met_here set x place l h = any_from (λ c. holds c x) set (x.base + place) h (held_from (x.base + place) x (omega arith) (omega arith))

-- none of the first cells is in the set
pub Misses : (set : List ℕ) (base n : ℕ) → Type 0
Misses set base n = (k : ℕ) → k < n → has set (base + k) ≡ false

pub misses_none : (set : List ℕ) (base : ℕ) → Misses set base 0
unfolding Misses
misses_none set base k h = absurd (omega arith)

pub misses_more : (set : List ℕ) (base n : ℕ) → Misses set base n → has set (base + n) ≡ false → Misses set base (n + 1)
unfolding Misses
misses_more set base n before e k h = elim (cases_order k n) [
  | inl same ↦ ap (λ i. has set (base + i)) same ∙ e
  | inr other ↦ elim other [ inl low ↦ before k low | inr up ↦ absurd (omega arith) ]
]

-- so the variable is not met
pub not_met : (set : List ℕ) (x : Var) (n : ℕ) → n ≡ unwrap_or x.len 1 → Misses set x.base n → false ≡ list_any (λ c. holds c x) set
unfolding Misses
not_met set x n long misses =
    sym (false_from_ne_true (list_any (λ c. holds c x) set) (λ t.
    let c = any_gives (λ c. holds c x) set t in
    let inside = held_is c.0 x c.2 in
    let k : ℕ = c.0 - x.base in
    let low : x.base ≤ c.0 = inside.0 in
    let high : c.0 < after x = inside.1 in
    let e : x.base + k ≡ c.0 = omega arith in
    let none : has set c.0 ≡ false = ap (has set) (sym e) ∙ misses k (omega arith) in
    true≢false (sym c.1 ∙ none)))

-- ---- the same by other lists of the same cells

met_by : (set cells : List ℕ) (x : Var) → after x ≤ MOST_SHARED_CELLS → ((c : ℕ) → c < MOST_SHARED_CELLS → has set c ≡ has cells c) → IsTrue (list_any (λ c. holds c x) set) → IsTrue (list_any (λ c. holds c x) cells)
met_by set cells x few same t =
    let c = any_gives (λ c. holds c x) set t in
    let high : c.0 < after x = (held_is c.0 x c.2).1 in
    any_from (λ c. holds c x) cells c.0 (sym (same c.0 (omega arith)) ∙ c.1) c.2

met_same : (set cells : List ℕ) (vars : List Var) (v : ℕ) (o : Option Var) → AreSmall vars → HasCells set cells → slice_get vars v ≡ o → is_met set o ≡ is_met cells o
met_same set cells vars v None all same at = refl
met_same set cells vars v (Some x) all same at =
    let below : v < length vars = slice_get_below vars v x at in
    let is : Some (get_or vars v x) ≡ Some x = sym (slice_get-get_or vars v x below) ∙ at in
    let x_is : get_or vars v x ≡ x = cc in
    let few : after x ≤ MOST_SHARED_CELLS = subst (λ (y : Var). after y ≤ MOST_SHARED_CELLS) x_is (all v x below) in
    both (list_any (λ c. holds c x) set) (list_any (λ c. holds c x) cells) (met_by set cells x few same.each) (met_by cells set x few (λ c h. sym (same.each c h)))

pub vars_same : (set cells : List ℕ) (vars : List Var) → AreSmall vars → HasCells set cells → vars_met vars set ≡ vars_met vars cells
vars_same set cells vars all same = filter_same_in (λ v. is_met set (slice_get vars v)) (λ v. is_met cells (slice_get vars v)) (range_with_len 0 (min (length vars) 65536)) (λ v h. met_same set cells vars v (slice_get vars v) all same refl)

-- a valid program's shared variables have cells below 1024
pub shared_small : (p : Program) → IsValid p → AreSmall p.shared
shared_small p v k d h = let within : after (get_or p.shared k d) ≤ length p.starts = v.cells.within k d h in let few = v.limits.starts in omega (arith, within, few)

-- what one more variable, met or not, adds to the numbers of those that are met
pub record MetNext (vars : List Var) (cells ids : List ℕ) (k : ℕ) (met : Bool) : Type 0 where
  pub yes : met ≡ true → ids ++ k ∷ [] ≡ those (k + 1) (λ v. is_met cells (slice_get vars v))
  pub no : met ≡ false → ids ≡ those (k + 1) (λ v. is_met cells (slice_get vars v))

pub met_next : (vars : List Var) (cells ids : List ℕ) (k : ℕ) (x : Var) (met : Bool) → k < length vars → x ≡ get_or vars k x → met ≡ list_any (λ c. holds c x) cells → ids ≡ those k (λ v. is_met cells (slice_get vars v)) → MetNext vars cells ids k met
met_next vars cells ids k x met inside is found e =
    let test : ℕ → Bool = λ v. is_met cells (slice_get vars v) in
    let here : test k ≡ met = ap (is_met cells) (got_some vars k x inside is) ∙ sym found in
    record {
      yes = λ h. ap (λ l. l ++ k ∷ []) e ∙ sym (those_yes k test (here ∙ h));
      no = λ h. e ∙ sym (those_no k test (here ∙ h));
    }

-- the cells of a set, rising
pub sorted_is : (set cells list : List ℕ) → list ≡ those MOST_SHARED_CELLS (has set) → HasCells set cells → list ≡ sorted cells
unfolding sorted
sorted_is set cells list e same = e ∙ filter_same_in (has set) (has cells) (range_with_len 0 MOST_SHARED_CELLS) (λ c h. same.each c (let inside = below_range 0 MOST_SHARED_CELLS c h in omega (arith, inside.1)))

pub while_used : (p : Program) (q : ℕ) (list : List ℕ) → is_while (kind_of p q) ≡ true → list ≡ sorted (flat_map (reads_at false p) (preorder MOST_NESTING p.stmts q)) → list ≡ local_in p (reads_at false p) q
while_used p q list is_one e = e ∙ sym (cond-true (is_while (kind_of p q)) (sorted (flat_map (reads_at false p) (preorder MOST_NESTING p.stmts q))) [] is_one)

pub while_defined : (p : Program) (q : ℕ) (list : List ℕ) → is_while (kind_of p q) ≡ true → list ≡ sorted (flat_map (writes_at false p) (preorder MOST_NESTING p.stmts q)) → list ≡ local_in p (writes_at false p) q
while_defined p q list is_one e = e ∙ sym (cond-true (is_while (kind_of p q)) (sorted (flat_map (writes_at false p) (preorder MOST_NESTING p.stmts q))) [] is_one)

-- what a body uses, from the cells of the bodies that it reaches
pub used_is : (p : Program) (b : ℕ) (set list : List ℕ) → IsValid p → list ≡ vars_met p.shared set → HasCells set (flat_map (body_reads p) (called_from p b)) → list ≡ shared_through p (reads_at true p) b
used_is p b set list v e same = e ∙ vars_same set (flat_map (body_reads p) (called_from p b)) p.shared (shared_small p v) same

pub defined_is : (p : Program) (b : ℕ) (set list : List ℕ) → IsValid p → list ≡ vars_met p.shared set → HasCells set (flat_map (body_writes p) (called_from p b)) → list ≡ shared_through p (writes_at true p) b
defined_is p b set list v e same = e ∙ vars_same set (flat_map (body_writes p) (called_from p b)) p.shared (shared_small p v) same

pub bodies_fit : (p : Program) → IsValid p → length p.bodies < 2 ^ 32
bodies_fit p v = let a = v.limits.processes in let b = v.limits.functions in omega (arith, a, b)

pub stmts_fit : (p : Program) → IsValid p → length p.stmts < 2 ^ 32
stmts_fit p v = let a = v.limits.stmts in omega (arith, a)
