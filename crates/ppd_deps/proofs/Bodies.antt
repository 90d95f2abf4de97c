-- Each statement is among those of its body, and what it may read is among what its body uses.
use Rattle.ppd_ast.proofs.Members.{all_has, any_from, any_gives, filter_same_in, flat_from, flat_gives, has_first, in_bounds_has}
use Rattle.ppd_ast.proofs.Those.{both}
use Rattle.ppd_ast.proofs.ValidLaws.{some_and, valid_body}
use Rattle.ppd_ast.specs.Cells.{holds}
use Rattle.ppd_ast.specs.Lookups.{body_of}
use Rattle.ppd_ast.specs.Members.{has, those}
use Rattle.ppd_ast.specs.Numbered.{numbers_of}
use Rattle.ppd_ast.specs.Order.{preorder}
use Rattle.ppd_ast.specs.Valid.{IsValid, IsValidBody}
use Rattle.ppd_ast.specs.declared.limits.TheConstants.{MOST_NESTING}
use Rattle.ppd_ast.specs.declared.program.Body.{Body}
use Rattle.ppd_ast.specs.declared.program.Program.{Program}
use Rattle.ppd_ast.specs.declared.program.Stmt.{Stmt}
use Rattle.ppd_ast.specs.declared.program.Var.{Var}
use Rattle.ppd_sets.proofs.Following.{in_some}
use Rattle.ppd_sets.proofs.FlowRows.{length_rows, row_at}
use Rattle.ppd_sets.specs.Reach.{start}
use Rattle.ppd_deps.proofs.Arriving.{body_there, filter_twice, has_those}
use Rattle.ppd_deps.specs.Named.{shared_reads}
use Rattle.ppd_sets.proofs.Chains.{called_law}
use Rattle.ppd_sets.proofs.InBody.{InBody, inside_in}
use Rattle.ppd_sets.proofs.Meeting.{shared_small, vars_same}
use Rattle.ppd_sets.proofs.Vocabulary.{body_reads, numbers_in}
use Rattle.ppd_sets.specs.Gained.{HasCells}
use Rattle.ppd_sets.specs.SetsOf.{AreSetsOf}
use Rattle.ppd_sets.specs.Used.{called_from, is_met, reads_at, shared_through, stmts_at}
use Rattle.ppd_sets.specs.declared.var_sets.VarSets.{VarSets}
use Rattle.std.proofs.Common.{Bool, List, None, Option, Some, [], ap, arith, length, min, subst, sym, true, ℕ, ◌+◌, ◌-◌, ◌<◌, ◌∙◌, ◌≡◌, ◌≤◌}
use Rattle.std.proofs.lemmas.Bool.{and_from, and_parts}
use Rattle.std.specs.List.{filter, flat_map, range_with_len}
use Rattle.std.specs.Option.{option_map_or}
use Rattle.std.specs.Prelude.{IsSomeAnd, IsTrue, get_or, slice_get, ◌&&◌}

-- ---- the statements of a body

named : (p : Program) (b s : ℕ) → InBody p b s → body_of p s ≡ b
unfolding InBody
named p b s h = ap (λ o. option_map_or (λ (x : Stmt). x.body) o 0) h.1 ∙ h.2

topped : (p : Program) (b s : ℕ) (y : Stmt) → slice_get p.stmts s ≡ Some y → y.body ≡ b → InBody p b s
unfolding InBody
topped p b s y at is = (y, at, is)

-- a statement is among those of its body
pub stands_among : (p : Program) (s : ℕ) → IsValid p → s < length p.stmts → IsTrue (has (stmts_at p (body_of p s)) s)
stands_among p s v lt =
    let place = in_some p.bodies 0 (length p.stmts) s v.ranges (omega arith) lt in
    let b : Body = place.1 in
    let valid : IsValidBody p place.0 b = valid_body p place.0 b v place.2 in
    let low : b.first ≤ s = place.3 in
    let high : s < b.end = place.4 in
    let number : IsTrue (has (range_with_len b.first (b.end - b.first)) s) = in_bounds_has b.first (b.end - b.first) s low (omega arith) in
    let listed : IsTrue (has (flat_map (preorder MOST_NESTING p.stmts) b.top) s) = subst (λ xs. IsTrue (has xs s)) (sym valid.order) number in
    let t = flat_gives (preorder MOST_NESTING p.stmts) b.top s listed in
    let stands = all_has (λ i. IsSomeAnd (slice_get p.stmts i) (λ s. (s.parent ≡ None) × (s.body ≡ place.0))) b.top t.0 valid.top t.1 in
    let y = some_and (λ (s : Stmt). (s.parent ≡ None) × (s.body ≡ place.0)) (slice_get p.stmts t.0) stands in
    let body : body_of p s ≡ place.0 = named p place.0 s (inside_in MOST_NESTING p t.0 s place.0 v (topped p place.0 t.0 y.0 y.1 y.2.1) t.2) in
    let here : IsTrue (has (numbers_of p.stmts b) s) = in_bounds_has b.first (min b.end (length p.stmts) - b.first) s low (omega arith) in
    subst (λ j. IsTrue (has (stmts_at p j) s)) (sym body) (subst (λ (o : Option Body). IsTrue (has (numbers_in p o) s)) (sym place.2) here)

-- ---- what is used

pub used_long : (p : Program) (sets : VarSets) (s : ℕ) → IsValid p → AreSetsOf p sets → s < length p.stmts → body_of p s < length sets.used
used_long p sets s v are lt = let below = body_there p s v lt in let long : length sets.used ≡ length p.bodies = ap length are.used ∙ length_rows (shared_through p (reads_at true p)) 0 (length p.bodies) in omega (arith, below, long)

pub used_row : (p : Program) (sets : VarSets) (s : ℕ) → IsValid p → AreSetsOf p sets → s < length p.stmts → get_or sets.used (body_of p s) [] ≡ shared_through p (reads_at true p) (body_of p s)
used_row p sets s v are lt =
    let e : 0 + body_of p s ≡ body_of p s = omega arith in
    ap (λ rows. get_or rows (body_of p s) []) are.used ∙ row_at (shared_through p (reads_at true p)) 0 (length p.bodies) (body_of p s) (body_there p s v lt) ∙ ap (shared_through p (reads_at true p)) e

-- what the statement reads its body does
read_in_body : (p : Program) (s c : ℕ) → IsValid p → s < length p.stmts → IsTrue (has (reads_at true p s) c) → IsTrue (has (flat_map (body_reads p) (called_from p (body_of p s))) c)
read_in_body p s c v lt h =
    let b : ℕ = body_of p s in
    let called : IsTrue (has (called_from p b) b) = (called_law p b b).1 (body_there p s v lt, start (has_first b [])) in
    flat_from (body_reads p) (called_from p b) b c called (flat_from (reads_at true p) (stmts_at p b) s c (stands_among p s v lt) h)

met_on : (xs ys : List ℕ) (o : Option Var) → ((c : ℕ) → IsTrue (has xs c) → IsTrue (has ys c)) → IsTrue (is_met xs o) → IsTrue (is_met ys o)
met_on xs ys None h m = m
met_on xs ys (Some x) h m = let c = any_gives (λ c. holds c x) xs m in any_from (λ c. holds c x) ys c.0 (h c.0 c.1) c.2

-- so of the variables that the body uses, those of which a cell is read are all that are read
pub reads_of_used : (p : Program) (s : ℕ) (set used list : List ℕ) → IsValid p → s < length p.stmts → HasCells set (reads_at true p s) → used ≡ shared_through p (reads_at true p) (body_of p s) → list ≡ filter (λ v. is_met set (slice_get p.shared v)) used → list ≡ shared_reads p s
reads_of_used p s set used list v lt same is e =
    let n : ℕ = min (length p.shared) 65536 in
    let body : ℕ → Bool = λ v. is_met (flat_map (body_reads p) (called_from p (body_of p s))) (slice_get p.shared v) in
    let here : ℕ → Bool = λ v. is_met set (slice_get p.shared v) in
    let reads : ℕ → Bool = λ v. is_met (reads_at true p s) (slice_get p.shared v) in
    let sorted : those n here ≡ those n reads = vars_same set (reads_at true p s) p.shared (shared_small p v) same in
    let as_read : (w : ℕ) → IsTrue (has (range_with_len 0 n) w) → here w ≡ reads w = λ w h. sym (has_those n here w h) ∙ ap (λ l. has l w) sorted ∙ has_those n reads w h in
    let mine : (w : ℕ) → IsTrue (has (range_with_len 0 n) w) → (body w && here w) ≡ here w = λ w h.
    both (body w && here w) (here w) (λ t. (and_parts (body w) (here w) t).1)
    (λ t. and_from (body w) (here w) (met_on (reads_at true p s) (flat_map (body_reads p) (called_from p (body_of p s))) (slice_get p.shared w) (λ c i. read_in_body p s c v lt i) (sym (as_read w h) ∙ t)) t) in
    e ∙ ap (filter here) is ∙ filter_twice here body (range_with_len 0 n) ∙ filter_same_in (λ w. body w && here w) here (range_with_len 0 n) mine ∙ sorted
