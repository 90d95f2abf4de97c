-- The units and the block loops of a policy's plan by their numbers.
use Rattle.std.proofs.Common.{◌≡◌, ℕ, zero, suc, ◌+◌, ◌-◌, ◌<◌, ◌≤◌, List, [], ◌∷◌, true, false, Option, Some, None, refl, sym, ap, ◌∙◌, subst, inl, inr, min, map, arith, length, true≢false}
use Rattle.std.specs.Prelude.{IsTrue, nat_lt, nat_le, not, ◌&&◌, slice_get, option_map, if◌then◌else◌}
use Rattle.std.specs.List.{flat_map, range_with_len}
use Rattle.std.proofs.lemmas.Bool.{and_parts, cond-true, cond-false, eqb-true, eq-eqb}
use Rattle.std.proofs.lemmas.Option.{slice_get-map, slice_get_within}
use Rattle.ppd_ast.specs.declared.limits.TheConstants.{MOST_NESTING}
use Rattle.ppd_ast.specs.declared.program.Body.{Body}
use Rattle.ppd_ast.specs.declared.program.Program.{Program}
use Rattle.ppd_ast.specs.declared.program.Stmt.{Stmt}
use Rattle.ppd_ast.specs.declared.plan.Block.{Block}
use Rattle.ppd_ast.specs.declared.plan.BlockKind.{BlockKind}
use Rattle.ppd_ast.specs.declared.plan.BlockKind.TheVariants.{Function, Process, Loop}
use Rattle.ppd_ast.specs.declared.plan.Policy.{Policy}
use Rattle.ppd_ast.specs.declared.plan.Start.{Start}
use Rattle.ppd_ast.specs.declared.plan.Start.TheVariants.{Entry, After, Enter, Exit}
use Rattle.ppd_ast.specs.declared.plan.Unit.{Unit as UnitOf}
use Rattle.ppd_ast.specs.Numbered.{blocks_by, in_while, is_block_loop, is_left, is_while, numbers_of}
use Rattle.ppd_ast.proofs.Vocabulary.{inside_count}
use Rattle.ppd_ast.specs.Valid.{IsValid}
use Rattle.ppd_ast.specs.Members.{has}
use Rattle.ppd_ast.specs.Lookups.{kind_of}
use Rattle.ppd_ast.proofs.Vocabulary.{kind_of_stmt}
use Rattle.ppd_ast.proofs.Members.{has_first, has_cons, has_left, has_right, in_bounds_has}
use Rattle.ppd_sets.proofs.Following.{in_some}
use Rattle.ppd_blocks.specs.Starts.{unit_starts_at, unit_of as unit_from}
use Rattle.ppd_blocks.proofs.Vocabulary.{all_starts, starts_in, block_loops, block_of as block_from}
use Rattle.ppd_blocks.specs.Blocks.{loop_in, plan_of}
use Rattle.ppd_blocks.proofs.Listing.{IsLoop, by_policy}
use Rattle.ppd_sem.specs.Tables.{block_of, same_block, same_start, unit_of}
use Rattle.ppd_sem.proofs.TableWords.{or_zero}
use Rattle.law_steps.proofs.Units.Listed.{IsListed, found, found_passes, listed_each, listed_flat, listed_right}

-- ---- units

start_itself : (s : Start) → same_start s s ≡ true
start_itself (Entry a) = eq-eqb a a refl
start_itself (After a) = eq-eqb a a refl
start_itself (Enter a) = eq-eqb a a refl
start_itself (Exit a) = eq-eqb a a refl

one_start : (s t : Start) → same_start s t ≡ true → s ≡ t
one_start (Entry a) (Entry b) e = ap (λ n. Entry n) (eqb-true a b e)
one_start (After a) (After b) e = ap (λ n. After n) (eqb-true a b e)
one_start (Enter a) (Enter b) e = ap (λ n. Enter n) (eqb-true a b e)
one_start (Exit a) (Exit b) e = ap (λ n. Exit n) (eqb-true a b e)
one_start s t e = absurd (cc)

from_start : (p : Program) (loops : List ℕ) (o : Option Start) (u : UnitOf) → option_map (unit_from p loops) o ≡ Some u → u ≡ unit_from p loops u.start
from_start p loops None u e = cc
from_start p loops (Some s) u e = let same : unit_from p loops s ≡ u = cc in subst (λ (w : UnitOf). w ≡ unit_from p loops w.start) same refl

-- the unit with the number of a start is the unit of this start
pub unit_there : (p : Program) (policy : Policy) (s : Start) → IsListed (all_starts p (block_loops p policy)) s → slice_get (plan_of p policy).units (unit_of (plan_of p policy) s) ≡ Some (unit_from p (block_loops p policy) s)
unit_there p policy s listed =
    let loops : List ℕ = block_loops p policy in
    let starts : List Start = all_starts p loops in
    let units : List UnitOf = map (unit_from p loops) starts in
    let at : slice_get units listed.0 ≡ Some (unit_from p loops s) = slice_get-map (unit_from p loops) starts listed.0 ∙ ap (option_map (unit_from p loops)) listed.1 in
    let w = found (λ (u : UnitOf). same_start u.start s) units listed.0 (unit_from p loops s) at (start_itself s) in
    let made : w.1 ≡ unit_from p loops w.1.start = from_start p loops (slice_get starts w.0) w.1 (sym (slice_get-map (unit_from p loops) starts w.0) ∙ w.3) in
    ap (λ o. slice_get units (or_zero o)) w.2 ∙ w.3 ∙ ap Some made ∙ ap (λ t. Some (unit_from p loops t)) (one_start w.1.start s w.4)

-- ---- starts

-- each body's entry is a start
pub entry_listed : (p : Program) (loops : List ℕ) (b : ℕ) (body : Body) → slice_get p.bodies b ≡ Some body → IsListed (all_starts p loops) (Entry b)
entry_listed p loops b body at =
    let e : 0 + b ≡ b = omega arith in
    listed_each (starts_in p loops) 0 p.bodies b body (Entry b) at (subst (λ j. IsListed (starts_in p loops j body) (Entry b)) (sym e) (0, refl))

-- and so are the starts at each statement
at_stmt : (p : Program) (loops : List ℕ) (k : ℕ) (s : Start) → IsValid p → k < length p.stmts → IsListed (unit_starts_at p loops k) s → IsListed (all_starts p loops) s
at_stmt p loops k s v below listed =
    let place = in_some p.bodies 0 (length p.stmts) k v.ranges (omega arith) below in
    let b : Body = place.1 in
    let low : b.first ≤ k = place.3 in
    let high : k < b.end = place.4 in
    let n : ℕ = min b.end (length p.stmts) - b.first in
    let top : k < b.first + n = omega arith in
    let number : IsTrue (has (range_with_len b.first n) k) = in_bounds_has b.first n k low top in
    let here : IsListed (flat_map (unit_starts_at p loops) (numbers_of p.stmts b)) s = listed_flat (unit_starts_at p loops) (numbers_of p.stmts b) k s number listed in
    listed_each (starts_in p loops) 0 p.bodies place.0 b s place.2 (listed_right (Entry (0 + place.0) ∷ []) (flat_map (unit_starts_at p loops) (numbers_of p.stmts b)) s here)

there_by : (p : Program) (k : ℕ) (o : Option Stmt) → slice_get p.stmts k ≡ o → is_left (kind_of_stmt o) ≡ true → k < length p.stmts
there_by p k None at is = absurd (true≢false (sym is))
there_by p k (Some x) at is = slice_get_within p.stmts k x at

pub after_listed : (p : Program) (loops : List ℕ) (k : ℕ) → IsValid p → is_left (kind_of p k) ≡ true → IsListed (all_starts p loops) (After k)
after_listed p loops k v is =
    let starts : unit_starts_at p loops k ≡ After k ∷ [] = cond-true (is_left (kind_of p k)) (After k ∷ []) (if has loops k then Enter k ∷ Exit k ∷ [] else []) is in
    at_stmt p loops k (After k) v (there_by p k (slice_get p.stmts k) refl is) (subst (λ xs. IsListed xs (After k)) (sym starts) (0, refl))

loop_starts : (p : Program) (loops : List ℕ) (k : ℕ) → is_left (kind_of p k) ≡ false → has loops k ≡ true → unit_starts_at p loops k ≡ Enter k ∷ Exit k ∷ []
loop_starts p loops k isnt is =
    cond-false (is_left (kind_of p k)) (After k ∷ []) (if has loops k then Enter k ∷ Exit k ∷ [] else []) isnt ∙ cond-true (has loops k) (Enter k ∷ Exit k ∷ []) [] is

pub enter_listed : (p : Program) (loops : List ℕ) (k : ℕ) → IsValid p → k < length p.stmts → is_left (kind_of p k) ≡ false → has loops k ≡ true → IsListed (all_starts p loops) (Enter k)
enter_listed p loops k v below isnt is = at_stmt p loops k (Enter k) v below (subst (λ xs. IsListed xs (Enter k)) (sym (loop_starts p loops k isnt is)) (0, refl))

pub exit_listed : (p : Program) (loops : List ℕ) (k : ℕ) → IsValid p → k < length p.stmts → is_left (kind_of p k) ≡ false → has loops k ≡ true → IsListed (all_starts p loops) (Exit k)
exit_listed p loops k v below isnt is = at_stmt p loops k (Exit k) v below (subst (λ xs. IsListed xs (Exit k)) (sym (loop_starts p loops k isnt is)) (1, refl))

-- ---- block loops

block_itself : (q : ℕ) → same_block (Loop q) (Loop q) ≡ true
block_itself q = eq-eqb q q refl

one_loop : (kind : BlockKind) (q : ℕ) → same_block kind (Loop q) ≡ true → kind ≡ Loop q
one_loop (Function f) q e = absurd (cc)
one_loop (Process f) q e = absurd (cc)
one_loop (Loop k) q e = ap (λ n. Loop n) (eqb-true k q e)

kind_listed : (kinds : List BlockKind) (q : ℕ) → IsTrue (has (flat_map loop_in kinds) q) → IsListed kinds (Loop q)
kind_listed [] q h = absurd (true≢false (sym h))
kind_listed (Function f ∷ ks) q h = let w : IsListed ks (Loop q) = kind_listed ks q h in (suc w.0, w.1)
kind_listed (Process f ∷ ks) q h = let w : IsListed ks (Loop q) = kind_listed ks q h in (suc w.0, w.1)
kind_listed (Loop k ∷ ks) q h = elim (has_cons k q (flat_map loop_in ks) h) [
  | inl e ↦ (0, ap (λ n. Some (Loop n)) e)
  | inr t ↦ (let w : IsListed ks (Loop q) = kind_listed ks q t in (suc w.0, w.1))
]

loop_here : (kinds : List BlockKind) (n q : ℕ) → slice_get kinds n ≡ Some (Loop q) → IsTrue (has (flat_map loop_in kinds) q)
loop_here [] n q at = cc
loop_here (k ∷ ks) zero q at =
    let same : Loop q ≡ k = cc in
    has_left (loop_in k) (flat_map loop_in ks) q (subst (λ b. IsTrue (has (loop_in b) q)) same (has_first q []))
loop_here (k ∷ ks) (suc n) q at = has_right (loop_in k) (flat_map loop_in ks) q (loop_here ks n q at)

from_kind : (p : Program) (o : Option BlockKind) (q : ℕ) (b : Block) → option_map (block_from p) o ≡ Some b → same_block b.kind (Loop q) ≡ true → o ≡ Some (Loop q)
from_kind p None q b e is = cc
from_kind p (Some k) q b e is =
    let same : block_from p k ≡ b = cc in
    ap Some (one_loop k q (ap (λ (c : Block). same_block c.kind (Loop q)) same ∙ is))

-- a block loop has a block
pub loop_block : (p : Program) (policy : Policy) (q : ℕ) → has (block_loops p policy) q ≡ true → (b : ℕ) × (block_of (plan_of p policy) (Loop q) ≡ Some b)
loop_block p policy q is =
    let kinds : List BlockKind = blocks_by p.stmts policy p.bodies in
    let listed : IsListed kinds (Loop q) = kind_listed kinds q is in
    let at : slice_get (map (block_from p) kinds) listed.0 ≡ Some (block_from p (Loop q)) = slice_get-map (block_from p) kinds listed.0 ∙ ap (option_map (block_from p)) listed.1 in
    let w = found (λ (b : Block). same_block b.kind (Loop q)) (map (block_from p) kinds) listed.0 (block_from p (Loop q)) at (block_itself q) in
    (w.0, w.2)

-- and only a block loop
pub block_loop : (p : Program) (policy : Policy) (q b : ℕ) → block_of (plan_of p policy) (Loop q) ≡ Some b → has (block_loops p policy) q ≡ true
block_loop p policy q b e =
    let kinds : List BlockKind = blocks_by p.stmts policy p.bodies in
    let w = found_passes (λ (c : Block). same_block c.kind (Loop q)) (map (block_from p) kinds) b e in
    let at : slice_get kinds b ≡ Some (Loop q) = from_kind p (slice_get kinds b) q w.0 (sym (slice_get-map (block_from p) kinds b) ∙ w.1) w.2 in
    loop_here kinds b q at

-- a block loop is a `while`
loop_kind : (p : Program) (policy : Policy) (q : ℕ) (o : Option Stmt) (x : Stmt) → o ≡ Some x → is_block_loop p.stmts policy x ≡ true → is_while (kind_of_stmt o) ≡ true
loop_kind p policy q None x e is = cc
loop_kind p policy q (Some y) x e is =
    let same : y ≡ x = cc in
    let early : (is_while x.kind && nat_lt 0 policy.loops && not (in_while MOST_NESTING p.stmts x.parent)) ≡ true =
    (and_parts (is_while x.kind && nat_lt 0 policy.loops && not (in_while MOST_NESTING p.stmts x.parent)) (nat_le policy.loops (inside_count p.stmts x.kind)) is).0 in
    let first : (is_while x.kind && nat_lt 0 policy.loops) ≡ true = (and_parts (is_while x.kind && nat_lt 0 policy.loops) (not (in_while MOST_NESTING p.stmts x.parent)) early).0 in
    let whole : is_while x.kind ≡ true = (and_parts (is_while x.kind) (nat_lt 0 policy.loops) first).0 in
    ap (λ (z : Stmt). is_while z.kind) same ∙ whole

pub loop_is_while : (p : Program) (policy : Policy) (q : ℕ) → has (block_loops p policy) q ≡ true → is_while (kind_of p q) ≡ true
unfolding IsLoop
loop_is_while p policy q is = let w : IsLoop p policy q = by_policy p policy q is in loop_kind p policy q (slice_get p.stmts q) w.0 w.1 w.2
