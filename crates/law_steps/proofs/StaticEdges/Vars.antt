-- The variables of the cells that a statement reads and writes.
use Rattle.law_steps.specs.Sound.{IsCellOfVariable}
use Rattle.ppd_ast.proofs.Members.{any_from, below_range, filter_has, from_zero}
use Rattle.ppd_ast.proofs.ValidLaws.{some_and, valid_body, valid_stmt}
use Rattle.ppd_ast.proofs.Vocabulary.{kind_of_stmt, locals_of_body, params_of_body}
use Rattle.ppd_ast.specs.Cells.{IsArrayOf, IsScalarIfAny, IsScalarOf, IsWholeTarget, WritesWhole, after, holds}
use Rattle.ppd_ast.specs.Lookups.{body_numbered, body_of, kind_of}
use Rattle.ppd_ast.specs.Members.{has}
use Rattle.ppd_ast.specs.Valid.{IsValid, IsValidKind}
use Rattle.ppd_ast.specs.declared.program.Body.{Body}
use Rattle.ppd_ast.specs.declared.program.Kind.{Kind}
use Rattle.ppd_ast.specs.declared.program.Kind.TheVariants as K
use Rattle.ppd_ast.specs.declared.program.Program.{Program}
use Rattle.ppd_ast.specs.declared.program.Stmt.{Stmt}
use Rattle.ppd_ast.specs.declared.program.Target.{Target}
use Rattle.ppd_ast.specs.declared.program.Target.TheVariants as T
use Rattle.ppd_ast.specs.declared.program.Var.{Var}
use Rattle.ppd_deps.proofs.Vocabulary.{is_cell}
use Rattle.ppd_deps.specs.Edges.{ends_paths, scalar_written}
use Rattle.ppd_sets.proofs.Vocabulary.{receiving}
use Rattle.ppd_sets.specs.Named.{writes}
use Rattle.ppd_sets.specs.Used.{is_met, vars_met, writes_at}
use Rattle.std.proofs.Common.{List, None, Option, Some, [], ap, arith, false, get_or, length, min, refl, subst, suc, sym, true, true≢false, zero, ℕ, ◌+◌, ◌<◌, ◌∙◌, ◌∷◌, ◌≡◌, ◌≤◌}
use Rattle.std.proofs.lemmas.Bool.{and_from, and_parts, le-leb, leb-true, lt-ltb, ltb-true}
use Rattle.std.specs.List.{list_any, range_with_len}
use Rattle.std.specs.Option.{option_map_or}
use Rattle.std.specs.Prelude.{IsTrue, is_some, nat_le, nat_lt, not, slice_get, unwrap_or, ◌&&◌}

-- ---- a variable of which a cell is named

below_min : (v n : ℕ) → v < n → v < 65536 → v < min n 65536
below_min v n a b = omega arith

there_of : (vars : List Var) (v : ℕ) (x : Var) → slice_get vars v ≡ Some x → v < length vars
there_of [] v x e = absurd (cc)
there_of (y ∷ vars) zero x e = omega arith
there_of (y ∷ vars) (suc v) x e = let l = there_of vars v x e in omega (arith, l)

-- it is met where the cell is among these
pub met : (vars : List Var) (cells : List ℕ) (v c : ℕ) → v < 65536 → IsCellOfVariable vars v c → IsTrue (has cells c) → IsTrue (has (vars_met vars cells) v)
met vars cells v c lt is h =
    let below : v < min (length vars) 65536 = below_min v (length vars) (there_of vars v is.variable is.there) lt in
    let here : IsTrue (list_any (λ d. holds d is.variable) cells) = any_from (λ d. holds d is.variable) cells c h is.held in
    filter_has (λ w. is_met cells (slice_get vars w)) (range_with_len 0 (min (length vars) 65536)) v (from_zero v (min (length vars) 65536) below)
    (subst (λ (o : Option Var). IsTrue (is_met cells o)) (sym is.there) here)

-- ---- whole variables

held : (x : Var) (c : ℕ) → x.base ≤ c → c < after x → IsTrue (holds c x)
held x c low high = and_from (nat_le x.base c) (nat_lt c (after x)) (le-leb x.base c low) (lt-ltb c (after x) high)

got : (vars : List Var) (k : ℕ) (x : Var) → k < length vars → get_or vars k x ≡ x → slice_get vars k ≡ Some x
got [] k x lt e = absurd (omega (arith, lt))
got (y ∷ vars) zero x lt e = ap Some e
got (y ∷ vars) (suc k) x lt e = got vars k x (omega (arith, lt)) e

-- a variable that has the cell
pub record HasVar (vars : List Var) (c : ℕ) : Type 0 where
  pub var : ℕ
  pub in_var : IsCellOfVariable vars var c

scalar_var : (vars : List Var) (c : ℕ) → IsScalarOf vars c → HasVar vars c
scalar_var vars c h =
    let x : Var = h.1 in
    let base : x.base ≡ c = h.4.0 in
    let one : after x ≡ x.base + 1 = ap (λ o. x.base + unwrap_or o 1) h.4.1 in
    record { var = h.0; in_var = record { variable = x; there = got vars h.0 x h.2 h.3; held = held x c (omega arith) (omega arith) } }

array_var : (vars : List Var) (base len c : ℕ) → IsArrayOf vars base len → base ≤ c → c < base + len → HasVar vars c
array_var vars base len c h low high =
    let x : Var = h.1 in
    let at : x.base ≡ base = h.4.0 in
    let long : after x ≡ x.base + len = ap (λ o. x.base + unwrap_or o 1) h.4.1 in
    record { var = h.0; in_var = record { variable = x; there = got vars h.0 x h.2 h.3; held = held x c (omega arith) (omega arith) } }

-- ---- writes

one_cell : (d c : ℕ) → IsTrue (has (range_with_len d 1) c) → d ≡ c
one_cell d c h = let r = below_range d 1 c h in omega (arith, r.0, r.1)

one_var : (vars : List Var) (d c : ℕ) → IsScalarOf vars d → IsTrue (has (range_with_len d 1) c) → HasVar vars c
one_var vars d c whole h = subst (λ i. HasVar vars i) (one_cell d c h) (scalar_var vars d whole)

all_var : (vars : List Var) (base len c : ℕ) → IsArrayOf vars base len → IsTrue (has (range_with_len base len) c) → HasVar vars c
all_var vars base len c whole h = let r = below_range base len c h in array_var vars base len c whole r.0 r.1

none_has : (c : ℕ) {A : Type 0} → IsTrue (has [] c) → A
none_has c h = absurd (true≢false (sym h))

local_target : (shareds locals : List Var) (t : Target) (e c : ℕ) → IsWholeTarget shareds locals t → IsTrue (has (writes false (K.Set t e)) c) → HasVar locals c
local_target shareds locals (T.Local d) e c whole h = one_var locals d c whole h
local_target shareds locals (T.LocalAt base len i) e c whole h = all_var locals base len c whole h
local_target shareds locals (T.Shared d) e c whole h = none_has c h
local_target shareds locals (T.SharedAt base len i) e c whole h = none_has c h

shared_target : (shareds locals : List Var) (t : Target) (e c : ℕ) → IsWholeTarget shareds locals t → IsTrue (has (writes true (K.Set t e)) c) → HasVar shareds c
shared_target shareds locals (T.Local d) e c whole h = none_has c h
shared_target shareds locals (T.LocalAt base len i) e c whole h = none_has c h
shared_target shareds locals (T.Shared d) e c whole h = one_var shareds d c whole h
shared_target shareds locals (T.SharedAt base len i) e c whole h = all_var shareds base len c whole h

received : (locals : List Var) (into : Option ℕ) (c : ℕ) → IsScalarIfAny locals into → IsTrue (has (receiving false into) c) → HasVar locals c
received locals None c whole h = none_has c h
received locals (Some d) c whole h = one_var locals d c whole h

not_received : (into : Option ℕ) (c : ℕ) {A : Type 0} → IsTrue (has (receiving true into) c) → A
not_received None c h = none_has c h
not_received (Some d) c h = none_has c h

local_kind : (shareds locals : List Var) (k : Kind) (c : ℕ) → WritesWhole shareds locals k → IsTrue (has (writes false k) c) → HasVar locals c
local_kind shareds locals (K.Set t e) c whole h = local_target shareds locals t e c whole h
local_kind shareds locals (K.Zero base len) c whole h = all_var locals base len c whole h
local_kind shareds locals (K.Call f args into) c whole h = received locals into c whole h
local_kind shareds locals (K.Recv chan into) c whole h = one_var locals into c whole h
local_kind shareds locals k c whole h = none_has c h

shared_kind : (shareds locals : List Var) (k : Kind) (c : ℕ) → WritesWhole shareds locals k → IsTrue (has (writes true k) c) → HasVar shareds c
shared_kind shareds locals (K.Set t e) c whole h = shared_target shareds locals t e c whole h
shared_kind shareds locals (K.Call f args into) c whole h = not_received into c h
shared_kind shareds locals k c whole h = none_has c h

whole_of : (p : Program) (s : ℕ) (o : Option Stmt) → IsValid p → slice_get p.stmts s ≡ o → WritesWhole p.shared (body_numbered p (option_map_or (λ (x : Stmt). x.body) o 0)).locals (kind_of_stmt o)
whole_of p s None v at = tt
whole_of p s (Some x) v at =
    let b = some_and (λ (b : Body). IsValidKind p b s x.kind) (slice_get p.bodies x.body) (valid_stmt p s x v at).kind in
    subst (λ (o : Option Body). WritesWhole p.shared (locals_of_body o) x.kind) (sym b.1) b.2.writes

-- a local cell that a statement writes is of a variable of its body
pub local_var : (p : Program) (s c : ℕ) → IsValid p → IsTrue (has (writes_at false p s) c) → HasVar (body_numbered p (body_of p s)).locals c
local_var p s c v h = local_kind p.shared (body_numbered p (body_of p s)).locals (kind_of p s) c (whole_of p s (slice_get p.stmts s) v refl) h

-- and a shared one of a shared variable
pub shared_var : (p : Program) (s c : ℕ) → IsValid p → IsTrue (has (writes_at true p s) c) → HasVar p.shared c
shared_var p s c v h = shared_kind p.shared (body_numbered p (body_of p s)).locals (kind_of p s) c (whole_of p s (slice_get p.stmts s) v refl) h

-- ---- what ends the paths of a variable

base_of : (x : Var) (c : ℕ) → x.len ≡ None → IsTrue (holds c x) → x.base ≡ c
base_of x c none h =
    let both = and_parts (nat_le x.base c) (nat_lt c (after x)) h in
    let low : x.base ≤ c = leb-true x.base c both.0 in
    let high : c < after x = ltb-true c (after x) both.1 in
    let one : after x ≡ x.base + 1 = ap (λ o. x.base + unwrap_or o 1) none in
    omega arith

-- a statement that writes another scalar, or none, ends no path of the cell's variable
pub keeps : (x : Var) (c : ℕ) (k : Kind) → IsTrue (holds c x) → is_cell c (scalar_written k) ≡ false → ends_paths (Some x) k ≡ false
keeps x c k h other = by x.len refl
  where
    by : (o : Option ℕ) → x.len ≡ o → (not (is_some o) && is_cell x.base (scalar_written k)) ≡ false
    by (Some n) e = refl
    by None e = ap (λ b. is_cell b (scalar_written k)) (base_of x c e h) ∙ other

-- ---- a function's parameters

params_at : (p : Program) (f k : ℕ) (o : Option Body) → IsValid p → slice_get p.bodies f ≡ o → k < params_of_body o → IsCellOfVariable (locals_of_body o) k k
params_at p f k None v at lt = absurd (omega arith)
params_at p f k (Some b) v at lt =
    let x = some_and (λ (y : Var). (y.base ≡ k) × (y.len ≡ None)) (slice_get b.locals k) ((valid_body p f b v at).params k lt) in
    let base : x.0.base ≡ k = x.2.0 in
    let one : after x.0 ≡ x.0.base + 1 = ap (λ o. x.0.base + unwrap_or o 1) x.2.1 in
    record { variable = x.0; there = x.1; held = held x.0 k (omega arith) (omega arith) }

-- parameter k of a function is its variable number k, in cell k
pub param_var : (p : Program) (f k : ℕ) → IsValid p → k < (body_numbered p f).params → IsCellOfVariable (body_numbered p f).locals k k
param_var p f k v lt = params_at p f k (slice_get p.bodies f) v refl lt
