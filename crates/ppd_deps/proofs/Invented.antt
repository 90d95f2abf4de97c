-- No data edge is invented.
use Rattle.ppd_ast.proofs.Members.{has_filter, has_first, has_later}
use Rattle.ppd_ast.specs.Lookups.{body_numbered, body_of, kind_of}
use Rattle.ppd_ast.specs.Members.{has}
use Rattle.ppd_ast.specs.Numbered.{is_while}
use Rattle.ppd_ast.specs.declared.program.Program.{Program}
use Rattle.ppd_ast.specs.declared.program.Stmt.{Stmt}
use Rattle.ppd_ast.specs.declared.program.Var.{Var}
use Rattle.ppd_blocks.proofs.Paths.{not_true}
use Rattle.ppd_sets.proofs.Leading.{leads-tests}
use Rattle.ppd_sets.specs.Flow.{next_of}
use Rattle.ppd_sets.specs.Reach.{Reached, next, start}
use Rattle.ppd_deps.proofs.Reaching.{row_gives}
use Rattle.ppd_deps.proofs.Vocabulary.{control_of, data_from, local_edge, outer_edge, shared_edge, shared_from}
use Rattle.ppd_deps.specs.Edges.{begins, comes_to, control_into, data_into, edges_of, ends_paths, kept_rows, locals_from}
use Rattle.ppd_deps.specs.Laws.{IsKeptPath, NoEdgeIsInvented}
use Rattle.ppd_deps.specs.Named.{own_vars, shared_reads, shared_writes}
use Rattle.ppd_deps.specs.declared.edges.StaticEdge.{StaticEdge}
use Rattle.ppd_deps.specs.declared.edges.StaticEdge.TheVariants.{Control, ControlEntry, Data}
use Rattle.ppd_sets.specs.Used.{reads_at}
use Rattle.std.proofs.Common.{Bool, List, None, Option, Some, [], ap, arith, false, get_or, inl, inr, length, map, refl, subst, suc, sym, true, true≢false, zero, ℕ, ◌++◌, ◌<◌, ◌∙◌, ◌∷◌, ◌≡◌, ◌⊎◌}
use Rattle.std.proofs.lemmas.Bool.{and_parts, eqb-true}
use Rattle.std.specs.List.{Contains, flat_map, range_with_len}
use Rattle.std.specs.Prelude.{IsTrue, if◌then◌else◌, nat_eq, not, slice_get}

-- ---- paths

-- a path and one more statement
push_path : (p : Program) (b : ℕ) (x : Option Var) (u : ℕ) (rest : List ℕ) (t w : ℕ) → IsKeptPath p b x u rest t → IsTrue (has (next_of p t) w) → body_of p t ≡ b → ends_paths x (kind_of p t) ≡ false → IsKeptPath p b x u (rest ++ w ∷ []) w
push_path p b x u [] t w e h body keeps = (subst (λ q. IsTrue (has (next_of p q) w)) (sym e) h, (ap (body_of p) e ∙ body, (ap (λ q. ends_paths x (kind_of p q)) e ∙ keeps, refl)))
push_path p b x u (z ∷ rest) t w path h body keeps = (path.0, (path.1.0, (path.1.1.0, push_path p b x z rest t w path.1.1.1 h body keeps)))

pub record Along (p : Program) (b : ℕ) (x : Option Var) (starts : List ℕ) (t : ℕ) : Type 0 where
  pub first : ℕ
  pub start_is : IsTrue (has starts first)
  pub rest : List ℕ
  pub path : IsKeptPath p b x first rest t

along : (p : Program) (b : ℕ) (x : Option Var) (starts : List ℕ) (t : ℕ) → Reached (kept_rows p b x) starts t → Along p b x starts t
along p b x starts t (start h) = record { first = t; start_is = h; rest = []; path = refl }
along p b x starts t (next {a = u} r h) =
    let before : Along p b x starts u = along p b x starts u r in
    let gives = row_gives p b x u t h in
    let parts = and_parts (nat_eq (body_of p u) b) (not (ends_paths x (kind_of p u))) gives.0 in
    record {
      first = before.first;
      start_is = before.start_is;
      rest = before.rest ++ t ∷ [];
      path = push_path p b x before.first before.rest u t before.path gives.1 (eqb-true (body_of p u) b parts.0) (not_true (ends_paths x (kind_of p u)) parts.1);
    }

-- ---- lists

cut : {X : Type 0} (x : X) (xs ys : List X) (k : ℕ) → k < length (xs ++ ys) → get_or (xs ++ ys) k x ≡ x → Contains xs x ⊎ Contains ys x
cut x [] ys k lt e = inr (k, lt, e)
cut x (z ∷ xs) ys zero lt e = inl (0, omega arith, e)
cut x (z ∷ xs) ys (suc k) lt e = elim (cut x xs ys k (omega (arith, lt)) e) [
  | inl h ↦ inl (suc h.0, (let l = h.1 in omega (arith, l)), h.2)
  | inr h ↦ inr h
]

either : {X : Type 0} (x : X) (xs ys : List X) → Contains (xs ++ ys) x → Contains xs x ⊎ Contains ys x
either x xs ys h = cut x xs ys h.0 h.1 h.2

none_in : {X : Type 0} (x : X) → Contains [] x → ⊥
none_in x h = let l = h.1 in omega (arith, l)

in_map_at : {X : Type 0} (f : ℕ → X) (x : X) (xs : List ℕ) (k : ℕ) → k < length (map f xs) → get_or (map f xs) k x ≡ x → (v : ℕ) × IsTrue (has xs v) × (f v ≡ x)
in_map_at f x [] k lt e = absurd (omega (arith, lt))
in_map_at f x (y ∷ xs) zero lt e = (y, has_first y xs, e)
in_map_at f x (y ∷ xs) (suc k) lt e = let more = in_map_at f x xs k (omega (arith, lt)) e in (more.0, has_later y more.0 xs more.1, more.2)

in_map : {X : Type 0} (f : ℕ → X) (x : X) (xs : List ℕ) → Contains (map f xs) x → (v : ℕ) × IsTrue (has xs v) × (f v ≡ x)
in_map f x xs h = in_map_at f x xs h.0 h.1 h.2

in_flat : {X : Type 0} (f : ℕ → List X) (x : X) (xs : List ℕ) → Contains (flat_map f xs) x → (s : ℕ) × Contains (f s) x
in_flat f x [] h = absurd (none_in x h)
in_flat f x (y ∷ xs) h = elim (either x (f y) (flat_map f xs) h) [ inl l ↦ (y, l) | inr r ↦ in_flat f x xs r ]

-- ---- edges

abbrev is_data : StaticEdge → Bool
is_data (Data s shared v) = true
is_data ControlEntry = false
is_data (Control s) = false

abbrev from_of : StaticEdge → ℕ
from_of (Data s shared v) = s
from_of ControlEntry = 0
from_of (Control s) = 0

abbrev shared_of : StaticEdge → Bool
shared_of (Data s shared v) = shared
shared_of ControlEntry = false
shared_of (Control s) = false

abbrev var_of : StaticEdge → ℕ
var_of (Data s shared v) = v
var_of ControlEntry = 0
var_of (Control s) = 0

outer_no : (o : Option ℕ) → is_data (outer_edge o) ≡ false
outer_no None = refl
outer_no (Some q) = refl

last_no : (t : ℕ) (e : StaticEdge) (b : Bool) (k : ℕ) → is_data e ≡ true → k < length (if b then Control t ∷ [] else []) → get_or (if b then Control t ∷ [] else []) k e ≡ e → ⊥
last_no t e true zero d lt is = true≢false (sym d ∙ ap is_data (sym is))
last_no t e true (suc k) d lt is = omega (arith, lt)
last_no t e false k d lt is = omega (arith, lt)

control_no : (t : ℕ) (e : StaticEdge) (x : Stmt) (k : ℕ) → is_data e ≡ true → k < length (control_of t (Some x)) → get_or (control_of t (Some x)) k e ≡ e → ⊥
control_no t e x zero d lt is = true≢false (sym d ∙ ap is_data (sym is) ∙ outer_no x.parent)
control_no t e x (suc k) d lt is = last_no t e (is_while x.kind) k d (omega (arith, lt)) is

no_control : (t : ℕ) (o : Option Stmt) (e : StaticEdge) → is_data e ≡ true → Contains (control_of t o) e → ⊥
no_control t None e d h = none_in e h
no_control t (Some x) e d h = control_no t e x h.0 d h.1 h.2

-- a data edge into t is from some statement
from_some : (p : Program) (t : ℕ) (e : StaticEdge) → is_data e ≡ true → Contains (edges_of p t) e → (s : ℕ) × Contains (data_from p s t) e
from_some p t e d h = elim (either e (data_into p t) (control_into p t) h) [
  | inl l ↦ in_flat (λ s. data_from p s t) e (range_with_len 0 (length p.stmts)) l
  | inr r ↦ absurd (no_control t (slice_get p.stmts t) e d r)
]

local_from : (p : Program) (s v t q : ℕ) → Contains (data_from p q t) (Data s false v) → IsTrue (has (locals_from p s t) v)
local_from p s v t q h = elim (either (Data s false v) (map (shared_edge q) (shared_from p q t)) (map (local_edge q) (locals_from p q t)) h) [
  | inl l ↦ (let m = in_map (shared_edge q) (Data s false v) (shared_from p q t) l in absurd (true≢false (ap shared_of m.2)))
  | inr r ↦
      let m = in_map (local_edge q) (Data s false v) (locals_from p q t) r in
      subst (λ n. IsTrue (has (locals_from p s t) n)) (ap var_of m.2) (subst (λ n. IsTrue (has (locals_from p n t) m.0)) (ap from_of m.2) m.1)
]

shared_in : (p : Program) (s v t q : ℕ) → Contains (data_from p q t) (Data s true v) → IsTrue (has (shared_from p s t) v)
shared_in p s v t q h = elim (either (Data s true v) (map (shared_edge q) (shared_from p q t)) (map (local_edge q) (locals_from p q t)) h) [
  | inl l ↦
      let m = in_map (shared_edge q) (Data s true v) (shared_from p q t) l in
      subst (λ n. IsTrue (has (shared_from p s t) n)) (ap var_of m.2) (subst (λ n. IsTrue (has (shared_from p n t) m.0)) (ap from_of m.2) m.1)
  | inr r ↦ (let m = in_map (local_edge q) (Data s true v) (locals_from p q t) r in absurd (true≢false (sym (ap shared_of m.2))))
]

pub none_invented : NoEdgeIsInvented
none_invented = record {
  local = λ p s v t h.
      let q = from_some p t (Data s false v) refl h in
      let parts = has_filter (λ n. comes_to p (body_of p t) s n t) (own_vars p (reads_at false p) t) v (local_from p s v t q.0 q.1) in
      let reached = (leads-tests (kept_rows p (body_of p t) (slice_get (body_numbered p (body_of p t)).locals v)) (begins p (body_of p t) s v) t).0 parts.1 in
      let way : Along p (body_of p t) (slice_get (body_numbered p (body_of p t)).locals v) (begins p (body_of p t) s v) t = along p (body_of p t) (slice_get (body_numbered p (body_of p t)).locals v) (begins p (body_of p t) s v) t reached in
      record { reads = parts.0; first = way.first; start = way.start_is; rest = way.rest; path = way.path };
  shared = λ p s v t h.
      let q = from_some p t (Data s true v) refl h in
      let parts = has_filter (has (shared_reads p t)) (shared_writes p s) v (shared_in p s v t q.0 q.1) in
      record { written = parts.0; reads = parts.1 };
}
