-- The local variables of which a value may come from one statement to another.
use Rattle.ppd_ast.proofs.Members.{filter_has, filter_same_in, has_filter}
use Rattle.ppd_ast.proofs.Those.{both, those_no, those_yes}
use Rattle.ppd_ast.proofs.ValidLaws.{slice_get_below, slice_get_there, stmt_in_body}
use Rattle.ppd_ast.proofs.Vocabulary.{kind_of_stmt}
use Rattle.ppd_ast.specs.Lookups.{body_numbered, body_of, kind_of}
use Rattle.ppd_ast.specs.Members.{has, those}
use Rattle.ppd_ast.specs.Valid.{IsValid}
use Rattle.ppd_ast.specs.declared.program.Kind.{Kind}
use Rattle.ppd_ast.specs.declared.program.Kind.TheVariants as K
use Rattle.ppd_ast.specs.declared.program.Program.{Program}
use Rattle.ppd_ast.specs.declared.program.Stmt.{Stmt}
use Rattle.ppd_sets.specs.Flow.{next_of}
use Rattle.ppd_sets.specs.Reach.{closure, leads}
use Rattle.ppd_deps.proofs.Vocabulary.{local_edge}
use Rattle.ppd_deps.specs.Edges.{begins, comes_to, kept_rows, locals_from}
use Rattle.ppd_deps.specs.Named.{own_vars, places_by}
use Rattle.ppd_deps.specs.Rows.{at_body, is_reader}
use Rattle.ppd_deps.specs.declared.edges.StaticEdge.{StaticEdge}
use Rattle.ppd_sets.specs.Used.{callee, is_met, reads_at, writes_at}
use Rattle.std.proofs.Common.{Bool, List, Option, Some, [], ap, append-nil, arith, cond, false, inl, inr, length, map, min, refl, subst, sym, true, ℕ, ◌++◌, ◌+◌, ◌<◌, ◌∙◌, ◌∷◌, ◌≡◌}
use Rattle.std.proofs.lemmas.Bool.{cases_Bool, cases_order, cond-false, cond-true, eq-eqb, eqb-false, eqb-true, false_from_ne_true, lt-ltb, ltb-true}
use Rattle.std.specs.List.{filter, flat_map, range_with_len}
use Rattle.std.specs.Option.{option_map_or}
use Rattle.std.specs.Prelude.{IsTrue, if◌then◌else◌, nat_eq, nat_lt, option_to_list, slice_get, ◌&&◌, ◌||◌}

-- ---- filters

filter_none : (test : ℕ → Bool) (xs : List ℕ) → ((x : ℕ) → test x ≡ false) → filter test xs ≡ []
filter_none test [] e = refl
filter_none test (x ∷ xs) e = cond-false (test x) (x ∷ filter test xs) (filter test xs) (e x) ∙ filter_none test xs e

twice_at : (f : ℕ → Bool) (b : Bool) (x : ℕ) (kept xs : List ℕ) → filter f kept ≡ xs → filter f (cond b (x ∷ kept) kept) ≡ cond (b && f x) (x ∷ xs) xs
twice_at f true x kept xs e = ap (λ zs. cond (f x) (x ∷ zs) zs) e
twice_at f false x kept xs e = e

pub filter_twice : (f g : ℕ → Bool) (xs : List ℕ) → filter f (filter g xs) ≡ filter (λ x. g x && f x) xs
filter_twice f g [] = refl
filter_twice f g (x ∷ xs) = twice_at f (g x) x (filter g xs) (filter (λ y. g y && f y) xs) (filter_twice f g xs)

pub has_those : (n : ℕ) (test : ℕ → Bool) (x : ℕ) → IsTrue (has (range_with_len 0 n) x) → has (those n test) x ≡ test x
has_those n test x h = both (has (those n test) x) (test x) (λ t. (has_filter test (range_with_len 0 n) x t).1) (λ t. filter_has test (range_with_len 0 n) x h t)

-- ---- the variables of one body

-- of the body of t: those that t reads and to which a value comes
own_locals : (p : Program) (s t : ℕ) → those (min (length (body_numbered p (body_of p t)).locals) 65536) (λ v. has (own_vars p (reads_at false p) t) v && comes_to p (body_of p t) s v t) ≡ locals_from p s t
own_locals p s t =
    let b : ℕ = body_of p t in
    let n : ℕ = min (length (body_numbered p b).locals) 65536 in
    let met : ℕ → Bool = λ v. is_met (reads_at false p t) (slice_get (body_numbered p b).locals v) in
    let comes : ℕ → Bool = λ v. comes_to p b s v t in
    filter_same_in (λ v. has (those n met) v && comes v) (λ v. met v && comes v) (range_with_len 0 n) (λ v h. ap (λ c. c && comes v) (has_those n met v h))
    ∙ sym (filter_twice comes met (range_with_len 0 n))

pub locals_are : (p : Program) (b s t : ℕ) → those (min (length (body_numbered p b).locals) 65536) (λ v. is_reader p b v t && comes_to p b s v t) ≡ (if nat_eq (body_of p t) b then locals_from p s t else [])
locals_are p b s t = elim (cases_Bool (nat_eq (body_of p t) b)) [
  | inl yes' ↦
      let e : body_of p t ≡ b = eqb-true (body_of p t) b yes' in
      subst (λ x. those (min (length (body_numbered p x).locals) 65536) (λ v. is_reader p x v t && comes_to p x s v t) ≡ (if nat_eq (body_of p t) x then locals_from p s t else [])) e
      (filter_same_in (λ v. is_reader p (body_of p t) v t && comes_to p (body_of p t) s v t) (λ v. has (own_vars p (reads_at false p) t) v && comes_to p (body_of p t) s v t)
      (range_with_len 0 (min (length (body_numbered p (body_of p t)).locals) 65536)) (λ v h. ap (λ c. (c && has (own_vars p (reads_at false p) t) v) && comes_to p (body_of p t) s v t) (eq-eqb (body_of p t) (body_of p t) refl))
      ∙ own_locals p s t ∙ sym (cond-true (nat_eq (body_of p t) (body_of p t)) (locals_from p s t) [] (eq-eqb (body_of p t) (body_of p t) refl)))
  | inr no' ↦
      filter_none (λ v. is_reader p b v t && comes_to p b s v t) (range_with_len 0 (min (length (body_numbered p b).locals) 65536)) (λ v. ap (λ c. (c && has (own_vars p (reads_at false p) t) v) && comes_to p b s v t) no')
      ∙ sym (cond-false (nat_eq (body_of p t) b) (locals_from p s t) [] no')
]

map_if : (c : Bool) (f : ℕ → StaticEdge) (xs : List ℕ) → map f (if c then xs else []) ≡ (if c then map f xs else [])
map_if true f xs = refl
map_if false f xs = refl

-- the edges that all variables of a body bring
pub body_edges : (p : Program) (b s t : ℕ) → map (local_edge s) (those (min (length (body_numbered p b).locals) 65536) (λ v. is_reader p b v t && comes_to p b s v t)) ≡ at_body p b t (map (local_edge s) (locals_from p s t))
body_edges p b s t = ap (map (local_edge s)) (locals_are p b s t) ∙ map_if (nat_eq (body_of p t) b) (local_edge s) (locals_from p s t)

map_more : (f : ℕ → StaticEdge) (xs : List ℕ) (x : ℕ) → map f (xs ++ x ∷ []) ≡ map f xs ++ f x ∷ []
map_more f [] x = refl
map_more f (y ∷ xs) x = ap (λ zs. f y ∷ zs) (map_more f xs x)

-- one more variable
pub one_more : (p : Program) (b s t v : ℕ) → map (local_edge s) (those v (λ w. is_reader p b w t && comes_to p b s w t)) ++ (if is_reader p b v t && comes_to p b s v t then local_edge s v ∷ [] else [])
    ≡ map (local_edge s) (those (v + 1) (λ w. is_reader p b w t && comes_to p b s w t))
one_more p b s t v =
    let test : ℕ → Bool = λ w. is_reader p b w t && comes_to p b s w t in
    elim (cases_Bool (test v)) [
      | inl is ↦
          ap (λ r. map (local_edge s) (those v test) ++ r) (cond-true (test v) (local_edge s v ∷ []) [] is)
          ∙ sym (ap (map (local_edge s)) (those_yes v test is) ∙ map_more (local_edge s) (those v test) v)
      | inr is ↦
          ap (λ r. map (local_edge s) (those v test) ++ r) (cond-false (test v) (local_edge s v ∷ []) [] is) ∙ append-nil (map (local_edge s) (those v test))
          ∙ sym (ap (map (local_edge s)) (those_no v test is))
    ]

-- ---- all bodies

-- one more body
pub next_body : (p : Program) (b t : ℕ) (xs : List StaticEdge) → (if nat_lt (body_of p t) b then xs else []) ++ at_body p b t xs ≡ (if nat_lt (body_of p t) (b + 1) then xs else [])
next_body p b t xs = elim (cases_order (body_of p t) b) [
  | inl same ↦
      ap (λ c. (if c then xs else []) ++ at_body p b t xs) (false_from_ne_true (nat_lt (body_of p t) b) (λ h. absurd (let l = ltb-true (body_of p t) b h in omega (arith, l, same))))
      ∙ cond-true (nat_eq (body_of p t) b) xs [] (eq-eqb (body_of p t) b same)
      ∙ sym (cond-true (nat_lt (body_of p t) (b + 1)) xs [] (lt-ltb (body_of p t) (b + 1) (omega arith)))
  | inr other ↦ elim other [
    | inl low ↦
        ap (λ c. (if c then xs else []) ++ at_body p b t xs) (lt-ltb (body_of p t) b low)
        ∙ ap (λ r. xs ++ r) (cond-false (nat_eq (body_of p t) b) xs [] (false_from_ne_true (nat_eq (body_of p t) b) (λ h. absurd (let e = eqb-true (body_of p t) b h in omega (arith, e, low)))))
        ∙ append-nil xs ∙ sym (cond-true (nat_lt (body_of p t) (b + 1)) xs [] (lt-ltb (body_of p t) (b + 1) (omega arith)))
    | inr up ↦
        ap (λ c. (if c then xs else []) ++ at_body p b t xs) (false_from_ne_true (nat_lt (body_of p t) b) (λ h. absurd (let l = ltb-true (body_of p t) b h in omega (arith, l, up))))
        ∙ cond-false (nat_eq (body_of p t) b) xs [] (false_from_ne_true (nat_eq (body_of p t) b) (λ h. absurd (let e = eqb-true (body_of p t) b h in omega (arith, e, up))))
        ∙ sym (cond-false (nat_lt (body_of p t) (b + 1)) xs [] (false_from_ne_true (nat_lt (body_of p t) (b + 1)) (λ h. absurd (let l = ltb-true (body_of p t) (b + 1) h in omega (arith, l, up)))))
  ]
]

-- a statement is of a body that is there
pub body_there : (p : Program) (t : ℕ) → IsValid p → t < length p.stmts → body_of p t < length p.bodies
body_there p t v lt =
    let at = slice_get_there p.stmts t lt in
    let b = stmt_in_body p t at.0 v at.1 in
    let below : at.0.body < length p.bodies = slice_get_below p.bodies at.0.body b.0 b.1 in
    subst (λ n. n < length p.bodies) (sym (ap (λ o. option_map_or (λ (x : Stmt). x.body) o 0) at.1)) below

pub all_bodies : (p : Program) (n t : ℕ) (xs : List StaticEdge) → IsValid p → n ≡ length p.bodies → t < length p.stmts → (if nat_lt (body_of p t) n then xs else []) ≡ xs
all_bodies p n t xs v e lt = let below = body_there p t v lt in cond-true (nat_lt (body_of p t) n) xs [] (lt-ltb (body_of p t) n (omega (arith, e, below)))

-- ---- statements that write in one body alone

none_from : (p : Program) (s t : ℕ) → ((v : ℕ) → begins p (body_of p t) s v ≡ []) → locals_from p s t ≡ []
none_from p s t e =
    filter_none (λ v. comes_to p (body_of p t) s v t) (own_vars p (reads_at false p) t)
    (λ v. ap (λ starts. leads (closure (kept_rows p (body_of p t) (slice_get (body_numbered p (body_of p t)).locals v))) starts t) (e v))

-- where the paths begin, by the statement's kind
abbrev begins_by : Program → (b s v : ℕ) → Kind → List ℕ
begins_by p b s v k =
    flat_map (next_of p) (filter (λ c. has (own_vars p (writes_at false p) c) v) (places_by p b s k)) ++ (if has (callee k) b && nat_lt v (body_numbered p b).params then option_to_list (slice_get (body_numbered p b).top 0) else [])

call_none : (p : Program) (b s v f : ℕ) (args : List ℕ) (into : Option ℕ) → nat_eq f b ≡ false → begins_by p b s v (K.Call f args into) ≡ []
call_none p b s v f args into e = ap (λ c. if (c || false) && nat_lt v (body_numbered p b).params then option_to_list (slice_get (body_numbered p b).top 0) else []) e

own_none : (p : Program) (b s v : ℕ) (k : Kind) → callee k ≡ [] → places_by p b s k ≡ [] → begins_by p b s v k ≡ []
own_none p b s v k c e =
    ap (λ xs. flat_map (next_of p) (filter (λ c. has (own_vars p (writes_at false p) c) v) xs) ++ (if has (callee k) b && nat_lt v (body_numbered p b).params then option_to_list (slice_get (body_numbered p b).top 0) else [])) e
    ∙ ap (λ xs. if has xs b && nat_lt v (body_numbered p b).params then option_to_list (slice_get (body_numbered p b).top 0) else []) c

-- what a call writes is of the function's body
pub call_edges : (p : Program) (s t f : ℕ) (args : List ℕ) (into : Option ℕ) → kind_of p s ≡ K.Call f args into → at_body p f t (map (local_edge s) (locals_from p s t)) ≡ map (local_edge s) (locals_from p s t)
call_edges p s t f args into is = elim (cases_Bool (nat_eq (body_of p t) f)) [
  | inl e ↦ cond-true (nat_eq (body_of p t) f) (map (local_edge s) (locals_from p s t)) [] e
  | inr e ↦
      let other : nat_eq f (body_of p t) ≡ false = false_from_ne_true (nat_eq f (body_of p t)) (λ h. let same = eqb-true f (body_of p t) h in eqb-false (body_of p t) f e (sym same)) in
      cond-false (nat_eq (body_of p t) f) (map (local_edge s) (locals_from p s t)) [] e
      ∙ sym (ap (map (local_edge s)) (none_from p s t (λ v. ap (begins_by p (body_of p t) s v) is ∙ call_none p (body_of p t) s v f args into other)))
]

-- a statement that writes at itself, where it writes
pub record IsOwn (p : Program) (k : Kind) : Type 0 where
  pub calls_none : callee k ≡ []
  pub places_are : (b s : ℕ) → places_by p b s k ≡ (if nat_eq (body_of p s) b then s ∷ [] else [])

own_at : (p : Program) (s t : ℕ) (k : Kind) → kind_of p s ≡ k → IsOwn p k → at_body p (body_of p s) t (map (local_edge s) (locals_from p s t)) ≡ map (local_edge s) (locals_from p s t)
own_at p s t k is own = elim (cases_Bool (nat_eq (body_of p t) (body_of p s))) [
  | inl e ↦ cond-true (nat_eq (body_of p t) (body_of p s)) (map (local_edge s) (locals_from p s t)) [] e
  | inr e ↦
      let other : nat_eq (body_of p s) (body_of p t) ≡ false =
      false_from_ne_true (nat_eq (body_of p s) (body_of p t)) (λ h. let same = eqb-true (body_of p s) (body_of p t) h in eqb-false (body_of p t) (body_of p s) e (sym same)) in
      cond-false (nat_eq (body_of p t) (body_of p s)) (map (local_edge s) (locals_from p s t)) [] e
      ∙ sym (ap (map (local_edge s)) (none_from p s t (λ v.
      ap (begins_by p (body_of p t) s v) is
      ∙ own_none p (body_of p t) s v k own.calls_none (own.places_are (body_of p t) s ∙ cond-false (nat_eq (body_of p s) (body_of p t)) (s ∷ []) [] other))))
]

-- the same by the statement
pub own_edges : (p : Program) (s t : ℕ) (x : Stmt) (k : Kind) → slice_get p.stmts s ≡ Some x → IsOwn p x.kind → at_body p x.body t (map (local_edge s) (locals_from p s t)) ≡ map (local_edge s) (locals_from p s t)
own_edges p s t x k at own =
    ap (λ b. at_body p b t (map (local_edge s) (locals_from p s t))) (sym (ap (λ o. option_map_or (λ (x : Stmt). x.body) o 0) at)) ∙ own_at p s t x.kind (ap kind_of_stmt at) own

-- so is each statement but a call and a `Return`
pub own_by : (p : Program) (k : Kind) → ((f : ℕ) (args : List ℕ) (into : Option ℕ) → k ≡ K.Call f args into → ⊥) → ((e : Option ℕ) → k ≡ K.Return e → ⊥) → IsOwn p k
own_by p (K.Call f args into) c r = absurd (c f args into refl)
own_by p (K.Return e) c r = absurd (r e refl)
own_by p (K.Set t e) c r = record { calls_none = refl; places_are = λ b s. refl }
own_by p (K.Zero base len) c r = record { calls_none = refl; places_are = λ b s. refl }
own_by p (K.If e first second) c r = record { calls_none = refl; places_are = λ b s. refl }
own_by p (K.While e body) c r = record { calls_none = refl; places_are = λ b s. refl }
own_by p (K.P s) c r = record { calls_none = refl; places_are = λ b s. refl }
own_by p (K.V s) c r = record { calls_none = refl; places_are = λ b s. refl }
own_by p (K.Send x e) c r = record { calls_none = refl; places_are = λ b s. refl }
own_by p (K.Recv x into) c r = record { calls_none = refl; places_are = λ b s. refl }
own_by p (K.Print e) c r = record { calls_none = refl; places_are = λ b s. refl }
own_by p (K.Assert e) c r = record { calls_none = refl; places_are = λ b s. refl }
own_by p K.End c r = record { calls_none = refl; places_are = λ b s. refl }

-- no path begins where nothing is written
pub none_begin : (p : Program) (b s v : ℕ) → begins p b s v ≡ [] → (t : ℕ) → [] ≡ (if is_reader p b v t && comes_to p b s v t then local_edge s v ∷ [] else [])
none_begin p b s v e t =
    let none : comes_to p b s v t ≡ false = ap (λ starts. leads (closure (kept_rows p b (slice_get (body_numbered p b).locals v))) starts t) e in
    by (is_reader p b v t) none
  where
    by : (c : Bool) → comes_to p b s v t ≡ false → [] ≡ (if c && comes_to p b s v t then local_edge s v ∷ [] else [])
    by true h = sym (cond-false (comes_to p b s v t) (local_edge s v ∷ []) [] h)
    by false h = refl
