-- What the tables have for a statement, and the places where it writes.
use Rattle.ppd_ast.proofs.Members.{below_range, has_filter, has_first, has_later}
use Rattle.ppd_ast.proofs.Ranges.{range_more}
use Rattle.ppd_ast.proofs.Vocabulary.{kind_of_stmt}
use Rattle.ppd_ast.specs.Lookups.{body_of, kind_of}
use Rattle.ppd_ast.specs.Members.{AreBelow, has}
use Rattle.ppd_ast.specs.Numbered.{is_while}
use Rattle.ppd_ast.specs.declared.program.Body.{Body}
use Rattle.ppd_ast.specs.declared.program.Kind.{Kind}
use Rattle.ppd_ast.specs.declared.program.Kind.TheVariants as K
use Rattle.ppd_ast.specs.declared.program.Program.{Program}
use Rattle.ppd_ast.specs.declared.program.Stmt.{Stmt}
use Rattle.ppd_blocks.proofs.Fitting.{none_below}
use Rattle.ppd_sets.proofs.FlowRows.{length_rows, row_at}
use Rattle.ppd_sets.specs.Flow.{next_of}
use Rattle.ppd_deps.proofs.Arriving.{IsOwn}
use Rattle.ppd_deps.proofs.Vocabulary.{control_of, outer_edge, processes}
use Rattle.ppd_deps.specs.Edges.{control_into}
use Rattle.ppd_deps.specs.Named.{calls, own_vars, places, places_by}
use Rattle.ppd_deps.specs.declared.edges.StaticEdge.{StaticEdge}
use Rattle.ppd_deps.specs.declared.edges.StaticEdge.TheVariants.{Control}
use Rattle.ppd_sets.proofs.Calling.{one_below}
use Rattle.ppd_sets.proofs.Vocabulary.{numbers_in}
use Rattle.ppd_sets.specs.Used.{stmts_at, writes_at}
use Rattle.std.proofs.Common.{Bool, Err, List, None, Ok, Option, Some, [], ap, append-nil, append_assoc, arith, cond, false, get_or, length, map, min, subst, suc, sym, take, true, zero, ℕ, ◌++◌, ◌+◌, ◌-◌, ◌<◌, ◌∙◌, ◌∷◌, ◌≡◌, ◌≤◌}
use Rattle.std.proofs.lemmas.Grind.{flat_map-append}
use Rattle.std.proofs.lemmas.List.{get_or_default, take_more}
use Rattle.std.proofs.lemmas.List.Elements.{filter-append}
use Rattle.std.proofs.lemmas.Option.{slice_get-get_or}
use Rattle.std.specs.List.{filter, flat_map, range_with_len}
use Rattle.std.specs.Option.{option_map_or}
use Rattle.std.specs.Prelude.{IfOk, IsTrue, Result, if◌then◌else◌, nat_eq, slice_get}

pub table_long : (f : ℕ → List ℕ) (rows : List (List ℕ)) (n s : ℕ) → rows ≡ map f (range_with_len 0 n) → s < n → s < length rows
table_long f rows n s is lt = let long : length rows ≡ n = ap length is ∙ length_rows f 0 n in omega (arith, long, lt)

pub table_at : (f : ℕ → List ℕ) (rows : List (List ℕ)) (n s : ℕ) (r : List ℕ) → rows ≡ map f (range_with_len 0 n) → s < n → r ≡ get_or rows s r → r ≡ f s
table_at f rows n s r is lt at =
    let e : 0 + s ≡ s = omega arith in
    at ∙ get_or_default rows s r [] (table_long f rows n s is lt) ∙ ap (λ rs. get_or rs s []) is ∙ row_at f 0 n s lt ∙ ap f e

pub ok_as : {X E : Type 0} (r : Result X E) (a b : X) → a ≡ b → IfOk r (λ x. x ≡ a) → IfOk r (λ x. x ≡ b)
ok_as (Ok x) a b e h = h ∙ e
ok_as (Err x) a b e h = tt

-- ---- what a test lets through

pub taken_yes : (test : ℕ → Bool) (xs : List ℕ) (i : ℕ) → i < length xs → test (get_or xs i 0) ≡ true → filter test (take i xs) ++ get_or xs i 0 ∷ [] ≡ filter test (take (i + 1) xs)
taken_yes test xs i lt e =
    sym (ap (filter test) (take_more xs i 0 lt) ∙ filter-append test (take i xs) (get_or xs i 0 ∷ []) ∙ ap (λ b. filter test (take i xs) ++ cond b (get_or xs i 0 ∷ []) []) e)

pub taken_no : (test : ℕ → Bool) (xs : List ℕ) (i : ℕ) → i < length xs → test (get_or xs i 0) ≡ false → filter test (take i xs) ≡ filter test (take (i + 1) xs)
taken_no test xs i lt e =
    sym (ap (filter test) (take_more xs i 0 lt) ∙ filter-append test (take i xs) (get_or xs i 0 ∷ []) ∙ ap (λ b. filter test (take i xs) ++ cond b (get_or xs i 0 ∷ []) []) e
    ∙ append-nil (filter test (take i xs)))

-- ---- ranges

pub range_yes : (test : ℕ → Bool) (a k : ℕ) → a ≤ k → test k ≡ true → filter test (range_with_len a (k + 1 - a)) ≡ filter test (range_with_len a (k - a)) ++ k ∷ []
range_yes test a k low e = ap (filter test) (range_more a k low) ∙ filter-append test (range_with_len a (k - a)) (k ∷ []) ∙ ap (λ b. filter test (range_with_len a (k - a)) ++ cond b (k ∷ []) []) e

pub range_no : (test : ℕ → Bool) (a k : ℕ) → a ≤ k → test k ≡ false → filter test (range_with_len a (k + 1 - a)) ≡ filter test (range_with_len a (k - a))
range_no test a k low e =
    ap (filter test) (range_more a k low) ∙ filter-append test (range_with_len a (k - a)) (k ∷ []) ∙ ap (λ b. filter test (range_with_len a (k - a)) ++ cond b (k ∷ []) []) e
    ∙ append-nil (filter test (range_with_len a (k - a)))

pub processes_below : (p : Program) → AreBelow (length p.bodies) (processes p)
processes_below p x h = let inside = below_range p.functions (length p.bodies - p.functions) x h in let low = inside.0 in let high = inside.1 in omega (arith, low, high)

-- ---- statements

-- what is read of the table is the statement
pub stmt_got : (p : Program) (stmts : List Stmt) (s : ℕ) (x : Stmt) → stmts ≡ p.stmts → s < length p.stmts → x ≡ get_or stmts s x → slice_get p.stmts s ≡ Some x
stmt_got p stmts s x is lt got = slice_get-get_or p.stmts s x lt ∙ ap Some (ap (λ (xs : List Stmt). get_or xs s x) (sym is) ∙ sym got)

pub control_while : (p : Program) (s : ℕ) (x : Stmt) (row more : List StaticEdge) (e : StaticEdge) → slice_get p.stmts s ≡ Some x → e ≡ outer_edge x.parent → more ≡ row ++ e ∷ [] → is_while x.kind ≡ true → more ++ Control s ∷ [] ≡ row ++ control_into p s
control_while p s x row more e at outer is loops =
    ap (λ r. r ++ Control s ∷ []) is ∙ append_assoc row (e ∷ []) (Control s ∷ []) ∙ ap (λ y. row ++ y ∷ Control s ∷ []) outer
    ∙ ap (λ b. row ++ outer_edge x.parent ∷ (if b then Control s ∷ [] else [])) (sym loops) ∙ ap (λ o. row ++ control_of s o) (sym at)

pub control_other : (p : Program) (s : ℕ) (x : Stmt) (row more : List StaticEdge) (e : StaticEdge) → slice_get p.stmts s ≡ Some x → e ≡ outer_edge x.parent → more ≡ row ++ e ∷ [] → is_while x.kind ≡ false → more ≡ row ++ control_into p s
control_other p s x row more e at outer is loops =
    is ∙ ap (λ y. row ++ y ∷ []) outer ∙ ap (λ b. row ++ outer_edge x.parent ∷ (if b then Control s ∷ [] else [])) (sym loops) ∙ ap (λ o. row ++ control_of s o) (sym at)

-- ---- places

body_below : (p : Program) (o : Option Body) → AreBelow (length p.stmts) (numbers_in p o)
body_below p None = none_below (length p.stmts)
body_below p (Some b) = λ x h. let inside = below_range b.first (min b.end (length p.stmts) - b.first) x h in let low = inside.0 in let high = inside.1 in omega (arith, low, high)

if_below : (n s : ℕ) (c : Bool) → s < n → AreBelow n (if c then s ∷ [] else [])
if_below n s true lt = one_below n s lt
if_below n s false lt = none_below n

by_kind : (p : Program) (b s : ℕ) (k : Kind) → s < length p.stmts → AreBelow (length p.stmts) (places_by p b s k)
by_kind p b s (K.Call f args into) lt = none_below (length p.stmts)
by_kind p b s (K.Return e) lt = λ x h. body_below p (slice_get p.bodies b) x (has_filter (λ c. calls p c (body_of p s)) (stmts_at p b) x h).0
by_kind p b s k lt = if_below (length p.stmts) s (nat_eq (body_of p s) b) lt

pub calls_below : (p : Program) (b f : ℕ) (ids : List ℕ) → ids ≡ filter (λ c. calls p c f) (stmts_at p b) → AreBelow (length p.stmts) ids
calls_below p b f ids e = subst (AreBelow (length p.stmts)) (sym e) (λ x h. body_below p (slice_get p.bodies b) x (has_filter (λ c. calls p c f) (stmts_at p b) x h).0)

-- the places of a `Return`
pub return_places : (p : Program) (b s : ℕ) (x : Stmt) (v : Option ℕ) → slice_get p.stmts s ≡ Some x → x.kind ≡ K.Return v → filter (λ c. calls p c x.body) (stmts_at p b) ≡ places p b s
return_places p b s x v at is =
    ap (λ f. filter (λ c. calls p c f) (stmts_at p b)) (sym (ap (λ o. option_map_or (λ (x : Stmt). x.body) o 0) at)) ∙ sym (ap (places_by p b s) (ap kind_of_stmt at ∙ is))

-- the places of a statement that writes at itself
pub own_places : (p : Program) (b s : ℕ) (x : Stmt) (ids : List ℕ) → slice_get p.stmts s ≡ Some x → IsOwn p x.kind → ids ≡ (if nat_eq x.body b then s ∷ [] else []) → ids ≡ places p b s
own_places p b s x ids at own e =
    e ∙ ap (λ j. if nat_eq j b then s ∷ [] else []) (sym (ap (λ o. option_map_or (λ (x : Stmt). x.body) o 0) at)) ∙ sym (own.places_are b s) ∙ ap (places_by p b s) (sym (ap kind_of_stmt at))

pub places_below : (p : Program) (b s : ℕ) → s < length p.stmts → AreBelow (length p.stmts) (places p b s)
places_below p b s lt = by_kind p b s (kind_of p s) lt

-- ---- the places one after another

pub place_there : (p : Program) (places : List ℕ) (i : ℕ) → AreBelow (length p.stmts) places → i < length places → get_or places i 0 < length p.stmts
place_there p places i h lt = h (get_or places i 0) (has_get places i lt) where
  has_get : (xs : List ℕ) (i : ℕ) → i < length xs → IsTrue (has xs (get_or xs i 0))
  has_get [] i lt = absurd (omega arith)
  has_get (x ∷ xs) zero lt = has_first x xs
  has_get (x ∷ xs) (suc i) lt = has_later x (get_or xs i 0) xs (has_get xs i (omega arith))

one_place : (p : Program) (v : ℕ) (places : List ℕ) (i : ℕ) → i < length places → flat_map (next_of p) (filter (λ c. has (own_vars p (writes_at false p) c) v) (take (i + 1) places))
    ≡ flat_map (next_of p) (filter (λ c. has (own_vars p (writes_at false p) c) v) (take i places)) ++ flat_map (next_of p) (filter (λ c. has (own_vars p (writes_at false p) c) v) (get_or places i 0 ∷ []))
one_place p v places i lt =
    ap (λ xs. flat_map (next_of p) (filter (λ c. has (own_vars p (writes_at false p) c) v) xs)) (take_more places i 0 lt)
    ∙ ap (flat_map (next_of p)) (filter-append (λ c. has (own_vars p (writes_at false p) c) v) (take i places) (get_or places i 0 ∷ []))
    ∙ flat_map-append (next_of p) (filter (λ c. has (own_vars p (writes_at false p) c) v) (take i places)) (filter (λ c. has (own_vars p (writes_at false p) c) v) (get_or places i 0 ∷ []))

pub place_yes : (p : Program) (v : ℕ) (places : List ℕ) (i : ℕ) → i < length places → has (own_vars p (writes_at false p) (get_or places i 0)) v ≡ true → flat_map (next_of p) (filter (λ c. has (own_vars p (writes_at false p) c) v) (take (i + 1) places))
    ≡ flat_map (next_of p) (filter (λ c. has (own_vars p (writes_at false p) c) v) (take i places)) ++ next_of p (get_or places i 0)
place_yes p v places i lt e =
    one_place p v places i lt
    ∙ ap (λ b. flat_map (next_of p) (filter (λ c. has (own_vars p (writes_at false p) c) v) (take i places)) ++ flat_map (next_of p) (cond b (get_or places i 0 ∷ []) [])) e
    ∙ ap (λ xs. flat_map (next_of p) (filter (λ c. has (own_vars p (writes_at false p) c) v) (take i places)) ++ xs) (append-nil (next_of p (get_or places i 0)))

pub place_no : (p : Program) (v : ℕ) (places : List ℕ) (i : ℕ) → i < length places → has (own_vars p (writes_at false p) (get_or places i 0)) v ≡ false → flat_map (next_of p) (filter (λ c. has (own_vars p (writes_at false p) c) v) (take (i + 1) places))
    ≡ flat_map (next_of p) (filter (λ c. has (own_vars p (writes_at false p) c) v) (take i places))
place_no p v places i lt e =
    one_place p v places i lt
    ∙ ap (λ b. flat_map (next_of p) (filter (λ c. has (own_vars p (writes_at false p) c) v) (take i places)) ++ flat_map (next_of p) (cond b (get_or places i 0 ∷ []) [])) e
    ∙ append-nil (flat_map (next_of p) (filter (λ c. has (own_vars p (writes_at false p) c) v) (take i places)))
