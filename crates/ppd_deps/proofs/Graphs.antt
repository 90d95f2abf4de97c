-- From the rows to the graph.
use Rattle.std.proofs.Common.{◌≡◌, drop, ℕ, zero, suc, ◌+◌, get_or, ◌<◌, ◌≤◌, Bool, true, false, cond, take, if◌then◌else◌, List, [], ◌∷◌, ◌++◌, length, map, replicate, append-nil, sym, refl, ap, ◌∙◌, arith}
use Rattle.std.proofs.Math.ListN.{drop_of_length-le}
use Rattle.std.proofs.lemmas.List.{length-replicate, take_all, take_more}
use Rattle.std.proofs.lemmas.List.Elements.{filter-append}
use Rattle.std.proofs.lemmas.Grind.{flat_map-append}
use Rattle.std.specs.List.{filter, flat_map, range_with_len}
use Rattle.ppd_ast.specs.declared.program.Program.{Program}
use Rattle.ppd_ast.proofs.Those.{counting_more}
use Rattle.ppd_deps.specs.declared.edges.StaticEdge.{StaticEdge}
use Rattle.ppd_deps.specs.Edges.{edges_of}
use Rattle.ppd_deps.proofs.Vocabulary.{data_from}
use Rattle.ppd_deps.specs.Rows.{Adds, row_at}

abbrev Row : Type 0
Row = List StaticEdge

-- rows that have what a function gives are the function's
by_rows : (f : ℕ → Row) (a n : ℕ) (rows : List Row) → length rows ≡ n → ((t : ℕ) → t < n → row_at rows t ≡ f (a + t)) → rows ≡ map f (range_with_len a n)
by_rows f a zero [] long e = refl
by_rows f a zero (r ∷ rs) long e = absurd (cc)
by_rows f a (suc n) [] long e = absurd (cc)
by_rows f a (suc n) (r ∷ rs) long e =
    let z : a + 0 ≡ a = omega arith in
    let first : r ≡ f a = e 0 (omega arith) ∙ ap f z in
    let short : length rs ≡ n = omega (arith, long) in
    ap (λ x. x ∷ rs) first
    ∙ ap (λ xs. f a ∷ xs) (by_rows f (a + 1) n rs short (λ t lt. e (suc t) (omega arith) ∙ ap f (let s : a + suc t ≡ a + 1 + t = omega arith in s)))

none_at : (n t : ℕ) → row_at (replicate n []) t ≡ []
none_at zero t = refl
none_at (suc n) zero = refl
none_at (suc n) (suc t) = none_at n t

pub rows_are : (p : Program) (none all : List Row) → none ≡ replicate (length p.stmts) [] → Adds none all (edges_of p) → all ≡ map (edges_of p) (range_with_len 0 (length p.stmts))
rows_are p none all empty adds =
    let n : ℕ = length p.stmts in
    let start : length none ≡ n = ap length empty ∙ length-replicate n [] in
    let long : length all ≡ n = adds.long ∙ start in
    by_rows (edges_of p) 0 n all long (λ t lt.
    adds.each t (omega (arith, start, lt)) ∙ ap (λ rows. row_at rows t ++ edges_of p t) empty ∙ ap (λ r. r ++ edges_of p t) (none_at n t) ∙ ap (edges_of p) (let z : t ≡ 0 + t = omega arith in z))

-- a front that was lent and given back as long leaves nothing of what stood there
pub refilled : {A : Type 0} (old new : List A) (n : ℕ) → length new ≡ length old → n ≡ length old → take n (new ++ drop (length new) old) ≡ new
refilled old new n long count =
    ap (λ r. take n (new ++ r)) (drop_of_length-le old (let le : length old ≤ length new = omega (arith, long) in le)) ∙ ap (take n) (append-nil new)
    ∙ take_all n new (let le : length new ≤ n = omega (arith, long, count) in le)

-- one more statement
pub data_more : (p : Program) (s t : ℕ) → flat_map (λ q. data_from p q t) (range_with_len 0 s) ++ data_from p s t ≡ flat_map (λ q. data_from p q t) (range_with_len 0 (s + 1))
data_more p s t =
    sym (ap (flat_map (λ q. data_from p q t)) (counting_more s) ∙ flat_map-append (λ q. data_from p q t) (range_with_len 0 s) (s ∷ []) ∙ ap (λ r. flat_map (λ q. data_from p q t) (range_with_len 0 s) ++ r) (append-nil (data_from p s t)))

map_both : (f : ℕ → StaticEdge) (xs ys : List ℕ) → map f (xs ++ ys) ≡ map f xs ++ map f ys
map_both f [] ys = refl
map_both f (x ∷ xs) ys = ap (λ zs. f x ∷ zs) (map_both f xs ys)

map_one : (f : ℕ → StaticEdge) (v : ℕ) (b : Bool) → map f (cond b (v ∷ []) []) ≡ (if b then f v ∷ [] else [])
map_one f v true = refl
map_one f v false = refl

-- one more variable
pub vars_more : (f : ℕ → StaticEdge) (test : ℕ → Bool) (vars : List ℕ) (i : ℕ) → i < length vars → map f (filter test (take i vars)) ++ (if test (get_or vars i 0) then f (get_or vars i 0) ∷ [] else []) ≡ map f (filter test (take (i + 1) vars))
vars_more f test vars i lt =
    sym (ap (λ xs. map f (filter test xs)) (take_more vars i 0 lt) ∙ ap (map f) (filter-append test (take i vars) (get_or vars i 0 ∷ [])) ∙ map_both f (filter test (take i vars)) (cond (test (get_or vars i 0)) (get_or vars i 0 ∷ []) [])
    ∙ ap (λ r. map f (filter test (take i vars)) ++ r) (map_one f (get_or vars i 0) (test (get_or vars i 0))))

pub vars_all : (f : ℕ → StaticEdge) (test : ℕ → Bool) (vars : List ℕ) (i : ℕ) → length vars ≤ i → map f (filter test (take i vars)) ≡ map f (filter test vars)
vars_all f test vars i le = ap (λ xs. map f (filter test xs)) (take_all i vars le)

pub empty_is : {X : Type 0} (xs : List X) → length xs ≡ 0 → xs ≡ []
empty_is [] e = refl
empty_is (x ∷ xs) e = absurd (omega (arith, e))
