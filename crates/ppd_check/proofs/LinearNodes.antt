-- The tree of a table has at most as many nodes as the table.
use Rattle.std.proofs.Common.{◌≡◌, refl, ap, ◌∙◌, ℕ, zero, suc, ◌+◌, ◌-◌, ◌<◌, ◌≤◌, ◌⊎◌, inl, inr, cond, nat_eq, nat_le, arith, List, [], ◌∷◌, ◌++◌, length, map, Option, Some, None, slice_index_or}
use Rattle.std.specs.List.{All, count_by}
use Rattle.std.proofs.lemmas.Bool.Decides.{nat_tests}
use Rattle.std.proofs.lemmas.List.Concat.{flat_map-cons}
use Rattle.std.proofs.lemmas.List.Elements.{All-nil, All-cons, All-head, All-tail, All-append, All-weaker}
use Rattle.ppd_parse.specs.declared.token.Token.{Token}
use Rattle.ppd_parse.specs.declared.node.Node.{Node}
use Rattle.ppd_parse.specs.declared.symbol.Rule.{Rule}
use Rattle.ppd_parse.specs.Grammar.{Shape}
use Rattle.ppd_parse.specs.Size.{weigh}
use Rattle.ppd_parse.proofs.Vocabulary.{size_of}
use Rattle.ppd_parse.specs.Table.{no_shape, shape_or}
use Rattle.ppd_parse.specs.Tree.{trees_from, tree_of, children_of, IsTable}
use Rattle.ppd_parse.proofs.Grown.{times_cons}
use Rattle.ppd_parse.proofs.Sizes.{weigh_made}
use Rattle.ppd_ast.specs.Counting.{one_if}

-- Sums over numbers.

-- over those from i on
abbrev sum : (ℕ → ℕ) → ℕ → List ℕ → ℕ
sum f i [] = 0
sum f i (c ∷ cs) = cond (nat_le i c) (f c) 0 + sum f i cs

-- over the m numbers from i on
abbrev range_sum : (ℕ → ℕ) → ℕ → ℕ → ℕ
range_sum f i zero = 0
range_sum f i (suc m) = f i + range_sum f (suc i) m

sum_skips : (f : ℕ → ℕ) (i : ℕ) (cs : List ℕ) → count_by (nat_eq i) cs ≡ 0 → sum f i cs ≡ sum f (suc i) cs
sum_skips f i [] h = refl
sum_skips f i (c ∷ cs) h =
    let t : count_by (nat_eq i) (c ∷ cs) ≡ one_if (nat_eq i c) + count_by (nat_eq i) cs = times_cons i c cs in
    let other : one_if (nat_eq i c) ≡ 0 = omega (arith, t, h) in
    let r : sum f i cs ≡ sum f (suc i) cs = sum_skips f i cs (omega (arith, t, h)) in
    omega (arith, r, same i c (f c) other)
  where
    same : (i c v : ℕ) → one_if (nat_eq i c) ≡ 0 → cond (nat_le i c) v 0 ≡ cond (nat_le (suc i) c) v 0
    same i c v h = grind (arith, nat_tests, h)

meets : (i c : ℕ) → (i ≡ c) ⊎ (one_if (nat_eq i c) ≡ 0)
meets zero zero = inl refl
meets zero (suc c) = inr (grind (arith, nat_tests))
meets (suc i) zero = inr (grind (arith, nat_tests))
meets (suc i) (suc c) = next (meets i c)
  where
    next : (i ≡ c) ⊎ (one_if (nat_eq i c) ≡ 0) → (suc i ≡ suc c) ⊎ (one_if (nat_eq (suc i) (suc c)) ≡ 0)
    next (inl e) = inl (ap suc e)
    next (inr e) = inr (grind (arith, nat_tests, e))

-- where i is there once at most
sum_next : (f : ℕ → ℕ) (i : ℕ) (cs : List ℕ) → count_by (nat_eq i) cs ≤ 1 → sum f i cs ≤ f i + sum f (suc i) cs
sum_next f i [] h = omega arith
sum_next f i (c ∷ cs) h = go (meets i c) (λ l. sum_next f i cs l)
  where
    go : (i ≡ c) ⊎ (one_if (nat_eq i c) ≡ 0) → (count_by (nat_eq i) cs ≤ 1 → sum f i cs ≤ f i + sum f (suc i) cs) → sum f i (c ∷ cs) ≤ f i + sum f (suc i) (c ∷ cs)
    go (inl e) rest =
        let t : count_by (nat_eq i) (c ∷ cs) ≡ one_if (nat_eq i c) + count_by (nat_eq i) cs = times_cons i c cs in
        let here : one_if (nat_eq i c) ≡ 1 = grind (arith, nat_tests, e) in
        let v : f i ≡ f c = ap f e in
        let first : cond (nat_le i c) (f c) 0 ≡ f c = grind (arith, nat_tests, e) in
        omega (arith, v, first, sum_skips f i cs (omega (arith, t, here, h)))
    go (inr other) rest =
        let t : count_by (nat_eq i) (c ∷ cs) ≡ one_if (nat_eq i c) + count_by (nat_eq i) cs = times_cons i c cs in
        let s : cond (nat_le i c) (f c) 0 ≡ cond (nat_le (suc i) c) (f c) 0 = grind (arith, nat_tests, other) in
        omega (arith, s, rest (omega (arith, t, h)))

sum_past : (f : ℕ → ℕ) (i : ℕ) (cs : List ℕ) → All (λ c. c < i) cs → sum f i cs ≡ 0
sum_past f i [] h = refl
sum_past f i (c ∷ cs) h =
    let lt : c < i = All-head (λ c. c < i) c cs h in
    let none : cond (nat_le i c) (f c) 0 ≡ 0 = grind (arith, nat_tests, lt) in
    omega (arith, none, sum_past f i cs (All-tail (λ c. c < i) c cs h))

-- numbers of a range, each there once at most
sum_within : (f : ℕ → ℕ) (i m : ℕ) (cs : List ℕ) → All (λ c. c < i + m) cs → ((c : ℕ) → c < i + m → count_by (nat_eq c) cs ≤ 1) → sum f i cs ≤ range_sum f i m
sum_within f i zero cs h once =
    let past : sum f i cs ≡ 0 = sum_past f i cs (All-weaker (λ c. c < i + zero) (λ c. c < i) (λ c l. omega arith) cs h) in
    omega (arith, past)
sum_within f i (suc m) cs h once =
    let rest : sum f (suc i) cs ≤ range_sum f (suc i) m =
    sum_within f (suc i) m cs (All-weaker (λ c. c < i + suc m) (λ c. c < suc i + m) (λ c l. omega arith) cs h) (λ c l. once c (omega arith)) in
    omega (arith, sum_next f i cs (once i (omega arith)), rest)

sum_append : (f : ℕ → ℕ) (i : ℕ) (xs ys : List ℕ) → sum f i (xs ++ ys) ≡ sum f i xs + sum f i ys
sum_append f i [] ys = omega arith
sum_append f i (x ∷ xs) ys = omega (arith, sum_append f i xs ys)

-- Trees of a table.

abbrev weight : Shape → ℕ
weight t = weigh 1 (λ r. 1) t

-- how many nodes the tree of node c has, where node i is the first of those at hand
abbrev at : ℕ → List Shape → ℕ → ℕ
at i ts c = weight (slice_index_or ts (c - i) no_shape)

range_all : (i : ℕ) (ts : List Shape) (f : ℕ → ℕ) → ((k : ℕ) → f (i + k) ≡ weight (slice_index_or ts k no_shape)) → range_sum f i (length ts) ≡ size_of ts
range_all i [] f h = refl
range_all i (t ∷ ts) f h =
    let e : f (i + 0) ≡ weight t = h 0 in
    let j : f (i + 0) ≡ f i = ap f (omega arith) in
    let r : range_sum f (suc i) (length ts) ≡ size_of ts = range_all (suc i) ts f (λ k. ap f (omega arith) ∙ h (suc k)) in
    omega (arith, e, j, r)

shape_few : (o : Option Token) (r : Rule) (g : ℕ → Shape) (cs : List ℕ) → weight (shape_or o r (map g cs)) ≤ 1 + sum (λ c. weight (g c)) 0 cs
shape_few (Some x) r g cs = omega arith
shape_few None r g cs = omega (arith, weigh_made 1 (λ r. 1) r (map g cs), all g cs)
  where
    all : (g : ℕ → Shape) (cs : List ℕ) → size_of (map g cs) ≡ sum (λ c. weight (g c)) 0 cs
    all g [] = refl
    all g (c ∷ cs) = let here : cond (nat_le 0 c) (weight (g c)) 0 ≡ weight (g c) = grind (arith, nat_tests) in omega (arith, here, all g cs)

-- behind one more tree
at_later : (i : ℕ) (t : Shape) (ts : List Shape) (cs : List ℕ) → All (λ c. i < c) cs → sum (at (i + 1) ts) 0 cs ≡ sum (at i (t ∷ ts)) 0 cs
at_later i t ts [] h = refl
at_later i t ts (c ∷ cs) h =
    let lt : i < c = All-head (λ c. i < c) c cs h in
    let e : c - i ≡ suc (c - (i + 1)) = omega (arith, lt) in
    let v : at i (t ∷ ts) c ≡ at (i + 1) ts c = ap (λ k. weight (slice_index_or (t ∷ ts) k no_shape)) e in
    let w : cond (nat_le 0 c) (at i (t ∷ ts) c) 0 ≡ cond (nat_le 0 c) (at (i + 1) ts c) 0 = ap (λ n. cond (nat_le 0 c) n 0) v in
    omega (arith, w, at_later i t ts cs (All-tail (λ c. i < c) c cs h))

-- each child has a larger number than its node, the first of which has number i
abbrev Rise : ℕ → List Node → Type 0
Rise i ns = (k : ℕ) (d : Node) → k < length ns → All (λ c. i + k < c) (slice_index_or ns k d).children

children_later : (i : ℕ) (ns : List Node) → Rise i ns → All (λ c. i < c) (children_of ns)
children_later i ns h = go i i ns (omega arith) h
  where
    go : (i j : ℕ) (ns : List Node) → i ≤ j → Rise j ns → All (λ c. i < c) (children_of ns)
    go i j [] le h = All-nil (λ c. i < c)
    go i j (n ∷ ns) le h =
        All-append (λ c. i < c) n.children (children_of ns) (All-weaker (λ c. j + 0 < c) (λ c. i < c) (λ c l. omega arith) n.children (h 0 n (omega arith)))
        (go i (suc j) ns (omega arith) (λ k d l. All-weaker (λ c. j + suc k < c) (λ c. suc j + k < c) (λ c l. omega arith) (slice_index_or ns k d).children (h (suc k) d (omega (arith, l)))))

-- all trees together: each node counts one, and the trees of its children once more
trees_few : (i : ℕ) (ns : List Node) → Rise i ns → size_of (trees_from i ns) ≤ length ns + sum (at i (trees_from i ns)) 0 (children_of ns)
trees_few i [] h = omega arith
trees_few i (n ∷ ns) h =
    let after : List Shape = trees_from (i + 1) ns in
    let t : Shape = shape_or n.token n.rule (map (λ c. slice_index_or after (c - (i + 1)) no_shape) n.children) in
    let f : ℕ → ℕ = at i (t ∷ after) in
    let own : All (λ c. i < c) n.children = All-weaker (λ c. i + 0 < c) (λ c. i < c) (λ c l. omega arith) n.children (h 0 n (omega arith)) in
    let rise : Rise (i + 1) ns = λ k d l. All-weaker (λ c. i + suc k < c) (λ c. i + 1 + k < c) (λ c l. omega arith) (slice_index_or ns k d).children (h (suc k) d (omega (arith, l))) in
    let below : All (λ c. i < c) (children_of ns) = All-weaker (λ c. i + 1 < c) (λ c. i < c) (λ c l. omega arith) (children_of ns) (children_later (i + 1) ns rise) in
    let lists : sum f 0 (children_of (n ∷ ns)) ≡ sum f 0 (n.children ++ children_of ns) = ap (sum f 0) (flat_map-cons (λ (m : Node). m.children) n ns) in
    omega (
      arith,
      shape_few n.token n.rule (λ c. slice_index_or after (c - (i + 1)) no_shape) n.children,
      trees_few (i + 1) ns rise,
      at_later i t after n.children own,
      at_later i t after (children_of ns) below,
      lists,
      sum_append f 0 n.children (children_of ns),
    )

length_trees : (i : ℕ) (ns : List Node) → length (trees_from i ns) ≡ length ns
length_trees i [] = refl
length_trees i (n ∷ ns) = ap suc (length_trees (i + 1) ns)

-- the children stand in the table
children_within : (m : ℕ) (ns : List Node) → ((k : ℕ) (d : Node) → k < length ns → All (λ c. c < m) (slice_index_or ns k d).children) → All (λ c. c < m) (children_of ns)
children_within m [] h = All-nil (λ c. c < m)
children_within m (n ∷ ns) h = All-append (λ c. c < m) n.children (children_of ns) (h 0 n (omega arith)) (children_within m ns (λ k d l. h (suc k) d (omega (arith, l))))

none_of : (cs : List ℕ) → All (λ c. 0 < c) cs → count_by (nat_eq 0) cs ≡ 0
none_of [] h = refl
none_of (c ∷ cs) h =
    let some : 0 < c = All-head (λ c. 0 < c) c cs h in
    let other : one_if (nat_eq 0 c) ≡ 0 = grind (arith, nat_tests, some) in
    omega (arith, times_cons 0 c cs, other, none_of cs (All-tail (λ c. 0 < c) c cs h))

pub tree_within : (ns : List Node) → IsTable ns → size_of (tree_of ns ∷ []) ≤ length ns
tree_within ns table =
    let ts : List Shape = trees_from 0 ns in
    let f : ℕ → ℕ = at 0 ts in
    let cs : List ℕ = children_of ns in
    let rise : Rise 0 ns = λ k d l. All-weaker (λ c. (k < c) × (c < length ns)) (λ c. 0 + k < c) (λ c b. (let x = b.0 in omega arith)) (slice_index_or ns k d).children (table.larger k d l) in
    let within : All (λ c. c < length ns) cs = children_within (length ns) ns (λ k d l. All-weaker (λ c. (k < c) × (c < length ns)) (λ c. c < length ns) (λ c b. b.1) (slice_index_or ns k d).children (table.larger k d l)) in
    let none : count_by (nat_eq 0) cs ≡ 0 = none_of cs (children_later 0 ns rise) in
    let all : All (λ c. c < 0 + length ns) (0 ∷ cs) = All-cons (λ c. c < 0 + length ns) 0 cs (omega (arith, table.some)) (All-weaker (λ c. c < length ns) (λ c. c < 0 + length ns) (λ c l. omega arith) cs within) in
    let bound : sum f 0 (0 ∷ cs) ≤ range_sum f 0 (length ns) = sum_within f 0 (length ns) (0 ∷ cs) all (λ c l. once c cs none (λ p. table.once c p (omega (arith, l)))) in
    let first : cond (nat_le 0 0) (f 0) 0 ≡ f 0 = refl in
    let whole : range_sum f 0 (length ts) ≡ size_of ts = range_all 0 ts f (λ k. ap (λ j. weight (slice_index_or ts j no_shape)) (omega arith)) in
    let many : range_sum f 0 (length ts) ≡ range_sum f 0 (length ns) = ap (range_sum f 0) (length_trees 0 ns) in
    omega (arith, bound, first, whole, many, trees_few 0 ns rise)
  where
    once : (c : ℕ) (cs : List ℕ) → count_by (nat_eq 0) cs ≡ 0 → (0 < c → count_by (nat_eq c) cs ≡ 1) → count_by (nat_eq c) (0 ∷ cs) ≤ 1
    once zero cs none h = let here : one_if (nat_eq 0 0) ≡ 1 = refl in omega (arith, times_cons 0 0 cs, here, none)
    once (suc c) cs none h = let other : one_if (nat_eq (suc c) 0) ≡ 0 = grind (arith, nat_tests) in omega (arith, times_cons (suc c) 0 cs, other, h (omega arith))
