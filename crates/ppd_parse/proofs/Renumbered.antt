-- The nodes that have grown, numbered with the root first, are the table of their tree.
use Rattle.std.proofs.Common.{◌≡◌, ◌≢◌, ◌<◌, ◌≤◌, ℕ, zero, suc, ◌+◌, ◌-◌, ◌*◌, ◌^◌, nat_eq, List, [], ◌∷◌, ◌++◌, length, map, reverse, get_or, Some, None, refl, sym, ◌∙◌, ap, subst, arith}
use Rattle.std.specs.List.{count_by, All}
use Rattle.std.proofs.lemmas.Bool.Decides.{nat_tests}
use Rattle.std.proofs.lemmas.List.{map-append, length-map, length-append, length-reverse, reverse-append, reverse-reverse, get_or_append_left, get_or_push, get_or-reverse}
use Rattle.std.proofs.lemmas.List.Concat.{flat_map-append}
use Rattle.std.proofs.lemmas.List.Elements.{All-head, All-tail, All-map, All-weaker}
use Rattle.ppd_ast.specs.Tally.{IsOnce}
use Rattle.ppd_ast.specs.Counting.{one_if}
use Rattle.ppd_parse.specs.declared.token.Token.{Token}
use Rattle.ppd_parse.proofs.FromLanguage.{program_parsed}
use Rattle.ppd_parse.specs.declared.symbol.Rule.TheVariants as R
use Rattle.ppd_parse.specs.declared.node.Growth.{Growth}
use Rattle.ppd_parse.specs.declared.node.Node.{Node}
use Rattle.ppd_parse.specs.Below.{AreBelow}
use Rattle.ppd_parse.specs.Grammar.{Shape}
use Rattle.ppd_parse.specs.Grown.{children_in, AreRising, AreLeafy, IsLeafy, IsGrown}
use Rattle.ppd_parse.specs.Limits.{IsTree}
use Rattle.ppd_parse.specs.Renumbered.{turned, node_of, renumbered}
use Rattle.ppd_parse.specs.Table.{no_shape, shape_or, at_ids, shape_of, table, shapes_of}
use Rattle.ppd_parse.specs.Tree.{trees_from, tree_of, children_of, IsTable}
use Rattle.ppd_parse.proofs.Grown.{times_append, times_cons, times_none, children_below, below_more, all_children_below, counted_size, counted_inner}
use Rattle.ppd_parse.proofs.TreeLeaves.{program_root}
use Rattle.ppd_parse.proofs.Sizes.{program_size, program_inner}
use Rattle.ppd_parse.proofs.Table.{table_snoc, length-table, length-shapes}

-- ---- the nodes from the last one on

-- the children of each have numbers below how many follow it
abbrev Under : List Growth → Type 0
Under [] = Unit {0}
Under (g ∷ rs) = AreBelow (length rs) g.children.items × Under rs

turned_cons : {X : Type 0} (x : X) (xs : List X) → reverse (x ∷ xs) ≡ reverse xs ++ x ∷ []
turned_cons x xs = reverse-append (x ∷ []) xs

under : (rs : List Growth) → AreRising (reverse rs) → Under rs
under [] h = tt
under (g ∷ rs) all =
    let h : AreRising (reverse rs ++ g ∷ []) = subst AreRising (turned_cons g rs) all in
    let long : length (reverse rs ++ g ∷ []) ≡ length rs + 1 = length-append (reverse rs) (g ∷ []) ∙ ap (λ n. n + 1) (length-reverse rs) in
    let P : Growth → Type 0 = λ n. AreBelow (length rs) n.children.items in (
      subst P (get_or_push (reverse rs) g g (length rs) (length-reverse rs)) (h (length rs) g (omega (arith, long))),
      under rs (λ k d lt.
          let Q : Growth → Type 0 = λ n. AreBelow k n.children.items in
          subst Q (get_or_append_left (reverse rs) (g ∷ []) d k lt) (h k d (omega (arith, long, length-reverse rs)))),
    )

-- ---- the trees

turned_kids : (n j : ℕ) (ts : List Shape) (ids : List ℕ) → j + 1 + length ts ≡ n → AreBelow (length ts) ids → map (λ c. get_or (reverse ts) (c - (j + 1)) no_shape) (turned n ids) ≡ at_ids ts ids
turned_kids n j ts [] e h = refl
turned_kids n j ts (i ∷ ids) e h =
    let below : i < length ts = All-head (λ k. k < length ts) i ids h in
    let at : get_or (reverse ts) (n - 1 - i - (j + 1)) no_shape ≡ get_or ts (length ts - 1 - (n - 1 - i - (j + 1))) no_shape = get_or-reverse ts (n - 1 - i - (j + 1)) no_shape (omega arith) in
    let same : length ts - 1 - (n - 1 - i - (j + 1)) ≡ i = omega arith in
    let head : get_or (reverse ts) (n - 1 - i - (j + 1)) no_shape ≡ get_or ts i no_shape = at ∙ ap (λ k. get_or ts k no_shape) same in
    let rest = turned_kids n j ts ids e (All-tail (λ k. k < length ts) i ids h) in
    ap (λ t. t ∷ map (λ c. get_or (reverse ts) (c - (j + 1)) no_shape) (turned n ids)) head ∙ ap (λ f. get_or ts i no_shape ∷ f) rest

turned_trees : (n j : ℕ) (rs : List Growth) → Under rs → j + length rs ≡ n → trees_from j (map (node_of n) rs) ≡ reverse (table [] (reverse rs))
turned_trees n j [] u e = refl
turned_trees n j (g ∷ rs) u e =
    let old : List Shape = table [] (reverse rs) in
    let long : length old ≡ length rs = omega (arith, length-table [] (reverse rs), length-reverse rs) in
    let after : trees_from (j + 1) (map (node_of n) rs) ≡ reverse old = turned_trees n (j + 1) rs u.1 (omega arith) in
    let kids : map (λ c. get_or (reverse old) (c - (j + 1)) no_shape) (turned n g.children.items) ≡ at_ids old g.children.items = turned_kids n j old g.children.items (omega arith) (subst (λ m. AreBelow m g.children.items) (sym long) u.0) in
    ap (λ f. shape_or g.token g.rule (map (λ c. get_or f (c - (j + 1)) no_shape) (turned n g.children.items)) ∷ f) after
    ∙ (ap (λ f. shape_or g.token g.rule f ∷ reverse old) kids
    ∙ (sym (reverse-append old (shape_of old g ∷ [])) ∙ (ap reverse (sym (table_snoc [] (reverse rs) g)) ∙ ap (λ l. reverse (table [] l)) (sym (turned_cons g rs)))))

-- ---- the children

children_turned : (n : ℕ) (rs : List Growth) → children_of (map (node_of n) rs) ≡ turned n (children_in rs)
children_turned n [] = refl
children_turned n (g ∷ rs) = ap (λ u. turned n g.children.items ++ u) (children_turned n rs) ∙ sym (map-append (λ c. n - 1 - c) g.children.items (children_in rs))

times_turned : (n c : ℕ) (ids : List ℕ) → c < n → AreBelow n ids → count_by (nat_eq c) (turned n ids) ≡ count_by (nat_eq (n - 1 - c)) ids
times_turned n c [] lt h = refl
times_turned n c (i ∷ ids) lt h =
    let below : i < n = All-head (λ k. k < n) i ids h in
    let same : one_if (nat_eq c (n - 1 - i)) ≡ one_if (nat_eq (n - 1 - c) i) = grind (arith, nat_tests) in
    omega (arith, same, times_cons c (n - 1 - i) (turned n ids), times_cons (n - 1 - c) i ids, times_turned n c ids lt (All-tail (λ k. k < n) i ids h))

times_reversed : (c : ℕ) (gs : List Growth) → count_by (nat_eq c) (children_in (reverse gs)) ≡ count_by (nat_eq c) (children_in gs)
times_reversed c [] = refl
times_reversed c (g ∷ gs) =
    let cut : count_by (nat_eq c) (children_in (reverse (g ∷ gs))) ≡ count_by (nat_eq c) (children_in (reverse gs) ++ children_in (g ∷ [])) = ap (λ l. count_by (nat_eq c) (children_in l)) (turned_cons g gs) ∙ ap (count_by (nat_eq c)) (flat_map-append (λ (n : Growth). n.children.items) (reverse gs) (g ∷ [])) in
    let none : count_by (nat_eq c) [] ≡ 0 = refl in
    omega (arith, cut, times_append c (children_in (reverse gs)) (children_in (g ∷ [])), times_append c g.children.items [], times_append c g.children.items (children_in gs), times_reversed c gs, none)

larger_from : (n j : ℕ) (rs : List Growth) → Under rs → j + length rs ≡ n → (i : ℕ) (d : Node) → i < length (map (node_of n) rs) → All (λ c. (j + i < c) × (c < n)) (get_or (map (node_of n) rs) i d).children
larger_from n j [] u e i d lt = absurd (omega arith)
larger_from n j (g ∷ rs) u e zero d lt = All-map (λ c. (j + 0 < c) × (c < n)) (λ c. n - 1 - c) g.children.items (All-weaker (λ c. c < length rs) (λ c. (j + 0 < n - 1 - c) × (n - 1 - c < n)) (λ c b. (omega arith, omega arith)) g.children.items u.0)
larger_from n j (g ∷ rs) u e (suc i) d lt =
    All-weaker (λ c. (j + 1 + i < c) × (c < n)) (λ c. (j + suc i < c) × (c < n)) (λ c b. (let f = b.0 in omega arith, b.1)) (get_or (map (node_of n) rs) i d).children (larger_from n (j + 1) rs u.1 (omega arith) i d (omega arith))

-- a node without a token has another rule than a token
abbrev IsInner : Growth → Type 0
IsInner g = g.token ≡ None → g.rule ≢ R.Leaf

abbrev AreInner : List Growth → Type 0
AreInner gs = (k : ℕ) (d : Growth) → k < length gs → IsInner (get_or gs k d)

leaves_from : (n : ℕ) (rs : List Growth) → AreLeafy rs → (i : ℕ) (d : Node) (x : Token) → i < length (map (node_of n) rs) → (get_or (map (node_of n) rs) i d).token ≡ Some x → ((get_or (map (node_of n) rs) i d).rule ≡ R.Leaf) × ((get_or (map (node_of n) rs) i d).children ≡ [])
leaves_from n [] h i d x lt e = absurd (omega arith)
leaves_from n (g ∷ rs) h zero d x lt e = let l = h 0 g (omega arith) x e in (l.0, ap (turned n) l.1)
leaves_from n (g ∷ rs) h (suc i) d x lt e = leaves_from n rs (λ k f less. h (suc k) f (omega arith)) i d x (omega arith) e

inner_from : (n : ℕ) (rs : List Growth) → AreInner rs → (i : ℕ) (d : Node) → i < length (map (node_of n) rs) → (get_or (map (node_of n) rs) i d).token ≡ None → (get_or (map (node_of n) rs) i d).rule ≢ R.Leaf
inner_from n [] h i d lt e = absurd (omega arith)
inner_from n (g ∷ rs) h zero d lt e = h 0 g (omega arith) e
inner_from n (g ∷ rs) h (suc i) d lt e = inner_from n rs (λ k f less. h (suc k) f (omega arith)) i d (omega arith) e

-- ---- the table

module _ (gs : List Growth) (r : ℕ) (grown : IsGrown gs (r ∷ [])) where
  n : ℕ
  n = length gs

  root_below : r < length gs
  root_below = All-head (λ i. i < length gs) r [] grown.0

  -- the root is the last node
  root_last : r ≡ length gs - 1
  root_last =
      let m : ℕ = length gs - 1 in
      let kids : AreBelow m (children_in gs) = children_below m gs (λ k d lt. below_more k m (get_or gs k d).children.items (omega arith) (grown.1 k d lt)) in
      let none : count_by (nat_eq m) (children_in gs) ≡ 0 = times_none m m (children_in gs) (omega arith) kids in
      let once : count_by (nat_eq m) (children_in gs ++ r ∷ []) ≡ 1 = grown.2 m (omega (arith, root_below)) in
      let one : one_if (nat_eq m r) ≡ 1 = omega (arith, none, once, times_append m (children_in gs) (r ∷ []), times_cons m r []) in
      grind (arith, nat_tests)

  under_all : Under (reverse gs)
  under_all = under (reverse gs) (subst AreRising (sym (reverse-reverse gs)) grown.1)

  count_all : 0 + length (reverse gs) ≡ length gs
  count_all = omega (arith, length-reverse gs)

  length-renumbered : length (renumbered gs) ≡ length gs
  length-renumbered = length-map (reverse gs) (node_of (length gs)) ∙ length-reverse gs

  pub same_tree : tree_of (renumbered gs) ∷ [] ≡ shapes_of gs (r ∷ [])
  same_tree =
      let trees : trees_from 0 (renumbered gs) ≡ reverse (table [] gs) = turned_trees (length gs) 0 (reverse gs) under_all count_all ∙ ap (λ g. reverse (table [] g)) (reverse-reverse gs) in
      let long : length (table [] gs) ≡ length gs = omega (arith, length-table [] gs) in
      let first : get_or (reverse (table [] gs)) 0 no_shape ≡ get_or (table [] gs) (length (table [] gs) - 1 - 0) no_shape = get_or-reverse (table [] gs) 0 no_shape (omega (arith, root_below, long)) in
      let last : length (table [] gs) - 1 - 0 ≡ r = omega (arith, long, root_last) in
      ap (λ t. t ∷ []) (ap (λ f. get_or f 0 no_shape) trees ∙ (first ∙ ap (λ k. get_or (table [] gs) k no_shape) last))

  once_after : (c : ℕ) → 0 < c → c < length (renumbered gs) → IsOnce (children_of (renumbered gs)) c
  once_after c some lt =
      let within : c < length gs = omega (arith, length-renumbered) in
      let low : AreBelow (length gs) (children_in gs) = all_children_below gs grown.1 in
      let turn : count_by (nat_eq c) (children_of (renumbered gs)) ≡ count_by (nat_eq c) (turned (length gs) (children_in (reverse gs))) = ap (count_by (nat_eq c)) (children_turned (length gs) (reverse gs)) in
      let back : count_by (nat_eq c) (turned (length gs) (children_in (reverse gs))) ≡ count_by (nat_eq (length gs - 1 - c)) (children_in (reverse gs)) = times_turned (length gs) c (children_in (reverse gs)) within (below_reversed low) in
      let other : one_if (nat_eq (length gs - 1 - c) r) ≡ 0 = apart root_last within in
      omega (arith, turn, back, other, times_reversed (length gs - 1 - c) gs, grown.2 (length gs - 1 - c) (omega arith), times_append (length gs - 1 - c) (children_in gs) (r ∷ []), times_cons (length gs - 1 - c) r [])
    where
      apart : r ≡ length gs - 1 → c < length gs → one_if (nat_eq (length gs - 1 - c) r) ≡ 0
      apart e within = grind (arith, nat_tests)

      below_reversed : AreBelow (length gs) (children_in gs) → AreBelow (length gs) (children_in (reverse gs))
      below_reversed low = children_below (length gs) (reverse gs) (λ k d lt.
          let P : Growth → Type 0 = λ g. AreBelow (length gs) g.children.items in
          let less : k < length gs = omega (arith, length-reverse gs) in
          let m : ℕ = length gs - 1 - k in
          subst P (sym (get_or-reverse gs k d less)) (below_more m (length gs) (get_or gs m d).children.items (omega arith) (grown.1 m d (omega arith))))

  leafy_reversed : AreLeafy (reverse gs)
  leafy_reversed k d lt =
      let less : k < length gs = omega (arith, length-reverse gs) in
      subst IsLeafy (sym (get_or-reverse gs k d less)) (grown.3 (length gs - 1 - k) d (omega arith))

  inner_reversed : AreInner gs → AreInner (reverse gs)
  inner_reversed h k d lt =
      let less : k < length gs = omega (arith, length-reverse gs) in
      subst IsInner (sym (get_or-reverse gs k d less)) (h (length gs - 1 - k) d (omega arith))

  pub is_table : AreInner gs → IsTable (renumbered gs)
  is_table inner = record {
    some = omega (arith, length-renumbered, root_below);
    larger = λ i d lt. All-weaker (λ c. (0 + i < c) × (c < length gs)) (λ c. (i < c) × (c < length (renumbered gs))) (λ c b. (let f = b.0 in omega arith, let f = b.1 in omega (arith, length-renumbered))) (get_or (renumbered gs) i d).children (larger_from (length gs) 0 (reverse gs) under_all count_all i d lt);
    once = once_after;
    leaves = leaves_from (length gs) (reverse gs) leafy_reversed;
    inner = inner_from (length gs) (reverse gs) (inner_reversed inner);
  }

-- ---- of a program

-- a program's tree is one
one_tree : (ts : List Token) (f : List Shape) → IsTree ts f → length f ≡ 1
one_tree ts f t = let root = program_root t.program in ap length root.1

-- the nodes of a program's tree are fewer than three for each token
pub few_nodes : (ts : List Token) (gs : List Growth) (roots : List ℕ) → IsGrown gs roots → IsTree ts (shapes_of gs roots) → length gs + 1 ≤ 3 * length ts
few_nodes ts gs roots grown t =
    let tokens : length t.marked ≡ length ts = sym (length-map t.marked (λ x. x.token)) ∙ ap length t.tokens in
    omega (arith, counted_size gs roots grown.4, tokens, program_size (program_parsed t.program))

pub short : (ts : List Token) (gs : List Growth) (roots : List ℕ) → length ts ≤ 2 ^ 30 → IsGrown gs roots → IsTree ts (shapes_of gs roots) → length gs ≤ 2 ^ 32
short ts gs roots few grown t = omega (arith, few_nodes ts gs roots grown t)

pub record IsRenumbered (ts : List Token) (ns : List Node) : Type 0 where
  pub tree : IsTree ts (tree_of ns ∷ [])
  pub table : IsTable ns
  pub few : length ns ≤ 3 * length ts

pub numbered : (ts : List Token) (gs : List Growth) (roots : List ℕ) (ns : List Node) → ns ≡ renumbered gs → IsGrown gs roots → IsTree ts (shapes_of gs roots) → IsRenumbered ts ns
numbered ts gs roots ns e grown t = subst (IsRenumbered ts) (sym e) (go roots grown t (sym (length-shapes gs roots) ∙ one_tree ts (shapes_of gs roots) t))
  where
    go : (ids : List ℕ) → IsGrown gs ids → IsTree ts (shapes_of gs ids) → length ids ≡ 1 → IsRenumbered ts (renumbered gs)
    go [] g t h = absurd (omega arith)
    go (r ∷ []) g t h = record {
      tree = subst (IsTree ts) (sym (same_tree gs r g)) t;
      table = is_table gs r g (counted_inner gs (r ∷ []) g.4 (program_inner (program_parsed t.program)));
      few = omega (arith, few_nodes ts gs (r ∷ []) g t, length-renumbered gs r g);
    }
    go (r ∷ (q ∷ ids)) g t h = absurd (omega arith)
