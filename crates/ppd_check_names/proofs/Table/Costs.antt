-- The nodes of a table's trees: a node's are itself and those of its children.
use Rattle.std.proofs.Common.{◌≡◌, refl, sym, ap, subst, ◌∙◌, ℕ, zero, suc, ◌+◌, ◌<◌, ◌≤◌, arith, List, [], ◌∷◌, ◌++◌, map, take, length, get_or, Option, Some, None, slice_get}
use Rattle.std.proofs.lemmas.List.{get_or_default}
use Rattle.ppd_parse.specs.declared.token.Token.{Token}
use Rattle.ppd_parse.specs.declared.node.Node.{Node}
use Rattle.ppd_parse.specs.declared.symbol.Rule.{Rule}
use Rattle.ppd_parse.specs.declared.symbol.Rule.TheVariants as R
use Rattle.ppd_parse.specs.Grammar.{Shape, leaf, node}
use Rattle.ppd_parse.specs.Size.{weigh, weigh_all}
use Rattle.ppd_parse.specs.Table.{shape_or}
use Rattle.ppd_parse.specs.Tree.{IsTable}
use Rattle.ppd_parse.proofs.Sizes.{weigh_made}
use Rattle.ppd_check_names.specs.Nodes.{tree_at, children_of, phrases_below, no_node}
use Rattle.ppd_check_names.specs.Cost.{nodes_at, rule_at, nested_by, plain_by, nested_at, plain_at, if_there, nested_child, plain_child, total, nested_below, plain_below}
use Rattle.ppd_check_names.proofs.Table.Trees.{count_below, tree_step}

-- Sums.

pub total_more : (f : ℕ → ℕ) (cs : List ℕ) (k d : ℕ) → k < length cs → total f (take (k + 1) cs) ≡ total f (take k cs) + f (get_or cs k d)
total_more f [] k d h = omega (arith, h)
total_more f (c ∷ cs) zero d h = omega arith
total_more f (c ∷ cs) (suc k) d h =
    let n : suc k + 1 ≡ suc (k + 1) = omega arith in
    omega (arith, ap (λ m. total f (take m (c ∷ cs))) n, total_more f cs k d (omega (arith, h)))

pub total_all : (f : ℕ → ℕ) (cs : List ℕ) (k : ℕ) → length cs ≤ k → total f (take k cs) ≡ total f cs
total_all f [] zero h = refl
total_all f [] (suc k) h = refl
total_all f (c ∷ cs) zero h = omega (arith, h)
total_all f (c ∷ cs) (suc k) h = omega (arith, total_all f cs k (omega (arith, h)))

pub total_append : (f : ℕ → ℕ) (cs ds : List ℕ) → total f (cs ++ ds) ≡ total f cs + total f ds
total_append f [] ds = omega arith
total_append f (c ∷ cs) ds = omega (arith, total_append f cs ds)

pub total_apart : (f g h : ℕ → ℕ) (cs : List ℕ) → ((c : ℕ) → f c ≡ g c + h c) → total f cs ≡ total g cs + total h cs
total_apart f g h [] e = refl
total_apart f g h (c ∷ cs) e = omega (arith, e c, total_apart f g h cs e)

total_one : (f : ℕ → ℕ) (cs : List ℕ) (k : ℕ) → if_there f (slice_get cs k) ≤ total f cs
total_one f [] k = omega arith
total_one f (c ∷ cs) zero = omega arith
total_one f (c ∷ cs) (suc k) = omega (arith, total_one f cs k)

total_two : (f : ℕ → ℕ) (cs : List ℕ) (j k : ℕ) → j < k → if_there f (slice_get cs j) + if_there f (slice_get cs k) ≤ total f cs
total_two f [] j k h = omega arith
total_two f (c ∷ cs) zero zero h = omega (arith, h)
total_two f (c ∷ cs) (suc j) zero h = omega (arith, h)
total_two f (c ∷ cs) zero (suc k) h = omega (arith, total_one f cs k)
total_two f (c ∷ cs) (suc j) (suc k) h = omega (arith, total_two f cs j k (omega (arith, h)))

-- each child but one counts at least one
total_but : (f g : ℕ → ℕ) (cs : List ℕ) (k : ℕ) → ((c : ℕ) → 1 ≤ f c + g c) → length cs + if_there g (slice_get cs k) ≤ 1 + total f cs + total g cs
total_but f g [] k e = omega arith
total_but f g (c ∷ cs) zero e = omega (arith, many cs)
  where
    many : (cs : List ℕ) → length cs ≤ total f cs + total g cs
    many [] = omega arith
    many (c ∷ cs) = omega (arith, e c, many cs)
total_but f g (c ∷ cs) (suc k) e = omega (arith, e c, total_but f g cs k e)

-- Nodes.

some_nodes : (t : Shape) → 1 ≤ weigh 1 (λ r. 1) t
some_nodes (leaf x) = omega arith
some_nodes (node r f) = omega arith

by_apart : (r : Rule) (n : ℕ) → n ≡ plain_by r n + nested_by r n
by_apart R.Stmt n = omega arith
by_apart R.Local n = omega arith
by_apart R.Block n = omega arith
by_apart r n = omega arith

pub nodes_apart : (ns : List Node) (i : ℕ) → nodes_at ns i ≡ plain_at ns i + nested_at ns i
unfolding nested_at plain_at
nodes_apart ns i = by_apart (rule_at ns i) (nodes_at ns i)

pub some_at : (ns : List Node) (i : ℕ) → 1 ≤ plain_at ns i + nested_at ns i
unfolding nodes_at
some_at ns i = omega (arith, nodes_apart ns i, some_nodes (tree_at ns i))

pub some_nodes_at : (ns : List Node) (i : ℕ) → 1 ≤ nodes_at ns i
some_nodes_at ns i = omega (arith, nodes_apart ns i, some_at ns i)

pub weigh_trees : (ns : List Node) (cs : List ℕ) → weigh_all 1 (λ r. 1) (map (tree_at ns) cs) ≡ total (nodes_at ns) cs
unfolding nodes_at
weigh_trees ns [] = refl
weigh_trees ns (c ∷ cs) = omega (arith, weigh_trees ns cs)

shape_nodes : (ns : List Node) (t : Option Token) (r : Rule) (cs : List ℕ) → ((x : Token) → t ≡ Some x → cs ≡ []) → weigh 1 (λ r. 1) (shape_or t r (map (tree_at ns) cs)) ≡ 1 + total (nodes_at ns) cs
shape_nodes ns (Some x) r cs h = ap (λ ds. 1 + total (nodes_at ns) ds) (sym (h x refl))
shape_nodes ns None r cs h = omega (arith, weigh_made 1 (λ r. 1) r (map (tree_at ns) cs), weigh_trees ns cs)

pub nodes_step : (ns : List Node) (i : ℕ) → IsTable ns → i < length ns → nodes_at ns i ≡ 1 + plain_below ns i + nested_below ns i
unfolding nodes_at plain_below nested_below
nodes_step ns i table h =
    let n : Node = get_or ns i no_node in
    let tree : weigh 1 (λ r. 1) (tree_at ns i) ≡ weigh 1 (λ r. 1) (shape_or n.token n.rule (map (tree_at ns) n.children)) = ap (weigh 1 (λ r. 1)) (tree_step ns i n table h (get_or_default ns i no_node n h)) in
    let own : weigh 1 (λ r. 1) (shape_or n.token n.rule (map (tree_at ns) n.children)) ≡ 1 + total (nodes_at ns) n.children = shape_nodes ns n.token n.rule n.children (λ x e. (table.leaves i no_node x h e).1) in
    let apart : total (nodes_at ns) n.children ≡ total (plain_at ns) n.children + total (nested_at ns) n.children = total_apart (nodes_at ns) (plain_at ns) (nested_at ns) n.children (nodes_apart ns) in
    omega (arith, tree, own, apart)

-- the nodes of a node that was read, by its rule
pub plain_told : (ns : List Node) (i : ℕ) (n : Node) → IsTable ns → i < length ns → n ≡ get_or ns i n → plain_at ns i ≡ plain_by n.rule (1 + plain_below ns i + nested_below ns i)
unfolding plain_at
plain_told ns i n table h is =
    ap (λ m. plain_by (get_or ns i no_node).rule m) (nodes_step ns i table h)
    ∙ ap (λ (m : Node). plain_by m.rule (1 + plain_below ns i + nested_below ns i)) (sym (is ∙ get_or_default ns i n no_node h))

pub nested_told : (ns : List Node) (i : ℕ) (n : Node) → IsTable ns → i < length ns → n ≡ get_or ns i n → nested_at ns i ≡ nested_by n.rule (1 + plain_below ns i + nested_below ns i)
unfolding nested_at
nested_told ns i n table h is =
    ap (λ m. nested_by (get_or ns i no_node).rule m) (nodes_step ns i table h)
    ∙ ap (λ (m : Node). nested_by m.rule (1 + plain_below ns i + nested_below ns i)) (sym (is ∙ get_or_default ns i n no_node h))

-- Children.

pub plain_child_told : (ns : List Node) (i k : ℕ) (o : Option ℕ) → o ≡ slice_get (children_of ns i) k → if_there (plain_at ns) o ≡ plain_child ns i k
unfolding plain_child
plain_child_told ns i k o e = ap (if_there (plain_at ns)) e

pub nested_child_told : (ns : List Node) (i k : ℕ) (o : Option ℕ) → o ≡ slice_get (children_of ns i) k → if_there (nested_at ns) o ≡ nested_child ns i k
unfolding nested_child
nested_child_told ns i k o e = ap (if_there (nested_at ns)) e

pub plain_one : (ns : List Node) (i k : ℕ) → plain_child ns i k ≤ plain_below ns i
unfolding plain_child plain_below
plain_one ns i k = total_one (plain_at ns) (children_of ns i) k

pub nested_one : (ns : List Node) (i k : ℕ) → nested_child ns i k ≤ nested_below ns i
unfolding nested_child nested_below
nested_one ns i k = total_one (nested_at ns) (children_of ns i) k

pub plain_two : (ns : List Node) (i j k : ℕ) → j < k → plain_child ns i j + plain_child ns i k ≤ plain_below ns i
unfolding plain_child plain_below
plain_two ns i j k h = total_two (plain_at ns) (children_of ns i) j k h

pub nested_two : (ns : List Node) (i j k : ℕ) → j < k → nested_child ns i j + nested_child ns i k ≤ nested_below ns i
unfolding nested_child nested_below
nested_two ns i j k h = total_two (nested_at ns) (children_of ns i) j k h

-- the children, with the nodes of one of those that stand for statements
children_but : (ns : List Node) (i k : ℕ) → length (children_of ns i) + nested_child ns i k ≤ 1 + plain_below ns i + nested_below ns i
unfolding nested_child plain_below nested_below
children_but ns i k = total_but (plain_at ns) (nested_at ns) (children_of ns i) k (some_at ns)

pub parts_but : (ns : List Node) (i k : ℕ) → length (phrases_below ns i) + nested_child ns i k ≤ 1 + plain_below ns i + nested_below ns i
parts_but ns i k = omega (arith, count_below ns i, children_but ns i k)

pub children_few : (ns : List Node) (i : ℕ) → length (children_of ns i) ≤ plain_below ns i + nested_below ns i
unfolding plain_below nested_below
children_few ns i = many (children_of ns i)
  where
    many : (cs : List ℕ) → length cs ≤ total (plain_at ns) cs + total (nested_at ns) cs
    many [] = omega arith
    many (c ∷ cs) = omega (arith, some_at ns c, many cs)

-- those that a loop went over
pub plain_all : (ns : List Node) (i k : ℕ) (cs : List ℕ) → cs ≡ children_of ns i → length cs ≤ k → total (plain_at ns) (take k cs) ≡ plain_below ns i
unfolding plain_below
plain_all ns i k cs e h = total_all (plain_at ns) cs k h ∙ ap (total (plain_at ns)) e

pub nested_all : (ns : List Node) (i k : ℕ) (cs : List ℕ) → cs ≡ children_of ns i → length cs ≤ k → total (nested_at ns) (take k cs) ≡ nested_below ns i
unfolding nested_below
nested_all ns i k cs e h = total_all (nested_at ns) cs k h ∙ ap (total (nested_at ns)) e

-- and those that it went over with the next one
pub total_part : (f : ℕ → ℕ) (cs : List ℕ) (k d : ℕ) → k < length cs → total f (take k cs) + f (get_or cs k d) ≤ total f cs
total_part f [] k d h = omega (arith, h)
total_part f (c ∷ cs) zero d h = omega arith
total_part f (c ∷ cs) (suc k) d h = omega (arith, total_part f cs k d (omega (arith, h)))

pub plain_part : (ns : List Node) (i k d : ℕ) (cs : List ℕ) → cs ≡ children_of ns i → k < length cs → total (plain_at ns) (take k cs) + plain_at ns (get_or cs k d) ≤ plain_below ns i
unfolding plain_below
plain_part ns i k d cs e h = subst (λ ds. total (plain_at ns) (take k cs) + plain_at ns (get_or cs k d) ≤ total (plain_at ns) ds) e (total_part (plain_at ns) cs k d h)

pub nested_part : (ns : List Node) (i k d : ℕ) (cs : List ℕ) → cs ≡ children_of ns i → k < length cs → total (nested_at ns) (take k cs) + nested_at ns (get_or cs k d) ≤ nested_below ns i
unfolding nested_below
nested_part ns i k d cs e h = subst (λ ds. total (nested_at ns) (take k cs) + nested_at ns (get_or cs k d) ≤ total (nested_at ns) ds) e (total_part (nested_at ns) cs k d h)

-- The children that a loop went over: with the next one, with all, and with the next one still to be gone over.

pub record WalkedMore (ns : List Node) (cs : List ℕ) (k : ℕ) : Type 0 where
  pub plain : total (plain_at ns) (take (k + 1) cs) ≡ total (plain_at ns) (take k cs) + plain_at ns (get_or cs k 0)
  pub nested : total (nested_at ns) (take (k + 1) cs) ≡ total (nested_at ns) (take k cs) + nested_at ns (get_or cs k 0)
  pub some : 1 ≤ plain_at ns (get_or cs k 0) + nested_at ns (get_or cs k 0)

pub walked_more : (ns : List Node) (cs : List ℕ) (k : ℕ) → k < length cs → WalkedMore ns cs k
walked_more ns cs k h =
    record {
      plain = total_more (plain_at ns) cs k 0 h;
      nested = total_more (nested_at ns) cs k 0 h;
      some = some_at ns (get_or cs k 0);
    }

pub record WalkedAll (ns : List Node) (i : ℕ) (cs : List ℕ) (k : ℕ) : Type 0 where
  pub plain : total (plain_at ns) (take k cs) ≡ plain_below ns i
  pub nested : total (nested_at ns) (take k cs) ≡ nested_below ns i

pub walked_all : (ns : List Node) (i : ℕ) (cs : List ℕ) (k : ℕ) → cs ≡ children_of ns i → length cs ≤ k → WalkedAll ns i cs k
walked_all ns i cs k e h = record { plain = plain_all ns i k cs e h; nested = nested_all ns i k cs e h }

pub record WalkedPart (ns : List Node) (i : ℕ) (cs : List ℕ) (k : ℕ) : Type 0 where
  pub plain : total (plain_at ns) (take k cs) + plain_at ns (get_or cs k 0) ≤ plain_below ns i
  pub nested : total (nested_at ns) (take k cs) + nested_at ns (get_or cs k 0) ≤ nested_below ns i
  pub some : 1 ≤ plain_at ns (get_or cs k 0) + nested_at ns (get_or cs k 0)

pub walked_part : (ns : List Node) (i : ℕ) (cs : List ℕ) (k : ℕ) → cs ≡ children_of ns i → k < length cs → WalkedPart ns i cs k
walked_part ns i cs k e h =
    record {
      plain = plain_part ns i k 0 cs e h;
      nested = nested_part ns i k 0 cs e h;
      some = some_at ns (get_or cs k 0);
    }

-- a node that was read, read again
pub get_or_again : (ns : List Node) (i : ℕ) (d : Node) → i < length ns → get_or ns i d ≡ get_or ns i (get_or ns i d)
get_or_again ns i d h = get_or_default ns i d (get_or ns i d) h
