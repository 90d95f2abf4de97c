-- A node says what its rule makes of what its children say.
use Rattle.std.proofs.Common.{◌≡◌, refl, sym, ap, subst, ◌∙◌, ℕ, zero, suc, ◌+◌, ◌-◌, ◌*◌, ◌<◌, arith, List, [], ◌∷◌, map, drop, length, get_or, Option, Some, None, slice_get, MatchOption, Bor, option_copied}
use Rattle.std.specs.List.{All}
use Rattle.std.proofs.lemmas.List.{get_or-drop, drop_more, get_or_default, length-map}
use Rattle.std.proofs.lemmas.List.Elements.{All-head, All-tail}
use Rattle.ppd_parse.specs.declared.token.Token.{Token}
use Rattle.ppd_parse.specs.declared.symbol.Rule.{Rule}
use Rattle.ppd_parse.specs.declared.node.Node.{Node}
use Rattle.ppd_parse.specs.Grammar.{forest}
use Rattle.ppd_parse.specs.Table.{no_shape, shape_or}
use Rattle.ppd_parse.specs.Tree.{trees_from, IsTable}
use Rattle.ppd_parse.specs.declared.symbol.Rule.TheVariants as R
use Rattle.ppd_check_names.specs.Reading.{Phrase, said, all_said, made, token, phrase, as_token, nowhere, as_formula, called, as_value, as_goal, name_of}
use Rattle.ppd_check_names.specs.Syntax.{plain, scalar}
use Rattle.ppd_check_names.specs.declared.nodes.Operand.{Operand}
use Rattle.ppd_check_names.specs.declared.nodes.Operand.TheVariants.{Constant, At}
use Rattle.ppd_check_names.specs.Nodes.{tree_at, phrase_of, phrases_below, children_of, no_node, SaysBy}

-- children of node i: larger numbers of nodes
abbrev pub AreInside : List Node → ℕ → List ℕ → Type 0
AreInside ns i ids = All (λ c. (i < c) × (c < length ns)) ids

-- a token, or what a rule makes of phrases
abbrev pub phrase_in : Option Token → Rule → List Phrase → Phrase
phrase_in (Some t) r ps = token t
phrase_in None r ps = made r ps

drop_trees : (ns : List Node) (j k : ℕ) → drop j (trees_from k ns) ≡ trees_from (k + j) (drop j ns)
drop_trees ns zero k = ap (λ n. trees_from n ns) (omega arith)
drop_trees [] (suc j) k = refl
drop_trees (n ∷ ns) (suc j) k =
    drop_trees ns j (k + 1) ∙ ap (λ m. trees_from m (drop j ns)) (omega arith)

drop_from : (ns : List Node) (j : ℕ) → drop j (trees_from 0 ns) ≡ trees_from j (drop j ns)
drop_from ns j = drop_trees ns j 0 ∙ ap (λ m. trees_from m (drop j ns)) (omega arith)

-- a later tree, counted from j on
later_tree : (ns : List Node) (j c : ℕ) → (c < j → ⊥) → get_or (trees_from j (drop j ns)) (c - j) no_shape ≡ tree_at ns c
later_tree ns j c h =
    let e : j + (c - j) ≡ c = omega arith in
    ap (λ ts. get_or ts (c - j) no_shape) (sym (drop_from ns j))
    ∙ get_or-drop j (trees_from 0 ns) (c - j) no_shape
    ∙ ap (λ n. get_or (trees_from 0 ns) n no_shape) e

later_trees : (ns : List Node) (i : ℕ) (cs : List ℕ) → AreInside ns i cs
    → map (λ c. get_or (trees_from (i + 1) (drop (i + 1) ns)) (c - (i + 1)) no_shape) cs ≡ map (tree_at ns) cs
later_trees ns i [] h = refl
later_trees ns i (c ∷ cs) h =
    let now : (i < c) × (c < length ns) = All-head (λ c. (i < c) × (c < length ns)) c cs h in
    let e : get_or (trees_from (i + 1) (drop (i + 1) ns)) (c - (i + 1)) no_shape ≡ tree_at ns c = later_tree ns (i + 1) c (λ l. omega (arith, now.0, l)) in
    let rest : map (λ c. get_or (trees_from (i + 1) (drop (i + 1) ns)) (c - (i + 1)) no_shape) cs ≡ map (tree_at ns) cs = later_trees ns i cs (All-tail (λ c. (i < c) × (c < length ns)) c cs h) in
    ap (λ t. t ∷ map (λ c. get_or (trees_from (i + 1) (drop (i + 1) ns)) (c - (i + 1)) no_shape) cs) e
    ∙ ap (λ ts. tree_at ns c ∷ ts) rest

pub own_inside : (ns : List Node) (i : ℕ) (n : Node) → IsTable ns → i < length ns → n ≡ get_or ns i n → AreInside ns i n.children
own_inside ns i n table h is = subst (λ m. AreInside ns i m.children) (sym is) (table.larger i n h)

pub tree_step : (ns : List Node) (i : ℕ) (n : Node) → IsTable ns → i < length ns → n ≡ get_or ns i n
    → tree_at ns i ≡ shape_or n.token n.rule (map (tree_at ns) n.children)
tree_step ns i n table h is =
    let d : drop i ns ≡ n ∷ drop (i + 1) ns = drop_more ns i n h ∙ ap (λ m. m ∷ drop (i + 1) ns) (sym is) in
    let zeroth : i + 0 ≡ i = omega arith in
    ap (λ m. get_or (trees_from 0 ns) m no_shape) (sym zeroth)
    ∙ sym (get_or-drop i (trees_from 0 ns) 0 no_shape)
    ∙ ap (λ ts. get_or ts 0 no_shape) (drop_from ns i)
    ∙ ap (λ l. get_or (trees_from i l) 0 no_shape) d
    ∙ ap (shape_or n.token n.rule) (later_trees ns i n.children (own_inside ns i n table h is))

pub all_said_forest : (ns : List Node) (cs : List ℕ) → all_said (forest (map (tree_at ns) cs)) ≡ map (phrase_of ns) cs
unfolding phrase_of
all_said_forest ns [] = refl
all_said_forest ns (c ∷ cs) = ap (λ ps. said (tree_at ns c) ∷ ps) (all_said_forest ns cs)

said_or : (ns : List Node) (t : Option Token) (r : Rule) (cs : List ℕ) → said (shape_or t r (map (tree_at ns) cs)) ≡ phrase_in t r (map (phrase_of ns) cs)
said_or ns (Some t) r cs = refl
said_or ns None r cs = ap (made r) (all_said_forest ns cs)

pub phrase_step : (ns : List Node) (i : ℕ) (n : Node) → IsTable ns → i < length ns → n ≡ get_or ns i n
    → phrase_of ns i ≡ phrase_in n.token n.rule (map (phrase_of ns) n.children)
unfolding phrase_of
phrase_step ns i n table h is = ap said (tree_step ns i n table h is) ∙ said_or ns n.token n.rule n.children

-- the children of a node that was read
pub children_read : (ns : List Node) (i : ℕ) (n : Node) → i < length ns → n ≡ get_or ns i n → n.children ≡ children_of ns i
children_read ns i n h is = ap (λ m. m.children) (is ∙ get_or_default ns i n no_node h)

-- what a child says that may be missing
abbrev pub child_phrase : List Node → Option ℕ → Phrase
child_phrase ns None = token nowhere
child_phrase ns (Some c) = phrase_of ns c

phrase_child : (ns : List Node) (cs : List ℕ) (k : ℕ) → phrase (map (phrase_of ns) cs) k ≡ child_phrase ns (slice_get cs k)
phrase_child ns [] k = refl
phrase_child ns (c ∷ cs) zero = refl
phrase_child ns (c ∷ cs) (suc k) = phrase_child ns cs k

pub phrase_below : (ns : List Node) (i k : ℕ) (o : Option ℕ) → o ≡ slice_get (children_of ns i) k → phrase (phrases_below ns i) k ≡ child_phrase ns o
unfolding phrases_below
phrase_below ns i k o h = phrase_child ns (children_of ns i) k ∙ ap (child_phrase ns) (sym h)

-- the rule of a node that was read
pub says_by : (ns : List Node) (i : ℕ) (n : Node) → IsTable ns → i < length ns → n ≡ get_or ns i n → SaysBy n.rule (phrases_below ns i) (phrase_of ns i)
unfolding phrases_below
says_by ns i n table h is =
    go n.token n.rule (phrase_step ns i n table h is ∙ ap (λ cs. phrase_in n.token n.rule (map (phrase_of ns) cs)) (children_read ns i n h is))
    (λ x e. ap (λ m. m.rule) is ∙ (table.leaves i n x h (ap (λ m. m.token) (sym is) ∙ e)).0)
  where
    go : (t : Option Token) (r : Rule) → phrase_of ns i ≡ phrase_in t r (map (phrase_of ns) (children_of ns i)) → ((x : Token) → t ≡ Some x → r ≡ R.Leaf) → SaysBy r (map (phrase_of ns) (children_of ns i)) (phrase_of ns i)
    go (Some x) r e l = subst (λ q. SaysBy q (map (phrase_of ns) (children_of ns i)) (phrase_of ns i)) (sym (l x refl)) (x, e)
    go None R.Leaf e l = (nowhere, e)
    go None r e l = e

no_token : (r : Rule) (ps : List Phrase) → as_token (made r ps) ≡ nowhere
no_token R.Leaf ps = refl
no_token r ps = refl

-- a node whose token was looked at
pub token_told : (ns : List Node) (c : ℕ) (n : Node) (o : Option (Bor Token)) (p : Phrase) → IsTable ns → c < length ns → n ≡ get_or ns c n
    → option_copied o ≡ (get_or ns c n).token → p ≡ phrase_of ns c → MatchOption o (as_token p ≡ nowhere) (λ t. as_token p ≡ t.now)
token_told ns c n None p table h is e s =
    ap as_token (s ∙ phrase_step ns c n table h is ∙ ap (λ t. phrase_in t n.rule (map (phrase_of ns) n.children)) (ap (λ m. m.token) is ∙ sym e)) ∙ no_token n.rule (map (phrase_of ns) n.children)
token_told ns c n (Some t) p table h is e s =
    ap as_token (s ∙ phrase_step ns c n table h is ∙ ap (λ o. phrase_in o n.rule (map (phrase_of ns) n.children)) (ap (λ m. m.token) is ∙ sym e))

-- how far a walk of expressions can go: twice the nodes from an operand on
abbrev pub left_at : List Node → Operand → ℕ
left_at ns (Constant n) = 0
left_at ns (At i) = 2 * (length ns - i) + 1

pub child_said : (ns : List Node) (i k : ℕ) (o : Option ℕ) → o ≡ slice_get (children_of ns i) k
    → MatchOption o (phrase (phrases_below ns i) k ≡ token nowhere) (λ c. phrase (phrases_below ns i) k ≡ phrase_of ns c)
child_said ns i k None h = phrase_below ns i k None h
child_said ns i k (Some c) h = phrase_below ns i k (Some c) h

-- what is no call, no value and no place
pub called_other : (r : Rule) (ps : List Phrase) (p : Phrase) → (r ≡ R.Call → ⊥) → SaysBy r ps p → called p ≡ plain (as_formula p)
called_other R.Call ps p h e = absurd (h refl)
called_other R.Leaf ps p h e = ap called e.1 ∙ sym (ap (λ q. plain (as_formula q)) e.1)
called_other r ps p h e = ap called e ∙ sym (ap (λ q. plain (as_formula q)) e)

pub value_other : (r : Rule) (ps : List Phrase) (p : Phrase) → (r ≡ R.Call → ⊥) → (r ≡ R.Value → ⊥) → SaysBy r ps p → as_value p ≡ plain (as_formula p)
value_other R.Call ps p h i e = absurd (h refl)
value_other R.Value ps p h i e = absurd (i refl)
value_other R.Leaf ps p h i e = ap as_value e.1 ∙ sym (ap (λ q. plain (as_formula q)) e.1)
value_other r ps p h i e = ap as_value e ∙ sym (ap (λ q. plain (as_formula q)) e)

pub goal_other : (r : Rule) (ps : List Phrase) (p : Phrase) → (r ≡ R.Place → ⊥) → SaysBy r ps p → as_goal p ≡ scalar (name_of nowhere)
goal_other R.Place ps p h e = absurd (h refl)
goal_other R.Leaf ps p h e = ap as_goal e.1
goal_other r ps p h e = ap as_goal e

-- as many phrases as children
pub count_below : (ns : List Node) (i : ℕ) → length (phrases_below ns i) ≡ length (children_of ns i)
unfolding phrases_below
count_below ns i = length-map (children_of ns i) (phrase_of ns)
