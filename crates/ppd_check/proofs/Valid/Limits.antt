-- A source within the limits of the grammar and of tokens is not too large for its program.
use Rattle.std.proofs.Common.{◌≡◌, sym, ◌∙◌, subst, ℕ, ◌+◌, ◌-◌, ◌≤◌, arith, List, [], ◌∷◌, length, Option, Some, None}
use Rattle.ppd_ast.specs.declared.program.Place.{Place}
use Rattle.std.specs.List.{AllByRecursion}
use Rattle.std.proofs.lemmas.List.Elements.{recursion_from_All}
use Rattle.ppd_ast.specs.declared.limits.TheConstants.{MOST_NAME_BYTES, MOST_OPEN}
use Rattle.ppd_parse.specs.declared.token.Token.{Token}
use Rattle.ppd_parse.specs.declared.token.TokenKind.{TokenKind}
use Rattle.ppd_parse.specs.declared.token.TokenKind.TheVariants as W
use Rattle.ppd_parse.specs.Formed.{AreFormed, IsFormed, IsKind}
use Rattle.ppd_parse.specs.Grammar.{Shape, leaf, node, Shapes, no_shapes, shape_then}
use Rattle.ppd_parse.specs.Leaves.{leaves, leaves_in, leaves_of}
use Rattle.ppd_parse.specs.Limits.{IsTree}
use Rattle.ppd_parse.proofs.TreeLeaves.{program_leaves}
use Rattle.ppd_check_names.specs.Reading.{name_of, source_of, said, as_items}
use Rattle.ppd_check.proofs.Valid.Lists.{all_parts}
use Rattle.ppd_check.proofs.Limits.Trees.{levels, FitsAll, statement_in}
use Rattle.ppd_check.proofs.Limits.Signs.{fits_program}
use Rattle.ppd_check.proofs.Limits.Depths.{place_in, statements_program, places_program}
use Rattle.ppd_check.proofs.Limits.Said.{AreShort, AreShortIn, small_source}
use Rattle.ppd_check_names.specs.Syntax.{Formula, number, variable, element, negated, inverted, two, both, either, Goal, scalar, item, Value, plain, result, received, Simple, Row, Item, shared, shared_array, semaphore, channel, function, process}
use Rattle.ppd_check_names.specs.Syntax as S
use Rattle.ppd_check.proofs.Vocabulary.Sizes as Z
use Rattle.ppd_check.proofs.Limits.Small as L

-- each part on the way down is an operator, an element or the last one
depth_few : (f : Formula) → Z.depth_in f ≤ 1 + Z.operators_in f + L.indexes f
depth_few (number n) = omega arith
depth_few (variable x) = omega arith
depth_few (element x i) = omega (arith, depth_few i)
depth_few (negated e) = omega (arith, depth_few e)
depth_few (inverted e) = omega (arith, depth_few e)
depth_few (two op a b) = omega (arith, depth_few a, depth_few b)
depth_few (both a b) = omega (arith, depth_few a, depth_few b)
depth_few (either a b) = omega (arith, depth_few a, depth_few b)

small : (f : Formula) → L.IsSmall f → Z.IsSmall f
small f h = (omega (arith, h.few), omega (arith, depth_few f, h.few, h.shallow))

all_small : (fs : List Formula) → AllByRecursion L.IsSmall fs → Z.AreSmall fs
all_small [] h = tt
all_small (f ∷ fs) h = (small f h.0, all_small fs h.1)

goal_fits : (g : Goal) → L.IsSmallGoal g → Z.GoalFits g
goal_fits (scalar x) h = tt
goal_fits (item x i) h =
    let s : Z.IsSmall (element x i) = small (element x i) h in
    (omega (arith, s.0), omega (arith, s.1))

value_fits : (v : Value) → L.IsSmallValue v → Z.ValueFits v
value_fits (plain e) h = small e h
value_fits (result f args) h = all_small args h
value_fits (received x) h = tt

any_value_fits : (v : Option Value) → L.IsSmallIfAny v → Z.ValueFitsIfAny v
any_value_fits None h = tt
any_value_fits (Some v) h = value_fits v h

simple_fits : (s : Simple) → L.IsSmallSimple s → Z.SimpleFits s
simple_fits (S.fresh x v) h = (h.0, value_fits v h.1)
simple_fits (S.array x n) h = h
simple_fits (S.store g v) h = (goal_fits g h.0, value_fits v h.1)
simple_fits (S.change g op e) h = (goal_fits g h.0, small e h.1)
simple_fits (S.call f args) h = all_small args h
simple_fits (S.give_back p v) h = any_value_fits v h
simple_fits (S.take p x) h = tt
simple_fits (S.give p x) h = tt
simple_fits (S.send p x e) h = small e h
simple_fits (S.print p e) h = small e h
simple_fits (S.assert p e) h = small e h

any_fits : (s : Option Simple) → L.IsSmallChange s → Z.SimpleFitsIfAny s
any_fits None h = tt
any_fits (Some s) h = simple_fits s h

row_fits : (n : ℕ) (r : Row) → L.IsSmallRow n r → Z.RowFits r
row_fits n S.stop h = tt
row_fits n (S.simple s r) h = (simple_fits s h.1, row_fits n r h.2)
row_fits n (S.block b r) h = (row_fits n b h.0, row_fits n r h.1)
row_fits n (S.choice p e a b r) h = (small e h.1, row_fits (n - 1) a h.2, row_fits (n - 1) b h.3, row_fits n r h.4)
row_fits n (S.repeat p e b r) h = (small e h.1, row_fits (n - 1) b h.2, row_fits n r h.3)
row_fits n (S.count p start e step b r) h = (any_fits start h.1, small e h.2, any_fits step h.3, row_fits (n - 1) b h.4, row_fits n r h.5)

row_nested : (n : ℕ) (r : Row) → L.IsSmallRow n r → Z.nested r ≤ n
row_nested n S.stop h = omega arith
row_nested n (S.simple s r) h = omega (arith, h.0, row_nested n r h.2)
row_nested n (S.block b r) h = omega (arith, row_nested n b h.0, row_nested n r h.1)
row_nested n (S.choice p e a b r) h = omega (arith, h.0, row_nested (n - 1) a h.2, row_nested (n - 1) b h.3, row_nested n r h.4)
row_nested n (S.repeat p e b r) h = omega (arith, h.0, row_nested (n - 1) b h.2, row_nested n r h.3)
row_nested n (S.count p start e step b r) h = omega (arith, h.0, row_nested (n - 1) b h.4, row_nested n r h.5)

item_fits : (i : Item) → L.IsSmallItem i → Z.ItemFits i
item_fits (shared x v) h = h
item_fits (shared_array x n) h = h
item_fits (semaphore x n) h = h
item_fits (channel x n) h = h
item_fits (function gives x params b) h = (h.0, h.1, row_fits MOST_OPEN b.row h.2, row_nested MOST_OPEN b.row h.2)
item_fits (process x b) h = (h.0, row_fits MOST_OPEN b.row h.1, row_nested MOST_OPEN b.row h.1)

pub items_fit : (is : List Item) → AllByRecursion L.IsSmallItem is → AllByRecursion Z.ItemFits is
items_fit [] h = tt
items_fit (i ∷ is) h = (item_fits i h.0, items_fit is h.1)

-- Tokens.

each_of : {X : Type 0} (P Q : X → Type 0) → ((x : X) → P x → Q x) → (xs : List X) → AllByRecursion P xs → AllByRecursion Q xs
each_of P Q f [] h = tt
each_of P Q f (x ∷ xs) h = (f x h.0, each_of P Q f xs h.1)

abbrev TokenIsShort : Token → Type 0
TokenIsShort x = length (name_of x).text ≤ MOST_NAME_BYTES

kind_short : (k : TokenKind) (from to : ℕ) (p : Place) → IsKind k → TokenIsShort (record { kind = k; from = from; to = to; place = p })
kind_short (W.Name text) from to p h = h.1
kind_short (W.Number n) from to p h = omega arith
kind_short (W.Word n) from to p h = omega arith
kind_short (W.Mark n) from to p h = omega arith
kind_short W.End from to p h = omega arith

mutual
  short_tree : (t : Shape) → AllByRecursion TokenIsShort (leaves t) → AreShort t
  short_tree (leaf x) h = h.0
  short_tree (node r ts) h = short_trees ts h

  short_trees : (ts : Shapes) → AllByRecursion TokenIsShort (leaves_in ts) → AreShortIn ts
  short_trees no_shapes h = tt
  short_trees (shape_then t ts) h =
      let parts = all_parts TokenIsShort (leaves t) (leaves_in ts) h in
      (short_tree t parts.0, short_trees ts parts.1)

-- the tree of formed tokens says a source that is not too large for its program
pub tree_fits : (size : ℕ) (ts : List Token) (t : Shape) → AreFormed size ts → IsTree ts (t ∷ []) → Z.SourceFits (source_of t)
tree_fits size ts t formed tree =
    let all : AllByRecursion TokenIsShort ts = each_of (IsFormed size) TokenIsShort (λ x h. kind_short x.kind x.from x.to x.place h.kind) ts (recursion_from_All (IsFormed size) ts formed.each) in
    let same : leaves_of (t ∷ []) ≡ ts = program_leaves tree.program ∙ tree.tokens in
    let short : AreShort t = short_tree t (all_parts TokenIsShort (leaves t) [] (subst (λ (xs : List Token). AllByRecursion TokenIsShort xs) (sym same) all)).0 in
    let fits : FitsAll (t ∷ []) = fits_program tree.program tree.limits in
    let statements : levels statement_in t ≤ MOST_OPEN = omega (arith, statements_program tree.program tree.limits) in
    let places : levels place_in t ≤ MOST_OPEN = omega (arith, places_program tree.program tree.limits) in
    items_fit (as_items (said t)) (small_source t short fits.0 places statements)
