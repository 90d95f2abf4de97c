-- How large a source is: its names, its expressions, and how deep its statements stand in one another. The limits of
-- tokens and of the grammar keep these sizes.
use Rattle.std.specs.Prelude.{ℕ, suc, ◌+◌, ◌*◌, ◌≤◌, max, List, Option, Some, None, ⊤}
use Rattle.std.specs.List.{AllByRecursion}
use Rattle.ppd_ast.specs.declared.limits.TheConstants.{MOST_NESTING, MOST_SOURCE_OPERATORS}
use Rattle.ppd_ast.specs.Valid.{IsName}
use Rattle.ppd_check_names.specs.Syntax.{Name, Formula, number, variable, element, negated, inverted, two, both, either, Goal, scalar, item, Value, plain, result, received, Simple, Row, Item, shared, shared_array, semaphore, channel, function, process, Source}
use Rattle.ppd_check_names.specs.Syntax as S

-- Expressions.

-- the operators of an expression, those in an index too
abbrev pub operators_in : Formula → ℕ
operators_in (number n) = 0
operators_in (variable x) = 0
operators_in (element x i) = operators_in i
operators_in (negated e) = 1 + operators_in e
operators_in (inverted e) = 1 + operators_in e
operators_in (two op a b) = 1 + operators_in a + operators_in b
operators_in (both a b) = 1 + operators_in a + operators_in b
operators_in (either a b) = 1 + operators_in a + operators_in b

-- how deep its parts stand in one another, itself at 1
abbrev pub depth_in : Formula → ℕ
depth_in (number n) = 1
depth_in (variable x) = 1
depth_in (element x i) = 1 + depth_in i
depth_in (negated e) = 1 + depth_in e
depth_in (inverted e) = 1 + depth_in e
depth_in (two op a b) = 1 + max (depth_in a) (depth_in b)
depth_in (both a b) = 1 + max (depth_in a) (depth_in b)
depth_in (either a b) = 1 + max (depth_in a) (depth_in b)

-- an expression with few operators, not too deep
abbrev pub IsSmall : Formula → Type 0
IsSmall f = (operators_in f ≤ MOST_SOURCE_OPERATORS) × (depth_in f ≤ 2 * MOST_SOURCE_OPERATORS)

abbrev pub AreSmall : List Formula → Type 0
AreSmall fs = AllByRecursion IsSmall fs

-- Statements: each of their expressions is small, and each name that they declare is short.

abbrev pub IsShort : Name → Type 0
IsShort x = IsName x.text

abbrev pub GoalFits : Goal → Type 0
GoalFits (scalar x) = ⊤
GoalFits (item x i) = IsSmall i

abbrev pub ValueFits : Value → Type 0
ValueFits (plain e) = IsSmall e
ValueFits (result f args) = AreSmall args
ValueFits (received x) = ⊤

abbrev pub ValueFitsIfAny : Option Value → Type 0
ValueFitsIfAny None = ⊤
ValueFitsIfAny (Some v) = ValueFits v

abbrev pub SimpleFits : Simple → Type 0
SimpleFits (S.fresh x v) = IsShort x × ValueFits v
SimpleFits (S.array x n) = IsShort x
SimpleFits (S.store g v) = GoalFits g × ValueFits v
SimpleFits (S.change g op e) = GoalFits g × IsSmall e
SimpleFits (S.call f args) = AreSmall args
SimpleFits (S.give_back p v) = ValueFitsIfAny v
SimpleFits (S.take p x) = ⊤
SimpleFits (S.give p x) = ⊤
SimpleFits (S.send p x e) = IsSmall e
SimpleFits (S.print p e) = IsSmall e
SimpleFits (S.assert p e) = IsSmall e

abbrev pub SimpleFitsIfAny : Option Simple → Type 0
SimpleFitsIfAny None = ⊤
SimpleFitsIfAny (Some s) = SimpleFits s

abbrev pub RowFits : Row → Type 0
RowFits S.stop = ⊤
RowFits (S.simple s r) = SimpleFits s × RowFits r
RowFits (S.block b r) = RowFits b × RowFits r
RowFits (S.choice p e a b r) = IsSmall e × RowFits a × RowFits b × RowFits r
RowFits (S.repeat p e b r) = IsSmall e × RowFits b × RowFits r
RowFits (S.count p start e step b r) = SimpleFitsIfAny start × IsSmall e × SimpleFitsIfAny step × RowFits b × RowFits r

-- how deep statements stand in one another, those of the row itself at 1; a block is none
abbrev pub nested : Row → ℕ
nested S.stop = 0
nested (S.simple s r) = max 1 (nested r)
nested (S.block b r) = max (nested b) (nested r)
nested (S.choice p e a b r) = max (suc (max (nested a) (nested b))) (nested r)
nested (S.repeat p e b r) = max (suc (nested b)) (nested r)
nested (S.count p start e step b r) = max (suc (max 1 (nested b))) (nested r)

-- Items.

-- an item's names are short, its expressions small, and its statements do not stand too deep
abbrev pub ItemFits : Item → Type 0
ItemFits (shared x v) = IsShort x
ItemFits (shared_array x n) = IsShort x
ItemFits (semaphore x n) = IsShort x
ItemFits (channel x n) = IsShort x
ItemFits (function gives x params b) =
    IsShort x × AllByRecursion IsShort params × RowFits b.row × (nested b.row ≤ MOST_NESTING)
ItemFits (process x b) = IsShort x × RowFits b.row × (nested b.row ≤ MOST_NESTING)

-- so of each item: what the limits of tokens and of the grammar give
abbrev pub SourceFits : Source → Type 0
SourceFits s = AllByRecursion ItemFits s.items
