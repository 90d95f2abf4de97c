-- Small expressions and short names, and statements, rows and items of them.
use Rattle.std.proofs.Common.{ℕ, ◌+◌, ◌-◌, ◌≤◌, max, length, Option, Some, None}
use Rattle.std.specs.Prelude.{⊤}
use Rattle.std.specs.List.{AllByRecursion}
use Rattle.ppd_ast.specs.declared.limits.TheConstants.{MOST_NAME_BYTES, MOST_OPEN, MOST_SOURCE_OPERATORS}
use Rattle.ppd_check_names.specs.Syntax.{Name, Formula, number, variable, element, negated, inverted, two, both, either, Goal, Value, plain, result, received, Simple, fresh, array, store, change, call, give_back, take, give, send, print, assert, Row, stop, simple, block, choice, repeat, count, Item, shared, shared_array, semaphore, channel, function, process}
use Rattle.ppd_check_names.specs.Reading.{goal_formula, params}
use Rattle.ppd_check.proofs.Vocabulary.Sizes.{operators_in}

-- Measures of expressions.

-- how deep elements stand in the indexes of elements
abbrev pub indexes : Formula → ℕ
indexes (number n) = 0
indexes (variable x) = 0
indexes (element x i) = 1 + indexes i
indexes (negated e) = indexes e
indexes (inverted e) = indexes e
indexes (two op a b) = max (indexes a) (indexes b)
indexes (both a b) = max (indexes a) (indexes b)
indexes (either a b) = max (indexes a) (indexes b)

pub record IsSmall (f : Formula) : Type 0 where
  pub few : operators_in f ≤ MOST_SOURCE_OPERATORS
  pub shallow : indexes f ≤ MOST_OPEN

abbrev pub IsShort : Name → Type 0
IsShort x = length x.text ≤ MOST_NAME_BYTES

-- Values and statements of small expressions and short names.

abbrev pub IsSmallGoal : Goal → Type 0
IsSmallGoal g = IsSmall (goal_formula g)

abbrev pub IsSmallValue : Value → Type 0
IsSmallValue (plain e) = IsSmall e
IsSmallValue (result f args) = AllByRecursion IsSmall args
IsSmallValue (received x) = ⊤

abbrev pub IsSmallIfAny : Option Value → Type 0
IsSmallIfAny None = ⊤
IsSmallIfAny (Some v) = IsSmallValue v

abbrev pub IsSmallSimple : Simple → Type 0
IsSmallSimple (fresh x v) = IsShort x × IsSmallValue v
IsSmallSimple (array x n) = IsShort x
IsSmallSimple (store g v) = IsSmallGoal g × IsSmallValue v
IsSmallSimple (change g op e) = IsSmallGoal g × IsSmall e
IsSmallSimple (call f args) = AllByRecursion IsSmall args
IsSmallSimple (give_back p v) = IsSmallIfAny v
IsSmallSimple (take p x) = ⊤
IsSmallSimple (give p x) = ⊤
IsSmallSimple (send p x e) = IsSmall e
IsSmallSimple (print p e) = IsSmall e
IsSmallSimple (assert p e) = IsSmall e

abbrev pub IsSmallChange : Option Simple → Type 0
IsSmallChange None = ⊤
IsSmallChange (Some s) = IsSmallSimple s

-- rows whose statements stand at most n deep in one another
abbrev pub IsSmallRow : ℕ → Row → Type 0
IsSmallRow n stop = ⊤
IsSmallRow n (simple s r) = (1 ≤ n) × IsSmallSimple s × IsSmallRow n r
IsSmallRow n (block b r) = IsSmallRow n b × IsSmallRow n r
IsSmallRow n (choice p e a b r) = (1 ≤ n) × IsSmall e × IsSmallRow (n - 1) a × IsSmallRow (n - 1) b × IsSmallRow n r
IsSmallRow n (repeat p e b r) = (1 ≤ n) × IsSmall e × IsSmallRow (n - 1) b × IsSmallRow n r
IsSmallRow n (count p start e step b r) = (2 ≤ n) × IsSmallChange start × IsSmall e × IsSmallChange step × IsSmallRow (n - 1) b × IsSmallRow n r

abbrev pub IsSmallItem : Item → Type 0
IsSmallItem (shared x v) = IsShort x
IsSmallItem (shared_array x n) = IsShort x
IsSmallItem (semaphore x n) = IsShort x
IsSmallItem (channel x n) = IsShort x
IsSmallItem (function gives x params b) = IsShort x × AllByRecursion IsShort params × IsSmallRow MOST_OPEN b.row
IsSmallItem (process x b) = IsShort x × IsSmallRow MOST_OPEN b.row
