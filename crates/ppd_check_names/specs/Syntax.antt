-- What a source says, without its brackets and semicolons. Each name and number keeps its place.
use Rattle.std.specs.Prelude.{ℕ, ℤ, List, Option, Bool}
use Rattle.ppd_ast.specs.declared.program.Place.{Place}
use Rattle.ppd_ast.specs.declared.program.Op.{Op}
use Rattle.ppd_check_names.specs.declared.nodes.Number.{Number}

pub record Name : Type 0 where
  pub text : List ℕ
  pub place : Place

-- an expression
pub data Formula : Type 0 where
  number : ℤ → Formula
  variable : Name → Formula
  element : Name → Formula → Formula
  negated : Formula → Formula
  inverted : Formula → Formula
  two : Op → Formula → Formula → Formula
  both : Formula → Formula → Formula
  either : Formula → Formula → Formula

-- where a value is stored
pub data Goal : Type 0 where
  scalar : Name → Goal
  item : Name → Formula → Goal

-- what is stored there: the value of an expression or of a call, or what a channel gives
pub data Value : Type 0 where
  plain : Formula → Value
  result : Name → List Formula → Value
  received : Name → Value

-- A statement without statements inside it. `p++` is a change of p by 1, and `int x;` is `int x = 0;`.
pub data Simple : Type 0 where
  fresh : Name → Value → Simple
  array : Name → Number → Simple
  store : Goal → Value → Simple
  change : Goal → Op → Formula → Simple
  call : Name → List Formula → Simple
  give_back : Place → Option Value → Simple
  take : Place → Name → Simple
  give : Place → Name → Simple
  send : Place → Name → Formula → Simple
  print : Place → Formula → Simple
  assert : Place → Formula → Simple

-- Statements in a row: a statement, then the rest. What stands inside an `if`, a `while` or a `for` is a row of one,
-- of none where an `else` is missing. An empty statement is a block of none.
pub data Row : Type 0 where
  stop : Row
  simple : Simple → Row → Row
  block : Row → Row → Row
  choice : Place → Formula → Row → Row → Row → Row
  repeat : Place → Formula → Row → Row → Row
  -- `for`: what comes first, the test, what comes after each turn, and the turn
  count : Place → Option Simple → Formula → Option Simple → Row → Row → Row

-- the statements of a body, and the place of its closing brace
pub record Block : Type 0 where
  pub row : Row
  pub close : Place

-- What is declared for the whole source: a shared variable with its start value, or with its length, a semaphore with
-- its start value, a channel with its capacity, a function with its parameters, and whether it gives a value, and a
-- process.
pub data Item : Type 0 where
  shared : Name → ℤ → Item
  shared_array : Name → Number → Item
  semaphore : Name → Number → Item
  channel : Name → Number → Item
  function : (gives : Bool) → Name → List Name → Block → Item
  process : Name → Block → Item

-- a whole source, and the place of its end
pub record Source : Type 0 where
  pub items : List Item
  pub end : Place
