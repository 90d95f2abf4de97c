-- A body's core statements as a tree, before they are numbered.
use Rattle.std.specs.Prelude.{ℕ, suc, ◌+◌, List, [], ◌∷◌, Option}
use Rattle.ppd_ast.specs.declared.program.Place.{Place}
use Rattle.ppd_ast.specs.Term.{Term}

-- what a statement writes to
pub data Spot : Type 0 where
  local : ℕ → Spot
  local_at : (base len : ℕ) → Term → Spot
  shared : ℕ → Spot
  shared_at : (base len : ℕ) → Term → Spot

-- a statement without statements inside it
pub data Act : Type 0 where
  set : Spot → Term → Act
  clear : (base len : ℕ) → Act
  call : ℕ → List Term → Option ℕ → Act
  give_back : Option Term → Act
  take : ℕ → Act
  give : ℕ → Act
  send : ℕ → Term → Act
  receive : ℕ → ℕ → Act
  print : Term → Act
  assert : Term → Act
  finish : Act

-- statements in a row: each is followed by the rest
pub data Code : Type 0 where
  done : Code
  act : Place → Act → Code → Code
  choice : Place → Term → Code → Code → Code → Code
  loop : Place → Term → Code → Code → Code

-- one row, then another
abbrev pub join : Code → Code → Code
join done d = d
join (act p a c) d = act p a (join c d)
join (choice p e a b c) d = choice p e a b (join c d)
join (loop p e inside c) d = loop p e inside (join c d)

-- statements at one place
abbrev pub acts : Place → List Act → Code
acts p [] = done
acts p (a ∷ rest) = act p a (acts p rest)

-- how many statements these are, with those inside them
abbrev pub count : Code → ℕ
count done = 0
count (act p a c) = suc (count c)
count (choice p e a b c) = suc (count a + (count b + count c))
count (loop p e inside c) = suc (count inside + count c)
