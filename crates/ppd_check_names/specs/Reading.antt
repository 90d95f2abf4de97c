-- What a tree says: the phrase of each node, made from those of its children.
use Rattle.std.specs.Prelude.{ℕ, ℤ, pos, neg_ℤ, nat_abs, ◌-◌, Bool, true, false, ◌||◌, if◌then◌else◌, List, [], ◌∷◌, drop, length, slice_index_or, Option, Some, None}
use Rattle.std.specs.List.{flat_map}
use Rattle.ppd_ast.specs.declared.program.Place.{Place}
use Rattle.ppd_ast.specs.declared.program.Op.TheVariants as O
use Rattle.ppd_parse.specs.declared.token.Token.{Token}
use Rattle.ppd_parse.specs.declared.token.TokenKind.{TokenKind}
use Rattle.ppd_parse.specs.declared.token.TokenKind.TheVariants as T
use Rattle.ppd_parse.specs.declared.token.Kind.{Kind}
use Rattle.ppd_parse.specs.declared.token.Kind.TheVariants as K
use Rattle.ppd_parse.specs.contracts.token.KindPartialEq.TheImpl.{ghosts as kinds}
use Rattle.ppd_parse.specs.declared.symbol.Rule.{Rule}
use Rattle.ppd_parse.specs.declared.symbol.Rule.TheVariants as R
use Rattle.ppd_parse.specs.Grammar.{kind_of, Shape, leaf, node, Shapes, no_shapes, shape_then}
use Rattle.ppd_check_names.specs.declared.nodes.Number.{Number}
use Rattle.ppd_check_names.specs.Syntax.{Name, Formula, number, variable, element, negated, inverted, two, both, either, Goal, scalar, item, Value, plain, result, received, Simple, fresh, array, store, change, call, give_back, take, give, send, print, assert, Row, stop, simple, block, choice, repeat, count, Block, Item, shared, shared_array, semaphore, channel, function, process, Source}

-- what a node says: its token, or what its rule makes of its children
pub data Phrase : Type 0 where
  token : Token → Phrase
  formula : Formula → Phrase
  goal : Goal → Phrase
  value : Value → Phrase
  calling : Name → List Formula → Phrase
  changing : Simple → Phrase
  row : Row → Phrase
  body : Block → Phrase
  names : List Name → Phrase
  items : List Item → Phrase

-- Tokens.

-- what stands where nothing does
abbrev pub nowhere : Token
nowhere = record { kind = T.End; from = 0; to = 0; place = record { line = 0; column = 0 } }

abbrev pub value_of : TokenKind → ℤ
value_of (T.Number n) = n
value_of _ = pos 0

-- a name without text where the token is none
abbrev pub name_of : Token → Name
name_of t = record { text = go t.kind; place = t.place }
  where
    go : TokenKind → List ℕ
    go (T.Name x) = x
    go _ = []

-- whether two kinds of tokens are the same one, as `==` of the code says
abbrev pub same_kind : Kind → Kind → Bool
same_kind j k = kinds.eq j k

-- Phrases by their number among the children; one that is missing says nothing.

abbrev pub phrase : List Phrase → ℕ → Phrase
phrase ps k = slice_index_or ps k (token nowhere)

abbrev pub last : List Phrase → Phrase
last ps = phrase ps (length ps - 1)

abbrev pub as_token : Phrase → Token
as_token (token t) = t
as_token _ = nowhere

-- a place where a value is stored, as an expression
abbrev pub goal_formula : Goal → Formula
goal_formula (scalar x) = variable x
goal_formula (item x i) = element x i

abbrev pub as_formula : Phrase → Formula
as_formula (formula f) = f
as_formula (goal g) = goal_formula g
as_formula _ = number (pos 0)

abbrev pub as_goal : Phrase → Goal
as_goal (goal g) = g
as_goal _ = scalar (name_of nowhere)

-- a call or an expression
abbrev pub called : Phrase → Value
called (calling f args) = result f args
called p = plain (as_formula p)

abbrev pub as_value : Phrase → Value
as_value (value v) = v
as_value p = called p

abbrev pub as_row : Phrase → Row
as_row (row r) = r
as_row _ = stop

abbrev pub as_block : Phrase → Block
as_block (body b) = b
as_block _ = record { row = stop; close = nowhere.place }

abbrev pub as_names : Phrase → List Name
as_names (names xs) = xs
as_names _ = []

abbrev pub as_items : Phrase → List Item
as_items (items is) = is
as_items _ = []

abbrev pub kind : Phrase → Kind
kind p = kind_of (as_token p).kind

abbrev pub name_at : List Phrase → ℕ → Name
name_at ps k = name_of (as_token (phrase ps k))

abbrev pub number_at : List Phrase → ℕ → Number
number_at ps k =
    let t : Token = as_token (phrase ps k) in
    record { value = nat_abs (value_of t.kind); place = t.place }

abbrev pub formula_at : List Phrase → ℕ → Formula
formula_at ps k = as_formula (phrase ps k)

abbrev pub place_at : List Phrase → ℕ → Place
place_at ps k = (as_token (phrase ps k)).place

-- the phrases before the first semicolon, and those after it
abbrev pub before : List Phrase → List Phrase
before [] = []
before (p ∷ ps) = if same_kind K.Semicolon (kind p) then [] else p ∷ before ps

abbrev pub beyond : List Phrase → List Phrase
beyond [] = []
beyond (p ∷ ps) = if same_kind K.Semicolon (kind p) then ps else beyond ps

-- Expressions.

abbrev pub joined : Kind → Formula → Formula → Formula
joined K.OrMark a b = either a b
joined K.AndMark a b = both a b
joined K.EqualMark a b = two O.Eq a b
joined K.UnequalMark a b = two O.Ne a b
joined K.AtMostMark a b = two O.Le a b
joined K.AtLeastMark a b = two O.Ge a b
joined K.LessMark a b = two O.Lt a b
joined K.MoreMark a b = two O.Gt a b
joined K.PlusMark a b = two O.Add a b
joined K.MinusMark a b = two O.Sub a b
joined K.StarMark a b = two O.Mul a b
joined K.SlashMark a b = two O.Div a b
joined _ a b = two O.Rem a b

-- an expression in parentheses, a sign with its operand, a number, or a place
abbrev pub unary : List Phrase → Formula
unary ps = go (kind (phrase ps 0))
  where
    go : Kind → Formula
    go K.LeftParen = formula_at ps 1
    go K.MinusMark = negated (formula_at ps 1)
    go K.NotMark = inverted (formula_at ps 1)
    go K.Number = number (value_of (as_token (phrase ps 0)).kind)
    go _ = formula_at ps 0

abbrev pub is_formula : Phrase → Bool
is_formula (formula f) = true
is_formula _ = false

-- the expressions among the phrases
abbrev pub formulas : List Phrase → List Formula
formulas [] = []
formulas (p ∷ ps) = if is_formula p then as_formula p ∷ formulas ps else formulas ps

-- Statements.

abbrev pub local_item : List Phrase → Simple
local_item ps =
    if same_kind K.LeftBracket (kind (phrase ps 1)) then array (name_at ps 0) (number_at ps 2)
    else if same_kind K.AssignMark (kind (phrase ps 1)) then fresh (name_at ps 0) (as_value (phrase ps 2))
    else fresh (name_at ps 0) (plain (number (pos 0)))

abbrev pub changed : List Phrase → Simple
changed ps = go (kind (phrase ps 1))
  where
    go : Kind → Simple
    go K.AssignMark = store (as_goal (phrase ps 0)) (plain (formula_at ps 2))
    go K.AddMark = change (as_goal (phrase ps 0)) O.Add (formula_at ps 2)
    go K.SubtractMark = change (as_goal (phrase ps 0)) O.Sub (formula_at ps 2)
    go K.IncreaseMark = change (as_goal (phrase ps 0)) O.Add (number (pos 1))
    go _ = change (as_goal (phrase ps 0)) O.Sub (number (pos 1))

-- one row, then another
abbrev pub followed : Row → Row → Row
followed stop r = r
followed (simple s q) r = simple s (followed q r)
followed (block b q) r = block b (followed q r)
followed (choice p e x y q) r = choice p e x y (followed q r)
followed (repeat p e x q) r = repeat p e x (followed q r)
followed (count p s e t x q) r = count p s e t x (followed q r)

abbrev pub rows : List Phrase → Row
rows [] = stop
rows (p ∷ ps) = followed (as_row p) (rows ps)

-- the variables that a declaration declares
abbrev pub locals : List Phrase → Row
locals [] = stop
locals (changing s ∷ ps) = simple s (locals ps)
locals (p ∷ ps) = locals ps

-- The parts of a `for` after its parenthesis: what comes first, up to a semicolon; the test, up to another, 1 where
-- it is empty; and what comes after each turn.

abbrev pub some_change : Phrase → Option Simple
some_change (changing s) = Some s
some_change _ = None

abbrev pub for_start : List Phrase → Option Simple
for_start ps =
    if same_kind K.IntWord (kind (phrase ps 0)) then Some (fresh (name_at ps 1) (plain (formula_at ps 3)))
    else some_change (phrase ps 0)

abbrev pub for_row : List Phrase → Row
for_row ps =
    let inside : List Phrase = drop 2 ps in
    let later : List Phrase = beyond inside in
    count (place_at ps 0) (for_start (before inside)) (slice_index_or (formulas (before later)) 0 (number (pos 1)))
    (some_change (phrase (beyond later) 0)) (as_row (last ps)) stop

abbrev pub returned : Phrase → Option Value
returned p = if same_kind K.Semicolon (kind p) then None else Some (as_value p)

-- a statement that begins with a word, or the empty one
abbrev pub worded : List Phrase → Row
worded ps = go (kind (phrase ps 0))
  where
    one : Simple → Row
    one s = simple s stop

    go : Kind → Row
    go K.IfWord = choice (place_at ps 0) (formula_at ps 2) (as_row (phrase ps 4)) (as_row (phrase ps 6)) stop
    go K.WhileWord = repeat (place_at ps 0) (formula_at ps 2) (as_row (phrase ps 4)) stop
    go K.ForWord = for_row ps
    go K.ReturnWord = one (give_back (place_at ps 0) (returned (phrase ps 1)))
    go K.TakeWord = one (take (place_at ps 0) (name_at ps 2))
    go K.GiveWord = one (give (place_at ps 0) (name_at ps 2))
    go K.SendWord = one (send (place_at ps 0) (name_at ps 2) (formula_at ps 4))
    go K.PrintWord = one (print (place_at ps 0) (formula_at ps 2))
    go K.AssertWord = one (assert (place_at ps 0) (formula_at ps 2))
    go _ = block stop stop

abbrev pub statement : Phrase → List Phrase → Row
statement (body b) ps = block b.row stop
statement (changing s) ps = simple s stop
statement (goal g) ps = simple (store g (as_value (phrase ps 2))) stop
statement (calling f args) ps = simple (call f args) stop
statement (token t) ps = worded ps
statement _ ps = stop

-- Declarations.

-- a start value is at least the number's negative
abbrev pub shared_item : List Phrase → Item
shared_item ps =
    if same_kind K.LeftBracket (kind (phrase ps 1)) then shared_array (name_at ps 0) (number_at ps 2)
    else if same_kind K.MinusMark (kind (phrase ps 2)) then shared (name_at ps 0) (neg_ℤ (pos (number_at ps 3).value))
    else shared (name_at ps 0) (value_of (as_token (phrase ps 2)).kind)

-- the number after a name's `=` or bracket, and 0 where there is none
abbrev pub number_behind : Name → List Phrase → Number
number_behind x ps =
    if same_kind K.AssignMark (kind (phrase ps 0)) || same_kind K.LeftBracket (kind (phrase ps 0)) then number_at ps 1
    else record { value = 0; place = x.place }

-- names with the numbers that stand behind them
abbrev pub numbered : (Name → Number → Item) → List Phrase → List Item
numbered make [] = []
numbered make (p ∷ ps) =
    if same_kind K.Name (kind p)
    then make (name_of (as_token p)) (number_behind (name_of (as_token p)) ps) ∷ numbered make ps
    else numbered make ps

abbrev pub params : List Phrase → List Name
params [] = []
params (p ∷ ps) = if same_kind K.Name (kind p) then name_of (as_token p) ∷ params ps else params ps

-- what a rule makes of the phrases of its children
abbrev pub made : Rule → List Phrase → Phrase
made R.Leaf ps = token nowhere
made R.Source ps = items (flat_map as_items ps)
made R.Shared ps = items (flat_map as_items ps)
made R.Sitem ps = items (shared_item ps ∷ [])
made R.Sems ps = items (numbered semaphore ps)
made R.Chans ps = items (numbered channel ps)
made R.Function ps =
    items (function (same_kind K.IntWord (kind (phrase ps 0))) (name_at ps 1) (flat_map as_names ps)
    (as_block (last ps))
    ∷ [])
made R.Params ps = names (params ps)
made R.Process ps = items (process (name_at ps 1) (as_block (last ps)) ∷ [])
made R.Block ps = body (record { row = rows ps; close = (as_token (last ps)).place })
made R.Local ps = row (locals ps)
made R.Litem ps = changing (local_item ps)
made R.Value ps =
    value (if same_kind K.RecvWord (kind (phrase ps 0)) then received (name_at ps 2) else called (phrase ps 0))
made R.Call ps = calling (name_at ps 0) (formulas ps)
made R.Place ps =
    goal (if same_kind K.LeftBracket (kind (phrase ps 1)) then item (name_at ps 0) (formula_at ps 2)
    else scalar (name_at ps 0))
made R.Change ps = changing (changed ps)
made R.Stmt ps = row (statement (phrase ps 0) ps)
made R.Unary ps = formula (unary ps)
made R.Binary ps = formula (joined (kind (phrase ps 1)) (formula_at ps 0) (formula_at ps 2))

-- the phrase of a tree
abbrev mutual
  pub said : Shape → Phrase
  said (leaf t) = token t
  said (node r ts) = made r (all_said ts)

  pub all_said : Shapes → List Phrase
  all_said no_shapes = []
  all_said (shape_then t ts) = said t ∷ all_said ts

-- the source that a tree says; it ends at the last token below the root
abbrev pub source_of : Shape → Source
source_of t = record { items = as_items (said t); end = go t }
  where
    go : Shape → Place
    go (leaf t) = t.place
    go (node r ts) = (as_token (last (all_said ts))).place
