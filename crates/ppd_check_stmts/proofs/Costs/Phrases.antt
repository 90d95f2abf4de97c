-- How much a tree says, against the number of its nodes.
use Rattle.std.proofs.Common.{◌≡◌, refl, ap, ℕ, zero, suc, ◌+◌, ◌*◌, ◌≤◌, pos, arith, Bool, true, false, if◌then◌else◌, List, [], ◌∷◌, ◌++◌, length, drop, slice_index_or}
use Rattle.std.specs.List.{flat_map}
use Rattle.std.proofs.lemmas.List.{length-append}
use Rattle.std.proofs.lemmas.List.Concat.{flat_map-cons}
use Rattle.ppd_parse.specs.declared.token.Kind.{Kind}
use Rattle.ppd_parse.specs.declared.token.Kind.TheVariants as K
use Rattle.ppd_parse.specs.declared.symbol.Rule.{Rule}
use Rattle.ppd_parse.specs.declared.symbol.Rule.TheVariants as R
use Rattle.ppd_parse.specs.Grammar.{Shape, leaf, node, Shapes, no_shapes, shape_then}
use Rattle.ppd_parse.specs.Size.{weigh, weigh_in}
use Rattle.ppd_check_names.specs.declared.nodes.Number.{Number}
use Rattle.ppd_check_names.specs.Syntax.{Name, Formula, number, variable, element, negated, inverted, two, both, either, plain, Simple, fresh, array, Row, stop, simple, block, choice, repeat, count, Item, shared, shared_array, semaphore, channel, function, process}
use Rattle.ppd_check_names.specs.Reading.{Phrase, token, formula, goal, value, calling, changing, row, body, names, items, name_of, phrase, last, as_token, as_formula, as_goal, called, as_value, as_row, as_block, as_names, as_items, kind, same_kind, name_at, formula_at, before, beyond, joined, unary, formulas, local_item, changed, followed, rows, locals, some_change, for_start, for_row, returned, worded, statement, shared_item, number_behind, numbered, params, made, said, all_said, number_at}
use Rattle.ppd_check_stmts.proofs.Costs.Rows.{size, args_size, value_size, any_value_size, goal_size, simple_size, any_size, row_size}

-- Measures of what phrases say.

-- a name's entry; a body with its statements and what ends it
abbrev pub item_size : Item → ℕ
item_size (shared x v) = 1
item_size (shared_array x n) = 1
item_size (semaphore x n) = 1
item_size (channel x n) = 1
item_size (function gives x params b) = 3 + length params + row_size b.row
item_size (process x b) = 3 + row_size b.row

abbrev pub items_size : List Item → ℕ
items_size [] = 0
items_size (i ∷ is) = item_size i + items_size is

-- the rows of a phrase, and all else; an expression twice, since a changed place is read and written
abbrev rows_of : Phrase → ℕ
rows_of (row r) = row_size r
rows_of (body b) = row_size b.row
rows_of _ = 0

abbrev rest_of : Phrase → ℕ
rest_of (formula f) = 2 * size f
rest_of (goal g) = 2 * goal_size g
rest_of (value v) = value_size v
rest_of (calling f args) = args_size args
rest_of (changing s) = simple_size s
rest_of (names xs) = length xs
rest_of (items is) = items_size is
rest_of _ = 0

abbrev all_rows : List Phrase → ℕ
all_rows [] = 0
all_rows (p ∷ ps) = rows_of p + all_rows ps

abbrev all_rest : List Phrase → ℕ
all_rest [] = 0
all_rest (p ∷ ps) = rest_of p + all_rest ps

-- One phrase among others, and two.

rows_at : (ps : List Phrase) (k : ℕ) → rows_of (phrase ps k) ≤ all_rows ps
rows_at [] k = omega arith
rows_at (p ∷ ps) zero = omega arith
rows_at (p ∷ ps) (suc k) = omega (arith, rows_at ps k)

rest_at : (ps : List Phrase) (k : ℕ) → rest_of (phrase ps k) ≤ all_rest ps
rest_at [] k = omega arith
rest_at (p ∷ ps) zero = omega arith
rest_at (p ∷ ps) (suc k) = omega (arith, rest_at ps k)

-- those with numbers 0 and 2
rest_at_both : (ps : List Phrase) → rest_of (phrase ps 0) + rest_of (phrase ps 2) ≤ all_rest ps
rest_at_both [] = omega arith
rest_at_both (p ∷ ps) = omega (arith, rest_at ps 1)

-- those with numbers 4 and 6
rows_at_both : (ps : List Phrase) → rows_of (phrase ps 4) + rows_of (phrase ps 6) ≤ all_rows ps
rows_at_both [] = omega arith
rows_at_both (a ∷ []) = omega arith
rows_at_both (a ∷ b ∷ []) = omega arith
rows_at_both (a ∷ b ∷ c ∷ []) = omega arith
rows_at_both (a ∷ b ∷ c ∷ d ∷ []) = omega arith
rows_at_both (a ∷ b ∷ c ∷ d ∷ p ∷ ps) = omega (arith, rows_at ps 1)

-- Expressions.

some_size : (f : Formula) → 1 ≤ size f
some_size (number n) = omega arith
some_size (variable x) = omega arith
some_size (element x i) = omega arith
some_size (negated e) = omega arith
some_size (inverted e) = omega arith
some_size (two op a b) = omega arith
some_size (both a b) = omega arith
some_size (either a b) = omega arith

-- what is missing counts as one
formula_size : (p : Phrase) → 2 * size (as_formula p) ≤ 2 + rest_of p
formula_size (formula f) = omega arith
formula_size (goal g) = omega arith
formula_size (token t) = omega arith
formula_size (value v) = omega arith
formula_size (calling f args) = omega arith
formula_size (changing s) = omega arith
formula_size (row r) = omega arith
formula_size (body b) = omega arith
formula_size (names xs) = omega arith
formula_size (items is) = omega arith

goal_size_of : (p : Phrase) → 2 * goal_size (as_goal p) ≤ 2 + rest_of p
goal_size_of (goal g) = omega arith
goal_size_of p = omega arith

called_size : (p : Phrase) → value_size (called p) ≤ 1 + rest_of p
called_size (calling f args) = omega arith
called_size (formula f) = omega arith
called_size (goal g) = omega arith
called_size (value v) = omega arith
called_size (token t) = omega arith
called_size (changing s) = omega arith
called_size (row r) = omega arith
called_size (body b) = omega arith
called_size (names xs) = omega arith
called_size (items is) = omega arith

value_size_of : (p : Phrase) → value_size (as_value p) ≤ 1 + rest_of p
value_size_of (value v) = omega arith
value_size_of (calling f args) = omega arith
value_size_of (formula f) = omega arith
value_size_of (goal g) = omega arith
value_size_of (token t) = omega arith
value_size_of (changing s) = omega arith
value_size_of (row r) = omega arith
value_size_of (body b) = omega arith
value_size_of (names xs) = omega arith
value_size_of (items is) = omega arith

change_size : (p : Phrase) → any_size (some_change p) ≤ rest_of p
change_size (changing s) = omega arith
change_size p = omega arith

row_size_of : (p : Phrase) → row_size (as_row p) ≤ rows_of p
row_size_of (row r) = omega arith
row_size_of p = omega arith

block_size : (p : Phrase) → row_size (as_block p).row ≤ rows_of p
block_size (body b) = omega arith
block_size p = omega arith

formula_at_size : (ps : List Phrase) (k : ℕ) → 2 * size (formula_at ps k) ≤ 2 + rest_of (phrase ps k)
formula_at_size ps k = formula_size (phrase ps k)

unary_size : (ps : List Phrase) (k : Kind) → kind (phrase ps 0) ≡ k → 2 * size (unary ps) ≤ 4 + all_rest ps
unary_size ps K.LeftParen e = rw (e) (omega (arith, formula_at_size ps 1, rest_at ps 1))
unary_size ps K.MinusMark e = rw (e) (omega (arith, formula_at_size ps 1, rest_at ps 1))
unary_size ps K.NotMark e = rw (e) (omega (arith, formula_at_size ps 1, rest_at ps 1))
unary_size ps K.Number e = rw (e) (omega arith)
unary_size ps k e = rw (e) (omega (arith, formula_at_size ps 0, rest_at ps 0))

joined_size : (k : Kind) (a b : Formula) → size (joined k a b) ≡ 1 + size a + size b
joined_size K.OrMark a b = refl
joined_size K.AndMark a b = refl
joined_size K.EqualMark a b = refl
joined_size K.UnequalMark a b = refl
joined_size K.AtMostMark a b = refl
joined_size K.AtLeastMark a b = refl
joined_size K.LessMark a b = refl
joined_size K.MoreMark a b = refl
joined_size K.PlusMark a b = refl
joined_size K.MinusMark a b = refl
joined_size K.StarMark a b = refl
joined_size K.SlashMark a b = refl
joined_size k a b = refl

binary_size : (ps : List Phrase) → 2 * size (joined (kind (phrase ps 1)) (formula_at ps 0) (formula_at ps 2)) ≤ 6 + all_rest ps
binary_size ps = omega (arith, joined_size (kind (phrase ps 1)) (formula_at ps 0) (formula_at ps 2), formula_at_size ps 0, formula_at_size ps 2, rest_at_both ps)

place_size : (ps : List Phrase) (b : Bool) → same_kind K.LeftBracket (kind (phrase ps 1)) ≡ b → 2 * goal_size (as_goal (made R.Place ps)) ≤ 4 + all_rest ps
place_size ps true e = rw (e) (omega (arith, formula_at_size ps 2, rest_at ps 2))
place_size ps false e = rw (e) (omega arith)

formulas_size : (ps : List Phrase) → args_size (formulas ps) ≤ all_rest ps
formulas_size [] = omega arith
formulas_size (formula f ∷ ps) = omega (arith, some_size f, formulas_size ps)
formulas_size (token t ∷ ps) = omega (arith, formulas_size ps)
formulas_size (goal g ∷ ps) = omega (arith, formulas_size ps)
formulas_size (value v ∷ ps) = omega (arith, formulas_size ps)
formulas_size (calling f args ∷ ps) = omega (arith, formulas_size ps)
formulas_size (changing s ∷ ps) = omega (arith, formulas_size ps)
formulas_size (row r ∷ ps) = omega (arith, formulas_size ps)
formulas_size (body b ∷ ps) = omega (arith, formulas_size ps)
formulas_size (names xs ∷ ps) = omega (arith, formulas_size ps)
formulas_size (items is ∷ ps) = omega (arith, formulas_size ps)

-- Statements.

either_simple : (n : ℕ) (b : Bool) (s t : Simple) → simple_size s ≤ n → simple_size t ≤ n → simple_size (if b then s else t) ≤ n
either_simple n true s t h i = h
either_simple n false s t h i = i

local_size : (ps : List Phrase) → simple_size (local_item ps) ≤ 4 + all_rest ps
local_size ps =
    either_simple (4 + all_rest ps) (same_kind K.LeftBracket (kind (phrase ps 1))) (array (name_at ps 0) (number_at ps 2)) _ (omega arith)
    (either_simple (4 + all_rest ps) (same_kind K.AssignMark (kind (phrase ps 1))) (fresh (name_at ps 0) (as_value (phrase ps 2))) (fresh (name_at ps 0) (plain (number (pos 0))))
    (omega (arith, value_size_of (phrase ps 2), rest_at ps 2)) (omega arith))

said_value_size : (ps : List Phrase) (b : Bool) → same_kind K.RecvWord (kind (phrase ps 0)) ≡ b → value_size (as_value (made R.Value ps)) ≤ 1 + all_rest ps
said_value_size ps true e = rw (e) (omega arith)
said_value_size ps false e = rw (e) (omega (arith, called_size (phrase ps 0), rest_at ps 0))

changed_size : (ps : List Phrase) (k : Kind) → kind (phrase ps 1) ≡ k → simple_size (changed ps) ≤ 8 + all_rest ps
changed_size ps K.AssignMark e = rw (e) (omega (arith, goal_size_of (phrase ps 0), formula_at_size ps 2, rest_at_both ps))
changed_size ps K.AddMark e = rw (e) (omega (arith, goal_size_of (phrase ps 0), formula_at_size ps 2, rest_at_both ps))
changed_size ps K.SubtractMark e = rw (e) (omega (arith, goal_size_of (phrase ps 0), formula_at_size ps 2, rest_at_both ps))
changed_size ps K.IncreaseMark e = rw (e) (omega (arith, goal_size_of (phrase ps 0), rest_at ps 0))
changed_size ps k e = rw (e) (omega (arith, goal_size_of (phrase ps 0), rest_at ps 0))

followed_size : (q r : Row) → row_size (followed q r) ≡ row_size q + row_size r
followed_size stop r = omega arith
followed_size (simple s q) r = omega (arith, followed_size q r)
followed_size (block b q) r = omega (arith, followed_size q r)
followed_size (choice p e x y q) r = omega (arith, followed_size q r)
followed_size (repeat p e x q) r = omega (arith, followed_size q r)
followed_size (count p s e t x q) r = omega (arith, followed_size q r)

rows_size : (ps : List Phrase) → row_size (rows ps) ≤ all_rows ps
rows_size [] = omega arith
rows_size (p ∷ ps) = omega (arith, followed_size (as_row p) (rows ps), row_size_of p, rows_size ps)

locals_size : (ps : List Phrase) → row_size (locals ps) ≤ all_rest ps
locals_size [] = omega arith
locals_size (changing s ∷ ps) = omega (arith, locals_size ps)
locals_size (p ∷ ps) = omega (arith, locals_size ps)

-- The parts of a `for` stand one after another.

drop_rest : (k : ℕ) (ps : List Phrase) → all_rest (drop k ps) ≤ all_rest ps
drop_rest zero ps = omega arith
drop_rest (suc k) [] = omega arith
drop_rest (suc k) (p ∷ ps) = omega (arith, drop_rest k ps)

cut_rest : (ps : List Phrase) → all_rest (before ps) + all_rest (beyond ps) ≤ all_rest ps
cut_rest [] = omega arith
cut_rest (p ∷ ps) = cut (same_kind K.Semicolon (kind p)) (cut_rest ps)
  where
    cut : (b : Bool) → all_rest (before ps) + all_rest (beyond ps) ≤ all_rest ps → all_rest (if b then [] else p ∷ before ps) + all_rest (if b then ps else beyond ps) ≤ rest_of p + all_rest ps
    cut true h = omega arith
    cut false h = omega (arith, h)

start_size : (ps : List Phrase) (b : Bool) → same_kind K.IntWord (kind (phrase ps 0)) ≡ b → any_size (for_start ps) ≤ 4 + all_rest ps
start_size ps true e = rw (e) (omega (arith, formula_at_size ps 3, rest_at ps 3))
start_size ps false e = rw (e) (omega (arith, change_size (phrase ps 0), rest_at ps 0))

test_size : (fs : List Formula) → size (slice_index_or fs 0 (number (pos 1))) ≤ 1 + args_size fs
test_size [] = omega arith
test_size (f ∷ fs) = omega arith

for_size : (ps : List Phrase) → row_size (for_row ps) ≤ 7 + all_rows ps + all_rest ps
for_size ps =
    let inside : List Phrase = drop 2 ps in
    let later : List Phrase = beyond inside in
    let step : List Phrase = beyond later in
    omega (
      arith,
      drop_rest 2 ps,
      cut_rest inside,
      cut_rest later,
      start_size (before inside) (same_kind K.IntWord (kind (phrase (before inside) 0))) refl,
      test_size (formulas (before later)),
      formulas_size (before later),
      change_size (phrase step 0),
      rest_at step 0,
      row_size_of (last ps),
      last_rows ps,
    )
  where
    last_rows : (ps : List Phrase) → rows_of (last ps) ≤ all_rows ps
    last_rows ps = rows_at ps _

returned_size : (p : Phrase) (b : Bool) → same_kind K.Semicolon (kind p) ≡ b → any_value_size (returned p) ≤ 1 + rest_of p
returned_size p true e = rw (e) (omega arith)
returned_size p false e = rw (e) (value_size_of p)

worded_size : (ps : List Phrase) (k : Kind) → kind (phrase ps 0) ≡ k → row_size (worded ps) ≤ 7 + all_rows ps + all_rest ps
worded_size ps K.IfWord e = rw (e) (omega (arith, formula_at_size ps 2, rest_at ps 2, row_size_of (phrase ps 4), row_size_of (phrase ps 6), rows_at_both ps))
worded_size ps K.WhileWord e = rw (e) (omega (arith, formula_at_size ps 2, rest_at ps 2, row_size_of (phrase ps 4), rows_at ps 4))
worded_size ps K.ForWord e = rw (e) (for_size ps)
worded_size ps K.ReturnWord e = rw (e) (omega (arith, returned_size (phrase ps 1) (same_kind K.Semicolon (kind (phrase ps 1))) refl, rest_at ps 1))
worded_size ps K.TakeWord e = rw (e) (omega arith)
worded_size ps K.GiveWord e = rw (e) (omega arith)
worded_size ps K.SendWord e = rw (e) (omega (arith, formula_at_size ps 4, rest_at ps 4))
worded_size ps K.PrintWord e = rw (e) (omega (arith, formula_at_size ps 2, rest_at ps 2))
worded_size ps K.AssertWord e = rw (e) (omega (arith, formula_at_size ps 2, rest_at ps 2))
worded_size ps k e = rw (e) (omega arith)

statement_size : (p : Phrase) (ps : List Phrase) → rows_of p ≤ all_rows ps → rest_of p + rest_of (phrase ps 2) ≤ all_rest ps → row_size (statement p ps) ≤ 7 + all_rows ps + all_rest ps
statement_size (body b) ps h i = omega (arith, h)
statement_size (changing s) ps h i = omega (arith, i)
statement_size (goal g) ps h i = omega (arith, i, value_size_of (phrase ps 2))
statement_size (calling g args) ps h i = omega (arith, i)
statement_size (token t) ps h i = worded_size ps (kind (phrase ps 0)) refl
statement_size p ps h i = omega arith

-- Items.

either_item : (b : Bool) (s t : Item) → item_size s ≤ 1 → item_size t ≤ 1 → item_size (if b then s else t) ≤ 1
either_item true s t h i = h
either_item false s t h i = i

shared_size : (ps : List Phrase) → item_size (shared_item ps) ≤ 1
shared_size ps = either_item (same_kind K.LeftBracket (kind (phrase ps 1))) _ _ (omega arith) (either_item (same_kind K.MinusMark (kind (phrase ps 2))) _ _ (omega arith) (omega arith))

either_items : (n : ℕ) (b : Bool) (xs ys : List Item) → items_size xs ≤ n → items_size ys ≤ n → items_size (if b then xs else ys) ≤ n
either_items n true xs ys h i = h
either_items n false xs ys h i = i

numbered_size : (make : Name → Number → Item) → ((x : Name) (k : Number) → item_size (make x k) ≤ 1) → (ps : List Phrase) → items_size (numbered make ps) ≤ length ps
numbered_size make f [] = omega arith
numbered_size make f (p ∷ ps) =
    let x : Name = name_of (as_token p) in
    let k : Number = number_behind x ps in
    let m : items_size (numbered make ps) ≤ length ps = numbered_size make f ps in
    either_items (suc (length ps)) (same_kind K.Name (kind p)) (make x k ∷ numbered make ps) (numbered make ps) (omega (arith, f x k, m)) (omega (arith, m))

items_append : (xs ys : List Item) → items_size (xs ++ ys) ≡ items_size xs + items_size ys
items_append [] ys = omega arith
items_append (x ∷ xs) ys = omega (arith, items_append xs ys)

items_size_of : (p : Phrase) → items_size (as_items p) ≤ rest_of p
items_size_of (items is) = omega arith
items_size_of p = omega arith

all_items : (ps : List Phrase) → items_size (flat_map as_items ps) ≤ all_rest ps
all_items [] = omega arith
all_items (p ∷ ps) = omega (arith, ap items_size (flat_map-cons as_items p ps), items_append (as_items p) (flat_map as_items ps), items_size_of p, all_items ps)

names_size : (p : Phrase) → length (as_names p) ≤ rest_of p
names_size (names xs) = omega arith
names_size p = omega arith

all_names : (ps : List Phrase) → length (flat_map as_names ps) ≤ all_rest ps
all_names [] = omega arith
all_names (p ∷ ps) = omega (arith, ap length (flat_map-cons as_names p ps), length-append (as_names p) (flat_map as_names ps), names_size p, all_names ps)

either_names : (n : ℕ) (b : Bool) (xs ys : List Name) → length xs ≤ n → length ys ≤ n → length (if b then xs else ys) ≤ n
either_names n true xs ys h i = h
either_names n false xs ys h i = i

params_size : (ps : List Phrase) → length (params ps) ≤ length ps
params_size [] = omega arith
params_size (p ∷ ps) =
    let m : length (params ps) ≤ length ps = params_size ps in
    either_names (suc (length ps)) (same_kind K.Name (kind p)) (name_of (as_token p) ∷ params ps) (params ps) (omega (arith, m)) (omega (arith, m))

-- Trees.

abbrev says : Phrase → ℕ
says p = rows_of p + rest_of p

made_size : (r : Rule) (ps : List Phrase) → says (made r ps) ≤ 8 + length ps + all_rows ps + all_rest ps
made_size R.Unary ps = omega (arith, unary_size ps (kind (phrase ps 0)) refl)
made_size R.Binary ps = omega (arith, binary_size ps)
made_size R.Place ps = omega (arith, place_size ps (same_kind K.LeftBracket (kind (phrase ps 1))) refl)
made_size R.Leaf ps = omega arith
made_size R.Source ps = omega (arith, all_items ps)
made_size R.Shared ps = omega (arith, all_items ps)
made_size R.Sitem ps = omega (arith, shared_size ps)
made_size R.Sems ps = omega (arith, numbered_size semaphore (λ x k. omega arith) ps)
made_size R.Chans ps = omega (arith, numbered_size channel (λ x k. omega arith) ps)
made_size R.Function ps = omega (arith, all_names ps, block_size (last ps), last_rows ps)
  where
    last_rows : (ps : List Phrase) → rows_of (last ps) ≤ all_rows ps
    last_rows ps = rows_at ps _
made_size R.Params ps = omega (arith, params_size ps)
made_size R.Process ps = omega (arith, block_size (last ps), last_rows ps)
  where
    last_rows : (ps : List Phrase) → rows_of (last ps) ≤ all_rows ps
    last_rows ps = rows_at ps _
made_size R.Block ps = omega (arith, rows_size ps)
made_size R.Local ps = omega (arith, locals_size ps)
made_size R.Litem ps = omega (arith, local_size ps)
made_size R.Value ps = omega (arith, said_value_size ps (same_kind K.RecvWord (kind (phrase ps 0))) refl)
made_size R.Call ps = omega (arith, formulas_size ps)
made_size R.Change ps = omega (arith, changed_size ps (kind (phrase ps 1)) refl)
made_size R.Stmt ps = omega (arith, statement_size (phrase ps 0) ps (rows_at ps 0) (rest_at_both ps))

mutual
  said_size : (t : Shape) → says (said t) + 1 ≤ 9 * weigh 1 (λ r. 1) t
  said_size (leaf x) = omega arith
  said_size (node r ts) = omega (arith, made_size r (all_said ts), all_size ts)

  all_size : (ts : Shapes) → length (all_said ts) + all_rows (all_said ts) + all_rest (all_said ts) ≤ 9 * weigh_in 1 (λ r. 1) ts
  all_size no_shapes = omega arith
  all_size (shape_then t ts) = omega (arith, said_size t, all_size ts)

-- what the items of a tree say
pub items_few : (t : Shape) → items_size (as_items (said t)) + 1 ≤ 9 * weigh 1 (λ r. 1) t
items_few t = omega (arith, items_size_of (said t), said_size t)

-- what the children of a function or a process say, by their nodes
pub children_said : (ts : Shapes) → length (flat_map as_names (all_said ts)) + row_size (as_block (last (all_said ts))).row ≤ 9 * weigh_in 1 (λ r. 1) ts
children_said ts = omega (arith, all_names (all_said ts), block_size (last (all_said ts)), last_rows (all_said ts), all_size ts)
  where
    last_rows : (ps : List Phrase) → rows_of (last ps) ≤ all_rows ps
    last_rows ps = rows_at ps _
