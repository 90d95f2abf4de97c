-- The numbers of phrases have 64 bits.
use Rattle.std.proofs.Common.{ℕ, zero, suc, ◌-◌, List, [], ◌∷◌, refl, length}
use Rattle.ppd_parse.specs.declared.token.Kind.TheVariants as K
use Rattle.std.specs.Prelude.{drop, ⊤}
use Rattle.std.specs.List.{flat_map}
use Rattle.ppd_check_names.specs.Reading.{Phrase, token, formula, goal, value, calling, changing, row, body, names, items, value_of, phrase, last, as_token, as_formula, as_goal, as_value, as_row, as_block, as_items, called, goal_formula, kind, formula_at, beyond, before, is_formula, formulas, some_change, same_kind}
use Rattle.ppd_check_names.specs.Syntax.{Formula, number, variable, element, negated, inverted, two, both, either, Goal, scalar, item, Value, plain, result, received, Simple, fresh, array, store, change, call, give_back, take, give, send, print, assert, Row, stop, simple, block, choice, repeat, count, Item, shared, shared_array, semaphore, channel, function, process}
use Rattle.law_logs.proofs.Recording.Fit.{All, Fit, SomeFits, all_append, choose}

-- ---- what is said

abbrev pub FormulaFits : Formula → Type 0
FormulaFits (number n) = Fit n
FormulaFits (variable x) = ⊤
FormulaFits (element x i) = FormulaFits i
FormulaFits (negated e) = FormulaFits e
FormulaFits (inverted e) = FormulaFits e
FormulaFits (two op a b) = FormulaFits a × FormulaFits b
FormulaFits (both a b) = FormulaFits a × FormulaFits b
FormulaFits (either a b) = FormulaFits a × FormulaFits b

abbrev pub GoalFits : Goal → Type 0
GoalFits (scalar x) = ⊤
GoalFits (item x i) = FormulaFits i

abbrev pub ValueFits : Value → Type 0
ValueFits (plain e) = FormulaFits e
ValueFits (result f args) = All FormulaFits args
ValueFits (received x) = ⊤

abbrev pub SimpleFits : Simple → Type 0
SimpleFits (fresh x v) = ValueFits v
SimpleFits (array x n) = ⊤
SimpleFits (store g v) = GoalFits g × ValueFits v
SimpleFits (change g op e) = GoalFits g × FormulaFits e
SimpleFits (call f args) = All FormulaFits args
SimpleFits (give_back p v) = SomeFits ValueFits v
SimpleFits (take p x) = ⊤
SimpleFits (give p x) = ⊤
SimpleFits (send p x e) = FormulaFits e
SimpleFits (print p e) = FormulaFits e
SimpleFits (assert p e) = FormulaFits e

abbrev pub RowFits : Row → Type 0
RowFits stop = ⊤
RowFits (simple s r) = SimpleFits s × RowFits r
RowFits (block b r) = RowFits b × RowFits r
RowFits (choice p e a b r) = FormulaFits e × RowFits a × RowFits b × RowFits r
RowFits (repeat p e b r) = FormulaFits e × RowFits b × RowFits r
RowFits (count p s e t b r) = SomeFits SimpleFits s × FormulaFits e × SomeFits SimpleFits t × RowFits b × RowFits r

abbrev pub ItemFits : Item → Type 0
ItemFits (shared x v) = Fit v
ItemFits (shared_array x n) = ⊤
ItemFits (semaphore x n) = ⊤
ItemFits (channel x n) = ⊤
ItemFits (function gives x ps b) = RowFits b.row
ItemFits (process x b) = RowFits b.row

abbrev pub PhraseFits : Phrase → Type 0
PhraseFits (token t) = Fit (value_of t.kind)
PhraseFits (formula f) = FormulaFits f
PhraseFits (goal g) = GoalFits g
PhraseFits (value v) = ValueFits v
PhraseFits (calling f args) = All FormulaFits args
PhraseFits (changing s) = SimpleFits s
PhraseFits (row r) = RowFits r
PhraseFits (body b) = RowFits b.row
PhraseFits (names xs) = ⊤
PhraseFits (items is) = All ItemFits is

-- ---- one phrase

pub token_fits : (p : Phrase) → PhraseFits p → Fit (value_of (as_token p).kind)
token_fits (token t) h = h
token_fits _ h = refl

pub goal_formula_fits : (g : Goal) → GoalFits g → FormulaFits (goal_formula g)
goal_formula_fits (scalar x) h = tt
goal_formula_fits (item x i) h = h

pub formula_fits : (p : Phrase) → PhraseFits p → FormulaFits (as_formula p)
formula_fits (formula f) h = h
formula_fits (goal g) h = goal_formula_fits g h
formula_fits _ h = refl

pub goal_fits : (p : Phrase) → PhraseFits p → GoalFits (as_goal p)
goal_fits (goal g) h = h
goal_fits _ h = tt

pub called_fits : (p : Phrase) → PhraseFits p → ValueFits (called p)
called_fits (calling f args) h = h
called_fits (formula f) h = h
called_fits (goal g) h = goal_formula_fits g h
called_fits _ h = refl

pub value_fits : (p : Phrase) → PhraseFits p → ValueFits (as_value p)
value_fits (value v) h = h
value_fits p h = called_fits p h

pub row_fits : (p : Phrase) → PhraseFits p → RowFits (as_row p)
row_fits (row r) h = h
row_fits _ h = tt

pub block_fits : (p : Phrase) → PhraseFits p → RowFits (as_block p).row
block_fits (body b) h = h
block_fits _ h = tt

pub items_fit : (p : Phrase) → PhraseFits p → All ItemFits (as_items p)
items_fit (items is) h = h
items_fit _ h = tt

pub change_fits : (p : Phrase) → PhraseFits p → SomeFits SimpleFits (some_change p)
change_fits (changing s) h = h
change_fits _ h = tt

-- ---- phrases

abbrev pub AllFit : List Phrase → Type 0
AllFit ps = All PhraseFits ps

pub at_fits : (ps : List Phrase) (k : ℕ) → AllFit ps → PhraseFits (phrase ps k)
at_fits [] k h = refl
at_fits (p ∷ ps) zero h = h.0
at_fits (p ∷ ps) (suc k) h = at_fits ps k h.1

pub last_fits : (ps : List Phrase) → AllFit ps → PhraseFits (last ps)
last_fits ps h = at_fits ps (length ps - 1) h

pub formula_at_fits : (ps : List Phrase) (k : ℕ) → AllFit ps → FormulaFits (formula_at ps k)
formula_at_fits ps k h = formula_fits (phrase ps k) (at_fits ps k h)

pub drop_fits : (n : ℕ) (ps : List Phrase) → AllFit ps → AllFit (drop n ps)
drop_fits zero ps h = h
drop_fits (suc n) [] h = tt
drop_fits (suc n) (p ∷ ps) h = drop_fits n ps h.1

pub before_fits : (ps : List Phrase) → AllFit ps → AllFit (before ps)
before_fits [] h = tt
before_fits (p ∷ ps) h = choose AllFit (same_kind K.Semicolon (kind p)) [] (p ∷ before ps) tt (h.0, before_fits ps h.1)

pub beyond_fits : (ps : List Phrase) → AllFit ps → AllFit (beyond ps)
beyond_fits [] h = tt
beyond_fits (p ∷ ps) h = choose AllFit (same_kind K.Semicolon (kind p)) ps (beyond ps) h.1 (beyond_fits ps h.1)

pub all_items_fit : (ps : List Phrase) → AllFit ps → All ItemFits (flat_map as_items ps)
all_items_fit [] h = tt
all_items_fit (p ∷ ps) h = all_append ItemFits (as_items p) (flat_map as_items ps) (items_fit p h.0) (all_items_fit ps h.1)

pub formulas_fit : (ps : List Phrase) → AllFit ps → All FormulaFits (formulas ps)
formulas_fit [] h = tt
formulas_fit (p ∷ ps) h = choose (All FormulaFits) (is_formula p) (as_formula p ∷ formulas ps) (formulas ps) (formula_fits p h.0, formulas_fit ps h.1) (formulas_fit ps h.1)
