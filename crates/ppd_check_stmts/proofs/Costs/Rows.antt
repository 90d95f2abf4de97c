-- How many core statements, expressions and variables come of a row of a source.
use Rattle.std.proofs.Common.{◌≡◌, refl, ap, ℕ, ◌+◌, ◌*◌, ◌≤◌, arith, Bool, true, false, List, [], ◌∷◌, length, map, Option, Some, None}
use Rattle.std.proofs.lemmas.List.{length-append}
use Rattle.ppd_ast.specs.declared.program.Place.{Place}
use Rattle.ppd_ast.specs.Term as T
use Rattle.ppd_ast.specs.Term.{Term}
use Rattle.ppd_check_names.specs.declared.frame.Frame.{Frame}
use Rattle.ppd_check_names.specs.declared.meaning.Meaning.TheVariants as M
use Rattle.ppd_check_names.specs.declared.meaning.Meaning.{Meaning}
use Rattle.ppd_check_names.specs.Names.{Scope, meaning}
use Rattle.ppd_check_names.specs.Fitted.{fitted}
use Rattle.ppd_check_stmts.specs.Code as C
use Rattle.ppd_check_stmts.specs.Code.{Spot, Act, Code, done, act, choice, loop, join, acts}
use Rattle.ppd_check_stmts.specs.Expressions.{term_of, read}
use Rattle.ppd_check_names.specs.Reading.{goal_formula}
use Rattle.ppd_check_names.specs.Syntax as S
use Rattle.ppd_check_names.specs.Syntax.{Name, Formula, Goal, Value, plain, result, received, Simple, fresh, array, store, change, call, give_back, take, give, send, print, assert, Row, stop, simple, block, repeat, count}
use Rattle.ppd_check_stmts.specs.Statements.{opened, with_scopes_of, spot, spot_of, via_hidden, after, after_row, place_of, put, store_acts, acts_of, code_of, row_code, goal_name, code_of_any}
use Rattle.ppd_check_stmts.proofs.Vocabulary.{hidden_if, after_any}
use Rattle.ppd_check_names.specs.Frames.{variable_of, declared}
use Rattle.ppd_check_names.proofs.Words.{hidden_name}
use Rattle.ppd_check_stmts.specs.Table.{weight, weights, spot_terms}
use Rattle.ppd_check_stmts.proofs.Table.Joined.{weights_append}
use Rattle.ppd_check_stmts.proofs.Costs.Tables.{act_load, load}

-- Measures of what a source says.

-- an expression and those inside it
abbrev pub size : Formula → ℕ
size (S.number n) = 1
size (S.variable x) = 1
size (S.element x i) = 1 + size i
size (S.negated e) = 1 + size e
size (S.inverted e) = 1 + size e
size (S.two op a b) = 1 + size a + size b
size (S.both a b) = 1 + size a + size b
size (S.either a b) = 1 + size a + size b

-- arguments with their numbers
abbrev pub args_size : List Formula → ℕ
args_size [] = 0
args_size (f ∷ fs) = 1 + size f + args_size fs

abbrev pub value_size : Value → ℕ
value_size (plain e) = size e
value_size (result f args) = args_size args
value_size (received x) = 0

abbrev pub any_value_size : Option Value → ℕ
any_value_size None = 0
any_value_size (Some v) = value_size v

abbrev pub goal_size : Goal → ℕ
goal_size g = size (goal_formula g)

-- a statement with its number, a variable, and what a value through a hidden one takes
abbrev pub simple_size : Simple → ℕ
simple_size (fresh x v) = 3 + value_size v
simple_size (array x n) = 3
simple_size (store g v) = 6 + goal_size g + value_size v
simple_size (change g op e) = 3 + 2 * goal_size g + size e
simple_size (call f args) = 2 + args_size args
simple_size (give_back p v) = 6 + any_value_size v
simple_size (take p x) = 2
simple_size (give p x) = 2
simple_size (send p x e) = 2 + size e
simple_size (print p e) = 2 + size e
simple_size (assert p e) = 2 + size e

abbrev pub any_size : Option Simple → ℕ
any_size None = 0
any_size (Some s) = simple_size s

abbrev pub row_size : Row → ℕ
row_size stop = 0
row_size (simple s r) = simple_size s + row_size r
row_size (block b r) = row_size b + row_size r
row_size (S.choice p e a b r) = 2 + size e + row_size a + row_size b + row_size r
row_size (repeat p e b r) = 2 + size e + row_size b + row_size r
row_size (count p start e step b r) = 2 + any_size start + size e + any_size step + row_size b + row_size r

-- Expressions.

scalar_weight : (m : Option Meaning) → weight (read m None) ≡ 1
scalar_weight (Some (M.Local c None)) = refl
scalar_weight (Some (M.Shared c None)) = refl
scalar_weight m = refl

element_weight : (m : Option Meaning) (i : Term) → weight (read m (Some i)) ≡ 1 + weight i
element_weight (Some (M.Local c (Some n))) i = omega arith
element_weight (Some (M.Shared c (Some n))) i = omega arith
element_weight m i = omega arith

term_weight : (s : List Scope) (f : Formula) → weight (term_of s f) ≡ size f
term_weight s (S.number n) = omega arith
term_weight s (S.variable x) = scalar_weight (meaning s x.text)
term_weight s (S.element x i) = omega (arith, element_weight (meaning s x.text) (term_of s i), term_weight s i)
term_weight s (S.negated e) = omega (arith, term_weight s e)
term_weight s (S.inverted e) = omega (arith, term_weight s e)
term_weight s (S.two op a b) = omega (arith, term_weight s a, term_weight s b)
term_weight s (S.both a b) = omega (arith, term_weight s a, term_weight s b)
term_weight s (S.either a b) = omega (arith, term_weight s a, term_weight s b)

args_weight : (s : List Scope) (fs : List Formula) → length (map (term_of s) fs) + weights (map (term_of s) fs) ≡ args_size fs
args_weight s [] = omega arith
args_weight s (f ∷ fs) = omega (arith, term_weight s f, args_weight s fs)

spot_weight : (s : List Scope) (g : Goal) → weights (spot_terms (spot_of s g)) ≤ goal_size g
spot_weight s (S.scalar x) = of_scalar (meaning s x.text)
  where
    of_scalar : (m : Option Meaning) → weights (spot_terms (spot (read m None))) ≤ 1
    of_scalar (Some (M.Local c None)) = omega arith
    of_scalar (Some (M.Shared c None)) = omega arith
    of_scalar m = omega arith
spot_weight s (S.item x i) = omega (arith, of_item (meaning s x.text) (term_of s i), term_weight s i)
  where
    of_item : (m : Option Meaning) (t : Term) → weights (spot_terms (spot (read m (Some t)))) ≤ weight t
    of_item (Some (M.Local c (Some n))) t = omega arith
    of_item (Some (M.Shared c (Some n))) t = omega arith
    of_item m t = omega arith

-- Statements.

abbrev acts_load : List Act → ℕ
acts_load [] = 0
acts_load (a ∷ rest) = act_load a + acts_load rest

load_acts : (p : Place) (list : List Act) → load (acts p list) ≡ acts_load list
load_acts p [] = refl
load_acts p (a ∷ rest) = ap (λ n. act_load a + n) (load_acts p rest)

pub load_join : (c d : Code) → load (join c d) ≡ load c + load d
load_join done d = omega arith
load_join (act p a c) d = omega (arith, load_join c d)
load_join (choice p e a b c) d = omega (arith, load_join c d)
load_join (loop p e inside c) d = omega (arith, load_join c d)

put_load : (s : List Scope) (c : ℕ) (v : Value) → act_load (put s c v) ≤ 2 + value_size v
put_load s c (plain e) = omega (arith, term_weight s e)
put_load s c (result f args) = omega (arith, args_weight s args)
put_load s c (received x) = omega arith

set_load : (m : Spot) (t : Term) → act_load (C.set m t) ≡ 2 + weights (spot_terms m) + weight t
set_load m t = omega (arith, weights_append (spot_terms m) (t ∷ []))

hidden_more : (b : Bool) (p : Place) (f : Frame) → length (hidden_if b p f).variables ≤ length f.variables + 1
hidden_more true p f = omega (arith, length-append f.variables (record { name = hidden_name (fitted 16 (f.hidden + 1)); length = None; place = p } ∷ []))
hidden_more false p f = omega arith

declared_more : (x : Name) (n : Option ℕ) (f : Frame) → length (declared n f x).variables ≡ length f.variables + 1
declared_more x n f = length-append f.variables (variable_of x n ∷ [])

store_load : (m : Spot) (v : Value) (f : Frame) → acts_load (store_acts m v f) ≤ 5 + weights (spot_terms m) + value_size v
store_load m (plain e) f = omega (arith, set_load m (term_of f.scopes e), term_weight f.scopes e)
store_load (C.local c) (result g args) f = omega (arith, put_load f.scopes c (result g args))
store_load (C.local c) (received x) f = omega arith
store_load m (result g args) f = omega (arith, put_load f.scopes f.cells (result g args), set_load m (T.local f.cells))
store_load m (received x) f = omega (arith, set_load m (T.local f.cells))

-- a statement's core statements and the variables after it
simple_load : (s : Simple) (f : Frame) → acts_load (acts_of s f) + length (after s f).variables ≤ length f.variables + simple_size s
simple_load (fresh x v) f = omega (arith, put_load (declared None f x).scopes f.cells v, declared_more x None f)
simple_load (array x n) f = omega (arith, declared_more x (Some (fitted 16 n.value)) f)
simple_load (store g v) f = omega (arith, store_load (spot_of f.scopes g) v f, spot_weight f.scopes g, hidden_more (via_hidden (spot_of f.scopes g) v) (goal_name g).place f)
simple_load (change g op e) f =
    let t : Term = T.two op (term_of f.scopes (goal_formula g)) (term_of f.scopes e) in
    omega (arith, set_load (spot_of f.scopes g) t, spot_weight f.scopes g, term_weight f.scopes (goal_formula g), term_weight f.scopes e)
simple_load (call g args) f = omega (arith, args_weight f.scopes args)
simple_load (give_back p None) f = omega arith
simple_load (give_back p (Some (plain e))) f = omega (arith, term_weight f.scopes e)
simple_load (give_back p (Some (result g args))) f = omega (arith, put_load f.scopes f.cells (result g args), hidden_more true p f)
simple_load (give_back p (Some (received x))) f = omega (arith, hidden_more true p f)
simple_load (take p x) f = omega arith
simple_load (give p x) f = omega arith
simple_load (send p x e) f = omega (arith, term_weight f.scopes e)
simple_load (print p e) f = omega (arith, term_weight f.scopes e)
simple_load (assert p e) f = omega (arith, term_weight f.scopes e)

code_load : (s : Simple) (f : Frame) → load (code_of s f) + length (after s f).variables ≤ length f.variables + simple_size s
code_load s f = omega (arith, load_acts (place_of s) (acts_of s f), simple_load s f)

any_load : (s : Option Simple) (f : Frame) → load (code_of_any s f) + length (after_any s f).variables ≤ length f.variables + any_size s
any_load None f = omega arith
any_load (Some s) f = code_load s f

hidden_grows : (b : Bool) (p : Place) (f : Frame) → length f.variables ≤ length (hidden_if b p f).variables
hidden_grows true p f = omega (arith, length-append f.variables (record { name = hidden_name (fitted 16 (f.hidden + 1)); length = None; place = p } ∷ []))
hidden_grows false p f = omega arith

simple_grows : (s : Simple) (f : Frame) → length f.variables ≤ length (after s f).variables
simple_grows (fresh x v) f = omega (arith, declared_more x None f)
simple_grows (array x n) f = omega (arith, declared_more x (Some (fitted 16 n.value)) f)
simple_grows (store g v) f = hidden_grows (via_hidden (spot_of f.scopes g) v) (goal_name g).place f
simple_grows (give_back p None) f = omega arith
simple_grows (give_back p (Some (plain e))) f = omega arith
simple_grows (give_back p (Some v)) f = hidden_grows true p f
simple_grows (change g op e) f = omega arith
simple_grows (call g args) f = omega arith
simple_grows (take p x) f = omega arith
simple_grows (give p x) f = omega arith
simple_grows (send p x e) f = omega arith
simple_grows (print p e) f = omega arith
simple_grows (assert p e) f = omega arith

step_load : (s : Option Simple) (f : Frame) → load (code_of_any s f) ≤ any_size s
step_load None f = omega arith
step_load (Some s) f = omega (arith, code_load s f, simple_grows s f)

-- a row's core statements and the variables after it
pub row_load : (r : Row) (f : Frame) → load (row_code r f) + length (after_row r f).variables ≤ length f.variables + row_size r
row_load stop f = omega arith
row_load (simple s r) f = omega (arith, load_join (code_of s f) (row_code r (after s f)), code_load s f, row_load r (after s f))
row_load (block b r) f =
    let g : Frame = with_scopes_of f (after_row b (opened f)) in
    omega (arith, load_join (row_code b (opened f)) (row_code r g), row_load b (opened f), row_load r g)
row_load (S.choice p e a b r) f =
    let g : Frame = after_row a f in
    let h : Frame = after_row b g in
    omega (arith, term_weight f.scopes e, row_load a f, row_load b g, row_load r h)
row_load (repeat p e b r) f = omega (arith, term_weight f.scopes e, row_load b f, row_load r (after_row b f))
row_load (count p start e step b r) f =
    let g : Frame = after_any start (opened f) in
    let h : Frame = after_row b g in
    let inside : Code = join (row_code b g) (code_of_any step h) in
    let rest : Code = row_code r (with_scopes_of f h) in
    omega (
      arith,
      load_join (code_of_any start (opened f)) (loop p (term_of g.scopes e) inside rest),
      load_join (row_code b g) (code_of_any step h),
      term_weight g.scopes e,
      any_load start (opened f),
      row_load b g,
      step_load step h,
      row_load r (with_scopes_of f h),
    )
