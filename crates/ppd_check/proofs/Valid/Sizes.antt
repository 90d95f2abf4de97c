-- The core statements of a source are no larger than it.
use Rattle.ppd_ast.specs.Term as T
use Rattle.ppd_ast.specs.Term.{Term}
use Rattle.ppd_ast.specs.Uses.{depth_of, operators_of}
use Rattle.ppd_ast.specs.Valid.{IsName}
use Rattle.ppd_ast.specs.declared.limits.TheConstants.{MOST_NESTING, MOST_OPERATORS, MOST_SOURCE_OPERATORS}
use Rattle.ppd_ast.specs.declared.program.Place.{Place}
use Rattle.ppd_check.proofs.Limits.Said.{all_join}
use Rattle.ppd_check.proofs.Valid.Facts.{HeadSizes, TermSmall, nesting}
use Rattle.ppd_check.proofs.Vocabulary.Sizes.{AreSmall, GoalFits, IsShort, IsSmall, RowFits, SimpleFits, SimpleFitsIfAny, ValueFits, depth_in, nested, operators_in}
use Rattle.ppd_check.specs.Sources.{close_code, ends_with_return, entered, entry, head_code, head_frame, vars}
use Rattle.ppd_check_names.proofs.Words.{hidden_name}
use Rattle.ppd_check_names.specs.Fitted.{fitted}
use Rattle.ppd_check_names.specs.Frames.{after_cells, declared}
use Rattle.ppd_check_names.specs.Globals.{Head}
use Rattle.ppd_check_names.specs.Names.{Scope, meaning}
use Rattle.ppd_check_names.specs.Reading.{goal_formula}
use Rattle.ppd_check_names.specs.Syntax as S
use Rattle.ppd_check_names.specs.Syntax.{Formula, Goal, Name, Row, Simple, Value, both, either, element, inverted, item, negated, number, plain, received, result, scalar, two, variable}
use Rattle.ppd_check_names.specs.declared.frame.Frame.{Frame}
use Rattle.ppd_check_names.specs.declared.frame.Variable.{Variable}
use Rattle.ppd_check_names.specs.declared.meaning.Meaning.{Meaning}
use Rattle.ppd_check_names.specs.declared.meaning.Meaning.TheVariants as M
use Rattle.ppd_check_stmts.proofs.Table.Joined.{terms_join}
use Rattle.ppd_check_stmts.proofs.Vocabulary.{after_any, hidden_if}
use Rattle.ppd_check_stmts.specs.Code as C
use Rattle.ppd_check_stmts.specs.Code.{Act, Code, Spot, act, acts, choice, done, join, loop}
use Rattle.ppd_check_stmts.specs.Expressions.{read, term_of}
use Rattle.ppd_check_stmts.specs.Statements.{acts_of, after, after_row, code_of, code_of_any, goal_name, opened, place_of, put, row_code, spot, spot_of, store_acts, via_hidden, with_scopes_of}
use Rattle.ppd_check_stmts.specs.Table.{act_terms, spot_terms, terms}
use Rattle.std.proofs.Common.{Bool, List, None, Option, Some, [], ap, arith, false, fold, if◌then◌else◌, length, map, max, refl, subst, suc, sym, true, ℕ, ◌+◌, ◌<◌, ◌^◌, ◌∙◌, ◌∷◌, ◌≡◌, ◌≤◌}
use Rattle.std.proofs.lemmas.Fmt.{length-decimal-le}
use Rattle.std.proofs.lemmas.List.Elements.{All-from_recursion}
use Rattle.std.specs.List.{AllByRecursion}
use Rattle.std.specs.Prelude.{decimal}

-- The terms of expressions are as large.

scalar_operators : (m : Option Meaning) → operators_of (read m None) ≡ 0
scalar_operators (Some (M.Local c None)) = refl
scalar_operators (Some (M.Shared c None)) = refl
scalar_operators m = refl

element_operators : (m : Option Meaning) (i : Term) → operators_of (read m (Some i)) ≡ operators_of i
element_operators (Some (M.Local c (Some n))) i = refl
element_operators (Some (M.Shared c (Some n))) i = refl
element_operators m i = refl

operators_term : (s : List Scope) (f : Formula) → operators_of (term_of s f) ≡ operators_in f
operators_term s (number n) = refl
operators_term s (variable x) = scalar_operators (meaning s x.text)
operators_term s (element x i) = element_operators (meaning s x.text) (term_of s i) ∙ operators_term s i
operators_term s (negated e) = ap (λ n. 1 + n) (operators_term s e)
operators_term s (inverted e) = ap (λ n. 1 + n) (operators_term s e)
operators_term s (two op a b) = omega (arith, operators_term s a, operators_term s b)
operators_term s (both a b) = omega (arith, operators_term s a, operators_term s b)
operators_term s (either a b) = omega (arith, operators_term s a, operators_term s b)

scalar_depth : (m : Option Meaning) → depth_of (read m None) ≡ 1
scalar_depth (Some (M.Local c None)) = refl
scalar_depth (Some (M.Shared c None)) = refl
scalar_depth m = refl

element_depth : (m : Option Meaning) (i : Term) → depth_of (read m (Some i)) ≡ 1 + depth_of i
element_depth (Some (M.Local c (Some n))) i = refl
element_depth (Some (M.Shared c (Some n))) i = refl
element_depth m i = refl

depth_term : (s : List Scope) (f : Formula) → depth_of (term_of s f) ≡ depth_in f
depth_term s (number n) = refl
depth_term s (variable x) = scalar_depth (meaning s x.text)
depth_term s (element x i) = element_depth (meaning s x.text) (term_of s i) ∙ ap (λ n. 1 + n) (depth_term s i)
depth_term s (negated e) = ap (λ n. 1 + n) (depth_term s e)
depth_term s (inverted e) = ap (λ n. 1 + n) (depth_term s e)
depth_term s (two op a b) = ap (λ n. 1 + max n (depth_of (term_of s b))) (depth_term s a) ∙ ap (λ n. 1 + max (depth_in a) n) (depth_term s b)
depth_term s (both a b) = ap (λ n. 1 + max n (depth_of (term_of s b))) (depth_term s a) ∙ ap (λ n. 1 + max (depth_in a) n) (depth_term s b)
depth_term s (either a b) = ap (λ n. 1 + max n (depth_of (term_of s b))) (depth_term s a) ∙ ap (λ n. 1 + max (depth_in a) n) (depth_term s b)

abbrev TermsSmall : List Term → Type 0
TermsSmall ts = AllByRecursion TermSmall ts

term_small : (s : List Scope) (f : Formula) → IsSmall f → TermSmall (term_of s f)
term_small s f h =
    let d : depth_of (term_of s f) ≡ depth_in f = depth_term s f in
    let o : operators_of (term_of s f) ≡ operators_in f = operators_term s f in
    (omega (arith, d, h.1), omega (arith, o, h.0))

terms_small : (s : List Scope) (fs : List Formula) → AreSmall fs → TermsSmall (map (term_of s) fs)
terms_small s [] h = tt
terms_small s (f ∷ fs) h = (term_small s f h.0, terms_small s fs h.1)

-- The terms of statements.

abbrev ActsSmall : List Act → Type 0
ActsSmall list = AllByRecursion (λ a. TermsSmall (act_terms a)) list

spot_small : (s : List Scope) (g : Goal) → GoalFits g → TermsSmall (spot_terms (spot_of s g))
spot_small s (scalar x) h = of_scalar (meaning s x.text)
  where
    of_scalar : (m : Option Meaning) → TermsSmall (spot_terms (spot (read m None)))
    of_scalar (Some (M.Local c None)) = tt
    of_scalar (Some (M.Shared c None)) = tt
    of_scalar m = tt
spot_small s (item x i) h = of_item (meaning s x.text) (term_of s i) (term_small s i h)
  where
    of_item : (m : Option Meaning) (t : Term) → TermSmall t → TermsSmall (spot_terms (spot (read m (Some t))))
    of_item (Some (M.Local c (Some n))) t h = (h, tt)
    of_item (Some (M.Shared c (Some n))) t h = (h, tt)
    of_item m t h = (h, tt)

put_small : (s : List Scope) (c : ℕ) (v : Value) → ValueFits v → TermsSmall (act_terms (put s c v))
put_small s c (plain e) h = (term_small s e h, tt)
put_small s c (result f args) h = terms_small s args h
put_small s c (received x) h = tt

cell_small : (c : ℕ) → TermSmall (T.local c)
cell_small c = (omega arith, omega arith)

store_small : (m : Spot) (v : Value) (f : Frame) → TermsSmall (spot_terms m) → ValueFits v → ActsSmall (store_acts m v f)
store_small m (plain e) f h i = (all_join TermSmall (spot_terms m) (term_of f.scopes e ∷ []) h (term_small f.scopes e i, tt), tt)
store_small (C.local c) (result g args) f h i = (put_small f.scopes c (result g args) i, tt)
store_small (C.local c) (received x) f h i = (tt, tt)
store_small m (result g args) f h i = (put_small f.scopes f.cells (result g args) i, (all_join TermSmall (spot_terms m) (T.local f.cells ∷ []) h (cell_small f.cells, tt), tt))
store_small m (received x) f h i = (tt, (all_join TermSmall (spot_terms m) (T.local f.cells ∷ []) h (cell_small f.cells, tt), tt))

goal_size : (g : Goal) → GoalFits g → (operators_in (goal_formula g) ≤ MOST_SOURCE_OPERATORS) × (depth_in (goal_formula g) ≤ MOST_OPERATORS)
goal_size (scalar x) h = (omega arith, omega arith)
goal_size (item x i) h = (h.0, omega (arith, h.1))

changed_small : (s : List Scope) (g : Goal) (op : _) (e : Formula) → GoalFits g → IsSmall e → TermSmall (T.two op (term_of s (goal_formula g)) (term_of s e))
changed_small s g op e h i =
    let k = goal_size g h in (
      omega (arith, depth_term s (goal_formula g), depth_term s e, k.1, i.1),
      omega (arith, operators_term s (goal_formula g), operators_term s e, k.0, i.0),
    )

acts_small : (s : Simple) (f : Frame) → SimpleFits s → ActsSmall (acts_of s f)
acts_small (S.fresh x v) f h = (put_small (declared None f x).scopes f.cells v h.1, tt)
acts_small (S.array x n) f h = (tt, tt)
acts_small (S.store g v) f h = store_small (spot_of f.scopes g) v f (spot_small f.scopes g h.0) h.1
acts_small (S.change g op e) f h =
    (all_join TermSmall (spot_terms (spot_of f.scopes g)) (T.two op (term_of f.scopes (goal_formula g)) (term_of f.scopes e) ∷ []) (spot_small f.scopes g h.0) (changed_small f.scopes g op e h.0 h.1, tt), tt)
acts_small (S.call g args) f h = (terms_small f.scopes args h, tt)
acts_small (S.give_back p None) f h = (tt, tt)
acts_small (S.give_back p (Some (plain e))) f h = ((term_small f.scopes e h, tt), tt)
acts_small (S.give_back p (Some (result g args))) f h = (put_small f.scopes f.cells (result g args) h, ((cell_small f.cells, tt), tt))
acts_small (S.give_back p (Some (received x))) f h = (tt, ((cell_small f.cells, tt), tt))
acts_small (S.take p x) f h = (tt, tt)
acts_small (S.give p x) f h = (tt, tt)
acts_small (S.send p x e) f h = ((term_small f.scopes e h, tt), tt)
acts_small (S.print p e) f h = ((term_small f.scopes e h, tt), tt)
acts_small (S.assert p e) f h = ((term_small f.scopes e h, tt), tt)

listed_small : (p : Place) (list : List Act) → ActsSmall list → TermsSmall (terms (acts p list))
listed_small p [] h = tt
listed_small p (a ∷ list) h = all_join TermSmall (act_terms a) (terms (acts p list)) h.0 (listed_small p list h.1)

any_small : (o : Option Simple) (f : Frame) → SimpleFitsIfAny o → TermsSmall (terms (code_of_any o f))
any_small None f h = tt
any_small (Some s) f h = listed_small (place_of s) (acts_of s f) (acts_small s f h)

joined_small : (c d : Code) → TermsSmall (terms c) → TermsSmall (terms d) → TermsSmall (terms (join c d))
joined_small c d h i = subst TermsSmall (sym (terms_join c d)) (all_join TermSmall (terms c) (terms d) h i)

row_small : (r : Row) (f : Frame) → RowFits r → TermsSmall (terms (row_code r f))
row_small S.stop f h = tt
row_small (S.simple s r) f h =
    joined_small (code_of s f) (row_code r (after s f)) (listed_small (place_of s) (acts_of s f) (acts_small s f h.0)) (row_small r (after s f) h.1)
row_small (S.block b r) f h =
    joined_small (row_code b (opened f)) (row_code r (with_scopes_of f (after_row b (opened f)))) (row_small b (opened f) h.0) (row_small r (with_scopes_of f (after_row b (opened f))) h.1)
row_small (S.choice p e a b r) f h = (
  term_small f.scopes e h.0,
  all_join TermSmall (terms (row_code a f)) _ (row_small a f h.1)
      (all_join TermSmall (terms (row_code b (after_row a f))) (terms (row_code r (after_row b (after_row a f)))) (row_small b (after_row a f) h.2) (row_small r (after_row b (after_row a f)) h.3)),
)
row_small (S.repeat p e b r) f h =
    (term_small f.scopes e h.0, all_join TermSmall (terms (row_code b f)) (terms (row_code r (after_row b f))) (row_small b f h.1) (row_small r (after_row b f) h.2))
row_small (S.count p start e step b r) f h =
    let g : Frame = after_any start (opened f) in
    let turn : Code = join (row_code b g) (code_of_any step (after_row b g)) in
    let rest : Code = row_code r (with_scopes_of f (after_row b g)) in
    joined_small (code_of_any start (opened f)) (loop p (term_of g.scopes e) turn rest) (any_small start (opened f) h.0) (
      term_small g.scopes e h.1,
      all_join TermSmall (terms turn) (terms rest) (joined_small (row_code b g) (code_of_any step (after_row b g)) (row_small b g h.3) (any_small step (after_row b g) h.2)) (row_small r (with_scopes_of f (after_row b g)) h.4),
    )

either_code : (P : Code → Type 0) (b : Bool) (c d : Code) → P c → P d → P (if b then c else d)
either_code P true c d h i = h
either_code P false c d h i = i

head_small : (scope : Scope) (h : Head) → RowFits h.block.row → AllByRecursion TermSmall (terms (head_code scope h))
head_small scope h r =
    joined_small (row_code h.block.row (entry scope h)) (close_code h) (row_small h.block.row (entry scope h) r)
    (either_code (λ c. TermsSmall (terms c)) h.process (act h.block.close C.finish done) (if ends_with_return h.block.row then done else act h.block.close (C.give_back None) done) tt
    (either_code (λ c. TermsSmall (terms c)) (ends_with_return h.block.row) done (act h.block.close (C.give_back None) done) tt tt))

-- How deep core statements stand in one another.

nesting_join : (c d : Code) (k : ℕ) → nesting c ≤ k → nesting d ≤ k → nesting (join c d) ≤ k
nesting_join done d k h i = i
nesting_join (act p a c) d k h i = let r : nesting (join c d) ≤ k = nesting_join c d k (omega (arith, h)) i in omega (arith, h, r)
nesting_join (choice p e x y c) d k h i = let r : nesting (join c d) ≤ k = nesting_join c d k (omega (arith, h)) i in omega (arith, h, r)
nesting_join (loop p e x c) d k h i = let r : nesting (join c d) ≤ k = nesting_join c d k (omega (arith, h)) i in omega (arith, h, r)

nesting_acts : (p : Place) (list : List Act) → nesting (acts p list) ≤ 1
nesting_acts p [] = omega arith
nesting_acts p (a ∷ list) = let r : nesting (acts p list) ≤ 1 = nesting_acts p list in omega (arith, r)

nesting_any : (o : Option Simple) (f : Frame) → nesting (code_of_any o f) ≤ 1
nesting_any None f = omega arith
nesting_any (Some s) f = nesting_acts (place_of s) (acts_of s f)

nesting_row : (r : Row) (f : Frame) → nesting (row_code r f) ≤ nested r
nesting_row S.stop f = omega arith
nesting_row (S.simple s r) f =
    nesting_join (code_of s f) (row_code r (after s f)) (max 1 (nested r)) (omega (arith, nesting_acts (place_of s) (acts_of s f))) (omega (arith, nesting_row r (after s f)))
nesting_row (S.block b r) f =
    nesting_join (row_code b (opened f)) (row_code r (with_scopes_of f (after_row b (opened f)))) (max (nested b) (nested r)) (omega (arith, nesting_row b (opened f))) (omega (arith, nesting_row r (with_scopes_of f (after_row b (opened f)))))
nesting_row (S.choice p e a b r) f =
    let x : nesting (row_code a f) ≤ nested a = nesting_row a f in
    let y : nesting (row_code b (after_row a f)) ≤ nested b = nesting_row b (after_row a f) in
    let z : nesting (row_code r (after_row b (after_row a f))) ≤ nested r = nesting_row r (after_row b (after_row a f)) in
    omega (arith, x, y, z)
nesting_row (S.repeat p e b r) f =
    let y : nesting (row_code b f) ≤ nested b = nesting_row b f in
    let z : nesting (row_code r (after_row b f)) ≤ nested r = nesting_row r (after_row b f) in
    omega (arith, y, z)
nesting_row (S.count p start e step b r) f =
    let g : Frame = after_any start (opened f) in
    let turn : Code = join (row_code b g) (code_of_any step (after_row b g)) in
    let rest : Code = row_code r (with_scopes_of f (after_row b g)) in
    let y : nesting turn ≤ max 1 (nested b) =
    nesting_join (row_code b g) (code_of_any step (after_row b g)) (max 1 (nested b)) (omega (arith, nesting_row b g)) (omega (arith, nesting_any step (after_row b g))) in
    let z : nesting rest ≤ nested r = nesting_row r (with_scopes_of f (after_row b g)) in
    let k : ℕ = max (suc (max 1 (nested b))) (nested r) in
    nesting_join (code_of_any start (opened f)) (loop p (term_of g.scopes e) turn rest) k (omega (arith, nesting_any start (opened f))) (omega (arith, y, z))

head_nesting : (scope : Scope) (h : Head) → nested h.block.row ≤ MOST_NESTING → nesting (head_code scope h) ≤ MOST_NESTING
head_nesting scope h n =
    nesting_join (row_code h.block.row (entry scope h)) (close_code h) MOST_NESTING (omega (arith, n, nesting_row h.block.row (entry scope h)))
    (either_code (λ c. nesting c ≤ MOST_NESTING) h.process (act h.block.close C.finish done) (if ends_with_return h.block.row then done else act h.block.close (C.give_back None) done) (omega arith)
    (either_code (λ c. nesting c ≤ MOST_NESTING) (ends_with_return h.block.row) done (act h.block.close (C.give_back None) done) (omega arith) (omega arith)))

-- The names of variables.

abbrev pub AreShort : List Variable → Type 0
AreShort vs = AllByRecursion (λ v. IsName v.name) vs

hidden_short : (n : ℕ) → IsName (hidden_name (fitted 16 n))
hidden_short n =
    let few : fitted 16 n < 2 ^ 16 = omega arith in
    let l : length (decimal (fitted 16 n)) ≤ 5 = length-decimal-le 5 (fitted 16 n) (omega arith) (omega (arith, few)) (omega (arith, few)) in
    omega (arith, l)

declared_short : (x : Name) (o : Option ℕ) (f : Frame) → IsShort x → AreShort f.variables → AreShort (declared o f x).variables
declared_short x o f h i = all_join (λ v. IsName v.name) f.variables _ i (h, tt)

hidden_frame : (b : Bool) (p : Place) (f : Frame) → AreShort f.variables → AreShort (hidden_if b p f).variables
hidden_frame true p f h = all_join (λ v. IsName v.name) f.variables _ h (hidden_short (f.hidden + 1), tt)
hidden_frame false p f h = h

after_short : (s : Simple) (f : Frame) → SimpleFits s → AreShort f.variables → AreShort (after s f).variables
after_short (S.fresh x v) f h i = declared_short x None f h.0 i
after_short (S.array x n) f h i = declared_short x (Some (fitted 16 n.value)) f h i
after_short (S.store g v) f h i = hidden_frame (via_hidden (spot_of f.scopes g) v) (goal_name g).place f i
after_short (S.give_back p None) f h i = i
after_short (S.give_back p (Some (plain e))) f h i = i
after_short (S.give_back p (Some v)) f h i = hidden_frame true p f i
after_short s f h i = i

any_short : (o : Option Simple) (f : Frame) → SimpleFitsIfAny o → AreShort f.variables → AreShort (after_any o f).variables
any_short None f h i = i
any_short (Some s) f h i = after_short s f h i

row_short : (r : Row) (f : Frame) → RowFits r → AreShort f.variables → AreShort (after_row r f).variables
row_short S.stop f h i = i
row_short (S.simple s r) f h i = row_short r (after s f) h.1 (after_short s f h.0 i)
row_short (S.block b r) f h i = row_short r (with_scopes_of f (after_row b (opened f))) h.1 (row_short b (opened f) h.0 i)
row_short (S.choice p e a b r) f h i = row_short r (after_row b (after_row a f)) h.3 (row_short b (after_row a f) h.2 (row_short a f h.1 i))
row_short (S.repeat p e b r) f h i = row_short r (after_row b f) h.2 (row_short b f h.1 i)
row_short (S.count p start e step b r) f h i =
    row_short r (with_scopes_of f (after_row b (after_any start (opened f)))) h.4 (row_short b (after_any start (opened f)) h.3 (any_short start (opened f) h.0 i))

params_short : (xs : List Name) (f : Frame) → AllByRecursion IsShort xs → AreShort f.variables → AreShort (fold (declared None) f xs).variables
params_short [] f h i = i
params_short (x ∷ xs) f h i = params_short xs (declared None f x) h.1 (declared_short x None f h.0 i)

pub vars_short : (base : ℕ) (vs : List Variable) → AreShort vs → AllByRecursion (λ v. IsName v.name) (vars base vs)
vars_short base [] h = tt
vars_short base (v ∷ vs) h = (h.0, vars_short (after_cells base v.length) vs h.1)

head_short : (scope : Scope) (h : Head) → AllByRecursion IsShort h.params → RowFits h.block.row → AllByRecursion (λ v. IsName v.name) (vars 0 (head_frame scope h).variables)
head_short scope h p r =
    vars_short 0 (head_frame scope h).variables (row_short h.block.row (entry scope h) r (params_short h.params (entered (scope ∷ [])) p tt))

-- Functions and processes.

abbrev pub HeadFits : Head → Type 0
HeadFits h = IsShort h.name × AllByRecursion IsShort h.params × RowFits h.block.row × (nested h.block.row ≤ MOST_NESTING)

pub head_sized : (scope : Scope) (h : Head) → HeadFits h → HeadSizes scope h
head_sized scope h f = record {
  name = f.0;
  names = All-from_recursion (λ v. IsName v.name) (vars 0 (head_frame scope h).variables) (head_short scope h f.1 f.2);
  code = record { nested = head_nesting scope h f.3; terms = head_small scope h f.2 };
}
