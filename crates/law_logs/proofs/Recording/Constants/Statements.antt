-- The constants of statements have 64 bits, where the numbers that they are read from have.
use Rattle.std.proofs.Common.{ℕ, List, [], ◌∷◌, ◌++◌, Option, Some, None, refl, map}
use Rattle.ppd_ast.specs.Term as T
use Rattle.ppd_ast.specs.Term.{Term}
use Rattle.ppd_check_stmts.specs.Code as C
use Rattle.ppd_check_stmts.specs.Code.{Act, Code, done, act, choice, loop, join, acts, Spot}
use Rattle.ppd_check_stmts.specs.Expressions.{read, term_of}
use Rattle.ppd_check_names.specs.Names.{Scope, meaning}
use Rattle.ppd_check_names.specs.declared.meaning.Meaning.{Meaning}
use Rattle.ppd_check_names.specs.declared.meaning.Meaning.TheVariants as N
use Rattle.ppd_check_names.specs.Reading.{goal_formula}
use Rattle.ppd_check_stmts.specs.Statements.{acts_of, after, after_row, with_scopes_of, code_of, opened, put, row_code, spot, spot_of, store_acts, code_of_any}
use Rattle.ppd_check_stmts.proofs.Vocabulary.{after_any}
use Rattle.ppd_check_names.specs.Frames.{declared}
use Rattle.ppd_check_names.specs.Syntax.{Formula, number, variable, element, negated, inverted, two, both, either, Goal, Value, plain, result, received, Simple, fresh, array, store, change, call, give_back, take, give, send, print, assert, Row, stop, simple, block, choice as choosing, repeat, count}
use Rattle.ppd_check_stmts.specs.Table.{act_terms, spot_terms, terms}
use Rattle.ppd_check_names.specs.declared.frame.Frame.{Frame}
use Rattle.law_logs.proofs.Recording.Fit.{All, SomeFits, all_append, all_left, all_right}
use Rattle.law_logs.proofs.Recording.Constants.Phrases.{FormulaFits, GoalFits, RowFits, SimpleFits, ValueFits, goal_formula_fits}
use Rattle.law_logs.proofs.Recording.Terms.{TermFits}

-- ---- terms

pub scalar_term : (m : Option Meaning) → TermFits (read m None)
scalar_term (Some (N.Local c None)) = tt
scalar_term (Some (N.Shared c None)) = tt
scalar_term _ = refl

pub element_term : (m : Option Meaning) (i : Term) → TermFits i → TermFits (read m (Some i))
element_term (Some (N.Local base (Some n))) i h = h
element_term (Some (N.Shared base (Some n))) i h = h
element_term _ i h = h

pub term_fits : (s : List Scope) (f : Formula) → FormulaFits f → TermFits (term_of s f)
term_fits s (number n) h = h
term_fits s (variable x) h = scalar_term (meaning s x.text)
term_fits s (element x i) h = element_term (meaning s x.text) (term_of s i) (term_fits s i h)
term_fits s (negated e) h = term_fits s e h
term_fits s (inverted e) h = term_fits s e h
term_fits s (two op a b) h = (term_fits s a h.0, term_fits s b h.1)
term_fits s (both a b) h = (term_fits s a h.0, term_fits s b h.1)
term_fits s (either a b) h = (term_fits s a h.0, term_fits s b h.1)

pub terms_fit : (s : List Scope) (fs : List Formula) → All FormulaFits fs → All TermFits (map (term_of s) fs)
terms_fit s [] h = tt
terms_fit s (f ∷ fs) h = (term_fits s f h.0, terms_fit s fs h.1)

-- ---- statements

abbrev pub SpotFits : Spot → Type 0
SpotFits m = All TermFits (spot_terms m)

pub spot_fits : (t : Term) → TermFits t → SpotFits (spot t)
spot_fits (T.local c) h = tt
spot_fits (T.local_at base n i) h = (h, tt)
spot_fits (T.shared_at base n i) h = (h, tt)
spot_fits (T.shared c) h = tt
spot_fits _ h = tt

pub goal_spot : (s : List Scope) (g : Goal) → GoalFits g → SpotFits (spot_of s g)
goal_spot s g h = spot_fits (term_of s (goal_formula g)) (term_fits s (goal_formula g) (goal_formula_fits g h))

abbrev pub ActFits : Act → Type 0
ActFits a = All TermFits (act_terms a)

pub set_fits : (m : Spot) (e : Term) → SpotFits m → TermFits e → ActFits (C.set m e)
set_fits m e h k = all_append TermFits (spot_terms m) (e ∷ []) h (k, tt)

pub put_fits : (s : List Scope) (c : ℕ) (v : Value) → ValueFits v → ActFits (put s c v)
put_fits s c (plain e) h = (term_fits s e h, tt)
put_fits s c (result f args) h = terms_fit s args h
put_fits s c (received x) h = tt

pub store_fits : (m : Spot) (v : Value) (f : Frame) → SpotFits m → ValueFits v → All ActFits (store_acts m v f)
store_fits m (plain e) f h k = (set_fits m (term_of f.scopes e) h (term_fits f.scopes e k), tt)
store_fits (C.local c) v f h k = (put_fits f.scopes c v k, tt)
store_fits m v f h k = (put_fits f.scopes f.cells v k, (set_fits m (T.local f.cells) h tt, tt))

pub acts_fit : (s : Simple) (f : Frame) → SimpleFits s → All ActFits (acts_of s f)
acts_fit (fresh x v) f h = (put_fits (declared None f x).scopes f.cells v h, tt)
acts_fit (array x n) f h = (tt, tt)
acts_fit (store g v) f h = store_fits (spot_of f.scopes g) v f (goal_spot f.scopes g h.0) h.1
acts_fit (change g op e) f h =
    (set_fits (spot_of f.scopes g) (T.two op (term_of f.scopes (goal_formula g)) (term_of f.scopes e)) (goal_spot f.scopes g h.0) (term_fits f.scopes (goal_formula g) (goal_formula_fits g h.0), term_fits f.scopes e h.1), tt)
acts_fit (call g args) f h = (terms_fit f.scopes args h, tt)
acts_fit (give_back p None) f h = (tt, tt)
acts_fit (give_back p (Some (plain e))) f h = ((term_fits f.scopes e h, tt), tt)
acts_fit (give_back p (Some v)) f h = (put_fits f.scopes f.cells v h, ((tt, tt), tt))
acts_fit (take p x) f h = (tt, tt)
acts_fit (give p x) f h = (tt, tt)
acts_fit (send p x e) f h = ((term_fits f.scopes e h, tt), tt)
acts_fit (print p e) f h = ((term_fits f.scopes e h, tt), tt)
acts_fit (assert p e) f h = ((term_fits f.scopes e h, tt), tt)

-- ---- rows

abbrev pub CodeFits : Code → Type 0
CodeFits c = All TermFits (terms c)

pub acts_code : (p : _) (as' : List Act) → All ActFits as' → CodeFits (acts p as')
acts_code p [] h = tt
acts_code p (a ∷ as') h = all_append TermFits (act_terms a) (terms (acts p as')) h.0 (acts_code p as' h.1)

pub join_fits : (c d : Code) → CodeFits c → CodeFits d → CodeFits (join c d)
join_fits done d h k = k
join_fits (act p a c) d h k =
    all_append TermFits (act_terms a) (terms (join c d)) (all_left TermFits (act_terms a) (terms c) h) (join_fits c d (all_right TermFits (act_terms a) (terms c) h) k)
join_fits (choice p e a b c) d h k =
    let rest : All TermFits (terms b ++ terms c) = all_right TermFits (terms a) (terms b ++ terms c) h.1 in (
      h.0,
      all_append TermFits (terms a) (terms b ++ terms (join c d)) (all_left TermFits (terms a) (terms b ++ terms c) h.1)
          (all_append TermFits (terms b) (terms (join c d)) (all_left TermFits (terms b) (terms c) rest) (join_fits c d (all_right TermFits (terms b) (terms c) rest) k)),
    )
join_fits (loop p e inside c) d h k = (
  h.0,
  all_append TermFits (terms inside) (terms (join c d)) (all_left TermFits (terms inside) (terms c) h.1) (join_fits c d (all_right TermFits (terms inside) (terms c) h.1) k),
)

pub simple_fits : (s : Simple) (f : Frame) → SimpleFits s → CodeFits (code_of s f)
simple_fits s f h = acts_code _ (acts_of s f) (acts_fit s f h)

pub some_simple_fits : (s : Option Simple) (f : Frame) → SomeFits SimpleFits s → CodeFits (code_of_any s f)
some_simple_fits None f h = tt
some_simple_fits (Some s) f h = simple_fits s f h

pub row_fits : (r : Row) (f : Frame) → RowFits r → CodeFits (row_code r f)
row_fits stop f h = tt
row_fits (simple s r) f h = join_fits (code_of s f) (row_code r (after s f)) (simple_fits s f h.0) (row_fits r (after s f) h.1)
row_fits (block b r) f h =
    join_fits (row_code b (opened f)) (row_code r (with_scopes_of f (after_row b (opened f)))) (row_fits b (opened f) h.0) (row_fits r (with_scopes_of f (after_row b (opened f))) h.1)
row_fits (choosing p e a b r) f h =
    let rest : Code = row_code r (after_row b (after_row a f)) in (
      term_fits f.scopes e h.0,
      all_append TermFits (terms (row_code a f)) (terms (row_code b (after_row a f)) ++ terms rest) (row_fits a f h.1)
          (all_append TermFits (terms (row_code b (after_row a f))) (terms rest) (row_fits b (after_row a f) h.2) (row_fits r (after_row b (after_row a f)) h.3)),
    )
row_fits (repeat p e b r) f h = (
  term_fits f.scopes e h.0,
  all_append TermFits (terms (row_code b f)) (terms (row_code r (after_row b f))) (row_fits b f h.1) (row_fits r (after_row b f) h.2),
)
row_fits (count p s e t b r) f h =
    let g : Frame = after_any s (opened f) in
    let inside : Code = join (row_code b g) (code_of_any t (after_row b g)) in
    let rest : Code = row_code r (with_scopes_of f (after_row b g)) in
    let in_loop : CodeFits (loop p (term_of g.scopes e) inside rest) = (
      term_fits g.scopes e h.1,
      all_append TermFits (terms inside) (terms rest) (join_fits (row_code b g) (code_of_any t (after_row b g)) (row_fits b g h.3) (some_simple_fits t (after_row b g) h.2)) (row_fits r (with_scopes_of f (after_row b g)) h.4),
    ) in
    join_fits (code_of_any s (opened f)) (loop p (term_of g.scopes e) inside rest) (some_simple_fits s (opened f) h.0) in_loop
