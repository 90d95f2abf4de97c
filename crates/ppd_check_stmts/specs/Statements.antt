-- What statements declare, their core statements, and the rules that they break.
use Rattle.ppd_ast.specs.Term as T
use Rattle.ppd_ast.specs.Term.{Term}
use Rattle.ppd_ast.specs.declared.limits.TheConstants.{MOST_LOCAL_CELLS}
use Rattle.ppd_ast.specs.declared.program.Place.{Place}
use Rattle.ppd_check_names.specs.Fitted.{fitted}
use Rattle.ppd_check_names.specs.Frames.{declared, size_faults, twice_faults, with_hidden}
use Rattle.ppd_check_names.specs.Names.{Scope, innermost, meaning, number_as}
use Rattle.ppd_check_names.specs.Reading.{goal_formula}
use Rattle.ppd_check_names.specs.Syntax.{Goal, Name, Row, Simple, Value, array, assert, block, call, change, choice, count, fresh, give, give_back, item, plain, print, received, repeat, result, scalar, send, simple, stop, store, take}
use Rattle.ppd_check_names.specs.declared.fault.Fault.{Fault}
use Rattle.ppd_check_names.specs.declared.frame.Frame.{Frame}
use Rattle.ppd_check_names.specs.declared.meaning.Use.TheVariants.{Channel, Function, Semaphore}
use Rattle.ppd_check_stmts.specs.Code as C
use Rattle.ppd_check_stmts.specs.Code.{Act, Code, Spot, acts, done, join, loop}
use Rattle.ppd_check_stmts.specs.Expressions.{call_faults, formula_faults, name_faults, term_of}
use Rattle.std.specs.Option.{option_map_or}
use Rattle.std.specs.Prelude.{Bool, List, None, Option, Some, [], false, if◌then◌else◌, map, true, ℕ, ◌++◌, ◌+◌, ◌∷◌}

-- Variables and frames.

-- a scope inside the others
abbrev pub opened : Frame → Frame
opened f = record f { scopes = [] ∷ f.scopes }

-- the frame g with the scopes of f again
abbrev pub with_scopes_of : Frame → Frame → Frame
with_scopes_of f g = record g { scopes = f.scopes }

-- Places where values are stored.

abbrev pub goal_name : Goal → Name
goal_name (scalar x) = x
goal_name (item x i) = x

abbrev pub spot : Term → Spot
spot (T.local c) = C.local c
spot (T.local_at base n i) = C.local_at base n i
spot (T.shared_at base n i) = C.shared_at base n i
spot (T.shared c) = C.shared c
spot _ = C.shared 0

abbrev pub spot_of : List Scope → Goal → Spot
spot_of s g = spot (term_of s (goal_formula g))

-- A value from a call or a channel comes into a local scalar, if need be into a hidden one, as where it is given back.
abbrev pub via_hidden : Spot → Value → Bool
via_hidden m (plain e) = false
via_hidden (C.local c) v = false
via_hidden m v = true

-- The frame after a statement, and after a row.

abbrev pub after : Simple → Frame → Frame
after (fresh x v) f = declared None f x
after (array x n) f = declared (Some (fitted 16 n.value)) f x
after (store g v) f = if via_hidden (spot_of f.scopes g) v then with_hidden (goal_name g).place f else f
after (give_back p None) f = f
after (give_back p (Some (plain e))) f = f
after (give_back p (Some v)) f = with_hidden p f
after _ f = f

abbrev pub after_row : Row → Frame → Frame
after_row stop f = f
after_row (simple s r) f = after_row r (after s f)
after_row (block b r) f = after_row r (with_scopes_of f (after_row b (opened f)))
after_row (choice p e a b r) f = after_row r (after_row b (after_row a f))
after_row (repeat p e b r) f = after_row r (after_row b f)
after_row (count p start e step b r) f =
    after_row r (with_scopes_of f (after_row b (option_map_or (λ s. after s (opened f)) start (opened f))))

-- The core statements.

-- the place of the core statements of a statement: its first token, or the name that it declares
abbrev pub place_of : Simple → Place
place_of (fresh x v) = x.place
place_of (array x n) = x.place
place_of (store g v) = (goal_name g).place
place_of (change g op e) = (goal_name g).place
place_of (call f args) = f.place
place_of (give_back p v) = p
place_of (take p x) = p
place_of (give p x) = p
place_of (send p x e) = p
place_of (print p e) = p
place_of (assert p e) = p

-- a value into a local scalar
abbrev pub put : List Scope → ℕ → Value → Act
put s c (plain e) = C.set (C.local c) (term_of s e)
put s c (result f args) = C.call (number_as Function (meaning s f.text)) (map (term_of s) args) (Some c)
put s c (received x) = C.receive (number_as Channel (meaning s x.text)) c

-- a value into a place
abbrev pub store_acts : Spot → Value → Frame → List Act
store_acts m (plain e) f = C.set m (term_of f.scopes e) ∷ []
store_acts (C.local c) v f = put f.scopes c v ∷ []
store_acts m v f = put f.scopes f.cells v ∷ C.set m (T.local f.cells) ∷ []

-- the core statements of a statement, all at its place
abbrev pub acts_of : Simple → Frame → List Act
acts_of (fresh x v) f = put (declared None f x).scopes f.cells v ∷ []
acts_of (array x n) f = C.clear f.cells (fitted 16 n.value) ∷ []
acts_of (store g v) f = store_acts (spot_of f.scopes g) v f
acts_of (change g op e) f =
    C.set (spot_of f.scopes g) (T.two op (term_of f.scopes (goal_formula g)) (term_of f.scopes e)) ∷ []
acts_of (call g args) f = C.call (number_as Function (meaning f.scopes g.text)) (map (term_of f.scopes) args) None ∷ []
acts_of (give_back p None) f = C.give_back None ∷ []
acts_of (give_back p (Some (plain e))) f = C.give_back (Some (term_of f.scopes e)) ∷ []
acts_of (give_back p (Some v)) f = put f.scopes f.cells v ∷ C.give_back (Some (T.local f.cells)) ∷ []
acts_of (take p x) f = C.take (number_as Semaphore (meaning f.scopes x.text)) ∷ []
acts_of (give p x) f = C.give (number_as Semaphore (meaning f.scopes x.text)) ∷ []
acts_of (send p x e) f = C.send (number_as Channel (meaning f.scopes x.text)) (term_of f.scopes e) ∷ []
acts_of (print p e) f = C.print (term_of f.scopes e) ∷ []
acts_of (assert p e) f = C.assert (term_of f.scopes e) ∷ []

abbrev pub code_of : Simple → Frame → Code
code_of s f = acts (place_of s) (acts_of s f)

-- the same of a statement that may be missing
abbrev pub code_of_any : Option Simple → Frame → Code
code_of_any o f = option_map_or (λ s. code_of s f) o done

-- the core statements of a row; a `for` is what comes first, then a loop at its place
abbrev pub row_code : Row → Frame → Code
row_code stop f = done
row_code (simple s r) f = join (code_of s f) (row_code r (after s f))
row_code (block b r) f =
    join (row_code b (opened f)) (row_code r (with_scopes_of f (after_row b (opened f))))
row_code (choice p e a b r) f =
    C.choice p (term_of f.scopes e) (row_code a f) (row_code b (after_row a f))
    (row_code r (after_row b (after_row a f)))
row_code (repeat p e b r) f =
    loop p (term_of f.scopes e) (row_code b f) (row_code r (after_row b f))
row_code (count p start e step b r) f =
    let g : Frame = option_map_or (λ s. after s (opened f)) start (opened f) in
    join (code_of_any start (opened f))
    (loop p (term_of g.scopes e) (join (row_code b g) (code_of_any step (after_row b g)))
    (row_code r (with_scopes_of f (after_row b g))))

-- The broken rules.

abbrev pub value_faults : List Scope → Value → List Fault
value_faults s (plain e) = formula_faults s e
value_faults s (result f args) = call_faults s true f args
value_faults s (received x) = name_faults Channel s x

abbrev pub faults_of : Simple → Frame → List Fault
faults_of (fresh x v) f = twice_faults (innermost f.scopes) x ++ value_faults (declared None f x).scopes v
faults_of (array x n) f = twice_faults (innermost f.scopes) x ++ size_faults 1 MOST_LOCAL_CELLS n
faults_of (store g v) f = formula_faults f.scopes (goal_formula g) ++ value_faults f.scopes v
faults_of (change g op e) f = formula_faults f.scopes (goal_formula g) ++ formula_faults f.scopes e
faults_of (call g args) f = call_faults f.scopes false g args
faults_of (give_back p None) f = []
faults_of (give_back p (Some v)) f = value_faults f.scopes v
faults_of (take p x) f = name_faults Semaphore f.scopes x
faults_of (give p x) f = name_faults Semaphore f.scopes x
faults_of (send p x e) f = name_faults Channel f.scopes x ++ formula_faults f.scopes e
faults_of (print p e) f = formula_faults f.scopes e
faults_of (assert p e) f = formula_faults f.scopes e

abbrev pub faults_of_any : Option Simple → Frame → List Fault
faults_of_any o f = option_map_or (λ s. faults_of s f) o []

abbrev pub row_faults : Row → Frame → List Fault
row_faults stop f = []
row_faults (simple s r) f = faults_of s f ++ row_faults r (after s f)
row_faults (block b r) f =
    row_faults b (opened f) ++ row_faults r (with_scopes_of f (after_row b (opened f)))
row_faults (choice p e a b r) f =
    formula_faults f.scopes e
    ++ (row_faults a f ++ (row_faults b (after_row a f) ++ row_faults r (after_row b (after_row a f))))
row_faults (repeat p e b r) f =
    formula_faults f.scopes e ++ (row_faults b f ++ row_faults r (after_row b f))
row_faults (count p start e step b r) f =
    let g : Frame = option_map_or (λ s. after s (opened f)) start (opened f) in
    faults_of_any start (opened f)
    ++ (formula_faults g.scopes e
    ++ (row_faults b g
    ++ (faults_of_any step (after_row b g) ++ row_faults r (with_scopes_of f (after_row b g)))))
