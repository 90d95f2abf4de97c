-- How a row of statements ends, and which of its statements are a `return`.
use Rattle.std.specs.Prelude.{◌-◌, Bool, true, false, not, ◌&&◌, ◌||◌, is_some, List, [], ◌∷◌, ◌++◌, take, length, None}
use Rattle.std.specs.List.{flat_map}
use Rattle.ppd_ast.specs.declared.program.Place.{Place}
use Rattle.ppd_ast.specs.declared.program.Kind.{Kind}
use Rattle.ppd_ast.specs.declared.program.Kind.TheVariants as K
use Rattle.ppd_ast.specs.declared.program.Stmt.{Stmt}
use Rattle.ppd_check_names.specs.declared.fault.Cause.TheVariants.{ReturnPlace}
use Rattle.ppd_check_names.specs.declared.fault.Fault.{Fault}
use Rattle.ppd_check.specs.declared.endings.Ending.{Ending}
use Rattle.ppd_check.specs.declared.endings.Ending.TheVariants.{Empty, Return, Other}
use Rattle.ppd_check_names.specs.Faults.{at, if_so}
use Rattle.ppd_check_stmts.specs.Code.{Code, done, act}
use Rattle.ppd_check_stmts.specs.Code as C
use Rattle.ppd_check_names.specs.Syntax.{Simple, give_back, Row, stop, simple, block, choice, repeat, count}

-- the ending of one row, then another
abbrev pub with_rest : Ending → Ending → Ending
with_rest e Empty = e
with_rest e (Return p v) = Return p v
with_rest e Other = Other

abbrev pub simple_ending : Simple → Ending
simple_ending (give_back p v) = Return p (is_some v)
simple_ending s = Other

abbrev pub ending : Row → Ending
ending stop = Empty
ending (simple s r) = with_rest (simple_ending s) (ending r)
ending (block b r) = with_rest Other (ending r)
ending (choice p e a b r) = with_rest Other (ending r)
ending (repeat p e b r) = with_rest Other (ending r)
ending (count p start e step b r) = with_rest Other (ending r)

-- what stands at a closing brace, by how the row before it ends
abbrev pub close_by : (process : Bool) → Ending → Place → Code
close_by true e close = act close C.finish done
close_by false (Return p v) close = done
close_by false e close = act close (C.give_back None) done

-- a `return` of the table, as one that stands where none may
abbrev pub kind_returned : Place → Kind → List Fault
kind_returned p (K.Return v) = at p ReturnPlace ∷ []
kind_returned p k = []

abbrev pub returned : Stmt → List Fault
returned s = kind_returned s.place s.kind

-- what is wrong with the returns among the statements of a body up to its closing brace
abbrev pub function_returns : (gives : Bool) → (close : Place) → Ending → List Stmt → List Fault
function_returns gives close (Return p v) ss =
    flat_map returned (take (length ss - 1) ss) ++ if_so (not (v && gives || not v && not gives)) p ReturnPlace
function_returns gives close e ss = flat_map returned ss ++ if_so gives close ReturnPlace

abbrev pub body_returns : (process gives : Bool) → (close : Place) → Ending → List Stmt → List Fault
body_returns true gives close e ss = flat_map returned ss
body_returns false gives close e ss = function_returns gives close e ss
