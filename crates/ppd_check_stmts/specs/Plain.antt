-- Statements without statements inside them, as the code sees them.
use Rattle.std.specs.Prelude.{List, Option, Some, None}
use Rattle.ppd_parse.specs.declared.token.Kind.{Kind}
use Rattle.ppd_parse.specs.declared.token.Kind.TheVariants as K
use Rattle.ppd_ast.specs.declared.program.Place.{Place}
use Rattle.ppd_check_stmts.specs.declared.simple.Signal.{Signal}
use Rattle.ppd_check_stmts.specs.declared.simple.Signal.TheVariants.{Take, Give}
use Rattle.ppd_check_stmts.specs.declared.simple.Showing.{Showing}
use Rattle.ppd_check_stmts.specs.declared.simple.Showing.TheVariants.{Print, Assert}
use Rattle.ppd_check_names.specs.Reading.{Phrase, goal, calling, changing, phrase, place_at, name_at, formula_at, as_value, returned}
use Rattle.ppd_check_names.specs.Syntax.{Name, Formula, Simple, Row, stop, simple, block, store, call, give_back, take, give, send, print, assert}

-- a statement on a semaphore, and one that reads an expression alone
abbrev pub signalled : Signal → Place → Name → Simple
signalled Take = take
signalled Give = give

abbrev pub shown : Showing → Place → Formula → Simple
shown Print = print
shown Assert = assert

-- the statement of a word that has none inside it, or the empty one
abbrev pub plain_word : Kind → List Phrase → Row
plain_word K.ReturnWord ps = simple (give_back (place_at ps 0) (returned (phrase ps 1))) stop
plain_word K.TakeWord ps = simple (take (place_at ps 0) (name_at ps 2)) stop
plain_word K.GiveWord ps = simple (give (place_at ps 0) (name_at ps 2)) stop
plain_word K.SendWord ps = simple (send (place_at ps 0) (name_at ps 2) (formula_at ps 4)) stop
plain_word K.PrintWord ps = simple (print (place_at ps 0) (formula_at ps 2)) stop
plain_word K.AssertWord ps = simple (assert (place_at ps 0) (formula_at ps 2)) stop
plain_word _ ps = block stop stop

-- the statement of a place, a change or a call with what stands behind it
abbrev pub plain_statement : Phrase → List Phrase → Row
plain_statement (changing s) ps = simple s stop
plain_statement (goal g) ps = simple (store g (as_value (phrase ps 2))) stop
plain_statement (calling f args) ps = simple (call f args) stop
plain_statement _ ps = stop

-- the row of a statement that may be missing
abbrev pub row_any : Option Simple → Row
row_any None = stop
row_any (Some s) = simple s stop
