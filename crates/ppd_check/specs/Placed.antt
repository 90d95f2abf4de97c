-- Where the statements of a table stand.
use Rattle.ppd_ast.specs.declared.program.Place.{Place}
use Rattle.ppd_ast.specs.declared.program.Stmt.{Stmt}

abbrev pub place_of : Stmt → Place
place_of s = s.place
