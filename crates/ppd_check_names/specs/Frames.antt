-- The variables of a body, and what a declaration adds to them.
use Rattle.ppd_ast.specs.declared.program.Place.{Place}
use Rattle.ppd_check_names.specs.Faults.{if_so}
use Rattle.ppd_check_names.specs.Fitted.{fitted}
use Rattle.ppd_check_names.specs.Names as N
use Rattle.ppd_check_names.specs.Names.{Scope, declare, in_innermost}
use Rattle.ppd_check_names.specs.Syntax.{Name}
use Rattle.ppd_check_names.specs.declared.fault.Cause.TheVariants.{BadSize, Twice}
use Rattle.ppd_check_names.specs.declared.fault.Fault.{Fault}
use Rattle.ppd_check_names.specs.declared.frame.Frame.{Frame}
use Rattle.ppd_check_names.specs.declared.frame.Variable.{Variable}
use Rattle.ppd_check_names.specs.declared.nodes.Number.{Number}
use Rattle.ppd_parse.specs.Front.{looked_up}
use Rattle.std.specs.Prelude.{List, None, Option, [], decimal, is_some, nat_le, not, unwrap_or, ℕ, ◌&&◌, ◌++◌, ◌+◌, ◌∷◌}

-- the cell after a variable that begins at cell n
abbrev pub after_cells : ℕ → Option ℕ → ℕ
after_cells n length = fitted 16 (n + unwrap_or length 1)

abbrev pub variable_of : Name → Option ℕ → Variable
variable_of x length = record { name = x.text; length = length; place = x.place }

-- one more variable of the body, which its name means in the innermost scope from here on
abbrev pub declared : Option ℕ → Frame → Name → Frame
declared length f x =
    record {
      scopes = in_innermost (declare x.text (N.local f.cells length)) f.scopes;
      variables = f.variables ++ variable_of x length ∷ [];
      cells = after_cells f.cells length;
      hidden = f.hidden;
    }

-- One more hidden variable, which no name means: its own name is a percent sign, and which hidden one of the body it
-- is, from 1.
abbrev pub with_hidden : Place → Frame → Frame
with_hidden p f =
    record {
      scopes = f.scopes;
      variables = f.variables
          ++ record { name = 37 ∷ decimal (fitted 16 (f.hidden + 1)); length = None; place = p } ∷ [];
      cells = after_cells f.cells None;
      hidden = fitted 16 (f.hidden + 1);
    }

abbrev pub twice_faults : Scope → Name → List Fault
twice_faults scope x = if_so (is_some (looked_up scope x.text)) x.place Twice

abbrev pub size_faults : (least most : ℕ) → Number → List Fault
size_faults least most n = if_so (not (nat_le least n.value && nat_le n.value most)) n.place BadSize
