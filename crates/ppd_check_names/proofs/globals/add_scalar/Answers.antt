use Rattle.std.proofs.Common.{◌≡◌, ◌∙◌, sym, ap, nat_le, false, None, [], ◌∷◌, ◌++◌, if◌then◌else◌, Bool, arith}
use Rattle.std.proofs.lemmas.Bool.{lt-leb}
use Rattle.ppd_ast.specs.declared.limits.TheConstants.{MOST_SHARED_CELLS}
use Rattle.ppd_check_names.specs.Declaring.{placed}
use Rattle.ppd_check_names.specs.Frames.{after_cells}
use Rattle.ppd_check_names.specs.Nodes.{label_name}
use Rattle.ppd_check_names.specs.declared.globals.Globals.{Globals}
use Rattle.ppd_check_names.proofs.globals.add_scalar.Goals as goal
use Rattle.std.proofs.lemmas.Grind.{common_steps}

pub returns-clause-globals : goal.returns-clause-globals
returns-clause-globals g c =
    let old = c.args.globals.now in
    let with : Globals = placed (label_name c.args.label) None old in
    let cells : c.place_shared.new.globals.cells ≡ after_cells old.cells None = ap (λ (h : Globals). h.cells) c.in_ok-place_shared.ensures.globals in
    let many : nat_le (after_cells old.cells None) MOST_SHARED_CELLS ≡ false = lt-leb (after_cells old.cells None) MOST_SHARED_CELLS (omega (arith, cells)) in
    c.in_ok-place_shared.ensures.globals
    ∙ ap (λ (b : Bool). record with { starts = if b then old.starts ++ c.args.start ∷ [] else old.starts }) (sym many)

pub from-requires : goal.from-requires
from-requires c = omega arith

pub returns-in_err-place_shared : goal.returns-in_err-place_shared
returns-in_err-place_shared c = grind (arith, common_steps) steps 250000

pub returns-then-from-le-MOST_SHARED_CELLS : goal.returns-then-from-le-MOST_SHARED_CELLS
returns-then-from-le-MOST_SHARED_CELLS c = grind (arith, common_steps) steps 250000
