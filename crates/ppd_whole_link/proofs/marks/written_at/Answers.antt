use Rattle.std.proofs.Common.{◌≡◌, ◌∙◌, Option, Some, None, ap, sym}
use Rattle.std.specs.Prelude.{slice_get}
use Rattle.std.specs.FinMap.{get, get-empty}
use Rattle.std.specs.Ordering.{nat_cmp}
use Rattle.ppd_ast.proofs.Walks.{got_none}
use Rattle.ppd_whole_link.specs.Marks.{written_if}
use Rattle.ppd_whole_link.specs.declared.marks.Marks.{Marks}
use Rattle.ppd_whole_link.proofs.marks.written_at.Goals as goal

pub returns-in-None : goal.returns-in-None
returns-in-None c =
    let none : slice_get c.args.marks.now c.args.process ≡ None = got_none _ _ c.in-None.ensures.lookup.3 in
    sym (ap (λ (o : Option Marks). get (written_if o) c.args.key) none ∙ get-empty nat_cmp c.args.key)
