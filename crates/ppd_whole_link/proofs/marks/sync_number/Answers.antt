use Rattle.std.proofs.Common.{◌≡◌, ◌∙◌, Option, Some, None, ap, get_or, sym}
use Rattle.std.specs.Prelude.{slice_get}
use Rattle.ppd_ast.proofs.Walks.{got_none, got_some}
use Rattle.ppd_whole_link.specs.Marks.{syncs_if}
use Rattle.ppd_whole_link.specs.declared.marks.Marks.{Marks}
use Rattle.ppd_whole_link.proofs.marks.sync_number.Goals as goal

pub returns-in-Some : goal.returns-in-Some
returns-in-Some c =
    let there : slice_get c.args.marks.now c.args.node.process ≡ Some c.in-Some.own.now =
    got_some _ _ _ c.in-Some.ensures.lookup.3.0 c.in-Some.ensures.lookup.1 in
    c.number_at.ensures ∙ sym (ap (λ (o : Option Marks). get_or (syncs_if o) c.args.node.sync 0) there)

pub returns-in-None : goal.returns-in-None
returns-in-None c =
    let none : slice_get c.args.marks.now c.args.node.process ≡ None = got_none _ _ c.in-None.ensures.lookup.3 in
    sym (ap (λ (o : Option Marks). get_or (syncs_if o) c.args.node.sync 0) none)
