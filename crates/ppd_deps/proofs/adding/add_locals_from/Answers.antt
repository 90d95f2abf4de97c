use Rattle.std.proofs.Common.{◌∙◌, ap, rules}
use Rattle.std.proofs.lemmas.Result.{on_ok_weaker}
use Rattle.ppd_ast.proofs.Vocabulary.{kind_of_stmt}
use Rattle.ppd_deps.proofs.Added.{adds_as}
use Rattle.ppd_deps.proofs.Arriving.{call_edges, own_by, own_edges}
use Rattle.ppd_deps.proofs.Tabled.{stmt_got}
use Rattle.ppd_deps.proofs.adding.add_locals_from.Goals as goal

pub returns-in-Call : goal.returns-in-Call
returns-in-Call c =
    let p = c.args.program.now in
    let s = c.args.stmt in
    let at = stmt_got p c.as_slice.result.now s c.index-as_slice-stmt.result c.as_slice.ensures c.requires.there c.index-as_slice-stmt.is in
    on_ok_weaker c.add_locals.result (λ added. adds_as _ _ _ _ (λ t lt. call_edges p s t c.in-Call.function c.in-Call.args c.in-Call.into (ap kind_of_stmt at ∙ c.in-Call.is)) added) c.add_locals.ensures

pub returns-in_default : goal.returns-in_default
returns-in_default c =
    let p = c.args.program.now in
    let s = c.args.stmt in
    let x = c.index-as_slice-stmt.result in
    let at = stmt_got p c.as_slice.result.now s x c.as_slice.ensures c.requires.there c.index-as_slice-stmt.is in
    on_ok_weaker c.add_locals-in_default.result (λ added. adds_as _ _ _ _ (λ t lt. own_edges p s t x x.kind at (own_by p x.kind c.in_default.not-Call c.in_default.not-Return)) added) c.add_locals-in_default.ensures

pub add_locals-requires : goal.add_locals-requires
add_locals-requires c = search rules depth 1 fits 30

pub add_locals-requires-in_default : goal.add_locals-requires-in_default
add_locals-requires-in_default c = search rules depth 1 fits 30

pub add_locals_of_all-requires : goal.add_locals_of_all-requires
add_locals_of_all-requires c = search rules depth 1 fits 30

pub as_slice-requires : goal.as_slice-requires
as_slice-requires c = search rules depth 1 fits 30

pub returns-in-Return : goal.returns-in-Return
returns-in-Return c = search rules depth 1 fits 30
