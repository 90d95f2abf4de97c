use Rattle.std.proofs.Common.{◌∙◌, [], sym, ap, true}
use Rattle.std.proofs.lemmas.Bool.{cond-true}
use Rattle.ppd_ast.specs.Members.{has}
use Rattle.ppd_ast.specs.Lookups.{body_of}
use Rattle.ppd_sets.specs.Used.{vars_met, writes_at}
use Rattle.ppd_sets.proofs.Meeting.{shared_small}
use Rattle.ppd_deps.proofs.Naming.{met_as}
use Rattle.ppd_deps.specs.Named.{running}
use Rattle.ppd_deps.proofs.adding.shared_written.Goals as goal

pub returns-then-contains : goal.returns-then-contains
returns-then-contains c =
    let p = c.args.program.now in
    let s = c.args.stmt in
    met_as p.shared c.written_cells-cells.result (writes_at true p s) c.in_ok-vars.vars (shared_small p c.requires.valid) c.written_cells-cells.ensures
    (c.in_ok-vars.ensures ∙ ap (λ vars. vars_met vars c.written_cells-cells.result) c.as_slice-then-contains.ensures)
    ∙ sym (cond-true (has (running p) (body_of p s)) (vars_met p.shared (writes_at true p s)) []
    (sym (c.contains.ensures.value ∙ ap (λ l. has l c.body_at.result) (c.as_slice.ensures ∙ c.requires.tables.running) ∙ ap (has (running p)) c.body_at.ensures) ∙ c.if-contains.true))
