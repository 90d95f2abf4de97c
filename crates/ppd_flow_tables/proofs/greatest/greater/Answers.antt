use Rattle.std.proofs.Common.{◌∙◌, false, sym, true}
use Rattle.ppd_flow_tables.proofs.Latest.{greater_is}
use Rattle.ppd_flow_tables.proofs.greatest.greater.Goals as goal

pub returns-then-before-clause-is : goal.returns-then-before-clause-is
returns-then-before-clause-is c = greater_is c.args.past.now c.requires.past c.args.best c.args.edge c.requires.best c.requires.edge true (sym c.if-before.true ∙ c.before-2.ensures)

pub returns-else-before-clause-is : goal.returns-else-before-clause-is
returns-else-before-clause-is c = greater_is c.args.past.now c.requires.past c.args.best c.args.edge c.requires.best c.requires.edge false (sym c.if-before.false ∙ c.before-2.ensures)
