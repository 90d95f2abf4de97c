use Rattle.std.proofs.Common.{rules}
use Rattle.ppd_parse.proofs.grammar.production.Goals as goal

pub chain-requires : goal.chain-requires
chain-requires c = search rules depth 1 fits 30

pub items-requires : goal.items-requires
items-requires c = search rules depth 1 fits 30

pub operand-requires : goal.operand-requires
operand-requires c = search rules depth 1 fits 30

pub returns-in-Comma : goal.returns-in-Comma
returns-in-Comma c = search rules depth 1 fits 30

pub returns-in-Comma-kind : goal.returns-in-Comma-kind
returns-in-Comma-kind c = search rules depth 1 fits 30

pub returns-in-Comma-kind-2 : goal.returns-in-Comma-kind-2
returns-in-Comma-kind-2 c = search rules depth 1 fits 30

pub returns-in-Comma-kind-3 : goal.returns-in-Comma-kind-3
returns-in-Comma-kind-3 c = search rules depth 1 fits 30

pub returns-in-Comma-kind-4 : goal.returns-in-Comma-kind-4
returns-in-Comma-kind-4 c = search rules depth 1 fits 30

pub returns-in-Comma-kind-5 : goal.returns-in-Comma-kind-5
returns-in-Comma-kind-5 c = search rules depth 1 fits 30

pub returns-in-Exact : goal.returns-in-Exact
returns-in-Exact c = search rules depth 1 fits 30

pub returns-in-Items : goal.returns-in-Items
returns-in-Items c = search rules depth 1 fits 30

pub returns-in-Name : goal.returns-in-Name
returns-in-Name c = search rules depth 1 fits 30

pub returns-in-Name-kind : goal.returns-in-Name-kind
returns-in-Name-kind c = search rules depth 1 fits 30

pub returns-in-Name-kind-2 : goal.returns-in-Name-kind-2
returns-in-Name-kind-2 c = search rules depth 1 fits 30

pub returns-in-Name-kind-3 : goal.returns-in-Name-kind-3
returns-in-Name-kind-3 c = search rules depth 1 fits 30

pub returns-in-Stmt : goal.returns-in-Stmt
returns-in-Stmt c = search rules depth 1 fits 30

pub returns-in-Stmts : goal.returns-in-Stmts
returns-in-Stmts c = search rules depth 1 fits 30

pub stmt-requires : goal.stmt-requires
stmt-requires c = search rules depth 1 fits 30

pub stmt_rest-requires : goal.stmt_rest-requires
stmt_rest-requires c = search rules depth 1 fits 30

pub stmts-requires : goal.stmts-requires
stmts-requires c = search rules depth 1 fits 30

pub value-requires : goal.value-requires
value-requires c = search rules depth 1 fits 30
