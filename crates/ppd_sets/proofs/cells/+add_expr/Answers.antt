use Rattle.std.proofs.Common.{arith}
use Rattle.ppd_sets.proofs.Expressions.{gains_const, gains_local, gains_shared, gains_local_at, gains_shared_at, gains_single, gains_pair}
use Rattle.ppd_sets.proofs.cells.+add_expr.Goals as goal

pub returns-in-Const : goal.returns-in-Const
returns-in-Const t c = gains_const c.args.wants_shared c.args.exprs.now c.args.number _ c.requires (omega arith) _ c.in-Const.is

pub returns-in-Local : goal.returns-in-Local
returns-in-Local t c = gains_local c.args.wants_shared c.args.exprs.now c.args.number _ c.requires (omega arith) _ c.in-Local.is c.add_local.ensures

pub returns-in-LocalAt : goal.returns-in-LocalAt
returns-in-LocalAt t c = gains_local_at c.args.wants_shared c.args.exprs.now c.args.number _ c.requires (omega arith) _ _ _ c.in-LocalAt.is c.add_local-in-LocalAt.ensures c.add_expr.ensures

pub returns-in-Shared : goal.returns-in-Shared
returns-in-Shared t c = gains_shared c.args.wants_shared c.args.exprs.now c.args.number _ c.requires (omega arith) _ c.in-Shared.is c.add_shared.ensures

pub returns-in-SharedAt : goal.returns-in-SharedAt
returns-in-SharedAt t c = gains_shared_at c.args.wants_shared c.args.exprs.now c.args.number _ c.requires (omega arith) _ _ _ c.in-SharedAt.is c.add_shared-in-SharedAt.ensures c.add_expr-in-SharedAt.ensures

pub returns-in-Neg : goal.returns-in-Neg
returns-in-Neg t c = gains_single c.args.wants_shared c.args.exprs.now c.args.number _ c.requires (omega arith) _ c.in-Neg.is c.add_expr-in-Neg.ensures

pub returns-in-Two : goal.returns-in-Two
returns-in-Two t c = gains_pair c.args.wants_shared c.args.exprs.now c.args.number _ c.requires (omega arith) _ _ c.in-Two.is c.add_expr-in-Two.ensures c.add_expr-in-Two-2.ensures
