use Rattle.std.proofs.Common.{sym, ap, subst, arith, rules}
use Rattle.ppd_check_names.specs.Nodes.{phrase_of, phrases_below}
use Rattle.ppd_check_stmts.specs.Statements.{after_row}
use Rattle.ppd_check_stmts.specs.Writing.{WroteRow}
use Rattle.ppd_check_stmts.proofs.Rows.Declaring.{locals_other}
use Rattle.ppd_check_stmts.proofs.Table.Writing.{wrote_nothing}
use Rattle.ppd_check_stmts.proofs.locals.write_local.Goals as goal

pub returns-in_default : goal.returns-in_default
returns-in_default g c =
    let e = sym (locals_other c.rule_of.result (phrases_below c.args.level.source.nodes.now c.args.id) (phrase_of c.args.level.source.nodes.now c.args.id) c.in_default.not-Litem c.in_default.not-Change c.rule_of.ensures.said) in
    record {
      wrote = subst (λ r. WroteRow c.args.level.site r c.args.frame.now c.args.out.now.table c.args.out.now.table c.args.out.now.row c.args.out.now.row) e (wrote_nothing c.args.level.site.body c.args.level.site.parent c.args.out.now.table c.args.out.now.row);
      frame = ap (λ r. after_row r c.args.frame.now) e;
      cost = omega arith;
    }

pub returns-in-Change : goal.returns-in-Change
returns-in-Change g c = search rules depth 1 fits 30

pub returns-in-Litem : goal.returns-in-Litem
returns-in-Litem g c = search rules depth 1 fits 30

pub rule_of-requires : goal.rule_of-requires
rule_of-requires g c = search rules depth 1 fits 30

pub write_changed-requires : goal.write_changed-requires
write_changed-requires g c = search rules depth 1 fits 30

pub write_local_item-requires : goal.write_local_item-requires
write_local_item-requires g c = search rules depth 1 fits 30
