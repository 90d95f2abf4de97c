use Rattle.std.proofs.Common.{◌≡◌, ◌∙◌, OnOk, sym, ap, subst, arith}
use Rattle.ppd_check_names.specs.Reading.{Phrase}
use Rattle.ppd_check_names.specs.Nodes.{phrase_of, phrases_below}
use Rattle.ppd_check_stmts.specs.Plain.{plain_statement}
use Rattle.ppd_check_stmts.specs.Statements.{after_row}
use Rattle.ppd_check_stmts.specs.Writing.{WroteRow}
use Rattle.ppd_check_stmts.proofs.Rows.Worded.{statement_other}
use Rattle.ppd_check_stmts.proofs.Table.Writing.{wrote_nothing}
use Rattle.ppd_check_stmts.proofs.words.write_named.Goals as goal

pub returns-in_default : goal.returns-in_default
returns-in_default g c =
    let ns = c.args.level.source.nodes.now in
    let ps = phrases_below ns c.args.id in
    let child = c.in-Some.child in
    let e = sym (statement_other c.rule_of.result (phrases_below ns child) (phrase_of ns child) ps c.in_default.not-Place c.in_default.not-Call c.in_default.not-Change c.in_default.not-Litem c.rule_of.ensures.said) ∙ sym (ap (λ p. plain_statement p ps) c.in-Some.ensures.said) in
    record {
      wrote = subst (λ r. WroteRow c.args.level.site r c.args.frame.now c.args.out.now.table c.args.out.now.table c.args.out.now.row c.args.out.now.row) e (wrote_nothing c.args.level.site.body c.args.level.site.parent c.args.out.now.table c.args.out.now.row);
      frame = ap (λ r. after_row r c.args.frame.now) e;
      cost = omega arith;
    }

pub returns-in-Change-clause-wrote : goal.returns-in-Change-clause-wrote
returns-in-Change-clause-wrote g c =
    let ns = c.args.level.source.nodes.now in
    let ps = phrases_below ns c.args.id in
    subst (λ (p : Phrase). OnOk c.write_changed.result (WroteRow c.args.level.site (plain_statement p ps) c.args.frame.now c.args.out.now.table c.write_changed.new.out.table c.args.out.now.row c.write_changed.new.out.row)) (sym (c.in-Some.ensures.said ∙ c.in-Change.ensures.said)) c.write_changed.ensures.wrote

pub returns-in-Call-clause-wrote : goal.returns-in-Call-clause-wrote
returns-in-Call-clause-wrote g c =
    let ns = c.args.level.source.nodes.now in
    let ps = phrases_below ns c.args.id in
    subst (λ (p : Phrase). OnOk c.write_called.result (WroteRow c.args.level.site (plain_statement p ps) c.args.frame.now c.args.out.now.table c.write_called.new.out.table c.args.out.now.row c.write_called.new.out.row)) (sym (c.in-Some.ensures.said ∙ c.in-Call.ensures.said)) c.write_called.ensures.wrote

pub returns-in-Litem-clause-wrote : goal.returns-in-Litem-clause-wrote
returns-in-Litem-clause-wrote g c =
    let ns = c.args.level.source.nodes.now in
    let ps = phrases_below ns c.args.id in
    subst (λ (p : Phrase). OnOk c.write_local_item.result (WroteRow c.args.level.site (plain_statement p ps) c.args.frame.now c.args.out.now.table c.write_local_item.new.out.table c.args.out.now.row c.write_local_item.new.out.row)) (sym (c.in-Some.ensures.said ∙ c.in-Litem.ensures.said)) c.write_local_item.ensures.wrote

pub returns-in-Litem-clause-frame : goal.returns-in-Litem-clause-frame
returns-in-Litem-clause-frame g c =
    let ns = c.args.level.source.nodes.now in
    let ps = phrases_below ns c.args.id in
    subst (λ (p : Phrase). OnOk c.write_local_item.result (c.write_local_item.new.frame ≡ after_row (plain_statement p ps) c.args.frame.now)) (sym (c.in-Some.ensures.said ∙ c.in-Litem.ensures.said)) c.write_local_item.ensures.frame
