use Rattle.std.proofs.Common.{◌≡◌, ◌∙◌, OnOk, sym, ap, subst, arith}
use Rattle.ppd_parse.specs.declared.token.Kind.{Kind}
use Rattle.ppd_check_names.proofs.Declared.Costs.{ok_any}
use Rattle.ppd_check_names.specs.Nodes.{phrases_below}
use Rattle.ppd_check_stmts.specs.Plain.{plain_word}
use Rattle.ppd_check_stmts.specs.Statements.{after_row}
use Rattle.ppd_check_stmts.specs.Writing.{WroteRow}
use Rattle.ppd_check_stmts.proofs.Rows.Worded.{word_other}
use Rattle.ppd_check_stmts.proofs.Table.Writing.{wrote_nothing}
use Rattle.ppd_check_stmts.proofs.words.write_word.Goals as goal

pub returns-in_default : goal.returns-in_default
returns-in_default g c =
    let ps = phrases_below c.args.level.source.nodes.now c.args.id in
    let e = sym (word_other c.kind_at.result ps c.in_default.not-ReturnWord c.in_default.not-TakeWord c.in_default.not-GiveWord c.in_default.not-SendWord c.in_default.not-PrintWord c.in_default.not-AssertWord) ∙ ap (λ k. plain_word k ps) c.kind_at.ensures in
    record {
      wrote = subst (λ r. WroteRow c.args.level.site r c.args.frame.now c.args.out.now.table c.args.out.now.table c.args.out.now.row c.args.out.now.row) e (wrote_nothing c.args.level.site.body c.args.level.site.parent c.args.out.now.table c.args.out.now.row);
      frame = ap (λ r. after_row r c.args.frame.now) e;
      cost = omega arith;
    }

pub returns-in-ReturnWord-clause-wrote : goal.returns-in-ReturnWord-clause-wrote
returns-in-ReturnWord-clause-wrote g c =
    let ps = phrases_below c.args.level.source.nodes.now c.args.id in
    subst (λ (k : Kind). OnOk c.write_returned.result (WroteRow c.args.level.site (plain_word k ps) c.args.frame.now c.args.out.now.table c.write_returned.new.out.table c.args.out.now.row c.write_returned.new.out.row)) c.in-ReturnWord.ensures c.write_returned.ensures.wrote

pub returns-in-ReturnWord-clause-frame : goal.returns-in-ReturnWord-clause-frame
returns-in-ReturnWord-clause-frame g c =
    let ps = phrases_below c.args.level.source.nodes.now c.args.id in
    subst (λ (k : Kind). OnOk c.write_returned.result (c.write_returned.new.frame ≡ after_row (plain_word k ps) c.args.frame.now)) c.in-ReturnWord.ensures c.write_returned.ensures.frame

pub returns-in-TakeWord-clause-wrote : goal.returns-in-TakeWord-clause-wrote
returns-in-TakeWord-clause-wrote g c =
    let ps = phrases_below c.args.level.source.nodes.now c.args.id in
    subst (λ (k : Kind). OnOk c.write_signal.result (WroteRow c.args.level.site (plain_word k ps) c.args.frame.now c.args.out.now.table c.write_signal.new.out.table c.args.out.now.row c.write_signal.new.out.row)) c.in-TakeWord.ensures c.write_signal.ensures.wrote

pub returns-in-TakeWord-clause-frame : goal.returns-in-TakeWord-clause-frame
returns-in-TakeWord-clause-frame g c =
    let ps = phrases_below c.args.level.source.nodes.now c.args.id in
    ok_any c.write_signal.result _ (ap (λ (k : Kind). after_row (plain_word k ps) c.args.frame.now) c.in-TakeWord.ensures)

pub returns-in-GiveWord-clause-wrote : goal.returns-in-GiveWord-clause-wrote
returns-in-GiveWord-clause-wrote g c =
    let ps = phrases_below c.args.level.source.nodes.now c.args.id in
    subst (λ (k : Kind). OnOk c.write_signal-in-GiveWord.result (WroteRow c.args.level.site (plain_word k ps) c.args.frame.now c.args.out.now.table c.write_signal-in-GiveWord.new.out.table c.args.out.now.row c.write_signal-in-GiveWord.new.out.row)) c.in-GiveWord.ensures c.write_signal-in-GiveWord.ensures.wrote

pub returns-in-GiveWord-clause-frame : goal.returns-in-GiveWord-clause-frame
returns-in-GiveWord-clause-frame g c =
    let ps = phrases_below c.args.level.source.nodes.now c.args.id in
    ok_any c.write_signal-in-GiveWord.result _ (ap (λ (k : Kind). after_row (plain_word k ps) c.args.frame.now) c.in-GiveWord.ensures)

pub returns-in-SendWord-clause-wrote : goal.returns-in-SendWord-clause-wrote
returns-in-SendWord-clause-wrote g c =
    let ps = phrases_below c.args.level.source.nodes.now c.args.id in
    subst (λ (k : Kind). OnOk c.write_send.result (WroteRow c.args.level.site (plain_word k ps) c.args.frame.now c.args.out.now.table c.write_send.new.out.table c.args.out.now.row c.write_send.new.out.row)) c.in-SendWord.ensures c.write_send.ensures.wrote

pub returns-in-SendWord-clause-frame : goal.returns-in-SendWord-clause-frame
returns-in-SendWord-clause-frame g c =
    let ps = phrases_below c.args.level.source.nodes.now c.args.id in
    ok_any c.write_send.result _ (ap (λ (k : Kind). after_row (plain_word k ps) c.args.frame.now) c.in-SendWord.ensures)

pub returns-in-PrintWord-clause-wrote : goal.returns-in-PrintWord-clause-wrote
returns-in-PrintWord-clause-wrote g c =
    let ps = phrases_below c.args.level.source.nodes.now c.args.id in
    subst (λ (k : Kind). OnOk c.write_shown.result (WroteRow c.args.level.site (plain_word k ps) c.args.frame.now c.args.out.now.table c.write_shown.new.out.table c.args.out.now.row c.write_shown.new.out.row)) c.in-PrintWord.ensures c.write_shown.ensures.wrote

pub returns-in-PrintWord-clause-frame : goal.returns-in-PrintWord-clause-frame
returns-in-PrintWord-clause-frame g c =
    let ps = phrases_below c.args.level.source.nodes.now c.args.id in
    ok_any c.write_shown.result _ (ap (λ (k : Kind). after_row (plain_word k ps) c.args.frame.now) c.in-PrintWord.ensures)

pub returns-in-AssertWord-clause-wrote : goal.returns-in-AssertWord-clause-wrote
returns-in-AssertWord-clause-wrote g c =
    let ps = phrases_below c.args.level.source.nodes.now c.args.id in
    subst (λ (k : Kind). OnOk c.write_shown-in-AssertWord.result (WroteRow c.args.level.site (plain_word k ps) c.args.frame.now c.args.out.now.table c.write_shown-in-AssertWord.new.out.table c.args.out.now.row c.write_shown-in-AssertWord.new.out.row)) c.in-AssertWord.ensures c.write_shown-in-AssertWord.ensures.wrote

pub returns-in-AssertWord-clause-frame : goal.returns-in-AssertWord-clause-frame
returns-in-AssertWord-clause-frame g c =
    let ps = phrases_below c.args.level.source.nodes.now c.args.id in
    ok_any c.write_shown-in-AssertWord.result _ (ap (λ (k : Kind). after_row (plain_word k ps) c.args.frame.now) c.in-AssertWord.ensures)
