use Rattle.std.proofs.Common.{◌≡◌, ◌++◌, List, ap, subst, ◌∙◌}
use Rattle.std.specs.Prelude.{OnOk}
use Rattle.ppd_sem.specs.declared.event.Access.{Access}
use Rattle.ppd_sem.specs.Reads.{reads_of_all}
use Rattle.ppd_sem.proofs.Arguments.{others, reads_more, reads_none}
use Rattle.ppd_sem.proofs.reading.+push_all.Goals as goal

pub push_reads-requires-clause-at_in : goal.push_reads-requires-clause-at_in
push_reads-requires-clause-at_in t c = (c.requires.uses 0 0 c.in-len1-up.len_at_least).there

pub push_reads-requires-clause-within : goal.push_reads-requires-clause-within
push_reads-requires-clause-within t c = (c.requires.uses 0 0 c.in-len1-up.len_at_least).within

pub ask-requires-clause-at_in : goal.ask-requires-clause-at_in
ask-requires-clause-at_in t c = (c.requires.uses 0 0 c.in-len1-up.len_at_least).there

pub ask-requires-clause-within : goal.ask-requires-clause-within
ask-requires-clause-within t c = (c.requires.uses 0 0 c.in-len1-up.len_at_least).within

pub returns-in-Ok : goal.returns-in-Ok
returns-in-Ok t c =
    let others_read : List Access = reads_of_all c.args.frame c.args.exprs.now (others c.args.arguments.now) c.args.cells.now c.in-Ok.left.now in
    subst (λ (l : List Access). OnOk c.push_all.result (c.push_all.new.reads ≡ l))
    (ap (λ l. l ++ others_read) c.in_ok-push_reads-in-len1-up.ensures
    ∙ reads_more c.args.exprs.now c.args.arguments.now c.args.cells.now c.args.answers.now c.in-len1-up.len_at_least c.args.frame c.args.reads.now _ c.in-Ok.left.now c.in-Ok.ensures.ok)
    c.push_all.ensures

pub returns-in-Err : goal.returns-in-Err
returns-in-Err t c =
    c.in_ok-push_reads-in-len1-up.ensures
    ∙ reads_none c.args.exprs.now c.args.arguments.now c.args.cells.now c.args.answers.now c.in-len1-up.len_at_least c.args.frame c.args.reads.now c.in-Err.field-0 c.in-Err.ensures.err
