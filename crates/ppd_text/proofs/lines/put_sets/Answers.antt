use Rattle.ppd_text.proofs.Sets.{used_there, defined_there, sets_written}
use Rattle.ppd_text.proofs.lines.put_sets.Goals as goal

pub used-requires : goal.used-requires
used-requires c = used_there c.args.program.now c.args.sets.now c.args.number c.requires.sets c.requires.there

pub defined-requires : goal.defined-requires
defined-requires c = defined_there c.args.program.now c.args.sets.now c.args.number c.requires.sets c.requires.there

pub returns : goal.returns
returns c = sets_written c.args.program.now c.args.sets.now c.args.number c.requires.sets c.requires.there c.as_slice-vars.result.now c.used.result.now c.defined.result.now c.args.text.now.items c.put_uses.new.text.items
    c.as_slice-vars.ensures c.used.ensures c.defined.ensures c.in_ok-put_uses.ensures
