use Rattle.ppd_emul.proofs.stepping.read.Goals as goal

pub take_step-requires-clause-code : goal.take_step-requires-clause-code
take_step-requires-clause-code g c = c.requires.sound

pub take_step-requires-clause-state : goal.take_step-requires-clause-state
take_step-requires-clause-state g c = c.requires.going

pub take_step-requires-clause-few : goal.take_step-requires-clause-few
take_step-requires-clause-few g c = c.requires.few

pub take_step-requires-clause-need : goal.take_step-requires-clause-need
take_step-requires-clause-need g c = c.requires.need
