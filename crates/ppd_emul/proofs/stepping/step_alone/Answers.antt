use Rattle.std.proofs.Common.{◌≡◌, subst, true}
use Rattle.ppd_sem.specs.Described.{is_event}
use Rattle.ppd_sem.specs.declared.proc.Need.{Need}
use Rattle.ppd_emul.proofs.stepping.step_alone.Goals as goal

pub add_event-requires-clause-code : goal.add_event-requires-clause-code
add_event-requires-clause-code g c = c.requires.next.sound

pub add_event-requires-clause-proc : goal.add_event-requires-clause-proc
add_event-requires-clause-proc g c = c.requires.next.going.running

pub add_event-requires-clause-event : goal.add_event-requires-clause-event
add_event-requires-clause-event g c = subst (λ (n : Need). is_event n ≡ true) c.requires.next.need c.requires.event

pub take_step-requires-clause-code : goal.take_step-requires-clause-code
take_step-requires-clause-code g c = c.requires.next.sound
