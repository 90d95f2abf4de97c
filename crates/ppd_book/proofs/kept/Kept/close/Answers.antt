use Rattle.ppd_book.proofs.Turns.{handed_out}
use Rattle.ppd_book.proofs.kept.Kept.close.Goals as goal

pub returns-in-Ok-clause-none_left : goal.returns-in-Ok-clause-none_left
returns-in-Ok-clause-none_left g c =
    let taken = c.in-Ok.ensures.taken in
    handed_out c.args.self c.take_rest.new.self taken.0 c.hand_out.result taken.1 taken.2 c.hand_out.ensures.schedule
