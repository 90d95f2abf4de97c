use Rattle.test_valid.proofs.cells.do_cover.Goals as goal

pub returns-then-are_within : goal.returns-then-are_within
returns-then-are_within c =
    (λ h. record { once = c.is_each_held_once.ensures.0 h; within = c.are_within.ensures.0 c.if-are_within.true }, λ h. c.is_each_held_once.ensures.1 h.once)
