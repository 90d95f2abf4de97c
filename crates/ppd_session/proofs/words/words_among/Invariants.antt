use Rattle.std.proofs.Common.{◌≡◌, map, take}
use Rattle.std.specs.Prelude.{filter}
use Rattle.ppd_session.specs.Questions.{is_word}
use Rattle.ppd_session.proofs.words.words_among.Given as goal

abbrev pub invariant-loop-part : goal.invariant-loop-part
invariant-loop-part l = map (λ w. w.now) l.words.items ≡ filter is_word (map (λ w. w.now) (take l.part-index l.parts))
