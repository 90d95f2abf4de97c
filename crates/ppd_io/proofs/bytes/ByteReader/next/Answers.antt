use Rattle.std.proofs.lemmas.Grind.{common_steps}
use Rattle.std.proofs.Common.{rules, ◌≡◌, [], refl, arith}
use Rattle.ppd_io.proofs.Lining.{of_error, on_error, took_none}
use Rattle.ppd_io.proofs.bytes.ByteReader.next.Goals as goal

pub returns-then-not-is_empty-clause-byte : goal.returns-then-not-is_empty-clause-byte
returns-then-not-is_empty-clause-byte g c = took_none _ _ _ _ refl c.take_held.ensures.byte

pub returns-then-not-is_empty-clause-quiet : goal.returns-then-not-is_empty-clause-quiet
returns-then-not-is_empty-clause-quiet g c = λ some. (refl, c.take_held.ensures.byte)

pub returns-in_err-refill-clause-byte : goal.returns-in_err-refill-clause-byte
returns-in_err-refill-clause-byte g c = of_error c.from_residual.result _ c.from_residual.ensures.0

pub returns-in_err-refill-clause-err : goal.returns-in_err-refill-clause-err
returns-in_err-refill-clause-err g c =
    let none : c.args.self.now ≡ [] = search rules in
    on_error c.from_residual.result (took_none _ _ _ _ c.in_err-refill.ensures.err.1 none, c.in_err-refill.ensures.err.0)

pub returns-in_err-refill-clause-cause : goal.returns-in_err-refill-clause-cause
returns-in_err-refill-clause-cause g c =
    record { later = c.in_err-refill.ensures.cause.later; failed = on_error c.from_residual.result c.in_err-refill.ensures.cause.failed }

pub returns-in_err-refill-clause-quiet : goal.returns-in_err-refill-clause-quiet
returns-in_err-refill-clause-quiet g c = λ some.
    let none : c.args.self.now ≡ [] = search rules in
    absurd (some none)

pub branch-refill-requires : goal.branch-refill-requires
branch-refill-requires g c = search rules depth 1 fits 30

pub from_residual-requires : goal.from_residual-requires
from_residual-requires g c = search rules depth 1 fits 30

pub is_empty-requires : goal.is_empty-requires
is_empty-requires g c = search rules depth 1 fits 30

pub refill-requires : goal.refill-requires
refill-requires g c = search rules depth 1 fits 30

pub returns : goal.returns
returns g c = search rules depth 1 fits 30

pub returns-in_err-refill-clause-few : goal.returns-in_err-refill-clause-few
returns-in_err-refill-clause-few g c = search rules depth 1 fits 30

pub returns-in_err-refill-clause-last : goal.returns-in_err-refill-clause-last
returns-in_err-refill-clause-last g c = search rules depth 1 fits 30

pub returns-then-branch : goal.returns-then-branch
returns-then-branch g c = grind (arith, common_steps) steps 250000

pub returns-then-not-is_empty-clause-cause : goal.returns-then-not-is_empty-clause-cause
returns-then-not-is_empty-clause-cause g c = search rules depth 1 fits 30

pub returns-then-not-is_empty-clause-err : goal.returns-then-not-is_empty-clause-err
returns-then-not-is_empty-clause-err g c = search rules depth 1 fits 30

pub returns-then-not-is_empty-clause-few : goal.returns-then-not-is_empty-clause-few
returns-then-not-is_empty-clause-few g c = search rules depth 1 fits 30

pub returns-then-not-is_empty-clause-last : goal.returns-then-not-is_empty-clause-last
returns-then-not-is_empty-clause-last g c = search rules depth 1 fits 30

pub take_held-requires : goal.take_held-requires
take_held-requires g c = search rules depth 1 fits 30

pub take_held-requires-then-branch : goal.take_held-requires-then-branch
take_held-requires-then-branch g c = search rules depth 1 fits 30
