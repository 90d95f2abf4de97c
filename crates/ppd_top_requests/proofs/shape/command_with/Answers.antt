use Rattle.std.proofs.Common.{List, [], ap, ◌∙◌, arith, rules, take_all}
use Rattle.std.specs.Borrow.{Bor}
use Rattle.ppd_top_requests.specs.GivenWords.{Text, texts}
use Rattle.ppd_top_requests.specs.Shape.{app_with}
use Rattle.ppd_top_requests.proofs.Fit.{step_names, step_options}
use Rattle.ppd_top_requests.proofs.shape.command_with.Goals as goal

pub loop-long-init : goal.loop-long-init
loop-long-init c = search rules depth 1 fits 30

pub loop-long-preserved : goal.loop-long-preserved
loop-long-preserved c = step_options c.args.title.now c.args.longs.now c.loop-long.long-index _ _ _ c.loop-long-test.true c.loop-long.invariant c.in_ok-command.ensures

pub loop-name-init : goal.loop-name-init
loop-name-init c = c.loop-long.invariant ∙ ap (λ (xs : List (Bor Text)). app_with c.args.title.now (texts xs) []) (take_all c.loop-long.long-index c.args.longs.now (omega (arith, c.loop-long-test.false)))

pub loop-name-preserved : goal.loop-name-preserved
loop-name-preserved c = step_names c.args.title.now (texts c.args.longs.now) c.args.names.now c.loop-name.name-index _ _ _ c.loop-name-test.true c.loop-name.invariant c.in_ok-command-2.ensures

pub returns : goal.returns
returns c = c.loop-name.invariant ∙ ap (λ (xs : List (Bor Text)). app_with c.args.title.now (texts c.args.longs.now) (texts xs)) (take_all c.loop-name.name-index c.args.names.now (omega (arith, c.loop-name-test.false)))
