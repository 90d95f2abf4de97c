use Rattle.std.proofs.Common.{rules, ◌<◌, ◌≤◌, length, map, ap, sym, ◌∙◌, arith}
use Rattle.std.proofs.lemmas.List.{length-map}
use Rattle.ppd_model.proofs.Lists.{change_past}
use Rattle.ppd_rerun_ran.specs.Holding.{Holding, hold_step}
use Rattle.ppd_rerun_ran.specs.Seeing.{seen}
use Rattle.ppd_rerun_guide.proofs.Guides.{map_set, ok_then}
use Rattle.ppd_rerun_ran.proofs.ran.hold.Goals as goal

pub returns-then-place-len : goal.returns-then-place-len
returns-then-place-len c =
    let over : length c.args.held.now.items ≤ c.args.place = search rules in
    let n : length (map seen c.args.held.now.items) ≤ c.args.place = omega (arith, length-map c.args.held.now.items seen) in
    sym (change_past (λ (x : Holding). hold_step c.args.setting.now.program.now c.args.setting.now.plan.now c.args.proc.now x c.args.taken.now) c.args.place (map seen c.args.held.now.items) n)

pub returns : goal.returns
returns c =
    let lt : c.args.place < length c.args.held.now.items = search rules in
    ok_then c.step.result
    (λ e. map_set seen (λ (x : Holding). hold_step c.args.setting.now.program.now c.args.setting.now.plan.now c.args.proc.now x c.args.taken.now)
    c.args.held.now.items c.args.place c.index_mut.result.now c.step.new.self lt
    (e ∙ ap (λ x. hold_step c.args.setting.now.program.now c.args.setting.now.plan.now c.args.proc.now (seen x) c.args.taken.now) c.index_mut.ensures.value))
    c.step.ensures
