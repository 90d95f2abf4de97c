use Rattle.std.proofs.Common.{rules, ◌≤◌, length, map, sym, drop, arith}
use Rattle.std.proofs.lemmas.Grind.{common_steps}
use Rattle.std.proofs.lemmas.List.{length-map}
use Rattle.ppd_model.proofs.Lists.{change_past}
use Rattle.ppd_rerun_guide.specs.Guides.{left_of}
use Rattle.ppd_rerun_guide.proofs.Guides.{map_set}
use Rattle.ppd_rerun_guide.proofs.guide.pass.Goals as goal

pub returns-then-process-len : goal.returns-then-process-len
returns-then-process-len c = grind (arith, common_steps, map_set left_of (drop 1))

pub returns-else-process-len : goal.returns-else-process-len
returns-else-process-len c =
    let past : length c.args.dues.now.items ≤ c.args.process = search rules in
    let n : length (map left_of c.args.dues.now.items) ≤ c.args.process = omega (arith, length-map c.args.dues.now.items left_of) in
    sym (change_past (drop 1) c.args.process (map left_of c.args.dues.now.items) n)
