use Rattle.std.proofs.Common.{rules, ◌≤◌, ◌++◌, ◌∷◌, [], length, sym, arith}
use Rattle.std.proofs.lemmas.Grind.{common_steps}
use Rattle.ppd_trace.proofs.tellers.push_step.Goals as goal
use Rattle.ppd_model.proofs.Lists.{change_past, set_is_change}

pub returns-then-process-len-clause-value : goal.returns-then-process-len-clause-value
returns-then-process-len-clause-value g c =
    let past : length c.args.lists.now.items ≤ c.args.process = search rules in
    sym (change_past (λ xs. xs ++ c.args.taken ∷ []) c.args.process c.args.lists.now.items past)

pub returns-clause-value : goal.returns-clause-value
returns-clause-value g c = grind (arith, common_steps, set_is_change)
