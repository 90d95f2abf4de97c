use Rattle.std.proofs.Common.{◌∙◌, sym, refl, ap, is_some, arith, rules}
use Rattle.ppd_check_names.proofs.Found.Lookup.{declare_new}
use Rattle.ppd_check_names.proofs.scopes.declare_in.Goals as goal
use Rattle.std.proofs.lemmas.Grind.{common_steps, elements}

pub returns-clause-ok : goal.returns-clause-ok
returns-clause-ok g c =
    declare_new _ (λ a b. refl) c.args.scope.now c.insert.new.self c.in_ok-key.key c.args.name.now c.args.meaning c.in_ok-key.ensures.items
    (sym (c.is_some.ensures ∙ ap is_some c.found_in.ensures) ∙ c.if-is_some.false)
    c.in_ok-insert.ensures.entries

pub found_in-requires : goal.found_in-requires
found_in-requires c = omega arith

pub returns-in_err-insert : goal.returns-in_err-insert
returns-in_err-insert c = grind (arith, elements) steps 250000

pub returns-in_err-key : goal.returns-in_err-key
returns-in_err-key c = grind (arith, common_steps) steps 250000

pub returns-then-is_some : goal.returns-then-is_some
returns-then-is_some c = search rules depth 1 fits 30
